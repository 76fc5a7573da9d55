use Rattle.std.proofs.Common.{arith}
use Rattle.tinyjson_output.proofs.Callers.{all_plain}
use Rattle.tinyjson_normal.proofs.Compacting.{plain_quoted, on_ok}
use Rattle.tinyjson_normal.proofs.compact.push_quoted.Goals as goal

pub returns : goal.returns
returns c =
    let b = c.as_bytes-bytes.result.now in
    let plain = all_plain b c.plain_end.result c.plain_end.ensures.end (omega arith) in
    on_ok c.append_quoted.result (plain_quoted c.args.text.now.items c.append_quoted.new.text.items c.args.value.now b c.args.behind
    c.utf8.value c.as_bytes-bytes.ensures.value plain) c.append_quoted.ensures
