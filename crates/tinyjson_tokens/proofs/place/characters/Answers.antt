use Rattle.std.proofs.Common.{arith}
use Rattle.std.proofs.lemmas.List.Sums.{count_by-le-length}
use Rattle.std.specs.Fmt.{is_char_start}
use Rattle.tinyjson_tokens.proofs.Places.{count_on}
use Rattle.tinyjson_tokens.proofs.place.characters.Goals as goal

pub overflow_add-count : goal.overflow_add-count
overflow_add-count c =
    let bytes = c.args.bytes.now in
    let l = c.loop-i in
    omega (arith, count_on is_char_start bytes l.i l.count _ c.starts.ensures l.invariant.0, count_by-le-length is_char_start bytes)

pub loop-i-preserved : goal.loop-i-preserved
loop-i-preserved c =
    let l = c.loop-i in
    (count_on is_char_start c.args.bytes.now l.i l.count _ c.starts.ensures l.invariant.0, omega arith)
