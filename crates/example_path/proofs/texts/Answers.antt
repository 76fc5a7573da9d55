use Rattle.std.proofs.Common.{Some}
use Rattle.tinyjson.proofs.Callers.{accepted_text}
use Rattle.tinyjson.specs.Words.{chars, view}
use Rattle.tinyjson_path.proofs.Callers.{judged_right}
use Rattle.tinyjson_path.specs.Patterns.{judged}
use Rattle.example_path.proofs.texts.Goals as goal

pub returns-in-Ok-texts-clause-ok : goal.returns-in-Ok-texts-clause-ok
returns-in-Ok-texts-clause-ok c =
    let value = c.in-Ok-from_str_with_depth_limit.value in record {
      tree = view value;
      is_text = accepted_text (Some 100) (chars c.args.document.now) value c.in-Ok-from_str_with_depth_limit.ensures;
      path = c.in-Ok.query;
      reads = c.in-Ok.ensures;
      judge = judged;
      right = judged_right;
      same = c.in-Ok-texts.ensures.ok;
    }
