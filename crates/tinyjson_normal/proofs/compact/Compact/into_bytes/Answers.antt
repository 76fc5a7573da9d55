use Rattle.tinyjson_grammar.specs.Text.{compact}
use Rattle.tinyjson_output.proofs.Callers.{enc}
use Rattle.tinyjson_normal.proofs.compact.Compact.into_bytes.Goals as goal

pub returns : goal.returns
returns c = λ t h. c.cut_comma.ensures (enc (compact t)) h
