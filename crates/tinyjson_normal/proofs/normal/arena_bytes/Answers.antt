use Rattle.std.proofs.Common.{append-nil}
use Rattle.tinyjson.proofs.Callers.{written_all}
use Rattle.tinyjson_grammar.specs.Text.{compact}
use Rattle.tinyjson_output.proofs.Callers.{enc}
use Rattle.tinyjson_normal.proofs.normal.arena_bytes.Goals as goal

pub returns-in-Ok : goal.returns-in-Ok
returns-in-Ok c = λ t h.
    written_all _ (enc (compact t)) (rw append-nil at (rw c.new-bytes.ensures.items at (c.in-Ok.ensures t h)))
