use Rattle.std.proofs.Common.{[], ◌∷◌}
use Rattle.tinyjson.proofs.Callers.{begins, ends, fails, goes}
use Rattle.tinyjson_lines.proofs.line.write_line.Goals as goal

pub returns-in_err-write_to : goal.returns-in_err-write_to
returns-in_err-write_to g c = fails _ (10 ∷ []) c.from_residual.ensures.0 c.in_err-write_to.ensures begins

pub returns : goal.returns
returns g c = ends _ _ _ _ _ c.write_all.result c.write_all.ensures (goes (10 ∷ []) c.in_ok-write_to.ensures begins)
