use Rattle.std.proofs.Common.{[], ◌∷◌}
use Rattle.tinyjson.proofs.Callers.{begins, ends, fails, goes}
use Rattle.tinyjson_patch.proofs.edit.text.write_key.Goals as goal

pub returns-in_err-write_quoted : goal.returns-in_err-write_quoted
returns-in_err-write_quoted g c = fails _ (58 ∷ []) c.from_residual.ensures.0 c.in_err-write_quoted.ensures begins

pub returns : goal.returns
returns g c = ends _ _ _ _ _ c.write_all.result c.write_all.ensures (goes (58 ∷ []) c.in_ok-write_quoted.ensures begins)
