use Rattle.tinyjson_output.proofs.Callers.{begins, ends, fails, goes}
use Rattle.tinyjson_normal.proofs.normal.write_both.Goals as goal

pub returns-in_err-write_all : goal.returns-in_err-write_all
returns-in_err-write_all g c = fails _ c.args.behind.now c.from_residual.ensures.0 c.in_err-write_all.ensures begins

pub returns : goal.returns
returns g c = ends _ _ _ _ _ c.write_all-2.result c.write_all-2.ensures (goes c.args.behind.now c.in_ok-write_all.ensures begins)
