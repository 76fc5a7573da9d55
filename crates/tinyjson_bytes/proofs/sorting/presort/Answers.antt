use Rattle.std.proofs.Common.{length-take, arith}
use Rattle.tinyjson_bytes.proofs.sorting.presort.Goals as goal

pub slice_bounds-is_run-end-then-members-gt-FEW : goal.slice_bounds-is_run-end-then-members-gt-FEW
slice_bounds-is_run-end-then-members-gt-FEW g c = omega (arith, length-take 32 c.args.members.now, c.if-members-gt-FEW.true)
