use Rattle.std.proofs.Common.{length}
use Rattle.tinyjson_pointer.specs.Tokens.{tokens_of}
use Rattle.tinyjson_patch.proofs.Turns.{Remains}
use Rattle.tinyjson_patch.proofs.run.apply_among.Given as goal

abbrev pub invariant-loop-operation : goal.invariant-loop-operation
invariant-loop-operation l = Remains l.total l.operations l.rest (tokens_of l.place) l.fn.items.items l.items.items

abbrev pub decreases-loop-operation : goal.decreases-loop-operation
decreases-loop-operation l = length l.rest
