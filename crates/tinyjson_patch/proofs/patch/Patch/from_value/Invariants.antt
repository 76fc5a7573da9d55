use Rattle.std.proofs.Common.{map}
use Rattle.tinyjson.specs.View.{items_view}
use Rattle.tinyjson_patch.specs.Operation.{action_of}
use Rattle.tinyjson_patch.proofs.Documents.{AreFirst}
use Rattle.tinyjson_patch.proofs.patch.Patch.from_value.Given as goal

abbrev pub invariant-loop-number : goal.invariant-loop-number
invariant-loop-number l = AreFirst (items_view l.item-items) l.number (map action_of l.operations.items)
