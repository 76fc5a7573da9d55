use Rattle.std.proofs.Common.{◌≡◌, drop}
use Rattle.tinyjson.specs.View.{members_listed}
use Rattle.tinyjson_view.proofs.Filling.{members_before}
use Rattle.tinyjson_view.proofs.parts.named_values.Given as goal

abbrev pub invariant-loop-key : goal.invariant-loop-key
invariant-loop-key l = members_before l.listed.items (members_listed (drop l.key-index l.members)) ≡ members_listed l.members
