use Rattle.std.proofs.Common.{◌≡◌}
use Rattle.tinyjson_document.specs.Document.{members_left}
use Rattle.tinyjson_view.proofs.Filling.{members_before}
use Rattle.tinyjson_view.proofs.parts.named_nodes.Given as goal

abbrev pub invariant-loop-key : goal.invariant-loop-key
invariant-loop-key l = members_before l.listed.items (members_left l.key-iterator) ≡ members_left l.members
