-- For proofs of callers: trees that a value may have, and the members of a tree put in turn, which are in the order of their keys.
use Rattle.tinyjson_grammar.specs.Soundness.{IsTree}
use Rattle.tinyjson_grammar.specs.Tree.{object}
use Rattle.tinyjson_document.specs.Document.{tree, members_left}
use Rattle.tinyjson_document.specs.declared.node.Node.{Node}
use Rattle.tinyjson_document.specs.declared.iterators.Members.{Members}
pub use Rattle.tinyjson_document.proofs.Replaying.{ok_map, put_sorted}

pub node_sound : (n : Node) → ∥ IsTree (tree n) ∥₁
node_sound n = n.known.sound

pub members_sound : (ms : Members) → ∥ IsTree (object (members_left ms)) ∥₁
members_sound ms = ms.known.sound
