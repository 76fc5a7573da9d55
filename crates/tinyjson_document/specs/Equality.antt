-- What `==` of two places in documents returns: whether their trees are equal.
use Rattle.std.specs.Prelude.{Bool}
use Rattle.std.specs.Cmp.{IsEquivalence, decided}
use Rattle.std.proofs.lemmas.Cmp.{on_equiv}
use Rattle.tinyjson.specs.Equality.{tree_eq, tree_eq_Decides}
use Rattle.tinyjson_document.specs.Document.{tree}
use Rattle.tinyjson_document.specs.declared.node.Node.{Node}

abbrev pub same_tree : Node → Node → Bool
same_tree n m = tree_eq (tree n) (tree m)

pub same_tree_equiv : IsEquivalence same_tree
same_tree_equiv = on_equiv tree (decided tree_eq tree_eq_Decides)
