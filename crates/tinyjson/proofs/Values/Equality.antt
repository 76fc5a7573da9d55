-- What `==` returns on texts, items and members, against the test of their trees.
use Rattle.std.proofs.Common.{◌≡◌, Bool, String, Global, sym, ap, ◌∙◌}
use Rattle.std.specs.String.{string_eq}
use Rattle.tinyjson.proofs.Values.Entries.{text_eq}
use Rattle.tinyjson.proofs.Values.View.{view_String}
use Rattle.tinyjson_grammar.specs.Tree.{Tree}
use Rattle.tinyjson.specs.Equality.{tree_eq, same_tree}
use Rattle.tinyjson.specs.View.{view}
use Rattle.tinyjson.specs.declared.value.JsonValue.{JsonValue}
use Rattle.tinyjson.specs.declared.value.JsonValue.TheVariants as is

module _ (v w : JsonValue) (r : Bool) where
  at_trees : (t u : Tree) → view v ≡ t → view w ≡ u → r ≡ tree_eq t u → r ≡ same_tree v w
  at_trees t u p q e = e ∙ λ i. tree_eq (sym p i) (sym q i)

  pub same_strings : (a b : String Global) → v ≡ is.String a → w ≡ is.String b → r ≡ string_eq a b → r ≡ same_tree v w
  same_strings a b p q e = at_trees _ _ (ap view p ∙ view_String a) (ap view q ∙ view_String b) (e ∙ sym (text_eq a b))
