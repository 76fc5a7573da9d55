-- What the loop over the members of the new object leaves.
use Rattle.std.proofs.Common.{◌≡◌, Option, Some, None, option_map, length, sym, ap, ◌∙◌, subst}
use Rattle.tinyjson.proofs.Callers.{members_view_IsSorted, view_Object}
use Rattle.tinyjson.specs.Access.{JsonMap}
use Rattle.tinyjson.specs.Tree.{Tree, object, Members, no_members}
use Rattle.tinyjson.specs.View.{view, members_view}
use Rattle.tinyjson.specs.declared.value.JsonValue.TheVariants as made
use Rattle.tinyjson_document.specs.Parts.{members_in}
use Rattle.tinyjson_view.specs.Views.{tree_of}
use Rattle.tinyjson_view.specs.declared.view.ValueView.{ValueView}
use Rattle.tinyjson_diff.proofs.Changing.{AreChanged, changed_ends}
use Rattle.tinyjson_diff.proofs.Objects.{object_changed, object_same}
use Rattle.tinyjson_diff.proofs.Values.{empty_members, no_entries, old_is, sorted_members, sorted_old}
use Rattle.tinyjson_diff.specs.Changes.{IsChange, members_had, object_members}

module _ (o : Option Tree) (b : Option ValueView) (new : ValueView) (rest : Members) (m : JsonMap)
    (is : option_map (λ v. members_in (tree_of v)) b ≡ object_members o) (whole : tree_of new ≡ object (members_in (tree_of new)))
    (inv : AreChanged (members_had b) (members_in (tree_of new)) (members_view m.entries) rest) (none : rest ≡ no_members) where
  abbrev ns : Members
  ns = members_in (tree_of new)

  pub ends_some : (length m.entries ≡ 0 → object_members o ≡ None) → IsChange o (Some (tree_of new)) (Some (view (made.Object m)))
  ends_some some =
      subst (λ x. IsChange o (Some x) (Some (view (made.Object m)))) (sym whole)
      (subst (λ p. IsChange o (Some (object ns)) (Some p)) (sym (view_Object m))
      (object_changed o (members_had b) ns (members_view m.entries) (old_is b o is) (sorted_old b)
      (sorted_members new) (members_view_IsSorted m.entries) (changed_ends (members_had b) ns (members_view m.entries) rest inv none)
      (λ h. some (no_entries m.entries h))))

  pub ends_same : {x : ValueView} → b ≡ Some x → length m.entries ≡ 0 → IsChange o (Some (tree_of new)) None
  ends_same {x} at empty =
      subst (λ y. IsChange o (Some y) None) (sym whole)
      (object_same o (members_had b) ns (members_view m.entries) (old_is b o is) (sorted_old b)
      (sorted_members new) (members_view_IsSorted m.entries) (changed_ends (members_had b) ns (members_view m.entries) rest inv none)
      (members_in (tree_of x)) (sym is ∙ ap (option_map (λ v. members_in (tree_of v))) at) (empty_members m.entries empty))
