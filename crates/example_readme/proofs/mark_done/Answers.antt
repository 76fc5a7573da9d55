use Rattle.std.proofs.Common.{◌≡◌, ℕ, true, List, Some, None, codes, refl, sym, ap, ◌∙◌}
use Rattle.tinyjson.proofs.Callers.{accepted_text, chars_literal, object_tree, object_from_tree, view_Object, view_Boolean}
use Rattle.tinyjson.specs.Access.{JsonMap, object_part}
use Rattle.tinyjson.specs.View.{members_view}
use Rattle.tinyjson.specs.Words.{Tree, object, boolean, chars, compact, text, view, put, with_tree_at_key}
use Rattle.tinyjson.specs.declared.value.JsonValue.{JsonValue}
use Rattle.tinyjson.specs.declared.value.JsonValue.TheVariants as made
use Rattle.example_readme.proofs.mark_done.Goals as goal
use Rattle.example_readme.proofs.mark_done.Goals.{in-Some+in_ok-to_string+in_ok-insert_member, in_default}

-- an object gets the member
module _ (v b : JsonValue) (m n : JsonMap) (k : List ℕ) (is : b ≡ made.Boolean true) (key : k ≡ codes "done") where
  same_member : put k (view b) (members_view m.entries) ≡ put (codes "done") (boolean true) (members_view m.entries)
  same_member =
      ap (λ x. put x (view b) (members_view m.entries)) key
      ∙ ap (λ u. put (codes "done") u (members_view m.entries)) (ap view is ∙ view_Boolean true)

  is_put : object_part v ≡ Some m → members_view n.entries ≡ put k (view b) (members_view m.entries)
      → view (made.Object n) ≡ with_tree_at_key (view v) (codes "done") (boolean true)
  is_put held there =
      view_Object n
      ∙ (ap object (there ∙ same_member)
      ∙ ap (λ t. with_tree_at_key t (codes "done") (boolean true)) (sym (object_tree v m held)))

-- another value stays
stays : (v : JsonValue) (t : Tree) (k : List ℕ) (u : Tree) → view v ≡ t → object_part v ≡ None → t ≡ with_tree_at_key t k u
stays v (object ms) k u e h = let f = object_from_tree v ms e in cc
stays v _ k u e h = refl

pub returns-clause-ok : goal.returns-clause-ok
returns-clause-ok c =
    let v = c.in_ok-value.value in
    let marked : view c.match-get_mut.value ≡ with_tree_at_key (view v) (codes "done") (boolean true) = elim c.match-get_mut.branch [
      | in-Some+in_ok-to_string+in_ok-insert_member w ↦
          let key = ap chars w.in_ok-to_string.ensures.ok ∙ chars_literal (codes "done") refl in
          let s = text w.in_ok-to_string.field-0 in
          let put_in = is_put v w.from.result w.in-Some.members.now w.insert_member.new.members s w.from.ensures key in
          ap view w.value-is ∙ put_in (sym w.in-Some.ensures.value) w.in_ok-insert_member.ensures.ok
      | in_default w ↦ ap view w.value-is ∙ stays v (view v) (codes "done") (boolean true) refl (sym w.in_default.ensures.value)
    ] in
    (view v, accepted_text (Some 100) (chars c.args.task.now) v c.in_ok-value.ensures, c.in_ok-stringify.ensures ∙ ap compact marked)
