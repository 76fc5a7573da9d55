-- A member that is taken out and put back, and the `$id` of a schema.
use Rattle.std.proofs.Common.{◌≡◌, ◌∙◌, ℕ, List, Bool, true, false, cond, bytes_eq, [], Some, None, refl, sym, ap, ap₂}
use Rattle.tinyjson.proofs.Callers.{find_put, find_remove, members_from_find, sorted_put, sorted_remove, view_Object}
use Rattle.tinyjson.specs.Access.{JsonMap}
use Rattle.tinyjson.specs.Soundness.{IsSorted, IsTree}
use Rattle.tinyjson.specs.Tree.{Tree, boolean, object, Members, no_members, put, remove, find}
use Rattle.tinyjson.specs.View.{view, members_view}
use Rattle.tinyjson.specs.declared.value.JsonValue.TheVariants as made
use Rattle.tinyjson_schema_keywords.specs.Names.{name}
use Rattle.tinyjson_schema_keywords.specs.declared.keyword.Keyword.TheVariants as kw
use Rattle.tinyjson_schema_drafts.specs.Documents.{with_member, as_object, without_definitions}

module _ (k : List ℕ) (t : Tree) (ms : Members) (s : IsSorted ms) where
  found : (q : List ℕ) → find q (put k t (remove k ms)) ≡ find q (put k t ms)
  found q = find_put q k t (remove k ms) ∙ (ap (cond (bytes_eq q k) (Some t)) (find_remove q k ms)
      ∙ (again (bytes_eq q k) ∙ sym (find_put q k t ms)))
    where
      again : (b : Bool) → cond b (Some t) (cond b None (find q ms)) ≡ cond b (Some t) (find q ms)
      again true = refl
      again false = refl

  pub put_removed : put k t (remove k ms) ≡ put k t ms
  put_removed = members_from_find (put k t (remove k ms)) (put k t ms) (sorted_put k t (remove k ms) (sorted_remove k ms s))
      (sorted_put k t ms s) found

-- the schema that accepts nothing, made of two empty maps
pub none_accepted : (m n : JsonMap) (k : List ℕ) → m.entries ≡ [] → n.entries ≡ [] → k ≡ name kw.Not
    → with_member k (view (made.Object m)) (view (made.Object n)) ≡ as_object (boolean false)
none_accepted m n k e f g =
    let empty : (l : JsonMap) → l.entries ≡ [] → view (made.Object l) ≡ object no_members =
    λ l h. view_Object l ∙ ap (λ es. object (members_view es)) h in
    ap (λ j. with_member j (view (made.Object m)) (view (made.Object n))) g
    ∙ ap₂ (with_member (name kw.Not)) (empty m e) (empty n f)

-- the `$defs` of a schema are taken out, and others put in their place
pub definitions_put : (s w : Tree) → IsTree s → with_member (name kw.Defs) w (without_definitions s) ≡ with_member (name kw.Defs) w s
definitions_put (object ms) w h = ap object (put_removed (name kw.Defs) w ms h.1)
definitions_put _ w h = refl
