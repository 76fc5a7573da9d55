-- The schemas that a schema is found to apply are those that it applies.
use Rattle.std.proofs.Common.{◌≡◌, ◌∷◌, [], ◌++◌, ℕ, zero, suc, ◌<◌, ◌+◌, Bool, true, false, not, cond, map, List}
use Rattle.std.proofs.Common.{Option, Some, None, bytes_eq, refl, sym, ap, ◌∙◌, subst, arith, is_some, length, get_or}
use Rattle.std.proofs.lemmas.Slice.Eq.{bytes_eq-Decides}
use Rattle.std.specs.List.{AllByRecursion}
use Rattle.std.specs.Option.{option_map_or}
use Rattle.std.specs.Prelude.{⊤}
use Rattle.text_iregexp.specs.PatternDeciding.{is_found}
use Rattle.tinyjson.specs.Index.{nth, tree_at_key}
use Rattle.tinyjson.specs.Numeral.{power_width}
use Rattle.tinyjson.specs.Tree.{Tree, array, object, Items, no_items, item, Members, no_members, member, find}
use Rattle.tinyjson.specs.View.{view}
use Rattle.tinyjson.specs.declared.value.JsonValue.{JsonValue}
use Rattle.tinyjson.proofs.Callers.{find_below, found_first, some_none, view_IsTree}
use Rattle.tinyjson_view.proofs.Callers.{sorted_in, value_sound}
use Rattle.tinyjson_view.specs.Views.{tree_of}
use Rattle.tinyjson_view.specs.declared.view.ValueView.{ValueView}
use Rattle.tinyjson.specs.Soundness.{IsTree, IsSorted, AreMembersAt}
use Rattle.tinyjson_schema.specs.Applicators.{Judge}
use Rattle.tinyjson_schema.specs.Deep.{Descends, DescendsIn, root_tree}
use Rattle.tinyjson_schema.specs.Evaluated.{Answers, Child, member_at, item_at, others_evaluate}
use Rattle.tinyjson_schema.specs.Every.{Use, all_uses, uses_at, branch_uses, dependent_uses, found_uses, pattern_uses, target_uses}
use Rattle.tinyjson_schema.specs.Every.{uses_of_member, member_uses, uses_of_item, item_uses, left_members, left_items, uses}
use Rattle.tinyjson_schema.specs.Nested.{Applies, by_list, by_branch, by_key, by_reference, by_pattern, by_member, by_item, by_rest}
use Rattle.tinyjson_schema.specs.Nested.{Nests, within, is_reference}
use Rattle.tinyjson_schema.specs.Parts.{property, additional, prefix_item, member_schema, item_schema, or_else}
use Rattle.tinyjson_schema.specs.Steps.{AreApplied, use_of}
use Rattle.tinyjson_schema.specs.declared.validate.pending.Pending.{Pending}
use Rattle.tinyjson_schema.specs.declared.walk.Walk.{Walk}
use Rattle.tinyjson_schema_keywords.specs.Applied.{schema_at, schemas_at, schema_map_at, items_in, members_in, branch}
use Rattle.tinyjson_schema_keywords.specs.Names.{name}
use Rattle.tinyjson_schema_keywords.specs.References.{referenced}
use Rattle.tinyjson_schema_keywords.specs.declared.keyword.Keyword.{Keyword}
use Rattle.tinyjson_schema_keywords.specs.declared.keyword.Keyword.TheVariants as kw

-- ---- the members of an object, in the order of their keys

-- each of the members is found at its key in all of them
abbrev AreFound : Members → Members → Type 0
AreFound all no_members = ⊤
AreFound all (member k u ms) = (find k all ≡ Some u) × AreFound all ms

later : (k l : List ℕ) (u v : Tree) (ms : Members) → IsSorted (member k u ms) → find l ms ≡ Some v → find l (member k u ms) ≡ Some v
later k l u v ms s h = by (bytes_eq l k) refl
  where
    by : (b : Bool) → bytes_eq l k ≡ b → cond b (Some u) (find l ms) ≡ Some v
    by true e =
        let same : l ≡ k = (bytes_eq-Decides l k).0 e in
        absurd (some_none v (sym h ∙ (ap (λ z. find z ms) same ∙ find_below k ms s.0 s.1)))
    by false e = h

found_in : (all ms : Members) → IsSorted ms → ((k : List ℕ) (u : Tree) → find k ms ≡ Some u → find k all ≡ Some u) → AreFound all ms
found_in all no_members s h = tt
found_in all (member k u ms) s h =
    (h k u (found_first k u ms), found_in all ms s.1 (λ l v e. h l v (later k l u v ms s e)))

all_found : (ms : Members) → IsSorted ms → AreFound ms ms
all_found ms s = found_in ms ms s (λ k u h. h)

member_sound : (ms : Members) (k : List ℕ) (u : Tree) → AreMembersAt power_width ms → find k ms ≡ Some u → IsTree u
member_sound no_members k u a h = absurd (some_none u (sym h))
member_sound (member l v ms) k u a h = by (bytes_eq k l) h (member_sound ms k u a.2)
  where
    by : (b : Bool) → cond b (Some v) (find k ms) ≡ Some u → (find k ms ≡ Some u → IsTree u) → IsTree u
    by true e more = let same : v ≡ u = cc in subst IsTree same a.1
    by false e more = more e

key_sound : (s : Tree) (k : List ℕ) (u : Tree) → IsTree s → tree_at_key s k ≡ Some u → IsTree u
key_sound (object ms) k u g h = member_sound ms k u g.0 h
key_sound _ k u g h = absurd (some_none u (sym h))

members_sorted : (t : Tree) → IsTree t → IsSorted (members_in t)
members_sorted (object ms) g = g.1
members_sorted _ g = tt

map_found : (s : Tree) (k : Keyword) → IsTree s → AreFound (schema_map_at s k) (schema_map_at s k)
map_found s k g = all_found (schema_map_at s k) (by (schema_at s k) (λ u h. key_sound s (name k) u g h))
  where
    by : (o : Option Tree) → ((u : Tree) → o ≡ Some u → IsTree u) → IsSorted (option_map_or members_in o no_members)
    by None h = tt
    by (Some u) h = members_sorted u (h u refl)

-- ---- lists

both : (P : Use → Type 0) (xs ys : List Use) → AllByRecursion P xs → AllByRecursion P ys → AllByRecursion P (xs ++ ys)
both P [] ys g h = h
both P (x ∷ xs) ys g h = (g.0, both P xs ys g.1 h)

one_if : (P : Use → Type 0) (b : Bool) (x : Use) → (b ≡ true → P x) → AllByRecursion P (cond b (x ∷ []) [])
one_if P true x h = (h refl, tt)
one_if P false x h = tt

of_option : (P : Use → Type 0) (o : Option Tree) (f : Tree → Use) → ((r : Tree) → o ≡ Some r → P (f r))
    → AllByRecursion P (option_map_or (λ r. f r ∷ []) o [])
of_option P None f h = tt
of_option P (Some r) f h = (h r refl, tt)

of_two : (P : Use → Type 0) (o p : Option Tree) (f e : Tree → Use) → ((r : Tree) → or_else o p ≡ Some r → P (f r))
    → ((r : Tree) → or_else o p ≡ Some r → P (e r)) → AllByRecursion P
    (option_map_or (λ r. f r ∷ []) o (option_map_or (λ r. e r ∷ []) p []))
of_two P None p f e g h = of_option P p e h
of_two P (Some r) p f e g h = (g r refl, tt)

-- ---- what is applied

first_at : (us : Items) (i : ℕ) (u : Tree) → nth us (0 + i) ≡ Some u → nth us i ≡ Some u
first_at us i u h = subst (λ n. nth us n ≡ Some u) (omega arith) h

module _ (root s t : Tree) (g : IsTree s) (h : IsSorted (members_in t)) where
  abbrev IsApplied : Use → Type 0
  IsApplied u = Applies root s t u.schema u.value

  of_all : (i : ℕ) (rs : Items) → ((j : ℕ) (r : Tree) → nth rs j ≡ Some r → Applies root s t r t) → AllByRecursion IsApplied
      (all_uses i rs t)
  of_all i no_items a = tt
  of_all i (item r rs) a = (a 0 r refl, of_all (suc i) rs (λ j q e. a (suc j) q e))

  of_branch : (f : Judge) (o : Option Tree) → schema_at s kw.If ≡ o
      → AllByRecursion IsApplied (option_map_or (λ r. uses_at (branch (f r t)) s t) o [])
  of_branch f None e = tt
  of_branch f (Some c) e =
      of_option IsApplied (schema_at s (branch (f c t))) _ (λ r k. by_branch (f c t) (ap is_some e) k)

  of_dependents : (rs : Members) → AreFound (schema_map_at s kw.DependentSchemas) rs → AllByRecursion IsApplied (dependent_uses rs t)
  of_dependents no_members a = tt
  of_dependents (member k r rs) a =
      both IsApplied (cond (is_some (tree_at_key t k)) (_ ∷ []) []) (dependent_uses rs t)
      (one_if IsApplied (is_some (tree_at_key t k)) _ (λ e. by_key k e a.0)) (of_dependents rs a.1)

  of_found : (p : List ℕ) (r : Tree) → find p (schema_map_at s kw.PatternProperties) ≡ Some r → (ms : Members)
      → AreFound (members_in t) ms → AllByRecursion IsApplied (found_uses p r ms)
  of_found p r e no_members a = tt
  of_found p r e (member k u ms) a =
      both IsApplied (cond (is_found p k) (_ ∷ []) []) (found_uses p r ms)
      (one_if IsApplied (is_found p k) _ (λ f. by_pattern p k e f a.0)) (of_found p r e ms a.1)

  of_patterns : (rs ms : Members) → AreFound (schema_map_at s kw.PatternProperties) rs → AreFound (members_in t) ms
      → AllByRecursion IsApplied (pattern_uses rs ms)
  of_patterns no_members ms a b = tt
  of_patterns (member p r rs) ms a b =
      both IsApplied (found_uses p r ms) (pattern_uses rs ms) (of_found p r a.0 ms b) (of_patterns rs ms a.1 b)

  of_target : (k : Keyword) → is_reference k ≡ true → AllByRecursion IsApplied (target_uses root k s t)
  of_target k is = of_option IsApplied (referenced root k s) _ (λ r e. by_reference k is e)

  of_members : (ms : Members) → AreFound (members_in t) ms → AllByRecursion IsApplied (member_uses s ms)
  of_members no_members a = tt
  of_members (member k u ms) a =
      both IsApplied (uses_of_member s k u) (member_uses s ms)
      (of_two IsApplied (property s k) (additional s k) _ _ (λ r e. by_member k e a.0) (λ r e. by_member k e a.0))
      (of_members ms a.1)

  of_items : (i : ℕ) (us : Items) → ((j : ℕ) (u : Tree) → nth us j ≡ Some u → nth (items_in t) (j + i) ≡ Some u)
      → AllByRecursion IsApplied (item_uses s i us)
  of_items i no_items a = tt
  of_items i (item u us) a =
      both IsApplied (uses_of_item s i u) (item_uses s (suc i) us)
      (of_two IsApplied (prefix_item s i) (schema_at s kw.Items) _ _ (λ r e. by_item i e (first_at (items_in t) i u (a 0 u refl)))
      (λ r e. by_item i e (first_at (items_in t) i u (a 0 u refl))))
      (of_items (suc i) us (λ j v e. subst (λ n. nth (items_in t) n ≡ Some v) (omega arith) (a (suc j) v e)))

  module _ (q : Child → Bool) (r : Tree) where
    of_left_members : schema_at s kw.UnevaluatedProperties ≡ Some r → (ms : Members) → AreFound (members_in t) ms
        → AllByRecursion IsApplied (left_members q r ms)
    of_left_members e no_members a = tt
    of_left_members e (member k u ms) a =
        both IsApplied (cond (not (q (member_at k u))) (_ ∷ []) []) (left_members q r ms)
        (one_if IsApplied (not (q (member_at k u))) _ (λ f. by_rest (member_at k u) e a.0)) (of_left_members e ms a.1)

    of_left_items : schema_at s kw.UnevaluatedItems ≡ Some r → (i : ℕ) (us : Items)
        → ((j : ℕ) (u : Tree) → nth us j ≡ Some u → nth (items_in t) (j + i) ≡ Some u) → AllByRecursion IsApplied (left_items q r i us)
    of_left_items e i no_items a = tt
    of_left_items e i (item u us) a =
        both IsApplied (cond (not (q (item_at i u))) (_ ∷ []) []) (left_items q r (suc i) us)
        (one_if IsApplied (not (q (item_at i u))) _ (λ f. by_rest (item_at i u) e (first_at (items_in t) i u (a 0 u refl))))
        (of_left_items e (suc i) us (λ j v k. subst (λ n. nth (items_in t) n ≡ Some v) (omega arith) (a (suc j) v k)))

  of_rest_members : (q : Child → Bool) (o : Option Tree) → schema_at s kw.UnevaluatedProperties ≡ o
      → AllByRecursion IsApplied (option_map_or (λ r. left_members q r (members_in t)) o [])
  of_rest_members q None e = tt
  of_rest_members q (Some r) e = of_left_members q r e (members_in t) (all_found (members_in t) h)

  here : (j : ℕ) (u : Tree) → nth (items_in t) j ≡ Some u → nth (items_in t) (j + 0) ≡ Some u
  here j u e = subst (λ n. nth (items_in t) n ≡ Some u) (omega arith) e

  of_rest_items : (q : Child → Bool) (o : Option Tree) → schema_at s kw.UnevaluatedItems ≡ o
      → AllByRecursion IsApplied (option_map_or (λ r. left_items q r 0 (items_in t)) o [])
  of_rest_items q None e = tt
  of_rest_items q (Some r) e = of_left_items q r e 0 (items_in t) here

  pub uses_applied : (a : Answers) → AreApplied root s t (uses root a s t)
  uses_applied a =
      let q = others_evaluate root a s t in
      let found = all_found (members_in t) h in
      both IsApplied _ _ (of_all 0 (schemas_at s kw.AllOf) (λ j r e. by_list kw.AllOf j refl e))
      (both IsApplied _ _ (of_branch a.accepts (schema_at s kw.If) refl)
      (both IsApplied _ _ (of_dependents (schema_map_at s kw.DependentSchemas) (map_found s kw.DependentSchemas g))
      (both IsApplied _ _ (of_patterns (schema_map_at s kw.PatternProperties) (members_in t) (map_found s kw.PatternProperties g) found)
      (both IsApplied _ _ (of_target kw.Ref refl) (both IsApplied _ _ (of_target kw.DynamicRef refl)
      (both IsApplied _ _ (of_members (members_in t) found) (both IsApplied _ _ (of_items 0 (items_in t) here)
      (both IsApplied _ _ (of_rest_members q (schema_at s kw.UnevaluatedProperties) refl)
      (of_rest_items q (schema_at s kw.UnevaluatedItems) refl)))))))))

-- the same of a schema and a value that are there
pub applied_by : (root : Tree) (s : JsonValue) (v : ValueView) (a : Answers)
    → AreApplied root (view s) (tree_of v) (uses root a (view s) (tree_of v))
applied_by root s v a = uses_applied root (view s) (tree_of v) (view_IsTree s) (sorted_in (tree_of v) (value_sound v)) a

-- one of those that wait is applied
pub pending_applied : (root s t : Tree) (ps : List Pending) (i : ℕ) (p : Pending) → AreApplied root s t (map use_of ps) → i < length ps
    → p ≡ get_or ps i p → Applies root s t (use_of p).schema (use_of p).value
pending_applied root s t [] i p a h e = absurd (omega arith)
pending_applied root s t (q ∷ ps) zero p a h e =
    subst (λ (x : Pending). Applies root s t (use_of x).schema (use_of x).value) (sym e) a.0
pending_applied root s t (q ∷ ps) (suc i) p a h e = pending_applied root s t ps i p a.1 (omega arith) e
