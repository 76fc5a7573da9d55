-- Each violation stands at a part of the value.
use Rattle.std.proofs.Common.{◌≡◌, ◌∷◌, [], ◌++◌, ℕ, zero, suc, ◌+◌, Bool, true, false, not, cond, map, take, List}
use Rattle.std.proofs.Common.{Option, Some, None, IsSome, bytes_eq, refl, sym, ap, ◌∙◌, subst, arith, is_some}
use Rattle.std.proofs.lemmas.List.Elements.{All-from_recursion, All-take, All-weaker, recursion_from_All}
use Rattle.std.proofs.lemmas.Slice.Eq.{bytes_eq-Decides}
use Rattle.std.specs.List.{All, AllByRecursion}
use Rattle.std.specs.Option.{option_map_or}
use Rattle.std.specs.Prelude.{⊤, option_and_then}
use mathlib.Core.Bool.{Bool-set}
use mathlib.Core.Logic.{∥∥₁_elim}
use Rattle.tinyjson.specs.Index.{nth, tree_at_key}
use Rattle.tinyjson.specs.Numeral.{power_width}
use Rattle.tinyjson.specs.Tree.{Tree, array, object, Items, no_items, item, Members, no_members, member, find}
use Rattle.tinyjson_grammar.proofs.Callers.{find_below, found_first, some_none}
use Rattle.tinyjson_grammar.specs.Soundness.{IsTree, IsSorted, AreItemsAt, AreMembersAt}
use Rattle.tinyjson_pointer.specs.Index.{index_of}
use Rattle.tinyjson_pointer.specs.Tokens.{tokens_of}
use Rattle.tinyjson_pointer.specs.Walk.{step, part_at, item_of}
use Rattle.tinyjson_schema.specs.Applicators.{Judge}
use Rattle.tinyjson_schema.specs.Evaluated.{Answers, Child, member_at, item_at, others_evaluate}
use Rattle.tinyjson_schema.specs.Every.{Token, key, index, token, Spot, spot_of, here, at_keyword, Use, same, within}
use Rattle.tinyjson_schema.specs.Every.{all_uses, uses_at, branch_uses, dependent_uses, found_uses, pattern_uses, target_uses}
use Rattle.tinyjson_schema.specs.Every.{uses_of_member, member_uses, uses_of_item, item_uses, left_members, left_items, uses}
use Rattle.tinyjson_schema.specs.Every.{own, under, spread, every, AreFirst}
use Rattle.tinyjson_schema.specs.Parts.{property, additional, prefix_item}
use Rattle.tinyjson_schema.specs.Valid.{Root, judge, answers, refuses_all}
use Rattle.tinyjson_schema.specs.declared.violation.Violation.{Violation}
use Rattle.tinyjson_schema_keywords.specs.Applied.{schema_at, schemas_at, schema_map_at, items_in, members_in, branch}
use Rattle.tinyjson_schema_keywords.specs.References.{referenced}
use Rattle.tinyjson_schema_keywords.specs.declared.keyword.Keyword.{Keyword}
use Rattle.tinyjson_schema_keywords.specs.declared.keyword.Keyword.TheVariants as kw
use Rattle.tinyjson_schema_report.proofs.Naming.{one_token}
use Rattle.tinyjson_view.proofs.Callers.{value_sound}
use Rattle.tinyjson_view.specs.Views.{tree_of}
use Rattle.tinyjson_view.specs.declared.view.ValueView.{ValueView}

-- ---- tokens

token_index : (k : List ℕ) (i : ℕ) → token k ≡ index i → index_of k ≡ Some i
token_index k i h = by (index_of k) refl h
  where
    by : (o : Option ℕ) → index_of k ≡ o → option_map_or index o (key k) ≡ index i → index_of k ≡ Some i
    by (Some j) e g = let same : j ≡ i = cc in e ∙ ap Some same
    by None e g = absurd cc

same_token : (k l : List ℕ) → token k ≡ token l → k ≡ l
same_token k l h = by (index_of k) (index_of l) refl refl h
  where
    by : (o p : Option ℕ) → index_of k ≡ o → index_of l ≡ p → option_map_or index o (key k) ≡ option_map_or index p (key l) → k ≡ l
    by (Some i) (Some j) e f g = let same : i ≡ j = cc in one_token k l j (e ∙ ap Some same) f
    by (Some i) None e f g = absurd cc
    by None (Some j) e f g = absurd cc
    by None None e f g = cc

-- ---- tokens that lead to a part

-- they do, whatever texts they have
abbrev pub IsThere : Tree → List Token → Type 0
IsThere t js = (ks : List (List ℕ)) → map token ks ≡ js → IsSome (part_at t ks)

-- those of a use lead to its value
pub record IsPart (t : Tree) (u : Use) : Type 0 where
  pub sound : IsTree u.value
  pub leads : (ks : List (List ℕ)) → map token ks ≡ u.in_value → part_at t ks ≡ Some u.value

no_tokens : (ks : List (List ℕ)) → map token ks ≡ [] → ks ≡ []
no_tokens [] h = refl
no_tokens (k ∷ ks) h = absurd cc

whole_there : (t : Tree) → IsThere t []
whole_there t ks h = subst (λ js. IsSome (part_at t js)) (sym (no_tokens ks h)) refl

whole_part : (t r : Tree) (js : List Token) → IsTree t → IsPart t (same js r t)
whole_part t r js g = record { sound = g; leads = λ ks h. ap (part_at t) (no_tokens ks h) }

one_step : (t u : Tree) (k : List ℕ) → step t k ≡ Some u → part_at t (k ∷ []) ≡ Some u
one_step t u k h = ap (option_and_then (λ w. Some w)) h

module _ (t u : Tree) (js : List Token) (r : Tree) (g : IsTree u) where
  one_part : (j : Token) → ((k : List ℕ) → token k ≡ j → step t k ≡ Some u) → IsPart t (within js j r u)
  one_part j h = record { sound = g; leads = leads }
    where
      leads : (ks : List (List ℕ)) → map token ks ≡ j ∷ [] → part_at t ks ≡ Some u
      leads [] e = absurd cc
      leads (k ∷ []) e = let first : token k ≡ j = cc in one_step t u k (h k first)
      leads (k ∷ l ∷ ks) e = absurd cc

  member_part : (k : List ℕ) → step t k ≡ Some u → IsPart t (within js (token k) r u)
  member_part k h = one_part (token k) (λ l e. ap (step t) (same_token l k e) ∙ h)

  item_part : (i : ℕ) → ((k : List ℕ) → index_of k ≡ Some i → step t k ≡ Some u) → IsPart t (within js (index i) r u)
  item_part i h = one_part (index i) (λ k e. h k (token_index k i e))

-- ---- tokens one after the other

record Cut (xs js : List Token) (ks : List (List ℕ)) : Type 0 where
  front : List (List ℕ)
  back : List (List ℕ)
  whole : ks ≡ front ++ back
  first : map token front ≡ xs
  rest : map token back ≡ js

cut : (xs js : List Token) (ks : List (List ℕ)) → map token ks ≡ xs ++ js → Cut xs js ks
cut [] js ks h = record { front = []; back = ks; whole = refl; first = refl; rest = h }
cut (x ∷ xs) js [] h = absurd cc
cut (x ∷ xs) js (k ∷ ks) h =
    let first : token k ≡ x = cc in
    let more : map token ks ≡ xs ++ js = cc in
    let c = cut xs js ks more in
    record { front = k ∷ c.front; back = c.back; whole = ap (λ z. k ∷ z) c.whole; first = λ i. first i ∷ c.first i; rest = c.rest }

part_further : (t u : Tree) (ks ls : List (List ℕ)) → part_at t ks ≡ Some u → part_at t (ks ++ ls) ≡ part_at u ls
part_further t u [] ls h = let same : t ≡ u = cc in ap (λ v. part_at v ls) same
part_further t u (k ∷ ks) ls h = by (step t k) (λ v. part_further v u ks ls) h
  where
    by : (o : Option Tree) → ((v : Tree) → part_at v ks ≡ Some u → part_at v (ks ++ ls) ≡ part_at u ls)
        → option_and_then (λ v. part_at v ks) o ≡ Some u → option_and_then (λ v. part_at v (ks ++ ls)) o ≡ part_at u ls
    by None more e = absurd cc
    by (Some v) more e = more v e

further_there : (t : Tree) (u : Use) (js : List Token) → IsPart t u → IsThere u.value js → IsThere t (u.in_value ++ js)
further_there t u js p h ks e =
    let c = cut u.in_value js ks e in
    subst IsSome (sym (ap (part_at t) c.whole ∙ part_further t u.value c.front c.back (p.leads c.front c.first))) (h c.back c.rest)

-- ---- lists

each_both : {X : Type 0} (P : X → Type 0) (xs ys : List X) → AllByRecursion P xs → AllByRecursion P ys → AllByRecursion P (xs ++ ys)
each_both P [] ys g h = h
each_both P (x ∷ xs) ys g h = (g.0, each_both P xs ys g.1 h)

each_if : {X : Type 0} (P : X → Type 0) (b : Bool) (x : X) → P x → AllByRecursion P (cond b (x ∷ []) [])
each_if P true x h = (h, tt)
each_if P false x h = tt

each_cond : {X : Type 0} (P : X → Type 0) (b : Bool) (xs ys : List X) → AllByRecursion P xs → AllByRecursion P ys
    → AllByRecursion P (cond b xs ys)
each_cond P true xs ys g h = g
each_cond P false xs ys g h = h

each_of_all : {X : Type 0} (P : X → Type 0) (xs : List X) → ((x : X) → P x) → AllByRecursion P xs
each_of_all P [] h = tt
each_of_all P (x ∷ xs) h = (h x, each_of_all P xs h)

each_mapped : {X Y : Type 0} (P : Y → Type 0) (Q : X → Type 0) (f : X → Y) (xs : List X) → ((x : X) → Q x → P (f x)) → AllByRecursion Q xs
    → AllByRecursion P (map f xs)
each_mapped P Q f [] h g = tt
each_mapped P Q f (x ∷ xs) h g = (h x g.0, each_mapped P Q f xs h g.1)

each_made : {X Y : Type 0} (P : Y → Type 0) (f : X → Y) (xs : List X) → AllByRecursion P (map f xs) → AllByRecursion (λ x. P (f x)) xs
each_made P f [] h = tt
each_made P f (x ∷ xs) h = (h.0, each_made P f xs h.1)

-- ---- the members and the items of a value

abbrev AreHeld : Tree → Members → Type 0
AreHeld t no_members = ⊤
AreHeld t (member k u ms) = IsTree u × (step t k ≡ Some u) × AreHeld t ms

abbrev AreHeldFrom : Tree → ℕ → Items → Type 0
AreHeldFrom t i no_items = ⊤
AreHeldFrom t i (item u us) = IsTree u × ((k : List ℕ) → index_of k ≡ Some i → step t k ≡ Some u) × AreHeldFrom t (suc i) us

later : (k l : List ℕ) (u v : Tree) (ms : Members) → IsSorted (member k u ms) → find l ms ≡ Some v → find l (member k u ms) ≡ Some v
later k l u v ms s h = by (bytes_eq l k) refl
  where
    by : (b : Bool) → bytes_eq l k ≡ b → cond b (Some u) (find l ms) ≡ Some v
    by true e =
        let same : l ≡ k = (bytes_eq-Decides l k).0 e in
        absurd (some_none v (sym h ∙ (ap (λ z. find z ms) same ∙ find_below k ms s.0 s.1)))
    by false e = h

held : (t : Tree) (ms : Members) → AreMembersAt power_width ms → IsSorted ms
    → ((k : List ℕ) (u : Tree) → find k ms ≡ Some u → step t k ≡ Some u) → AreHeld t ms
held t no_members a s h = tt
held t (member k u ms) a s h =
    (a.1, h k u (found_first k u ms), held t ms a.2 s.1 (λ l v e. h l v (later k l u v ms s e)))

held_from : (t : Tree) (i : ℕ) (us : Items) → AreItemsAt power_width us
    → ((j : ℕ) (u : Tree) → nth us j ≡ Some u → (k : List ℕ) → index_of k ≡ Some (j + i) → step t k ≡ Some u) → AreHeldFrom t i us
held_from t i no_items a h = tt
held_from t i (item u us) a h =
    let more = held_from t (suc i) us a.1 (λ j v e k n. h (suc j) v e k (n ∙ ap Some (omega arith))) in
    (a.0, λ k n. h 0 u refl k (n ∙ ap Some (omega arith)), more)

members_held : (t : Tree) → IsTree t → AreHeld t (members_in t)
members_held (object ms) g = held (object ms) ms g.0 g.1 (λ k u h. h)
members_held _ g = tt

items_held : (t : Tree) → IsTree t → AreHeldFrom t 0 (items_in t)
items_held (array us) g = held_from (array us) 0 us g (λ j u h k n. ap (item_of us) (n ∙ ap Some (omega arith)) ∙ h)
items_held _ g = tt

-- ---- what is applied

abbrev Each : Tree → List Use → Type 0
Each t us = AllByRecursion (IsPart t) us

module _ (t : Tree) where
  both : (us vs : List Use) → Each t us → Each t vs → Each t (us ++ vs)
  both us vs g h = each_both (IsPart t) us vs g h

  of_option : (o : Option Tree) (f : Tree → Use) → ((r : Tree) → IsPart t (f r)) → Each t (option_map_or (λ r. f r ∷ []) o [])
  of_option None f h = tt
  of_option (Some r) f h = (h r, tt)

  of_two : (o p : Option Tree) (f e : Tree → Use) → ((r : Tree) → IsPart t (f r)) → ((r : Tree) → IsPart t (e r))
      → Each t (option_map_or (λ r. f r ∷ []) o (option_map_or (λ r. e r ∷ []) p []))
  of_two None p f e g h = of_option p e h
  of_two (Some r) p f e g h = (g r, tt)

  of_found : (p : List ℕ) (r : Tree) (ms : Members) → AreHeld t ms → Each t (found_uses p r ms)
  of_found p r no_members h = tt
  of_found p r (member k u ms) h =
      both _ _ (each_if (IsPart t) _ _ (member_part t u _ r h.0 k h.1)) (of_found p r ms h.2)

  of_patterns : (rs ms : Members) → AreHeld t ms → Each t (pattern_uses rs ms)
  of_patterns no_members ms h = tt
  of_patterns (member p r rs) ms h = both (found_uses p r ms) (pattern_uses rs ms) (of_found p r ms h) (of_patterns rs ms h)

  of_members : (s : Tree) (ms : Members) → AreHeld t ms → Each t (member_uses s ms)
  of_members s no_members h = tt
  of_members s (member k u ms) h =
      both (uses_of_member s k u) (member_uses s ms)
      (of_two (property s k) (additional s k) _ _ (λ r. member_part t u _ r h.0 k h.1)
      (λ r. member_part t u _ r h.0 k h.1))
      (of_members s ms h.2)

  of_items : (s : Tree) (i : ℕ) (us : Items) → AreHeldFrom t i us → Each t (item_uses s i us)
  of_items s i no_items h = tt
  of_items s i (item u us) h =
      both (uses_of_item s i u) (item_uses s (suc i) us)
      (of_two (prefix_item s i) (schema_at s kw.Items) _ _ (λ r. item_part t u _ r h.0 i h.1) (λ r. item_part t u _ r h.0 i h.1))
      (of_items s (suc i) us h.2)

  module _ (q : Child → Bool) (r : Tree) where
    of_left_members : (ms : Members) → AreHeld t ms → Each t (left_members q r ms)
    of_left_members no_members h = tt
    of_left_members (member k u ms) h =
        both (cond (not (q (member_at k u))) (_ ∷ []) []) (left_members q r ms)
        (each_if (IsPart t) (not (q (member_at k u))) _ (member_part t u _ r h.0 k h.1)) (of_left_members ms h.2)

    of_left_items : (i : ℕ) (us : Items) → AreHeldFrom t i us → Each t (left_items q r i us)
    of_left_items i no_items h = tt
    of_left_items i (item u us) h =
        both (cond (not (q (item_at i u))) (_ ∷ []) []) (left_items q r (suc i) us)
        (each_if (IsPart t) (not (q (item_at i u))) _ (item_part t u _ r h.0 i h.1)) (of_left_items (suc i) us h.2)

  module _ (g : IsTree t) where
    of_all : (i : ℕ) (rs : Items) → Each t (all_uses i rs t)
    of_all i no_items = tt
    of_all i (item r rs) = (whole_part t r _ g, of_all (suc i) rs)

    of_keyword : (k : Keyword) (s : Tree) → Each t (uses_at k s t)
    of_keyword k s = of_option (schema_at s k) _ (λ r. whole_part t r _ g)

    of_branch : (f : Judge) (s : Tree) (o : Option Tree) → Each t (option_map_or (λ r. uses_at (branch (f r t)) s t) o [])
    of_branch f s None = tt
    of_branch f s (Some r) = of_keyword (branch (f r t)) s

    of_dependents : (rs : Members) → Each t (dependent_uses rs t)
    of_dependents no_members = tt
    of_dependents (member k r rs) =
        both (cond (is_some (tree_at_key t k)) (_ ∷ []) []) (dependent_uses rs t)
        (each_if (IsPart t) (is_some (tree_at_key t k)) _ (whole_part t r _ g)) (of_dependents rs)

    of_target : (root s : Tree) (k : Keyword) → Each t (target_uses root k s t)
    of_target root s k = of_option (referenced root k s) _ (λ r. whole_part t r _ g)

    of_rest_members : (q : Child → Bool) (o : Option Tree) → Each t (option_map_or (λ r. left_members q r (members_in t)) o [])
    of_rest_members q None = tt
    of_rest_members q (Some r) = of_left_members q r (members_in t) (members_held t g)

    of_rest_items : (q : Child → Bool) (o : Option Tree) → Each t (option_map_or (λ r. left_items q r 0 (items_in t)) o [])
    of_rest_items q None = tt
    of_rest_items q (Some r) = of_left_items q r 0 (items_in t) (items_held t g)

    of_uses : (root : Tree) (a : Answers) (s : Tree) → Each t (uses root a s t)
    of_uses root a s =
        let q = others_evaluate root a s t in
        both _ _ (of_all 0 (schemas_at s kw.AllOf))
        (both _ _ (of_branch a.accepts s (schema_at s kw.If))
        (both _ _ (of_dependents (schema_map_at s kw.DependentSchemas))
        (both _ _ (of_patterns (schema_map_at s kw.PatternProperties) (members_in t) (members_held t g))
        (both _ _ (of_target root s kw.Ref) (both _ _ (of_target root s kw.DynamicRef)
        (both _ _ (of_members s (members_in t) (members_held t g)) (both _ _ (of_items s 0 (items_in t) (items_held t g))
        (both _ _ (of_rest_members q (schema_at s kw.UnevaluatedProperties))
        (of_rest_items q (schema_at s kw.UnevaluatedItems))))))))))

-- ---- each violation

abbrev IsSpotThere : Tree → Spot → Type 0
IsSpotThere t x = IsThere t x.in_value

of_spread : (f : Use → List Spot) (t : Tree) (us : List Use) → ((u : Use) → IsTree u.value → AllByRecursion (IsSpotThere u.value) (f u))
    → Each t us → AllByRecursion (IsSpotThere t) (spread f us)
of_spread f t [] h g = tt
of_spread f t (u ∷ us) h g =
    each_both (IsSpotThere t) (map (under u) (f u)) (spread f us)
    (each_mapped (IsSpotThere t) (IsSpotThere u.value) (under u) (f u) (λ x e. further_there t u x.in_value g.0 e) (h u g.0.sound))
    (of_spread f t us h g.1)

pub each_at_part : (root : Root) (n : ℕ) (g : Answers) (s t : Tree) → IsTree t → AllByRecursion (IsSpotThere t) (every root n g s t)
each_at_part root zero g s t h = each_cond (IsSpotThere t) (g.accepts s t) [] (here ∷ []) tt (whole_there t, tt)
each_at_part root (suc n) g s t h =
    each_cond (IsSpotThere t) (refuses_all s) (here ∷ []) _ (whole_there t, tt)
    (each_both (IsSpotThere t) (map at_keyword (own root (judge root n g) s t)) _
    (each_mapped (IsSpotThere t) (λ k. ⊤) at_keyword _ (λ k e. whole_there t) (each_of_all (λ k. ⊤) _ (λ k. tt)))
    (of_spread (λ u. every root n g u.schema u.value) t (uses root.tree (answers root n g) s t)
    (λ u e. each_at_part root n g u.schema u.value e) (of_uses t h root.tree (answers root n g) s)))

-- ---- violations that were found

accepting : Answers
accepting = record { accepts = λ s t. true; evaluates = λ s t c. true }

all_at_part : (limit : ℕ) (root : Root) (n : ℕ) (t : Tree) (vs : List Violation) → IsTree t → AreFirst limit root n t vs
    → All (λ v. IsSome (part_at t (tokens_of v.instance_location))) vs
all_at_part limit root n t vs g h =
    let spots = every root n accepting root.tree t in
    let each = All-from_recursion (IsSpotThere t) spots (each_at_part root n accepting root.tree t g) in
    let first = All-take (IsSpotThere t) limit spots each in
    let found = subst (All (IsSpotThere t)) (sym (h accepting)) first in
    let made = each_made (IsSpotThere t) spot_of vs (recursion_from_All (IsSpotThere t) (map spot_of vs) found) in
    All-weaker (λ v. IsSpotThere t (spot_of v)) (λ v. IsSome (part_at t (tokens_of v.instance_location)))
    (λ v e. e (tokens_of v.instance_location) refl) vs (All-from_recursion (λ v. IsSpotThere t (spot_of v)) vs made)

-- each of the first violations by a value stands at a part of it
pub first_at_parts : (limit : ℕ) (root : Root) (n : ℕ) (t : Tree) (v : ValueView) (vs : List Violation) → tree_of v ≡ t
    → AreFirst limit root n t vs → All (λ x. IsSome (part_at t (tokens_of x.instance_location))) vs
first_at_parts limit root n t v vs e h =
    let sound = subst (λ u. ∥ IsTree u ∥₁) e (value_sound v) in
    λ k d l. ∥∥₁_elim sound (Bool-set _ _) (λ g. all_at_part limit root n t vs g h k d l)

pub all_made : {X Y : Type 0} (P : Y → Type 0) (f : X → Y) (xs : List X) → All P (map f xs) → All (λ x. P (f x)) xs
all_made P f xs h = All-from_recursion (λ x. P (f x)) xs (each_made P f xs (recursion_from_All P (map f xs) h))
