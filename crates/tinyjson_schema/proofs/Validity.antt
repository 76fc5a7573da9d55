-- Values that are valid, and places that are not.
use Rattle.std.proofs.Common.{◌≡◌, ◌∷◌, [], ℕ, zero, suc, ◌+◌, Bool, true, false, true≢false}
use Rattle.std.proofs.Common.{not, ◌&&◌, ◌||◌, List, Option, Some, None}
use Rattle.std.proofs.Common.{IsSome, IsSomeAnd, is_some, cond, bytes_eq, Result, Ok, Err, refl, sym, ap, ◌∙◌, subst, arith}
use Rattle.std.proofs.lemmas.Bool.{and_parts}
use Rattle.std.proofs.lemmas.Slice.Eq.{bytes_eq-Decides}
use Rattle.std.specs.Option.{option_map_or}
use Rattle.std.specs.Prelude.{option_and_then, IfOk, MatchResult}
use Rattle.tinyjson.specs.Index.{tree_at_key, nth}
use Rattle.tinyjson.specs.Tree.{Tree, array, object, Items, no_items, item, Members, no_members, member, find}
use Rattle.tinyjson.specs.View.{view}
use Rattle.tinyjson_pointer.specs.Index.{index_of}
use Rattle.tinyjson_pointer.specs.Tokens.{tokens_of}
use Rattle.tinyjson_pointer.specs.Walk.{step, part_at, item_of}
use Rattle.text_iregexp.specs.PatternDeciding.{is_found}
use Rattle.tinyjson_schema_keywords.specs.Applied.{schema_at, schemas_at, schema_map_at, branch, members_in}
use Rattle.tinyjson_schema_keywords.specs.Names.{name}
use Rattle.tinyjson_schema_keywords.specs.References.{referenced}
use Rattle.tinyjson_schema_keywords.specs.declared.keyword.Keyword.{Keyword}
use Rattle.tinyjson_schema_keywords.specs.declared.keyword.Keyword.TheVariants as kw
use Rattle.tinyjson_schema.specs.declared.walk.CheckError.{CheckError}
use Rattle.tinyjson_schema.proofs.Deep.{not_deep}
use Rattle.tinyjson_schema.specs.Applicators.{Judge, all_accept, branch_accepts, dependents_accept, applies, apply_all, counts, tests}
use Rattle.tinyjson_schema.specs.Applicators.{demands, member_accepted, members_accepted, item_accepted, items_accepted, found_pass}
use Rattle.tinyjson_schema.specs.Applicators.{patterns_accept, parts_accepted}
use Rattle.tinyjson_schema.specs.Evaluated.{Child, member_at, item_at, value_of, IsChild, Answers, rest_keyword, others_evaluate}
use Rattle.tinyjson_schema.specs.Evaluated.{rest_accepts, rest_accepted, members_pass, items_pass, children_pass}
use Rattle.tinyjson_schema_assertions.specs.Assertions.{meets_all, assertions}
use Rattle.tinyjson_schema.specs.Deep.{IsDeep, IsShallow}
use Rattle.tinyjson_schema.specs.Nested.{is_reference}
use Rattle.tinyjson_schema.specs.Parts.{item_schema, part_schema}
use Rattle.tinyjson_schema.specs.Places.{IsAt}
use Rattle.tinyjson_schema.specs.Valid.{target_accepts, refuses_all, judge, reference_accepts, accepts_by, Root, IsValidIn}
use Rattle.tinyjson_schema.specs.Valid.{MeetsRules, IsInvalidAt, ValidatesIn, by_rules, answers, answers_in, root_of, FindsRest, in_rest}
use Rattle.tinyjson_schema.specs.Valid.{AgreesIn, says}
use Rattle.tinyjson_schema.specs.Valid.{Follows, Decides, Judges, Finds, IsUnapplied, refused, unmet, not_applied, in_all_of, in_branch}
use Rattle.tinyjson_schema.specs.Valid.{in_dependent, in_patterned, in_reference, in_part}
use Rattle.tinyjson_schema.specs.Walks.{IsDeeper}
use Rattle.tinyjson_schema.specs.declared.violation.Violation.{Violation}
use Rattle.tinyjson_schema.specs.declared.walk.Walk.{Walk}

pub flipped : (b c : Bool) → c ≡ not b → b ≡ not c
flipped true c h = ap not (sym h)
flipped false c h = ap not (sym h)

-- ---- what a valid value meets

pub record IsMet (root : Root) (a : Answers) (s t : Tree) : Type 0 where
  pub accepted : refuses_all s ≡ false
  pub asserted : meets_all (assertions root.formats) s t ≡ true
  pub tested : apply_all a.accepts tests s t ≡ true
  pub demanded : apply_all a.accepts demands s t ≡ true
  pub referred : reference_accepts root.tree a.accepts s t ≡ true
  pub parts : parts_accepted a.accepts s t ≡ true
  pub rest : rest_accepted root.tree a s t ≡ true

not_true : (b : Bool) → not b ≡ true → b ≡ false
not_true true h = cc
not_true false h = refl

met : (root : Root) (a : Answers) (s t : Tree) → accepts_by root a s t ≡ true → IsMet root a s t
met root f s t h =
    let a = and_parts _ _ h in
    let b = and_parts _ _ a.1 in
    let c = and_parts _ _ b.1 in
    let d = and_parts _ _ c.1 in
    let e = and_parts _ _ d.1 in
    let l = and_parts _ _ e.1 in
    record {
      accepted = not_true _ a.0;
      asserted = b.0;
      tested = c.0;
      demanded = d.0;
      referred = e.0;
      parts = l.0;
      rest = l.1;
    }

pub valid_from : (root : Root) (a : Answers) (s t : Tree) → IsMet root a s t → accepts_by root a s t ≡ true
valid_from root a s t m = λ i. not (m.accepted i) && (m.asserted i && (m.tested i && (m.demanded i && (m.referred i
    && (m.parts i && m.rest i)))))

-- each keyword that applies schemas is met
module _ (f : Judge) (s t : Tree) where
  first_met : (k : Keyword) (ks : List Keyword) → apply_all f (k ∷ ks) s t ≡ true → applies f k s t ≡ true
  first_met k ks h = (and_parts (applies f k s t) (apply_all f ks s t) h).0

  rest_met : (k : Keyword) (ks : List Keyword) → apply_all f (k ∷ ks) s t ≡ true → apply_all f ks s t ≡ true
  rest_met k ks h = (and_parts (applies f k s t) (apply_all f ks s t) h).1

abbrev from_names : List Keyword
from_names = kw.PropertyNames ∷ counts

abbrev from_not : List Keyword
from_not = kw.Not ∷ from_names

abbrev from_one_of : List Keyword
from_one_of = kw.OneOf ∷ from_not

abbrev from_max_contains : List Keyword
from_max_contains = kw.MaxContains ∷ kw.MinContains ∷ []

abbrev from_dependents : List Keyword
from_dependents = kw.DependentSchemas ∷ kw.PatternProperties ∷ []

abbrev from_if : List Keyword
from_if = kw.If ∷ from_dependents

after_any_of : (root : Root) (a : Answers) (s t : Tree) → IsMet root a s t → apply_all a.accepts from_one_of s t ≡ true
after_any_of root a s t m = rest_met a.accepts s t kw.AnyOf from_one_of m.tested

after_one_of : (root : Root) (a : Answers) (s t : Tree) → IsMet root a s t → apply_all a.accepts from_not s t ≡ true
after_one_of root a s t m = rest_met a.accepts s t kw.OneOf from_not (after_any_of root a s t m)

after_not : (root : Root) (a : Answers) (s t : Tree) → IsMet root a s t → apply_all a.accepts from_names s t ≡ true
after_not root a s t m = rest_met a.accepts s t kw.Not from_names (after_one_of root a s t m)

after_names : (root : Root) (a : Answers) (s t : Tree) → IsMet root a s t → apply_all a.accepts counts s t ≡ true
after_names root a s t m = rest_met a.accepts s t kw.PropertyNames counts (after_not root a s t m)

after_contains : (root : Root) (a : Answers) (s t : Tree) → IsMet root a s t → apply_all a.accepts from_max_contains s t ≡ true
after_contains root a s t m = rest_met a.accepts s t kw.Contains from_max_contains (after_names root a s t m)

after_all_of : (root : Root) (a : Answers) (s t : Tree) → IsMet root a s t → apply_all a.accepts from_if s t ≡ true
after_all_of root a s t m = rest_met a.accepts s t kw.AllOf from_if m.demanded

after_if : (root : Root) (a : Answers) (s t : Tree) → IsMet root a s t → apply_all a.accepts from_dependents s t ≡ true
after_if root a s t m = rest_met a.accepts s t kw.If from_dependents (after_all_of root a s t m)

applied : (root : Root) (a : Answers) (s t : Tree) (k : Keyword) → IsMet root a s t → applies a.accepts k s t ≡ true
applied root a s t kw.AnyOf m = first_met a.accepts s t kw.AnyOf from_one_of m.tested
applied root a s t kw.OneOf m = first_met a.accepts s t kw.OneOf from_not (after_any_of root a s t m)
applied root a s t kw.Not m = first_met a.accepts s t kw.Not from_names (after_one_of root a s t m)
applied root a s t kw.PropertyNames m = first_met a.accepts s t kw.PropertyNames counts (after_not root a s t m)
applied root a s t kw.Contains m = first_met a.accepts s t kw.Contains from_max_contains (after_names root a s t m)
applied root a s t kw.MaxContains m = first_met a.accepts s t kw.MaxContains (kw.MinContains ∷ []) (after_contains root a s t m)
applied root a s t kw.MinContains m = first_met a.accepts s t kw.MinContains []
    (rest_met a.accepts s t kw.MaxContains (kw.MinContains ∷ []) (after_contains root a s t m))
applied root a s t kw.AllOf m = first_met a.accepts s t kw.AllOf from_if m.demanded
applied root a s t kw.If m = first_met a.accepts s t kw.If from_dependents (after_all_of root a s t m)
applied root a s t kw.DependentSchemas m = first_met a.accepts s t kw.DependentSchemas (kw.PatternProperties ∷ []) (after_if root a s t m)
applied root a s t kw.PatternProperties m = first_met a.accepts s t kw.PatternProperties []
    (rest_met a.accepts s t kw.DependentSchemas (kw.PatternProperties ∷ []) (after_if root a s t m))
applied root a s t _ m = refl

module _ (f : Judge) (t : Tree) where
  one_accepts : (rs : Items) (i : ℕ) (r : Tree) → all_accept f rs t ≡ true → nth rs i ≡ Some r → f r t ≡ true
  one_accepts no_items i r h e = cc
  one_accepts (item q rs) zero r h e = let same : q ≡ r = cc in subst (λ x. f x t ≡ true) same (and_parts _ _ h).0
  one_accepts (item q rs) (suc i) r h e = one_accepts rs i r (and_parts _ _ h).1 e

  named_accepts : (rs : Items) (o : Option ℕ) (r : Tree) → all_accept f rs t ≡ true → item_of rs o ≡ Some r → f r t ≡ true
  named_accepts rs None r h e = cc
  named_accepts rs (Some i) r h e = one_accepts rs i r h e

  here_accepts : (k : List ℕ) (q : Tree) → (not (is_some (tree_at_key t k)) || f q t) ≡ true → is_some (tree_at_key t k) ≡ true
      → f q t ≡ true
  here_accepts k q h e = sym (ap (λ b. not b || f q t) e) ∙ h

  dependent_accepts : (rs : Members) (k : List ℕ) (r : Tree) → dependents_accept f rs t ≡ true → is_some (tree_at_key t k) ≡ true
      → find k rs ≡ Some r → f r t ≡ true
  dependent_accepts no_members k r h e g = cc
  dependent_accepts (member l q rs) k r h e g = by (bytes_eq k l) refl g (λ g'. dependent_accepts rs k r (and_parts _ _ h).1 e g')
    where
      by : (b : Bool) → bytes_eq k l ≡ b → cond b (Some q) (find k rs) ≡ Some r → (find k rs ≡ Some r → f r t ≡ true) → f r t ≡ true
      by true d g' later =
          let same : q ≡ r = cc in
          let key : k ≡ l = (bytes_eq-Decides k l).0 d in
          subst (λ x. f x t ≡ true) same
          (here_accepts l q (and_parts _ _ h).0 (subst (λ x. is_some (tree_at_key t x) ≡ true) key e))
      by false d g' later = later g'

-- the members in whose key a pattern is found
module _ (q : Tree → Bool) (p : List ℕ) where
  here_found : (k : List ℕ) (u : Tree) → (not (is_found p k) || q u) ≡ true → is_found p k ≡ true → q u ≡ true
  here_found k u h e = sym (ap (λ b. not b || q u) e) ∙ h

  found_passes : (ms : Members) (k : List ℕ) (u : Tree) → found_pass q p ms ≡ true → is_found p k ≡ true → find k ms ≡ Some u → q u ≡ true
  found_passes no_members k u h e g = cc
  found_passes (member l v ms) k u h e g = by (bytes_eq k l) refl g (λ g'. found_passes ms k u (and_parts _ _ h).1 e g')
    where
      by : (b : Bool) → bytes_eq k l ≡ b → cond b (Some v) (find k ms) ≡ Some u → (find k ms ≡ Some u → q u ≡ true) → q u ≡ true
      by true d g' later =
          let same : v ≡ u = cc in
          let key : k ≡ l = (bytes_eq-Decides k l).0 d in
          subst (λ x. q x ≡ true) same (here_found l v (and_parts _ _ h).0 (subst (λ x. is_found p x ≡ true) key e))
      by false d g' later = later g'

pattern_accepts : (f : Judge) (ms rs : Members) (p : List ℕ) (r : Tree) → patterns_accept f rs ms ≡ true → find p rs ≡ Some r
    → found_pass (f r) p ms ≡ true
pattern_accepts f ms no_members p r h g = cc
pattern_accepts f ms (member l q rs) p r h g = by (bytes_eq p l) refl g (λ g'. pattern_accepts f ms rs p r (and_parts _ _ h).1 g')
  where
    by : (b : Bool) → bytes_eq p l ≡ b → cond b (Some q) (find p rs) ≡ Some r → (find p rs ≡ Some r → found_pass (f r) p ms ≡ true)
        → found_pass (f r) p ms ≡ true
    by true d g' later =
        let same : q ≡ r = cc in
        let key : l ≡ p = sym ((bytes_eq-Decides p l).0 d) in
        subst (λ x. found_pass (f x) p ms ≡ true) same (subst (λ x. found_pass (f q) x ms ≡ true) key (and_parts _ _ h).0)
    by false d g' later = later g'

member_step : (t : Tree) (k : List ℕ) (u : Tree) → find k (members_in t) ≡ Some u → step t k ≡ Some u
member_step (object ms) k u h = h
member_step _ k u h = cc

module _ (f : Judge) (s : Tree) where
  member_accepts : (ms : Members) (k : List ℕ) (u : Tree) → members_accepted f s ms ≡ true → find k ms ≡ Some u
      → member_accepted f s k u ≡ true
  member_accepts no_members k u h e = cc
  member_accepts (member l v ms) k u h e = by (bytes_eq k l) refl e (λ g. member_accepts ms k u (and_parts _ _ h).1 g)
    where
      by : (b : Bool) → bytes_eq k l ≡ b → cond b (Some v) (find k ms) ≡ Some u → (find k ms ≡ Some u → member_accepted f s k u ≡ true)
          → member_accepted f s k u ≡ true
      by true d g later =
          let same : v ≡ u = cc in
          let key : l ≡ k = sym ((bytes_eq-Decides k l).0 d) in
          subst (λ x. member_accepted f s k x ≡ true) same (subst (λ x. member_accepted f s x v ≡ true) key (and_parts _ _ h).0)
      by false d g later = later g

  item_accepts : (n : ℕ) (us : Items) (i : ℕ) (u : Tree) → items_accepted f s n us ≡ true → nth us i ≡ Some u
      → item_accepted f s (n + i) u ≡ true
  item_accepts n no_items i u h e = cc
  item_accepts n (item v us) zero u h e =
      let same : v ≡ u = cc in
      let first : n ≡ n + 0 = omega arith in
      subst (λ j. item_accepted f s j u ≡ true) first (subst (λ x. item_accepted f s n x ≡ true) same (and_parts _ _ h).0)
  item_accepts n (item v us) (suc i) u h e =
      let next : suc n + i ≡ n + suc i = omega arith in
      subst (λ j. item_accepted f s j u ≡ true) next (item_accepts (suc n) us i u (and_parts _ _ h).1 e)

  part_accepts : (t : Tree) (k : List ℕ) (r u : Tree) → parts_accepted f s t ≡ true → part_schema s t k ≡ Some r → step t k ≡ Some u
      → f r u ≡ true
  part_accepts (object ms) k r u h a b = sym (ap (λ o. option_map_or (λ q. f q u) o true) a) ∙ member_accepts ms k u h b
  part_accepts (array us) k r u h a b = by (index_of k) a b
    where
      by : (o : Option ℕ) → option_and_then (item_schema s) o ≡ Some r → item_of us o ≡ Some u → f r u ≡ true
      by None a' b' = cc
      by (Some i) a' b' =
          let first : 0 + i ≡ i = omega arith in
          sym (ap (λ o. option_map_or (λ q. f q u) o true) a')
          ∙ subst (λ j. item_accepted f s j u ≡ true) first (item_accepts 0 us i u h b')
  part_accepts _ k r u h a b = cc

branch_chosen : (f : Judge) (s t c r : Tree) → applies f kw.If s t ≡ true → schema_at s kw.If ≡ Some c
    → schema_at s (branch (f c t)) ≡ Some r → f r t ≡ true
branch_chosen f s t c r h e g =
    sym (ap (λ o. option_map_or (λ q. f q t) o true) g)
    ∙ (sym (ap (λ o. option_map_or (λ q. branch_accepts f s t (f q t)) o true) e) ∙ h)

reference_met_at : (root : Tree) (f : Judge) (s t : Tree) (k : Keyword) → is_reference k ≡ true → reference_accepts root f s t ≡ true
    → target_accepts root k f s t ≡ true
reference_met_at root f s t kw.Ref i h = (and_parts _ _ h).0
reference_met_at root f s t kw.DynamicRef i h = (and_parts _ _ h).1
reference_met_at root f s t _ i h = cc

reference_chosen : (root : Tree) (f : Judge) (s t r : Tree) (k : Keyword) → target_accepts root k f s t ≡ true
    → referenced root k s ≡ Some r → f r t ≡ true
reference_chosen root f s t r k h e = sym (ap (λ o. option_map_or (λ q. f q t) o true) e) ∙ h

-- ---- the members and items that no other keyword evaluates

module _ (q : Child → Bool) where
  member_passes : (ms : Members) (k : List ℕ) (u : Tree) → members_pass q ms ≡ true → find k ms ≡ Some u → q (member_at k u) ≡ true
  member_passes no_members k u h e = cc
  member_passes (member l v ms) k u h e = by (bytes_eq k l) refl e (λ g. member_passes ms k u (and_parts _ _ h).1 g)
    where
      by : (b : Bool) → bytes_eq k l ≡ b → cond b (Some v) (find k ms) ≡ Some u → (find k ms ≡ Some u → q (member_at k u) ≡ true)
          → q (member_at k u) ≡ true
      by true d g later =
          let same : v ≡ u = cc in
          let key : l ≡ k = sym ((bytes_eq-Decides k l).0 d) in
          subst (λ x. q (member_at k x) ≡ true) same (subst (λ x. q (member_at x v) ≡ true) key (and_parts _ _ h).0)
      by false d g later = later g

  item_passes : (n : ℕ) (us : Items) (i : ℕ) (u : Tree) → items_pass q n us ≡ true → nth us i ≡ Some u → q (item_at (n + i) u) ≡ true
  item_passes n no_items i u h e = cc
  item_passes n (item v us) zero u h e =
      let same : v ≡ u = cc in
      let first : n ≡ n + 0 = omega arith in
      subst (λ j. q (item_at j u) ≡ true) first (subst (λ x. q (item_at n x) ≡ true) same (and_parts _ _ h).0)
  item_passes n (item v us) (suc i) u h e =
      let next : suc n + i ≡ n + suc i = omega arith in
      subst (λ j. q (item_at j u) ≡ true) next (item_passes (suc n) us i u (and_parts _ _ h).1 e)

  child_passes : (t : Tree) (k : List ℕ) (c : Child) → children_pass q t ≡ true → IsChild t k c → q c ≡ true
  child_passes (object ms) k (member_at l u) h e = member_passes ms l u h e.1
  child_passes (object ms) k (item_at i u) h e = let none = e.1 in cc
  child_passes (array us) k (member_at l u) h e = let none = e.1 in cc
  child_passes (array us) k (item_at i u) h e =
      let first : 0 + i ≡ i = omega arith in
      subst (λ j. q (item_at j u) ≡ true) first (item_passes 0 us i u h e.1)
  child_passes _ k (member_at l u) h e = let none = e.1 in cc
  child_passes _ k (item_at i u) h e = let none = e.1 in cc

rest_passes : (root : Tree) (a : Answers) (s t : Tree) (c : Child) (k : List ℕ) (r : Tree) → rest_accepted root a s t ≡ true
    → schema_at s (rest_keyword c) ≡ Some r → IsChild t k c → others_evaluate root a s t c ≡ false → a.accepts r (value_of c) ≡ true
rest_passes root a s t c k r h e g n =
    sym (ap (λ b. b || a.accepts r (value_of c)) n)
    ∙ (sym (ap (λ o. option_map_or (λ q. others_evaluate root a s t c || a.accepts q (value_of c)) o true) e)
    ∙ child_passes (rest_accepts root a s t) t k c h g)

child_step : (t : Tree) (k : List ℕ) (c : Child) → IsChild t k c → step t k ≡ Some (value_of c)
child_step (object ms) k (member_at l u) e = ap (λ x. find x ms) e.0 ∙ e.1
child_step (object ms) k (item_at i u) e = let none = e.1 in cc
child_step (array us) k (member_at l u) e = let none = e.1 in cc
child_step (array us) k (item_at i u) e = ap (item_of us) e.0 ∙ e.1
child_step _ k (member_at l u) e = let none = e.1 in cc
child_step _ k (item_at i u) e = let none = e.1 in cc

-- ---- places

-- what is not met is not accepted, whatever is said further in
pub refuted : {root : Root} {n : ℕ} {s t : Tree} {ks js : List (List ℕ)} → IsInvalidAt root n s t ks js → (g : Answers)
    → judge root n g s t ≡ true → ⊥
refuted {n = zero} x g v = elim x [ ]
refuted {root} {n = suc n} {s} {t} (refused e) g v = true≢false (sym e ∙ (met root (answers root n g) s t v).accepted)
refuted {root} {n = suc n} {s} {t} (unmet k e) g v = true≢false (sym (met root (answers root n g) s t v).asserted ∙ e.1)
refuted {root} {n = suc n} {s} {t} (not_applied k e) g v =
    true≢false (sym (applied root (answers root n g) s t k (met root (answers root n g) s t v)) ∙ e g)
refuted {root} {n = suc n} {s} {t} (in_all_of {r} {k} e h) g v =
    refuted h g (named_accepts (judge root n g) t (schemas_at s kw.AllOf) (index_of k) r
    (applied root (answers root n g) s t kw.AllOf (met root (answers root n g) s t v)) e)
refuted {root} {n = suc n} {s} {t} (in_branch {c} {r} {b} e a j h) g v =
    refuted h g (branch_chosen (judge root n g) s t c r (applied root (answers root n g) s t kw.If (met root (answers root n g) s t v)) e
    (ap (λ x. schema_at s (branch x)) (a g) ∙ j))
refuted {root} {n = suc n} {s} {t} (in_dependent {r} {k} e a h) g v =
    refuted h g (dependent_accepts (judge root n g) t (schema_map_at s kw.DependentSchemas) k r
    (applied root (answers root n g) s t kw.DependentSchemas (met root (answers root n g) s t v)) e a)
refuted {root} {n = suc n} {s} {t} (in_patterned {r} {u} {p} {k} a b c h) g v =
    refuted h g (found_passes (judge root n g r) p (members_in t) k u
    (pattern_accepts (judge root n g) (members_in t) (schema_map_at s kw.PatternProperties) p r
    (applied root (answers root n g) s t kw.PatternProperties (met root (answers root n g) s t v)) a) b c)
refuted {root} {n = suc n} {s} {t} (in_reference {r} k i e h) g v =
    refuted h g (reference_chosen root.tree (judge root n g) s t r k
    (reference_met_at root.tree (judge root n g) s t k i (met root (answers root n g) s t v).referred) e)
refuted {root} {n = suc n} {s} {t} (in_part {r} {u} {k} ls a b c h) g v =
    refuted h g (part_accepts (judge root n g) s t k r u (met root (answers root n g) s t v).parts a b)
refuted {root} {n = suc n} {s} {t} (in_rest {r} {k} c a b d h) g v =
    refuted h g (rest_passes root.tree (answers root n g) s t c k r (met root (answers root n g) s t v).rest a b (d g))

pub isnt_true : (b : Bool) → (b ≡ true → ⊥) → false ≡ b
isnt_true true n = absurd (n refl)
isnt_true false n = refl

-- ---- more steps, and no end of them

-- n steps, and m further in, are k
pub further : (root : Root) (n m k : ℕ) (g : Answers) → n + m ≡ k → answers root n (answers root m g) ≡ answers root k g
further root zero m k g e = let same : m ≡ k = omega (arith, e) in ap (λ j. answers root j g) same
further root (suc n) m zero g e = absurd (omega (arith, e))
further root (suc n) m (suc k) g e = ap (by_rules root) (further root n m k g (omega (arith, e)))

pub not_valid : {root : Root} {t : Tree} {n : ℕ} {ks js : List (List ℕ)} → IsInvalidAt root n root.tree t ks js → IsValidIn root t → ⊥
not_valid {root} {t} {n} h v =
    let m = v.0 in
    let g : Answers = record { accepts = λ r u. true; evaluates = λ r u c. true } in
    let same : answers root n (answers root m g) ≡ answers root m (answers root n g)
    = further root n m (n + m) g refl ∙ sym (further root m n (n + m) g (omega arith)) in
    refuted h (answers root m g) (ap (λ (a : Answers). a.accepts root.tree t) same ∙ v.1 (answers root n g))

-- what meets the rules says what any number of steps gives
at_rest : (root : Root) (a : Answers) (n : ℕ) → MeetsRules root a → a ≡ answers root n a
at_rest root a zero m = refl
at_rest root a (suc n) m =
    (λ i. record { accepts = λ s t. m.accepts s t i; evaluates = λ s t c. m.evaluates s t c i })
    ∙ ap (by_rules root) (at_rest root a n m)

pub there : {root : Root} {n : ℕ} {s t : Tree} {ks js : List (List ℕ)} → IsInvalidAt root n s t ks js → IsSome (part_at t js)
there (refused e) = refl
there (unmet k e) = refl
there (not_applied k e) = refl
there (in_all_of e h) = there h
there (in_branch e g j h) = there h
there (in_dependent e g h) = there h
there {t} {js = k ∷ js} (in_patterned {u} a b c h) =
    subst (λ o. IsSome (option_and_then (λ v. part_at v js) o)) (sym (member_step t k u c)) (there h)
there (in_reference k i e h) = there h
there {t} {js = k ∷ js} (in_part {u} ls a b c h) = subst (λ o. IsSome (option_and_then (λ v. part_at v js) o)) (sym b) (there h)
there {t} {js = k ∷ js} (in_rest c a b d h) =
    subst (λ o. IsSome (option_and_then (λ v. part_at v js) o)) (sym (child_step t k c b)) (there h)

-- ---- results

-- the tokens of a violation's places
at_tokens : (root : Root) (n : ℕ) (s t : Tree) (v : Violation) (ks js : List (List ℕ)) → IsAt ks js v → IsInvalidAt root n s t ks js
    → IsInvalidAt root n s t (tokens_of v.keyword_location) (tokens_of v.instance_location)
at_tokens root n s t v ks js at h = subst (λ x. IsInvalidAt root n s t (tokens_of v.keyword_location) x) (sym at.1)
    (subst (λ x. IsInvalidAt root n s t x js) (sym at.0) h)

-- a violation with its reasons
pub reported : (root : Root) (n : ℕ) (s t : Tree) (v : Violation) (ks js : List (List ℕ)) → IsAt ks js v → IsInvalidAt root n s t ks js
    → Decides root n s t (Ok (Some v))
reported root n s t v ks js at h = at_tokens root n s t v ks js at h

-- a violation that is there, with its reasons
pub reported_there : (root : Root) (n : ℕ) (s t : Tree) (x : Result (Option Violation) CheckError) (ks js : List (List ℕ))
    → MatchResult x (λ o. IsSomeAnd o (IsAt ks js)) IsShallow → IsInvalidAt root n s t ks js → Decides root n s t x
reported_there root n s t (Ok None) ks js at h = elim at [ ]
reported_there root n s t (Ok (Some v)) ks js at h = reported root n s t v ks js at h
reported_there root n s t (Err e) ks js at h = not_deep _ e at

-- the same at its tokens
pub placed : (w : Walk) (q : Judge → Bool) (s t : Tree) (v : Violation) (ks js : List (List ℕ)) → IsAt ks js v
    → IsInvalidAt (root_of w) (suc w.steps) s t ks js → Finds w q s t (Ok (Some v))
placed w q s t v ks js at h = at_tokens (root_of w) (suc w.steps) s t v ks js at h

-- of a valid value nothing is found, and of another something
pub verdict : (root : Root) (n : ℕ) (s t : Tree) (o : Option Violation) → Decides root n s t (Ok o) → (g : Answers)
    → not (is_some o) ≡ judge root n g s t
verdict root n s t None h g = sym (h g)
verdict root n s t (Some v) h g = isnt_true (judge root n g s t) (refuted h g)

-- the answer to the caller
pub answered : (n : ℕ) (root : Root) (t : Tree) (x : Result (Option Violation) CheckError) → Decides root n root.tree t x
    → ValidatesIn n root t x
answered n root t (Ok None) h = (n, h)
answered n root t (Ok (Some v)) h = (h, there h, not_valid h)
answered n root t (Err e) h = h

pub agreed : (n : ℕ) (root : Root) (t : Tree) (x : Result (Option Violation) CheckError) → Decides root n root.tree t x
    → IfOk x (λ o. AgreesIn root t o)
agreed n root t (Ok o) h = λ a m. ap (λ (b : Answers). b.accepts root.tree t) (at_rest root a n m) ∙ sym (verdict root n root.tree t o h a)
agreed n root t (Err e) h = tt

-- the last of the tests
pub last_tested : (w : Walk) (s t : Tree) (x : Result (Option Keyword) CheckError)
    → ((g : Answers) → (applies (says w g) kw.AnyOf s t ≡ true) × (applies (says w g) kw.OneOf s t ≡ true)
    × (applies (says w g) kw.Not s t ≡ true) × (applies (says w g) kw.PropertyNames s t ≡ true))
    → MatchResult x (λ o. IsUnapplied w counts s t o) (IsDeep w s t) → MatchResult x (λ o. IsUnapplied w tests s t o) (IsDeep w s t)
last_tested w s t (Ok None) a h = λ g i. (a g).0 i && ((a g).1 i && ((a g).2 i && ((a g).3 i && h g i)))
last_tested w s t (Ok (Some k)) a h = h
last_tested w s t (Err e) a h = h

-- the last step of the check
pub last_found : (w : Walk) (s t : Tree) (x : Result (Option Violation) CheckError)
    → refuses_all s ≡ false → meets_all (assertions w.ground.now.formats) s t ≡ true →
    ((g : Answers) → apply_all (says w g) tests s t ≡ true)
    → ((g : Answers) → apply_all (says w g) demands s t ≡ true)
    → ((g : Answers) → reference_accepts (view w.ground.now.whole.now.root.now) (says w g) s t ≡ true)
    → ((g : Answers) → parts_accepted (says w g) s t ≡ true)
    → FindsRest w s t x → Decides (root_of w) (suc w.steps) s t x
last_found w s t (Ok None) a b c d r l h = λ g. valid_from (root_of w) (answers_in w g) s t (record {
  accepted = a;
  asserted = b;
  tested = c g;
  demanded = d g;
  referred = r g;
  parts = l g;
  rest = h g;
})
last_found w s t (Ok (Some v)) a b c d r l h = h
last_found w s t (Err x) a b c d r l h = h

pub same_root : (w inner : Walk) → IsDeeper w inner → root_of inner ≡ root_of w
same_root w inner d = λ i. record { tree = view (d.0 i).now.whole.now.root.now; formats = (d.0 i).now.formats }

-- what is known of a schema in the walk, one step before
pub before : (w inner : Walk) → IsDeeper w inner → (s t : Tree) (x : Result (Option Violation) CheckError)
    → Decides (root_of inner) (suc inner.steps) s t x → Judges w s t x
before w inner d s t x h = subst (λ n. Decides (root_of w) n s t x) (sym d.1)
    (subst (λ r. Decides r (suc inner.steps) s t x) (same_root w inner d) h)

-- ---- the schema that `if` chooses

module _ (w : Walk) (s t c : Tree) (b : Bool) (k : Keyword) (test : Some c ≡ schema_at s kw.If)
    (told : Follows w b (λ f. f c t)) (chosen : k ≡ branch b)
  where
    taken : (g : Answers) → schema_at s (branch (says w g c t)) ≡ schema_at s k
    taken g = ap (λ x. schema_at s (branch x)) (sym (told g)) ∙ ap (schema_at s) (sym chosen)

    by_branch : (g : Answers) → branch_accepts (says w g) s t (says w g c t) ≡ true → applies (says w g) kw.If s t ≡ true
    by_branch g h = ap (λ o. option_map_or (λ r. branch_accepts (says w g) s t (says w g r t)) o true) (sym test) ∙ h

    pub no_branch : None ≡ schema_at s k → (g : Answers) → applies (says w g) kw.If s t ≡ true
    no_branch h g = by_branch g (ap (λ o. option_map_or (λ r. says w g r t) o true) (taken g ∙ sym h))

    pub branch_met : (r : Tree) → Some r ≡ schema_at s k → ((g : Answers) → says w g r t ≡ true) → (g : Answers)
        → applies (says w g) kw.If s t ≡ true
    branch_met r h v g = by_branch g (ap (λ o. option_map_or (λ r. says w g r t) o true) (taken g ∙ sym h) ∙ v g)

    pub branch_place : (r : Tree) (ks js : List (List ℕ)) → Some r ≡ schema_at s k
        → IsInvalidAt (root_of w) w.steps r t ks js
        → IsInvalidAt (root_of w) (suc w.steps) s t (name k ∷ ks) js
    branch_place r ks js h v = subst (λ x. IsInvalidAt (root_of w) (suc w.steps) s t (name x ∷ ks) js) (sym chosen)
        (in_branch (sym test) (λ g. sym (told g)) (ap (schema_at s) (sym chosen) ∙ sym h) v)

-- ---- the schema that a reference leads to

pub reference_met : (root : Tree) (f : Judge) (s t r : Tree) (k : Keyword) → Some r ≡ referenced root k s → f r t ≡ true
    → target_accepts root k f s t ≡ true
reference_met root f s t r k e h = ap (λ o. option_map_or (λ q. f q t) o true) (sym e) ∙ h

pub no_reference : (root : Tree) (f : Judge) (s t : Tree) (k : Keyword) → None ≡ referenced root k s → target_accepts root k f s t ≡ true
no_reference root f s t k e = ap (λ o. option_map_or (λ q. f q t) o true) (sym e)

-- the last of these keywords is met, or not
pub last_demanded : (w : Walk) (s t : Tree) (x : Result (Option Violation) CheckError)
    → ((g : Answers) → applies (says w g) kw.AllOf s t ≡ true) → ((g : Answers) → applies (says w g) kw.If s t ≡ true)
    → ((g : Answers) → applies (says w g) kw.DependentSchemas s t ≡ true)
    → Finds w (λ f. applies f kw.PatternProperties s t) s t x → Finds w (λ f. apply_all f demands s t) s t x
last_demanded w s t (Ok None) a b c h = λ g i. a g i && (b g i && (c g i && (h g i && true)))
last_demanded w s t (Ok (Some v)) a b c h = h
last_demanded w s t (Err e) a b c h = h

-- the second of the references is met, or not
pub both_met : (w : Walk) (s t : Tree) (x : Result (Option Violation) CheckError)
    → ((g : Answers) → target_accepts (view w.ground.now.whole.now.root.now) kw.Ref (says w g) s t ≡ true)
    → Finds w (λ f. target_accepts (view w.ground.now.whole.now.root.now) kw.DynamicRef f s t) s t x
    → Finds w (λ f. reference_accepts (view w.ground.now.whole.now.root.now) f s t) s t x
both_met w s t (Ok None) a h = λ g i. a g i && h g i
both_met w s t (Ok (Some v)) a h = h
both_met w s t (Err e) a h = h
