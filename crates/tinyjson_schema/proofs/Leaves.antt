-- Schemas that apply no others.
use Rattle.std.proofs.Common.{◌≡◌, ◌&&◌, ℕ, suc, true, false, not, is_some, List, [], ◌∷◌, Option, Some, None, Ok, refl, sym}
use Rattle.std.proofs.Common.{ap, ◌∙◌, subst}
use Rattle.std.proofs.lemmas.Bool.{or_right}
use Rattle.std.specs.Option.{option_map_or}
use Rattle.std.specs.Prelude.{option_and_then}
use Rattle.tinyjson.specs.Index.{tree_at, tree_at_key}
use Rattle.tinyjson.specs.Tree.{Tree, array, object, Items, no_items, item, Members, no_members, member}
use Rattle.tinyjson.specs.View.{view}
use Rattle.tinyjson_schema_keywords.specs.Applied.{schema_at, items_in, members_in}
use Rattle.tinyjson_schema_keywords.specs.References.{target}
use Rattle.tinyjson_schema_keywords.specs.Names.{name}
use Rattle.tinyjson_schema_keywords.specs.declared.keyword.Keyword.{Keyword}
use Rattle.tinyjson_schema_keywords.specs.declared.keyword.Keyword.TheVariants as kw
use Rattle.tinyjson_schema_assertions.specs.Assertions.{meets_all, assertions, IsUnmet}
use Rattle.tinyjson_schema.specs.Applicators.{Judge, all_accept, any_of, one_of, keys_pass, items_passing, is_zero, contained}
use Rattle.tinyjson_schema.specs.Applicators.{contains_some, contains_at_most, contains_at_least, branch_accepts, dependents_accept}
use Rattle.tinyjson_schema.specs.Applicators.{patterns_accept, applies, apply_all, tests, demands, members_accepted}
use Rattle.tinyjson_schema.specs.Applicators.{items_accepted, parts_accepted}
use Rattle.tinyjson_schema.specs.Evaluated.{Answers, rest_accepted}
use Rattle.tinyjson_schema.specs.Parts.{member_schema, item_schema}
use Rattle.tinyjson_schema.specs.Marks.{TestsNothing, DemandsNothing, RefersNowhere, AppliesNothing}
use Rattle.tinyjson_schema.specs.Valid.{Decides, IsInvalidAt, refuses_all, reference_accepts, root_of, says, answers_in}
use Rattle.tinyjson_schema.specs.Valid.{refused, unmet}
use Rattle.tinyjson_schema.specs.Walks.{IsDeeper}
use Rattle.tinyjson_schema.specs.declared.walk.Walk.{Walk}
use Rattle.tinyjson_schema.proofs.Loops.{member_free, item_free}
use Rattle.tinyjson_schema.proofs.Parts.{no_additional, no_item, no_member}
use Rattle.tinyjson_schema.proofs.Sourcing.{no_member_rest, no_item_rest}
use Rattle.tinyjson_schema.proofs.Validity.{before, isnt_true, last_found, no_reference, refuted}

all_true : {X : Type 0} (o : Option X) → option_map_or (λ x. true) o true ≡ true
all_true None = refl
all_true (Some x) = refl

-- the tests
module _ (f : Judge) (s t : Tree) (none : TestsNothing s) where
  uncounted : contained f s t ≡ None
  uncounted = ap (option_and_then (λ r. items_passing (f r) t)) none.contains

  any_free : applies f kw.AnyOf s t ≡ true
  any_free = ap (λ o. any_of f (option_map_or items_in o no_items) t) none.any_of

  one_free : applies f kw.OneOf s t ≡ true
  one_free = ap (λ o. one_of f (option_map_or items_in o no_items) t) none.one_of

  not_free : applies f kw.Not s t ≡ true
  not_free = ap (λ o. option_map_or (λ r. not (f r t)) o true) none.not_of

  names_free : applies f kw.PropertyNames s t ≡ true
  names_free = ap (λ o. option_map_or (λ r. keys_pass (f r) (members_in t)) o true) none.names

  some_free : applies f kw.Contains s t ≡ true
  some_free = ap (λ n. contains_some n s) uncounted ∙ or_right (option_map_or is_zero (schema_at s kw.MinContains) false) true refl

  most_free : applies f kw.MaxContains s t ≡ true
  most_free = ap (λ n. contains_at_most n s) uncounted ∙ all_true (schema_at s kw.MaxContains)

  least_free : applies f kw.MinContains s t ≡ true
  least_free = ap (λ n. contains_at_least n s) uncounted ∙ all_true (schema_at s kw.MinContains)

  pub untested : apply_all f tests s t ≡ true
  untested = λ i. any_free i && (one_free i && (not_free i && (names_free i && (some_free i && (most_free i && (least_free i && true))))))

-- the keywords whose violations are within a schema
module _ (f : Judge) (s t : Tree) (none : DemandsNothing s) where
  all_free : applies f kw.AllOf s t ≡ true
  all_free = ap (λ o. all_accept f (option_map_or items_in o no_items) t) none.all_of

  if_free : applies f kw.If s t ≡ true
  if_free = ap (λ o. option_map_or (λ r. branch_accepts f s t (f r t)) o true) none.if_of

  dependents_free : applies f kw.DependentSchemas s t ≡ true
  dependents_free = ap (λ o. dependents_accept f (option_map_or members_in o no_members) t) none.dependents

  patterns_free : applies f kw.PatternProperties s t ≡ true
  patterns_free = ap (λ o. patterns_accept f (option_map_or members_in o no_members) (members_in t)) none.patterns

  pub undemanded : apply_all f demands s t ≡ true
  undemanded = λ i. all_free i && (if_free i && (dependents_free i && (patterns_free i && true)))

-- the references
pub unreferred : (root : Tree) (f : Judge) (s t : Tree) → RefersNowhere s → reference_accepts root f s t ≡ true
unreferred root f s t none =
    let plain = no_reference root f s t kw.Ref (sym (ap (option_and_then (target root)) none.reference)) in
    let dynamic = no_reference root f s t kw.DynamicRef (sym (ap (option_and_then (target root)) none.dynamic)) in
    λ i. plain i && dynamic i

-- the other keywords
module _ (s : Tree) (none : AppliesNothing s) where
  member_free_at : (k : List ℕ) → member_schema s k ≡ None
  member_free_at k = no_member s k (ap (option_and_then (λ p. tree_at_key p k)) none.properties)
      (sym (no_additional s k (sym none.additional)))

  item_free_at : (i : ℕ) → item_schema s i ≡ None
  item_free_at i = no_item s i (ap (option_and_then (λ p. tree_at p i)) none.prefix) none.items

  members_free : (f : Judge) (ms : Members) → members_accepted f s ms ≡ true
  members_free f no_members = refl
  members_free f (member k u ms) = λ i. member_free f s k u (member_free_at k) i && members_free f ms i

  items_free : (f : Judge) (n : ℕ) (us : Items) → items_accepted f s n us ≡ true
  items_free f n no_items = refl
  items_free f n (item u us) = λ i. item_free f s n u (item_free_at n) i && items_free f (suc n) us i

  parts_free : (f : Judge) (t : Tree) → parts_accepted f s t ≡ true
  parts_free f (object ms) = members_free f ms
  parts_free f (array us) = items_free f 0 us
  parts_free f _ = refl

  rest_free : (root : Tree) (a : Answers) (t : Tree) → rest_accepted root a s t ≡ true
  rest_free root a (object ms) = no_member_rest root a s ms (sym none.members_left)
  rest_free root a (array us) = no_item_rest root a s us (sym none.items_left)
  rest_free root a _ = refl

  -- its assertions decide
  pub decided_alone : (w : Walk) (t : Tree) → refuses_all s ≡ false → meets_all (assertions w.ground.now.formats) s t ≡ true
      → Decides (root_of w) (suc w.steps) s t (Ok None)
  decided_alone w t a b =
      let root = view w.ground.now.whole.now.root.now in
      last_found w s t (Ok None) a b (λ g. untested (says w g) s t none.tests)
      (λ g. undemanded (says w g) s t none.demands)
      (λ g. unreferred root (says w g) s t none.references)
      (λ g. parts_free (says w g) t)
      (λ g. rest_free root (answers_in w g) t)

  pub refused_alone : (w inner : Walk) → IsDeeper w inner → (t : Tree) → refuses_all s ≡ true → (g : Answers) → false ≡ says w g s t
  refused_alone w inner d t e g =
      isnt_true (says w g s t) (refuted (subst (λ n. IsInvalidAt (root_of w) n s t [] []) (sym d.1) (refused e)) g)

  pub judged_alone : (w inner : Walk) → IsDeeper w inner → (t : Tree) → refuses_all s ≡ false → (o : Option Keyword)
      → IsUnmet w.ground.now.formats s t o → (g : Answers) → not (is_some o) ≡ says w g s t
  judged_alone w inner d t a None h g =
      sym (before w inner d s t (Ok None)
      (decided_alone inner t a (subst (λ f. IsUnmet f s t None) (sym (ap (λ x. x.now.formats) d.0)) h)) g)
  judged_alone w inner d t a (Some k) h g =
      isnt_true (says w g s t) (refuted (subst (λ n. IsInvalidAt (root_of w) n s t (name k ∷ []) []) (sym d.1) (unmet k h)) g)
