-- The schemas that evaluate for one that asks, one after the other.
use Rattle.std.proofs.Common.{◌≡◌, ◌≢◌, ◌∷◌, [], ◌++◌, ℕ, zero, suc, ◌<◌, ◌≤◌, ◌+◌, Bool, true, false, not, ◌&&◌, ◌||◌, List, Some, None}
use Rattle.std.proofs.Common.{Option, Result, Ok, Err, is_some, length, get_or, drop}
use Rattle.std.proofs.Common.{refl, sym, ap, ◌∙◌, subst, arith, add-one}
use Rattle.std.specs.Option.{option_map_or}
use Rattle.tinyjson.specs.JsonKind.TheVariants as kind
use Rattle.tinyjson.specs.Kind.{kind_of}
use Rattle.tinyjson.specs.Tree.{Tree, array, object, Items, no_items, item, Members, no_members, member}
use Rattle.tinyjson.specs.View.{view}
use Rattle.tinyjson_view.specs.Views.{tree_of, trees_of}
use Rattle.tinyjson_view.specs.declared.view.ValueView.{ValueView}
use Rattle.tinyjson_schema_keywords.specs.Applied.{schema_at, schemas_at, schema_map_at, branch}
use Rattle.tinyjson_schema_keywords.specs.Names.{name}
use Rattle.tinyjson_schema_keywords.specs.References.{referenced}
use Rattle.tinyjson_schema_keywords.specs.declared.keyword.Keyword.{Keyword}
use Rattle.tinyjson_schema_keywords.specs.declared.keyword.Keyword.TheVariants as kw
use Rattle.tinyjson_schema.specs.declared.walk.CheckError.{CheckError}
use Rattle.tinyjson_schema_keywords.proofs.Callers.{drop_item, drop_end, drop_suc}
use Rattle.tinyjson_schema.specs.Deep.{root_tree}
use Rattle.tinyjson_schema.specs.Evaluated.{Child, member_at, item_at, value_of, Answers, rest_keyword, applies_to, branch_evaluates}
use Rattle.tinyjson_schema.specs.Evaluated.{inner_evaluate, others_evaluate, rest_accepts, rest_accepted, members_pass, items_pass}
use Rattle.tinyjson_schema.specs.Evaluated.{some_evaluate, accepting_evaluate, dependents_evaluate, reference_evaluates, target_evaluates}
use Rattle.tinyjson_schema.specs.Parts.{member_schema, item_schema}
use Rattle.tinyjson_schema.specs.Places.{IsMemberPart, IsItemPart}
use Rattle.tinyjson_schema.specs.Sources.{source_evaluates, sources_evaluate, AreWithin, AreReached, Adds, InRest, FindsLeft}
use Rattle.tinyjson_schema.specs.Valid.{answers, answers_in, root_of, by_rules, says, Follows, FindsRest, in_rest}
use Rattle.tinyjson_schema.specs.declared.part.Part.{Part}
use Rattle.tinyjson_schema.specs.declared.validate.unevaluated.Source.{Source}
use Rattle.tinyjson_schema.specs.Walks.{IsDeeper}
use Rattle.tinyjson_schema.specs.declared.violation.Violation.{Violation}
use Rattle.tinyjson_schema.specs.declared.walk.Walk.{Walk}
use Rattle.tinyjson_schema.proofs.Deep.{if_deep}
use Rattle.tinyjson_schema.proofs.Validity.{reported, same_root}

or_assoc : (a b c : Bool) → ((a || b) || c) ≡ (a || (b || c))
or_assoc true b c = refl
or_assoc false b c = refl

or_false : (a : Bool) → (a || false) ≡ a
or_false true = refl
or_false false = refl

-- ---- what is added

module _ (w : Walk) where
  pub adds_none : (q : Answers → Child → Bool) (xs : List Source) → ((g : Answers) (c : Child) → q (answers_in w g) c ≡ false)
      → Adds w q xs xs
  adds_none q xs n g c = sym (ap (λ b. sources_evaluate g xs c || b) (n g c) ∙ or_false (sources_evaluate g xs c))

  pub adds_both : (p q : Answers → Child → Bool) (xs ys zs : List Source) → Adds w p xs ys → Adds w q ys zs
      → Adds w (λ a c. p a c || q a c) xs zs
  adds_both p q xs ys zs h k g c = k g c ∙ (ap (λ b. b || q (answers_in w g) c) (h g c)
      ∙ or_assoc (sources_evaluate g xs c) (p (answers_in w g) c) (q (answers_in w g) c))

  pub adds_as : (p q : Answers → Child → Bool) (xs ys : List Source)
      → ((g : Answers) (c : Child) → p (answers_in w g) c ≡ q (answers_in w g) c)
      → Adds w p xs ys → Adds w q xs ys
  adds_as p q xs ys e h g c = h g c ∙ ap (λ b. sources_evaluate g xs c || b) (e g c)

pushed : (g : Answers) (c : Child) (xs : List Source) (x : Source)
    → sources_evaluate g (xs ++ x ∷ []) c ≡ (sources_evaluate g xs c || source_evaluates g x c)
pushed g c [] x = or_false (source_evaluates g x c)
pushed g c (y ∷ xs) x = ap (λ b. source_evaluates g y c || b) (pushed g c xs x)
    ∙ sym (or_assoc (source_evaluates g y c) (sources_evaluate g xs c) (source_evaluates g x c))

pub within_pushed : (n : ℕ) (xs : List Source) (x : Source) → AreWithin n xs → x.walk.steps ≤ n → AreWithin n (xs ++ x ∷ [])
within_pushed n [] x h k = (k, tt)
within_pushed n (y ∷ xs) x h k = (h.0, within_pushed n xs x h.1 k)

pub within_at : (n : ℕ) (xs : List Source) (i : ℕ) (x : Source) → AreWithin n xs → i < length xs → x ≡ get_or xs i x → x.walk.steps ≤ n
within_at n [] i x h k e = absurd (omega arith)
within_at n (y ∷ xs) zero x h k e = subst (λ (z : Source). z.walk.steps ≤ n) (sym e) h.0
within_at n (y ∷ xs) (suc i) x h k e = within_at n xs i x h.1 (omega arith) e

-- a schema, one step further in, and those that it applies
pub schema_added : (w inner : Walk) (x : Source) (t : Tree) (xs ys zs : List Source) → IsDeeper w inner → x.asks ≡ false → x.walk ≡ inner
    → ys ≡ xs ++ x ∷ [] → Adds inner (λ a c. inner_evaluate (view inner.ground.now.whole.now.root.now) a
    (view x.applied.schema.now) t c) ys zs
    → Adds w (λ a c. a.evaluates (view x.applied.schema.now) t c) xs zs
schema_added w inner x t xs ys zs d answers_for same put k g c =
    let s = view x.applied.schema.now in
    let root = view inner.ground.now.whole.now.root.now in
    let old = sources_evaluate g xs c in
    let rest = is_some (schema_at s (rest_keyword c)) in
    let own = applies_to (says inner g) s c in
    let more = inner_evaluate root (answers_in inner g) s t c in
    let one : source_evaluates g x c ≡ (rest || own)
    = (λ i. (not (answers_for i) && rest) || applies_to (says (same i) g) s c) in
    let all : answers_in w g ≡ by_rules (root_of inner) (answers_in inner g)
    = ap (λ n. answers (root_of w) n g) d.1 ∙ sym (ap (λ r. answers r (suc inner.steps) g) (same_root w inner d)) in
    k g c ∙ (ap (λ l. sources_evaluate g l c || more) put ∙ (ap (λ b. b || more) (pushed g c xs x)
    ∙ (ap (λ b. (old || b) || more) one ∙ (or_assoc old (rest || own) more ∙ (ap (λ b. old || b) (or_assoc rest own more)
    ∙ sym (ap (λ (a : Answers). old || a.evaluates s t c) all))))))

-- the schema that asks, and those that it applies
pub asking_added : (w : Walk) (x : Source) (t : Tree) (ys zs : List Source) → x.asks ≡ true → x.walk ≡ w → ys ≡ x ∷ []
    → Adds w (λ a c. inner_evaluate (view w.ground.now.whole.now.root.now) a (view x.applied.schema.now) t c) ys zs → (g : Answers)
    (c : Child)
    → sources_evaluate g zs c ≡ others_evaluate (view w.ground.now.whole.now.root.now) (answers_in w g) (view x.applied.schema.now) t c
asking_added w x t ys zs asked same put k g c =
    let s = view x.applied.schema.now in
    let rest = is_some (schema_at s (rest_keyword c)) in
    let more = inner_evaluate (view w.ground.now.whole.now.root.now) (answers_in w g) s t c in
    let one : source_evaluates g x c ≡ applies_to (says w g) s c
    = (λ i. (not (asked i) && rest) || applies_to (says (same i) g) s c) in
    k g c ∙ (ap (λ l. sources_evaluate g l c || more) put ∙ (ap (λ b. b || more) (or_false (source_evaluates g x c))
    ∙ ap (λ b. b || more) one))

-- all that a schema applies to the value itself
pub inner_added : (w : Walk) (s t : Tree) (us vs ws : Items) (l m n o p q r : List Source) → us ≡ schemas_at s kw.AllOf
    → vs ≡ schemas_at s kw.AnyOf → ws ≡ schemas_at s kw.OneOf → Adds w (λ a c. some_evaluate a us t c) l m
    → Adds w (λ a c. accepting_evaluate a vs t c) m n → Adds w (λ a c. accepting_evaluate a ws t c) n o
    → Adds w (λ a c. branch_evaluates a s t c) o p
    → Adds w (λ a c. dependents_evaluate a (schema_map_at s kw.DependentSchemas) t c) p q
    → Adds w (λ a c. reference_evaluates (view w.ground.now.whole.now.root.now) a s t c) q r
    → Adds w (λ a c. inner_evaluate (view w.ground.now.whole.now.root.now) a s t c) l r
inner_added w s t us vs ws l m n o p q r all any one x1 x2 x3 x4 x5 x6 =
    let root = view w.ground.now.whole.now.root.now in
    let referred : Answers → Child → Bool = λ a c. reference_evaluates root a s t c in
    let depending : Answers → Child → Bool = λ a c. dependents_evaluate a (schema_map_at s kw.DependentSchemas) t c in
    let chosen : Answers → Child → Bool = λ a c. branch_evaluates a s t c in
    let in_one : Answers → Child → Bool = λ a c. accepting_evaluate a (schemas_at s kw.OneOf) t c in
    let in_any : Answers → Child → Bool = λ a c. accepting_evaluate a (schemas_at s kw.AnyOf) t c in
    let in_all : Answers → Child → Bool = λ a c. some_evaluate a (schemas_at s kw.AllOf) t c in
    let y1 : Adds w in_all l m = subst (λ x. Adds w (λ a c. some_evaluate a x t c) l m) all x1 in
    let y2 : Adds w in_any m n = subst (λ x. Adds w (λ a c. accepting_evaluate a x t c) m n) any x2 in
    let y3 : Adds w in_one n o = subst (λ x. Adds w (λ a c. accepting_evaluate a x t c) n o) one x3 in
    let after5 : Answers → Child → Bool = λ a c. depending a c || referred a c in
    let after4 : Answers → Child → Bool = λ a c. chosen a c || after5 a c in
    let after3 : Answers → Child → Bool = λ a c. in_one a c || after4 a c in
    let after2 : Answers → Child → Bool = λ a c. in_any a c || after3 a c in
    adds_both w in_all after2 l m r y1 (adds_both w in_any after3 m n r y2 (adds_both w in_one after4 n o r y3
    (adds_both w chosen after5 o p r x4 (adds_both w depending referred p q r x5 x6))))

-- ---- one turn of a loop that adds, and its end

module _ {X : Type 0} (F : List X → Bool) (xs : List X) (i : ℕ) where
  pub adds_turn : (x : X) (now next one all : Bool) → i < length xs → x ≡ get_or xs i x
      → F (x ∷ drop (i + 1) xs) ≡ (one || F (drop (i + 1) xs)) → next ≡ (now || one) → (now || F (drop i xs)) ≡ all
      → (next || F (drop (i + 1) xs)) ≡ all
  adds_turn x now next one all h k step new left = ap (λ b. b || F (drop (i + 1) xs)) new
      ∙ (or_assoc now one (F (drop (i + 1) xs)) ∙ (ap (λ b. now || b) (sym step)
      ∙ (ap (λ ys. now || F ys) (sym (drop_item xs i x h k)) ∙ left)))

  pub adds_end : (now first : Bool) → length xs ≤ i → F [] ≡ false → (now || F (drop i xs)) ≡ (first || F xs) → now ≡ (first || F xs)
  adds_end now first h none left = sym (ap (λ ys. now || F ys) (drop_end xs i h) ∙ (ap (λ b. now || b) none ∙ or_false now)) ∙ left

-- ---- `if` and references

module _ (w : Walk) (s t r : Tree) (found : Some r ≡ schema_at s kw.If) (b : Bool) (told : Follows w b (λ f. f r t)) where
  pub branch_none : None ≡ schema_at s (branch b) → (g : Answers) (c : Child)
      → ((answers_in w g).accepts r t && (answers_in w g).evaluates r t c) ≡ branch_evaluates (answers_in w g) s t c
  branch_none n g c =
      let a = answers_in w g in
      let chosen : schema_at s (branch (a.accepts r t)) ≡ None = ap (λ x. schema_at s (branch x)) (sym (told g)) ∙ sym n in
      sym (or_false (a.accepts r t && a.evaluates r t c))
      ∙ (ap (λ o. (a.accepts r t && a.evaluates r t c) || option_map_or (λ q. a.evaluates q t c) o false) (sym chosen)
      ∙ ap (λ o. option_map_or (λ q. (a.accepts q t && a.evaluates q t c)
      || option_map_or (λ p. a.evaluates p t c) (schema_at s (branch (a.accepts q t))) false) o false) found)

  pub branch_some : (u : Tree) → Some u ≡ schema_at s (branch b) → (g : Answers) (c : Child)
      → (((answers_in w g).accepts r t && (answers_in w g).evaluates r t c) || (answers_in w g).evaluates u t c)
      ≡ branch_evaluates (answers_in w g) s t c
  branch_some u n g c =
      let a = answers_in w g in
      let chosen : schema_at s (branch (a.accepts r t)) ≡ Some u = ap (λ x. schema_at s (branch x)) (sym (told g)) ∙ sym n in
      ap (λ o. (a.accepts r t && a.evaluates r t c) || option_map_or (λ q. a.evaluates q t c) o false) (sym chosen)
      ∙ ap (λ o. option_map_or (λ q. (a.accepts q t && a.evaluates q t c)
      || option_map_or (λ p. a.evaluates p t c) (schema_at s (branch (a.accepts q t))) false) o false) found

pub no_branch_added : (a : Answers) (s t : Tree) (c : Child) → None ≡ schema_at s kw.If → branch_evaluates a s t c ≡ false
no_branch_added a s t c n = ap (λ o. option_map_or (λ q. (a.accepts q t && a.evaluates q t c)
    || option_map_or (λ p. a.evaluates p t c) (schema_at s (branch (a.accepts q t))) false) o false) (sym n)

pub target_added : (root : Tree) (a : Answers) (s t r : Tree) (k : Keyword) (c : Child) → Some r ≡ referenced root k s
    → a.evaluates r t c ≡ target_evaluates root k a s t c
target_added root a s t r k c e = ap (λ o. option_map_or (λ q. a.evaluates q t c) o false) e

pub no_target_added : (root : Tree) (a : Answers) (s t : Tree) (k : Keyword) (c : Child) → None ≡ referenced root k s
    → target_evaluates root k a s t c ≡ false
no_target_added root a s t k c e = ap (λ o. option_map_or (λ q. a.evaluates q t c) o false) (sym e)

-- ---- what a schema evaluates by its own keywords

pub evaluated_by : (rest own more b : Bool) → rest ≡ false → own ≡ false → b ≡ more → b ≡ (rest || (own || more))
evaluated_by rest own more b h k e = e ∙ sym (λ i. h i || (k i || more))

pub item_applied : (s : Tree) (i : ℕ) (o : Option Part) → IsItemPart s i o → is_some o ≡ is_some (item_schema s i)
item_applied s i None h = sym (ap is_some h)
item_applied s i (Some p) h = sym (ap is_some h.0)

pub member_applied : (s : Tree) (k : List ℕ) (o : Option Part) → IsMemberPart s k o → is_some o ≡ is_some (member_schema s k)
member_applied s k None h = sym (ap is_some h)
member_applied s k (Some p) h = sym (ap is_some h.0)

-- ---- items, one after the other

pub left_turn : (q : Child → Bool) (vs : List ValueView) (i : ℕ) (x : ValueView) → i < length vs → x ≡ get_or vs i x
    → q (item_at i (tree_of x)) ≡ true → items_pass q i (trees_of (drop i vs)) ≡ items_pass q 0 (trees_of vs)
    → items_pass q (i + 1) (trees_of (drop (i + 1) vs)) ≡ items_pass q 0 (trees_of vs)
left_turn q vs i x h e good left = rw add-one (sym (ap (λ b. b && items_pass q (suc i) (trees_of (drop (suc i) vs))) good)
    ∙ (sym (ap (λ xs. items_pass q i (trees_of xs)) (drop_suc vs i x h e)) ∙ left))

pub left_end : (q : Child → Bool) (vs : List ValueView) (i : ℕ) → length vs ≤ i
    → items_pass q i (trees_of (drop i vs)) ≡ items_pass q 0 (trees_of vs) → items_pass q 0 (trees_of vs) ≡ true
left_end q vs i h left = sym left ∙ ap (λ xs. items_pass q i (trees_of xs)) (drop_end vs i h)

-- ---- what is left for the schema for the rest

members_same : (p q : Child → Bool) → ((k : List ℕ) (u : Tree) → p (member_at k u) ≡ q (member_at k u)) → (ms : Members)
    → members_pass p ms ≡ members_pass q ms
members_same p q e no_members = refl
members_same p q e (member k u ms) = λ i. e k u i && members_same p q e ms i

items_same : (p q : Child → Bool) → ((i : ℕ) (u : Tree) → p (item_at i u) ≡ q (item_at i u)) → (n : ℕ) (us : Items)
    → items_pass p n us ≡ items_pass q n us
items_same p q e n no_items = refl
items_same p q e n (item u us) = λ i. e n u i && items_same p q e (suc n) us i

members_all : (ms : Members) → members_pass (λ c. true) ms ≡ true
members_all no_members = refl
members_all (member k u ms) = members_all ms

items_all : (n : ℕ) (us : Items) → items_pass (λ c. true) n us ≡ true
items_all n no_items = refl
items_all n (item u us) = items_all (suc n) us

pub no_member_rest : (root : Tree) (a : Answers) (s : Tree) (ms : Members) → None ≡ schema_at s kw.UnevaluatedProperties
    → rest_accepted root a s (object ms) ≡ true
no_member_rest root a s ms n = members_same (rest_accepts root a s (object ms)) (λ c. true)
    (λ k u. ap (λ o. option_map_or (λ r. others_evaluate root a s (object ms) (member_at k u) || a.accepts r u) o true) (sym n)) ms
    ∙ members_all ms

pub no_item_rest : (root : Tree) (a : Answers) (s : Tree) (us : Items) → None ≡ schema_at s kw.UnevaluatedItems
    → rest_accepted root a s (array us) ≡ true
no_item_rest root a s us n = items_same (rest_accepts root a s (array us)) (λ c. true)
    (λ i u. ap (λ o. option_map_or (λ r. others_evaluate root a s (array us) (item_at i u) || a.accepts r u) o true) (sym n)) 0 us
    ∙ items_all 0 us

pub no_rest : (root : Tree) (a : Answers) (s t : Tree) → kind.Object ≢ kind_of t → kind.Array ≢ kind_of t
    → rest_accepted root a s t ≡ true
no_rest root a s (object ms) n o = absurd (n refl)
no_rest root a s (array ts) n o = absurd (o refl)
no_rest root a s _ n o = refl

-- such a place is one of the schema that asks
rest_place : (w : Walk) (s t r : Tree) (xs : List Source) (a : Keyword) (v : Violation)
    → ((g : Answers) (c : Child) → sources_evaluate g xs c ≡ others_evaluate (view w.ground.now.whole.now.root.now) (answers_in w g) s t c)
    → Some r ≡ schema_at s a → InRest w a xs r t v → FindsRest w s t (Ok (Some v))
rest_place w s t r xs a v sources e h =
    reported (root_of w) (suc w.steps) s t v _ _
    (h.placed.0 ∙ ap (λ k. name k ∷ h.location) (sym h.keyword), h.placed.1)
    (in_rest h.child (ap (schema_at s) h.keyword ∙ sym e) h.named (λ g. sym (sources g h.child) ∙ h.left g) h.invalid)

pub members_found : (w : Walk) (s r : Tree) (ms : Members) (xs : List Source) (x : Result (Option Violation) CheckError)
    → ((g : Answers) (c : Child) → sources_evaluate g xs c ≡ others_evaluate (view w.ground.now.whole.now.root.now) (answers_in w g) s
    (object ms) c)
    → AreReached (root_tree w) (suc w.steps) s (object ms) xs → Some r ≡ schema_at s kw.UnevaluatedProperties
    → FindsLeft w kw.UnevaluatedProperties xs r (object ms) x → FindsRest w s (object ms) x
members_found w s r ms xs (Ok None) sources reached e h = λ g.
    members_same (rest_accepts (view w.ground.now.whole.now.root.now) (answers_in w g) s (object ms))
    (λ c. sources_evaluate g xs c || says w g r (value_of c))
    (λ k u. ap (λ o. option_map_or (λ q. others_evaluate (view w.ground.now.whole.now.root.now) (answers_in w g) s (object ms)
    (member_at k u)
    || says w g q u) o
    true) (sym e) ∙ ap (λ b. b || says w g r u) (sym (sources g (member_at k u)))) ms ∙ h g
members_found w s r ms xs (Ok (Some v)) sources reached e h = rest_place w s (object ms) r xs kw.UnevaluatedProperties v sources e h
members_found w s r ms xs (Err x) sources reached e h = if_deep x (λ f. f s (sym e) reached) h

pub items_found : (w : Walk) (s r : Tree) (us : Items) (xs : List Source) (x : Result (Option Violation) CheckError)
    → ((g : Answers) (c : Child) → sources_evaluate g xs c ≡ others_evaluate (view w.ground.now.whole.now.root.now) (answers_in w g) s
    (array us) c)
    → AreReached (root_tree w) (suc w.steps) s (array us) xs → Some r ≡ schema_at s kw.UnevaluatedItems
    → FindsLeft w kw.UnevaluatedItems xs r (array us) x → FindsRest w s (array us) x
items_found w s r us xs (Ok None) sources reached e h = λ g.
    items_same (rest_accepts (view w.ground.now.whole.now.root.now) (answers_in w g) s (array us))
    (λ c. sources_evaluate g xs c || says w g r (value_of c))
    (λ i u. ap (λ o. option_map_or (λ q. others_evaluate (view w.ground.now.whole.now.root.now) (answers_in w g) s (array us) (item_at i u)
    || says w g q u) o
    true) (sym e) ∙ ap (λ b. b || says w g r u) (sym (sources g (item_at i u)))) 0 us ∙ h g
items_found w s r us xs (Ok (Some v)) sources reached e h = rest_place w s (array us) r xs kw.UnevaluatedItems v sources e h
items_found w s r us xs (Err x) sources reached e h = if_deep x (λ f. f s (sym e) reached) h
