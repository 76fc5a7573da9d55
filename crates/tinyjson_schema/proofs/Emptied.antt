-- There is no violation exactly where the schema accepts the value.
use Rattle.std.proofs.Common.{◌≡◌, ◌<◌, ◌+◌, ℕ, zero, suc, Bool, true, false, not, ◌&&◌, ◌||◌, List, [], ◌∷◌, ◌++◌, Option, Some, None}
use Rattle.std.proofs.Common.{cond, is_some, map, take, refl, sym, ap, ◌∙◌, arith, true≢false}
use Rattle.std.specs.Option.{option_map_or}
use Rattle.tinyjson.specs.Tree.{Tree, Items, no_items, item, Members, no_members, member, array, object}
use Rattle.text_iregexp.specs.PatternDeciding.{is_found}
use Rattle.tinyjson.specs.Index.{tree_at_key}
use Rattle.tinyjson_schema_assertions.specs.Assertions.{meets, meets_all, assertions}
use Rattle.tinyjson_schema_keywords.specs.Applied.{schema_at, schemas_at, schema_map_at, items_in, members_in, branch}
use Rattle.tinyjson_schema_keywords.specs.References.{referenced}
use Rattle.tinyjson_schema_keywords.specs.declared.keyword.Keyword.{Keyword}
use Rattle.tinyjson_schema_keywords.specs.declared.keyword.Keyword.TheVariants as kw
use Rattle.tinyjson_schema.specs.Applicators.{Judge, all_accept, branch_accepts, dependents_accept, found_pass, patterns_accept}
use Rattle.tinyjson_schema.specs.Applicators.{applies, apply_all, tests, demands, members_accepted, items_accepted, parts_accepted}
use Rattle.tinyjson_schema.specs.Evaluated.{Answers, Child, member_at, item_at, others_evaluate, rest_accepts, rest_accepted}
use Rattle.tinyjson_schema.specs.Evaluated.{members_pass, items_pass, children_pass}
use Rattle.tinyjson_schema.specs.Every.{Token, token, index, word, Spot, spot_of, here, at_keyword, Use, same, within, by}
use Rattle.tinyjson_schema.specs.Every.{all_uses, uses_at, branch_uses, dependent_uses, found_uses, pattern_uses, target_uses}
use Rattle.tinyjson_schema.specs.Every.{uses_of_member, member_uses, uses_of_item, item_uses, left_members, left_items}
use Rattle.tinyjson_schema.specs.Every.{rest_members, rest_items, uses}
use Rattle.tinyjson_schema.specs.Every.{failing, own, under, spread, every, AreFirst, AreNoneIfValid}
use Rattle.tinyjson_schema.specs.Parts.{or_else, property, additional, prefix_item}
use Rattle.tinyjson_schema.specs.Valid.{Root, IsValidIn, judge, answers, refuses_all, target_accepts, reference_accepts}
use Rattle.tinyjson_schema.specs.declared.violation.Violation.{Violation}
use Rattle.tinyjson_schema.proofs.Validity.{further}

-- ---- Booleans

and_true : (b : Bool) → (b && true) ≡ b
and_true true = refl
and_true false = refl

and_assoc : (a b c : Bool) → (a && (b && c)) ≡ ((a && b) && c)
and_assoc true b c = refl
and_assoc false b c = refl

both : {a b c d : Bool} → a ≡ b → c ≡ d → (a && c) ≡ (b && d)
both h k = λ i. h i && k i

twice : (b c : Bool) → (not (not b) || c) ≡ (b || c)
twice true c = refl
twice false c = refl

-- the order of `uses`, and that of `accepts_by`
regroup : (a b c d e f p r : Bool)
    → (a && (b && (c && (d && (e && (f && (p && r))))))) ≡ ((a && (b && (c && (d && true)))) && ((e && f) && (p && r)))
regroup false b c d e f p r = refl
regroup true false c d e f p r = refl
regroup true true false d e f p r = refl
regroup true true true false e f p r = refl
regroup true true true true false f p r = refl
regroup true true true true true f p r = refl

-- ---- empty lists

abbrev is_none : {X : Type 0} → List X → Bool
is_none [] = true
is_none (x ∷ xs) = false

none_of_both : {X : Type 0} (xs ys : List X) → is_none (xs ++ ys) ≡ (is_none xs && is_none ys)
none_of_both [] ys = refl
none_of_both (x ∷ xs) ys = refl

none_of_map : {X Y : Type 0} (f : X → Y) (xs : List X) → is_none (map f xs) ≡ is_none xs
none_of_map f [] = refl
none_of_map f (x ∷ xs) = refl

none_if : {X : Type 0} (b : Bool) (x : X) → is_none (cond b [] (x ∷ [])) ≡ b
none_if true x = refl
none_if false x = refl

none_unless : {X : Type 0} (b : Bool) (x : X) (xs : List X) → is_none (cond b (x ∷ []) xs) ≡ (not b && is_none xs)
none_unless true x xs = refl
none_unless false x xs = refl

-- each keyword passes where none fails
none_failing : (s t : Tree) (ks : List Keyword) → is_none (failing (λ k. meets k s t) ks) ≡ meets_all ks s t
none_failing s t [] = refl
none_failing s t (k ∷ ks) =
    none_of_both (cond (meets k s t) [] (k ∷ [])) (failing (λ k. meets k s t) ks) ∙ both (none_if (meets k s t) k) (none_failing s t ks)

none_applied : (f : Judge) (s t : Tree) (ks : List Keyword) → is_none (failing (λ k. applies f k s t) ks) ≡ apply_all f ks s t
none_applied f s t [] = refl
none_applied f s t (k ∷ ks) =
    none_of_both (cond (applies f k s t) [] (k ∷ [])) (failing (λ k. applies f k s t) ks)
    ∙ both (none_if (applies f k s t) k) (none_applied f s t ks)

none_own : (root : Root) (f : Judge) (s t : Tree)
    → is_none (own root f s t) ≡ (meets_all (assertions root.formats) s t && apply_all f tests s t)
none_own root f s t =
    none_of_both (failing (λ k. meets k s t) (assertions root.formats)) (failing (λ k. applies f k s t) tests)
    ∙ both (none_failing s t (assertions root.formats)) (none_applied f s t tests)

-- ---- the schemas that are applied all accept

abbrev all_hold : (Use → Bool) → List Use → Bool
all_hold q [] = true
all_hold q (u ∷ us) = q u && all_hold q us

hold_both : (q : Use → Bool) (us vs : List Use) → all_hold q (us ++ vs) ≡ (all_hold q us && all_hold q vs)
hold_both q [] vs = refl
hold_both q (u ∷ us) vs = ap (λ b. q u && b) (hold_both q us vs) ∙ and_assoc (q u) (all_hold q us) (all_hold q vs)

-- nothing is spread where none of them has a violation
none_spread : (f : Use → List Spot) (q : Use → Bool) → ((u : Use) → is_none (f u) ≡ q u) → (us : List Use)
    → is_none (spread f us) ≡ all_hold q us
none_spread f q e [] = refl
none_spread f q e (u ∷ us) =
    none_of_both (map (under u) (f u)) (spread f us) ∙ both (none_of_map (under u) (f u) ∙ e u) (none_spread f q e us)

module _ (f : Judge) where
  abbrev accepted : Use → Bool
  accepted u = f u.schema u.value

  hold_if : (b : Bool) (u : Use) → all_hold accepted (cond b (u ∷ []) []) ≡ (not b || accepted u)
  hold_if true u = and_true (accepted u)
  hold_if false u = refl

  hold_option : (o : Option Tree) (ks : Tree → List Token) (t : Tree)
      → all_hold accepted (option_map_or (λ r. same (ks r) r t ∷ []) o []) ≡ option_map_or (λ r. f r t) o true
  hold_option (Some r) ks t = and_true (f r t)
  hold_option None ks t = refl

  hold_all_of : (i : ℕ) (rs : Items) (t : Tree) → all_hold accepted (all_uses i rs t) ≡ all_accept f rs t
  hold_all_of i no_items t = refl
  hold_all_of i (item r rs) t = ap (λ b. f r t && b) (hold_all_of (suc i) rs t)

  hold_branch : (s t : Tree) (o : Option Tree) → all_hold accepted (option_map_or (λ r. uses_at (branch (f r t)) s t) o [])
      ≡ option_map_or (λ r. branch_accepts f s t (f r t)) o true
  hold_branch s t (Some r) = hold_option (schema_at s (branch (f r t))) (λ q. word (branch (f r t)) ∷ []) t
  hold_branch s t None = refl

  hold_dependents : (rs : Members) (t : Tree) → all_hold accepted (dependent_uses rs t) ≡ dependents_accept f rs t
  hold_dependents no_members t = refl
  hold_dependents (member k r rs) t =
      let b = is_some (tree_at_key t k) in
      let u = same (word kw.DependentSchemas ∷ token k ∷ []) r t in
      hold_both accepted (cond b (u ∷ []) []) (dependent_uses rs t) ∙ both (hold_if b u) (hold_dependents rs t)

  hold_found : (p : List ℕ) (r : Tree) (ms : Members) → all_hold accepted (found_uses p r ms) ≡ found_pass (f r) p ms
  hold_found p r no_members = refl
  hold_found p r (member k u ms) =
      let one = within (word kw.PatternProperties ∷ token p ∷ []) (token k) r u in
      hold_both accepted (cond (is_found p k) (one ∷ []) []) (found_uses p r ms) ∙ both (hold_if (is_found p k) one) (hold_found p r ms)

  hold_patterns : (rs ms : Members) → all_hold accepted (pattern_uses rs ms) ≡ patterns_accept f rs ms
  hold_patterns no_members ms = refl
  hold_patterns (member p r rs) ms =
      hold_both accepted (found_uses p r ms) (pattern_uses rs ms) ∙ both (hold_found p r ms) (hold_patterns rs ms)

  -- the schema of one keyword for a part, or else that of the other
  hold_else : (a b : Keyword) (k : Token) (u : Tree) (o p : Option Tree)
      → all_hold accepted (option_map_or (λ r. by a k r u ∷ []) o (option_map_or (λ r. by b k r u ∷ []) p []))
      ≡ option_map_or (λ r. f r u) (or_else o p) true
  hold_else a b k u (Some r) p = and_true (f r u)
  hold_else a b k u None (Some r) = and_true (f r u)
  hold_else a b k u None None = refl

  hold_members : (s : Tree) (ms : Members) → all_hold accepted (member_uses s ms) ≡ members_accepted f s ms
  hold_members s no_members = refl
  hold_members s (member k u ms) =
      hold_both accepted (uses_of_member s k u) (member_uses s ms)
      ∙ both (hold_else kw.Properties kw.AdditionalProperties (token k) u (property s k) (additional s k)) (hold_members s ms)

  hold_items : (s : Tree) (i : ℕ) (us : Items) → all_hold accepted (item_uses s i us) ≡ items_accepted f s i us
  hold_items s i no_items = refl
  hold_items s i (item u us) =
      hold_both accepted (uses_of_item s i u) (item_uses s (suc i) us)
      ∙ both (hold_else kw.PrefixItems kw.Items (index i) u (prefix_item s i) (schema_at s kw.Items)) (hold_items s (suc i) us)

  hold_parts : (s t : Tree) → (all_hold accepted (member_uses s (members_in t)) && all_hold accepted (item_uses s 0 (items_in t)))
      ≡ parts_accepted f s t
  hold_parts s (object ms) = and_true (all_hold accepted (member_uses s ms)) ∙ hold_members s ms
  hold_parts s (array us) = hold_items s 0 us
  hold_parts s _ = refl

  -- p accepts what q leaves
  module _ (q p : Child → Bool) where
    hold_left_members : (o : Option Tree) → ((k : List ℕ) (u : Tree)
        → p (member_at k u) ≡ option_map_or (λ r. q (member_at k u) || f r u) o true) → (ms : Members)
        → all_hold accepted (option_map_or (λ r. left_members q r ms) o []) ≡ members_pass p ms
    hold_left_members (Some r) e no_members = refl
    hold_left_members (Some r) e (member k u ms) =
        let b = q (member_at k u) in
        let one = by kw.UnevaluatedProperties (token k) r u in
        hold_both accepted (cond (not b) (one ∷ []) []) (left_members q r ms)
        ∙ both (hold_if (not b) one ∙ (twice b (f r u) ∙ sym (e k u))) (hold_left_members (Some r) e ms)
    hold_left_members None e no_members = refl
    hold_left_members None e (member k u ms) = both (sym (e k u)) (hold_left_members None e ms)

    hold_left_items : (o : Option Tree) → ((i : ℕ) (u : Tree)
        → p (item_at i u) ≡ option_map_or (λ r. q (item_at i u) || f r u) o true) → (i : ℕ) (us : Items)
        → all_hold accepted (option_map_or (λ r. left_items q r i us) o []) ≡ items_pass p i us
    hold_left_items (Some r) e i no_items = refl
    hold_left_items (Some r) e i (item u us) =
        let b = q (item_at i u) in
        let one = by kw.UnevaluatedItems (index i) r u in
        hold_both accepted (cond (not b) (one ∷ []) []) (left_items q r (suc i) us)
        ∙ both (hold_if (not b) one ∙ (twice b (f r u) ∙ sym (e i u))) (hold_left_items (Some r) e (suc i) us)
    hold_left_items None e i no_items = refl
    hold_left_items None e i (item u us) = both (sym (e i u)) (hold_left_items None e (suc i) us)

    hold_rest : (o w : Option Tree)
        → ((k : List ℕ) (u : Tree) → p (member_at k u) ≡ option_map_or (λ r. q (member_at k u) || f r u) o true)
        → ((i : ℕ) (u : Tree) → p (item_at i u) ≡ option_map_or (λ r. q (item_at i u) || f r u) w true) → (t : Tree)
        → (all_hold accepted (option_map_or (λ r. left_members q r (members_in t)) o [])
        && all_hold accepted (option_map_or (λ r. left_items q r 0 (items_in t)) w [])) ≡ children_pass p t
    hold_rest o w e d (object ms) = both (hold_left_members o e ms) (hold_left_items w d 0 no_items) ∙ and_true (members_pass p ms)
    hold_rest o w e d (array us) = both (hold_left_members o e no_members) (hold_left_items w d 0 us)
    hold_rest o w e d _ = both (hold_left_members o e no_members) (hold_left_items w d 0 no_items)

-- the schemas that s applies all accept
module _ (root : Root) (a : Answers) (s t : Tree) where
  abbrev q : Use → Bool
  q u = a.accepts u.schema u.value

  abbrev after_dynamic : List Use
  after_dynamic = member_uses s (members_in t) ++ (item_uses s 0 (items_in t)
      ++ (rest_members (others_evaluate root.tree a s t) s t ++ rest_items (others_evaluate root.tree a s t) s t))

  abbrev after_patterns : List Use
  after_patterns = target_uses root.tree kw.Ref s t ++ (target_uses root.tree kw.DynamicRef s t ++ after_dynamic)

  hold_after_dynamic : all_hold q after_dynamic ≡ (parts_accepted a.accepts s t && rest_accepted root.tree a s t)
  hold_after_dynamic =
      let members = member_uses s (members_in t) in
      let items = item_uses s 0 (items_in t) in
      let left = rest_members (others_evaluate root.tree a s t) s t in
      let more = rest_items (others_evaluate root.tree a s t) s t in
      hold_both q members (items ++ (left ++ more))
      ∙ (ap (λ b. all_hold q members && b) (hold_both q items (left ++ more) ∙ ap (λ b. all_hold q items && b) (hold_both q left more))
      ∙ (and_assoc (all_hold q members) (all_hold q items) (all_hold q left && all_hold q more)
      ∙ both (hold_parts a.accepts s t)
      (hold_rest a.accepts (others_evaluate root.tree a s t) (rest_accepts root.tree a s t)
      (schema_at s kw.UnevaluatedProperties) (schema_at s kw.UnevaluatedItems) (λ k u. refl) (λ i u. refl) t)))

  hold_after_patterns : all_hold q after_patterns ≡ (option_map_or (λ r. a.accepts r t) (referenced root.tree kw.Ref s) true
      && (option_map_or (λ r. a.accepts r t) (referenced root.tree kw.DynamicRef s) true
      && (parts_accepted a.accepts s t && rest_accepted root.tree a s t)))
  hold_after_patterns =
      hold_both q (target_uses root.tree kw.Ref s t) (target_uses root.tree kw.DynamicRef s t ++ after_dynamic)
      ∙ both (hold_option a.accepts (referenced root.tree kw.Ref s) (λ r. word kw.Ref ∷ []) t)
      (hold_both q (target_uses root.tree kw.DynamicRef s t) after_dynamic
      ∙ both (hold_option a.accepts (referenced root.tree kw.DynamicRef s) (λ r. word kw.DynamicRef ∷ []) t) hold_after_dynamic)

  hold_uses : all_hold q (uses root.tree a s t) ≡ (apply_all a.accepts demands s t && (reference_accepts root.tree a.accepts s t
      && (parts_accepted a.accepts s t && rest_accepted root.tree a s t)))
  hold_uses =
      let f = a.accepts in
      let listed = all_uses 0 (schemas_at s kw.AllOf) t in
      let chosen = branch_uses f s t in
      let dependent = dependent_uses (schema_map_at s kw.DependentSchemas) t in
      let matched = pattern_uses (schema_map_at s kw.PatternProperties) (members_in t) in
      hold_both q listed (chosen ++ (dependent ++ (matched ++ after_patterns)))
      ∙ (both (hold_all_of f 0 (schemas_at s kw.AllOf) t) (hold_both q chosen (dependent ++ (matched ++ after_patterns))
      ∙ both (hold_branch f s t (schema_at s kw.If)) (hold_both q dependent (matched ++ after_patterns)
      ∙ both (hold_dependents f (schema_map_at s kw.DependentSchemas) t) (hold_both q matched after_patterns
      ∙ both (hold_patterns f (schema_map_at s kw.PatternProperties) (members_in t)) hold_after_patterns)))
      ∙ regroup (applies f kw.AllOf s t) (applies f kw.If s t) (applies f kw.DependentSchemas s t) (applies f kw.PatternProperties s t)
      (target_accepts root.tree kw.Ref f s t) (target_accepts root.tree kw.DynamicRef f s t) (parts_accepted f s t)
      (rest_accepted root.tree a s t))

-- ---- no violation, and a schema that accepts

none_every : (root : Root) (n : ℕ) (g : Answers) (s t : Tree) → is_none (every root n g s t) ≡ judge root n g s t
none_every root zero g s t = none_if (g.accepts s t) here
none_every root (suc n) g s t =
    let a = answers root n g in
    let keywords = own root a.accepts s t in
    let f = λ (u : Use). every root n g u.schema u.value in
    let others = spread f (uses root.tree a s t) in
    let applied = apply_all a.accepts demands s t && (reference_accepts root.tree a.accepts s t && (parts_accepted a.accepts s t
    && rest_accepted root.tree a s t)) in
    none_unless (refuses_all s) here (map at_keyword keywords ++ others)
    ∙ ap (λ b. not (refuses_all s) && b) (none_of_both (map at_keyword keywords) others
    ∙ (both (none_of_map at_keyword keywords ∙ none_own root a.accepts s t)
    (none_spread f (λ u. a.accepts u.schema u.value) (λ u. none_every root n g u.schema u.value) (uses root.tree a s t)
    ∙ hold_uses root a s t)
    ∙ sym (and_assoc (meets_all (assertions root.formats) s t) (apply_all a.accepts tests s t) applied)))

none_taken : {X : Type 0} (n : ℕ) (xs : List X) → 0 < n → take n xs ≡ [] → is_none xs ≡ true
none_taken n [] h e = refl
none_taken zero (x ∷ xs) h e = absurd (omega (arith, h))
none_taken (suc n) (x ∷ xs) h e = cc

taken_none : {X : Type 0} (n : ℕ) (xs : List X) → is_none xs ≡ true → take n xs ≡ []
taken_none zero [] e = refl
taken_none (suc n) [] e = refl
taken_none n (x ∷ xs) e = absurd (true≢false (sym e))

mapped_none : {X Y : Type 0} (f : X → Y) (xs : List X) → map f xs ≡ [] → xs ≡ []
mapped_none f [] e = refl
mapped_none f (x ∷ xs) e = cc

module _ (limit : ℕ) (root : Root) (n : ℕ) (t : Tree) (vs : List Violation) (h : AreFirst limit root n t vs) where
  valid_from_none : 0 < limit → vs ≡ [] → IsValidIn root t
  valid_from_none some e = (
    n,
    λ g. sym (none_every root n g root.tree t)
        ∙ none_taken limit (every root n g root.tree t) some (sym (h g) ∙ ap (map spot_of) e),
  )

  none_from_valid : IsValidIn root t → vs ≡ []
  none_from_valid v =
      let m = v.0 in
      let g : Answers = record { accepts = λ r u. true; evaluates = λ r u c. true } in
      let b = answers root m g in
      let commute : answers root n b ≡ answers root m (answers root n g)
      = further root n m (n + m) g refl ∙ sym (further root m n (n + m) g (omega arith)) in
      mapped_none spot_of vs (h b ∙ taken_none limit (every root n b root.tree t) (none_every root n b root.tree t
      ∙ (ap (λ (a : Answers). a.accepts root.tree t) commute ∙ v.1 (answers root n g))))

  pub none_exactly : AreNoneIfValid limit root t vs
  none_exactly some = (valid_from_none some, none_from_valid)
