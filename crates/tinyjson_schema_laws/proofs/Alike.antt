-- Two schemas of which the keywords have the same values, or subschemas with the same results, have the same results
-- for a value. For a keyword that applies schemas to the value itself, those must have the same results for it; for the
-- others the same for what is below the value.
use Rattle.std.proofs.Common.{◌≡◌, ℕ, zero, suc, ◌+◌, ◌==◌, Bool, true, false, not, ◌&&◌, ◌||◌, List, [], ◌∷◌, Option, Some, None}
use Rattle.std.proofs.Common.{cond, is_some, refl, sym, ap, ◌∙◌, true≢false, bytes_eq, subst}
use Rattle.std.proofs.lemmas.Bool.{and_parts}
use Rattle.std.specs.Option.{option_map_or}
use Rattle.std.specs.Prelude.{option_and_then, ⊤}
use Rattle.tinyjson.specs.Index.{tree_at, tree_at_key, nth}
use Rattle.tinyjson.specs.Tree.{Tree, string, array, object, Items, no_items, item, Members, no_members, member, find}
use Rattle.text_iregexp.specs.PatternDeciding.{is_found}
use Rattle.tinyjson_schema_keywords.specs.Applied.{schema_at, schemas_at, schema_map_at, items_in, members_in, branch}
use Rattle.tinyjson_schema_keywords.specs.Forms.{form_of, is_some_item}
use Rattle.tinyjson_schema_keywords.specs.declared.keyword.Form.{Form}
use Rattle.tinyjson_schema_keywords.specs.declared.keyword.Form.TheVariants as form
use Rattle.tinyjson_schema_keywords.specs.declared.keyword.Keyword.{Keyword}
use Rattle.tinyjson_schema_keywords.specs.declared.keyword.Keyword.TheVariants as kw
use Rattle.tinyjson_schema_assertions.specs.Assertions.{meets_all, assertions, accepts}
use Rattle.tinyjson_schema_assertions.specs.Assertions.{is_count_at_most, is_count_at_least}
use Rattle.tinyjson_schema.specs.Applicators.{all_accept, some_accepts, accepting, keys_pass, passing, items_passing, contained}
use Rattle.tinyjson_schema.specs.Applicators.{is_zero, branch_accepts, dependents_accept}
use Rattle.tinyjson_schema.specs.Applicators.{found_pass, patterns_accept, apply_all, tests, demands}
use Rattle.tinyjson_schema.specs.Applicators.{members_accepted, items_accepted, parts_accepted}
use Rattle.tinyjson_schema.specs.Evaluated.{Answers, Child, member_at, item_at, value_of, rest_keyword, applies_to, some_evaluate}
use Rattle.tinyjson_schema.specs.Evaluated.{accepting_evaluate, branch_evaluates, dependents_evaluate}
use Rattle.tinyjson_schema.specs.Evaluated.{children_pass, members_pass, items_pass}
use Rattle.tinyjson_schema.specs.Parts.{property, some_found, additional, prefix_item, or_else, member_schema, item_schema}
use Rattle.tinyjson_schema.specs.Valid.{refuses_all}
use Rattle.tinyjson_schema_laws.proofs.Bisimilar.{OptRel, AllRel, MapRel, ValueRel, listed, mapped, is_applied}

-- ---- values of keywords that are related

abbrev pub is_plain : Form → Bool
is_plain form.Base = false
is_plain form.Anchor = false
is_plain form.Reference = false
is_plain form.Schema = false
is_plain form.Schemas = false
is_plain form.SchemaMap = false
is_plain form.PatternMap = false
is_plain _ = true

-- the keyword applies its schemas to the value itself
abbrev pub is_here : Keyword → Bool
is_here kw.AllOf = true
is_here kw.AnyOf = true
is_here kw.OneOf = true
is_here kw.Not = true
is_here kw.If = true
is_here kw.Then = true
is_here kw.Else = true
is_here kw.DependentSchemas = true
is_here _ = false

pub here_applied : (k : Keyword) → is_here k ≡ true → is_applied k ≡ true
here_applied kw.Defs e = e
here_applied _ e = refl

plain_applied : (k : Keyword) → is_plain (form_of k) ≡ true → is_applied k ≡ true
plain_applied kw.Defs e = e
plain_applied _ e = refl

module _ (R : Tree → Tree → Type 0) where
  pub plain_same : (f : Form) (o p : Option Tree) → is_plain f ≡ true → ValueRel R f o p → o ≡ p
  plain_same form.Base o p e h = absurd (true≢false (sym e))
  plain_same form.Anchor o p e h = absurd (true≢false (sym e))
  plain_same form.Reference o p e h = absurd (true≢false (sym e))
  plain_same form.Schema o p e h = absurd (true≢false (sym e))
  plain_same form.Schemas o p e h = absurd (true≢false (sym e))
  plain_same form.SchemaMap o p e h = absurd (true≢false (sym e))
  plain_same form.PatternMap o p e h = absurd (true≢false (sym e))
  plain_same _ o p e h = h

  pub map_or_same : {X : Type 0} (F G : Tree → X) (d : X) (o p : Option Tree) → ((r q : Tree) → R r q → F r ≡ G q) → OptRel R o p
      → option_map_or F o d ≡ option_map_or G p d
  map_or_same F G d None None h s = refl
  map_or_same F G d None (Some q) h s = absurd s
  map_or_same F G d (Some r) None h s = absurd s
  map_or_same F G d (Some r) (Some q) h s = h r q s

  and_then_same : {X : Type 0} (F G : Tree → Option X) (o p : Option Tree) → ((r q : Tree) → R r q → F r ≡ G q) → OptRel R o p
      → option_and_then F o ≡ option_and_then G p
  and_then_same F G None None h s = refl
  and_then_same F G None (Some q) h s = absurd s
  and_then_same F G (Some r) None h s = absurd s
  and_then_same F G (Some r) (Some q) h s = h r q s

  some_same : (o p : Option Tree) → OptRel R o p → is_some o ≡ is_some p
  some_same None None s = refl
  some_same None (Some q) s = absurd s
  some_same (Some r) None s = absurd s
  some_same (Some r) (Some q) s = refl

  or_else_same : (o p o' p' : Option Tree) → OptRel R o p → OptRel R o' p' → OptRel R (or_else o o') (or_else p p')
  or_else_same None None o' p' s h = h
  or_else_same None (Some q) o' p' s h = absurd s
  or_else_same (Some r) None o' p' s h = absurd s
  or_else_same (Some r) (Some q) o' p' s h = s

  unless_same : (x y : Bool) (o p : Option Tree) → x ≡ y → OptRel R o p → OptRel R (cond x None o) (cond y None p)
  unless_same true true o p e s = tt
  unless_same true false o p e s = absurd (true≢false e)
  unless_same false true o p e s = absurd (true≢false (sym e))
  unless_same false false o p e s = s

  some_item_same : (rs qs : Items) → AllRel R rs qs → is_some_item rs ≡ is_some_item qs
  some_item_same no_items no_items h = refl
  some_item_same no_items (item q qs) h = absurd h
  some_item_same (item r rs) no_items h = absurd h
  some_item_same (item r rs) (item q qs) h = refl

  nth_same : (rs qs : Items) (i : ℕ) → AllRel R rs qs → OptRel R (nth rs i) (nth qs i)
  nth_same no_items no_items i h = tt
  nth_same no_items (item q qs) i h = absurd h
  nth_same (item r rs) no_items i h = absurd h
  nth_same (item r rs) (item q qs) zero h = h.0
  nth_same (item r rs) (item q qs) (suc i) h = nth_same rs qs i h.1

  hit_same : (x y : Bool) (r q : Tree) (o p : Option Tree) → x ≡ y → R r q → OptRel R o p
      → OptRel R (cond x (Some r) o) (cond y (Some q) p)
  hit_same true true r q o p e s h = s
  hit_same true false r q o p e s h = absurd (true≢false e)
  hit_same false true r q o p e s h = absurd (true≢false (sym e))
  hit_same false false r q o p e s h = h

  find_same : (k : List ℕ) (rs qs : Members) → MapRel R rs qs → OptRel R (find k rs) (find k qs)
  find_same k no_members no_members h = tt
  find_same k no_members (member l q qs) h = absurd h
  find_same k (member l r rs) no_members h = absurd h
  find_same k (member l r rs) (member m q qs) h =
      hit_same _ _ r q (find k rs) (find k qs) (ap (bytes_eq k) h.0) h.1 (find_same k rs qs h.2)

  found_same : (k : List ℕ) (rs qs : Members) → MapRel R rs qs → some_found rs k ≡ some_found qs k
  found_same k no_members no_members h = refl
  found_same k no_members (member l q qs) h = absurd h
  found_same k (member l r rs) no_members h = absurd h
  found_same k (member l r rs) (member m q qs) h = λ i. is_found (h.0 i) k || found_same k rs qs h.2 i

  carried : (o o' p p' : Option Tree) → o ≡ o' → p ≡ p' → OptRel R o' p' → OptRel R o p
  carried o o' p p' e f h = subst (λ x. OptRel R x p) (sym e) (subst (λ x. OptRel R o' x) (sym f) h)

  module _ (s t : Tree) (same : (k : Keyword) → is_applied k ≡ true → ValueRel R (form_of k) (schema_at s k) (schema_at t k)) where
    in_map : (o : Option Tree) (k : List ℕ) → option_and_then (λ p. tree_at_key p k) o ≡ find k (mapped o)
    in_map None k = refl
    in_map (Some (object ms)) k = refl
    in_map (Some _) k = refl

    in_list : (o : Option Tree) (i : ℕ) → option_and_then (λ p. tree_at p i) o ≡ nth (listed o) i
    in_list None i = refl
    in_list (Some (array ts)) i = refl
    in_list (Some _) i = refl

    -- the schemas for the parts of a value
    member_same : (k : List ℕ) → OptRel R (member_schema s k) (member_schema t k)
    member_same k = or_else_same (property s k) (property t k) (additional s k) (additional t k)
        (carried _ _ _ _ (in_map (schema_at s kw.Properties) k) (in_map (schema_at t kw.Properties) k)
        (find_same k _ _ (same kw.Properties refl)))
        (unless_same _ _ _ _ (found_same k _ _ (same kw.PatternProperties refl)) (same kw.AdditionalProperties refl))

    item_same : (i : ℕ) → OptRel R (item_schema s i) (item_schema t i)
    item_same i = or_else_same (prefix_item s i) (prefix_item t i) _ _
        (carried _ _ _ _ (in_list (schema_at s kw.PrefixItems) i) (in_list (schema_at t kw.PrefixItems) i)
        (nth_same _ _ i (same kw.PrefixItems refl))) (same kw.Items refl)

    rest_same : (x : Child) → OptRel R (schema_at s (rest_keyword x)) (schema_at t (rest_keyword x))
    rest_same (member_at k v) = same kw.UnevaluatedProperties refl
    rest_same (item_at n v) = same kw.UnevaluatedItems refl

    value : (k : Keyword) → is_plain (form_of k) ≡ true → schema_at s k ≡ schema_at t k
    value k e = plain_same (form_of k) (schema_at s k) (schema_at t k) e (same k (plain_applied k e))

    abbrev are_plain : List Keyword → Bool
    are_plain [] = true
    are_plain (k ∷ ks) = is_plain (form_of k) && are_plain ks

    meets_all_same : (u : Tree) (ks : List Keyword) → are_plain ks ≡ true → meets_all ks s u ≡ meets_all ks t u
    meets_all_same u [] e = refl
    meets_all_same u (k ∷ ks) e =
        let p = and_parts (is_plain (form_of k)) (are_plain ks) e in
        λ i. option_map_or (λ w. accepts k w u) (value k p.0 i) true && meets_all_same u ks p.1 i

    asserted : (formats : Bool) (u : Tree) → meets_all (assertions formats) s u ≡ meets_all (assertions formats) t u
    asserted true u = meets_all_same u (assertions true) refl
    asserted false u = meets_all_same u (assertions false) refl

-- ---- tests of what is below a value

module _ (Below : Tree → Type 0) where
  abbrev pub ItemsBelow : Items → Type 0
  ItemsBelow no_items = ⊤
  ItemsBelow (item v vs) = Below v × ItemsBelow vs

  -- with the keys
  abbrev pub MembersBelow : Members → Type 0
  MembersBelow no_members = ⊤
  MembersBelow (member k v ms) = Below (string k) × Below v × MembersBelow ms

  module _ (p q : Tree → Bool) (same : (w : Tree) → Below w → p w ≡ q w) where
    keys_same : (ms : Members) → MembersBelow ms → keys_pass p ms ≡ keys_pass q ms
    keys_same no_members h = refl
    keys_same (member k v ms) h = λ i. same (string k) h.0 i && keys_same ms h.2 i

    passing_same : (vs : Items) → ItemsBelow vs → passing p vs ≡ passing q vs
    passing_same no_items h = refl
    passing_same (item v vs) h = λ i. cond (same v h.0 i) 1 0 + passing_same vs h.1 i

    items_passing_same : (u : Tree) → ItemsBelow (items_in u) → items_passing p u ≡ items_passing q u
    items_passing_same (array vs) h = λ i. Some (passing_same vs h i)
    items_passing_same _ h = refl

    found_pass_same : (k l : List ℕ) → k ≡ l → (ms : Members) → MembersBelow ms → found_pass p k ms ≡ found_pass q l ms
    found_pass_same k l e no_members h = refl
    found_pass_same k l e (member m v ms) h = λ i. (not (is_found (e i) m) || same v h.1 i) && found_pass_same k l e ms h.2 i

  module _ (p q : Child → Bool) (same : (x : Child) → Below (value_of x) → p x ≡ q x) where
    members_pass_same : (ms : Members) → MembersBelow ms → members_pass p ms ≡ members_pass q ms
    members_pass_same no_members h = refl
    members_pass_same (member k v ms) h = λ i. same (member_at k v) h.1 i && members_pass_same ms h.2 i

    items_pass_same : (n : ℕ) (vs : Items) → ItemsBelow vs → items_pass p n vs ≡ items_pass q n vs
    items_pass_same n no_items h = refl
    items_pass_same n (item v vs) h = λ i. same (item_at n v) h.0 i && items_pass_same (suc n) vs h.1 i

    children_same : (u : Tree) → MembersBelow (members_in u) → ItemsBelow (items_in u) → children_pass p u ≡ children_pass q u
    children_same (object ms) m h = members_pass_same ms m
    children_same (array vs) m h = items_pass_same 0 vs h
    children_same _ m h = refl

-- ---- the results for one value

module _ (a b : Answers) (u : Tree) (Below : Tree → Type 0) where
  -- The results for u are the same: of the first schema in the first results, and of the second in the second ones.
  abbrev pub Here : Tree → Tree → Type 0
  Here r q = (a.accepts r u ≡ b.accepts q u) × ((x : Child) → Below (value_of x) → a.evaluates r u x ≡ b.evaluates q u x)

  -- so are those for the values below u
  abbrev pub Under : Tree → Tree → Type 0
  Under r q = (w : Tree) → Below w → a.accepts r w ≡ b.accepts q w

  -- ---- lists and maps of schemas

  all_same : (rs qs : Items) → AllRel Here rs qs → all_accept a.accepts rs u ≡ all_accept b.accepts qs u
  all_same no_items no_items h = refl
  all_same no_items (item q qs) h = absurd h
  all_same (item r rs) no_items h = absurd h
  all_same (item r rs) (item q qs) h = λ i. h.0.0 i && all_same rs qs h.1 i

  one_same : (rs qs : Items) → AllRel Here rs qs → some_accepts a.accepts rs u ≡ some_accepts b.accepts qs u
  one_same no_items no_items h = refl
  one_same no_items (item q qs) h = absurd h
  one_same (item r rs) no_items h = absurd h
  one_same (item r rs) (item q qs) h = λ i. h.0.0 i || one_same rs qs h.1 i

  count_same : (rs qs : Items) → AllRel Here rs qs → accepting a.accepts rs u ≡ accepting b.accepts qs u
  count_same no_items no_items h = refl
  count_same no_items (item q qs) h = absurd h
  count_same (item r rs) no_items h = absurd h
  count_same (item r rs) (item q qs) h = λ i. cond (h.0.0 i) 1 0 + count_same rs qs h.1 i

  dependents_same : (rs qs : Members) → MapRel Here rs qs → dependents_accept a.accepts rs u ≡ dependents_accept b.accepts qs u
  dependents_same no_members no_members h = refl
  dependents_same no_members (member l q qs) h = absurd h
  dependents_same (member k r rs) no_members h = absurd h
  dependents_same (member k r rs) (member l q qs) h =
      λ i. (not (is_some (tree_at_key u (h.0 i))) || h.1.0 i) && dependents_same rs qs h.2 i

  patterns_same : (rs qs : Members) (ms : Members) → MapRel Under rs qs → MembersBelow Below ms
      → patterns_accept a.accepts rs ms ≡ patterns_accept b.accepts qs ms
  patterns_same no_members no_members ms h g = refl
  patterns_same no_members (member l q qs) ms h g = absurd h
  patterns_same (member k r rs) no_members ms h g = absurd h
  patterns_same (member k r rs) (member l q qs) ms h g =
      λ i. found_pass_same Below (a.accepts r) (b.accepts q) h.1 k l h.0 ms g i && patterns_same rs qs ms h.2 g i

  module _ (x : Child) (small : Below (value_of x)) where
    listed_evaluate : (rs qs : Items) → AllRel Here rs qs → some_evaluate a rs u x ≡ some_evaluate b qs u x
    listed_evaluate no_items no_items h = refl
    listed_evaluate no_items (item q qs) h = absurd h
    listed_evaluate (item r rs) no_items h = absurd h
    listed_evaluate (item r rs) (item q qs) h = λ i. h.0.1 x small i || listed_evaluate rs qs h.1 i

    accepted_evaluate : (rs qs : Items) → AllRel Here rs qs → accepting_evaluate a rs u x ≡ accepting_evaluate b qs u x
    accepted_evaluate no_items no_items h = refl
    accepted_evaluate no_items (item q qs) h = absurd h
    accepted_evaluate (item r rs) no_items h = absurd h
    accepted_evaluate (item r rs) (item q qs) h = λ i. (h.0.0 i && h.0.1 x small i) || accepted_evaluate rs qs h.1 i

    keyed_evaluate : (rs qs : Members) → MapRel Here rs qs → dependents_evaluate a rs u x ≡ dependents_evaluate b qs u x
    keyed_evaluate no_members no_members h = refl
    keyed_evaluate no_members (member l q qs) h = absurd h
    keyed_evaluate (member k r rs) no_members h = absurd h
    keyed_evaluate (member k r rs) (member l q qs) h =
        λ i. (is_some (tree_at_key u (h.0 i)) && h.1.1 x small i) || keyed_evaluate rs qs h.2 i

  -- ---- two schemas

  module _ (members : MembersBelow Below (members_in u)) (items : ItemsBelow Below (items_in u)) (s t : Tree)
      (refused : refuses_all s ≡ refuses_all t)
      (here : (k : Keyword) → is_here k ≡ true → ValueRel Here (form_of k) (schema_at s k) (schema_at t k))
      (same : (k : Keyword) → is_applied k ≡ true → ValueRel Under (form_of k) (schema_at s k) (schema_at t k))
    where
      branch_same : (chosen : Bool) → branch_accepts a.accepts s u chosen ≡ branch_accepts b.accepts t u chosen
      branch_same true = map_or_same Here (λ r. a.accepts r u) (λ r. b.accepts r u) true _ _ (λ r q h. h.0) (here kw.Then refl)
      branch_same false = map_or_same Here (λ r. a.accepts r u) (λ r. b.accepts r u) true _ _ (λ r q h. h.0) (here kw.Else refl)

      contained_same : contained a.accepts s u ≡ contained b.accepts t u
      contained_same = and_then_same Under (λ r. items_passing (a.accepts r) u) (λ r. items_passing (b.accepts r) u) _ _
          (λ r q h. items_passing_same Below (a.accepts r) (b.accepts q) h u items) (same kw.Contains refl)

      tested : apply_all a.accepts tests s u ≡ apply_all b.accepts tests t u
      tested = λ i. (not (some_item_same Here _ _ (here kw.AnyOf refl) i) || one_same _ _ (here kw.AnyOf refl) i)
          && ((not (some_item_same Here _ _ (here kw.OneOf refl) i) || (count_same _ _ (here kw.OneOf refl) i == 1))
          && (map_or_same Here (λ r. not (a.accepts r u)) (λ r. not (b.accepts r u)) true _ _ (λ r q h. ap not h.0) (here kw.Not refl) i
          && (map_or_same Under (λ r. keys_pass (a.accepts r) (members_in u)) (λ r. keys_pass (b.accepts r) (members_in u)) true _ _
          (λ r q h. keys_same Below (a.accepts r) (b.accepts q) h (members_in u) members) (same kw.PropertyNames refl) i
          && ((option_map_or is_zero (value Under s t same kw.MinContains refl i) false
          || option_map_or (λ n. not (n == 0)) (contained_same i) true)
          && (option_map_or (λ w. is_count_at_most (contained_same i) w) (value Under s t same kw.MaxContains refl i) true
          && (option_map_or (λ w. is_count_at_least (contained_same i) w) (value Under s t same kw.MinContains refl i) true && true))))))

      demanded : apply_all a.accepts demands s u ≡ apply_all b.accepts demands t u
      demanded = λ i. all_same _ _ (here kw.AllOf refl) i
          && (map_or_same Here (λ r. branch_accepts a.accepts s u (a.accepts r u)) (λ r. branch_accepts b.accepts t u (b.accepts r u))
          true _ _ (λ r q h. branch_same (a.accepts r u) ∙ ap (branch_accepts b.accepts t u) h.0) (here kw.If refl) i
          && (dependents_same _ _ (here kw.DependentSchemas refl) i
          && (patterns_same _ _ (members_in u) (same kw.PatternProperties refl) members i && true)))

      members_same : (ms : Members) → MembersBelow Below ms → members_accepted a.accepts s ms ≡ members_accepted b.accepts t ms
      members_same no_members g = refl
      members_same (member k v ms) g =
          λ i. map_or_same Under (λ r. a.accepts r v) (λ r. b.accepts r v) true _ _ (λ r q h. h v g.1) (member_same Under s t same k) i
          && members_same ms g.2 i

      items_same : (n : ℕ) (vs : Items) → ItemsBelow Below vs → items_accepted a.accepts s n vs ≡ items_accepted b.accepts t n vs
      items_same n no_items g = refl
      items_same n (item v vs) g =
          λ i. map_or_same Under (λ r. a.accepts r v) (λ r. b.accepts r v) true _ _ (λ r q h. h v g.0) (item_same Under s t same n) i
          && items_same (suc n) vs g.1 i

      parts_same : (v : Tree) → MembersBelow Below (members_in v) → ItemsBelow Below (items_in v)
          → parts_accepted a.accepts s v ≡ parts_accepted b.accepts t v
      parts_same (object ms) g h = members_same ms g
      parts_same (array vs) g h = items_same 0 vs h
      parts_same _ g h = refl

      -- ---- what the schemas evaluate; e and f are what the references evaluate

      applies_same : (x : Child) → Below (value_of x) → applies_to a.accepts s x ≡ applies_to b.accepts t x
      applies_same (member_at k v) g = λ i. some_same Under _ _ (member_same Under s t same k) i
          || found_same Under k _ _ (same kw.PatternProperties refl) i
      applies_same (item_at n v) g = λ i. some_same Under _ _ (item_same Under s t same n) i
          || map_or_same Under (λ r. a.accepts r v) (λ r. b.accepts r v) false _ _ (λ r q h. h v g) (same kw.Contains refl) i

      module _ (e f : Child → Bool) (led : (x : Child) → Below (value_of x) → e x ≡ f x) where
        abbrev others : Answers → Tree → (Child → Bool) → Child → Bool
        others d r g x = applies_to d.accepts r x || (some_evaluate d (schemas_at r kw.AllOf) u x
            || (accepting_evaluate d (schemas_at r kw.AnyOf) u x
            || (accepting_evaluate d (schemas_at r kw.OneOf) u x || (branch_evaluates d r u x
            || (dependents_evaluate d (schema_map_at r kw.DependentSchemas) u x || g x)))))

        chosen_same : (x : Child) → Below (value_of x) → (chosen : Bool)
            → option_map_or (λ q. a.evaluates q u x) (schema_at s (branch chosen)) false
            ≡ option_map_or (λ q. b.evaluates q u x) (schema_at t (branch chosen)) false
        chosen_same x small true =
            map_or_same Here (λ q. a.evaluates q u x) (λ q. b.evaluates q u x) false _ _ (λ r q h. h.1 x small) (here kw.Then refl)
        chosen_same x small false =
            map_or_same Here (λ q. a.evaluates q u x) (λ q. b.evaluates q u x) false _ _ (λ r q h. h.1 x small) (here kw.Else refl)

        branches_same : (x : Child) → Below (value_of x) → branch_evaluates a s u x ≡ branch_evaluates b t u x
        branches_same x small = map_or_same Here
            (λ r. (a.accepts r u && a.evaluates r u x) || option_map_or (λ q. a.evaluates q u x) (schema_at s (branch
            (a.accepts r u))) false)
            (λ r. (b.accepts r u && b.evaluates r u x) || option_map_or (λ q. b.evaluates q u x) (schema_at t (branch
            (b.accepts r u))) false)
            false _ _
            (λ r q h. λ i. (h.0 i && h.1 x small i) || (chosen_same x small (a.accepts r u)
            ∙ ap (λ c. option_map_or (λ w. b.evaluates w u x) (schema_at t (branch c)) false) h.0) i) (here kw.If refl)

        others_same : (x : Child) → Below (value_of x) → others a s e x ≡ others b t f x
        others_same x small = λ i. applies_same x small i || (listed_evaluate x small _ _ (here kw.AllOf refl) i
            || (accepted_evaluate x small _ _ (here kw.AnyOf refl) i
            || (accepted_evaluate x small _ _ (here kw.OneOf refl) i || (branches_same x small i
            || (keyed_evaluate x small _ _ (here kw.DependentSchemas refl) i || led x small i)))))

        pub evaluates_same : (x : Child) → Below (value_of x) → (is_some (schema_at s (rest_keyword x)) || others a s e x)
            ≡ (is_some (schema_at t (rest_keyword x)) || others b t f x)
        evaluates_same x small = λ i. some_same Under _ _ (rest_same Under s t same x) i || others_same x small i

        abbrev rest : Answers → Tree → (Child → Bool) → Child → Bool
        rest d r g x = option_map_or (λ q. others d r g x || d.accepts q (value_of x)) (schema_at r (rest_keyword x)) true

        rests_same : (x : Child) → Below (value_of x) → rest a s e x ≡ rest b t f x
        rests_same x small = map_or_same Under (λ q. others a s e x || a.accepts q (value_of x)) (λ q. others b t f x
            || b.accepts q (value_of x)) true _ _
            (λ r q h. λ i. others_same x small i || h (value_of x) small i) (rest_same Under s t same x)

        pub accepts_same : (formats x y : Bool) → x ≡ y
            → (not (refuses_all s) && (meets_all (assertions formats) s u && (apply_all a.accepts tests s u
            && (apply_all a.accepts demands s u && (x && (parts_accepted a.accepts s u && children_pass (rest a s e) u))))))
            ≡ (not (refuses_all t) && (meets_all (assertions formats) t u && (apply_all b.accepts tests t u
            && (apply_all b.accepts demands t u && (y && (parts_accepted b.accepts t u && children_pass (rest b t f) u))))))
        accepts_same formats x y l = λ i. not (refused i) && (asserted Under s t same formats u i && (tested i && (demanded i && (l i
            && (parts_same u members items i && children_same Below (rest a s e) (rest b t f) rests_same u members items i)))))
