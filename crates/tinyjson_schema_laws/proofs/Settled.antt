-- How many nested schemas a schema that can be applied applies to the value itself.
use Rattle.std.proofs.Common.{◌≡◌, ℕ, zero, suc, ◌+◌, ◌≤◌, ◌<◌, Bool, true, false, ◌&&◌, List, [], ◌∷◌, Option, Some, None}
use Rattle.std.proofs.Common.{refl, sym, ap, ◌∙◌, true≢false, subst, arith}
use Rattle.std.proofs.lemmas.Bool.{and_parts, and_from}
use Rattle.std.specs.Option.{option_map_or}
use Rattle.std.specs.Prelude.{option_and_then}
use Rattle.tinyjson.specs.Tree.{Tree, array, object, Items, no_items, item, Members, no_members, member, find}
use Rattle.tinyjson_schema_keywords.specs.Applied.{schema_at, schemas_at, schema_map_at}
use Rattle.tinyjson_schema_keywords.specs.Forms.{form_of, is_some_item}
use Rattle.tinyjson_schema_keywords.specs.Names.{name}
use Rattle.tinyjson_schema_keywords.specs.References.{target, referenced}
use Rattle.tinyjson_schema_keywords.specs.declared.keyword.Form.{Form}
use Rattle.tinyjson_schema_keywords.specs.declared.keyword.Form.TheVariants as form
use Rattle.tinyjson_schema_keywords.specs.declared.keyword.Keyword.{Keyword}
use Rattle.tinyjson_schema_keywords.specs.declared.keyword.Keyword.TheVariants as kw
use Rattle.tinyjson_schema.specs.Circles.{in_lists, in_place, all_pass, map_passes, lists_pass, singles_pass, reference_passes}
use Rattle.tinyjson_schema.specs.Circles.{settles, reference_steps, leads}
use Rattle.tinyjson_schema.specs.Nested.{is_reference}
use Rattle.tinyjson_schema.specs.Schemas.{is_schema, keywords_fit, are_schemas, have_schemas}
use Rattle.tinyjson_schema_laws.proofs.Alike.{is_here}
use Rattle.tinyjson_schema_laws.proofs.Pointed.{form_named}
use Rattle.tinyjson_schema_laws.proofs.Relations.{Passes}
use Rattle.tinyjson_schema_laws.proofs.Sizes.{size, items_size, members_size, opt_size, find_size}
use Rattle.tinyjson_schema_laws.proofs.Walk.{Fit, fit_member}

-- ---- tests of schemas that more schemas pass

module _ (p q : Tree → Bool) (more : (r : Tree) → p r ≡ true → q r ≡ true) where
  all_more : (rs : Items) → all_pass p rs ≡ true → all_pass q rs ≡ true
  all_more no_items e = e
  all_more (item r rs) e =
      let both = and_parts (p r) (all_pass p rs) e in and_from (q r) (all_pass q rs) (more r both.0) (all_more rs both.1)

  map_more : (rs : Members) → map_passes p rs ≡ true → map_passes q rs ≡ true
  map_more no_members e = e
  map_more (member k r rs) e =
      let both = and_parts (p r) (map_passes p rs) e in and_from (q r) (map_passes q rs) (more r both.0) (map_more rs both.1)

  one_more : (o : Option Tree) → option_map_or p o true ≡ true → option_map_or q o true ≡ true
  one_more None e = e
  one_more (Some r) e = more r e

  lists_more : (s : Tree) (ks : List Keyword) → lists_pass p ks s ≡ true → lists_pass q ks s ≡ true
  lists_more s [] e = e
  lists_more s (k ∷ ks) e =
      let both = and_parts (all_pass p (schemas_at s k)) (lists_pass p ks s) e in
      and_from (all_pass q (schemas_at s k)) (lists_pass q ks s) (all_more (schemas_at s k) both.0) (lists_more s ks both.1)

  singles_more : (s : Tree) (ks : List Keyword) → singles_pass p ks s ≡ true → singles_pass q ks s ≡ true
  singles_more s [] e = e
  singles_more s (k ∷ ks) e =
      let both = and_parts (option_map_or p (schema_at s k) true) (singles_pass p ks s) e in
      and_from (option_map_or q (schema_at s k) true) (singles_pass q ks s) (one_more (schema_at s k) both.0) (singles_more s ks both.1)

module _ (root : Tree) where
  -- what the keywords of a schema ask that settles
  abbrev pub Settling : (Tree → Bool) → Tree → Type 0
  Settling p s = (lists_pass p in_lists s ≡ true) × (singles_pass p in_place s ≡ true)
      × (map_passes p (schema_map_at s kw.DependentSchemas) ≡ true) × (reference_passes root p s ≡ true)

  settling : (n : ℕ) (s : Tree) → settles root (suc n) s ≡ true → Settling (settles root n) s
  settling n s e =
      let a = and_parts (lists_pass (settles root n) in_lists s) _ e in
      let b = and_parts (singles_pass (settles root n) in_place s) _ a.1 in
      let c = and_parts (map_passes (settles root n) (schema_map_at s kw.DependentSchemas)) _ b.1 in
      (a.0, b.0, c.0, c.1)

  settles_by : (n : ℕ) (s : Tree) → Settling (settles root n) s → settles root (suc n) s ≡ true
  settles_by n s h = and_from (lists_pass (settles root n) in_lists s) _ h.0
      (and_from (singles_pass (settles root n) in_place s) _ h.1
      (and_from (map_passes (settles root n) (schema_map_at s kw.DependentSchemas)) _ h.2 h.3))

  -- more steps are as good
  settles_more : (m n : ℕ) (s : Tree) → n ≤ m → settles root n s ≡ true → settles root m s ≡ true
  settles_more m zero s l e = absurd (true≢false (sym e))
  settles_more zero (suc n) s l e = absurd (omega arith)
  settles_more (suc m) (suc n) s l e =
      let rec : (r : Tree) → settles root n r ≡ true → settles root m r ≡ true = λ r. settles_more m n r (omega arith) in
      let was : Settling (settles root n) s = settling n s e in
      let led = and_parts (option_map_or (settles root n) (referenced root kw.Ref s) true) _ was.3 in
      settles_by m s (
        lists_more (settles root n) (settles root m) rec s in_lists was.0,
        singles_more (settles root n) (settles root m) rec s in_place was.1,
        map_more (settles root n) (settles root m) rec (schema_map_at s kw.DependentSchemas) was.2,
        and_from (option_map_or (settles root m) (referenced root kw.Ref s) true) _
            (one_more (settles root n) (settles root m) rec (referenced root kw.Ref s) led.0)
            (one_more (settles root n) (settles root m) rec (referenced root kw.DynamicRef s) led.1),
      )

  -- ---- the schemas in a schema that can be applied

  module _ (n : ℕ) (rec : (x : Bool) (r : Tree) → is_schema root x r ≡ true → reference_steps + size r < n → settles root n r ≡ true) where
    items_settle : (rs : Items) → are_schemas root rs ≡ true → reference_steps + items_size rs < n → all_pass (settles root n) rs ≡ true
    items_settle no_items f l = refl
    items_settle (item r rs) f l =
        let both = and_parts (is_schema root false r) (are_schemas root rs) f in
        and_from (settles root n r) (all_pass (settles root n) rs) (rec false r both.0 (omega arith)) (items_settle rs both.1 (omega arith))

    members_settle : (rs : Members) → have_schemas root rs ≡ true → reference_steps + members_size rs < n
        → map_passes (settles root n) rs ≡ true
    members_settle no_members f l = refl
    members_settle (member k r rs) f l =
        let both = and_parts (is_schema root false r) (have_schemas root rs) f in
        and_from (settles root n r) (map_passes (settles root n) rs) (rec false r both.0 (omega arith))
        (members_settle rs both.1 (omega arith))

    -- what is at a keyword of the form, if it is a schema, a list, or an object of schemas
    value_settles : (f : Form) (o : Option Tree) → ((w : Tree) → o ≡ Some w → Fit root f w) → reference_steps + opt_size o < n
        → Passes (settles root n) f o
    value_settles form.Schema None h l = refl
    value_settles form.Schema (Some w) h l = rec (h w refl).0 w (h w refl).1 (omega arith)
    value_settles form.Schemas None h l = refl
    value_settles form.Schemas (Some (array rs)) h l =
        items_settle rs (and_parts (is_some_item rs) (are_schemas root rs) (h (array rs) refl)).1 (omega arith)
    value_settles form.Schemas (Some _) h l = refl
    value_settles form.SchemaMap None h l = refl
    value_settles form.SchemaMap (Some (object rs)) h l = members_settle rs (h (object rs) refl) (omega arith)
    value_settles form.SchemaMap (Some _) h l = refl
    value_settles form.PatternMap None h l = refl
    value_settles form.PatternMap (Some (object rs)) h l = members_settle rs (h (object rs) refl) (omega arith)
    value_settles form.PatternMap (Some _) h l = refl
    value_settles _ o h l = tt

    target_settles : (o : Option Tree) → ((w : Tree) → o ≡ Some w → leads root w ≡ true) → reference_steps ≤ n
        → option_map_or (settles root n) (option_and_then (target root) o) true ≡ true
    target_settles None h l = refl
    target_settles (Some w) h l = by (target root w) (h w refl)
      where
        by : (d : Option Tree) → option_map_or (settles root reference_steps) d false ≡ true → option_map_or (settles root n) d true ≡ true
        by None e = absurd (true≢false (sym e))
        by (Some r) e = settles_more n reference_steps r l e

    module _ (x : Bool) (ms : Members) (fit : keywords_fit root x ms ≡ true) (l : reference_steps + size (object ms) < suc n) where
      fits : (k : Keyword) (w : Tree) → find (name k) ms ≡ Some w → Fit root (form_of k) w
      fits k w e = subst (λ f. Fit root f w) (form_named k) (fit_member root (name k) ms w x fit e)

      at : (k : Keyword) → Passes (settles root n) (form_of k) (find (name k) ms)
      at k =
          let s : opt_size (find (name k) ms) ≤ members_size ms = find_size (name k) ms in
          value_settles (form_of k) (find (name k) ms) (fits k) (omega arith)

      led : (k : Keyword) → form_of k ≡ form.Reference → option_map_or (settles root n) (referenced root k (object ms)) true ≡ true
      led k e = target_settles (find (name k) ms) (λ w g. subst (λ f. Fit root f w) e (fits k w g)) (omega arith)

      object_settles : settles root (suc n) (object ms) ≡ true
      object_settles = settles_by n (object ms) (
        (λ i. at kw.AllOf i && (at kw.AnyOf i && (at kw.OneOf i && true))),
        (λ i. at kw.Not i && (at kw.If i && (at kw.Then i && (at kw.Else i && true)))),
        at kw.DependentSchemas,
        (λ i. led kw.Ref refl i && led kw.DynamicRef refl i),
      )

  pub settled : (n : ℕ) (x : Bool) (r : Tree) → is_schema root x r ≡ true → reference_steps + size r < n → settles root n r ≡ true
  settled zero x r f l = absurd (omega arith)
  settled (suc n) x (object ms) f l = object_settles n (settled n) x ms f l
  settled (suc n) x _ f l = refl

  -- ---- what is applied to the value itself settles sooner

  pub here_settles : (n : ℕ) (s : Tree) → settles root (suc n) s ≡ true → (k : Keyword) → is_here k ≡ true
      → Passes (settles root n) (form_of k) (schema_at s k)
  here_settles n s e kw.AllOf h = (and_parts (all_pass (settles root n) (schemas_at s kw.AllOf)) _ (settling n s e).0).0
  here_settles n s e kw.AnyOf h =
      let a = and_parts (all_pass (settles root n) (schemas_at s kw.AllOf)) _ (settling n s e).0 in
      (and_parts (all_pass (settles root n) (schemas_at s kw.AnyOf)) _ a.1).0
  here_settles n s e kw.OneOf h =
      let a = and_parts (all_pass (settles root n) (schemas_at s kw.AllOf)) _ (settling n s e).0 in
      let b = and_parts (all_pass (settles root n) (schemas_at s kw.AnyOf)) _ a.1 in
      (and_parts (all_pass (settles root n) (schemas_at s kw.OneOf)) _ b.1).0
  here_settles n s e kw.Not h = (and_parts (option_map_or (settles root n) (schema_at s kw.Not) true) _ (settling n s e).1).0
  here_settles n s e kw.If h =
      let a = and_parts (option_map_or (settles root n) (schema_at s kw.Not) true) _ (settling n s e).1 in
      (and_parts (option_map_or (settles root n) (schema_at s kw.If) true) _ a.1).0
  here_settles n s e kw.Then h =
      let a = and_parts (option_map_or (settles root n) (schema_at s kw.Not) true) _ (settling n s e).1 in
      let b = and_parts (option_map_or (settles root n) (schema_at s kw.If) true) _ a.1 in
      (and_parts (option_map_or (settles root n) (schema_at s kw.Then) true) _ b.1).0
  here_settles n s e kw.Else h =
      let a = and_parts (option_map_or (settles root n) (schema_at s kw.Not) true) _ (settling n s e).1 in
      let b = and_parts (option_map_or (settles root n) (schema_at s kw.If) true) _ a.1 in
      let c = and_parts (option_map_or (settles root n) (schema_at s kw.Then) true) _ b.1 in
      (and_parts (option_map_or (settles root n) (schema_at s kw.Else) true) _ c.1).0
  here_settles n s e kw.DependentSchemas h = (settling n s e).2
  here_settles n s e _ h = absurd (true≢false (sym h))

  pub led_settles : (n : ℕ) (s : Tree) → settles root (suc n) s ≡ true → (k : Keyword) → is_reference k ≡ true → (r : Tree)
      → referenced root k s ≡ Some r → settles root n r ≡ true
  led_settles n s e kw.Ref h r f = sym (ap (λ o. option_map_or (settles root n) o true) f)
      ∙ (and_parts (option_map_or (settles root n) (referenced root kw.Ref s) true) _ (settling n s e).3).0
  led_settles n s e kw.DynamicRef h r f = sym (ap (λ o. option_map_or (settles root n) o true) f)
      ∙ (and_parts (option_map_or (settles root n) (referenced root kw.Ref s) true) _ (settling n s e).3).1
  led_settles n s e _ h r f = absurd (true≢false (sym h))
