-- In a document without contested names, the dynamic scope decides as the marks of the document do.
use Rattle.std.proofs.Common.{◌≡◌, ℕ, Bool, true, false, not, ◌&&◌, ◌||◌, List, [], ◌∷◌, ◌++◌, Option, Some, None}
use Rattle.std.proofs.Common.{cond, refl, sym, ap, ◌∙◌, true≢false, bytes_eq, option_map, encode_utf8_all, codes}
use Rattle.std.proofs.lemmas.Bool.{and_parts}
use Rattle.std.proofs.lemmas.Option.{same_Some}
use Rattle.std.proofs.lemmas.Slice.Eq.{bytes_eq-Decides}
use Rattle.std.specs.Option.{option_map_or, option_or}
use Rattle.std.specs.Prelude.{⊤, option_and_then, unwrap_or, is_none}
use Rattle.std.specs.Str.{is_utf8}
use Rattle.tinyjson.specs.Tree.{Tree, string}
use Rattle.text_uri.specs.Letters.{is_number_sign, before, from, after}
use Rattle.text_uri.specs.Resolving.{resolved, without_fragment, fragment_of}
use Rattle.tinyjson_schema_keywords.specs.Applied.{schema_at}
use Rattle.tinyjson_schema_keywords.specs.References.{percent_decoded}
use Rattle.tinyjson_schema_keywords.specs.declared.keyword.Keyword.TheVariants as kw
use Rattle.tinyjson_schema_bundle.specs.Bundles.{Marked, Leads, with_name, base_by, base_in, place_of, is_dynamic_name, is_dynamic_at}
use Rattle.tinyjson_schema_bundle.specs.Bundles.{dynamic_place, is_named, is_other, is_only, begins_pointer, place_below, leads_by}
use Rattle.tinyjson_schema_bundle.specs.Bundles.{first_place}
use Rattle.tinyjson_schema_bundle.specs.Bundles.{destination}
use Rattle.tinyjson_schema_bundle.specs.Bundles as bundle
use Rattle.tinyjson_schema_bundle.specs.Scopes.{Reached, name_in, is_contested, some_contested, leads_over, leads_of, settled, scope_at}
use Rattle.tinyjson_schema_laws.specs.Laws.{BeginsIn}
use Rattle.tinyjson_schema_laws.specs.Scoped.{Scope, outermost, leads_in}

-- ---- base URIs have no fragment

-- a name behind it is its fragment
abbrev pub IsBase : List ℕ → Type 0
IsBase u = (n : List ℕ) → fragment_of (with_name u n) ≡ Some n

before_base : (x n : List ℕ) → from is_number_sign (before is_number_sign x ++ 35 ∷ n) ≡ 35 ∷ n
before_base [] n = refl
before_base (c ∷ x) n = by (before_base x n) (is_number_sign c) refl
  where
    by : from is_number_sign (before is_number_sign x ++ 35 ∷ n) ≡ 35 ∷ n → (b : Bool) → is_number_sign c ≡ b
        → from is_number_sign (cond b [] (c ∷ before is_number_sign x) ++ 35 ∷ n) ≡ 35 ∷ n
    by later true e = refl
    by later false e = ap (λ b. cond b (c ∷ (before is_number_sign x ++ 35 ∷ n)) (from is_number_sign
        (before is_number_sign x ++ 35 ∷ n))) e
        ∙ later

pub cut_base : (x : List ℕ) → IsBase (without_fragment x)
cut_base x n = ap (after (codes "#")) (before_base x n)

pub empty_base : IsBase []
empty_base n = refl

pub by_base : (b : List ℕ) (o : Option Tree) → IsBase b → IsBase (base_by b o)
by_base b (Some (string cs)) h = cut_base (resolved b (encode_utf8_all cs))
by_base b None h = h
by_base b (Some _) h = h

pub in_base : (b : List ℕ) (s : Tree) → IsBase b → IsBase (base_in b s)
in_base b s h = by_base b (schema_at s kw.Id) h

-- ---- scopes of a document

abbrev pub AreBases : Scope → Type 0
AreBases [] = ⊤
AreBases (u ∷ c) = IsBase u × AreBases c

pub ends_more : (r u : List ℕ) (c : Scope) → BeginsIn r c → BeginsIn r (u ∷ c)
ends_more r u [] h = absurd h
ends_more r u (v ∷ c) h = h

-- ---- what the marks settle

no_some : (p : List ℕ) → None ≡ Some p → ⊥
no_some p e = cc

or_parts : (a b : Bool) → (a || b) ≡ false → (a ≡ false) × (b ≡ false)
or_parts true b h = absurd (true≢false h)
or_parts false b h = (refl, h)

and_false : (a b : Bool) → a ≡ true → (a && b) ≡ false → b ≡ false
and_false true b e h = h
and_false false b e h = absurd (true≢false (sym e))

pub name_of : (u n : List ℕ) → IsBase u → unwrap_or (fragment_of (with_name u n)) [] ≡ n
name_of u n h = ap (λ o. unwrap_or o []) (h n)

module _ (all : List Marked) (r n : List ℕ) where
  -- a name by `$dynamicAnchor` is settled without a scope
  uncontested : (ms : List Marked) (u q : List ℕ) → IsBase u → some_contested all r ms ≡ false → dynamic_place ms (with_name u n) ≡ Some q
      → is_none (bundle.outermost all r n q) ≡ false
  uncontested [] u q h f e = absurd (no_some q e)
  uncontested (m ∷ ms) u q h f e =
      by (uncontested ms u q h (or_parts (is_contested all r m) (some_contested all r ms) f).1) (is_dynamic_at m (with_name u n)) refl e
    where
      parts : (is_contested all r m ≡ false) × (some_contested all r ms ≡ false)
      parts = or_parts (is_contested all r m) (some_contested all r ms) f

      by : (dynamic_place ms (with_name u n) ≡ Some q → is_none (bundle.outermost all r n q) ≡ false) → (x : Bool)
          → is_dynamic_at m (with_name u n) ≡ x → cond x (Some m.2) (dynamic_place ms (with_name u n)) ≡ Some q
          → is_none (bundle.outermost all r n q) ≡ false
      by later true g e =
          let both = and_parts (is_dynamic_name m.0) (bytes_eq m.1 (with_name u n)) g in
          let uri : m.1 ≡ with_name u n = (bytes_eq-Decides m.1 (with_name u n)).0 both.1 in
          let place : m.2 ≡ q = same_Some m.2 q e in
          let named : name_in m ≡ n = ap (λ x. unwrap_or (fragment_of x) []) uri ∙ name_of u n h in
          sym (λ i. is_none (bundle.outermost all r (named i) (place i)))
          ∙ and_false (is_dynamic_name m.0) (is_none (bundle.outermost all r (name_in m) m.2)) both.0 parts.0
      by later false g e = later e

  -- if all schemas with the name are at q, then so is the one in the resource u
  pub only : (ms : List Marked) (u p q : List ℕ) → IsBase u → is_only ms n q ≡ true → dynamic_place ms (with_name u n) ≡ Some p → p ≡ q
  only [] u p q h f e = absurd (no_some p e)
  only (m ∷ ms) u p q h f e =
      by (only ms u p q h (and_parts (not (is_other m n q)) (is_only ms n q) f).1) (is_dynamic_at m (with_name u n)) refl e
    where
      parts : (not (is_other m n q) ≡ true) × (is_only ms n q ≡ true)
      parts = and_parts (not (is_other m n q)) (is_only ms n q) f

      not_true : (x y : Bool) → x ≡ true → not (x && not y) ≡ true → y ≡ true
      not_true true true a b = refl
      not_true true false a b = absurd (true≢false (sym b))
      not_true false y a b = absurd (true≢false (sym a))

      by : (dynamic_place ms (with_name u n) ≡ Some p → p ≡ q) → (x : Bool) → is_dynamic_at m (with_name u n) ≡ x
          → cond x (Some m.2) (dynamic_place ms (with_name u n)) ≡ Some p → p ≡ q
      by later true g e =
          let both = and_parts (is_dynamic_name m.0) (bytes_eq m.1 (with_name u n)) g in
          let uri : m.1 ≡ with_name u n = (bytes_eq-Decides m.1 (with_name u n)).0 both.1 in
          let place : m.2 ≡ p = same_Some m.2 p e in
          let fragment : unwrap_or (fragment_of m.1) [] ≡ n = ap (λ x. unwrap_or (fragment_of x) []) uri ∙ name_of u n h in
          let named : is_named m n ≡ true = (λ i. both.0 i && bytes_eq (fragment i) n) ∙ (bytes_eq-Decides n n).1 refl in
          sym place ∙ (bytes_eq-Decides m.2 q).0 (not_true (is_named m n) (bytes_eq m.2 q) named parts.0)
      by later false g e = later e

  -- what is found is q
  abbrev IsAt : List ℕ → Option (List ℕ) → Type 0
  IsAt q None = ⊤
  IsAt q (Some p) = p ≡ q

  or_at : (q : List ℕ) (o p : Option (List ℕ)) → IsAt q o → IsAt q p → IsAt q (option_or o p)
  or_at q None p h g = g
  or_at q (Some x) p h g = h

  if_at : (q : List ℕ) (o : Option (List ℕ)) → ((p : List ℕ) → o ≡ Some p → p ≡ q) → IsAt q o
  if_at q None h = tt
  if_at q (Some p) h = h p refl

  unwrapped : (q : List ℕ) (o : Option (List ℕ)) → IsAt q o → q ≡ unwrap_or o q
  unwrapped q None h = refl
  unwrapped q (Some p) h = sym h

  only_in : (c : Scope) (q : List ℕ) → AreBases c → is_only all n q ≡ true → IsAt q (outermost all c n)
  only_in [] q h f = tt
  only_in (u ∷ c) q h f = or_at q (outermost all c n) (dynamic_place all (with_name u n)) (only_in c q h.1 f)
      (if_at q (dynamic_place all (with_name u n)) (λ p e. only all u p q h.0 f e))

  first_in : (c : Scope) (p : List ℕ) → BeginsIn r c → dynamic_place all (with_name r n) ≡ Some p → outermost all c n ≡ Some p
  first_in [] p h e = absurd h
  first_in (u ∷ []) p h e = ap (λ x. dynamic_place all (with_name x n)) h ∙ e
  first_in (u ∷ v ∷ c) p h e = ap (λ o. option_or o (dynamic_place all (with_name u n))) (first_in (v ∷ c) p h e)

  -- the scope decides as the marks do
  pub same_outermost : (c : Scope) (q : List ℕ) (o : Option (List ℕ)) → BeginsIn r c → AreBases c
      → is_none (bundle.outermost all r n q) ≡ false
      → unwrap_or (option_or (bundle.outermost all r n q) o) q ≡ unwrap_or (outermost all c n) q
  same_outermost c q o ends bases f = by (dynamic_place all (with_name r n)) refl f
    where
      only_here : (x : Bool) → is_only all n q ≡ x → is_none (cond x (Some q) None) ≡ false
          → unwrap_or (option_or (cond x (Some q) None) o) q ≡ unwrap_or (outermost all c n) q
      only_here true g h = unwrapped q (outermost all c n) (only_in c q bases g)
      only_here false g h = absurd (true≢false h)

      by : (d : Option (List ℕ)) → dynamic_place all (with_name r n) ≡ d
          → is_none (option_or d (cond (is_only all n q) (Some q) None)) ≡ false
          → unwrap_or (option_or (option_or d (cond (is_only all n q) (Some q) None)) o) q ≡ unwrap_or (outermost all c n) q
      by (Some p) e h = sym (ap (λ x. unwrap_or x q) (first_in c p ends e))
      by None e h = only_here (is_only all n q) refl h

-- ---- where references lead

module _ (all : List Marked) (r z : List ℕ) (copies : List Reached) (s : Reached) (settled_all : some_contested all r all
    ≡ false) (c : Scope)
    (ends : BeginsIn r c) (bases : AreBases c) where
  abbrev guide : Leads
  guide = leads_of (place_of all) all r z false copies s

  dynamic_same : (b u n : List ℕ) → IsBase u → guide.1 b u n ≡ (leads_in all c).1 b u n
  dynamic_same b u n h = by (dynamic_place all (with_name u n)) refl
    where
      by : (o : Option (List ℕ)) → dynamic_place all (with_name u n) ≡ o
          → option_map_or (λ q. Some (leads_over all r s (unwrap_or (place_of all b) []) n q)) o (place_of all (with_name u n))
          ≡ option_map_or (λ q. Some (unwrap_or (outermost all c n) q)) o (place_of all (with_name u n))
      by None e = refl
      by (Some q) e = ap Some (same_outermost all r n c q (settled (scope_at all r s (unwrap_or (place_of all b) [])) n) ends bases
          (uncontested all r n all u q h settled_all e))

  first_same : (dynamic : Bool) (b t : List ℕ) → first_place guide dynamic b t ≡ first_place (leads_in all c) dynamic b t
  first_same dynamic b t = λ i. option_and_then (λ ds. cond (is_utf8 ds)
      (cond (begins_pointer ds) (option_and_then (λ p. place_below p ds) (place_of all (without_fragment t)))
      (cond dynamic (dynamic_same b (without_fragment t) ds (cut_base t) i) (place_of all (with_name (without_fragment t) ds)))) None)
      (percent_decoded (unwrap_or (fragment_of t) []))

  map_itself : (o : Option (List ℕ)) → option_map (λ p. p) o ≡ o
  map_itself None = refl
  map_itself (Some p) = refl

  pub destination_same : (dynamic : Bool) (b t : List ℕ) → destination guide dynamic b t ≡ first_place (leads_in all c) dynamic b t
  destination_same dynamic b t = map_itself (first_place guide dynamic b t) ∙ first_same dynamic b t
