-- A bundled reference leads to the bundled schema to which the reference leads.
use Rattle.std.proofs.Common.{◌≡◌, ℕ, Bool, true, false, ◌&&◌, List, [], ◌∷◌, Option, Some, None}
use Rattle.std.proofs.Common.{cond, is_some, refl, sym, ap, ◌∙◌, true≢false, subst, option_map, encode_utf8_all, eqb-true}
use Rattle.std.proofs.lemmas.Option.{same_Some}
use Rattle.std.proofs.lemmas.Str.{IsUtf8-append, IsUtf8-from_is_utf8, encodes-chars}
use Rattle.std.specs.Option.{option_map_or, option_or}
use Rattle.std.specs.Prelude.{⊤, option_and_then, unwrap_or}
use Rattle.std.specs.Str.{IsUtf8, is_utf8, chars}
use lib.Utf8.{encode}
use Rattle.tinyjson.specs.Tree.{Tree, string, object, Members, find}
use Rattle.tinyjson_grammar.specs.Soundness.{IsTree}
use Rattle.tinyjson_pointer.specs.Text.{pointer_tokens}
use Rattle.tinyjson_pointer.specs.Walk.{step}
use Rattle.text_uri.specs.Resolving.{resolved, without_fragment, fragment_of}
use Rattle.tinyjson_schema_keywords.specs.Anchors.{anchors_in, anchored, is_plain_name, is_name_start, are_name_parts}
use Rattle.tinyjson_schema_keywords.specs.Applied.{schema_at}
use Rattle.tinyjson_schema_keywords.specs.Forms.{form_at}
use Rattle.tinyjson_schema_keywords.specs.Names.{name}
use Rattle.tinyjson_schema_keywords.specs.References.{percent_decoded, schema_from, at_pointer, at_text, at_fragment, reference_bytes}
use Rattle.tinyjson_schema_keywords.specs.References.{target}
use Rattle.tinyjson_schema_keywords.specs.References.{referenced, form_in}
use Rattle.tinyjson_schema_keywords.specs.declared.keyword.Form.{Form}
use Rattle.tinyjson_schema_keywords.specs.declared.keyword.Form.TheVariants as form
use Rattle.tinyjson_schema_keywords.specs.declared.keyword.Keyword.{Keyword}
use Rattle.tinyjson_schema_bundle.specs.Bundles.{Marked, Leads, marks_of, place_of, dynamic_place, with_name, base_in, is_dynamic}
use Rattle.tinyjson_schema_bundle.specs.Bundles.{string_of}
use Rattle.tinyjson_schema_bundle.specs.Bundles.{begins_pointer, place_below, leads_by, first_place, destination, pointing, pointed}
use Rattle.tinyjson_schema_bundle.specs.Bundles.{pointed_among}
use Rattle.tinyjson_schema_bundle.specs.Bundles.{pointed_list, pointed_map, at_key}
use Rattle.tinyjson_schema_bundle.specs.Scopes.{Reached, some_contested, leads_of, from_root}
use Rattle.tinyjson_schema.specs.Schemas.{is_schema}
use Rattle.tinyjson_schema_laws.specs.Scoped.{Scope, base, outermost, dynamic_in, leads_in, led_to, located, located_at, target_in}
use Rattle.tinyjson_schema_laws.specs.Scoped.{base_within}
use Rattle.tinyjson_schema_laws.specs.Laws.{BeginsIn}
use Rattle.tinyjson_schema_laws.proofs.Leading.{to_place, lead_by, lead_in, lead_among, lead_in_list, lead_in_map, all_lead}
use Rattle.tinyjson_schema_laws.proofs.Pointed.{is_kept, picked, changed, found_pointed}
use Rattle.tinyjson_schema_laws.proofs.Walk.{IsBundled, AreMatched, lead_found, walked}
use Rattle.tinyjson_schema_laws.proofs.Places.{IsPlace, IfPlace, place_found, dynamic_found, first_found}
use Rattle.tinyjson_schema_laws.proofs.Dynamic.{IsBase, AreBases, empty_base, in_base, destination_same}

-- ---- the text of a place, decoded

no_some : (p : List ℕ) → None ≡ Some p → ⊥
no_some p e = cc

decoded_begins : (q ds : List ℕ) → begins_pointer q ≡ true → percent_decoded q ≡ Some ds → begins_pointer ds ≡ true
decoded_begins [] ds h e = ap begins_pointer (sym (same_Some [] ds e))
decoded_begins (c ∷ q) ds h e =
    by (percent_decoded q) (sym (ap (λ x. percent_decoded (x ∷ q)) (eqb-true c 47 h)) ∙ e)
  where
    by : (o : Option (List ℕ)) → option_map (λ es. 47 ∷ es) o ≡ Some ds → begins_pointer ds ≡ true
    by None f = absurd (no_some ds f)
    by (Some es) f = ap begins_pointer (sym (same_Some (47 ∷ es) ds f))

no_plain : (ds : List ℕ) → begins_pointer ds ≡ true → is_plain_name ds ≡ false
no_plain [] h = refl
no_plain (c ∷ cs) h = ap (λ x. is_name_start x && are_name_parts cs) (eqb-true c 47 h)

-- ---- whether a reference leads on does not depend on the scope

pub some_cond : (x : Bool) (o p o' p' : Option (List ℕ)) → is_some o ≡ is_some o' → is_some p ≡ is_some p'
    → is_some (cond x o p) ≡ is_some (cond x o' p')
some_cond true o p o' p' h g = h
some_cond false o p o' p' h g = g

pub some_then : (g h : List ℕ → Option (List ℕ)) (o : Option (List ℕ)) → ((ds : List ℕ) → is_some (g ds) ≡ is_some (h ds))
    → is_some (option_and_then g o) ≡ is_some (option_and_then h o)
some_then g h None e = refl
some_then g h (Some ds) e = e ds

module _ (all : List Marked) (c d : Scope) where
  some_dynamic : (u n : List ℕ) → is_some (dynamic_in all c u n) ≡ is_some (dynamic_in all d u n)
  some_dynamic u n = by (dynamic_place all (with_name u n))
    where
      by : (o : Option (List ℕ)) → is_some (option_map_or (λ p. Some (unwrap_or (outermost all c n) p)) o (place_of all (with_name u n)))
          ≡ is_some (option_map_or (λ p. Some (unwrap_or (outermost all d n) p)) o (place_of all (with_name u n)))
      by None = refl
      by (Some p) = refl

  some_first : (dynamic : Bool) (b t : List ℕ)
      → is_some (first_place (leads_in all c) dynamic b t) ≡ is_some (first_place (leads_in all d) dynamic b t)
  some_first dynamic b t = some_then (leads_by (leads_in all c) dynamic b (without_fragment t)) (leads_by (leads_in all d) dynamic b
      (without_fragment t))
      (percent_decoded (unwrap_or (fragment_of t) []))
      (λ ds. some_cond (is_utf8 ds) _ None _ None (some_cond (begins_pointer ds) (option_and_then (λ p. place_below p ds)
      (place_of all (without_fragment t))) _
      (option_and_then (λ p. place_below p ds) (place_of all (without_fragment t))) _ refl
      (some_cond dynamic _ (place_of all (with_name (without_fragment t) ds)) _ (place_of all (with_name (without_fragment t) ds))
      (some_dynamic (without_fragment t) ds) refl)) refl)

  pub some_led : (dynamic : Bool) (w : Tree) → base c ≡ base d → is_some (led_to all c dynamic w) ≡ is_some (led_to all d dynamic w)
  some_led dynamic (string cs) e = some_first dynamic (base c) (resolved (base c) (encode_utf8_all cs))
      ∙ ap (λ b. is_some (first_place (leads_in all d) dynamic b (resolved b (encode_utf8_all cs)))) e
  some_led dynamic _ e = refl

-- ---- base URIs have no fragment

abbrev pub IfBase : Option (List ℕ × Tree) → Type 0
IfBase None = ⊤
IfBase (Some x) = IsBase x.0

within_base : (f : Form) (b : List ℕ) (w : Tree) → IsBase b → IsBase (base_within f b w)
within_base form.Schema b w h = in_base b w h
within_base _ b w h = h

tokens_base : (ks : List (List ℕ)) (f : Form) (b : List ℕ) (w : Tree) → IsBase b → IfBase (located f b w ks)
tokens_base [] form.Schema b w h = in_base b w h
tokens_base [] _ b w h = tt
tokens_base (k ∷ ks) f b w h = by (λ v. tokens_base ks (form_in f k) (base_within f b w) v (within_base f b w h)) (step w k)
  where
    by : ((v : Tree) → IfBase (located (form_in f k) (base_within f b w) v ks)) → (o : Option Tree)
        → IfBase (option_and_then (λ v. located (form_in f k) (base_within f b w) v ks) o)
    by later None = tt
    by later (Some v) = later v

place_base : (t : Tree) (q : List ℕ) → IfBase (located_at t q)
place_base t q = by (percent_decoded q)
  where
    at : (o : Option (List (List ℕ))) → IfBase (option_and_then (located form.Schema [] t) o)
    at None = tt
    at (Some ks) = tokens_base ks form.Schema [] t empty_base

    text : (x : Bool) (bs : List ℕ) → IfBase (cond x (option_and_then (located form.Schema [] t) (pointer_tokens (chars bs))) None)
    text true bs = at (pointer_tokens (chars bs))
    text false bs = tt

    by : (o : Option (List ℕ)) → IfBase (option_and_then (λ bs. cond (is_utf8 bs)
        (option_and_then (located form.Schema [] t) (pointer_tokens (chars bs))) None) o)
    by None = tt
    by (Some bs) = text (is_utf8 bs) bs

-- ---- where references lead in the document, and in the bundled one

module _ (t : Tree) (sound : IsTree t) (z : List ℕ) (copies : List Reached)
    (none : some_contested (marks_of t) (base_in [] t) (marks_of t) ≡ false) where
  abbrev pub guide : Leads
  guide = leads_of (place_of (marks_of t)) (marks_of t) (base_in [] t) z false copies from_root

  abbrev pub root : Tree
  root = pointed guide [] [] t

  module _ (fit : is_schema root true root ≡ true) (leading : all_lead t ≡ true) where
    -- the second schema is the first one bundled
    abbrev pub Bundled : List ℕ → Tree → Tree → Type 0
    Bundled b s r = IsBundled root (to_place (marks_of t)) guide b s r

    abbrev Matched : Option Tree → Option (List ℕ × Tree) → Type 0
    Matched = AreMatched root (to_place (marks_of t)) guide

    at_tokens : (o : Option (List (List ℕ))) → Matched (option_and_then (schema_from root) o) (option_and_then (located form.Schema [] t) o)
    at_tokens None = tt
    at_tokens (Some ks) = walked root (to_place (marks_of t)) guide ks form.Schema [] [] t sound leading (true, fit)

    at_bytes : (ds : List ℕ) → begins_pointer ds ≡ true
        → Matched (at_fragment root ds) (cond (is_utf8 ds) (option_and_then (located form.Schema [] t) (pointer_tokens (chars ds))) None)
    at_bytes ds h = by (is_utf8 ds)
      where
        by : (x : Bool) → Matched (cond x (at_text root ds) None) (cond x (option_and_then (located form.Schema [] t) (pointer_tokens
            (chars ds))) None)
        by true = subst (λ o. Matched o (option_and_then (located form.Schema [] t) (pointer_tokens (chars ds))))
            (sym (ap (λ x. cond x (anchored (anchors_in root) ds) (at_pointer root (chars ds))) (no_plain ds h)))
            (at_tokens (pointer_tokens (chars ds)))
        by false = tt

    number_sign_text : IsUtf8 (35 ∷ [])
    unfolding is_utf8 chars encode
    number_sign_text = IsUtf8-from_is_utf8 (35 ∷ []) refl

    at_place : (q : List ℕ) → IsPlace q → Matched (target root (string_of (35 ∷ q))) (located_at t q)
    at_place q h = subst (λ bs. Matched (option_and_then (at_fragment root) (reference_bytes bs)) (located_at t q))
        (sym (encodes-chars (35 ∷ q) (IsUtf8-append (35 ∷ []) q number_sign_text h.text)))
        (by (percent_decoded q) refl)
      where
        by : (o : Option (List ℕ)) → percent_decoded q ≡ o → Matched (option_and_then (at_fragment root) o)
            (option_and_then (λ bs. cond (is_utf8 bs) (option_and_then (located form.Schema [] t) (pointer_tokens (chars bs))) None) o)
        by None e = tt
        by (Some ds) e = at_bytes ds (decoded_begins q ds h.begins e)

    module _ (c : Scope) (ends : BeginsIn (base_in [] t) c) (bases : AreBases c) where
      -- the target of the bundled reference, and that of the reference, with its scope
      abbrev pub AreLed : Option Tree → Option (Scope × Tree) → Type 0
      AreLed None None = ⊤
      AreLed (Some r) (Some d) = (u : List ℕ) × (d.0 ≡ u ∷ c) × IsBase u × Bundled u d.1 r
      AreLed _ _ = ⊥

      abbrev in_scope : List ℕ × Tree → Scope × Tree
      in_scope x = (x.0 ∷ c, x.1)

      lifted : (o : Option Tree) (p : Option (List ℕ × Tree)) → IfBase p → Matched o p → AreLed o (option_map in_scope p)
      lifted None None g h = tt
      lifted None (Some x) g h = absurd h
      lifted (Some r) None g h = absurd h
      lifted (Some r) (Some x) g h = (x.0, refl, g, h)

      first_place_of : (o p : Option (List ℕ)) → IfPlace o → IfPlace p → IfPlace (option_or o p)
      first_place_of None p h g = g
      first_place_of (Some q) p h g = h

      of_scope : (d : Scope) (n : List ℕ) → IfPlace (outermost (marks_of t) d n)
      of_scope [] n = tt
      of_scope (v ∷ d) n = first_place_of (outermost (marks_of t) d n) (dynamic_place (marks_of t) (with_name v n)) (of_scope d n)
          (dynamic_found t sound (with_name v n))

      named_place : (b u n : List ℕ) → IfPlace ((leads_in (marks_of t) c).1 b u n)
      named_place b u n = by (dynamic_place (marks_of t) (with_name u n)) (dynamic_found t sound (with_name u n))
        where
          either : (o : Option (List ℕ)) (p : List ℕ) → IfPlace o → IsPlace p → IsPlace (unwrap_or o p)
          either None p h g = g
          either (Some q) p h g = h

          by : (o : Option (List ℕ)) → IfPlace o
              → IfPlace (option_map_or (λ p. Some (unwrap_or (outermost (marks_of t) c n) p)) o (place_of (marks_of t) (with_name u n)))
          by None h = place_found t sound (with_name u n)
          by (Some p) h = either (outermost (marks_of t) c n) p (of_scope c n) h

      -- the target of one reference
      pub reference_led : (dynamic : Bool) (w : Tree) → is_some (led_to (marks_of t) (base c ∷ []) dynamic w) ≡ true
          → AreLed (target root (pointing guide dynamic (base c) w))
          (option_map in_scope (option_and_then (located_at t) (led_to (marks_of t) c dynamic w)))
      reference_led dynamic (string cs) h = by (destination guide dynamic (base c) uri) same
          (first_place (leads_in (marks_of t) c) dynamic (base c) uri) refl
          (first_found (leads_in (marks_of t) c) (place_found t sound) named_place dynamic (base c) uri)
        where
          uri : List ℕ
          uri = resolved (base c) (encode_utf8_all cs)

          same : destination guide dynamic (base c) (resolved (base c) (encode_utf8_all cs))
              ≡ first_place (leads_in (marks_of t) c) dynamic (base c) (resolved (base c) (encode_utf8_all cs))
          same = destination_same (marks_of t) (base_in [] t) z copies from_root none c ends bases dynamic (base c)
              (resolved (base c) (encode_utf8_all cs))

          by : (d : Option (List ℕ)) → d ≡ first_place (leads_in (marks_of t) c) dynamic (base c) (resolved (base c) (encode_utf8_all cs))
              → (o : Option (List ℕ)) → first_place (leads_in (marks_of t) c) dynamic (base c) (resolved (base c)
              (encode_utf8_all cs)) ≡ o → IfPlace o
              → AreLed (target root (option_map_or (λ p. string_of (35 ∷ p)) d (string cs)))
              (option_map in_scope (option_and_then (located_at t) o))
          by d e None f g = absurd (true≢false (sym h ∙ (sym (some_led (marks_of t) c (base c ∷ []) dynamic (string cs) refl)
              ∙ ap is_some f)))
          by d e (Some q) f g = subst (λ x. AreLed (target root (option_map_or (λ p. string_of (35 ∷ p)) x (string cs)))
              (option_map in_scope (located_at t q)))
              (sym (e ∙ f)) (lifted (target root (string_of (35 ∷ q))) (located_at t q) (place_base t q) (at_place q g))
      reference_led dynamic _ h = absurd (true≢false (sym h))

      -- the target of the keyword of a schema
      module _ (k : Keyword) (is : form_at (encode_utf8_all (name k)) ≡ form.Reference) (same : encode_utf8_all (name k) ≡ name k) where
        in_members : (p : List ℕ) (ms : Members) → lead_among (to_place (marks_of t)) (base c) ms ≡ true
            → AreLed (option_and_then (target root) (find (name k) (pointed_among guide (base c) p ms)))
            (option_map in_scope (option_and_then (located_at t) (option_and_then (led_to (marks_of t) c (is_dynamic (name k))) (find
            (name k) ms))))
        in_members p ms lead = subst (λ o. AreLed (option_and_then (target root) o)
            (option_map in_scope (option_and_then (located_at t) (option_and_then (led_to (marks_of t) c (is_dynamic (name k))) (find
            (name k) ms)))))
            (sym (found_pointed guide (base c) p (name k) ms (ap is_kept is)))
            (by (find (name k) ms) refl)
          where
            reads : (w : Tree) → changed guide (base c) p (name k) w ≡ pointing guide (is_dynamic (name k)) (base c) w
            reads w = ap (λ f. picked f w (pointing guide (is_dynamic (encode_utf8_all (name k))) (base c) w)
                (pointed guide (base c) (at_key p (name k)) w)
                (pointed_list guide (base c) (at_key p (name k)) w)
                (pointed_map guide (base c) (at_key p (name k)) w)) is
                ∙ ap (λ x. pointing guide (is_dynamic x) (base c) w) same

            by : (o : Option Tree) → find (name k) ms ≡ o → AreLed (option_and_then (target root) (option_map (changed guide
                (base c) p (name k)) o))
                (option_map in_scope (option_and_then (located_at t) (option_and_then (led_to (marks_of t) c (is_dynamic (name k))) o)))
            by None e = tt
            by (Some w) e = subst (λ x. AreLed (target root x)
                (option_map in_scope (option_and_then (located_at t) (led_to (marks_of t) c (is_dynamic (name k)) w)))) (sym (reads w))
                (reference_led (is_dynamic (name k)) w
                (sym (ap (λ x. is_some (led_to (marks_of t) (base c ∷ []) (is_dynamic x) w)) same)
                ∙ (sym (ap (λ f. lead_by f (is_some (led_to (marks_of t) (base c ∷ []) (is_dynamic (encode_utf8_all (name k))) w))
                (lead_in (to_place (marks_of t)) (base c) w) (lead_in_list (to_place (marks_of t)) (base c) w)
                (lead_in_map (to_place (marks_of t)) (base c) w)) is)
                ∙ lead_found (to_place (marks_of t)) (base c) (name k) ms w lead e)))

        pub keyword_led : (s r : Tree) → Bundled (base c) s r → AreLed (referenced root k r) (target_in t c k s)
        keyword_led s r h = subst (λ x. AreLed (option_and_then (target root) (schema_at x k)) (target_in t c k s)) (sym h.made)
            (by s h.around h.based h.leading)
          where
            by : (s : Tree) (d : List ℕ) → base_in d s ≡ base c → lead_in (to_place (marks_of t)) d s ≡ true
                → AreLed (option_and_then (target root) (schema_at (pointed guide d h.place s) k)) (target_in t c k s)
            by (object ms) d e lead = subst (λ b. AreLed (option_and_then (target root) (find (name k)
                (pointed_among guide b h.place ms))) (target_in t c k (object ms)))
                (sym e) (in_members h.place ms (subst (λ b. lead_among (to_place (marks_of t)) b ms ≡ true) e lead))
            by _ d e lead = tt
