-- A bundled reference leads to the schema to which the reference leads in its dynamic scope, bundled in a state that keeps
-- the scope there.
use Rattle.std.proofs.Common.{◌≡◌, ◌⊎◌, ℕ, suc, ◌<◌, ◌≤◌, ◌^◌, Bool, true, false, ◌&&◌, List, [], ◌∷◌, ◌++◌, Option, Some, None}
use Rattle.std.proofs.Common.{cond, refl, sym, ap, ◌∙◌, true≢false, bytes_eq, subst, length, encode_utf8_all, option_map, inl}
use Rattle.std.proofs.Common.{arith}
use Rattle.std.proofs.lemmas.Bool.{and_parts}
use Rattle.std.proofs.lemmas.Option.{same_Some}
use Rattle.std.proofs.lemmas.Slice.Eq.{bytes_eq-Decides}
use Rattle.std.specs.Option.{option_map_or}
use Rattle.std.specs.Prelude.{unwrap_or}
use Rattle.tinyjson.specs.Tree.{Tree, string, object, Members}
use Rattle.tinyjson_grammar.specs.Soundness.{IsTree}
use Rattle.text_uri.specs.Resolving.{resolved}
use Rattle.tinyjson_schema_keywords.specs.References.{schema_from, target}
use Rattle.tinyjson_schema_keywords.specs.declared.keyword.Form.TheVariants as form
use Rattle.tinyjson_schema_bundle.specs.Bundles.{marks_of, place_of, base_in, place_after, string_of, pointing, begins_pointer}
use Rattle.tinyjson_schema_bundle.specs.Scopes.{Scope as Kept, Reached, from_root, some_contested, is_same, place_in_list, below}
use Rattle.tinyjson_schema_bundle.specs.Scopes.{is_within, home, scope_at}
use Rattle.tinyjson_schema_bundle.specs.Scopes.{reached, moved, copy_place, letters, schema_there}
use Rattle.tinyjson_schema_bundle.specs.Scopes as scopes
use Rattle.tinyjson_schema.specs.Circles.{leads, settles, reference_steps}
use Rattle.tinyjson_schema.specs.Schemas.{is_schema}
use Rattle.tinyjson_schema_laws.specs.Laws.{BeginsIn, AreUris, kept}
use Rattle.tinyjson_schema_laws.proofs.Leading.{lead_in}
use Rattle.tinyjson_schema_laws.specs.Scoped.{Scope, base, led_to, located}
use Rattle.tinyjson_schema_laws.proofs.Containing.{within_from}
use Rattle.tinyjson_schema_laws.proofs.Copies.{listed}
use Rattle.tinyjson_schema_laws.proofs.Keys.{copy_text, key_scalars}
use Rattle.tinyjson_schema_laws.proofs.Kept.{first_same}
use Rattle.tinyjson_schema_laws.proofs.Looking.{IsPart, IsRoot, Copied, found, in_copy, copied, key}
use Rattle.tinyjson_schema_laws.proofs.Places.{AreScalars}
use Rattle.tinyjson_schema_laws.proofs.Texts.{text_of, target_there, found_there}
use Rattle.tinyjson_schema_laws.proofs.Whole.{defs, most, leading, whole}

-- ---- places and their resources

-- The schema x is at the place q. Its resource is where the first tokens lead, and the others lead on from there.
pub record IsHomed (t : Tree) (q : List ℕ) (x : List ℕ × Tree) : Type 0 where
  pub outer : List (List ℕ)
  pub inner : List (List ℕ)
  pub scalars : AreScalars (outer ++ inner)
  pub place : q ≡ place_after [] (outer ++ inner)
  pub is : located form.Schema [] t (outer ++ inner) ≡ Some x
  pub resource : Tree
  pub around : located form.Schema [] t outer ≡ Some (x.0, resource)
  pub uri : (home (marks_of t) (base_in [] t) q).0 ≡ x.0
  pub entry : (home (marks_of t) (base_in [] t) q).1 ≡ place_after [] outer
  pub rest : unwrap_or (below (home (marks_of t) (base_in [] t) q).1 q) [] ≡ text_of inner
  pub again : (home (marks_of t) (base_in [] t) (home (marks_of t) (base_in [] t) q).1).0 ≡ x.0
  pub begins : begins_pointer q ≡ true
  pub contains : is_within (home (marks_of t) (base_in [] t) q).1 q ≡ true
  pub own : (c : Kept) → scope_at (marks_of t) (base_in [] t) (reached (marks_of t) (base_in [] t) c q) q
      ≡ (reached (marks_of t) (base_in [] t) c q).0

-- ---- states in the list

pub place_most : (ss : List Reached) (s : Reached) → place_in_list ss s ≤ length ss
place_most [] s = omega arith
place_most (t ∷ ss) s = by (is_same t.0 s.0 && bytes_eq t.1 s.1) (place_most ss s)
  where
    by : (b : Bool) → place_in_list ss s ≤ length ss → cond b 0 (suc (place_in_list ss s)) ≤ suc (length ss)
    by true h = omega arith
    by false h = omega (arith, h)

pub listed_same : (ss : List Reached) (s x : Reached) → listed ss s ≡ Some x → (is_same x.0 s.0 ≡ true) × (x.1 ≡ s.1)
listed_same [] s x e = absurd (let none : None ≡ Some x = e in cc)
listed_same (t ∷ ss) s x e = by (listed_same ss s x) (is_same t.0 s.0 && bytes_eq t.1 s.1) refl e
  where
    by : (listed ss s ≡ Some x → (is_same x.0 s.0 ≡ true) × (x.1 ≡ s.1)) → (b : Bool) → (is_same t.0 s.0 && bytes_eq t.1 s.1) ≡ b
        → cond b (Some t) (listed ss s) ≡ Some x → (is_same x.0 s.0 ≡ true) × (x.1 ≡ s.1)
    by later true g h =
        let both = and_parts (is_same t.0 s.0) (bytes_eq t.1 s.1) g in
        let same : t ≡ x = same_Some t x h in
        subst (λ y. (is_same y.0 s.0 ≡ true) × (y.1 ≡ s.1)) same (both.0, (bytes_eq-Decides t.1 s.1).0 both.1)
    by later false g h = later h

-- a reference that leads has a target
pub target_some : (root w : Tree) → leads root w ≡ true → (r : Tree) × (target root w ≡ Some r)
target_some root w h = by (target root w) refl h
  where
    by : (o : Option Tree) → target root w ≡ o → option_map_or (settles root reference_steps) o false ≡ true
        → (r : Tree) × (target root w ≡ Some r)
    by None e g = absurd (true≢false (sym g))
    by (Some r) e g = (r, e)

module _ (ms : Members) (copies : List Reached) (few : length copies < 2 ^ 64)
    (fit : is_schema (whole (object ms) copies) true (whole (object ms) copies) ≡ true) (sound : IsTree (object ms))
    (on : List ℕ → Bool → Tree → Bool) (lead : lead_in on [] (object ms) ≡ true) where
  abbrev t : Tree
  t = object ms

  abbrev kept_in : Scope → Kept
  kept_in c = kept (marks_of t) (base_in [] t) c

  abbrev at_state : Reached → List ℕ → Kept
  at_state s q = scope_at (marks_of t) (base_in [] t) s q

  abbrev some : Bool
  some = some_contested (marks_of t) (base_in [] t) (marks_of t)

  abbrev resource : List ℕ → List ℕ × List ℕ
  resource q = home (marks_of t) (base_in [] t) q

  -- r is the schema x bundled in a state that keeps the scope c at q
  pub record IsKeptAt (c : Scope) (q : List ℕ) (x : List ℕ × Tree) (r : Tree) : Type 0 where
    pub state : Reached
    pub keeps : kept (marks_of t) (base_in [] t) c ≡ scope_at (marks_of t) (base_in [] t) state q
    pub inside : is_within state.1 q ≡ true
    pub part : IsPart ms copies few fit sound on lead state x.0 x.1 r ⊎ IsRoot ms copies few fit sound on lead state x.0 x.1 r

  -- what scopes that are the same are
  pub record AreFaithful : Type 0 where
    pub main : (c : Scope) (q : List ℕ) → is_same (kept_in c) (at_state from_root q) ≡ true → kept_in c ≡ at_state from_root q
    pub copy : (c : Scope) (s st : Reached) → listed copies s ≡ Some st → is_same st.0 (kept_in c) ≡ true → st.0 ≡ kept_in c
    pub none : some ≡ false → (c : Scope) (q : List ℕ) → kept_in c ≡ at_state from_root q

  module _ (faithful : AreFaithful) (c : Scope) (ends : BeginsIn (base_in [] (object ms)) c) (uris : AreUris c) (s : Reached)
      (keeps : kept (marks_of (object ms)) (base_in [] (object ms)) c ≡ scope_at (marks_of (object ms)) (base_in [] (object ms)) s
      (unwrap_or (place_of (marks_of (object ms)) (base c)) []))
      (dynamic : Bool) (cs : List ℕ) (q : List ℕ) (x : List ℕ × Tree)
      (led : led_to (marks_of (object ms)) c dynamic (string cs) ≡ Some q) (homed : IsHomed (object ms) q x)
      (leading_on : leads (whole (object ms) copies) (pointing (leading (object ms) copies s) dynamic (base c) (string cs)) ≡ true) where
    -- the state that is reached
    abbrev at_base : List ℕ
    at_base = unwrap_or (place_of (marks_of t) (base c)) []

    abbrev next : Reached
    next = reached (marks_of t) (base_in [] t) (at_state s at_base) q

    abbrev moved_to : List ℕ
    moved_to = moved (place_of (marks_of t)) (marks_of t) (base_in [] t) (letters t) some copies s at_base q

    abbrev Result : Type 0
    Result = (r : Tree) × (target (whole t copies) (pointing (leading t copies s) dynamic (base c) (string cs)) ≡ Some r)
        × IsKeptAt (x.0 ∷ c) q x r

    points : pointing (leading t copies s) dynamic (base c) (string cs) ≡ string_of (35 ∷ moved_to)
    points = ap (λ o. option_map_or (λ p. string_of (35 ∷ p)) (option_map (λ p. moved (place_of (marks_of t)) (marks_of t) (base_in [] t)
        (letters t) some copies s at_base p) o) (string cs))
        (first_same t c ends uris (letters t) some copies s (base c) keeps dynamic (resolved (base c) (encode_utf8_all cs)) ∙ led)

    -- the scope of the state is what is kept
    next_keeps : next.0 ≡ kept_in (x.0 ∷ c)
    next_keeps = (λ i. scopes.entered (marks_of t) (base_in [] t) (homed.uri i) (sym keeps i))

    in_main : moved_to ≡ q → kept_in (x.0 ∷ c) ≡ at_state from_root q → Result
    in_main e k =
        let f = found ms copies few fit sound on lead (homed.outer ++ homed.inner) x homed.is in (
          f.0,
          ap (target (whole t copies)) (points ∙ ap (λ p. string_of (35 ∷ p)) (e ∙ homed.place))
              ∙ (target_there (homed.outer ++ homed.inner) homed.scalars (whole t copies) ∙ f.1),
          record { state = from_root; keeps = k; inside = within_from [] q homed.begins; part = f.2 },
        )

    abbrev rests : List (List ℕ)
    rests = defs ∷ key ms copies few fit sound on lead next ∷ homed.inner

    inner_scalars : (ks ls : List (List ℕ)) → AreScalars (ks ++ ls) → AreScalars ls
    inner_scalars [] ls h = h
    inner_scalars (k ∷ ks) ls h = inner_scalars ks ls h.1

    outer_scalars : (ks ls : List (List ℕ)) → AreScalars (ks ++ ls) → AreScalars ks
    outer_scalars [] ls h = tt
    outer_scalars (k ∷ ks) ls h = (h.0, outer_scalars ks ls h.1)

    in_state : (r : Tree) → target (whole t copies) (pointing (leading t copies s) dynamic (base c) (string cs)) ≡ Some r
        → (made : Copied ms copies few fit sound on lead next homed.inner r)
        → (is_same made.state.0 next.0 ≡ true) × (made.state.1 ≡ next.1) → Result
    in_state r e made same =
        let scope : made.state.0 ≡ kept_in (x.0 ∷ c) = faithful.copy (x.0 ∷ c) next made.state made.is
        (ap (is_same made.state.0) (sym next_keeps) ∙ same.0) in (
          r,
          e,
          record {
            state = made.state;
            keeps = sym ((λ i. at_state ((scope ∙ sym next_keeps) i, same.1 i) q) ∙ (homed.own (at_state s at_base) ∙ next_keeps));
            inside = ap (λ e. is_within e q) same.1 ∙ homed.contains;
            part = inl (copied ms copies few fit sound on lead next homed.outer homed.inner r made x.0 homed.resource x
                homed.around homed.is
                (ap (schema_there t) (same.1 ∙ homed.entry) ∙ found_there homed.outer (outer_scalars homed.outer homed.inner homed.scalars)
                t)
                (ap (λ p. (resource p).0) same.1 ∙ homed.again));
          },
        )

    in_made : (r : Tree) → target (whole t copies) (pointing (leading t copies s) dynamic (base c) (string cs)) ≡ Some r
        → Copied ms copies few fit sound on lead next homed.inner r → Result
    in_made r e made = in_state r e made (listed_same copies next made.state made.is)

    small : place_in_list copies next < 2 ^ 64
    small = let p = place_most copies next in omega (arith, p, few)

    in_target : moved_to ≡ copy_place (letters t) (place_in_list copies next) (unwrap_or (below (resource q).1 q) [])
        → (r : Tree) × (target (whole t copies) (pointing (leading t copies s) dynamic (base c) (string cs)) ≡ Some r) → Result
    in_target e goal =
        let text : moved_to ≡ place_after [] rests = e ∙ copy_text (most t) (place_in_list copies next) small homed.inner
        (unwrap_or (below (resource q).1 q) []) homed.rest in
        let from : schema_from (whole t copies) rests ≡ Some goal.0
        = sym (target_there rests (key_scalars (most t) (place_in_list copies next) small homed.inner
        (inner_scalars homed.outer homed.inner homed.scalars)) (whole t copies))
        ∙ (ap (λ p. target (whole t copies) (string_of (35 ∷ p))) (sym text) ∙ (ap (target (whole t copies)) (sym points) ∙ goal.1)) in
        in_made goal.0 goal.1 (in_copy ms copies few fit sound on lead next homed.inner goal.0 from)

    in_a_copy : moved_to ≡ copy_place (letters t) (place_in_list copies next) (unwrap_or (below (resource q).1 q) []) → Result
    in_a_copy e = in_target e (target_some (whole t copies) (pointing (leading t copies s) dynamic (base c) (string cs)) leading_on)

    pub reference_led : Result
    reference_led = by some refl
      where
        contested : (b : Bool) → is_same next.0 (at_state from_root q) ≡ b
            → moved_to ≡ cond b q (copy_place (letters t) (place_in_list copies next) (unwrap_or (below (resource q).1 q) [])) → Result
        contested true f e = in_main e (faithful.main (x.0 ∷ c) q (ap (λ k. is_same k (at_state from_root q)) (sym next_keeps) ∙ f))
        contested false f e = in_a_copy e

        by : (b : Bool) → some ≡ b → Result
        by false f = in_main (ap (λ b. cond b (scopes.placed (place_of (marks_of t)) (marks_of t) (base_in [] t) (letters t) some copies s
            q next) q) f)
            (faithful.none f (x.0 ∷ c) q)
        by true f = contested (is_same next.0 (at_state from_root q)) refl
            (ap (λ b. cond b (scopes.placed (place_of (marks_of t)) (marks_of t) (base_in [] t) (letters t) some copies s q next) q) f)
