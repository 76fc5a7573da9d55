-- What is found in the root of a bundled document: `$defs` has the copies, and all else is bundled as without copies.
use Rattle.std.proofs.Common.{◌≡◌, ◌≢◌, ◌⊎◌, ℕ, ◌≤◌, Bool, true, false, List, [], ◌∷◌, Option, Some, None}
use Rattle.std.proofs.Common.{refl, sym, ap, ◌∙◌, true≢false, subst, encode_utf8_all, codes, option_map, cond, nat_lt}
use Rattle.std.proofs.Common.{inl, inr}
use Rattle.std.proofs.Common.{arith}
use Rattle.std.proofs.lemmas.Option.{same_Some}
use Rattle.std.specs.Option.{option_map_or}
use Rattle.tinyjson.proofs.Callers.{find_put_same, find_put_other}
use Rattle.tinyjson.specs.Tree.{Tree, object, Members, no_members, find, put}
use Rattle.tinyjson_schema_keywords.specs.Applied.{members_in, schema_map_at}
use Rattle.tinyjson_schema_keywords.specs.Names.{name}
use Rattle.tinyjson_schema_keywords.specs.declared.keyword.Keyword.TheVariants as kw
use Rattle.tinyjson_schema_bundle.specs.Bundles.{Marked, Leads, is_place, marks_of, place_of, base_in, pointed, pointed_among, pointed_map}
use Rattle.tinyjson_schema_bundle.specs.Bundles.{pointed_members}
use Rattle.tinyjson_schema_bundle.specs.Bundles.{at_key, pointed_list, pointing, is_dynamic}
use lib.Utf8.{encode}
use Rattle.tinyjson_schema_bundle.specs.Scopes.{Reached, from_root, some_contested, letters, longest, longer, letters_in, most_letters}
use Rattle.tinyjson_schema_bundle.specs.Scopes.{put_copies, leads_of}
use Rattle.tinyjson_schema_bundle.specs.Scopes.{copy_of}
use Rattle.tinyjson_schema_bundle.specs.Scopes.{defs_in, with_defs, with_copies}
use Rattle.tinyjson_schema.specs.Schemas.{is_schema, is_schema_map}
use Rattle.tinyjson_schema_laws.proofs.Copies.{longer_most}
use Rattle.tinyjson_schema_laws.proofs.Pointed.{is_kept, picked, found_pointed, form_named}
use Rattle.tinyjson_schema_laws.proofs.Walk.{Fit, fit_member, find_pointed}

-- the name of `$defs`
abbrev pub defs : List ℕ
defs = name kw.Defs

-- Keys of copies have more letters than this, and no key of `$defs` is longer than this.
abbrev pub most : Tree → ℕ
most t = most_letters (marks_of t) (longest (schema_map_at t kw.Defs) 0)

pub most_from : (ms : List Marked) (n : ℕ) → n ≤ most_letters ms n
most_from [] n = omega arith
most_from (m ∷ ms) n = by (is_place m.0) (most_from ms n) (most_from ms (longer n (letters_in m.1)))
  where
    by : (b : Bool) → n ≤ most_letters ms n → longer n (letters_in m.1) ≤ most_letters ms (longer n (letters_in m.1))
        → n ≤ most_letters ms (cond b n (longer n (letters_in m.1)))
    by true h g = h
    by false h g =
        let l = (longer_most n (letters_in m.1) (nat_lt n (letters_in m.1)) refl).0 in
        omega (arith, l, g)

pub longest_most : (t : Tree) → longest (schema_map_at t kw.Defs) 0 ≤ most t
longest_most t = most_from (marks_of t) (longest (schema_map_at t kw.Defs) 0)

module _ (t : Tree) (copies : List Reached) where
  -- where references lead from a schema in the state, and the bundled document
  abbrev pub leading : Reached → Leads
  leading s = leads_of (place_of (marks_of t)) (marks_of t) (base_in [] t) (letters t)
      (some_contested (marks_of t) (base_in [] t) (marks_of t)) copies s

  abbrev pub copy : Reached → Option Tree
  copy s = copy_of (place_of (marks_of t)) (marks_of t) (base_in [] t) (letters t)
      (some_contested (marks_of t) (base_in [] t) (marks_of t)) copies t s

  abbrev pub whole : Tree
  whole = with_copies (place_of (marks_of t)) (marks_of t) (base_in [] t) (letters t)
      (some_contested (marks_of t) (base_in [] t) (marks_of t)) copies t copies

module _ (ms : Members) (copies : List Reached) where
  -- the members of the root, without copies
  abbrev pub main : Members
  main = pointed_among (leading (object ms) copies from_root) (base_in [] (object ms)) [] ms

  abbrev pub made : Members → Members
  made ds = put_copies (copy (object ms) copies) (letters (object ms)) 0 copies ds

  -- the members of the bundled document
  pub record IsWhole (ws : Members) : Type 0 where
    pub same : whole (object ms) copies ≡ object ws
    pub others : (k : List ℕ) → k ≢ defs → find k ws ≡ find k main
    -- those of `$defs`, before the copies are put in
    pub old : Members
    pub olds : (l : List ℕ) → find l old ≡ option_map (pointed (leading (object ms) copies from_root) (base_in [] (object ms))
        (at_key (codes "/$defs") l)) (find l (schema_map_at (object ms) kw.Defs))
    pub map : (w : Tree) → find defs ms ≡ Some w → w ≡ object (members_in w)
    pub new : (find defs ws ≡ Some (object (made old))) ⊎ ((find defs ws ≡ None) × (find defs ms ≡ None) × (copies ≡ []))

module _ (ms : Members) (copies : List Reached) where
  abbrev to : Leads
  to = leading (object ms) copies from_root

  abbrev base : List ℕ
  base = base_in [] (object ms)

  at_defs : at_key [] defs ≡ codes "/$defs"
  unfolding encode
  at_defs = refl

  -- `$defs` of the main part
  defs_main : find defs (main ms copies) ≡ option_map (pointed_map to base (codes "/$defs")) (find defs ms)
  defs_main = found_pointed to base [] defs ms (ap is_kept (form_named kw.Defs))
      ∙ ((λ i. option_map (λ w. picked (form_named kw.Defs i) w (pointing to (is_dynamic (encode_utf8_all defs)) base w)
      (pointed to base (at_key [] defs) w) (pointed_list to base (at_key [] defs) w) (pointed_map to base (at_key [] defs) w))
      (find defs ms))
      ∙ ap (λ p. option_map (pointed_map to base p) (find defs ms)) at_defs)

  abbrev entries : Members → Members
  entries ds = pointed_members to base (codes "/$defs") ds

  abbrev is_map : Tree → Bool
  is_map (object ds) = true
  is_map _ = false

  map_of : (w : Tree) → is_map w ≡ true → w ≡ object (members_in w)
  map_of (object ds) h = refl
  map_of _ h = absurd (true≢false (sym h))

  map_by : (w : Tree) → is_schema_map (whole (object ms) copies) (pointed_map to base (codes "/$defs") w) ≡ true → is_map w ≡ true
  map_by (object ds) h = refl
  map_by _ h = h

  -- it is an object in a schema that can be applied
  map_fits : (w : Tree) → whole (object ms) copies ≡ object (main ms copies)
      → is_schema (whole (object ms) copies) true (whole (object ms) copies) ≡ true → find defs ms ≡ Some w → is_map w ≡ true
  map_fits w e fit f = map_by w (subst (λ g. Fit (whole (object ms) copies) g (pointed_map to base (codes "/$defs") w)) (form_named kw.Defs)
      (fit_member (whole (object ms) copies) defs (main ms copies) (pointed_map to base (codes "/$defs") w) true
      (subst (λ x. is_schema (whole (object ms) copies) true x ≡ true) e fit)
      (defs_main ∙ ap (option_map (pointed_map to base (codes "/$defs"))) f)))

  entries_found : (ds : Members) (l : List ℕ) → find defs ms ≡ Some (object ds)
      → find l (entries ds) ≡ option_map (pointed to base (at_key (codes "/$defs") l)) (find l (schema_map_at (object ms) kw.Defs))
  entries_found ds l e = find_pointed (whole (object ms) copies) (λ b dynamic w. true) to base (codes "/$defs") l ds
      ∙ ap (λ o. option_map (pointed to base (at_key (codes "/$defs") l)) (find l (option_map_or members_in o no_members))) (sym e)

  none_found : (l : List ℕ) → find defs ms ≡ None
      → find l no_members ≡ option_map (pointed to base (at_key (codes "/$defs") l)) (find l (schema_map_at (object ms) kw.Defs))
  none_found l e = ap (λ o. option_map (pointed to base (at_key (codes "/$defs") l)) (find l (option_map_or members_in o no_members)))
      (sym e)

  one_map : (ds : Members) → find defs ms ≡ Some (object ds) → (w : Tree) → find defs ms ≡ Some w → w ≡ object (members_in w)
  one_map ds e w f = let same : object ds ≡ w = same_Some (object ds) w (sym e ∙ f) in
      sym same ∙ ap (λ x. object (members_in x)) same

  no_map : {A : Type 0} → find defs ms ≡ None → (w : Tree) → find defs ms ≡ Some w → A
  no_map e w f = absurd (let none : None ≡ Some w = sym e ∙ f in cc)

-- the bundled document has these members
pub is_whole : (ms : Members) (copies : List Reached) → is_schema (whole (object ms) copies) true (whole (object ms) copies) ≡ true
    → (ws : Members) × IsWhole ms copies ws
is_whole ms copies fit = by copies (find defs ms) refl fit
  where
    by : (copies : List Reached) (o : Option Tree) → find defs ms ≡ o
        → is_schema (whole (object ms) copies) true (whole (object ms) copies) ≡ true → (ws : Members) × IsWhole ms copies ws
    by [] None e fit = (
      main ms [],
      record {
        same = refl;
        others = λ k h. refl;
        old = no_members;
        olds = λ l. none_found ms [] l e;
        map = λ w f. no_map ms [] e w f;
        new = inr (defs_main ms [] ∙ ap (option_map (pointed_map (to ms []) (base ms []) (codes "/$defs"))) e, e, refl);
      },
    )
    by [] (Some (object ds)) e fit = (
      main ms [],
      record {
        same = refl;
        others = λ k h. refl;
        old = entries ms [] ds;
        olds = λ l. entries_found ms [] ds l e;
        map = one_map ms [] ds e;
        new = inl (defs_main ms [] ∙ ap (option_map (pointed_map (to ms []) (base ms []) (codes "/$defs"))) e);
      },
    )
    by [] (Some w) e fit = absurd (true≢false (sym (map_fits ms [] w refl fit e)))
    by (s ∷ ss) None e fit = (
      put defs (object (made ms (s ∷ ss) no_members)) (main ms (s ∷ ss)),
      record {
        same = ap (λ o. with_defs (option_map (made ms (s ∷ ss)) (defs_in (to ms (s ∷ ss)) (base ms (s ∷ ss)) o))
            (object (main ms (s ∷ ss)))) e;
        others = λ k h. find_put_other k defs (object (made ms (s ∷ ss) no_members)) (main ms (s ∷ ss)) h;
        old = no_members;
        olds = λ l. none_found ms (s ∷ ss) l e;
        map = λ w f. no_map ms (s ∷ ss) e w f;
        new = inl (find_put_same defs (object (made ms (s ∷ ss) no_members)) (main ms (s ∷ ss)));
      },
    )
    by (s ∷ ss) (Some (object ds)) e fit = (
      put defs (object (made ms (s ∷ ss) (entries ms (s ∷ ss) ds))) (main ms (s ∷ ss)),
      record {
        same = ap (λ o. with_defs (option_map (made ms (s ∷ ss)) (defs_in (to ms (s ∷ ss)) (base ms (s ∷ ss)) o))
            (object (main ms (s ∷ ss)))) e;
        others = λ k h. find_put_other k defs (object (made ms (s ∷ ss) (entries ms (s ∷ ss) ds))) (main ms (s ∷ ss)) h;
        old = entries ms (s ∷ ss) ds;
        olds = λ l. entries_found ms (s ∷ ss) ds l e;
        map = one_map ms (s ∷ ss) ds e;
        new = inl (find_put_same defs (object (made ms (s ∷ ss) (entries ms (s ∷ ss) ds))) (main ms (s ∷ ss)));
      },
    )
    by (s ∷ ss) (Some w) e fit = absurd (true≢false (sym (map_fits ms (s ∷ ss) w
        (ap (λ o. with_defs (option_map (made ms (s ∷ ss)) (defs_in (to ms (s ∷ ss)) (base ms (s ∷ ss)) o)) (object (main ms (s ∷ ss)))) e)
        fit e)))
