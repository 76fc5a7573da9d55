-- From a state that keeps a dynamic scope, references first lead where they do in the scope.
use Rattle.std.proofs.Common.{◌≡◌, Bool, true, false, ℕ, List, [], ◌∷◌, Option, Some, None, cond, refl, sym, ap, ◌∙◌}
use Rattle.std.specs.Option.{option_map_or, option_or}
use Rattle.std.specs.Prelude.{option_and_then, unwrap_or}
use Rattle.std.specs.Str.{is_utf8}
use Rattle.tinyjson.specs.Tree.{Tree}
use Rattle.text_uri.specs.Letters.{is_number_sign, before}
use Rattle.text_uri.specs.Resolving.{without_fragment, fragment_of}
use Rattle.tinyjson_schema_keywords.specs.References.{percent_decoded}
use Rattle.tinyjson_schema_bundle.specs.Bundles as bundle
use Rattle.tinyjson_schema_bundle.specs.Bundles.{Leads, marks_of, place_of, dynamic_place, with_name, base_in, begins_pointer, place_below}
use Rattle.tinyjson_schema_bundle.specs.Bundles.{leads_by, first_place}
use Rattle.tinyjson_schema_bundle.specs.Scopes.{Reached, leads_of, leads_over, scope_at, settled}
use Rattle.tinyjson_schema_laws.specs.Laws.{BeginsIn, AreUris, kept}
use Rattle.tinyjson_schema_laws.specs.Scoped.{Scope, outermost, dynamic_in, leads_in}
use Rattle.tinyjson_schema_laws.proofs.Contested.{scope_decides}

pub cut_twice : (x : List ℕ) → without_fragment (without_fragment x) ≡ without_fragment x
cut_twice [] = refl
cut_twice (c ∷ x) = by (cut_twice x) (is_number_sign c) refl
  where
    by : without_fragment (without_fragment x) ≡ without_fragment x → (b : Bool) → is_number_sign c ≡ b
        → before is_number_sign (cond b [] (c ∷ before is_number_sign x)) ≡ cond b [] (c ∷ before is_number_sign x)
    by later true e = refl
    by later false e = ap (λ b. cond b [] (c ∷ before is_number_sign (before is_number_sign x))) e ∙ ap (λ y. c ∷ y) later

module _ (t : Tree) (c : Scope) (ends : BeginsIn (base_in [] t) c) (uris : AreUris c) (z : List ℕ) (some : Bool) (copies : List Reached)
    (s : Reached) (b : List ℕ) (keeps : kept (marks_of t) (base_in [] t) c
    ≡ scope_at (marks_of t) (base_in [] t) s (unwrap_or (place_of (marks_of t) b) [])) where
  abbrev guide : Leads
  guide = leads_of (place_of (marks_of t)) (marks_of t) (base_in [] t) z some copies s

  named : (u n : List ℕ) → without_fragment u ≡ u → begins_pointer n ≡ false → guide.1 b u n ≡ dynamic_in (marks_of t) c u n
  named u n cut is_name = by (dynamic_place (marks_of t) (with_name u n)) refl
    where
      by : (o : Option (List ℕ)) → dynamic_place (marks_of t) (with_name u n) ≡ o
          → option_map_or (λ q. Some (leads_over (marks_of t) (base_in [] t) s (unwrap_or (place_of (marks_of t) b) []) n q)) o
          (place_of (marks_of t) (with_name u n))
          ≡ option_map_or (λ q. Some (unwrap_or (outermost (marks_of t) c n) q)) o (place_of (marks_of t) (with_name u n))
      by None e = refl
      by (Some q) e = ap Some (ap (λ k. unwrap_or (option_or (bundle.outermost (marks_of t) (base_in [] t) n q) (settled k n)) q)
          (sym keeps)
          ∙ scope_decides t c ends uris u n q cut is_name e)

  pub first_same : (dynamic : Bool) (x : List ℕ) → first_place guide dynamic b x ≡ first_place (leads_in (marks_of t) c) dynamic b x
  first_same dynamic x = by (percent_decoded (unwrap_or (fragment_of x) []))
    where
      u : List ℕ
      u = without_fragment x

      chosen : (ds : List ℕ) (h : Bool) → begins_pointer ds ≡ h
          → cond h (option_and_then (λ p. place_below p ds) (place_of (marks_of t) (without_fragment x)))
          (cond dynamic (guide.1 b (without_fragment x) ds) (place_of (marks_of t) (with_name (without_fragment x) ds)))
          ≡ cond h (option_and_then (λ p. place_below p ds) (place_of (marks_of t) (without_fragment x)))
          (cond dynamic (dynamic_in (marks_of t) c (without_fragment x) ds) (place_of (marks_of t) (with_name (without_fragment x) ds)))
      chosen ds true e = refl
      chosen ds false e = ap (λ o. cond dynamic o (place_of (marks_of t) (with_name (without_fragment x) ds)))
          (named (without_fragment x) ds (cut_twice x) e)

      by : (o : Option (List ℕ)) → option_and_then (leads_by guide dynamic b (without_fragment x)) o
          ≡ option_and_then (leads_by (leads_in (marks_of t) c) dynamic b (without_fragment x)) o
      by None = refl
      by (Some ds) = ap (λ o. cond (is_utf8 ds) o None) (chosen ds (begins_pointer ds) refl)
