-- A reference that is only a fragment, resolved against a base URI, is this URI with the fragment.
use Rattle.std.proofs.Common.{◌≡◌, ℕ, Bool, true, false, List, [], ◌∷◌, ◌++◌, Option, Some, None}
use Rattle.std.proofs.Common.{cond, refl, sym, ap, ◌∙◌, codes, subst, append_assoc, append-nil, encode_utf8_all}
use Rattle.text_uri.proofs.Marks.{split_fragment}
use Rattle.text_uri.proofs.Whole.{split_whole}
use Rattle.text_uri.specs.Letters.{is_number_sign, before, from, after}
use Rattle.text_uri.specs.Parts.{split, scheme_text, marked}
use Rattle.text_uri.specs.Resolving.{resolved, without_fragment, fragment_of}
use Rattle.tinyjson.specs.Tree.{Tree, string}
use Rattle.tinyjson_schema_keywords.specs.Applied.{schema_at}
use Rattle.tinyjson_schema_keywords.specs.declared.keyword.Keyword.TheVariants as kw
use Rattle.tinyjson_schema_bundle.specs.Bundles.{with_name, base_by, base_in}

-- ---- base URIs have no fragment

abbrev pub IsClean : List ℕ → Type 0
IsClean u = from is_number_sign u ≡ []

cut_clean : (x : List ℕ) → IsClean (without_fragment x)
cut_clean [] = refl
cut_clean (c ∷ x) = by (cut_clean x) (is_number_sign c) refl
  where
    by : IsClean (without_fragment x) → (b : Bool) → is_number_sign c ≡ b → IsClean (cond b [] (c ∷ before is_number_sign x))
    by later true e = refl
    by later false e = ap (λ y. cond y (c ∷ before is_number_sign x) (from is_number_sign (before is_number_sign x))) e ∙ later

by_clean : (b : List ℕ) (o : Option Tree) → IsClean b → IsClean (base_by b o)
by_clean b (Some (string cs)) h = cut_clean (resolved b (encode_utf8_all cs))
by_clean b None h = h
by_clean b (Some _) h = h

pub base_clean : (t : Tree) → IsClean (base_in [] t)
base_clean t = by_clean [] (schema_at t kw.Id) refl

module _ (u : List ℕ) (clean : IsClean u) where
  pub no_fragment : fragment_of u ≡ None
  no_fragment = ap (after (codes "#")) clean

pub front_kept : (u n : List ℕ) → IsClean u → without_fragment (with_name u n) ≡ u
front_kept [] n h = refl
front_kept (c ∷ u) n h = by (front_kept u n) (is_number_sign c) refl h
  where
    by : (IsClean u → without_fragment (with_name u n) ≡ u) → (b : Bool) → is_number_sign c ≡ b
        → cond b (c ∷ u) (from is_number_sign u) ≡ [] → cond (is_number_sign c) [] (c ∷ before is_number_sign (u ++ 35 ∷ n)) ≡ c ∷ u
    by later true e g = absurd (let none : c ∷ u ≡ [] = g in cc)
    by later false e g = ap (λ y. cond y [] (c ∷ before is_number_sign (u ++ 35 ∷ n))) e ∙ ap (λ x. c ∷ x) (later g)

-- ---- the reference, resolved

joined : (a b c d x : List ℕ) → a ++ (b ++ (c ++ (d ++ x))) ≡ (a ++ (b ++ (c ++ (d ++ [])))) ++ x
joined a b c d x = sym (append_assoc a (b ++ (c ++ (d ++ []))) x ∙ ap (λ y. a ++ y) (append_assoc b (c ++ (d ++ [])) x
    ∙ ap (λ y. b ++ y) (append_assoc c (d ++ []) x ∙ ap (λ y. c ++ (y ++ x)) (append-nil d))))

pub inside_resolved : (u f : List ℕ) → IsClean u → resolved u (35 ∷ f) ≡ with_name u f
inside_resolved u f h =
    joined (scheme_text (split u).scheme) (marked (codes "//") (split u).authority) (split u).path (marked (codes "?") (split u).query)
    (35 ∷ f)
    ∙ ap (λ x. x ++ 35 ∷ f) (ap (λ o. scheme_text (split u).scheme ++ (marked (codes "//") (split u).authority ++ ((split u).path
    ++ (marked (codes "?") (split u).query ++ marked (codes "#") o)))) (sym (split_fragment u ∙ no_fragment u h)) ∙ split_whole u)

pub fragment_resolved : (u f : List ℕ) → without_fragment u ≡ u → resolved u (35 ∷ f) ≡ with_name u f
fragment_resolved u f h = inside_resolved u f (subst IsClean h (cut_clean u))
