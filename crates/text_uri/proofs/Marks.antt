-- The first `#` of a text, behind its scheme, its authority, its path and its query.
use Rattle.std.proofs.Common.{◌≡◌, ◌∷◌, [], ◌++◌, ℕ, ◌==◌, ◌||◌, Bool, true, false, List, Option, Some, None, cond, codes}
use Rattle.std.proofs.Common.{refl, sym, ap, ◌∙◌}
use Rattle.std.specs.Option.{option_map_or}
use Rattle.text_uri.specs.Letters.{is_number_sign, before, from, after}
use Rattle.text_uri.specs.Parts.{Cut, ends_path, ends_scheme, ends_authority, is_scheme, cut_at_colon, cut_scheme, cut_marked}
use Rattle.text_uri.specs.Parts.{cut_authority, cut_query, split}
use Rattle.text_uri.specs.Resolving.{fragment_of}
use Rattle.text_uri.proofs.Fronts.{after_splits}

-- from the first `#` on
abbrev sign : List ℕ → List ℕ
sign xs = from is_number_sign xs

-- a test that a `#` passes
abbrev Passes : (ℕ → Bool) → Type 0
Passes p = (c : ℕ) → p c ≡ false → (c == 35) ≡ false

or_right : (a b : Bool) → (a || b) ≡ false → b ≡ false
or_right true b e = cc
or_right false b e = e

path_passes : Passes ends_path
path_passes c e = or_right (c == 63) (c == 35) e

authority_passes : Passes ends_authority
authority_passes c e = path_passes c (or_right (c == 47) (ends_path c) e)

scheme_passes : Passes ends_scheme
scheme_passes c e = authority_passes c (or_right (c == 58) (ends_authority c) e)

skips : (p : ℕ → Bool) (xs : List ℕ) → Passes p → sign xs ≡ sign (from p xs)
skips p [] k = refl
skips p (x ∷ xs) k = by (p x) refl (skips p xs k)
  where
    by : (b : Bool) → p x ≡ b → sign xs ≡ sign (from p xs) → sign (x ∷ xs) ≡ sign (cond b (x ∷ xs) (from p xs))
    by true e more = refl
    by false e more = ap (λ t. cond t (x ∷ xs) (sign xs)) (k x e) ∙ more

scheme_sign : (text : List ℕ) → sign text ≡ sign (cut_scheme text).1
scheme_sign text = by (after (codes ":") (from ends_scheme text)) refl
  where
    joined : (b : Bool) (rest : List ℕ) → after (codes ":") (from ends_scheme text) ≡ Some rest
        → sign text ≡ sign (cond {A = Cut} b (Some (before ends_scheme text), rest) (None, text)).1
    joined true rest e = skips ends_scheme text scheme_passes ∙ ap sign (after_splits (codes ":") (from ends_scheme text) rest e)
    joined false rest e = refl

    by : (o : Option (List ℕ)) → after (codes ":") (from ends_scheme text) ≡ o
        → sign text ≡ sign (cut_at_colon text (before ends_scheme text) o).1
    by None e = refl
    by (Some rest) e = joined (is_scheme (before ends_scheme text)) rest e

marked_sign : (mark : List ℕ) (p : ℕ → Bool) (text : List ℕ) → ((rest : List ℕ) → sign (mark ++ rest) ≡ sign rest) → Passes p
    → sign text ≡ sign (cut_marked mark p text).1
marked_sign mark p text m k = by (after mark text) refl
  where
    by : (o : Option (List ℕ)) → after mark text ≡ o
        → sign text ≡ sign (option_map_or {U = Cut} (λ rest. (Some (before p rest), from p rest)) o (None, text)).1
    by None e = refl
    by (Some rest) e = ap sign (after_splits mark text rest e) ∙ (m rest ∙ skips p rest k)

at_sign : (x : ℕ) (xs : List ℕ) → (x == 35) ≡ true → sign (x ∷ xs) ≡ x ∷ xs
at_sign x xs e = ap (λ t. cond t (x ∷ xs) (sign xs)) e

behind_path : (xs : List ℕ) → after (codes "?") (from ends_path xs) ≡ None → sign (from ends_path xs) ≡ from ends_path xs
behind_path [] e = refl
behind_path (x ∷ xs) e = by (x == 63) (x == 35) refl refl (behind_path xs) e
  where
    by : (a b : Bool) → (x == 63) ≡ a → (x == 35) ≡ b
        → (after (codes "?") (from ends_path xs) ≡ None → sign (from ends_path xs) ≡ from ends_path xs)
        → after (codes "?") (cond (a || b) (x ∷ xs) (from ends_path xs)) ≡ None
        → sign (cond (a || b) (x ∷ xs) (from ends_path xs)) ≡ cond (a || b) (x ∷ xs) (from ends_path xs)
    by true b q s more e =
        let some : after (codes "?") (x ∷ xs) ≡ Some xs = ap (λ t. cond t (Some xs) None) q in
        cc
    by false true q s more e = at_sign x xs s
    by false false q s more e = more e

abbrev behind : List ℕ → Option (List ℕ) → List ℕ
behind xs o = (option_map_or {U = Cut} (λ rest. (Some (before is_number_sign rest), sign rest)) o (None, from ends_path xs)).1

query_sign : (xs : List ℕ) → sign (cut_query (from ends_path xs)).1 ≡ (cut_query (from ends_path xs)).1
query_sign xs = by (after (codes "?") (from ends_path xs)) refl
  where
    by : (o : Option (List ℕ)) → after (codes "?") (from ends_path xs) ≡ o → sign (behind xs o) ≡ behind xs o
    by None e = behind_path xs e
    by (Some rest) e = sym (skips is_number_sign rest (λ c h. h))

pub split_fragment : (text : List ℕ) → (split text).fragment ≡ fragment_of text
split_fragment text =
    let scheme = cut_scheme text in
    let authority = cut_authority scheme.1 in
    let rest = from ends_path authority.1 in
    ap (after (codes "#")) (sym (scheme_sign text ∙ (marked_sign (codes "//") ends_authority scheme.1 (λ r. refl) authority_passes
    ∙ (skips ends_path authority.1 path_passes
    ∙ (marked_sign (codes "?") is_number_sign rest (λ r. refl) (λ c h. h) ∙ query_sign authority.1)))))
