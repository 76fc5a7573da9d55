-- Each text is that of its parts.
use Rattle.std.proofs.Common.{◌≡◌, ◌∷◌, [], ◌++◌, ℕ, ◌==◌, ◌||◌, Bool, true, false, List, Option, Some, None, cond, codes}
use Rattle.std.proofs.Common.{refl, sym, ap, ◌∙◌, append_assoc, eqb-true}
use Rattle.std.specs.Option.{option_map_or}
use Rattle.text_uri.specs.Letters.{is_number_sign, before, from, after}
use Rattle.text_uri.specs.Parts.{Cut, ends_path, ends_scheme, ends_authority, is_scheme, cut_at_colon, cut_scheme, cut_marked}
use Rattle.text_uri.specs.Parts.{cut_authority, cut_query, split, marked, scheme_text, composed}
use Rattle.text_uri.proofs.Fronts.{after_splits}

whole : (p : ℕ → Bool) (xs : List ℕ) → before p xs ++ from p xs ≡ xs
whole p [] = refl
whole p (x ∷ xs) = by (p x) (whole p xs)
  where
    by : (b : Bool) → before p xs ++ from p xs ≡ xs → cond b [] (x ∷ before p xs) ++ cond b (x ∷ xs) (from p xs) ≡ x ∷ xs
    by true more = refl
    by false more = ap (λ ys. x ∷ ys) more

scheme_whole : (text : List ℕ) → scheme_text (cut_scheme text).0 ++ (cut_scheme text).1 ≡ text
scheme_whole text = by (after (codes ":") (from ends_scheme text)) refl
  where
    joined : (b : Bool) (rest : List ℕ) → after (codes ":") (from ends_scheme text) ≡ Some rest
        → scheme_text (cond {A = Cut} b (Some (before ends_scheme text), rest) (None, text)).0
        ++ (cond {A = Cut} b (Some (before ends_scheme text), rest) (None, text)).1 ≡ text
    joined true rest e = append_assoc (before ends_scheme text) (codes ":") rest
        ∙ (ap (λ ys. before ends_scheme text ++ ys) (sym (after_splits (codes ":") (from ends_scheme text) rest e))
        ∙ whole ends_scheme text)
    joined false rest e = refl

    by : (o : Option (List ℕ)) → after (codes ":") (from ends_scheme text) ≡ o
        → scheme_text (cut_at_colon text (before ends_scheme text) o).0 ++ (cut_at_colon text (before ends_scheme text) o).1 ≡ text
    by None e = refl
    by (Some rest) e = joined (is_scheme (before ends_scheme text)) rest e

marked_whole : (mark : List ℕ) (p : ℕ → Bool) (text : List ℕ)
    → marked mark (cut_marked mark p text).0 ++ (cut_marked mark p text).1 ≡ text
marked_whole mark p text = by (after mark text) refl
  where
    by : (o : Option (List ℕ)) → after mark text ≡ o
        → marked mark (option_map_or {U = Cut} (λ rest. (Some (before p rest), from p rest)) o (None, text)).0
        ++ (option_map_or {U = Cut} (λ rest. (Some (before p rest), from p rest)) o (None, text)).1 ≡ text
    by None e = refl
    by (Some rest) e = append_assoc mark (before p rest) (from p rest)
        ∙ (ap (λ ys. mark ++ ys) (whole p rest) ∙ sym (after_splits mark text rest e))

-- what begins with `#`, or is empty
abbrev IsFragment : List ℕ → Type 0
IsFragment xs = marked (codes "#") (after (codes "#") xs) ≡ xs

at_sign : (x : ℕ) (xs : List ℕ) → (x == 35) ≡ true → IsFragment (x ∷ xs)
at_sign x xs e = ap (λ b. marked (codes "#") (cond b (Some xs) None)) e ∙ ap (λ c. c ∷ xs) (sym (eqb-true x 35 e))

behind_query : (xs : List ℕ) → IsFragment (from is_number_sign xs)
behind_query [] = refl
behind_query (x ∷ xs) = by (x == 35) refl (behind_query xs)
  where
    by : (b : Bool) → (x == 35) ≡ b → IsFragment (from is_number_sign xs) → IsFragment (cond b (x ∷ xs) (from is_number_sign xs))
    by true e more = at_sign x xs e
    by false e more = more

behind_path : (xs : List ℕ) → after (codes "?") (from ends_path xs) ≡ None → IsFragment (from ends_path xs)
behind_path [] e = refl
behind_path (x ∷ xs) e = by (x == 63) (x == 35) refl refl (behind_path xs) e
  where
    by : (a b : Bool) → (x == 63) ≡ a → (x == 35) ≡ b
        → (after (codes "?") (from ends_path xs) ≡ None → IsFragment (from ends_path xs))
        → after (codes "?") (cond (a || b) (x ∷ xs) (from ends_path xs)) ≡ None → IsFragment (cond (a || b) (x ∷ xs) (from ends_path xs))
    by true b q s more e =
        let some : after (codes "?") (x ∷ xs) ≡ Some xs = ap (λ t. cond t (Some xs) None) q in
        cc
    by false true q s more e = at_sign x xs s
    by false false q s more e = more e

fragment_whole : (xs : List ℕ) → IsFragment (cut_query (from ends_path xs)).1
fragment_whole xs = by (after (codes "?") (from ends_path xs)) refl
  where
    by : (o : Option (List ℕ)) → after (codes "?") (from ends_path xs) ≡ o
        → IsFragment (option_map_or {U = Cut} (λ rest. (Some (before is_number_sign rest), from is_number_sign rest)) o
        (None, from ends_path xs)).1
    by None e = behind_path xs e
    by (Some rest) e = behind_query rest

pub split_whole : (text : List ℕ) → composed (split text) ≡ text
split_whole text =
    let scheme = cut_scheme text in
    let authority = cut_authority scheme.1 in
    let query = cut_query (from ends_path authority.1) in
    let path = before ends_path authority.1 in
    ap (λ xs. scheme_text scheme.0 ++ (marked (codes "//") authority.0 ++ (path ++ (marked (codes "?") query.0 ++ xs))))
    (fragment_whole authority.1)
    ∙ (ap (λ xs. scheme_text scheme.0 ++ (marked (codes "//") authority.0 ++ (path ++ xs)))
    (marked_whole (codes "?") is_number_sign (from ends_path authority.1))
    ∙ (ap (λ xs. scheme_text scheme.0 ++ (marked (codes "//") authority.0 ++ xs)) (whole ends_path authority.1)
    ∙ (ap (λ xs. scheme_text scheme.0 ++ xs) (marked_whole (codes "//") ends_authority scheme.1) ∙ scheme_whole text)))
