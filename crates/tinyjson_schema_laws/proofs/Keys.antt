-- The place of a schema in a copy, as tokens.
use Rattle.std.proofs.Common.{◌≡◌, ℕ, zero, suc, ◌<◌, ◌≤◌, ◌^◌, List, [], ◌∷◌, ◌++◌, refl, sym, ap, ◌∙◌}
use Rattle.std.proofs.Common.{cond, replicate, encode_utf8_all, chars, arith, codes, append_assoc, append-nil, ne_eqb}
use Rattle.std.proofs.lemmas.Fmt.{decimal_is_IsNumeral}
use Rattle.std.proofs.lemmas.Str.{encode_ascii, scalars-chars}
use Rattle.std.proofs.lemmas.Str.Parse.{digit_from_value}
use Rattle.std.specs.Fmt.{decimal}
use Rattle.std.specs.Str.Parse.{AllDigits}
use lib.Utf8.{encode}
use Rattle.tinyjson_schema_bundle.specs.Bundles.{token_char, token_text, place_after}
use Rattle.tinyjson_schema_bundle.specs.Scopes.{letters_above, copy_key, copy_place}
use Rattle.tinyjson_schema_laws.proofs.Copies.{key_text, key_utf8}
use Rattle.tinyjson_schema_laws.proofs.Places.{AreScalars}
use Rattle.tinyjson_schema_laws.proofs.Texts.{text_of, place_text}
use Rattle.tinyjson_schema_laws.proofs.Whole.{defs}

-- ---- letters and digits stand for themselves

plain_char : (c : ℕ) → 48 ≤ c → c < 126 → token_char c ≡ c ∷ []
plain_char c l h =
    (λ i. cond (ne_eqb c 37 (λ e. omega (arith, e, l)) i) (codes "%25") (cond (ne_eqb c 126 (λ e. omega (arith, e, h)) i) (codes "~0")
    (cond (ne_eqb c 47 (λ e. omega (arith, e, l)) i) (codes "~1") (encode_utf8_all (c ∷ [])))))
    ∙ (append-nil (encode c) ∙ encode_ascii c (omega (arith, h)))

both_plain : (xs ys : List ℕ) → token_text xs ≡ xs → token_text (xs ++ ys) ≡ xs ++ token_text ys
both_plain xs ys e = joined xs ∙ ap (λ x. x ++ token_text ys) e
  where
    joined : (l : List ℕ) → token_text (l ++ ys) ≡ token_text l ++ token_text ys
    joined [] = refl
    joined (c ∷ l) = ap (λ x. token_char c ++ x) (joined l) ∙ sym (append_assoc (token_char c) (token_text l) (token_text ys))

plain_letters : (n : ℕ) → token_text (replicate n 122) ≡ replicate n 122
plain_letters zero = refl
plain_letters (suc n) = λ i. plain_char 122 (omega arith) (omega arith) i ++ plain_letters n i

plain_digits : (ds : List ℕ) → AllDigits 10 ds → token_text ds ≡ ds
plain_digits [] h = refl
plain_digits (c ∷ cs) h = let r = digit_from_value c h.0 in
    λ i. plain_char c (omega (arith, r)) (omega (arith, r)) i ++ plain_digits cs h.1 i

module _ (most i : ℕ) (small : i < 2 ^ 64) where
  abbrev z : List ℕ
  z = letters_above most

  plain_key : token_text (chars (copy_key z i)) ≡ z ++ decimal i
  plain_key = ap token_text (key_text most i small) ∙ (both_plain z (decimal i) (plain_letters (suc most))
      ∙ ap (λ x. z ++ x) (plain_digits (decimal i) (decimal_is_IsNumeral i small).0.1))

  plain_defs : token_text defs ≡ codes "$defs"
  unfolding encode
  plain_defs = refl

  pub copy_text : (ks : List (List ℕ)) (rest : List ℕ) → rest ≡ text_of ks
      → copy_place z i rest ≡ place_after [] (defs ∷ chars (copy_key z i) ∷ ks)
  copy_text ks rest e =
      ap (λ x. codes "/$defs/" ++ (z ++ (decimal i ++ x))) e
      ∙ (ap (λ x. codes "/$defs/" ++ x) (sym (append_assoc z (decimal i) (text_of ks)))
      ∙ (sym (λ j. 47 ∷ (plain_defs j ++ (47 ∷ (plain_key j ++ text_of ks))))
      ∙ sym (place_text [] (defs ∷ chars (copy_key z i) ∷ ks))))

  pub key_scalars : (ks : List (List ℕ)) → AreScalars ks → AreScalars (defs ∷ chars (copy_key z i) ∷ ks)
  key_scalars ks h = (refl, (scalars-chars (copy_key z i) (key_utf8 most i small), h))
