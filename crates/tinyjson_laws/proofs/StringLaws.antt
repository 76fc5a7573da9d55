-- Units of UTF-16: the definitions of the grammar beside the library's.
use Rattle.std.proofs.Common.{◌≡◌, ℕ, Bool, true, false, List, [], ◌∷◌, Option, Some, None, refl, ap, ◌∙◌, sym, cond, arith, IsTrue, map}
use Rattle.std.proofs.Common.{not, ◌&&◌, ◌||◌, nat_le, nat_lt}
use Rattle.std.specs.Char.Utf16.{lone_unit_char, utf16_chars}
use Rattle.std.specs.List.{list_any}
use Rattle.std.specs.Prelude.{is_some}
use Rattle.std.proofs.lemmas.Bool.{and_parts, not-true, true≢false}
use Rattle.tinyjson_grammar.specs.Characters.{is_high, is_low, pair_of, is_surrogate, paired, decode}
use Rattle.tinyjson_laws.specs.Strings.{PairsAsInStd}

abbrev is_lone : Option ℕ → Bool
is_lone o = not (is_some o)

in_range : (u : ℕ) → is_surrogate u ≡ (nat_le 0xd800 u && nat_lt u 0xe000)
in_range u = grind arith

lone_is : (u : ℕ) → is_lone (lone_unit_char u) ≡ is_surrogate u
lone_is u = by (nat_le 0xd800 u && nat_lt u 0xe000) (in_range u)
  where
    by : (b : Bool) → is_surrogate u ≡ b → is_lone (cond b None (Some u)) ≡ is_surrogate u
    by true e = sym e
    by false e = sym e

alone : (u : ℕ) → IsTrue (not (is_surrogate u)) → lone_unit_char u ≡ Some u
alone u h = by (nat_le 0xd800 u && nat_lt u 0xe000) (in_range u)
  where
    by : (b : Bool) → is_surrogate u ≡ b → cond b None (Some u) ≡ Some u
    by true e = absurd (true≢false (sym e ∙ not-true (is_surrogate u) h))
    by false e = refl

or_nothing : (a : Bool) → a ≡ (a || false)
or_nothing true = refl
or_nothing false = refl

not_or : (a b : Bool) → (not a && not b) ≡ not (a || b)
not_or true b = refl
not_or false b = refl

paired_is : (us : List ℕ) → paired us ≡ not (list_any is_lone (utf16_chars us))
unfolding utf16_chars
paired_is [] = refl
paired_is (u ∷ []) = ap not (or_nothing (is_surrogate u) ∙ ap (λ b. b || false) (sym (lone_is u)))
paired_is (u ∷ v ∷ us) = by (is_high u && is_low v) (paired_is us) (paired_is (v ∷ us))
  where
    by : (b : Bool) → paired us ≡ not (list_any is_lone (utf16_chars us)) → paired (v ∷ us) ≡ not (list_any is_lone (utf16_chars (v ∷ us)))
        →
        cond b (paired us) (not (is_surrogate u) && paired (v ∷ us))
        ≡ not (list_any is_lone (cond b (Some (pair_of u v) ∷ utf16_chars us) (lone_unit_char u ∷ utf16_chars (v ∷ us))))
    by true h g = h
    by false h g =
        let rest = list_any is_lone (utf16_chars (v ∷ us)) in
        ap (λ p. not (is_surrogate u) && p) g ∙ (not_or (is_surrogate u) rest ∙ ap (λ b. not (b || rest)) (sym (lone_is u)))

decoded_is : (us : List ℕ) → IsTrue (paired us) → utf16_chars us ≡ map Some (decode us)
unfolding utf16_chars
decoded_is [] h = refl
decoded_is (u ∷ []) h = ap (λ o. o ∷ []) (alone u h)
decoded_is (u ∷ v ∷ us) h = by (is_high u && is_low v) h (λ g. decoded_is us g) (λ g. decoded_is (v ∷ us) g)
  where
    by : (b : Bool) → IsTrue (cond b (paired us) (not (is_surrogate u) && paired (v ∷ us)))
        → (IsTrue (paired us) → utf16_chars us ≡ map Some (decode us))
        → (IsTrue (paired (v ∷ us)) → utf16_chars (v ∷ us) ≡ map Some (decode (v ∷ us))) →
        cond b (Some (pair_of u v) ∷ utf16_chars us) (lone_unit_char u ∷ utf16_chars (v ∷ us))
        ≡ map Some (cond b (pair_of u v ∷ decode us) (u ∷ decode (v ∷ us)))
    by true h f g = ap (λ xs. Some (pair_of u v) ∷ xs) (f h)
    by false h f g = let k = and_parts _ _ h in ap (λ o. o ∷ utf16_chars (v ∷ us)) (alone u k.0) ∙ ap (λ xs. Some u ∷ xs) (g k.1)

pub pairs_as_in_std : PairsAsInStd
pairs_as_in_std us = (paired_is us, decoded_is us)
