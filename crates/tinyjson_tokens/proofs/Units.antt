-- Characters from units, one unit at a time.
use Rattle.std.proofs.Common.{◌≡◌, ℕ, ◌+◌, ◌<◌, Bool, ◌||◌, ◌&&◌, not, cond, true, false, true≢false, List, [], ◌∷◌, ◌++◌, length, drop}
use Rattle.std.proofs.Common.{Option, Some, None, String, Global, string_bytes, refl, sym, ap, ◌∙◌, append_assoc, append-nil, drop-cons}
use Rattle.std.proofs.Common.{add-one, arith}
use Rattle.std.specs.Char.{IsScalar, InScalarRange, OutOfScalarRange, encode_utf8}
use Rattle.std.specs.Prelude.{slice_index}
use Rattle.std.specs.Option.{option_to_list}
use Rattle.std.proofs.lemmas.Bool.{not-true}
use Rattle.std.proofs.lemmas.Bool.Decides.{nat_tests}
use Rattle.std.specs.Str.{chars}
use Rattle.std.proofs.lemmas.Str.{chars-append, chars-encodes, IsUtf8-string_bytes}
use Rattle.tinyjson_grammar.specs.Characters.{text, is_high, is_low, is_surrogate, pair_of, paired, decode}

pub text_push : (new old : String Global) (c : ℕ) → IsScalar c → string_bytes new ≡ string_bytes old ++ encode_utf8 c
    → text new ≡ text old ++ c ∷ []
text_push new old c h e = ap chars e ∙ chars-append (string_bytes old) (encode_utf8 c) (IsUtf8-string_bytes old)
    ∙ ap (λ bs. text old ++ chars bs) (sym (append-nil (encode_utf8 c))) ∙ ap (λ cs. text old ++ cs) (chars-encodes (c ∷ []) (rw h refl))

pub paired_pair : (h l : ℕ) (us : List ℕ) → is_high h ≡ true → is_low l ≡ true → paired (h ∷ l ∷ us) ≡ paired us
paired_pair h l us a b = rw (a, b) refl

pub decode_pair : (h l : ℕ) (us : List ℕ) → is_high h ≡ true → is_low l ≡ true → decode (h ∷ l ∷ us) ≡ pair_of h l ∷ decode us
decode_pair h l us a b = rw (a, b) refl

pub paired_low : (l : ℕ) (us : List ℕ) → is_surrogate l ≡ true → is_high l ≡ false → paired (l ∷ us) ≡ false
paired_low l [] a b = rw a refl
paired_low l (u ∷ us) a b = rw (a, b) refl

paired_high : (h l : ℕ) (us : List ℕ) → is_high h ≡ true → is_low l ≡ false → paired (h ∷ l ∷ us) ≡ false
paired_high h l us a b = rw (a, b) refl

pub paired_plain : (u : ℕ) (us : List ℕ) → is_surrogate u ≡ false → is_high u ≡ false → paired (u ∷ us) ≡ paired us
paired_plain u [] a b = rw a refl
paired_plain u (v ∷ us) a b = rw (a, b) refl

pub decode_plain : (u : ℕ) (us : List ℕ) → is_high u ≡ false → decode (u ∷ us) ≡ u ∷ decode us
decode_plain u [] b = refl
decode_plain u (v ∷ us) b = rw b refl

-- ---- units of which each surrogate has its partner, and units after them

alone_high : (u : ℕ) → not (is_surrogate u) ≡ true → is_high u ≡ false
alone_high u h = or_left (is_high u) (is_low u) h
  where
    or_left : (a b : Bool) → not (a || b) ≡ true → a ≡ false
    or_left true b h = absurd (true≢false (sym h))
    or_left false b h = refl

paired_either : (b n x y v w z : Bool) → (x ≡ true → v ≡ z) → (y ≡ true → w ≡ z) → cond b x (n && y) ≡ true → cond b v (n && w) ≡ z
paired_either true n x y v w z f g h = f h
paired_either false true x y v w z f g h = g h
paired_either false false x y v w z f g h = absurd (true≢false (sym h))

decode_either : (b n x y : Bool) (p u : ℕ) (xs ys vs ws zs : List ℕ) → (x ≡ true → vs ≡ xs ++ zs) → (y ≡ true → ws ≡ ys ++ zs)
    → cond b x (n && y) ≡ true → cond b (p ∷ vs) (u ∷ ws) ≡ cond b (p ∷ xs) (u ∷ ys) ++ zs
decode_either true n x y p u xs ys vs ws zs f g h = ap (λ cs. p ∷ cs) (f h)
decode_either false true x y p u xs ys vs ws zs f g h = ap (λ cs. u ∷ cs) (g h)
decode_either false false x y p u xs ys vs ws zs f g h = absurd (true≢false (sym h))

pub paired_append : (us vs : List ℕ) → paired us ≡ true → paired (us ++ vs) ≡ paired vs
paired_append [] vs h = refl
paired_append (u ∷ []) vs h = paired_plain u vs (not-true (is_surrogate u) h) (alone_high u h)
paired_append (u ∷ v ∷ us) vs h =
    paired_either (is_high u && is_low v) (not (is_surrogate u)) (paired us) (paired (v ∷ us)) (paired (us ++ vs)) (paired (v ∷ us ++ vs))
    (paired vs) (paired_append us vs) (paired_append (v ∷ us) vs) h

pub decode_append : (us vs : List ℕ) → paired us ≡ true → decode (us ++ vs) ≡ decode us ++ decode vs
decode_append [] vs h = refl
decode_append (u ∷ []) vs h = decode_plain u vs (alone_high u h)
decode_append (u ∷ v ∷ us) vs h =
    decode_either (is_high u && is_low v) (not (is_surrogate u)) (paired us) (paired (v ∷ us)) (pair_of u v) u (decode us) (decode (v ∷ us))
    (decode (us ++ vs)) (decode (v ∷ us ++ vs)) (decode vs) (decode_append us vs) (decode_append (v ∷ us) vs) h

-- ---- a unit in its list

module _ (us : List ℕ) (i : ℕ) (h : i < length us) where
  front : drop i us ≡ slice_index us i ∷ drop (i + 1) us
  front = drop-cons us i 0 h ∙ ap (λ j. slice_index us i ∷ drop j us) (sym (add-one i))

  module _ (high : Option ℕ) (p : paired (option_to_list high ++ drop i us) ≡ paired us) where
    pub low_ends : high ≡ None → is_surrogate (slice_index us i) ≡ true → is_high (slice_index us i) ≡ false → false ≡ paired us
    low_ends e a b = sym (paired_low (slice_index us i) (drop (i + 1) us) a b) ∙ ap paired (sym front)
        ∙ ap (λ o. paired (option_to_list o ++ drop i us)) (sym e) ∙ p

    pub pair_goes : (first : ℕ) → high ≡ Some first → is_high first ≡ true → is_low (slice_index us i) ≡ true
        → paired (drop (i + 1) us) ≡ paired us
    pair_goes first e a b = sym (paired_pair first (slice_index us i) (drop (i + 1) us) a b) ∙ ap (λ ds. paired (first ∷ ds)) (sym front)
        ∙ ap (λ o. paired (option_to_list o ++ drop i us)) (sym e) ∙ p

    pub high_ends : (first : ℕ) → high ≡ Some first → is_high first ≡ true → is_low (slice_index us i) ≡ false → false ≡ paired us
    high_ends first e a b = sym (paired_high first (slice_index us i) (drop (i + 1) us) a b) ∙ ap (λ ds. paired (first ∷ ds)) (sym front)
        ∙ ap (λ o. paired (option_to_list o ++ drop i us)) (sym e) ∙ p

    pub high_goes : high ≡ None → paired (slice_index us i ∷ drop (i + 1) us) ≡ paired us
    high_goes e = ap paired (sym front) ∙ ap (λ o. paired (option_to_list o ++ drop i us)) (sym e) ∙ p

    pub plain_goes : high ≡ None → is_surrogate (slice_index us i) ≡ false → is_high (slice_index us i) ≡ false
        → paired (drop (i + 1) us) ≡ paired us
    plain_goes e a b = sym (paired_plain (slice_index us i) (drop (i + 1) us) a b) ∙ high_goes e

  module _ (high : Option ℕ) (s t : List ℕ) (p : s ++ decode (option_to_list high ++ drop i us) ≡ t ++ decode us) where
    pub pair_text : (first : ℕ) → high ≡ Some first → is_high first ≡ true → is_low (slice_index us i) ≡ true
        → (s ++ pair_of first (slice_index us i) ∷ []) ++ decode (drop (i + 1) us) ≡ t ++ decode us
    pair_text first e a b = append_assoc s (pair_of first (slice_index us i) ∷ []) (decode (drop (i + 1) us))
        ∙ ap (λ ds. s ++ ds) (sym (decode_pair first (slice_index us i) (drop (i + 1) us) a b) ∙ ap (λ ds. decode (first ∷ ds)) (sym front)
        ∙ ap (λ o. decode (option_to_list o ++ drop i us)) (sym e)) ∙ p

    pub high_text : high ≡ None → s ++ decode (slice_index us i ∷ drop (i + 1) us) ≡ t ++ decode us
    high_text e = ap (λ ds. s ++ ds) (ap decode (sym front) ∙ ap (λ o. decode (option_to_list o ++ drop i us)) (sym e)) ∙ p

    pub plain_text : high ≡ None → is_high (slice_index us i) ≡ false → (s ++ slice_index us i ∷ []) ++ decode (drop (i + 1) us)
        ≡ t ++ decode us
    plain_text e b = append_assoc s (slice_index us i ∷ []) (decode (drop (i + 1) us))
        ∙ ap (λ ds. s ++ ds) (sym (decode_plain (slice_index us i) (drop (i + 1) us) b)) ∙ high_text e

pub not_scalar : (u : ℕ) → u < 65536 → OutOfScalarRange u → is_surrogate u ≡ true
not_scalar u h o = grind (arith, nat_tests)

pub scalar_plain : (u : ℕ) → InScalarRange u → is_surrogate u ≡ false
scalar_plain u h = grind (arith, nat_tests)
