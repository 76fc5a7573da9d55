-- Quoted strings as bytes.
use Rattle.std.proofs.Common.{◌==◌, ◌≡◌, ℕ, suc, ◌+◌, ◌/◌, ◌%◌, cond, inl, inr, Bool, true, false, List, [], ◌∷◌, ◌++◌, length, get_or}
use Rattle.std.proofs.Common.{take, drop, length-drop, ◌-◌, ◌≤◌, refl, sym, ◌∙◌, ap, append_assoc, append-nil, arith, lit<, ◌<◌}
use Rattle.std.specs.Str.{chars, IsUtf8, IsAscii}
use Rattle.std.proofs.Math.Utf8.{encode}
use Rattle.std.specs.Char.{digit_char}
use Rattle.std.specs.Bool.{nat_lt}
use Rattle.std.proofs.lemmas.Str.{encodes-append, encode_ascii, encodes-chars, encodes-IsAscii, inside_one, IsAscii-append}
use Rattle.std.proofs.lemmas.Str.Ascii.{IsAscii-nil, IsAscii-cons}
use Rattle.std.proofs.lemmas.Bool.{cases_lt, cond_both}
use Rattle.std.proofs.lemmas.List.{take_all, drop_all}
use Rattle.std.proofs.lemmas.Bool.Decides.{nat_tests}
use Rattle.std.specs.List.{prefix_len}
use Rattle.tinyjson_bytes.specs.Scan.{is_plain}
use Rattle.tinyjson_grammar.specs.Text.{quoted, escape, escapes}
use Rattle.tinyjson_output.proofs.Bytes.{enc, enclosed}

-- ---- bytes that stand as they are, and what follows them

plain_escape : (b : ℕ) → is_plain b ≡ true → escape b ≡ b ∷ []
plain_escape b h = grind (arith, nat_tests)

escapes_plain : (xs : List ℕ) → escapes xs ≡ take (prefix_len is_plain xs) xs ++ escapes (drop (prefix_len is_plain xs) xs)
escapes_plain [] = refl
escapes_plain (x ∷ xs) = go (is_plain x) refl (escapes_plain xs)
  where
    n : ℕ
    n = prefix_len is_plain xs

    go : (b : Bool) → is_plain x ≡ b → escapes xs ≡ take n xs ++ escapes (drop n xs)
        → escapes (x ∷ xs) ≡ take (cond b (1 + n) 0) (x ∷ xs) ++ escapes (drop (cond b (1 + n) 0) (x ∷ xs))
    go true e h = let one : 1 + n ≡ suc n = omega arith in rw one (ap (λ w. w ++ escapes xs) (plain_escape x e) ∙ ap (λ w. x ∷ w) h)
    go false e h = refl

plain_stops : (xs : List ℕ) → prefix_len is_plain (drop (prefix_len is_plain xs) xs) ≡ 0
plain_stops [] = refl
plain_stops (x ∷ xs) = go (is_plain x) refl (plain_stops xs)
  where
    n : ℕ
    n = prefix_len is_plain xs

    go : (b : Bool) → is_plain x ≡ b → prefix_len is_plain (drop n xs) ≡ 0 → prefix_len is_plain (drop (cond b (1 + n) 0) (x ∷ xs)) ≡ 0
    go true e h = let one : 1 + n ≡ suc n = omega arith in rw one h
    go false e h = ap (λ b. cond b (1 + n) 0) e

module _ (xs : List ℕ) (n : ℕ) (e : n ≡ 0 + prefix_len is_plain xs) where
  end_is : n ≡ prefix_len is_plain xs
  end_is = omega (arith, e)

  pub at_stop : escapes xs ≡ take n xs ++ escapes (drop n xs)
  at_stop = escapes_plain xs ∙ ap (λ k. take k xs ++ escapes (drop k xs)) (sym end_is)

  pub all_plain : length xs ≤ n → escapes xs ≡ xs
  all_plain h = at_stop ∙ ap (λ ys. take n xs ++ escapes ys) (drop_all n xs h) ∙ append-nil (take n xs) ∙ take_all n xs h

  rest_is : take (length xs - n) (drop n xs) ≡ drop n xs
  rest_is = take_all _ (drop n xs) (omega (arith, length-drop n xs))

  pub stops_there : prefix_len is_plain (take (length xs - n) (drop n xs)) ≡ 0
  stops_there = ap (prefix_len is_plain) rest_is ∙ ap (λ k. prefix_len is_plain (drop k xs)) end_is ∙ plain_stops xs

  pub escapes_there : escapes (drop n xs) ≡ escapes (take (length xs - n) (drop n xs))
  escapes_there = ap escapes (sym rest_is)

-- the escapes of a text's bytes are the bytes of its escapes
pub high : (c : ℕ) → 128 ≤ c → escape c ≡ c ∷ []
high c h = grind (arith, nat_tests)

escapes_append : (xs ys : List ℕ) → escapes (xs ++ ys) ≡ escapes xs ++ escapes ys
escapes_append [] ys = refl
escapes_append (x ∷ xs) ys = ap (λ w. escape x ++ w) (escapes_append xs ys) ∙ sym (append_assoc (escape x) (escapes xs) (escapes ys))

escapes_high : (bs : List ℕ) → ((k : ℕ) → k < length bs → 128 ≤ get_or bs k 0) → escapes bs ≡ bs
escapes_high [] h = refl
escapes_high (b ∷ bs) h = ap (λ w. w ++ escapes bs) (high b (h 0 (omega arith)))
    ∙ ap (λ w. b ∷ w) (escapes_high bs (λ k l. h (suc k) (omega arith)))

digit_ascii : (d : ℕ) → d < 16 → digit_char d < 128
digit_ascii d h = elim (nat_lt d 10) as (λ b. cond b (48 + d) (87 + d) < 128) [ true ↦ omega arith | false ↦ omega arith ]

pub two_ascii : (a b : ℕ) → a < 128 → b < 128 → IsAscii (a ∷ b ∷ [])
two_ascii a b h k = IsAscii-cons a (b ∷ []) h (IsAscii-cons b [] k IsAscii-nil)

hex_ascii : (a b : ℕ) → a < 128 → b < 128 → IsAscii (92 ∷ 117 ∷ 48 ∷ 48 ∷ a ∷ b ∷ [])
hex_ascii a b h k = IsAscii-append (92 ∷ 117 ∷ []) (48 ∷ 48 ∷ a ∷ b ∷ []) (two_ascii 92 117 (lit< tt) (lit< tt))
    (IsAscii-append (48 ∷ 48 ∷ []) (a ∷ b ∷ []) (two_ascii 48 48 (lit< tt) (lit< tt)) (two_ascii a b h k))

pub escape_ascii : (c : ℕ) → c < 128 → IsAscii (escape c)
escape_ascii c h =
    let short : (d : ℕ) → d < 128 → IsAscii (92 ∷ d ∷ []) = λ d l. two_ascii 92 d (lit< tt) l in
    let hex = hex_ascii (digit_char (c / 16)) (digit_char (c % 16)) (digit_ascii (c / 16) (omega arith))
    (digit_ascii (c % 16) (omega arith)) in
    cond_both (c == 8) _ _ IsAscii (λ _. short 98 (lit< tt)) (λ _. cond_both (c == 9) _ _ IsAscii (λ _. short 116 (lit< tt)) (λ _.
    cond_both (c == 10) _ _ IsAscii (λ _. short 110 (lit< tt)) (λ _. cond_both (c == 12) _ _ IsAscii (λ _. short 102 (lit< tt)) (λ _.
    cond_both (c == 13) _ _ IsAscii (λ _. short 114 (lit< tt)) (λ _. cond_both (c == 34) _ _ IsAscii (λ _. short 34 (lit< tt)) (λ _.
    cond_both (c == 92) _ _ IsAscii (λ _. short 92 (lit< tt)) (λ _.
    cond_both (nat_lt c 32) _ _ IsAscii (λ _. hex) (λ _. IsAscii-cons c [] h IsAscii-nil))))))))

not_low : (c k : ℕ) → 128 ≤ c → k < length (encode c) → 128 ≤ get_or (encode c) k 0
not_low c k h l = elim (cases_lt (get_or (encode c) k 0) 128) [
  | inr a ↦ a
  | inl a ↦ let e : c ≡ get_or (encode c) k 0 = inside_one c [] (encode c) k (sym (append-nil (encode c))) l a in absurd (omega arith)
]

enc_escape : (c : ℕ) → enc (escape c) ≡ escapes (encode c)
enc_escape c = elim (cases_lt c 128) [
  | inr h ↦ ap enc (high c h) ∙ append-nil (encode c) ∙ sym (escapes_high (encode c) (λ k l. not_low c k h l))
  | inl h ↦ encodes-IsAscii (escape c) (escape_ascii c h) ∙ sym (append-nil (escape c)) ∙ ap escapes (sym (encode_ascii c h))
]

enc_escapes : (cs : List ℕ) → enc (escapes cs) ≡ escapes (enc cs)
enc_escapes [] = refl
enc_escapes (c ∷ cs) = encodes-append (escape c) (escapes cs) ∙ ap (λ w. w ++ enc (escapes cs)) (enc_escape c)
    ∙ ap (λ w. escapes (encode c) ++ w) (enc_escapes cs) ∙ sym (escapes_append (encode c) (enc cs))

-- a quoted text: its bytes with escapes, between quotes
pub quoted_bytes : (bs : List ℕ) → IsUtf8 bs → enc (quoted (chars bs)) ≡ 34 ∷ [] ++ (escapes bs ++ 34 ∷ [])
quoted_bytes bs u = enclosed 34 34 (escapes (chars bs)) (omega arith) (omega arith)
    ∙ ap (λ w. 34 ∷ [] ++ (w ++ 34 ∷ [])) (enc_escapes (chars bs) ∙ ap escapes (encodes-chars bs u))

-- a comma, a key and a colon
pub key_joined : (p s bytes : List ℕ) → ((p ++ (s ++ 34 ∷ [])) ++ bytes) ++ 34 ∷ 58 ∷ [] ≡ p ++
    (s ++ ((34 ∷ [] ++ (bytes ++ 34 ∷ [])) ++ 58 ∷ []))
key_joined p s bytes = simp append_assoc
