-- The line and the column after a text, by its bytes.
use Rattle.std.proofs.Common.{◌≡◌, ℕ, zero, suc, ◌+◌, ◌/◌, ◌-◌, ◌%◌, ◌==◌, ◌<◌, ◌≤◌, Bool, true, false, cond, not, List, [], ◌∷◌, ◌++◌}
use Rattle.std.proofs.Common.{length, take, drop, map, get_or, refl, sym, ap, ap₂, ◌∙◌, inl, inr, arith, true≢false}
use Rattle.std.specs.Prelude.{nat_lt, count_ones}
use Rattle.std.specs.Fmt.{is_char_start}
use Rattle.std.specs.List.{count_by, filter}
use Rattle.std.specs.Simd.Lanes.{chunk, mask_l}
use Rattle.std.specs.Str.{chars, IsUtf8}
use Rattle.std.proofs.Math.Utf8.{encode, encodes}
use Rattle.std.proofs.lemmas.Bool.{cases_lt}
use Rattle.std.proofs.lemmas.Nat.{ones_le_self}
use Rattle.std.proofs.lemmas.Bool.Decides.{nat_tests}
use Rattle.std.proofs.lemmas.List.{take-append-drop, take_more}
use Rattle.std.proofs.lemmas.List.Elements.{filter-append}
use Rattle.std.proofs.lemmas.List.Sums.{length-filter, sum_by-append, sum_by-cons}
use Rattle.std.proofs.lemmas.Simd.{chunk-drop, ones-mask_l}
use Rattle.std.proofs.lemmas.Str.{encode_ascii, encodes-chars}
use Rattle.tinyjson_grammar.specs.Position.{Position, advance, after_line_feed, capped, is_line_feed, line_feeds, origin, position_at}
use Rattle.tinyjson_grammar.proofs.Callers.{advance_append, advance_nil}

-- ---- counting from a place on

-- sixteen bytes, by the mask of those that pass
count_vector : (p : ℕ → Bool) (xs : List ℕ) (i : ℕ)
    → count_by p (drop i xs) ≡ count_ones (mask_l (map p (chunk i 16 xs))) + count_by p (drop (i + 16) xs)
count_vector p xs i = ap (count_by p) (chunk-drop i 16 xs) ∙ sum_by-append (λ x. cond (p x) 1 0) (chunk i 16 xs) (drop (i + 16) xs)
    ∙ ap (λ n. n + count_by p (drop (i + 16) xs)) (sym (ones-mask_l p (chunk i 16 xs)))

-- the count goes on by a vector
pub count_on : (p : ℕ → Bool) (xs : List ℕ) (i count mask : ℕ) → mask ≡ mask_l (map p (chunk i 16 xs))
    → count + count_by p (drop i xs) ≡ count_by p xs → (count + count_ones mask) + count_by p (drop (i + 16) xs) ≡ count_by p xs
count_on p xs i count mask e h = omega (arith, h, count_vector p xs i, ap count_ones e)

-- no line feed in a vector, whose mask is zero
pub none_on : (xs : List ℕ) (i mask : ℕ) → mask ≡ mask_l (map is_line_feed (chunk i 16 xs)) → mask ≡ 0
    → line_feeds (drop (i + 16) xs) ≡ 0 → line_feeds (drop i xs) ≡ 0
none_on xs i mask e z h = omega (arith, h, z, ones_le_self mask, ap count_ones e, count_vector is_line_feed xs i)

-- ---- a character is as good as its first byte

abbrev pub starts : List ℕ → List ℕ
starts = filter is_char_start

starts_high : (b : ℕ) → 192 ≤ b → is_char_start b ≡ true
starts_high b h = grind (arith, nat_tests)

continues : (x : ℕ) → is_char_start (128 + x % 64) ≡ false
continues x = grind (arith, nat_tests)

feed_high : (b : ℕ) → 128 ≤ b → is_line_feed b ≡ false
feed_high b h = grind (arith, nat_tests)

-- the bytes of a character behind ASCII: the first alone begins one
first_of : (c : ℕ) → 128 ≤ c → (b : ℕ) × (starts (encode c) ≡ b ∷ []) × (192 ≤ b)
unfolding encode
first_of c h = elim (cases_lt c 2048) [
  | inl l ↦
      let a : nat_lt c 128 ≡ false = grind (arith, nat_tests) in
      let s : nat_lt c 2048 ≡ true = grind (arith, nat_tests) in (
        192 + c / 64,
        rw (a, s, starts_high (192 + c / 64) (omega arith), continues c) refl,
        omega arith,
      )
  | inr g ↦ elim (cases_lt c 65536) [
    | inl l ↦
        let a : nat_lt c 128 ≡ false = grind (arith, nat_tests) in
        let s : nat_lt c 2048 ≡ false = grind (arith, nat_tests) in
        let t : nat_lt c 65536 ≡ true = grind (arith, nat_tests) in (
          224 + c / 4096,
          rw (a, s, t, starts_high (224 + c / 4096) (omega arith), continues (c / 64), continues c) refl,
          omega arith,
        )
    | inr k ↦
        let a : nat_lt c 128 ≡ false = grind (arith, nat_tests) in
        let s : nat_lt c 2048 ≡ false = grind (arith, nat_tests) in
        let t : nat_lt c 65536 ≡ false = grind (arith, nat_tests) in (
          240 + c / 262144,
          rw (a, s, t, starts_high (240 + c / 262144) (omega arith), continues (c / 4096), continues (c / 64), continues c) refl,
          omega arith,
        )
  ]
]

same_step : (p : Position) (c d : ℕ) → is_line_feed c ≡ is_line_feed d → advance p (c ∷ []) ≡ advance p (d ∷ [])
unfolding advance
same_step p c d e = ap (λ b. position_at (capped (p.line + (0 + cond b 1 0)))
    (capped (cond ((0 + cond b 1 0) == 0) (p.column + 1) (cond (not b) (1 + 0) 0)))) e

advance_first : (p : Position) (c : ℕ) → advance p (c ∷ []) ≡ advance p (starts (encode c))
advance_first p c = elim (cases_lt c 128) [
  | inl l ↦ let s : is_char_start c ≡ true = grind (arith, nat_tests) in ap (advance p) (sym (ap starts (encode_ascii c l) ∙ rw s refl))
  | inr h ↦
      let f = first_of c h in
      same_step p c f.0 (feed_high c h ∙ sym (feed_high f.0 (omega (arith, f.2)))) ∙ ap (advance p) (sym f.1)
]

advance_starts : (p : Position) (cs : List ℕ) → advance p cs ≡ advance p (starts (encodes cs))
advance_starts p [] = refl
advance_starts p (c ∷ cs) = sym (advance_append p (c ∷ []) cs) ∙ ap (λ q. advance q cs) (advance_first p c)
    ∙ advance_starts (advance p (starts (encode c))) cs ∙ advance_append p (starts (encode c)) (starts (encodes cs))
    ∙ ap (advance p) (sym (filter-append is_char_start (encode c) (encodes cs)))

feeds_cons : (x : ℕ) (xs : List ℕ) → line_feeds (x ∷ xs) ≡ cond (is_line_feed x) 1 0 + line_feeds xs
feeds_cons x xs = sum_by-cons (λ y. cond (is_line_feed y) 1 0) x xs

no_feed : (x : ℕ) → is_char_start x ≡ false → is_line_feed x ≡ false
no_feed x h = elim (cases_lt x 128) [
  | inl l ↦ let s : is_char_start x ≡ true = grind (arith, nat_tests) in absurd (true≢false (sym s ∙ h))
  | inr g ↦ feed_high x g
]

keeps_feeds : (b : Bool) (x : ℕ) (xs : List ℕ) → (b ≡ false → is_line_feed x ≡ false) → line_feeds (starts xs) ≡ line_feeds xs
    → line_feeds (cond b (x ∷ starts xs) (starts xs)) ≡ line_feeds (x ∷ xs)
keeps_feeds true x xs h e = feeds_cons x (starts xs) ∙ ap (λ n. cond (is_line_feed x) 1 0 + n) e ∙ sym (feeds_cons x xs)
keeps_feeds false x xs h e =
    let k : line_feeds (x ∷ xs) ≡ 0 + line_feeds xs = feeds_cons x xs ∙ ap (λ b. cond b 1 0 + line_feeds xs) (h refl) in
    omega (arith, e, k)

feeds_starts : (xs : List ℕ) → line_feeds (starts xs) ≡ line_feeds xs
feeds_starts [] = refl
feeds_starts (x ∷ xs) = keeps_feeds (is_char_start x) x xs (no_feed x) (feeds_starts xs)

-- ---- the place

at_line_feed : (p : Position) → (advance p (10 ∷ [])).column ≡ 0
unfolding advance
at_line_feed p = refl

-- at the start of a line
column_of_start : (xs : List ℕ) (s : ℕ) → s ≤ length xs → (0 < s → get_or xs (s - 1) 0 ≡ 10)
    → (advance origin (starts (take s xs))).column ≡ 0
column_of_start xs zero h after = ap (λ p. p.column) (advance_nil 1 0 (omega arith) (omega arith))
column_of_start xs (suc k) h after =
    let one : k + 1 ≡ suc k = omega arith in
    let back : suc k - 1 ≡ k = omega arith in
    let feed : get_or xs k 0 ≡ 10 = ap (λ n. get_or xs n 0) (sym back) ∙ after (omega arith) in
    let e : take (suc k) xs ≡ take k xs ++ 10 ∷ [] = ap (λ n. take n xs) (sym one) ∙ take_more xs k 0 (omega arith)
    ∙ ap (λ b. take k xs ++ b ∷ []) feed in
    let s : starts (take (suc k) xs) ≡ starts (take k xs) ++ 10 ∷ [] = ap starts e ∙ filter-append is_char_start (take k xs) (10 ∷ []) in
    ap (λ ys. (advance origin ys).column) s ∙ ap (λ p. p.column) (sym (advance_append origin (starts (take k xs)) (10 ∷ [])))
    ∙ at_line_feed (advance origin (starts (take k xs)))

line_is : (xs : List ℕ) → (advance origin (starts xs)).line ≡ capped (1 + line_feeds xs)
unfolding advance
line_is xs = ap (λ n. capped (1 + n)) (feeds_starts xs)

column_on : (q : Position) (ys : List ℕ) → line_feeds ys ≡ 0 → q.column ≡ 0
    → (advance q (starts ys)).column ≡ capped (count_by is_char_start ys)
unfolding advance
column_on q ys none e =
    let n : line_feeds (starts ys) ≡ 0 = feeds_starts ys ∙ none in
    let k : q.column + length (starts ys) ≡ count_by is_char_start ys = omega (arith, e, length-filter is_char_start ys) in
    ap (λ m. capped (cond (m == 0) (q.column + length (starts ys)) (after_line_feed (starts ys)))) n ∙ ap capped k

pub place_is : (bs : List ℕ) (s : ℕ) → IsUtf8 bs → s ≤ length bs → line_feeds (drop s bs) ≡ 0 → (0 < s → get_or bs (s - 1) 0 ≡ 10)
    → advance origin (chars bs) ≡ position_at (capped (1 + line_feeds bs)) (capped (count_by is_char_start (drop s bs)))
place_is bs s utf8 h none after =
    let front = take s bs in
    let rest = drop s bs in
    let whole : advance origin (starts bs) ≡ advance (advance origin (starts front)) (starts rest) =
    ap (λ xs. advance origin (starts xs)) (sym (take-append-drop s bs)) ∙ ap (advance origin) (filter-append is_char_start front rest)
    ∙ sym (advance_append origin (starts front) (starts rest)) in
    let column = ap (λ p. p.column) whole ∙ column_on (advance origin (starts front)) rest none (column_of_start bs s h after) in
    advance_starts origin (chars bs) ∙ ap (λ xs. advance origin (starts xs)) (encodes-chars bs utf8)
    ∙ ap₂ position_at (line_is bs) column
