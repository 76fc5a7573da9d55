-- What stands before a place in a text, between two places, and after a place.
use Rattle.std.proofs.Common.{◌≡◌, ℕ, zero, suc, ◌+◌, ◌-◌, ◌<◌, ◌≤◌, Bool, true, false, cond, List, [], ◌∷◌, ◌++◌, length, take, drop}
use Rattle.std.proofs.Common.{get_or, Option, Some, None, MatchOption, IfSome, refl, sym, ap, ◌∙◌, subst, arith, length-append, append-nil}
use Rattle.std.proofs.Common.{add-zero, drop-cons, ⊎_elim, true≢false}
use Rattle.std.proofs.lemmas.Bool.{cases_lt}
use Rattle.std.specs.Prelude.{encode_utf8, slice_get}
use Rattle.std.specs.Char.{is_ascii_digit, len_utf8}
use Rattle.std.specs.List.{AllByRecursion, prefix_len}
use Rattle.std.specs.Str.{encode_utf8_all, IsAscii, IsUtf8, IsCharBoundary, chars}
use Rattle.std.proofs.lemmas.List.{nil_from_length, take-append-drop, drop-drop, drop-take, take-take, length-drop, get_or-drop}
use Rattle.std.proofs.lemmas.List.Sums.{prefix_len-le-length, prefix_len_passes, prefix_len_stops}
use Rattle.std.proofs.lemmas.Str.{byte_from_char, encode_ascii, encodes-chars, IsCharBoundary-before_ascii, IsCharBoundary-end}
use Rattle.std.proofs.lemmas.Str.{IsCharBoundary-from_rest, IsCharBoundary-from_take, chars-nil, chars-append, chars-IsAscii}
use Rattle.std.proofs.lemmas.Str.{chars_past_char, drop_past_char, IsUtf8-take, IsUtf8-drop, IsUtf8-between, IsCharBoundary-past_char}
use Rattle.std.proofs.lemmas.Str.{IsCharBoundary-after_ascii, length-encode, len_utf8_bounds}
use Rattle.std.proofs.Math.Seq.{take-append_seam}
use Rattle.std.proofs.lemmas.Bool.Decides.{nat_tests}
use Rattle.std.proofs.lemmas.Str.{encodes-append, encodes-IsAscii, IsUtf8-string_bytes}
use Rattle.std.specs.declared.alloc.Global.{Global}
use Rattle.std.specs.Prelude.{OnOk, Result, Ok, Err, String, string_bytes}
use Rattle.tinyjson_grammar.specs.Characters.{is_white, text}
use Rattle.tinyjson_bytes.specs.Scan.{is_plain}
use Rattle.tinyjson_grammar.specs.Position.{advance, origin}
use Rattle.tinyjson_tokens.specs.Slice.{before, chars_after, run_end, NextChar}
use Rattle.tinyjson_tokens.specs.Slice.Laws.{line_bound, column_bound}
use Rattle.tinyjson_grammar.proofs.Callers.{advance_append, advance_nil}

-- the characters from i on, up to j
abbrev pub between : List ℕ → ℕ → ℕ → List ℕ
between text i j = chars (take (j - i) (drop i text))

module _ (text : List ℕ) (utf8 : IsUtf8 text) (i j : ℕ) (h : i ≤ j) (first : IsCharBoundary text i) (last : IsCharBoundary text j) where
  abbrev slice : List ℕ
  slice = take (j - i) (drop i text)

  rest : drop (j - i) (drop i text) ≡ drop j text
  rest = drop-drop (j - i) i text ∙ ap (λ n. drop n text) (omega arith)

  after_between : chars_after text i ≡ between text i j ++ chars_after text j
  after_between = ap chars (sym (take-append-drop (j - i) (drop i text))) ∙ chars-append slice (drop (j - i) (drop i text))
      (IsUtf8-between text i j utf8 h first last)
      ∙ ap (λ bs. chars slice ++ chars bs) rest

  before_between : before text j ≡ before text i ++ between text i j
  before_between =
      let n : i + (j - i) ≡ j = omega arith in
      let front : take i (take j text) ≡ take i text = take-take i j text h in
      let back : drop i (take j text) ≡ slice = ap (λ m. drop i (take m text)) (sym n) ∙ drop-take i (j - i) text in
      ap chars (sym (take-append-drop i (take j text))) ∙ ap (λ bs. chars (bs ++ drop i (take j text))) front
      ∙ ap (λ bs. chars (take i text ++ bs)) back
      ∙ chars-append (take i text) slice (IsUtf8-take text i utf8 first)

  between_more : (k : ℕ) → j ≤ k → between text i k ≡ between text i j ++ between text j k
  between_more k g =
      let whole = take (k - i) (drop i text) in
      let n : (j - i) + (k - j) ≡ k - i = omega arith in
      let front : take (j - i) whole ≡ slice = take-take (j - i) (k - i) (drop i text) (omega arith) in
      let back : drop (j - i) whole ≡ take (k - j) (drop j text) = ap (λ m. drop (j - i) (take m (drop i text))) (sym n)
      ∙ drop-take (j - i) (k - j) (drop i text) ∙ ap (take (k - j)) rest in
      ap chars (sym (take-append-drop (j - i) whole)) ∙ ap (λ bs. chars (bs ++ drop (j - i) whole)) front
      ∙ ap (λ bs. chars (slice ++ bs)) back
      ∙ chars-append slice (take (k - j) (drop j text)) (IsUtf8-between text i j utf8 h first last)

  -- what is taken on the way from i to j
  module _ (xs : List ℕ) (e : between text i j ≡ xs) where
    pub step_gives : (zs : List ℕ) → zs ≡ chars_after text i → (more : List ℕ) × (zs ≡ xs ++ more) × (more ≡ chars_after text j)
    step_gives zs g = (chars_after text j, g ∙ after_between ∙ ap (λ ys. ys ++ chars_after text j) e, refl)

    pub step_moves : advance origin (before text j) ≡ advance (advance origin (before text i)) xs
    step_moves = ap (advance origin) before_between ∙ sym (advance_append origin (before text i) (between text i j))
        ∙ ap (advance (advance origin (before text i))) e

-- nothing is taken
pub stay_moves : (xs : List ℕ) → advance origin xs ≡ advance (advance origin xs) []
stay_moves xs = sym (advance_nil (advance origin xs).line (advance origin xs).column (line_bound xs) (column_bound xs))

-- ---- one character

-- the character that std's iterator gives first
pub next_char : (P : Type 0) (text s t : List ℕ) (at : ℕ) (o : Option ℕ) → s ≡ drop at text
    → MatchOption o ((length s ≡ 0) × P) (λ c. s ≡ encode_utf8 c ++ t) → NextChar text at o
next_char P text s t at None e m = sym e ∙ nil_from_length s m.0
next_char P text s t at (Some c) e m =
    let whole : drop at text ≡ encode_utf8 c ++ t = sym e ∙ m in
    whole ∙ ap (λ bs. encode_utf8 c ++ bs) (sym (drop_past_char text t at c whole))

-- it is the first of those that are left
pub next_shown : (text : List ℕ) (utf8 : IsUtf8 text) (at : ℕ) → IsCharBoundary text at → (o : Option ℕ) → NextChar text at o
    → slice_get (chars_after text at) 0 ≡ o
next_shown text utf8 at b None e = ap (λ bs. slice_get (chars bs) 0) e ∙ ap (λ cs. slice_get cs 0) chars-nil
next_shown text utf8 at b (Some c) e = ap (λ cs. slice_get cs 0) (chars_past_char (drop at text) (drop (at + len_utf8 c) text) c
    (IsUtf8-drop text at utf8 b) e)

-- the first of those that are left begins at the place
pub next_of : (text : List ℕ) (utf8 : IsUtf8 text) (at : ℕ) → IsCharBoundary text at → NextChar text at (slice_get (chars_after text at) 0)
next_of text utf8 at b = go (chars_after text at) (encodes-chars (drop at text) (IsUtf8-drop text at utf8 b))
  where
    go : (cs : List ℕ) → encode_utf8_all cs ≡ drop at text → NextChar text at (slice_get cs 0)
    go [] e = sym e
    go (c ∷ cs) e = sym e ∙ ap (λ bs. encode_utf8 c ++ bs) (sym (drop_past_char text (encode_utf8_all cs) at c (sym e)))

module _ (text : List ℕ) (utf8 : IsUtf8 text) (at : ℕ) (first : IsCharBoundary text at) (c n : ℕ) (next : NextChar text at (Some c))
    (len : n ≡ len_utf8 c) where
  pub char_boundary : IsCharBoundary text (at + n)
  char_boundary = subst (λ m. IsCharBoundary text (at + m)) (sym len) (IsCharBoundary-past_char text
      (drop (at + len_utf8 c) text) at c first.0 (IsUtf8-drop text at utf8 first) next)

  pub char_between : between text at (at + n) ≡ c ∷ []
  char_between =
      let m : at + n - at ≡ length (encode_utf8 c) = omega (arith, length-encode c, len) in
      let one : take (at + n - at) (drop at text) ≡ encode_utf8 c = ap (λ k. take k (drop at text)) m
      ∙ ap (take (length (encode_utf8 c))) next ∙ take-append_seam (encode_utf8 c) (drop (at + len_utf8 c) text) in
      let u : IsUtf8 (encode_utf8 c) = subst IsUtf8 one (IsUtf8-between text at (at + n) utf8 (omega arith) first char_boundary) in
      ap chars one ∙ chars_past_char (encode_utf8 c) [] c u (sym (append-nil (encode_utf8 c))) ∙ ap (λ cs. c ∷ cs) chars-nil

-- a byte below 128
pub ascii_next : (text : List ℕ) (at c : ℕ) → at < length text → get_or text at 0 ≡ c → c < 128 → NextChar text at (Some c)
ascii_next text at c h e low =
    let one : len_utf8 c ≡ 1 = grind (arith, nat_tests) in
    let next : suc at ≡ at + len_utf8 c = omega (arith, one) in
    drop-cons text at 0 h ∙ ap (λ y. y ∷ drop (suc at) text) e ∙ ap (λ m. c ∷ drop m text) next
    ∙ ap (λ bs. bs ++ drop (at + len_utf8 c) text) (sym (encode_ascii c low))

-- ---- a word

module _ (text : List ℕ) (at : ℕ) (word : List ℕ) (same : take (length word) (drop at text) ≡ word) where
  pub word_between : between text at (at + length word) ≡ chars word
  word_between = let n : at + length word - at ≡ length word = omega arith in ap (λ k. chars (take k (drop at text))) n ∙ ap chars same

module _ (text : List ℕ) (utf8 : IsUtf8 text) (at : ℕ) (first : IsCharBoundary text at) (word : List ℕ) (spells : IsUtf8 word)
    (same : take (length word) (drop at text) ≡ word) (room : at + length word ≤ length text) where
  pub word_boundary : IsCharBoundary text (at + length word)
  word_boundary =
      let within : length word ≤ length (drop at text) = omega (arith, room, length-drop at text) in
      IsCharBoundary-from_rest text at (length word) first.0
      (IsCharBoundary-from_take (drop at text) (length word) (IsUtf8-drop text at utf8 first) within (subst IsUtf8 (sym same) spells))

-- ---- runs

AllByRecursion_right : (P : ℕ → Type 0) (xs ys : List ℕ) → AllByRecursion P (xs ++ ys) → AllByRecursion P ys
AllByRecursion_right P [] ys a = a
AllByRecursion_right P (x ∷ xs) ys a = AllByRecursion_right P xs ys a.1

pub run_passes : (p : ℕ → Bool) (xs : List ℕ) → AllByRecursion (λ c. p c ≡ true) (take (prefix_len p xs) xs)
run_passes p [] = tt
run_passes p (x ∷ xs) = go (p x) refl (run_passes p xs)
  where
    go : (b : Bool) → p x ≡ b → AllByRecursion (λ c. p c ≡ true) (take (prefix_len p xs) xs)
        → AllByRecursion (λ c. p c ≡ true) (take (cond b (1 + prefix_len p xs) 0) (x ∷ xs))
    go true e a = let n : suc (prefix_len p xs) ≡ 1 + prefix_len p xs = omega arith in
        subst (λ n. AllByRecursion (λ c. p c ≡ true) (take n (x ∷ xs))) n (e, a)
    go false e a = tt

module _ (p : ℕ → Bool) (text : List ℕ) (at : ℕ) where
  pub run_within : at ≤ length text → run_end p text at ≤ length text
  run_within h = omega (arith, prefix_len-le-length p (drop at text), length-drop at text)

  run_byte : (k : ℕ) → get_or (drop at text) k 0 ≡ get_or text (at + k) 0
  run_byte k = get_or-drop at text k 0

  pub run_stops : run_end p text at < length text → p (get_or text (run_end p text at) 0) ≡ false
  run_stops h = ap p (sym (run_byte (prefix_len p (drop at text)))) ∙ prefix_len_stops p (drop at text) 0
      (omega (arith, length-drop at text))

-- bytes that are ASCII, as white space and digits are
module _ (p : ℕ → Bool) (ascii : (b : ℕ) → p b ≡ true → b < 128) where
  pub small : (xs : List ℕ) → AllByRecursion (λ c. p c ≡ true) xs → IsAscii xs
  small [] a i = search arith
  small (x ∷ xs) a zero = ascii x a.0
  small (x ∷ xs) a (suc i) = small xs a.1 i

  module _ (text : List ℕ) (utf8 : IsUtf8 text) (at : ℕ) (first : IsCharBoundary text at) where
    part_boundary : (n : ℕ) → n ≤ prefix_len p (drop at text) → IsCharBoundary text (at + n)
    part_boundary zero h = subst (IsCharBoundary text) (omega arith) first
    part_boundary (suc k) h =
        let within : at + k < length text = omega (arith, run_within p text at first.0) in
        let b : get_or text (at + k) 0 < 128 = ascii (get_or text (at + k) 0)
        (ap p (sym (run_byte p text at k)) ∙ prefix_len_passes p (drop at text) k 0 (omega arith)) in
        subst (IsCharBoundary text) (omega arith) (IsCharBoundary-after_ascii text (at + k) utf8 within b)

    module _ (to : ℕ) (e : to ≡ run_end p text at) where
      pub ascii_boundary : IsCharBoundary text to
      ascii_boundary = subst (IsCharBoundary text) (sym e) (part_boundary (prefix_len p (drop at text)) (omega arith))

      passes : AllByRecursion (λ c. p c ≡ true) (take (to - at) (drop at text))
      passes = let n : prefix_len p (drop at text) ≡ to - at = omega (arith, e) in
          subst (λ m. AllByRecursion (λ c. p c ≡ true) (take m (drop at text))) n (run_passes p (drop at text))

      -- its bytes are its characters
      pub ascii_bytes : between text at to ≡ take (to - at) (drop at text)
      ascii_bytes = chars-IsAscii (take (to - at) (drop at text)) (small (take (to - at) (drop at text)) passes)

      pub ascii_between : AllByRecursion (λ c. p c ≡ true) (between text at to)
      ascii_between = subst (AllByRecursion (λ c. p c ≡ true)) (sym ascii_bytes) passes

      -- the character after the run does not pass
      pub ascii_stops : (o : Option ℕ) → NextChar text to o → IfSome o (λ c. p c ≡ false)
      ascii_stops None next = tt
      ascii_stops (Some c) next = go (p c) refl
        where
          go : (b : Bool) → p c ≡ b → p c ≡ false
          go false h = h
          go true h =
              let byte : get_or (drop to text) 0 0 ≡ c = byte_from_char (drop to text) (drop (to + len_utf8 c) text) c next (ascii c h) in
              let some : 0 < length (drop to text) = omega (
                arith,
                ap length next,
                length-append (encode_utf8 c)
                    (drop (to + len_utf8 c) text),
                length-encode c,
                (len_utf8_bounds c).0,
              ) in
              let at_end : get_or text to 0 ≡ c = ap (λ k. get_or text k 0) (sym (add-zero to)) ∙ sym (get_or-drop to text 0 0) ∙ byte in
              ap p (sym at_end) ∙ ap (λ k. p (get_or text k 0)) e ∙ run_stops p text at (omega (arith, some, length-drop to text, e))

      pub ascii_ends : (o : Option ℕ) × (slice_get (chars_after text to) 0 ≡ o) × IfSome o (λ c. p c ≡ false)
      ascii_ends = (
        slice_get (chars_after text to) 0,
        refl,
        ascii_stops (slice_get (chars_after text to) 0) (next_of text utf8 to ascii_boundary),
      )

pub digit_small : (c : ℕ) → is_ascii_digit c ≡ true → c < 128
digit_small c h = grind (arith, nat_tests)

-- digits that were added to a text were added to its bytes
module _ (s t : String Global) (ds : List ℕ) (all : AllByRecursion (λ c. is_ascii_digit c ≡ true) ds) where
  digits_added : text t ≡ text s ++ ds → string_bytes t ≡ string_bytes s ++ ds
  digits_added e =
      sym (encodes-chars (string_bytes t) (IsUtf8-string_bytes t)) ∙ ap encode_utf8_all e ∙ encodes-append (text s) ds
      ∙ (ap (λ bs. bs ++ encode_utf8_all ds) (encodes-chars (string_bytes s) (IsUtf8-string_bytes s))
      ∙ ap (λ bs. string_bytes s ++ bs) (encodes-IsAscii ds (small is_ascii_digit digit_small ds all)))

  pub OnOk_digits : {E : Type 0} (r : Result (Unit {0}) E) → OnOk r (text t ≡ text s ++ ds) → OnOk r (string_bytes t ≡ string_bytes s ++ ds)
  OnOk_digits (Ok u) e = digits_added e
  OnOk_digits (Err x) e = tt

  pub OnOk_fewer : {E : Type 0} (r : Result (Unit {0}) E) (m n : ℕ) → OnOk r (text t ≡ text s ++ ds)
      → OnOk r (m + length (text t) ≤ n + length (text s)) → OnOk r (m + length (string_bytes t) ≤ n + length (string_bytes s))
  OnOk_fewer (Ok u) m n e h = omega (
    arith,
    h,
    ap length e ∙ length-append (text s) ds,
    ap length (digits_added e) ∙ length-append (string_bytes s) ds,
  )
  OnOk_fewer (Err x) m n e h = tt

pub white_small : (c : ℕ) → is_white c ≡ true → c < 128
white_small c h = grind (arith, nat_tests)

-- bytes among which are all those of longer characters, as those of plain characters are
module _ (p : ℕ → Bool) (high : (b : ℕ) → 128 ≤ b → p b ≡ true) where
  low : (b : ℕ) → p b ≡ false → b < 128
  low b h = ⊎_elim (λ l. l) (λ k. absurd (true≢false (sym (high b k) ∙ h))) (cases_lt b 128)

  -- a character passes if its bytes do
  char_passes : (c : ℕ) (xs : List ℕ) → AllByRecursion (λ b. p b ≡ true) (encode_utf8 c ++ xs) → p c ≡ true
  char_passes c xs a = ⊎_elim (λ l. (subst (λ bs. AllByRecursion (λ b. p b ≡ true) (bs ++ xs)) (encode_ascii c l) a).0) (λ k. high c k)
      (cases_lt c 128)

  chars_pass : (cs : List ℕ) → AllByRecursion (λ b. p b ≡ true) (encode_utf8_all cs) → AllByRecursion (λ c. p c ≡ true) cs
  chars_pass [] a = tt
  chars_pass (c ∷ cs) a = (
    char_passes c (encode_utf8_all cs) a,
    chars_pass cs (AllByRecursion_right (λ b. p b ≡ true) (encode_utf8 c) (encode_utf8_all cs) a),
  )

  module _ (text : List ℕ) (utf8 : IsUtf8 text) (at : ℕ) (first : IsCharBoundary text at) (to : ℕ) (e : to ≡ run_end p text at) where
    pub plain_boundary : IsCharBoundary text to
    plain_boundary = ⊎_elim (λ h. IsCharBoundary-before_ascii text to h (low (get_or text to 0)
        (ap (λ k. p (get_or text k 0)) e ∙ run_stops p text at (omega (arith, e, h)))))
        (λ h. let k : length text ≡ to = omega (arith, h, e, run_within p text at first.0) in
        subst (IsCharBoundary text) k (IsCharBoundary-end text)) (cases_lt to (length text))

    pub plain_between : AllByRecursion (λ c. p c ≡ true) (between text at to)
    plain_between =
        let n : prefix_len p (drop at text) ≡ to - at = omega (arith, e) in
        let all : AllByRecursion (λ c. p c ≡ true) (take (to - at) (drop at text)) =
        subst (λ m. AllByRecursion (λ c. p c ≡ true) (take m (drop at text))) n (run_passes p (drop at text)) in
        let same : take (to - at) (drop at text) ≡ encode_utf8_all (between text at to) =
        sym (encodes-chars (take (to - at) (drop at text)) (IsUtf8-between text at to utf8 (omega (arith, e)) first plain_boundary)) in
        chars_pass (between text at to) (subst (AllByRecursion (λ c. p c ≡ true)) same all)

pub plain_high : (c : ℕ) → 128 ≤ c → is_plain c ≡ true
plain_high c h = grind (arith, nat_tests)

-- plain characters, and the quote after them
module _ (text : List ℕ) (utf8 : IsUtf8 text) (at : ℕ) (first : IsCharBoundary text at) (to : ℕ) (e : to ≡ run_end is_plain text at)
    (h : to < length text) (q : get_or text to 0 ≡ 34) where
  quote_next : NextChar text to (Some 34)
  quote_next = ascii_next text to 34 h q (omega arith)

  quote_first : IsCharBoundary text to
  quote_first = plain_boundary is_plain plain_high text utf8 at first to e

  pub quote_boundary : IsCharBoundary text (to + 1)
  quote_boundary = char_boundary text utf8 to quote_first 34 1 quote_next refl

  pub quote_between : between text at (to + 1) ≡ between text at to ++ 34 ∷ []
  quote_between = between_more text utf8 at to (omega (arith, e)) first quote_first (to + 1) (omega arith)
      ∙ ap (λ cs. between text at to ++ cs) (char_between text utf8 to quote_first 34 1 quote_next refl)
