-- A line that is read in pieces.
use Rattle.std.proofs.Common.{◌≡◌, ◌<◌, ◌≤◌, ◌≢◌, ◌==◌, ℕ, suc, ◌+◌, ◌-◌, Bool, true, false, cond, not, List, [], ◌∷◌, ◌++◌, All}
use Rattle.std.proofs.Common.{length, take, drop, get_or, Option, None, Some, IfSome, refl, sym, ap, ◌∙◌, subst, arith}
use Rattle.std.proofs.Common.{Result, Ok, Err, inl, inr}
use Rattle.std.proofs.Common.{append_assoc, append-nil, length-append, ne_eqb, eq-eqb, nat_lt, take-append-drop}
use Rattle.std.proofs.BufReadLemmas.{drop_through-append}
use Rattle.std.proofs.KnownBytes.{Consumes-kept, Consumes-nil, Consumes-trans, starts_with_rest}
use Rattle.std.proofs.Math.Seq.{take-append_seam}
use Rattle.std.proofs.lemmas.Bool.{eqb-true, false≢true, lt-ltb}
use Rattle.std.proofs.lemmas.List.{get_or_push, length-take-le, take_all, take_more}
use Rattle.std.proofs.lemmas.List.Elements.{All-append, All-cons, All-head, All-nil, All-tail}
use Rattle.std.proofs.lemmas.List.Sums.{prefix_len_stops}
use Rattle.std.specs.Io.BufRead.{take_through, drop_through, DropsThrough, ends_with_byte}
use Rattle.std.specs.Io.{StartsWith}
use Rattle.std.specs.Io.KnownBytes.{Consumes, Keeps}
use Rattle.std.specs.IoError.{error_kind}
use Rattle.std.specs.List.{prefix_len}
use Rattle.std.specs.Result.{IsErrAnd}
use Rattle.std.specs.declared.io.Error.{Error}
use Rattle.std.specs.declared.io.ErrorKind.{ErrorKind}
use Rattle.std.specs.declared.io.ErrorKind.TheVariants.{Interrupted, InvalidData, OutOfMemory}
use Rattle.tinyjson_bytes.specs.Scan.{is_in_line}
use Rattle.tinyjson_lines.proofs.Callers.{first_line}
use Rattle.tinyjson_lines.specs.Lines.{content, lines, onto_first, usize_max, LinesRead, AllRead, ReadsLine, Stops, BeginsLonger}
use Rattle.tinyjson_lines.specs.Within.{IsLonger, PassesOver, ReadsWithin}
use Rattle.tinyjson_lines.specs.declared.within.LineRead.{LineRead}
use Rattle.tinyjson_lines.specs.declared.within.LineRead.TheVariants.{Whole, TooLong}
use Rattle.tinyjson_lines.specs.private.Pieces.{IsPart, TakesPiece, end_read}

abbrev pub IsInLine : ℕ → Type 0
IsInLine x = x ≢ 10

-- ---- the line that a part without a line feed begins

pub part_first : (part rest line : List ℕ) (more : List (List ℕ)) → All IsInLine part → lines rest ≡ line ∷ more
    → lines (part ++ rest) ≡ (part ++ line) ∷ more
part_first [] rest line more h e = e
part_first (x ∷ xs) rest line more h e =
    ap (λ b. cond b ((x ∷ []) ∷ lines (xs ++ rest)) (onto_first x (lines (xs ++ rest)))) (ne_eqb x 10 (All-head IsInLine x xs h))
    ∙ ap (onto_first x) (part_first xs rest line more (All-tail IsInLine x xs h) e)

pub part_alone : (x : ℕ) (xs : List ℕ) → All IsInLine (x ∷ xs) → lines (x ∷ xs) ≡ (x ∷ xs) ∷ []
part_alone x [] h =
    ap (λ b. cond b ((x ∷ []) ∷ []) ((x ∷ []) ∷ [])) (ne_eqb x 10 (All-head IsInLine x [] h))
part_alone x (y ∷ ys) h =
    ap (λ b. cond b ((x ∷ []) ∷ lines (y ∷ ys)) (onto_first x (lines (y ∷ ys)))) (ne_eqb x 10 (All-head IsInLine x (y ∷ ys) h))
    ∙ ap (onto_first x) (part_alone y ys (All-tail IsInLine x (y ∷ ys) h))

-- ---- the length of a line without its line feed

content_by : (b : Bool) (line : List ℕ) → (length (cond b (take (length line - 1) line) line) ≤ length line)
    × (length line ≤ length (cond b (take (length line - 1) line) line) + 1)
content_by true line =
    let least : length line - 1 ≤ length line = omega arith in
    let is : length (take (length line - 1) line) ≡ length line - 1 = length-take-le (length line - 1) line least in
    (omega (arith, is), omega (arith, is))
content_by false line = (omega arith, omega arith)

content_most : (line : List ℕ) → length (content line) ≤ length line
content_most line = (content_by (ends_with_byte 10 line) line).0

content_least : (line : List ℕ) → length line ≤ length (content line) + 1
content_least line = (content_by (ends_with_byte 10 line) line).1

-- a line feed at the end does not count
content_ended : (part : List ℕ) → content (part ++ 10 ∷ []) ≡ part
content_ended part =
    let line : List ℕ = part ++ 10 ∷ [] in
    let one : length line ≡ length part + 1 = length-append part (10 ∷ []) in
    let some : nat_lt 0 (length line) ≡ true = lt-ltb 0 (length line) (omega (arith, one)) in
    let before : length part ≡ length line - 1 = omega (arith, one) in
    let last : (get_or line (length line - 1) 0 == 10) ≡ true = eq-eqb _ 10 (get_or_push part 10 0 (length line - 1) before) in
    let is : ends_with_byte 10 line ≡ true = rw (some, last) refl in
    ap (λ b. cond b (take (length line - 1) line) line) is ∙ ap (λ n. take n line) (sym before) ∙ take-append_seam part (10 ∷ [])

-- a part without a line feed counts whole
pub content_part : (part : List ℕ) → All IsInLine part → content part ≡ part
content_part [] h = refl
content_part (x ∷ xs) h =
    let part : List ℕ = x ∷ xs in
    let last : (get_or part (length part - 1) 0 == 10) ≡ false = ne_eqb _ 10 (h (length part - 1) 0 (omega arith)) in
    let some : nat_lt 0 (length part) ≡ true = lt-ltb 0 (length part) (omega arith) in
    let is : ends_with_byte 10 part ≡ false = rw (some, last) refl in
    ap (λ b. cond b (take (length part - 1) part) part) is

-- ---- pieces

pub part_begins : (max : ℕ) (unread : Option (List ℕ)) (line : List ℕ) → line ≡ [] → IsPart max unread unread line
part_begins max unread line e = record {
  taken = subst (Consumes unread unread) (sym e) (Consumes-nil unread);
  unended = subst (All IsInLine) (sym e) (All-nil IsInLine);
  within = omega (arith, ap length e);
}

-- the reader shows nothing
pub none_shown : (left : Option (List ℕ)) (n : ℕ) → n ≡ 0 → IfSome left (λ xs. n ≡ 0 → xs ≡ []) → IfSome left (λ xs. xs ≡ [])
none_shown None n e h = tt
none_shown (Some xs) n e h = h e

-- the input is at its end
at_end : (unread left after : Option (List ℕ)) → IfSome left (λ xs. xs ≡ []) → Keeps left after → Consumes unread left []
    → AllRead unread after []
at_end None left after none kept taken = tt
at_end (Some u) None after none kept taken = absurd taken
at_end (Some u) (Some l) None none kept taken = absurd kept
at_end (Some u) (Some l) (Some a) none kept taken = (ap lines (taken ∙ none), ap Some (kept ∙ none))

last_line : (unread left after : Option (List ℕ)) (x : ℕ) (xs : List ℕ) → IfSome left (λ l. l ≡ []) → Keeps left after
    → Consumes unread left (x ∷ xs) → All IsInLine (x ∷ xs) → LinesRead unread after ((x ∷ xs) ∷ [])
last_line None left after x xs none kept taken h = tt
last_line (Some u) None after x xs none kept taken h = absurd taken
last_line (Some u) (Some l) None x xs none kept taken h = absurd kept
last_line (Some u) (Some l) (Some a) x xs none kept taken h =
    let part : List ℕ = x ∷ xs in
    let whole : u ≡ part = taken ∙ ap (λ q. part ++ q) none ∙ append-nil part in
    ap lines whole ∙ (part_alone x xs h ∙ ap (λ q. part ∷ lines q) (sym (kept ∙ none)))

pub part_ends : (max : ℕ) (unread left after : Option (List ℕ)) (part slice : List ℕ) (r : LineRead) → r ≡ end_read slice → slice ≡ part
    → IfSome left (λ xs. xs ≡ []) → Keeps left after → IsPart max unread left part → ReadsWithin (Some max) unread after part (Ok r)
part_ends max unread left after [] slice r is same none kept p =
    subst (λ q. ReadsWithin (Some max) unread after [] (Ok q)) (sym (is ∙ ap end_read same)) (at_end unread left after none kept p.taken)
part_ends max unread left after (x ∷ xs) slice r is same none kept p =
    subst (λ q. ReadsWithin (Some max) unread after (x ∷ xs) (Ok q)) (sym (is ∙ ap end_read same)) (
      last_line unread left after x xs none kept p.taken p.unended,
      omega (arith, content_most (x ∷ xs), p.within),
    )

-- what comes before the first line feed
in_line_head : (x : ℕ) → is_in_line x ≡ true → IsInLine x
in_line_head x h e = false≢true (sym (ap not (eq-eqb x 10 e)) ∙ h)

in_line_front : (xs : List ℕ) → All IsInLine (take (prefix_len is_in_line xs) xs)
in_line_front [] = All-nil IsInLine
in_line_front (x ∷ xs) = by (is_in_line x) refl (in_line_front xs)
  where
    by : (b : Bool) → is_in_line x ≡ b → All IsInLine (take (prefix_len is_in_line xs) xs)
        → All IsInLine (take (cond b (1 + prefix_len is_in_line xs) 0) (x ∷ xs))
    by true is more =
        let m : 1 + prefix_len is_in_line xs ≡ suc (prefix_len is_in_line xs) = omega arith in
        subst (λ n. All IsInLine (take n (x ∷ xs))) (sym m) (All-cons IsInLine x _ (in_line_head x is) more)
    by false is more = All-nil IsInLine

shown_front : (n : ℕ) (shown : List ℕ) → n ≡ prefix_len is_in_line shown → All IsInLine (take n shown)
shown_front n shown e = subst (λ m. All IsInLine (take m shown)) (sym e) (in_line_front shown)

not_false : (b : Bool) → not b ≡ false → b ≡ true
not_false true h = refl
not_false false h = sym h

shown_feed : (n : ℕ) (shown : List ℕ) → n ≡ prefix_len is_in_line shown → n < length shown → get_or shown n 0 ≡ 10
shown_feed n shown e within =
    let low : prefix_len is_in_line shown < length shown = subst (λ m. m < length shown) e within in
    let at : not (get_or shown (prefix_len is_in_line shown) 0 == 10) ≡ false = prefix_len_stops is_in_line shown 0 low in
    ap (λ m. get_or shown m 0) e ∙ eqb-true _ 10 (not_false _ at)

-- the rest of the line is shown
module _ (max n : ℕ) (part shown line : List ℕ) (e : n ≡ prefix_len is_in_line shown) (low : n < length shown)
    (is : line ≡ part ++ take (n + 1) shown) where
  abbrev all : List ℕ
  all = part ++ take n shown

  piece : take (n + 1) shown ≡ take n shown ++ 10 ∷ []
  piece = take_more shown n 0 low ∙ ap (λ b. take n shown ++ b ∷ []) (shown_feed n shown e low)

  whole : line ≡ all ++ 10 ∷ []
  whole = is ∙ ap (λ t. part ++ t) piece ∙ sym (append_assoc part (take n shown) (10 ∷ []))

  whole_read : (unread left after : Option (List ℕ)) → Consumes left after (take (n + 1) shown) → IsPart max unread left part
      → LinesRead unread after (line ∷ [])
  whole_read None left after taken p = tt
  whole_read (Some u) None after taken p = absurd p.taken
  whole_read (Some u) (Some l) None taken p = absurd taken
  whole_read (Some u) (Some l) (Some a) taken p =
      let q : List ℕ = take n shown in
      let given : u ≡ all ++ 10 ∷ a =
      p.taken ∙ ap (λ t. part ++ t) (taken ∙ (ap (λ t. t ++ a) piece ∙ append_assoc q (10 ∷ []) a)) ∙ sym (append_assoc part q (10 ∷ a)) in
      let unended : All IsInLine all = All-append IsInLine part q p.unended (shown_front n shown e) in
      ap lines given ∙ (part_first all (10 ∷ a) (10 ∷ []) (lines a) unended refl ∙ ap (λ t. t ∷ lines a) (sym whole))

  pub whole_line : (unread left after : Option (List ℕ)) → length part + n ≤ max → Consumes left after (take (n + 1) shown)
      → IsPart max unread left part → ReadsWithin (Some max) unread after line (Ok Whole)
  whole_line unread left after w taken p =
      let few : length (take n shown) ≡ n = length-take-le n shown (omega (arith, low)) in
      let short : length (content line) ≡ length all = ap length (ap content whole ∙ content_ended all) in
      (whole_read unread left after taken p, omega (arith, short, length-append part (take n shown), few, w))

-- more of the line may follow
pub more_part : (max n : ℕ) (unread left after : Option (List ℕ)) (part shown line : List ℕ) → n ≡ prefix_len is_in_line shown
    → n ≤ length shown → length shown ≤ n → length part + n ≤ max → line ≡ part ++ shown → Consumes left after (take n shown)
    → IsPart max unread left part → IsPart max unread after line
more_part max n unread left after part shown line e most all w is taken p =
    let n_is : n ≡ length shown = omega (arith, most, all) in
    let same : take n shown ≡ shown = take_all n shown (omega (arith, n_is)) in
    record {
      taken = subst (Consumes unread after) (sym is)
          (Consumes-trans unread left after part shown p.taken (subst (Consumes left after) same taken));
      unended = subst (All IsInLine) (sym is)
          (All-append IsInLine part shown p.unended (subst (All IsInLine) same (shown_front n shown e)));
      within = omega (arith, w, n_is, ap length is, length-append part shown);
    }

pub some_taken : (y : ℕ) (ys : List ℕ) → 0 < length (take_through 10 (y ∷ ys))
some_taken y ys = by (y == 10)
  where
    by : (b : Bool) → 0 < length (cond b (y ∷ []) (y ∷ take_through 10 ys))
    by true = omega arith
    by false = omega arith

-- a part that is longer than the limit begins the next line
long_first : (max : ℕ) (part rest : List ℕ) → All IsInLine part → max < length part
    → (line : List ℕ) × (lines (part ++ rest) ≡ line ∷ lines (drop_through 10 rest)) × IsLonger max line
long_first max [] rest h w = absurd (omega (arith, w))
long_first max (x ∷ xs) [] h w =
    let part : List ℕ = x ∷ xs in (
      part,
      ap lines (append-nil part) ∙ part_alone x xs h,
      subst (λ t. max < length t) (sym (content_part part h)) w,
    )
long_first max (x ∷ xs) (y ∷ ys) h w =
    let part : List ℕ = x ∷ xs in
    let taken : List ℕ = take_through 10 (y ∷ ys) in
    let rest : List ℕ = drop_through 10 (y ∷ ys) in (
      part ++ taken,
      part_first part (y ∷ ys) taken (lines rest) h (first_line (y ∷ ys) (some_taken y ys)),
      omega (arith, w, content_least (part ++ taken), length-append part taken, some_taken y ys),
    )

-- the line is too long, and passed over
module _ (max n : ℕ) (part shown : List ℕ) (e : n ≡ prefix_len is_in_line shown) (most : n ≤ length shown) (w : max < length part + n) where
  abbrev front : List ℕ
  front = part ++ take n shown

  long_front : max < length front
  long_front = omega (arith, length-append part (take n shown), length-take-le n shown most, w)

  unended_front : All IsInLine part → All IsInLine front
  unended_front h = All-append IsInLine part (take n shown) h (shown_front n shown e)

  passed_over : (unread left mid after : Option (List ℕ)) → IfSome left (λ xs. StartsWith xs shown) → Keeps left mid
      → DropsThrough mid after 10 → IsPart max unread left part → PassesOver max unread after
  passed_over None left mid after starts kept drops p =
      (front, tt, subst (λ t. max < length t) (sym (content_part front (unended_front p.unended))) long_front)
  passed_over (Some u) None mid after starts kept drops p = absurd p.taken
  passed_over (Some u) (Some l) None after starts kept drops p = absurd kept
  passed_over (Some u) (Some l) (Some m) after starts kept drops p =
      let q : List ℕ = take n shown in
      let rest : List ℕ = drop n shown ++ drop (length shown) l in
      let left_is : l ≡ q ++ rest =
      starts_with_rest l shown starts ∙ ap (λ t. t ++ drop (length shown) l) (sym (take-append-drop n shown))
      ∙ append_assoc q (drop n shown) (drop (length shown) l) in
      let given : u ≡ front ++ rest = p.taken ∙ ap (λ t. part ++ t) left_is ∙ sym (append_assoc part q rest) in
      let dropped : after ≡ Some (drop_through 10 rest) =
      drops ∙ ap (λ t. Some (drop_through 10 t)) (kept ∙ left_is) ∙ ap Some (drop_through-append 10 q rest (shown_front n shown e)) in
      let long = long_first max front rest (unended_front p.unended) long_front in
      (long.0, subst (λ o. LinesRead (Some u) o (long.0 ∷ [])) (sym dropped) (ap lines given ∙ long.1), long.2)

  pub begins_longer : (unread left : Option (List ℕ)) → IfSome left (λ xs. StartsWith xs shown) → IsPart max unread left part
      → BeginsLonger max unread
  begins_longer None left starts p = tt
  begins_longer (Some u) None starts p = absurd p.taken
  begins_longer (Some u) (Some l) starts p =
      let q : List ℕ = take n shown in
      let rest : List ℕ = drop n shown ++ drop (length shown) l in
      let left_is : l ≡ q ++ rest =
      starts_with_rest l shown starts ∙ ap (λ t. t ++ drop (length shown) l) (sym (take-append-drop n shown))
      ∙ append_assoc q (drop n shown) (drop (length shown) l) in
      let given : u ≡ front ++ rest = p.taken ∙ ap (λ t. part ++ t) left_is ∙ sym (append_assoc part q rest) in
      let long = long_first max front rest (unended_front p.unended) long_front in
      (long.0, lines (drop_through 10 rest), ap lines given ∙ long.1, long.2)

  pub too_long : (unread left mid after : Option (List ℕ)) → IfSome left (λ xs. StartsWith xs shown) → Keeps left mid
      → DropsThrough mid after 10 → IsPart max unread left part → (Some max ≡ Some max) × PassesOver max unread after
  too_long unread left mid after starts kept drops p = (refl, passed_over unread left mid after starts kept drops p)

-- ---- errors

other_kind : (k : ErrorKind) (e : Error) → error_kind e ≡ k → ¬ (k ≡ Interrupted) → error_kind e ≢ Interrupted
other_kind k e is other i = other (sym is ∙ i)

pub invalid_kind : (e : Error) → error_kind e ≡ InvalidData → error_kind e ≢ Interrupted
invalid_kind e is = other_kind InvalidData e is (λ i. absurd cc)

pub memory_kind : (e : Error) → error_kind e ≡ OutOfMemory → error_kind e ≢ Interrupted
memory_kind e is = other_kind OutOfMemory e is (λ i. absurd cc)

-- a part of the line was read
pub stops_part : (max : ℕ) (unread left : Option (List ℕ)) (part : List ℕ) (e : Error) → error_kind e ≡ InvalidData
    → IsPart max unread left part → Stops max unread left part e
stops_part max unread left part e is p = record {
  kind = invalid_kind e is;
  within = inl (record { taken = p.taken; unended = p.unended });
}

-- the error is handed on
pub stops_read : (max : ℕ) (unread left : Option (List ℕ)) (line : List ℕ) (e : Error) (r : Result LineRead Error)
    → IsErrAnd r (λ d. d ≡ e) → Stops max unread left line e → ReadsWithin (Some max) unread left line r
stops_read max unread left line e (Ok x) is h = absurd is
stops_read max unread left line e (Err d) is h = subst (Stops max unread left line) (sym is) h

pub stops_line : (unread left : Option (List ℕ)) (line : List ℕ) (e : Error) (r : Result Bool Error)
    → IsErrAnd r (λ d. d ≡ e) → Stops usize_max unread left line e → ReadsLine unread left line r
stops_line unread left line e (Ok x) is h = absurd is
stops_line unread left line e (Err d) is h = subst (Stops usize_max unread left line) (sym is) h

-- the piece was not taken, and what was read of the line stays
pub stops_piece : (max : ℕ) (unread left after : Option (List ℕ)) (part line : List ℕ) (e : Error) → error_kind e ≢ Interrupted
    → Keeps left after → line ≡ part → IsPart max unread left part → Stops max unread after line e
stops_piece max unread left after part line e k kept same p = record {
  kind = k;
  within = inl (record {
    taken = subst (Consumes unread after) (sym same) (Consumes-kept unread left after part p.taken kept);
    unended = subst (All IsInLine) (sym same) p.unended;
  });
}

-- the error of a piece is handed on
pub stops_taken : (max : ℕ) (unread left : Option (List ℕ)) (line : List ℕ) (e : Error) (r : Result (Option LineRead) Error)
    → IsErrAnd r (λ d. d ≡ e) → Stops max unread left line e → TakesPiece max unread left line r
stops_taken max unread left line e (Ok x) is h = absurd is
stops_taken max unread left line e (Err d) is h = subst (Stops max unread left line) (sym is) h

-- there was no memory for the piece
pub memory_stops : (max : ℕ) (unread left after : Option (List ℕ)) (part line : List ℕ) (r : Result (Option LineRead) Error)
    → IsErrAnd r (λ d. error_kind d ≡ OutOfMemory) → Keeps left after → line ≡ part → IsPart max unread left part
    → TakesPiece max unread after line r
memory_stops max unread left after part line (Ok x) is kept same p = absurd is
memory_stops max unread left after part line (Err d) is kept same p =
    stops_piece max unread left after part line d (memory_kind d is) kept same p

-- the line is longer
longer : (max : ℕ) (unread left : Option (List ℕ)) → PassesOver max unread left → BeginsLonger max unread
longer max None left h = tt
longer max (Some xs) None h = absurd h.1
longer max (Some xs) (Some ys) h = (h.0, lines ys, h.1, h.2)

pub stops_longer : (unread left : Option (List ℕ)) (line : List ℕ) (m : ℕ) (e : Error) → error_kind e ≡ InvalidData
    → ReadsWithin (Some usize_max) unread left line (Ok (TooLong m)) → Stops usize_max unread left line e
stops_longer unread left line m e is h = record {
  kind = invalid_kind e is;
  within = inr (longer usize_max unread left (subst (λ n. PassesOver n unread left) (sym (some_is h.0)) h.1));
}
  where
    value : Option ℕ → ℕ
    value None = 0
    value (Some n) = n

    some_is : Some usize_max ≡ Some m → usize_max ≡ m
    some_is s = ap value s
