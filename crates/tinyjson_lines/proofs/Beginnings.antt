-- Beginnings of lines that are checked: what is said of them is said of the lines.
use Rattle.std.proofs.Common.{◌≡◌, ◌<◌, ◌≤◌, ℕ, ◌+◌, ◌==◌, cond, List, [], ◌∷◌, ◌++◌, length, take, drop, get_or, Option}
use Rattle.std.proofs.Common.{Err, inl, refl, sym, ap, ◌∙◌, subst, append_assoc, append-nil, length-append, arith}
use Rattle.std.proofs.Math.Seq.{drop-append_seam, take-append_seam}
use Rattle.std.proofs.lemmas.List.{length-drop, take-append-le, take-append-drop}
use Rattle.std.proofs.lemmas.Str.{chars-append, IsUtf8-drop, IsUtf8-take, IsCharBoundary-from_take}
use Rattle.std.proofs.lemmas.Str.{IsCharBoundary-past_char, len_utf8_bounds}
use Rattle.std.specs.Char.{len_utf8}
use Rattle.std.specs.Str.{IsUtf8, IsValidUpTo, chars, encode_utf8_all}
use Rattle.tinyjson.specs.Error.{error_kind, error_position}
use Rattle.tinyjson.specs.Grammar.{IsAccepted}
use Rattle.tinyjson.specs.Parser.{ChecksText}
use Rattle.tinyjson.specs.declared.parser.error.JsonParseError.{JsonParseError}
use Rattle.tinyjson_grammar.specs.Position.{advance, origin, line_feeds, after_line_feed, capped}
use Rattle.tinyjson_grammar.specs.Prefix.{IsErrorFree}
use Rattle.tinyjson_grammar.specs.Refusal.{EndsBefore, IsRefusal, KindSays, RefusalSays}
use Rattle.tinyjson_grammar.specs.Syntax.{Syntax, number}
use Rattle.tinyjson_grammar.specs.declared.error.JsonParseErrorKind.{JsonParseErrorKind}
use Rattle.tinyjson_grammar.specs.declared.error.JsonParseErrorKind.TheVariants as kind
use Rattle.tinyjson_lines.specs.Checked.{IsRefused}
use Rattle.tinyjson_lines.specs.private.Beginnings.{IsCutAfter}

-- ---- UTF-8

-- what follows a text in a text is a text
pub rest_utf8 : (xs ys : List ℕ) → IsUtf8 xs → IsUtf8 (xs ++ ys) → IsUtf8 ys
rest_utf8 xs ys h k =
    let within : length xs ≤ length (xs ++ ys) = omega (arith, length-append xs ys) in
    let front : IsUtf8 (take (length xs) (xs ++ ys)) = subst IsUtf8 (sym (take-append_seam xs ys)) h in
    subst IsUtf8 (drop-append_seam xs ys)
    (IsUtf8-drop (xs ++ ys) (length xs) k (IsCharBoundary-from_take (xs ++ ys) (length xs) k within front))

-- four bytes after the longest text, and none of them ends a character
module _ (bs rest : List ℕ) (n : ℕ) (v : IsValidUpTo bs n) (long : n + 4 ≤ length bs) where
  abbrev whole : List ℕ
  whole = bs ++ rest

  within : n ≤ length whole
  within = omega (arith, long, length-append bs rest)

  no_character : IsUtf8 whole → IsUtf8 (drop n whole) → ⊥
  no_character u ([], (s, e)) =
      omega (arith, long, length-append bs rest, length-drop n whole, ap length e)
  no_character u (c ∷ cs, (s, e)) =
      let m : ℕ = n + len_utf8 c in
      let bounds = len_utf8_bounds c in
      let cut = IsCharBoundary-past_char whole (encode_utf8_all cs) n c within (c ∷ cs, (s, e)) (sym e) in
      let same : take m whole ≡ take m bs = take-append-le m bs rest (omega (arith, bounds.1, long)) in
      v.longest m (omega (arith, bounds.0)) (subst IsUtf8 same (IsUtf8-take whole m u cut))

  pub no_utf8 : ¬ IsUtf8 whole
  no_utf8 u =
      let front : IsUtf8 (take n whole) = subst IsUtf8 (sym (take-append-le n bs rest (omega (arith, long)))) v.front in
      no_character u (IsUtf8-drop whole n u (IsCharBoundary-from_take whole n u within front))

-- the whole is a text of its own
pub cut_after_all : (text part : List ℕ) → text ≡ part → IsUtf8 part → IsCutAfter text part
cut_after_all text part e u = (subst IsUtf8 (sym e) u, [], sym e ∙ sym (append-nil text))

pub cut_after_front : (text part : List ℕ) (n : ℕ) → text ≡ take n part → IsUtf8 (take n part) → IsCutAfter text part
cut_after_front text part n e u =
    (subst IsUtf8 (sym e) u, drop n part, sym (take-append-drop n part) ∙ ap (λ t. t ++ drop n part) (sym e))

-- ---- refusals

-- of the beginning of a text, of which the character c is left
module _ (limit : Option ℕ) (used : List ℕ) (c : ℕ) (cs more : List ℕ) where
  still_before : (s : Syntax) → EndsBefore s (c ∷ cs) → EndsBefore s (c ∷ (cs ++ more))
  still_before (number n) h = h
  still_before _ h = tt

  still_says : (k : JsonParseErrorKind) → KindSays limit k used (c ∷ cs) → KindSays limit k used (c ∷ (cs ++ more))
  still_says kind.UnexpectedEof h = absurd (omega (arith, ap length h.0.0))
  still_says (kind.InvalidCharacter d) h = (((h.0.0.0 ++ more, ap (λ l. l ++ more) h.0.0.1), h.0.1, h.0.2), h.1)
  still_says (kind.TooDeep d) h = (((h.0.0.0 ++ more, ap (λ l. l ++ more) h.0.0.1), h.0.1, h.0.2), h.1)
  still_says (kind.KeyNotString k) h = (
    (
      h.0.0,
      h.0.1,
      h.0.2,
      h.0.3,
      h.0.4,
      h.0.5,
      h.0.6,
      h.0.7,
      h.0.8,
      h.0.9,
      h.0.10,
      h.0.11,
      still_before h.0.3 h.0.12,
    ),
    h.1,
  )
  still_says _ h = h

  still_refused : (k : JsonParseErrorKind) → IsRefusal limit k used (c ∷ cs) → IsRefusal limit k used (c ∷ (cs ++ more))
  still_refused k h = record {
    says = still_says k h.says;
    refused
        = λ a. h.not_too_soon c cs refl
        ((cs ++ more, inl (subst (IsAccepted limit) (sym (append_assoc used (c ∷ []) (cs ++ more))) a)));
    not_too_soon
        = λ d ds e free. h.not_too_soon c cs refl
        (subst (λ x. IsErrorFree limit (used ++ x ∷ [])) (sym (ap (λ l. get_or l 0 0) e)) free);
    not_too_late = h.not_too_late;
  }

  still : (k : JsonParseErrorKind) → ¬ (k ≡ kind.OutOfMemory) → RefusalSays limit k used (c ∷ cs)
      → RefusalSays limit k used (c ∷ (cs ++ more)) × ¬ IsAccepted limit (used ++ c ∷ (cs ++ more))
  still kind.OutOfMemory n h = absurd (n refl)
  still k n h = let r = still_refused k h in (r, r.refused)

-- ---- where an error stops

-- in the first line the column counts all
at_column : (used : List ℕ) → (advance origin used).line ≡ 1 → length used ≤ 18446744073709551615
    → (advance origin used).column ≡ length used
unfolding advance
at_column used one most =
    let none : line_feeds used ≡ 0 = omega (arith, one) in
    ap (λ n. capped (cond (n == 0) (0 + length used) (after_line_feed used))) none ∙ omega (arith, most)

-- A text whose beginning is refused before its end is refused, and so is each that begins with it.
module _ (limit : Option ℕ) (xs more : List ℕ) (e : JsonParseError) (n : ¬ (error_kind e ≡ kind.OutOfMemory))
    (one : (error_position e).line ≡ 1) (before : (error_position e).column < length xs) (most : length xs ≤ 18446744073709551615) where
  with_rest : (used rest : List ℕ) → xs ≡ used ++ rest → error_position e ≡ advance origin used
      → RefusalSays limit (error_kind e) used rest → IsRefused limit (xs ++ more) e
  with_rest used [] whole at says =
      let is : length xs ≡ length used = ap length (whole ∙ append-nil used) in
      let column : (error_position e).column ≡ length used =
      ap (λ p. p.column) at ∙ at_column used (sym (ap (λ p. p.line) at) ∙ one) (omega (arith, most, is)) in
      absurd (omega (arith, before, column, is))
  with_rest used (c ∷ cs) whole at says =
      let s = still limit used c cs more (error_kind e) n says in
      let split : xs ++ more ≡ used ++ c ∷ (cs ++ more) = ap (λ l. l ++ more) whole ∙ append_assoc used (c ∷ cs) more in
      let no : ¬ IsAccepted limit (xs ++ more) = subst (λ l. ¬ IsAccepted limit l) (sym split) s.1 in (
        record { consumed = used; rest = c ∷ (cs ++ more); whole = split; answer = (at, s.0); refused = λ _. no },
        n,
        no,
      )

  pub refused_further : ChecksText limit xs (Err e) → IsRefused limit (xs ++ more) e
  refused_further h = with_rest h.consumed h.rest h.whole h.answer.0 h.answer.1

-- and so is each line whose bytes begin with those of the text
pub refused_line : (limit : Option ℕ) (text part : List ℕ) (e : JsonParseError) → IsCutAfter text part → ¬ (error_kind e ≡ kind.OutOfMemory)
    → (error_position e).line ≡ 1 → (error_position e).column < length (chars text) → length (chars text) ≤ 18446744073709551615
    → ChecksText limit (chars text) (Err e) → (rest : List ℕ) → IsRefused limit (chars (part ++ rest)) e
refused_line limit text part e cut n one before most h rest =
    let more : List ℕ = cut.1 ++ rest in
    let is : part ++ rest ≡ text ++ more = ap (λ l. l ++ rest) cut.2 ∙ append_assoc text cut.1 rest in
    subst (λ l. IsRefused limit l e) (sym (ap chars is ∙ chars-append text more cut.0))
    (refused_further limit (chars text) (chars more) e n one before most h)
