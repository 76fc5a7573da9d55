-- What is in the grammar is found at the front of a text.
use Rattle.std.proofs.Common.{◌≡◌, inl, inr, ℕ, zero, suc, ◌≤◌, Bool, true, false, not, ◌==◌, nat_le, cond}
use Rattle.std.proofs.Common.{◌+◌, ◌*◌, ◌++◌, List, [], ◌∷◌, Option, Some, None, option_map, option_and_then, refl, sym, ap, ◌∙◌}
use Rattle.std.proofs.Common.{subst, arith}
use Rattle.std.proofs.lemmas.Bool.{cond-true, cond-false, ne_eqb, eqb-true, eq-eqb, leb-true, le-leb, and_parts, and_from, or_parts}
use Rattle.std.proofs.lemmas.Bool.{or_from}
use Rattle.std.proofs.lemmas.Bool.{or_cases, or_right, not-true}
use Rattle.std.proofs.lemmas.Bool.Decides.{nat_tests}
use Rattle.std.specs.Prelude.{ℤ}
use Rattle.tinyjson.specs.Characters.{is_high, is_low, is_hex, is_white}
use Rattle.tinyjson.specs.Number.{Decimal}
use Rattle.tinyjson_path_query.specs.declared.query.ComparisonOperator.{ComparisonOperator}
use Rattle.tinyjson_path_query.specs.declared.query.ComparisonOperator.TheVariants.{Less, LessOrEqual, Greater, GreaterOrEqual}
use Rattle.tinyjson_path_query.specs.declared.query.Origin.{Origin}
use Rattle.tinyjson_path_query.specs.declared.query.Origin.TheVariants.{Root, CurrentNode}
use Rattle.tinyjson_path_query.specs.declared.query.PatternFunction.{PatternFunction}
use Rattle.tinyjson_path_query.specs.declared.query.PatternFunction.TheVariants.{Match, Search}
use Rattle.tinyjson_path_query.specs.Forms.{PlainSelector, Selector, Segment, Function, Comparable, Operand, Basic, Expression}
use Rattle.tinyjson_path_query.specs.Forms as form
use Rattle.tinyjson_path_query.specs.Values.{Literal, SingularSegment}
use Rattle.tinyjson_path_query.specs.Values as value
use Rattle.tinyjson_path_query.specs.Numerals.{spelled_decimal}
use Rattle.tinyjson_path_query.specs.Grammar as is
use Rattle.tinyjson_path_query.specs.Grammar.{
  after_blanks,
  name_chars,
  digits_on,
  is_alpha,
  is_digit,
  is_digit1,
  greatest_exact,
  is_name_first,
}
use Rattle.tinyjson_path_query.specs.Grammar.{is_unescaped, escape_of, MagnitudeText, IntText, HexText, CodeText, EscapeText, CharacterText}
use Rattle.tinyjson_path_query.specs.Grammar.{QuotedText}
use Rattle.tinyjson_path_query.specs.Grammar.{StringText, BoundText, StepText, PlainSelectorText, TextsOf, SelectorText, SelectionText}
use Rattle.tinyjson_path_query.specs.Grammar.{ShorthandText}
use Rattle.tinyjson_path_query.specs.Grammar.{SegmentText, SegmentsText, OperandText, BasicText, JoinedText, ConjunctionText}
use Rattle.tinyjson_path_query.specs.Grammar.{DisjunctionText, ExpressionText, QueryText, is_number_char, begins_with, NumberText}
use Rattle.tinyjson_path_query.specs.Grammar.{LiteralText, SingularSegmentText, SingularSegmentsText, ComparableText, OperatorText}
use Rattle.tinyjson_path_query.specs.Grammar.{FilterQueryText, ClosedText, FunctionText, ArgumentText}
use Rattle.tinyjson_path_query.specs.Fronts.{exact_front, magnitude_front, int_front, hex_front, shifted, digit_on, code_front}
use Rattle.tinyjson_path_query.specs.Fronts.{low_end}
use Rattle.tinyjson_path_query.specs.Fronts.{unicode_end, escape_front, character_front, string_turn, quoted_front, begins_int}
use Rattle.tinyjson_path_query.specs.Fronts.{bound_front, step_front, slice_front, slice_end, index_end, int_end, int_selector_front}
use Rattle.tinyjson_path_query.specs.Fronts.{plain_front, separated, selection_turn, selection_front, shorthand_front, descendant_front}
use Rattle.tinyjson_path_query.specs.Fronts.{dotted_front, segment_front, begins_segment, segments_turn, segments_front, ended, query_front}
use Rattle.tinyjson_path_query.specs.Fronts.{with_minus, unsigned, before, with_first, more_of, present_bound, whole_slice, named}
use Rattle.tinyjson_path_query.specs.Fronts.{child_of, descendant_of, alone, is_quote, end, last, more}
use Rattle.tinyjson_path_query.specs.Fronts.{FrontOf, filtered, as_plain, selector_front, behind, closed, closing, tested, operand_front}
use Rattle.tinyjson_path_query.specs.Fronts.{as_affirmed, as_negated, basic_front, behind_both, joint, joined, joined_turn, joined_front}
use Rattle.tinyjson_path_query.specs.Fronts.{conjunction_front, disjunction_front, expression_front, origin_of, numbered, number_front}
use Rattle.tinyjson_path_query.specs.Fronts.{literal_front, as_string, name_before, index_before, bracketed_front}
use Rattle.tinyjson_path_query.specs.Fronts.{singular_segment_front, singular_end, singular_turn, singular_front, as_singular, as_literal}
use Rattle.tinyjson_path_query.specs.Fronts.{compared_front, comparable_front, or_equal, operator_front, as_comparison, operated_front}
use Rattle.tinyjson_path_query.specs.Fronts.{left_end, as_query, filter_query_front, held}
use Rattle.tinyjson_path_query.specs.Fronts.{in_parentheses, closed_front, as_length, as_count}
use Rattle.tinyjson_path_query.specs.Fronts.{as_value, function_front, begins_call, as_function, argument_front, as_pattern}
use Rattle.tinyjson_path_query.specs.Fronts.{second_front, first_end, arguments_front, begins_pattern}
use Rattle.tinyjson_path_query.proofs.Before.{Ends, ends_at, ends_no_segment, ends_no_operator}
use Rattle.tinyjson_path_query.proofs.Numerals.{decimal_complete}
use Rattle.tinyjson_path_query.proofs.Finds.{none_some, some_same, finds_none}
use Rattle.tinyjson_path_query.proofs.Turns.{Shortens, turns_at}
use Rattle.tinyjson_path_query.proofs.Shorter.{Shortening, basic_shorter, joined_shorter, string_falls, front_falls, selection_falls}
use Rattle.tinyjson_path_query.proofs.Shorter.{segments_falls, joined_falls, singular_falls, Keeping, comparable_shorter}
use Rattle.tinyjson_path_query.proofs.Compared.{Exact, comparable_sound, singular_segment_sound}
use Rattle.tinyjson_path_query.proofs.Conditions.{basic_sound, joined_sound}
use Rattle.tinyjson_path_query.proofs.Sound.{Sound, blanks_once}

-- ---- integers

digit1_from : (c : ℕ) → is_digit1 c ≡ true → 49 ≤ c
digit1_from c h = leb-true 49 c (and_parts (nat_le 49 c) (nat_le c 57) h).0

above : (c k : ℕ) → 49 ≤ c → k ≤ 48 → (c == k) ≡ false
above c k h l = ne_eqb c k (λ e. absurd (omega arith))

magnitude_complete : (xs : List ℕ) (n : ℕ) (ys : List ℕ) → MagnitudeText xs n ys → magnitude_front xs ≡ Some (n, ys)
magnitude_complete xs n ys (is.digits c d e f) =
    cond-true (is_digit1 c) _ _ d ∙ (ap exact_front e ∙ cond-true (nat_le n greatest_exact) _ _ f)

int_complete : (xs : List ℕ) (i : ℤ) (ys : List ℕ) → IntText xs i ys → int_front xs ≡ Some (i, ys)
int_complete xs i ys is.nought = refl
int_complete xs i ys (is.positive {n = n} m) = by xs m (ap (option_map unsigned) (magnitude_complete xs n ys m))
  where
    by : (zs : List ℕ) → MagnitudeText zs n ys → option_map unsigned (magnitude_front zs) ≡ Some (unsigned (n, ys))
        → int_front zs ≡ Some (unsigned (n, ys))
    by zs (is.digits c d e f) h =
        let low = digit1_from c d in
        cond-false (c == 48) _ _ (above c 48 low (omega arith)) ∙ (cond-false (c == 45) _ _ (above c 45 low (omega arith)) ∙ h)
int_complete xs i ys (is.negative {xs = cs} {n = n} m) = ap (option_map with_minus) (magnitude_complete cs n ys m)

-- what an integer begins with
record BeginsInt (xs : List ℕ) : Type 0 where
  first : ℕ
  rest : List ℕ
  at : xs ≡ first ∷ rest
  begins : begins_int xs ≡ true
  no_quote : is_quote first ≡ false
  no_asterisk : (first == 42) ≡ false
  no_colon : (first == 58) ≡ false
  no_blank : is_white first ≡ false

digit_no_blank : (c : ℕ) → is_digit1 c ≡ true → is_white c ≡ false
digit_no_blank c h = grind (arith, nat_tests)

int_begins : (xs : List ℕ) (i : ℤ) (ys : List ℕ) → IntText xs i ys → BeginsInt xs
int_begins xs i ys (is.nought {xs = cs}) =
    record { first = 48; rest = cs; at = refl; begins = refl; no_quote = refl; no_asterisk = refl; no_colon = refl; no_blank = refl }
int_begins xs i ys (is.negative {xs = cs} m) =
    record { first = 45; rest = cs; at = refl; begins = refl; no_quote = refl; no_asterisk = refl; no_colon = refl; no_blank = refl }
int_begins xs i ys (is.positive m) = by xs m
  where
    by : {n : ℕ} (zs : List ℕ) → MagnitudeText zs n ys → BeginsInt zs
    by zs (is.digits {xs = cs} c d e f) =
        let low = digit1_from c d in
        let high : c ≤ 57 = leb-true c 57 (and_parts (nat_le 49 c) (nat_le c 57) d).1 in
        record {
          first = c;
          rest = cs;
          at = refl;
          begins = or_right (c == 45) (is_digit c) (and_from _ _ (le-leb 48 c (omega arith)) (le-leb c 57 high));
          no_quote = or_from _ _ (above c 34 low (omega arith)) (above c 39 low (omega arith));
          no_asterisk = above c 42 low (omega arith);
          no_colon = ne_eqb c 58 (λ h. absurd (omega arith));
          no_blank = digit_no_blank c d;
        }

-- ---- strings

hex_complete : (xs : List ℕ) (n : ℕ) (ys : List ℕ) → HexText xs n ys → hex_front xs ≡ Some (n, ys)
hex_complete xs n ys (is.digit c h) = cond-true (is_hex c) _ _ h

code_complete : (xs : List ℕ) (n : ℕ) (ys : List ℕ) → CodeText xs n ys → code_front xs ≡ Some (n, ys)
code_complete xs n ys (is.code {ys = zs} {zs = us} {us = vs} {a = a} {b = b} {c = c} {d = d} e f g h) =
    ap (λ o. option_and_then digit_on (option_and_then digit_on (option_and_then digit_on o))) (hex_complete xs a zs e)
    ∙ (ap (λ o. option_and_then digit_on (option_and_then digit_on (option_map (shifted a) o))) (hex_complete zs b us f)
    ∙ (ap (λ o. option_and_then digit_on (option_map (shifted (a * 16 + b)) o)) (hex_complete us c vs g)
    ∙ ap (option_map (shifted ((a * 16 + b) * 16 + c))) (hex_complete vs d ys h)))

no_escape : (quote : ℕ) → is_quote quote ≡ true → escape_of quote 117 ≡ None
no_escape quote q = elim (or_cases (quote == 34) (quote == 39) q) [
  | inl e ↦ ap (λ x. escape_of x 117) (eqb-true quote 34 e)
  | inr e ↦ ap (λ x. escape_of x 117) (eqb-true quote 39 e)
]

not_unicode : (quote l c : ℕ) → is_quote quote ≡ true → escape_of quote l ≡ Some c → (l == 117) ≡ false
not_unicode quote l c q h =
    ne_eqb l 117 (λ e. let n : escape_of quote l ≡ None = ap (escape_of quote) e ∙ no_escape quote q in absurd cc)

escape_complete : (quote : ℕ) (xs : List ℕ) (c : ℕ) (ys : List ℕ) → is_quote quote ≡ true → EscapeText quote xs c ys
    → escape_front quote xs ≡ Some (c, ys)
escape_complete quote xs c ys q (is.letter l d h) =
    cond-false (l == 117) _ _ (not_unicode quote l c q h) ∙ ap (option_map (before ys)) h
escape_complete quote xs c ys q (is.non_surrogate {xs = cs} k h) =
    let p = or_parts (is_high c) (is_low c) h in
    ap (option_and_then unicode_end) (code_complete cs c ys k) ∙ (cond-false (is_high c) _ _ p.0 ∙ cond-false (is_low c) _ _ p.1)
escape_complete quote xs c ys q (is.surrogates {xs = cs} {ys = ds} {high = high} {low = low} k h m l) =
    ap (option_and_then unicode_end) (code_complete cs high (92 ∷ 117 ∷ ds) k)
    ∙ (cond-true (is_high high) _ _ h ∙ (ap (option_and_then (low_end high)) (code_complete ds low ys m) ∙ cond-true (is_low low) _ _ l))

character_complete : (quote : ℕ) (xs : List ℕ) (c : ℕ) (ys : List ℕ) → is_quote quote ≡ true → CharacterText quote xs c ys
    → character_front quote xs ≡ Some (c, ys)
character_complete quote xs c ys q (is.unescaped d h) =
    let p = and_parts (nat_le 32 d) _ h in
    let r = and_parts (not (d == quote)) (not (d == 92)) p.1 in
    cond-false (d == 92) _ _ (not-true (d == 92) r.1) ∙ cond-true (is_unescaped quote d) _ _ h
character_complete quote xs c ys q (is.escaped {xs = cs} k) = escape_complete quote cs c ys q k

quote_other : (quote : ℕ) → is_quote quote ≡ true → (92 == quote) ≡ false
quote_other quote q = elim (or_cases (quote == 34) (quote == 39) q) [
  | inl e ↦ ap (λ x. 92 == x) (eqb-true quote 34 e)
  | inr e ↦ ap (λ x. 92 == x) (eqb-true quote 39 e)
]

string_turn_complete : (quote : ℕ) (xs : List ℕ) (c : ℕ) (ys : List ℕ) → is_quote quote ≡ true → CharacterText quote xs c ys
    → string_turn quote xs ≡ Some (more c ys)
string_turn_complete quote xs c ys q m = by xs m (ap (option_map more_of) (character_complete quote xs c ys q m))
  where
    by : (zs : List ℕ) → CharacterText quote zs c ys → option_map more_of (character_front quote zs) ≡ Some (more c ys)
        → string_turn quote zs ≡ Some (more c ys)
    by zs (is.unescaped d h) e =
        let p = and_parts (nat_le 32 d) _ h in
        let r = and_parts (not (d == quote)) (not (d == 92)) p.1 in
        cond-false (d == quote) _ _ (not-true (d == quote) r.0) ∙ e
    by zs (is.escaped k) e = cond-false (92 == quote) _ _ (quote_other quote q) ∙ e

quoted_complete : (quote : ℕ) (xs cs ys : List ℕ) → is_quote quote ≡ true → QuotedText quote xs cs ys
    → quoted_front quote xs ≡ Some (cs, ys)
quoted_complete quote xs cs ys q is.closed =
    turns_at (string_turn quote) (string_falls quote) xs (end ys) (cond-true (quote == quote) _ _ (eq-eqb quote quote refl))
quoted_complete quote xs cs ys q (is.more {ys = zs} {c = c} {cs = ds} m k) =
    turns_at (string_turn quote) (string_falls quote) xs (more c zs) (string_turn_complete quote xs c zs q m)
    ∙ ap (option_map (with_first c)) (quoted_complete quote zs ds ys q k)

-- ---- selectors

no_bound : (xs : List ℕ) → begins_int xs ≡ false → bound_front xs ≡ Some (None, xs)
no_bound xs h = cond-false (begins_int xs) _ _ h

some_bound : (xs : List ℕ) (i : ℤ) (ys : List ℕ) → IntText xs i ys → bound_front xs ≡ Some (Some i, after_blanks ys)
some_bound xs i ys m =
    cond-true (begins_int xs) _ _ (int_begins xs i ys m).begins ∙ ap (option_map present_bound) (int_complete xs i ys m)

ends_no_int : (ys : List ℕ) → Ends ys → begins_int (after_blanks ys) ≡ false
ends_no_int ys e = ap begins_int e.at ∙ e.no_int

step_complete : (xs : List ℕ) (o : Option ℤ) (ys : List ℕ) → after_blanks xs ≡ xs → Ends ys → StepText xs o ys
    → step_front xs ≡ Some (o, after_blanks ys)
step_complete xs o ys s e is.absent =
    let at : xs ≡ e.sign ∷ e.rest = sym s ∙ e.at in
    ap step_front at ∙ (cond-false (e.sign == 58) _ _ e.no_colon ∙ ap (λ zs. Some (None, zs)) (sym e.at))
step_complete xs o ys s e is.empty = no_bound (after_blanks ys) (ends_no_int ys e)
step_complete xs o ys s e (is.present {xs = zs} {i = i} m) = some_bound (after_blanks zs) i ys m

step_begins : (xs : List ℕ) (o : Option ℤ) (ys : List ℕ) → after_blanks xs ≡ xs → Ends ys → StepText xs o ys → begins_int xs ≡ false
step_begins xs o ys s e is.absent = ap begins_int (sym s) ∙ ends_no_int ys e
step_begins xs o ys s e is.empty = refl
step_begins xs o ys s e (is.present m) = refl

bound_complete : (xs : List ℕ) (o : Option ℤ) (ys : List ℕ) → BoundText xs o ys → begins_int ys ≡ false → bound_front xs ≡ Some (o, ys)
bound_complete xs o ys is.absent h = no_bound xs h
bound_complete xs o ys (is.present {ys = zs} {i = i} m e) h = some_bound xs i zs m ∙ ap (λ us. Some (Some i, us)) e

bound_settles : (xs : List ℕ) (o : Option ℤ) (ys : List ℕ) → BoundText xs o ys → after_blanks xs ≡ xs → after_blanks ys ≡ ys
bound_settles xs o ys is.absent s = s
bound_settles xs o ys (is.present {ys = zs} m e) s = ap after_blanks (sym e) ∙ (blanks_once zs ∙ e)

slice_complete : (ys : List ℕ) (start stop step : Option ℤ) (zs us : List ℕ) → BoundText (after_blanks ys) stop zs
    → StepText zs step us → Ends us → slice_front start ys ≡ Some (form.slice start stop step, after_blanks us)
slice_complete ys start stop step zs us b m e =
    let s = bound_settles (after_blanks ys) stop zs b (blanks_once ys) in
    ap (option_and_then (slice_end start)) (bound_complete (after_blanks ys) stop zs b (step_begins zs step us s e m))
    ∙ ap (option_map (whole_slice start stop)) (step_complete zs step us s e m)

int_selector_at : (xs : List ℕ) (i : ℤ) (ys : List ℕ) → IntText xs i ys → plain_front xs ≡ index_end i (after_blanks ys)
int_selector_at xs i ys m =
    let b = int_begins xs i ys m in
    ap plain_front b.at
    ∙ (cond-false (is_quote b.first) _ _ b.no_quote
    ∙ (cond-false (b.first == 42) _ _ b.no_asterisk
    ∙ (cond-false (b.first == 58) _ _ b.no_colon
    ∙ (ap int_selector_front (sym b.at) ∙ ap (option_and_then int_end) (int_complete xs i ys m)))))

string_complete : (xs cs ys : List ℕ) → StringText xs cs ys → plain_front xs ≡ Some (form.name cs, after_blanks ys)
string_complete xs cs ys (is.double {xs = zs} q) = ap (option_map named) (quoted_complete 34 zs cs ys refl q)
string_complete xs cs ys (is.single {xs = zs} q) = ap (option_map named) (quoted_complete 39 zs cs ys refl q)

slice_begins : (xs : List ℕ) (o : Option ℤ) (zs ys : List ℕ) → zs ≡ 58 ∷ ys → BoundText xs o zs → plain_front xs ≡ slice_front o ys
slice_begins xs o zs ys h is.absent = ap plain_front h
slice_begins xs o zs ys h (is.present {ys = us} {i = i} m e) = int_selector_at xs i us m ∙ ap (index_end i) (e ∙ h)

plain_complete : (xs : List ℕ) (v : PlainSelector) (ys : List ℕ) → PlainSelectorText xs v ys → Ends ys
    → plain_front xs ≡ Some (v, after_blanks ys)
plain_complete xs v ys (is.name {cs = cs} s) e = string_complete xs cs ys s
plain_complete xs v ys is.wildcard e = refl
plain_complete xs v ys (is.slice {ys = zs} {zs = us} {start = start} {end = stop} {step = step} a b c) e =
    slice_begins xs start (58 ∷ zs) zs refl a ∙ slice_complete zs start stop step us ys b c e
plain_complete xs v ys (is.index {i = i} m) e =
    int_selector_at xs i ys m
    ∙ (ap (index_end i) e.at ∙ (cond-false (e.sign == 58) _ _ e.no_colon ∙ ap (λ zs. Some (form.index i, zs)) (sym e.at)))

-- ---- selectors and segments, where expressions are found as they are written

-- what F finds is all that T are the texts of, before what may follow an expression
abbrev pub Complete : {E : Type 0} → TextsOf E → FrontOf E → Type 0
Complete {E = E} T F = (xs : List ℕ) (e : E) (ys : List ℕ) → T xs e ys → (k : Ends ys) → (k.sign == 38) ≡ false → (k.sign == 124) ≡ false
    → F xs ≡ Some (e, after_blanks ys)

plain_at : {E : Type 0} (F : FrontOf E) (xs : List ℕ) (v : PlainSelector) (ys : List ℕ) → plain_front xs ≡ Some (v, ys)
    → selector_front F xs ≡ Some (form.plain v, ys)
plain_at F [] v ys e = none_some e
plain_at F (c ∷ cs) v ys e = by (c == 63) refl
  where
    by : (b : Bool) → (c == 63) ≡ b
        → cond b (option_map filtered (F (after_blanks cs))) (option_map as_plain (plain_front (c ∷ cs))) ≡ Some (form.plain v, ys)
    by true f =
        let none : plain_front (c ∷ cs) ≡ None = ap (λ x. plain_front (x ∷ cs)) (eqb-true c 63 f) in
        none_some (sym none ∙ e)
    by false f = ap (option_map as_plain) e

selector_complete : {E : Type 0} {T : TextsOf E} {F : FrontOf E} → Complete T F → (xs : List ℕ) (v : Selector E) (ys : List ℕ)
    → SelectorText T xs v ys → (k : Ends ys) → (k.sign == 38) ≡ false → (k.sign == 124) ≡ false
    → selector_front F xs ≡ Some (v, after_blanks ys)
selector_complete {F = F} t xs v ys (is.plain {v = u} m) k a o = plain_at F xs u (after_blanks ys) (plain_complete xs u ys m k)
selector_complete t xs v ys (is.filter {xs = cs} {e = e} m) k a o = ap (option_map filtered) (t (after_blanks cs) e ys m k a o)

selection_complete : {E : Type 0} {T : TextsOf E} {F : FrontOf E} → Complete T F → Shortens (selection_turn F) → (xs : List ℕ)
    (vs : List (Selector E)) (ys : List ℕ) → SelectionText T xs vs ys → selection_front F xs ≡ Some (vs, ys)
selection_complete {F = F} t f xs vs ys (is.last {ys = zs} {v = v} s e) =
    turns_at (selection_turn F) f xs (last v ys)
    (ap (option_and_then separated) (selector_complete t (after_blanks xs) v zs s (ends_at 93 zs ys e refl refl refl refl) refl refl
    ∙ ap (λ us. Some (v, us)) e))
selection_complete {F = F} t f xs vs ys (is.more {ys = zs} {zs = us} {v = v} {vs = ws} s e k) =
    turns_at (selection_turn F) f xs (more v us)
    (ap (option_and_then separated) (selector_complete t (after_blanks xs) v zs s (ends_at 44 zs us e refl refl refl refl) refl refl
    ∙ ap (λ us. Some (v, us)) e))
    ∙ ap (option_map (with_first v)) (selection_complete t f us ws ys k)

-- what a name begins with is none of the signs
name_not : (c k : ℕ) → is_name_first c ≡ true → is_name_first k ≡ false → (c == k) ≡ false
name_not c k h n = ne_eqb c k (λ e. let t : is_name_first c ≡ false = ap is_name_first e ∙ n in absurd cc)

shorthand_complete : (xs : List ℕ) (v : PlainSelector) (ys : List ℕ) → ShorthandText xs v ys → shorthand_front xs ≡ Some (v, ys)
shorthand_complete xs v ys is.wildcard = refl
shorthand_complete xs v ys (is.name {xs = zs} c h e) =
    cond-false (c == 42) _ _ (name_not c 42 h refl)
    ∙ (cond-true (is_name_first c) _ _ h ∙ ap (λ p. Some (form.name (c ∷ p.0), p.1)) e)

descendant_complete : {E : Type 0} (F : FrontOf E) (xs : List ℕ) (v : PlainSelector) (ys : List ℕ) → ShorthandText xs v ys
    → descendant_front F xs ≡ Some (form.descendant (form.plain v ∷ []), ys)
descendant_complete F xs v ys is.wildcard = refl
descendant_complete F xs v ys (is.name c h e) =
    cond-false (c == 91) _ _ (name_not c 91 h refl)
    ∙ ap (λ o. option_map descendant_of (option_map alone o)) (shorthand_complete xs v ys (is.name c h e))

dotted_complete : {E : Type 0} (F : FrontOf E) (xs : List ℕ) (v : PlainSelector) (ys : List ℕ) → ShorthandText xs v ys
    → dotted_front F xs ≡ Some (form.child (form.plain v ∷ []), ys)
dotted_complete F xs v ys is.wildcard = refl
dotted_complete F xs v ys (is.name c h e) =
    cond-false (c == 46) _ _ (name_not c 46 h refl)
    ∙ ap (λ o. option_map child_of (option_map alone o)) (shorthand_complete xs v ys (is.name c h e))

segment_complete : {E : Type 0} {T : TextsOf E} {F : FrontOf E} → Complete T F → Shortens (selection_turn F) → (xs : List ℕ)
    (s : Segment E) (ys : List ℕ) → SegmentText T xs s ys → segment_front F xs ≡ Some (s, ys)
segment_complete t f xs s ys (is.bracketed_child {xs = zs} {vs = vs} m) =
    ap (option_map child_of) (selection_complete t f zs vs ys m)
segment_complete {F = F} t f xs s ys (is.child {xs = zs} {v = v} m) = dotted_complete F zs v ys m
segment_complete t f xs s ys (is.bracketed_descendant {xs = zs} {vs = vs} m) =
    ap (option_map descendant_of) (selection_complete t f zs vs ys m)
segment_complete {F = F} t f xs s ys (is.descendant {xs = zs} {v = v} m) = descendant_complete F zs v ys m

segment_begins : {E : Type 0} {T : TextsOf E} (xs : List ℕ) (s : Segment E) (ys : List ℕ) → SegmentText T xs s ys
    → begins_segment xs ≡ true
segment_begins xs s ys (is.bracketed_child m) = refl
segment_begins xs s ys (is.child m) = refl
segment_begins xs s ys (is.bracketed_descendant m) = refl
segment_begins xs s ys (is.descendant m) = refl

pub segments_complete : {E : Type 0} {T : TextsOf E} {F : FrontOf E} → Complete T F → Shortens (selection_turn F)
    → Shortens (segments_turn F) → (xs : List ℕ) (ss : List (Segment E)) (ys : List ℕ) → begins_segment (after_blanks ys) ≡ false
    → SegmentsText T xs ss ys → segments_front F xs ≡ Some (ss, ys)
segments_complete {F = F} t f g xs ss ys h is.none =
    turns_at (segments_turn F) g xs (end xs) (cond-false (begins_segment (after_blanks xs)) _ _ h)
segments_complete {F = F} t f g xs ss ys h (is.more {ys = zs} {s = s} {ss = ts} m k) =
    turns_at (segments_turn F) g xs (more s zs)
    (cond-true (begins_segment (after_blanks xs)) _ _ (segment_begins (after_blanks xs) s zs m)
    ∙ ap (option_map more_of) (segment_complete t f (after_blanks xs) s zs m))
    ∙ ap (option_map (with_first s)) (segments_complete t f g zs ts ys h k)

-- ---- what is compared

number_not : (c k : ℕ) → is_number_char c ≡ true → is_number_char k ≡ false → (c == k) ≡ false
number_not c k h n = ne_eqb c k (λ e. let t : is_number_char c ≡ false = ap is_number_char e ∙ n in absurd cc)

number_complete : (xs : List ℕ) (d : Decimal) (ys : List ℕ) → NumberText xs d ys → number_front xs ≡ Some (value.number d, ys)
number_complete xs d ys (is.run {ds = ds} e h) =
    ap (λ p. option_map (numbered p.1) (spelled_decimal p.0)) e ∙ ap (option_map (numbered ys)) (decimal_complete ds d h)

-- what a comparable begins with
record BeginsComparable (xs : List ℕ) : Type 0 where
  first : ℕ
  rest : List ℕ
  at : xs ≡ first ∷ rest
  no_mark : (first == 33) ≡ false
  no_parenthesis : (first == 40) ≡ false
  no_pattern : begins_pattern first ≡ false

-- what a literal begins with
record BeginsLiteral (xs : List ℕ) : Type 0 where
  begins : BeginsComparable xs
  no_origin : origin_of begins.first ≡ None
  no_call : begins_call begins.first ≡ false

-- what a number begins with
record BeginsNumber (xs : List ℕ) : Type 0 where
  first : ℕ
  rest : List ℕ
  at : xs ≡ first ∷ rest
  number : is_number_char first ≡ true

number_begins : (xs : List ℕ) (d : Decimal) (ys : List ℕ) → number_front xs ≡ Some (value.number d, ys) → BeginsNumber xs
number_begins [] d ys e = none_some e
number_begins (c ∷ cs) d ys e = by (is_number_char c) refl
  where
    by : (b : Bool) → is_number_char c ≡ b → BeginsNumber (c ∷ cs)
    by true h = record { first = c; rest = cs; at = refl; number = h }
    by false h =
        let none : number_front (c ∷ cs) ≡ None =
        ap {A = List ℕ × List ℕ} (λ p. option_map (numbered p.1) (spelled_decimal p.0)) (cond-false (is_number_char c) _ _ h) in
        none_some (sym none ∙ e)

number_begins_literal : (xs : List ℕ) → BeginsNumber xs → BeginsLiteral xs
number_begins_literal xs b = record {
  begins = record {
    first = b.first;
    rest = b.rest;
    at = b.at;
    no_mark = number_not b.first 33 b.number refl;
    no_parenthesis = number_not b.first 40 b.number refl;
    no_pattern = or_from _ _ (number_not b.first 109 b.number refl) (number_not b.first 115 b.number refl);
  };
  no_origin =
      cond-false (b.first == 64) _ _ (number_not b.first 64 b.number refl)
      ∙ cond-false (b.first == 36) _ _ (number_not b.first 36 b.number refl);
  no_call =
      or_from _ _ (number_not b.first 108 b.number refl)
      (or_from _ _ (number_not b.first 99 b.number refl) (number_not b.first 118 b.number refl));
}

begins_literal : (c : ℕ) (cs : List ℕ) → (c == 33) ≡ false → (c == 40) ≡ false → begins_pattern c ≡ false → origin_of c ≡ None
    → begins_call c ≡ false → BeginsLiteral (c ∷ cs)
begins_literal c cs e f p o k = record {
  begins = record { first = c; rest = cs; at = refl; no_mark = e; no_parenthesis = f; no_pattern = p };
  no_origin = o;
  no_call = k;
}

literal_begins : (xs : List ℕ) (l : Literal) (ys : List ℕ) → LiteralText xs l ys → BeginsLiteral xs
literal_begins xs l ys (is.number {d = d} m) = number_begins_literal xs (number_begins xs d ys (number_complete xs d ys m))
literal_begins xs l ys (is.string (is.double {xs = zs} q)) = begins_literal 34 zs refl refl refl refl refl
literal_begins xs l ys (is.string (is.single {xs = zs} q)) = begins_literal 39 zs refl refl refl refl refl
literal_begins xs l ys is.is_true = begins_literal 116 _ refl refl refl refl refl
literal_begins xs l ys is.is_false = begins_literal 102 _ refl refl refl refl refl
literal_begins xs l ys is.is_null = begins_literal 110 _ refl refl refl refl refl

literal_complete : (xs : List ℕ) (l : Literal) (ys : List ℕ) → LiteralText xs l ys → literal_front xs ≡ Some (l, ys)
literal_complete xs l ys (is.number {d = d} m) =
    let found = number_complete xs d ys m in
    let b = number_begins xs d ys found in
    ap literal_front b.at
    ∙ (cond-false (is_quote b.first) _ _ (or_from _ _ (number_not b.first 34 b.number refl) (number_not b.first 39 b.number refl))
    ∙ (cond-true (is_number_char b.first) _ _ b.number ∙ (ap number_front (sym b.at) ∙ found)))
literal_complete xs l ys (is.string (is.double {xs = zs} {cs = cs} q)) =
    ap (option_map as_string) (quoted_complete 34 zs cs ys refl q)
literal_complete xs l ys (is.string (is.single {xs = zs} {cs = cs} q)) =
    ap (option_map as_string) (quoted_complete 39 zs cs ys refl q)
literal_complete xs l ys is.is_true = refl
literal_complete xs l ys is.is_false = refl
literal_complete xs l ys is.is_null = refl

singular_segment_complete : (xs : List ℕ) (s : SingularSegment) (ys : List ℕ) → SingularSegmentText xs s ys
    → singular_segment_front xs ≡ Some (s, ys)
singular_segment_complete xs s ys (is.bracketed_name (is.double {xs = zs} {cs = cs} q)) =
    ap (option_and_then name_before) (quoted_complete 34 zs cs (93 ∷ ys) refl q)
singular_segment_complete xs s ys (is.bracketed_name (is.single {xs = zs} {cs = cs} q)) =
    ap (option_and_then name_before) (quoted_complete 39 zs cs (93 ∷ ys) refl q)
singular_segment_complete xs s ys (is.name c h e) =
    cond-true (is_name_first c) _ _ h ∙ ap (λ p. Some (value.name (c ∷ p.0), p.1)) e
singular_segment_complete xs s ys (is.index {xs = zs} {i = i} m) =
    let b = int_begins zs i (93 ∷ ys) m in
    ap bracketed_front b.at
    ∙ (cond-false (is_quote b.first) _ _ b.no_quote
    ∙ (ap (λ us. option_and_then index_before (int_front us)) (sym b.at)
    ∙ ap (option_and_then index_before) (int_complete zs i (93 ∷ ys) m)))

no_singular : (xs : List ℕ) → begins_segment xs ≡ false → singular_segment_front xs ≡ None
no_singular [] h = refl
no_singular (c ∷ cs) h =
    let p = or_parts (c == 91) (c == 46) h in
    cond-false (c == 91) _ _ p.0 ∙ cond-false (c == 46) _ _ p.1

singular_complete : (xs : List ℕ) (ss : List SingularSegment) (ys : List ℕ) → begins_segment (after_blanks ys) ≡ false
    → SingularSegmentsText xs ss ys → singular_front xs ≡ Some (ss, ys)
singular_complete xs ss ys h is.none =
    turns_at singular_turn singular_falls xs (end xs) (ap (λ o. Some (singular_end xs o)) (no_singular (after_blanks xs) h))
singular_complete xs ss ys h (is.more {ys = zs} {s = s} {ss = ts} m k) =
    turns_at singular_turn singular_falls xs (more s zs)
    (ap (λ o. Some (singular_end xs o)) (singular_segment_complete (after_blanks xs) s zs m))
    ∙ ap (option_map (with_first s)) (singular_complete zs ts ys h k)

-- G finds what T are the texts of, before what is no segment
abbrev pub Reached : {A : Type 0} → TextsOf A → FrontOf A → Type 0
Reached {A = A} T G = (xs : List ℕ) (a : A) (ys : List ℕ) → begins_segment (after_blanks ys) ≡ false → T xs a ys → G xs ≡ Some (a, ys)

filter_query_complete : {E : Type 0} {T : TextsOf E} {F : FrontOf E} → Complete T F → Shortens (selection_turn F)
    → Shortens (segments_turn F) → Reached (FilterQueryText T) (filter_query_front F)
filter_query_complete t f g xs q ys h (is.relative {xs = zs} {ss = ss} m) =
    ap (option_map (as_query CurrentNode)) (segments_complete t f g zs ss ys h m)
filter_query_complete t f g xs q ys h (is.absolute {xs = zs} {ss = ss} m) =
    ap (option_map (as_query Root)) (segments_complete t f g zs ss ys h m)

closed_complete : {A : Type 0} {T : TextsOf A} {G : FrontOf A} → Reached T G → (xs : List ℕ) (a : A) (zs : List ℕ) → ClosedText T xs a zs
    → closed_front G xs ≡ Some (a, zs)
closed_complete k xs a zs (is.closed {ys = ys} m e) =
    ap (option_and_then in_parentheses) (k (after_blanks xs) a ys (ap begins_segment e) m) ∙ ap (λ us. option_map (held a) (behind 41 us)) e

function_complete : {E C : Type 0} {T : TextsOf E} {A : TextsOf C} {F : FrontOf E} {G : FrontOf C} → Complete T F
    → Shortens (selection_turn F) → Shortens (segments_turn F) → Reached A G → (xs : List ℕ) (v : Function E C) (ys : List ℕ)
    → FunctionText T A xs v ys → function_front F G xs ≡ Some (v, ys)
function_complete t f g k xs v ys (is.length_of {xs = zs} {c = c} m) = ap (option_map as_length) (closed_complete k zs c ys m)
function_complete t f g k xs v ys (is.count_of {xs = zs} {o = o} {ss = ss} m) =
    ap (option_map as_count) (closed_complete (filter_query_complete t f g) zs (o, ss) ys m)
function_complete t f g k xs v ys (is.value_of {xs = zs} {o = o} {ss = ss} m) =
    ap (option_map as_value) (closed_complete (filter_query_complete t f g) zs (o, ss) ys m)

call_complete : {E C : Type 0} {T : TextsOf E} {A : TextsOf C} (F : FrontOf E) (G : FrontOf C) (xs : List ℕ) (v : Function E C)
    (ys : List ℕ) → FunctionText T A xs v ys → function_front F G xs ≡ Some (v, ys) → comparable_front F G xs ≡ Some (form.function v, ys)
call_complete F G xs v ys (is.length_of m) e = ap (option_map as_function) e
call_complete F G xs v ys (is.count_of m) e = ap (option_map as_function) e
call_complete F G xs v ys (is.value_of m) e = ap (option_map as_function) e

comparable_complete : {E C : Type 0} {T : TextsOf E} {A : TextsOf C} {F : FrontOf E} {G : FrontOf C} → Complete T F
    → Shortens (selection_turn F) → Shortens (segments_turn F) → Reached A G → Reached (ComparableText T A) (comparable_front F G)
comparable_complete {F = F} {G = G} t f g k xs a ys h (is.literal {l = l} m) =
    let b = literal_begins xs l ys m in
    ap (comparable_front F G) b.begins.at
    ∙ (ap (compared_front F G b.begins.first b.begins.rest) b.no_origin
    ∙ (cond-false (begins_call b.begins.first) _ _ b.no_call
    ∙ (ap (λ us. option_map as_literal (literal_front us)) (sym b.begins.at) ∙ ap (option_map as_literal) (literal_complete xs l ys m))))
comparable_complete t f g k xs a ys h (is.relative {xs = zs} {ss = ss} m) =
    ap (option_map (as_singular CurrentNode)) (singular_complete zs ss ys h m)
comparable_complete t f g k xs a ys h (is.absolute {xs = zs} {ss = ss} m) =
    ap (option_map (as_singular Root)) (singular_complete zs ss ys h m)
comparable_complete {F = F} {G = G} t f g k xs a ys h (is.function {f = v} m) =
    call_complete F G xs v ys m (function_complete t f g k xs v ys m)

function_begins : {E C : Type 0} {T : TextsOf E} {A : TextsOf C} (xs : List ℕ) (v : Function E C) (ys : List ℕ) → FunctionText T A xs v ys
    → BeginsComparable xs
function_begins xs v ys (is.length_of m) =
    record { first = 108; rest = _; at = refl; no_mark = refl; no_parenthesis = refl; no_pattern = refl }
function_begins xs v ys (is.count_of m) =
    record { first = 99; rest = _; at = refl; no_mark = refl; no_parenthesis = refl; no_pattern = refl }
function_begins xs v ys (is.value_of m) =
    record { first = 118; rest = _; at = refl; no_mark = refl; no_parenthesis = refl; no_pattern = refl }

comparable_begins : {E C : Type 0} {T : TextsOf E} {A : TextsOf C} (xs : List ℕ) (a : Comparable E C) (ys : List ℕ)
    → ComparableText T A xs a ys → BeginsComparable xs
comparable_begins xs a ys (is.function {f = v} m) = function_begins xs v ys m
comparable_begins xs a ys (is.literal {l = l} m) = (literal_begins xs l ys m).begins
comparable_begins xs a ys (is.relative {xs = zs} m) =
    record { first = 64; rest = zs; at = refl; no_mark = refl; no_parenthesis = refl; no_pattern = refl }
comparable_begins xs a ys (is.absolute {xs = zs} m) =
    record { first = 36; rest = zs; at = refl; no_mark = refl; no_parenthesis = refl; no_pattern = refl }

no_equals : (xs : List ℕ) → begins_with 61 xs ≡ false → behind 61 xs ≡ None
no_equals [] e = refl
no_equals (c ∷ cs) e = cond-false (c == 61) _ _ e

operator_complete : (xs : List ℕ) (op : ComparisonOperator) (ys : List ℕ) → OperatorText xs op ys → operator_front xs ≡ Some (op, ys)
operator_complete xs op ys is.equal = refl
operator_complete xs op ys is.not_equal = refl
operator_complete xs op ys is.less_or_equal = refl
operator_complete xs op ys is.greater_or_equal = refl
operator_complete xs op ys (is.less n) = ap (λ o. Some (or_equal Less LessOrEqual ys o)) (no_equals ys n)
operator_complete xs op ys (is.greater n) = ap (λ o. Some (or_equal Greater GreaterOrEqual ys o)) (no_equals ys n)

operator_begins : (xs : List ℕ) (op : ComparisonOperator) (ys : List ℕ) → OperatorText xs op ys → begins_segment xs ≡ false
operator_begins xs op ys is.equal = refl
operator_begins xs op ys is.not_equal = refl
operator_begins xs op ys is.less_or_equal = refl
operator_begins xs op ys is.greater_or_equal = refl
operator_begins xs op ys (is.less n) = refl
operator_begins xs op ys (is.greater n) = refl

-- ---- a test is no comparison

-- a segment of one selector is a segment
as_segment : {E : Type 0} {T : TextsOf E} (xs : List ℕ) (s : SingularSegment) (ys : List ℕ) → SingularSegmentText xs s ys
    → (t : Segment E) × SegmentText T xs t ys
as_segment xs s ys (is.bracketed_name {cs = cs} (is.double q)) =
    (form.child (form.plain (form.name cs) ∷ []), is.bracketed_child (is.last (is.plain (is.name (is.double q))) refl))
as_segment xs s ys (is.bracketed_name {cs = cs} (is.single q)) =
    (form.child (form.plain (form.name cs) ∷ []), is.bracketed_child (is.last (is.plain (is.name (is.single q))) refl))
as_segment xs s ys (is.name {cs = cs} c h e) = (form.child (form.plain (form.name (c ∷ cs)) ∷ []), is.child (is.name c h e))
as_segment {T = T} xs s ys (is.index {xs = zs} {i = i} m) =
    let b = int_begins zs i (93 ∷ ys) m in
    let settled : after_blanks zs ≡ zs = ap after_blanks b.at ∙ (cond-false (is_white b.first) _ _ b.no_blank ∙ sym b.at) in (
      form.child (form.plain (form.index i) ∷ []),
      is.bracketed_child (is.last (subst (λ us. SelectorText T us (form.plain (form.index i)) (93 ∷ ys)) (sym settled)
          (is.plain (is.index m))) refl),
    )

segment_no_operator : {E : Type 0} {T : TextsOf E} (xs : List ℕ) (s : Segment E) (ys : List ℕ) → SegmentText T xs s ys
    → operator_front xs ≡ None
segment_no_operator xs s ys (is.bracketed_child m) = refl
segment_no_operator xs s ys (is.child m) = refl
segment_no_operator xs s ys (is.bracketed_descendant m) = refl
segment_no_operator xs s ys (is.descendant m) = refl

-- behind the segments of one selector at the front stands no operator
record Stops (xs : List ℕ) : Type 0 where
  found : List SingularSegment × List ℕ
  at : singular_front xs ≡ Some found
  none : operator_front (after_blanks found.1) ≡ None

stops_at : (xs : List ℕ) → singular_segment_front (after_blanks xs) ≡ None → operator_front (after_blanks xs) ≡ None → Stops xs
stops_at xs e o = record {
  found = ([], xs);
  at = turns_at singular_turn singular_falls xs (end xs) (ap (λ p. Some (singular_end xs p)) e);
  none = o;
}

stops_behind : (xs zs : List ℕ) (p : SingularSegment × List ℕ) → singular_segment_front (after_blanks xs) ≡ Some p → zs ≡ p.1
    → Stops zs → Stops xs
stops_behind xs zs p e s k = record {
  found = (p.0 ∷ k.found.0, k.found.1);
  at =
      turns_at singular_turn singular_falls xs (more p.0 p.1) (ap (λ o. Some (singular_end xs o)) e)
      ∙ ap (option_map (with_first p.0)) (ap singular_front (sym s) ∙ k.at);
  none = k.none;
}

test_stops : {E : Type 0} {T : TextsOf E} {F : FrontOf E} → Complete T F → Shortens (selection_turn F) → (xs : List ℕ)
    (ss : List (Segment E)) (ys : List ℕ) → SegmentsText T xs ss ys → begins_segment (after_blanks ys) ≡ false
    → operator_front (after_blanks ys) ≡ None → Stops xs
test_stops t f xs ss ys is.none h o = stops_at xs (no_singular (after_blanks xs) h) o
test_stops {E = E} {T = T} t f xs ss ys (is.more {ys = zs} {s = s} {ss = ts} m k) h o =
    by (singular_segment_front (after_blanks xs)) refl (test_stops t f zs ts ys k h o)
  where
    by : (p : Option (SingularSegment × List ℕ)) → singular_segment_front (after_blanks xs) ≡ p → Stops zs → Stops xs
    by None e r = stops_at xs e (segment_no_operator (after_blanks xs) s zs m)
    by (Some p) e r =
        let one = as_segment {E = E} {T = T} (after_blanks xs) p.0 p.1 ((singular_segment_sound (after_blanks xs)).at p e) in
        let same : (s, zs) ≡ (one.0, p.1) =
        some_same (sym (segment_complete t f (after_blanks xs) s zs m) ∙ segment_complete t f (after_blanks xs) one.0 p.1 one.1) in
        stops_behind xs zs p e (ap (λ q. q.1) same) r

-- ---- logical expressions

arguments_complete : {E C : Type 0} {A : TextsOf C} {G : FrontOf C} → Reached A G → (f : PatternFunction) (xs ys zs us : List ℕ) (v p : C)
    → A (after_blanks xs) v ys → after_blanks ys ≡ 44 ∷ zs → ClosedText A zs p us
    → arguments_front {E = E} G f xs ≡ Some (form.pattern f v p, after_blanks us)
arguments_complete {E = E} {G = G} r f xs ys zs us v p m e n =
    ap (option_and_then (first_end {E = E} G f)) (r (after_blanks xs) v ys (ap begins_segment e) m)
    ∙ (ap (λ ws. option_and_then (second_front {E = E} G f v) (behind 44 ws)) e
    ∙ ap (option_map (as_pattern {E = E} f v)) (closed_complete r zs p us n))

pattern_complete : {E C : Type 0} {A : TextsOf C} (F : FrontOf E) {G : FrontOf C} → Reached A G → (f : PatternFunction)
    (xs ys zs us : List ℕ) (v p : C) → A (after_blanks xs) v ys → after_blanks ys ≡ 44 ∷ zs → ClosedText A zs p us
    → operand_front F G (is.pattern_call f ++ xs) ≡ Some (form.pattern f v p, after_blanks us)
pattern_complete F r Match xs ys zs us v p m e n = arguments_complete r Match xs ys zs us v p m e n
pattern_complete F r Search xs ys zs us v p m e n = arguments_complete r Search xs ys zs us v p m e n

operand_complete : {E C : Type 0} {T : TextsOf E} {A : TextsOf C} {F : FrontOf E} {G : FrontOf C} → Complete T F
    → Shortens (selection_turn F) → Shortens (segments_turn F) → Reached A G → (xs : List ℕ) (o : Operand E C) (ys : List ℕ)
    → OperandText T A xs o ys → Ends ys → operand_front F G xs ≡ Some (o, after_blanks ys)
operand_complete t f g r xs o ys (is.parenthesized {xs = us} {ys = zs} {e = e} m h) k =
    ap (option_and_then closing) (t (after_blanks us) e zs m (ends_at 41 zs ys h refl refl refl refl) refl refl)
    ∙ ap (λ ws. option_map (closed e) (behind 41 ws)) h
operand_complete t f g r xs o ys (is.relative {xs = us} {ss = ss} m) k =
    ap (option_map (tested CurrentNode)) (segments_complete t f g us ss ys (ends_no_segment ys k) m)
operand_complete t f g r xs o ys (is.absolute {xs = us} {ss = ss} m) k =
    ap (option_map (tested Root)) (segments_complete t f g us ss ys (ends_no_segment ys k) m)
operand_complete {F = F} t f g r xs o ys (is.pattern call us {ys = zs} {zs = vs} {v = v} {p = p} m e n) k =
    pattern_complete F r call us zs vs ys v p m e n

-- a query that is tested
tested_complete : {E C : Type 0} (F : FrontOf E) (G : FrontOf C) (c : ℕ) (cs ys : List ℕ) (origin : Origin) (o : Operand E C)
    → (c == 33) ≡ false → (c == 40) ≡ false → begins_pattern c ≡ false → origin_of c ≡ Some origin → Stops cs
    → operand_front F G (c ∷ cs) ≡ Some (o, ys) → basic_front F G (c ∷ cs) ≡ Some (form.affirmed o, ys)
tested_complete F G c cs ys origin o m p b g s e =
    cond-false (c == 33) _ _ m
    ∙ (cond-false (c == 40) _ _ p
    ∙ (cond-false (begins_pattern c) _ _ b
    ∙ (ap (λ q. option_and_then (left_end F G (c ∷ cs)) (compared_front F G c cs q)) g
    ∙ (ap (λ q. option_and_then (left_end F G (c ∷ cs)) (option_map (as_singular origin) q)) s.at
    ∙ (ap (operated_front F G (c ∷ cs) (form.singular origin s.found.0)) s.none ∙ ap (option_map as_affirmed) e)))))

affirmed_complete : {E C : Type 0} {T : TextsOf E} {A : TextsOf C} {F : FrontOf E} (G : FrontOf C) → Complete T F
    → Shortens (selection_turn F) → (xs : List ℕ) (o : Operand E C) (ys : List ℕ) → OperandText T A xs o ys → Ends ys
    → operand_front F G xs ≡ Some (o, after_blanks ys) → basic_front F G xs ≡ Some (form.affirmed o, after_blanks ys)
affirmed_complete G t f xs o ys (is.parenthesized m h) k e = ap (option_map as_affirmed) e
affirmed_complete {F = F} G t f xs o ys (is.relative {xs = us} {ss = ss} m) k e =
    tested_complete F G 64 us (after_blanks ys) CurrentNode o refl refl refl refl
    (test_stops t f us ss ys m (ends_no_segment ys k) (ends_no_operator ys k)) e
affirmed_complete {F = F} G t f xs o ys (is.absolute {xs = us} {ss = ss} m) k e =
    tested_complete F G 36 us (after_blanks ys) Root o refl refl refl refl
    (test_stops t f us ss ys m (ends_no_segment ys k) (ends_no_operator ys k)) e
affirmed_complete G t f xs o ys (is.pattern Match us m h n) k e = ap (option_map as_affirmed) e
affirmed_complete G t f xs o ys (is.pattern Search us m h n) k e = ap (option_map as_affirmed) e

comparison_complete : {E C : Type 0} {T : TextsOf E} {A : TextsOf C} (F : FrontOf E) (G : FrontOf C)
    → Reached (ComparableText T A) (comparable_front F G) → (xs ys zs us : List ℕ) (l r : Comparable E C) (op : ComparisonOperator)
    → ComparableText T A xs l ys → OperatorText (after_blanks ys) op zs → ComparableText T A (after_blanks zs) r us → Ends us
    → basic_front F G xs ≡ Some (form.comparison op l r, after_blanks us)
comparison_complete F G c xs ys zs us l r op m n q k =
    let b = comparable_begins xs l ys m in
    ap (basic_front F G) b.at
    ∙ (cond-false (b.first == 33) _ _ b.no_mark
    ∙ (cond-false (b.first == 40) _ _ b.no_parenthesis
    ∙ (cond-false (begins_pattern b.first) _ _ b.no_pattern
    ∙ (ap (λ ws. option_and_then (left_end F G ws) (comparable_front F G ws)) (sym b.at)
    ∙ (ap (option_and_then (left_end F G xs)) (c xs l ys (operator_begins (after_blanks ys) op zs n) m)
    ∙ (ap (operated_front F G xs l) (operator_complete (after_blanks ys) op zs n)
    ∙ ap (option_map (as_comparison op l)) (c (after_blanks zs) r us (ends_no_segment us k) q)))))))

pub basic_complete : {E C : Type 0} {T : TextsOf E} {A : TextsOf C} {F : FrontOf E} {G : FrontOf C} → Complete T F
    → Shortens (selection_turn F) → Shortens (segments_turn F) → Reached A G → (xs : List ℕ) (v : Basic E C) (ys : List ℕ)
    → BasicText T A xs v ys → Ends ys → basic_front F G xs ≡ Some (v, after_blanks ys)
basic_complete {G = G} t f g r xs v ys (is.affirmed {o = o} m) k =
    affirmed_complete G t f xs o ys m k (operand_complete t f g r xs o ys m k)
basic_complete t f g r xs v ys (is.negated {xs = us} {o = o} m) k =
    ap (option_map as_negated) (operand_complete t f g r (after_blanks us) o ys m k)
basic_complete {F = F} {G = G} t f g r xs v ys (is.comparison {ys = zs} {zs = us} {l = l} {r = b} {op = op} m n q) k =
    comparison_complete F G (comparable_complete t f g r) xs zs us ys l b op m n q k

-- a sign that an expression may be followed by
pub record Sign (sign : ℕ) : Type 0 where
  pub no_int : (zs : List ℕ) → begins_int (sign ∷ zs) ≡ false
  pub no_colon : (sign == 58) ≡ false
  pub no_segment : (zs : List ℕ) → begins_segment (sign ∷ zs) ≡ false
  pub no_operator : (zs : List ℕ) → operator_front (sign ∷ zs) ≡ None

both_none : (sign : ℕ) (ys : List ℕ) (k : Ends ys) → (k.sign == sign) ≡ false → behind_both sign (after_blanks ys) ≡ None
both_none sign ys k n =
    ap (behind_both sign) k.at ∙ ap (λ o. option_map after_blanks (option_and_then (behind sign) o)) (cond-false (k.sign == sign) _ _ n)

both_some : (sign : ℕ) (xs ys : List ℕ) → xs ≡ sign ∷ sign ∷ ys → behind_both sign xs ≡ Some (after_blanks ys)
both_some sign xs ys e =
    ap (behind_both sign) e
    ∙ (ap (λ o. option_map after_blanks (option_and_then (behind sign) o)) (cond-true (sign == sign) _ _ (eq-eqb sign sign refl))
    ∙ ap (option_map after_blanks) (cond-true (sign == sign) _ _ (eq-eqb sign sign refl)))

pub joined_complete : {A : Type 0} {T : TextsOf A} {F : FrontOf A} (sign : ℕ) (P : ℕ → Type 0) → Sign sign → P sign
    → ((xs : List ℕ) (a : A) (ys : List ℕ) → T xs a ys → (k : Ends ys) → P k.sign → F xs ≡ Some (a, after_blanks ys))
    → Shortens (joined_turn sign F) → (xs : List ℕ) (as' : List A) (ys : List ℕ) → JoinedText sign T xs as' ys → (k : Ends ys)
    → P k.sign → (k.sign == sign) ≡ false → joined_front sign F xs ≡ Some (as', after_blanks ys)
joined_complete {F = F} sign P s own t f xs as' ys (is.last {a = a} m) k p n =
    turns_at (joined_turn sign F) f xs (last a (after_blanks ys))
    (ap (option_map (joined sign)) (t xs a ys m k p) ∙ ap (λ o. Some (joint a (after_blanks ys) o)) (both_none sign ys k n))
joined_complete {F = F} sign P s own t f xs as' ys (is.more {ys = zs} {zs = us} {a = a} {as' = bs} m h r) k p n =
    turns_at (joined_turn sign F) f xs (more a (after_blanks us))
    (ap (option_map (joined sign))
    (t xs a zs m (ends_at sign zs (sign ∷ us) h (s.no_int (sign ∷ us)) s.no_colon (s.no_segment (sign ∷ us))
    (s.no_operator (sign ∷ us))) own)
    ∙ ap (λ o. Some (joint a (after_blanks zs) o)) (both_some sign (after_blanks zs) us h))
    ∙ ap (option_map (with_first a)) (joined_complete sign P s own t f (after_blanks us) bs ys r k p n)

-- ---- each depth

-- F finds what T are the texts of, and all of it
pub record Faithful {E : Type 0} (T : TextsOf E) (F : FrontOf E) : Type 0 where
  pub sound : Sound T F
  pub shorter : Shortening T
  pub complete : Complete T F

-- and of values
pub record FaithfulArgument {C : Type 0} (A : TextsOf C) (G : FrontOf C) : Type 0 where
  pub sound : Exact A G
  pub shorter : Keeping A
  pub complete : Reached A G

disjunction_faithful : {E C : Type 0} {T : TextsOf E} {A : TextsOf C} {F : FrontOf E} {G : FrontOf C} → Faithful T F
    → FaithfulArgument A G → Faithful (DisjunctionText T A) (disjunction_front F G)
disjunction_faithful {E = E} {C = C} {T = T} {A = A} {F = F} {G = G} h j = record {
  sound = joined_sound 124 many;
  shorter = joined_shorter 124 (joined_shorter 38 fewer);
  complete = λ xs e ys m k a o. joined_complete 124 (λ c. (c == 38) ≡ false)
      (record { no_int = λ zs. refl; no_colon = refl; no_segment = λ zs. refl; no_operator = λ zs. refl }) refl
      (λ us b vs n i p. joined_complete 38 (λ c. Unit {0})
      (record { no_int = λ zs. refl; no_colon = refl; no_segment = λ zs. refl; no_operator = λ zs. refl }) tt
      (λ ws d rs q l u. basic_complete h.complete (selection_falls h.sound h.shorter) (segments_falls h.sound h.shorter) j.complete
      ws d rs q l)
      (joined_falls 38 (front_falls one fewer)) us b vs n i tt p)
      (joined_falls 124 (front_falls many (joined_shorter 38 fewer))) xs e ys m k a o;
}
  where
    one : Sound (BasicText T A) (basic_front F G)
    one = basic_sound h.sound j.sound

    fewer : Shortening (BasicText T A)
    fewer = basic_shorter h.shorter j.shorter

    many : Sound (ConjunctionText T A) (conjunction_front F G)
    many = joined_sound 38 one

argument_faithful : {E C : Type 0} {T : TextsOf E} {A : TextsOf C} {F : FrontOf E} {G : FrontOf C} → Faithful T F → FaithfulArgument A G
    → FaithfulArgument (ComparableText T A) (comparable_front F G)
argument_faithful h j = record {
  sound = comparable_sound h.sound j.sound;
  shorter = comparable_shorter h.shorter j.shorter;
  complete =
      comparable_complete h.complete (selection_falls h.sound h.shorter) (segments_falls h.sound h.shorter) j.complete;
}

pub record FaithfulAt (n : ℕ) : Type 0 where
  pub expression : Faithful (ExpressionText n) (expression_front n)
  pub argument : FaithfulArgument (ArgumentText n) (argument_front n)

pub level_faithful : (n : ℕ) → FaithfulAt n
level_faithful zero = record {
  expression = record {
    sound = λ xs. finds_none;
    shorter = λ xs e ys m. absurd m;
    complete = λ xs e ys m. absurd m;
  };
  argument = record {
    sound = λ xs. finds_none;
    shorter = λ xs e ys m. absurd m;
    complete = λ xs e ys h m. absurd m;
  };
}
level_faithful (suc n) =
    let h = level_faithful n in
    let f = disjunction_faithful h.expression h.argument in
    let g = argument_faithful h.expression h.argument in record {
      expression = record { sound = f.sound; shorter = f.shorter; complete = f.complete };
      argument = record { sound = g.sound; shorter = g.shorter; complete = g.complete };
    }

pub expression_faithful : (n : ℕ) → Faithful (ExpressionText n) (expression_front n)
expression_faithful n = (level_faithful n).expression

pub query_complete : (n : ℕ) (xs : List ℕ) (ss : List (Segment (Expression n))) → QueryText n xs ss → query_front n xs ≡ Some ss
query_complete n xs ss (is.query {xs = cs} m) =
    let h = expression_faithful n in
    ap (option_and_then ended) (segments_complete h.complete (selection_falls h.sound h.shorter)
    (segments_falls h.sound h.shorter) cs ss [] refl m)
