-- What follows a text of a rule is shorter.
use Rattle.std.proofs.Common.{◌≡◌, ℕ, ◌<◌, ◌≤◌, ◌+◌, ◌*◌, ◌-◌, Bool, true, false, ◌==◌, cond, List, [], ◌∷◌, ◌++◌, length, Option, Some}
use Rattle.std.proofs.Common.{None, refl, ap, arith}
use Rattle.std.specs.Prelude.{ℤ}
use Rattle.tinyjson.specs.Characters.{is_white}
use Rattle.tinyjson_path_query.specs.declared.query.ComparisonOperator.{ComparisonOperator}
use Rattle.tinyjson_path_query.specs.Forms.{PlainSelector, Selector, Segment}
use Rattle.tinyjson_path_query.specs.Values.{Literal, SingularSegment}
use Rattle.tinyjson_path_query.specs.Grammar as is
use Rattle.tinyjson_path_query.specs.Grammar.{after_blanks, is_name_char, name_chars, is_digit, digits_on, MagnitudeText, IntText, HexText}
use Rattle.tinyjson_path_query.specs.Grammar.{CodeText}
use Rattle.tinyjson_path_query.specs.Grammar.{EscapeText, CharacterText, QuotedText, StringText, BoundText, StepText, PlainSelectorText}
use Rattle.tinyjson_path_query.specs.Grammar.{TextsOf, SelectorText, SelectionText, ShorthandText, SegmentText, SegmentsText}
use Rattle.tinyjson_path_query.specs.Grammar.{OperandText, BasicText, JoinedText, is_number_char, number_chars, LiteralText}
use Rattle.tinyjson_path_query.specs.Grammar.{SingularSegmentText, SingularSegmentsText, ComparableText, OperatorText, FilterQueryText}
use Rattle.tinyjson_path_query.specs.Grammar.{ClosedText}
use Rattle.tinyjson_path_query.specs.Grammar.{FunctionText}
use Rattle.tinyjson_path_query.specs.Fronts.{singular_segment_front, singular_end, singular_turn}
use Rattle.tinyjson_path_query.specs.Fronts.{string_turn, selector_front, separator, separated}
use Rattle.tinyjson_path_query.specs.Fronts.{selection_turn, begins_segment, segments_turn}
use Rattle.tinyjson_path_query.specs.Fronts.{more_of, character_front, segment_front, FrontOf, behind}
use Rattle.tinyjson_path_query.specs.Fronts.{behind_both, joint, joined, joined_turn}
use Rattle.tinyjson_path_query.proofs.Compared.{singular_segment_sound}
use Rattle.tinyjson_path_query.proofs.Finds.{Finds, finds_none, finds_some, finds_cond, finds_map, finds_then, finds_as}
use Rattle.tinyjson_path_query.proofs.Turns.{Falls, Shortens}
use Rattle.tinyjson_path_query.proofs.Sound.{Sound, character_sound, selector_sound, segment_sound}

pub blanks_shorter : (xs : List ℕ) → length (after_blanks xs) ≤ length xs
blanks_shorter [] = omega arith
blanks_shorter (c ∷ cs) = by (is_white c) (blanks_shorter cs)
  where
    by : (b : Bool) → length (after_blanks cs) ≤ length cs → length (cond b (after_blanks cs) (c ∷ cs)) ≤ length (c ∷ cs)
    by true h = omega arith
    by false h = omega arith

names_shorter : (xs : List ℕ) → length (name_chars xs).1 ≤ length xs
names_shorter [] = omega arith
names_shorter (c ∷ cs) = by (is_name_char c) (names_shorter cs)
  where
    by : (b : Bool) → length (name_chars cs).1 ≤ length cs
        → length (cond {A = List ℕ × List ℕ} b (c ∷ (name_chars cs).0, (name_chars cs).1) ([], c ∷ cs)).1 ≤ length (c ∷ cs)
    by true h = omega arith
    by false h = omega arith

digits_shorter : (n : ℕ) (xs : List ℕ) → length (digits_on n xs).1 ≤ length xs
digits_shorter n [] = omega arith
digits_shorter n (c ∷ cs) = by (is_digit c) (digits_shorter (10 * n + (c - 48)) cs)
  where
    by : (b : Bool) → length (digits_on (10 * n + (c - 48)) cs).1 ≤ length cs
        → length (cond {A = ℕ × List ℕ} b (digits_on (10 * n + (c - 48)) cs) (n, c ∷ cs)).1 ≤ length (c ∷ cs)
    by true h = omega arith
    by false h = omega arith

magnitude_shorter : (xs : List ℕ) (n : ℕ) (ys : List ℕ) → MagnitudeText xs n ys → length ys < length xs
magnitude_shorter xs n ys (is.digits {xs = cs} c d e f) =
    let h = digits_shorter (c - 48) cs in
    let same : length (digits_on (c - 48) cs).1 ≡ length ys = ap (λ p. length p.1) e in
    omega arith

pub int_shorter : (xs : List ℕ) (i : ℤ) (ys : List ℕ) → IntText xs i ys → length ys < length xs
int_shorter xs i ys is.nought = omega arith
int_shorter xs i ys (is.positive {n = n} m) = magnitude_shorter xs n ys m
int_shorter xs i ys (is.negative {xs = cs} {n = n} m) = let h = magnitude_shorter cs n ys m in omega arith

hex_shorter : (xs : List ℕ) (n : ℕ) (ys : List ℕ) → HexText xs n ys → length ys < length xs
hex_shorter xs n ys (is.digit c h) = omega arith

code_shorter : (xs : List ℕ) (n : ℕ) (ys : List ℕ) → CodeText xs n ys → length ys < length xs
code_shorter xs n ys (is.code {ys = zs} {zs = us} {us = vs} {a = a} {b = b} {c = c} {d = d} e f g h) =
    let p = hex_shorter xs a zs e in
    let q = hex_shorter zs b us f in
    let r = hex_shorter us c vs g in
    let s = hex_shorter vs d ys h in
    omega arith

escape_shorter : (quote : ℕ) (xs : List ℕ) (c : ℕ) (ys : List ℕ) → EscapeText quote xs c ys → length ys < length xs
escape_shorter quote xs c ys (is.letter l d h) = omega arith
escape_shorter quote xs c ys (is.non_surrogate {xs = cs} k h) = let s = code_shorter cs c ys k in omega arith
escape_shorter quote xs c ys (is.surrogates {xs = cs} {ys = ds} {high = high} {low = low} k h l m) =
    let s = code_shorter cs high (92 ∷ 117 ∷ ds) k in
    let t = code_shorter ds low ys l in
    omega arith

character_shorter : (quote : ℕ) (xs : List ℕ) (c : ℕ) (ys : List ℕ) → CharacterText quote xs c ys → length ys < length xs
character_shorter quote xs c ys (is.unescaped d h) = omega arith
character_shorter quote xs c ys (is.escaped {xs = cs} k) = let s = escape_shorter quote cs c ys k in omega arith

quoted_shorter : (quote : ℕ) (xs cs ys : List ℕ) → QuotedText quote xs cs ys → length ys < length xs
quoted_shorter quote xs cs ys is.closed = omega arith
quoted_shorter quote xs cs ys (is.more {ys = zs} {c = c} {cs = ds} m k) =
    let s = character_shorter quote xs c zs m in
    let t = quoted_shorter quote zs ds ys k in
    omega arith

string_shorter : (xs cs ys : List ℕ) → StringText xs cs ys → length ys < length xs
string_shorter xs cs ys (is.double {xs = zs} q) = let s = quoted_shorter 34 zs cs ys q in omega arith
string_shorter xs cs ys (is.single {xs = zs} q) = let s = quoted_shorter 39 zs cs ys q in omega arith

bound_shorter : (xs : List ℕ) (o : Option ℤ) (ys : List ℕ) → BoundText xs o ys → length ys ≤ length xs
bound_shorter xs o ys is.absent = omega arith
bound_shorter xs o ys (is.present {ys = zs} {i = i} m e) =
    let s = int_shorter xs i zs m in
    let t = blanks_shorter zs in
    let same : length (after_blanks zs) ≡ length ys = ap length e in
    omega arith

step_shorter : (xs : List ℕ) (o : Option ℤ) (ys : List ℕ) → StepText xs o ys → length ys ≤ length xs
step_shorter xs o ys is.absent = omega arith
step_shorter xs o ys is.empty = omega arith
step_shorter xs o ys (is.present {xs = zs} {i = i} m) =
    let s = int_shorter (after_blanks zs) i ys m in
    let t = blanks_shorter zs in
    omega arith

plain_shorter : (xs : List ℕ) (v : PlainSelector) (ys : List ℕ) → PlainSelectorText xs v ys → length ys < length xs
plain_shorter xs v ys (is.name {cs = cs} s) = string_shorter xs cs ys s
plain_shorter xs v ys is.wildcard = omega arith
plain_shorter xs v ys (is.slice {ys = zs} {zs = us} {start = start} {end = end} {step = step} a b c) =
    let s = bound_shorter xs start (58 ∷ zs) a in
    let t = blanks_shorter zs in
    let u = bound_shorter (after_blanks zs) end us b in
    let w = step_shorter us step ys c in
    omega arith
plain_shorter xs v ys (is.index {i = i} m) = int_shorter xs i ys m

-- what follows each of the texts is shorter
abbrev pub Shortening : {E : Type 0} → TextsOf E → Type 0
Shortening {E = E} T = (xs : List ℕ) (e : E) (ys : List ℕ) → T xs e ys → length ys < length xs

pub selector_shorter : {E : Type 0} {T : TextsOf E} → Shortening T → Shortening (SelectorText T)
selector_shorter k xs v ys (is.plain {v = u} m) = plain_shorter xs u ys m
selector_shorter k xs v ys (is.filter {xs = zs} {e = e} m) =
    let a = k (after_blanks zs) e ys m in
    let b = blanks_shorter zs in
    omega arith

selection_shorter : {E : Type 0} {T : TextsOf E} → Shortening T → Shortening (SelectionText T)
selection_shorter k xs vs ys (is.last {ys = zs} {v = v} s e) =
    let a = selector_shorter k (after_blanks xs) v zs s in
    let b = blanks_shorter xs in
    let c = blanks_shorter zs in
    let same : length (after_blanks zs) ≡ length (93 ∷ ys) = ap length e in
    omega arith
selection_shorter k xs vs ys (is.more {ys = zs} {zs = us} {v = v} {vs = ws} s e m) =
    let a = selector_shorter k (after_blanks xs) v zs s in
    let b = blanks_shorter xs in
    let c = blanks_shorter zs in
    let same : length (after_blanks zs) ≡ length (44 ∷ us) = ap length e in
    let d = selection_shorter k us ws ys m in
    omega arith

shorthand_shorter : (xs : List ℕ) (v : PlainSelector) (ys : List ℕ) → ShorthandText xs v ys → length ys < length xs
shorthand_shorter xs v ys is.wildcard = omega arith
shorthand_shorter xs v ys (is.name {xs = zs} c h e) =
    let a = names_shorter zs in
    let same : length (name_chars zs).1 ≡ length ys = ap (λ p. length p.1) e in
    omega arith

segment_shorter : {E : Type 0} {T : TextsOf E} → Shortening T → Shortening (SegmentText T)
segment_shorter k xs s ys (is.bracketed_child {xs = zs} {vs = vs} m) = let a = selection_shorter k zs vs ys m in omega arith
segment_shorter k xs s ys (is.child {xs = zs} {v = v} m) = let a = shorthand_shorter zs v ys m in omega arith
segment_shorter k xs s ys (is.bracketed_descendant {xs = zs} {vs = vs} m) = let a = selection_shorter k zs vs ys m in omega arith
segment_shorter k xs s ys (is.descendant {xs = zs} {v = v} m) = let a = shorthand_shorter zs v ys m in omega arith

segments_shorter : {E : Type 0} {T : TextsOf E} → Shortening T → (xs : List ℕ) (ss : List (Segment E)) (ys : List ℕ)
    → SegmentsText T xs ss ys → length ys ≤ length xs
segments_shorter k xs ss ys is.none = omega arith
segments_shorter k xs ss ys (is.more {ys = zs} {s = s} {ss = ts} m n) =
    let a = segment_shorter k (after_blanks xs) s zs m in
    let b = blanks_shorter xs in
    let c = segments_shorter k zs ts ys n in
    omega arith

-- ---- comparisons

numbers_shorter : (xs : List ℕ) → length (number_chars xs).1 ≤ length xs
numbers_shorter [] = omega arith
numbers_shorter (c ∷ cs) = by (is_number_char c) (numbers_shorter cs)
  where
    by : (b : Bool) → length (number_chars cs).1 ≤ length cs
        → length (cond {A = List ℕ × List ℕ} b (c ∷ (number_chars cs).0, (number_chars cs).1) ([], c ∷ cs)).1 ≤ length (c ∷ cs)
    by true h = omega arith
    by false h = omega arith

behind_no_longer : (ws xs : List ℕ) → length xs ≤ length (ws ++ xs)
behind_no_longer [] xs = omega arith
behind_no_longer (w ∷ ws) xs = let h = behind_no_longer ws xs in omega arith

literal_shorter : (xs : List ℕ) (l : Literal) (ys : List ℕ) → LiteralText xs l ys → length ys ≤ length xs
literal_shorter xs l ys (is.number (is.run e h)) =
    let a = numbers_shorter xs in
    let same : length (number_chars xs).1 ≡ length ys = ap (λ p. length p.1) e in
    omega arith
literal_shorter xs l ys (is.string {cs = cs} m) = let a = string_shorter xs cs ys m in omega arith
literal_shorter xs l ys is.is_true = behind_no_longer is.true_word ys
literal_shorter xs l ys is.is_false = behind_no_longer is.false_word ys
literal_shorter xs l ys is.is_null = behind_no_longer is.null_word ys

singular_segment_shorter : (xs : List ℕ) (s : SingularSegment) (ys : List ℕ) → SingularSegmentText xs s ys → length ys < length xs
singular_segment_shorter xs s ys (is.bracketed_name {xs = zs} {cs = cs} m) = let a = string_shorter zs cs (93 ∷ ys) m in omega arith
singular_segment_shorter xs s ys (is.name {xs = zs} c h e) =
    let a = names_shorter zs in
    let same : length (name_chars zs).1 ≡ length ys = ap (λ p. length p.1) e in
    omega arith
singular_segment_shorter xs s ys (is.index {xs = zs} {i = i} m) = let a = int_shorter zs i (93 ∷ ys) m in omega arith

singular_segments_shorter : (xs : List ℕ) (ss : List SingularSegment) (ys : List ℕ) → SingularSegmentsText xs ss ys
    → length ys ≤ length xs
singular_segments_shorter xs ss ys is.none = omega arith
singular_segments_shorter xs ss ys (is.more {ys = zs} {s = s} {ss = ts} m n) =
    let a = singular_segment_shorter (after_blanks xs) s zs m in
    let b = blanks_shorter xs in
    let c = singular_segments_shorter zs ts ys n in
    omega arith

-- what follows each of the texts is no longer
abbrev pub Keeping : {A : Type 0} → TextsOf A → Type 0
Keeping {A = A} T = (xs : List ℕ) (a : A) (ys : List ℕ) → T xs a ys → length ys ≤ length xs

filter_query_shorter : {E : Type 0} {T : TextsOf E} → Shortening T → Keeping (FilterQueryText T)
filter_query_shorter k xs q ys (is.relative {xs = zs} {ss = ss} m) = let a = segments_shorter k zs ss ys m in omega arith
filter_query_shorter k xs q ys (is.absolute {xs = zs} {ss = ss} m) = let a = segments_shorter k zs ss ys m in omega arith

closed_shorter : {A : Type 0} {T : TextsOf A} → Keeping T → Keeping (ClosedText T)
closed_shorter k xs a zs (is.closed {ys = ys} m e) =
    let b = k (after_blanks xs) a ys m in
    let c = blanks_shorter xs in
    let d = blanks_shorter ys in
    let same : length (after_blanks ys) ≡ length (41 ∷ zs) = ap length e in
    omega arith

function_shorter : {E C : Type 0} {T : TextsOf E} {A : TextsOf C} → Shortening T → Keeping A → Keeping (FunctionText T A)
function_shorter k j xs f ys (is.length_of {xs = zs} {c = c} m) =
    let a = closed_shorter j zs c ys m in
    let b = behind_no_longer is.length_call zs in
    omega arith
function_shorter k j xs f ys (is.count_of {xs = zs} {o = o} {ss = ss} m) =
    let a = closed_shorter (filter_query_shorter k) zs (o, ss) ys m in
    let b = behind_no_longer is.count_call zs in
    omega arith
function_shorter k j xs f ys (is.value_of {xs = zs} {o = o} {ss = ss} m) =
    let a = closed_shorter (filter_query_shorter k) zs (o, ss) ys m in
    let b = behind_no_longer is.value_call zs in
    omega arith

pub comparable_shorter : {E C : Type 0} {T : TextsOf E} {A : TextsOf C} → Shortening T → Keeping A → Keeping (ComparableText T A)
comparable_shorter k j xs a ys (is.literal {l = l} m) = literal_shorter xs l ys m
comparable_shorter k j xs a ys (is.relative {xs = zs} {ss = ss} m) = let b = singular_segments_shorter zs ss ys m in omega arith
comparable_shorter k j xs a ys (is.absolute {xs = zs} {ss = ss} m) = let b = singular_segments_shorter zs ss ys m in omega arith
comparable_shorter k j xs a ys (is.function {f = f} m) = function_shorter k j xs f ys m

operator_shorter : (xs : List ℕ) (op : ComparisonOperator) (ys : List ℕ) → OperatorText xs op ys → length ys < length xs
operator_shorter xs op ys is.equal = omega arith
operator_shorter xs op ys is.not_equal = omega arith
operator_shorter xs op ys is.less_or_equal = omega arith
operator_shorter xs op ys is.greater_or_equal = omega arith
operator_shorter xs op ys (is.less n) = omega arith
operator_shorter xs op ys (is.greater n) = omega arith

-- ---- logical expressions

operand_shorter : {E C : Type 0} {T : TextsOf E} {A : TextsOf C} → Shortening T → Keeping A → Shortening (OperandText T A)
operand_shorter k j xs o ys (is.parenthesized {xs = us} {ys = zs} {e = e} m f) =
    let a = k (after_blanks us) e zs m in
    let b = blanks_shorter us in
    let c = blanks_shorter zs in
    let same : length (after_blanks zs) ≡ length (41 ∷ ys) = ap length f in
    omega arith
operand_shorter k j xs o ys (is.relative {xs = us} {ss = ss} m) = let a = segments_shorter k us ss ys m in omega arith
operand_shorter k j xs o ys (is.absolute {xs = us} {ss = ss} m) = let a = segments_shorter k us ss ys m in omega arith
operand_shorter k j xs o ys (is.pattern f us {ys = zs} {zs = vs} {v = v} {p = p} m e n) =
    let a = j (after_blanks us) v zs m in
    let b = blanks_shorter us in
    let c = blanks_shorter zs in
    let same : length (after_blanks zs) ≡ length (44 ∷ vs) = ap length e in
    let d = closed_shorter j vs p ys n in
    let g = behind_no_longer (is.pattern_call f) us in
    omega arith

pub basic_shorter : {E C : Type 0} {T : TextsOf E} {A : TextsOf C} → Shortening T → Keeping A → Shortening (BasicText T A)
basic_shorter k j xs v ys (is.affirmed {o = o} m) = operand_shorter k j xs o ys m
basic_shorter k j xs v ys (is.negated {xs = zs} {o = o} m) =
    let a = operand_shorter k j (after_blanks zs) o ys m in
    let b = blanks_shorter zs in
    omega arith
basic_shorter k j xs v ys (is.comparison {ys = zs} {zs = us} {l = l} {r = r} {op = op} m n q) =
    let a = comparable_shorter k j xs l zs m in
    let b = blanks_shorter zs in
    let c = operator_shorter (after_blanks zs) op us n in
    let d = blanks_shorter us in
    let e = comparable_shorter k j (after_blanks us) r ys q in
    omega arith

pub joined_shorter : {A : Type 0} {T : TextsOf A} (sign : ℕ) → Shortening T → Shortening (JoinedText sign T)
joined_shorter sign k xs as' ys (is.last {a = a} m) = k xs a ys m
joined_shorter sign k xs as' ys (is.more {ys = zs} {zs = us} {a = a} {as' = bs} m f n) =
    let b = k xs a zs m in
    let c = blanks_shorter zs in
    let d = blanks_shorter us in
    let same : length (after_blanks zs) ≡ length (sign ∷ sign ∷ us) = ap length f in
    let e = joined_shorter sign k (after_blanks us) bs ys n in
    omega arith

-- ---- the loops

pub character_falls : (quote : ℕ) (xs : List ℕ) → Finds (character_front quote xs) (λ p. length p.1 < length xs)
character_falls quote xs = finds_as (character_sound quote xs) (λ p m. character_shorter quote xs p.0 p.1 m)

pub string_falls : (quote : ℕ) → Shortens (string_turn quote)
string_falls quote [] = finds_none
string_falls quote (c ∷ cs) =
    finds_cond (c == quote) (λ _. finds_some tt) (λ _. finds_map more_of _ (finds_as (character_falls quote (c ∷ cs)) (λ p h. h)))

-- what is found is shorter
pub front_falls : {E : Type 0} {T : TextsOf E} {F : FrontOf E} → Sound T F → Shortening T → (xs : List ℕ)
    → Finds (F xs) (λ p. length p.1 < length xs)
front_falls s k xs = finds_as (s xs) (λ p b.
    let a = k xs p.0 b.whole b.held in
    let c = blanks_shorter b.whole in
    let same : length (after_blanks b.whole) ≡ length p.1 = ap length b.blanks in
    omega arith)

pub selector_falls : {E : Type 0} {T : TextsOf E} {F : FrontOf E} → Sound T F → Shortening T → (xs : List ℕ)
    → Finds (selector_front F (after_blanks xs)) (λ p. length p.1 < length xs)
selector_falls s k xs = finds_as (front_falls (selector_sound s) (selector_shorter k) (after_blanks xs)) (λ p a.
    let d = blanks_shorter xs in
    omega arith)

pub selection_falls : {E : Type 0} {T : TextsOf E} {F : FrontOf E} → Sound T F → Shortening T → Shortens (selection_turn F)
selection_falls {E = E} s k xs = finds_then separated _ (finds_as (selector_falls s k xs) (λ p h. by p.0 p.1 h))
  where
    by : (v : Selector E) (ys : List ℕ) → length ys < length xs → Finds (separator v ys) (Falls xs)
    by v [] h = finds_none
    by v (c ∷ cs) h =
        finds_cond (c == 44) (λ _. finds_some (let l : length cs < length xs = omega arith in l))
        (λ _. finds_cond (c == 93) (λ _. finds_some tt) (λ _. finds_none))

pub segment_falls : {E : Type 0} {T : TextsOf E} {F : FrontOf E} → Sound T F → Shortening T → (xs : List ℕ)
    → Finds (segment_front F (after_blanks xs)) (λ p. length p.1 < length xs)
segment_falls s k xs = finds_as (segment_sound s (after_blanks xs)) (λ p m.
    let a = segment_shorter k (after_blanks xs) p.0 p.1 m in
    let d = blanks_shorter xs in
    omega arith)

pub segments_falls : {E : Type 0} {T : TextsOf E} {F : FrontOf E} → Sound T F → Shortening T → Shortens (segments_turn F)
segments_falls {F = F} s k xs =
    finds_cond (begins_segment (after_blanks xs)) (λ _. finds_map more_of _ (finds_as (segment_falls s k xs) (λ p h. h)))
    (λ _. finds_some tt)

pub singular_falls : Shortens singular_turn
singular_falls xs = by (singular_segment_front (after_blanks xs)) (singular_segment_sound (after_blanks xs))
  where
    by : (o : Option (SingularSegment × List ℕ)) → Finds o (λ p. SingularSegmentText (after_blanks xs) p.0 p.1)
        → Finds (Some (singular_end xs o)) (Falls xs)
    by None h = finds_some tt
    by (Some p) h =
        let a = singular_segment_shorter (after_blanks xs) p.0 p.1 (h.at p refl) in
        let b = blanks_shorter xs in
        let l : length p.1 < length xs = omega arith in
        finds_some l

behind_shorter : (sign : ℕ) (xs : List ℕ) → Finds (behind sign xs) (λ ys. length ys < length xs)
behind_shorter sign [] = finds_none
behind_shorter sign (c ∷ cs) = finds_cond (c == sign) (λ _. finds_some (omega arith)) (λ _. finds_none)

pub both_shorter : (sign : ℕ) (xs : List ℕ) → Finds (behind_both sign xs) (λ ys. length ys < length xs)
both_shorter sign xs =
    finds_map after_blanks _ (finds_then (behind sign) (behind sign xs) (finds_as (behind_shorter sign xs) (λ ys e.
    finds_as (behind_shorter sign ys) (λ zs f. let a = blanks_shorter zs in omega arith))))

pub joined_falls : {A : Type 0} {F : FrontOf A} (sign : ℕ) → ((xs : List ℕ) → Finds (F xs) (λ p. length p.1 < length xs))
    → Shortens (joined_turn sign F)
joined_falls {A = A} {F = F} sign f xs =
    finds_map (joined sign) (F xs) (finds_as (f xs) (λ p h. by p.0 p.1 h (behind_both sign p.1) (both_shorter sign p.1)))
  where
    by : (a : A) (ys : List ℕ) → length ys < length xs → (o : Option (List ℕ)) → Finds o (λ zs. length zs < length ys)
        → Falls xs (joint a ys o)
    by a ys h None k = tt
    by a ys h (Some zs) k = let l = k.at zs refl in omega arith
