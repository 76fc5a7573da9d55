-- What is found at the front of a text is in the grammar.
use Rattle.std.proofs.Common.{◌≡◌, ◌⊎◌, inl, inr, ℕ, zero, suc, Bool, true, false, ◌==◌, cond, List, [], ◌∷◌, length}
use Rattle.std.proofs.Common.{◌+◌, ◌*◌, Option, Some, None, option_and_then, refl, sym, ap, ◌∙◌, subst}
use Rattle.std.proofs.lemmas.Bool.{eqb-true, eq-eqb, and_parts, or_cases, or_from, cond-false}
use Rattle.std.specs.Prelude.{ℤ, pos, neg_ℤ}
use Rattle.tinyjson.specs.Characters.{is_white, is_hex, is_high, is_low}
use Rattle.tinyjson_path_query.specs.Forms.{Selector}
use Rattle.tinyjson_path_query.specs.Forms as form
use Rattle.tinyjson_path_query.specs.Grammar as is
use Rattle.tinyjson_path_query.specs.Grammar.{after_blanks, is_digit1}
use Rattle.tinyjson_path_query.specs.Grammar.{MagnitudeText, IntText, HexText, CodeText, EscapeText, CharacterText, QuotedText}
use Rattle.tinyjson_path_query.specs.Grammar.{StringText}
use Rattle.tinyjson_path_query.specs.Grammar.{BoundText, StepText, PlainSelectorText, TextsOf, SelectorText, SelectionText, ShorthandText}
use Rattle.tinyjson_path_query.specs.Grammar.{SegmentText, SegmentsText}
use Rattle.tinyjson_path_query.specs.Fronts.{magnitude_front, int_front, hex_front, shifted, digit_on, code_front, low_end}
use Rattle.tinyjson_path_query.specs.Fronts.{pair_front, unicode_front, unicode_end}
use Rattle.tinyjson_path_query.specs.Fronts.{escape_front, character_front, turns, string_turn, quoted_front, begins_int, bound_front}
use Rattle.tinyjson_path_query.specs.Fronts.{step_front, slice_front, slice_end, index_end, int_end, int_selector_front, plain_front}
use Rattle.tinyjson_path_query.specs.Fronts.{separator, separated, selection_turn, selection_front, shorthand_front, descendant_front}
use Rattle.tinyjson_path_query.specs.Fronts.{dotted_front, segment_front, begins_segment, segments_turn}
use Rattle.tinyjson_path_query.specs.Fronts.{with_minus, unsigned, before, with_first, then_turn}
use Rattle.tinyjson_path_query.specs.Fronts.{more_of, present_bound, whole_slice, named}
use Rattle.tinyjson_path_query.specs.Fronts.{FrontOf, filtered, as_plain, selector_front, behind}
use Rattle.tinyjson_path_query.specs.Fronts.{child_of, descendant_of, alone, is_quote}
use Rattle.tinyjson_path_query.proofs.Before.{Before}
use Rattle.tinyjson_path_query.proofs.Finds.{Finds, finds_none, finds_some, finds_cond, finds_map, finds_then, finds_as, at_code}

pub behind_sound : (sign : ℕ) (xs : List ℕ) → Finds (behind sign xs) (λ ys. xs ≡ sign ∷ ys)
behind_sound sign [] = finds_none
behind_sound sign (c ∷ cs) = finds_cond (c == sign) (λ e. finds_some (ap (λ x. x ∷ cs) (eqb-true c sign e))) (λ _. finds_none)

magnitude_sound : (xs : List ℕ) → Finds (magnitude_front xs) (λ p. MagnitudeText xs p.0 p.1)
magnitude_sound [] = finds_none
magnitude_sound (c ∷ cs) =
    finds_cond (is_digit1 c) (λ d. finds_cond _ (λ e. finds_some (is.digits c d refl e)) (λ _. finds_none)) (λ _. finds_none)

pub int_sound : (xs : List ℕ) → Finds (int_front xs) (λ p. IntText xs p.0 p.1)
int_sound [] = finds_none
int_sound (c ∷ cs) =
    finds_cond (c == 48) (λ e. finds_some (at_code (λ x. IntText (x ∷ cs) (pos 0) cs) c 48 e is.nought))
    (λ _. finds_cond (c == 45)
    (λ e. finds_map with_minus _ (finds_as (magnitude_sound cs)
    (λ p m. at_code (λ x. IntText (x ∷ cs) (neg_ℤ (pos p.0)) p.1) c 45 e (is.negative m))))
    (λ _. finds_map unsigned _ (finds_as (magnitude_sound (c ∷ cs)) (λ p m. is.positive m))))

hex_sound : (xs : List ℕ) → Finds (hex_front xs) (λ p. HexText xs p.0 p.1)
hex_sound [] = finds_none
hex_sound (c ∷ cs) = finds_cond (is_hex c) (λ h. finds_some (is.digit c h)) (λ _. finds_none)

-- a number of digits, of which the last is d
record Digits (n : ℕ) (xs : List ℕ) (m : ℕ) (ys : List ℕ) : Type 0 where
  digit : ℕ
  hex : HexText xs digit ys
  value : n * 16 + digit ≡ m

digit_sound : (q : ℕ × List ℕ) → Finds (digit_on q) (λ p. Digits q.0 q.1 p.0 p.1)
digit_sound q = finds_map (shifted q.0) (hex_front q.1)
    (finds_as (hex_sound q.1) (λ p h. record { digit = p.0; hex = h; value = refl }))

code_made : {xs ys zs us vs : List ℕ} {a b c d : ℕ} (m n k : ℕ) → a * 16 + b ≡ m → m * 16 + c ≡ n → n * 16 + d ≡ k
    → HexText xs a ys → HexText ys b zs → HexText zs c us → HexText us d vs → CodeText xs k vs
code_made {xs = xs} {vs = vs} {c = c} {d = d} m n k e f g p q r s =
    let same : ((_ * 16 + _) * 16 + c) * 16 + d ≡ k = ap (λ x. (x * 16 + c) * 16 + d) e ∙ (ap (λ x. x * 16 + d) f ∙ g) in
    subst (λ x. CodeText xs x vs) same (is.code p q r s)

code_sound : (xs : List ℕ) → Finds (code_front xs) (λ p. CodeText xs p.0 p.1)
code_sound xs =
    finds_then digit_on (option_and_then digit_on (option_and_then digit_on (hex_front xs)))
    (finds_then digit_on (option_and_then digit_on (hex_front xs))
    (finds_then digit_on (hex_front xs)
    (finds_as (hex_sound xs) (λ a p.
    finds_as (digit_sound a) (λ b q.
    finds_as (digit_sound b) (λ c r.
    finds_as (digit_sound c) (λ d s.
    code_made b.0 c.0 d.0 q.value r.value s.value p q.hex r.hex s.hex)))))))

pair_sound : (quote high : ℕ) (xs ys : List ℕ) → CodeText xs high ys → is_high high ≡ true
    → Finds (pair_front high ys) (λ p. EscapeText quote (117 ∷ xs) p.0 p.1)
pair_sound quote high xs [] k h = finds_none
pair_sound quote high xs (c ∷ []) k h = finds_none
pair_sound quote high xs (c ∷ d ∷ cs) k h =
    finds_cond _ (λ e. let p = and_parts (c == 92) (d == 117) e in
    let at : CodeText xs high (92 ∷ 117 ∷ cs) = subst (λ x. CodeText xs high (x ∷ 117 ∷ cs)) (eqb-true c 92 p.0)
    (subst (λ x. CodeText xs high (c ∷ x ∷ cs)) (eqb-true d 117 p.1) k) in
    finds_then (low_end high) _ (finds_as (code_sound cs) (λ q m. finds_cond (is_low q.0) (λ l. finds_some (is.surrogates at h m l))
    (λ _. finds_none)))) (λ _. finds_none)

unicode_sound : (quote : ℕ) (xs : List ℕ) → Finds (unicode_front xs) (λ p. EscapeText quote (117 ∷ xs) p.0 p.1)
unicode_sound quote xs =
    finds_then unicode_end _ (finds_as (code_sound xs) (λ q k. finds_cond (is_high q.0) (λ h. pair_sound quote q.0 xs q.1 k h)
    (λ h. finds_cond (is_low q.0) (λ _. finds_none) (λ l. finds_some (is.non_surrogate k (or_from _ _ h l))))))

escape_sound : (quote : ℕ) (xs : List ℕ) → Finds (escape_front quote xs) (λ p. EscapeText quote xs p.0 p.1)
escape_sound quote [] = finds_none
escape_sound quote (c ∷ cs) =
    finds_cond (c == 117)
    (λ e. finds_as (unicode_sound quote cs) (λ p k. at_code (λ x. EscapeText quote (x ∷ cs) p.0 p.1) c 117 e k))
    (λ _. finds_map (before cs) _ (record { at = λ d e. is.letter c d e }))

pub character_sound : (quote : ℕ) (xs : List ℕ) → Finds (character_front quote xs) (λ p. CharacterText quote xs p.0 p.1)
character_sound quote [] = finds_none
character_sound quote (c ∷ cs) =
    finds_cond (c == 92)
    (λ e. finds_as (escape_sound quote cs) (λ p k. at_code (λ x. CharacterText quote (x ∷ cs) p.0 p.1) c 92 e (is.escaped k)))
    (λ _. finds_cond _ (λ h. finds_some (is.unescaped c h)) (λ _. finds_none))

pub quoted_sound : (n quote : ℕ) (xs : List ℕ) → Finds (turns (string_turn quote) n xs) (λ p. QuotedText quote xs p.0 p.1)
quoted_sound zero quote xs = finds_none
quoted_sound (suc n) quote [] = finds_none
quoted_sound (suc n) quote (c ∷ cs) =
    finds_then (then_turn (turns (string_turn quote) n)) _
    (finds_cond (c == quote) (λ e. finds_some (finds_some (at_code (λ x. QuotedText quote (x ∷ cs) [] cs) c quote e is.closed)))
    (λ _. finds_map more_of _ (finds_as (character_sound quote (c ∷ cs))
    (λ p m. finds_map (with_first p.0) _ (finds_as (quoted_sound n quote p.1) (λ r k. is.more m k))))))

bound_sound : (xs : List ℕ) → Finds (bound_front xs) (λ p. BoundText xs p.0 p.1)
bound_sound xs =
    finds_cond (begins_int xs) (λ _. finds_map present_bound _ (finds_as (int_sound xs) (λ p m. is.present m refl)))
    (λ _. finds_some is.absent)

pub blanks_once : (xs : List ℕ) → after_blanks (after_blanks xs) ≡ after_blanks xs
blanks_once [] = refl
blanks_once (c ∷ cs) = by (is_white c) refl (blanks_once cs)
  where
    by : (b : Bool) → is_white c ≡ b → after_blanks (after_blanks cs) ≡ after_blanks cs
        → after_blanks (cond b (after_blanks cs) (c ∷ cs)) ≡ cond b (after_blanks cs) (c ∷ cs)
    by true e h = h
    by false e h = cond-false (is_white c) _ _ e

bound_settled : (xs : List ℕ) → after_blanks xs ≡ xs → Finds (bound_front xs) (λ p. after_blanks p.1 ≡ p.1)
bound_settled xs e =
    finds_cond (begins_int xs) (λ _. finds_map present_bound _ (finds_as (int_sound xs) (λ p m. blanks_once p.1))) (λ _. finds_some e)

step_sound : (xs : List ℕ) → after_blanks xs ≡ xs → Finds (step_front xs) (λ p. Before (StepText xs p.0) p.1)
step_sound [] s = finds_some (record { whole = []; blanks = refl; held = is.absent })
step_sound (c ∷ cs) s =
    finds_cond (c == 58) (λ e. finds_cond (begins_int (after_blanks cs))
    (λ _. finds_map present_bound _ (finds_as (int_sound (after_blanks cs)) (λ p m. record {
      whole = p.1;
      blanks = refl;
      held = at_code (λ x. StepText (x ∷ cs) (Some p.0) p.1) c 58 e (is.present m);
    })))
    (λ _. finds_some (record { whole = cs; blanks = refl; held = at_code (λ x. StepText (x ∷ cs) None cs) c 58 e is.empty })))
    (λ _. finds_some (record { whole = c ∷ cs; blanks = s; held = is.absent }))

slice_sound : (xs ys : List ℕ) (start : Option ℤ) → BoundText xs start (58 ∷ ys)
    → Finds (slice_front start ys) (λ p. Before (PlainSelectorText xs p.0) p.1)
slice_sound xs ys start b =
    finds_then (slice_end start) _ (record {
      at = λ p e.
          let found = (bound_sound (after_blanks ys)).at p e in
          let settled = (bound_settled (after_blanks ys) (blanks_once ys)).at p e in
          finds_map (whole_slice start p.0) _ (finds_as (step_sound p.1 settled) (λ q m. record {
            whole = m.whole;
            blanks = m.blanks;
            held = is.slice b found m.held;
          }));
    })

int_selector_sound : (xs : List ℕ) → Finds (int_selector_front xs) (λ p. Before (PlainSelectorText xs p.0) p.1)
int_selector_sound xs = finds_then int_end _ (finds_as (int_sound xs) (λ p m. by p.0 p.1 (after_blanks p.1) refl m))
  where
    by : (i : ℤ) (ys zs : List ℕ) → after_blanks ys ≡ zs → IntText xs i ys
        → Finds (index_end i zs) (λ p. Before (PlainSelectorText xs p.0) p.1)
    by i ys [] e m = finds_some (record { whole = ys; blanks = e; held = is.index m })
    by i ys (c ∷ cs) e m =
        finds_cond (c == 58)
        (λ h. slice_sound xs cs (Some i) (is.present m (e ∙ ap (λ x. x ∷ cs) (eqb-true c 58 h))))
        (λ _. finds_some (record { whole = ys; blanks = e; held = is.index m }))

pub one_quote : (c : ℕ) (cs ds ys : List ℕ) → QuotedText c cs ds ys → is_quote c ≡ true → StringText (c ∷ cs) ds ys
one_quote c cs ds ys m h = by (or_cases (c == 34) (c == 39) h) m
  where
    by : ((c == 34) ≡ true) ⊎ ((c == 39) ≡ true) → QuotedText c cs ds ys → StringText (c ∷ cs) ds ys
    by (inl e) = at_code (λ x. QuotedText x cs ds ys → StringText (x ∷ cs) ds ys) c 34 e (λ q. is.double q)
    by (inr e) = at_code (λ x. QuotedText x cs ds ys → StringText (x ∷ cs) ds ys) c 39 e (λ q. is.single q)

pub plain_sound : (xs : List ℕ) → Finds (plain_front xs) (λ p. Before (PlainSelectorText xs p.0) p.1)
plain_sound [] = finds_none
plain_sound (c ∷ cs) =
    finds_cond (is_quote c) (λ h. finds_map named (quoted_front c cs) (finds_as (quoted_sound (suc (length cs)) c cs) (λ p m. record {
      whole = p.1;
      blanks = refl;
      held = is.name (one_quote c cs p.0 p.1 m h);
    })))
    (λ _. finds_cond (c == 42) (λ e. finds_some (record {
      whole = cs;
      blanks = refl;
      held = at_code (λ x. PlainSelectorText (x ∷ cs) form.wildcard cs) c 42 e is.wildcard;
    }))
    (λ _. finds_cond (c == 58) (λ e. slice_sound (c ∷ cs) cs None (at_code (λ x. BoundText (c ∷ cs) None (x ∷ cs)) 58 c
    (sym_test c 58 e) is.absent))
    (λ _. int_selector_sound (c ∷ cs))))
  where
    sym_test : (a b : ℕ) → (a == b) ≡ true → (b == a) ≡ true
    sym_test a b e = eq-eqb b a (sym (eqb-true a b e))

-- ---- selectors and segments, where expressions are found as they are written

shorthand_sound : (xs : List ℕ) → Finds (shorthand_front xs) (λ p. ShorthandText xs p.0 p.1)
shorthand_sound [] = finds_none
shorthand_sound (c ∷ cs) =
    finds_cond (c == 42) (λ e. finds_some (at_code (λ x. ShorthandText (x ∷ cs) form.wildcard cs) c 42 e is.wildcard))
    (λ _. finds_cond _ (λ h. finds_some (is.name c h refl)) (λ _. finds_none))

-- what F finds is what T are the texts of
abbrev pub Sound : {E : Type 0} → TextsOf E → FrontOf E → Type 0
Sound T F = (xs : List ℕ) → Finds (F xs) (λ p. Before (T xs p.0) p.1)

pub selector_sound : {E : Type 0} {T : TextsOf E} {F : FrontOf E} → Sound T F → Sound (SelectorText T) (selector_front F)
selector_sound s [] = finds_none
selector_sound {T = T} {F = F} s (c ∷ cs) =
    finds_cond (c == 63)
    (λ e. finds_map filtered (F (after_blanks cs)) (finds_as (s (after_blanks cs)) (λ p b. record {
      whole = b.whole;
      blanks = b.blanks;
      held = at_code (λ x. SelectorText T (x ∷ cs) (form.filter p.0) b.whole) c 63 e (is.filter b.held);
    })))
    (λ _. finds_map as_plain (plain_front (c ∷ cs)) (finds_as (plain_sound (c ∷ cs)) (λ p b. record {
      whole = b.whole;
      blanks = b.blanks;
      held = is.plain b.held;
    })))

selection_sound : {E : Type 0} {T : TextsOf E} {F : FrontOf E} → Sound T F → (n : ℕ) (xs : List ℕ)
    → Finds (turns (selection_turn F) n xs) (λ p. SelectionText T xs p.0 p.1)
selection_sound s zero xs = finds_none
selection_sound {E = E} {T = T} {F = F} s (suc n) xs =
    finds_then (then_turn (turns (selection_turn F) n)) (selection_turn F xs) (finds_then separated (selector_front F (after_blanks xs))
    (finds_as (selector_sound s (after_blanks xs)) (λ p b. by p.0 p.1 b (selection_sound s n))))
  where
    by : (v : Selector E) (ys : List ℕ) → Before (SelectorText T (after_blanks xs) v) ys
        → ((zs : List ℕ) → Finds (turns (selection_turn F) n zs) (λ p. SelectionText T zs p.0 p.1))
        → Finds (separator v ys) (λ t. Finds (then_turn (turns (selection_turn F) n) t) (λ p. SelectionText T xs p.0 p.1))
    by v [] b rec = finds_none
    by v (c ∷ cs) b rec =
        finds_cond (c == 44)
        (λ e. finds_some (finds_map (with_first v) (turns (selection_turn F) n cs) (finds_as (rec cs)
        (λ r k. is.more b.held (b.blanks ∙ ap (λ x. x ∷ cs) (eqb-true c 44 e)) k))))
        (λ _. finds_cond (c == 93)
        (λ e. finds_some (finds_some (is.last b.held (b.blanks ∙ ap (λ x. x ∷ cs) (eqb-true c 93 e)))))
        (λ _. finds_none))

descendant_sound : {E : Type 0} {T : TextsOf E} {F : FrontOf E} → Sound T F → (xs : List ℕ)
    → Finds (descendant_front F xs) (λ p. SegmentText T (46 ∷ 46 ∷ xs) p.0 p.1)
descendant_sound s [] = finds_none
descendant_sound {T = T} {F = F} s (c ∷ cs) =
    finds_cond (c == 91)
    (λ e. finds_map descendant_of (selection_front F cs) (finds_as (selection_sound s (suc (length cs)) cs)
    (λ p m. at_code (λ x. SegmentText T (46 ∷ 46 ∷ x ∷ cs) (form.descendant p.0) p.1) c 91 e (is.bracketed_descendant m))))
    (λ _. finds_map descendant_of _ (finds_map alone _ (finds_as (shorthand_sound (c ∷ cs)) (λ p m. is.descendant m))))

dotted_sound : {E : Type 0} {T : TextsOf E} {F : FrontOf E} → Sound T F → (xs : List ℕ)
    → Finds (dotted_front F xs) (λ p. SegmentText T (46 ∷ xs) p.0 p.1)
dotted_sound s [] = finds_none
dotted_sound {T = T} s (c ∷ cs) =
    finds_cond (c == 46)
    (λ e. finds_as (descendant_sound s cs) (λ p m. at_code (λ x. SegmentText T (46 ∷ x ∷ cs) p.0 p.1) c 46 e m))
    (λ _. finds_map child_of _ (finds_map alone _ (finds_as (shorthand_sound (c ∷ cs)) (λ p m. is.child m))))

pub segment_sound : {E : Type 0} {T : TextsOf E} {F : FrontOf E} → Sound T F → (xs : List ℕ)
    → Finds (segment_front F xs) (λ p. SegmentText T xs p.0 p.1)
segment_sound s [] = finds_none
segment_sound {T = T} {F = F} s (c ∷ cs) =
    finds_cond (c == 91)
    (λ e. finds_map child_of (selection_front F cs) (finds_as (selection_sound s (suc (length cs)) cs)
    (λ p m. at_code (λ x. SegmentText T (x ∷ cs) (form.child p.0) p.1) c 91 e (is.bracketed_child m))))
    (λ _. finds_cond (c == 46)
    (λ e. finds_as (dotted_sound s cs) (λ p m. at_code (λ x. SegmentText T (x ∷ cs) p.0 p.1) c 46 e m))
    (λ _. finds_none))

pub segments_sound : {E : Type 0} {T : TextsOf E} {F : FrontOf E} → Sound T F → (n : ℕ) (xs : List ℕ)
    → Finds (turns (segments_turn F) n xs) (λ p. SegmentsText T xs p.0 p.1)
segments_sound s zero xs = finds_none
segments_sound {F = F} s (suc n) xs =
    finds_then (then_turn (turns (segments_turn F) n)) _
    (finds_cond (begins_segment (after_blanks xs))
    (λ _. finds_map more_of _ (finds_as (segment_sound s (after_blanks xs))
    (λ p m. finds_map (with_first p.0) _ (finds_as (segments_sound s n p.1) (λ r k. is.more m k)))))
    (λ _. finds_some (finds_some is.none)))
