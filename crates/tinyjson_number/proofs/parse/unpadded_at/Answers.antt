use Rattle.std.proofs.Common.{◌≡◌, ◌+◌, ◌-◌, ◌≤◌, ◌∷◌, ◌++◌, [], ℕ, List, Bool, true, false, length, take, drop, refl, sym, ap, ◌∙◌}
use Rattle.std.proofs.Common.{arith, append_assoc, length-append}
use Rattle.std.proofs.lemmas.List.{drop-drop, drop_at, length-drop, take_at, take_rest}
use Rattle.tinyjson_number.specs.Numeral.{Numeral, exponent_text, fraction_text, minus_text}
use Rattle.tinyjson_number.specs.Scan.{PartsAt}
use Rattle.tinyjson_number.specs.declared.parse.NumberParts.{NumberParts}
use Rattle.tinyjson_number.proofs.parse.unpadded_at.Goals as goal

-- what follows the sign
unsigned : (b : Bool) (text rest : List ℕ) (at : ℕ) → drop at text ≡ minus_text b ++ rest → drop (at + mir.Val.bool_byte b) text ≡ rest
unsigned true text rest at e = sym (drop-drop 1 at text) ∙ ap (drop 1) e
unsigned false text rest at e = ap (λ k. drop k text) (omega arith) ∙ e

-- the digits of a fraction stand after the point
after_point : (w f rest : List ℕ) → take (length f) (drop (length w + 1) (w ++ (fraction_text f ++ rest))) ≡ f
after_point w [] rest = refl
after_point w (d ∷ ds) rest =
    ap (take (length (d ∷ ds))) (sym (drop-drop 1 (length w) (w ++ (46 ∷ d ∷ ds ++ rest)))
    ∙ ap (drop 1) (drop_at w (46 ∷ d ∷ ds ++ rest) (length w) refl))
    ∙ take_at (d ∷ ds) rest (length (d ∷ ds)) refl

fraction_room : (f : List ℕ) → length f ≤ length (fraction_text f)
fraction_room [] = omega arith
fraction_room (d ∷ ds) = omega arith

module _ (text : List ℕ) (at : ℕ) (p : NumberParts) (end : ℕ) (x : PartsAt text at p end) where
  abbrev start : ℕ
  start = at + mir.Val.bool_byte p.negative

  abbrev more : List ℕ
  more = exponent_text x.0.exponent ++ drop end text

  digits_stand : drop start text ≡ p.integer.now ++ (fraction_text p.fraction.now ++ more)
  digits_stand =
      let negative = ap (λ (n : Numeral). n.negative) x.1 in
      let integer = ap (λ (n : Numeral). n.integer) x.1 in
      let fraction = ap (λ (n : Numeral). n.fraction) x.1 in
      unsigned p.negative text _ at (x.2.spelled ∙ append_assoc (minus_text x.0.negative) _ (drop end text)
      ∙ (λ i. minus_text (sym negative i) ++ append_assoc x.0.integer (fraction_text x.0.fraction ++ exponent_text x.0.exponent)
      (drop end text) i)
      ∙ (λ i. minus_text p.negative ++ (sym integer i ++ append_assoc (fraction_text x.0.fraction) (exponent_text x.0.exponent)
      (drop end text) i))
      ∙ (λ i. minus_text p.negative ++ (p.integer.now ++ (fraction_text (sym fraction i) ++ more))))

  room : 17 ≤ length text - end → length p.integer.now + length p.fraction.now + 17 ≤ length (drop start text)
  room h = omega (
    arith,
    h,
    ap length digits_stand,
    length-append p.integer.now (fraction_text p.fraction.now ++ more),
    length-append (fraction_text p.fraction.now) more,
    length-append (exponent_text x.0.exponent) (drop end text),
    length-drop end text,
    fraction_room p.fraction.now,
  )

  digits_are : take (length p.integer.now) (drop start text) ++ take (length p.fraction.now) (drop (length p.integer.now + 1)
      (drop start text)) ≡ p.integer.now ++ p.fraction.now
  digits_are = ap (λ t. take (length p.integer.now) t ++ take (length p.fraction.now) (drop (length p.integer.now + 1) t)) digits_stand
      ∙ (λ i. take_at p.integer.now (fraction_text p.fraction.now ++ more) (length p.integer.now) refl i
      ++ after_point p.integer.now p.fraction.now more i)

pub of_text-requires : goal.of_text-requires
of_text-requires c =
    let p = c.args.parts in
    let text = c.args.bytes.now in
    let h = room text c.args.at p c.args.end c.requires.at (omega (arith, c.if-bytes-end-lt17.false)) in
    omega (arith, h, ap length (take_rest text (c.args.at + mir.Val.bool_byte p.negative)))

pub unpadded-requires-clause-digits : goal.unpadded-requires-clause-digits
unpadded-requires-clause-digits c =
    let p = c.args.parts in
    let text = c.args.bytes.now in
    let d = digits_are text c.args.at p c.args.end c.requires.at in
    c.in_ok-digits.ensures.1 ∙ ap (λ t. take (length p.integer.now) t ++ take (length p.fraction.now)
    (drop (length p.integer.now + 1) t)) (take_rest text (c.args.at + mir.Val.bool_byte p.negative)) ∙ d

pub overflow_cast-text : goal.overflow_cast-text
overflow_cast-text c = omega arith

pub overflow_sub-bytes : goal.overflow_sub-bytes
overflow_sub-bytes c = omega arith
