-- The fronts of patterns' texts are their marks.
use Rattle.std.proofs.Common.{◌≡◌, inl, inr, ℕ, zero, suc, ◌+◌, ◌*◌, ◌<◌, ◌≤◌, Bool, true, false, not, ◌&&◌, ◌||◌, ◌==◌, nat_le, cond, List}
use Rattle.std.proofs.Common.{[], ◌∷◌, ◌++◌, length}
use Rattle.std.proofs.Common.{Option, Some, None, option_map, refl, sym, ap, ◌∙◌, subst, arith, append_assoc, append-nil, true≢false}
use Rattle.std.proofs.Common.{length-append}
use Rattle.std.proofs.lemmas.Bool.{cond-true, cond-false, eqb-true, and_parts, not-true, leb-true, le-leb}
use Rattle.std.specs.Prelude.{option_and_then}
use Rattle.text_regexp.specs.declared.assertion.Assertion.TheVariants.{Start, End, WordBoundary, NotWordBoundary}
use Rattle.text_regexp.specs.declared.class.Item.{Item}
use Rattle.text_iregexp.specs.declared.letter.Letter.{Letter}
use Rattle.text_iregexp.specs.declared.letter.Letter.TheVariants.{Literal, Named}
use Rattle.text_iregexp.specs.declared.letter.Set.{Set}
use Rattle.text_iregexp.specs.Fronts.{token_front}
use Rattle.text_iregexp.specs.Grammar as regexp
use Rattle.text_iregexp.specs.Grammar.{Token, characters, opened, closed, bar, quantifier, asserted, one, CaretText, begins_with_caret}
use Rattle.text_iregexp.specs.Levels.{IsFit}
use Rattle.text_iregexp.specs.PatternMachine.{IsFitMark}
use Rattle.text_iregexp.specs.Patterns as is
use Rattle.text_iregexp.specs.Patterns.{named_letter, hex_digit, byte_of, code_of, value_of, is_high, is_low, is_surrogate, scalar}
use Rattle.text_iregexp.specs.Patterns.{others, PropertyText}
use Rattle.text_iregexp.specs.Patterns.{pair_of, control_of, LetterText, begins_with_digit, follows, ends_class, LettersText}
use Rattle.text_iregexp.specs.Patterns.{class_items, Mark, look, token, dot, is_normal, Spells, begins_with_question, fits}
use Rattle.text_iregexp.specs.PatternFronts.{literal_front, byte_front, four_front, low_front, half_front, value_front, braced_front}
use Rattle.text_iregexp.specs.PatternFronts.{unit_front}
use Rattle.text_iregexp.specs.PatternFronts.{control_front, null_front, property_front, escape_front, letter_front, letters_step}
use Rattle.text_iregexp.specs.PatternFronts.{letters_front}
use Rattle.text_iregexp.specs.PatternFronts.{caret_front, class_of, class_from, class_front, special, opening, eager}
use Rattle.text_iregexp.specs.PatternFronts.{repeat_front, letter_mark}
use Rattle.text_iregexp.specs.PatternFronts.{token_mark, escape_mark}
use Rattle.text_iregexp.specs.PatternFronts.{sign_front, fitting, mark_front}
use Rattle.text_iregexp.proofs.Lexing.{cond_cases, then_cases, map_cases, none_some, some_same, not_equal, no_caret, front_sound}
use Rattle.text_iregexp.proofs.Lexing.{front_complete}
use Rattle.text_iregexp.proofs.PatternProperties.{property_found, property_read}
use Rattle.text_iregexp.proofs.Lexing.{spells_some}

-- ---- letters

pub record LetterFront (xs : List ℕ) (x : Letter) (ys : List ℕ) : Type 0 where
  pub cs : List ℕ
  pub split : xs ≡ cs ++ ys
  pub text : LetterText cs x
  pub after : follows cs ys ≡ true

record EscapeFront (xs : List ℕ) (x : Letter) (ys : List ℕ) : Type 0 where
  cs : List ℕ
  split : xs ≡ cs ++ ys
  text : LetterText (92 ∷ cs) x
  after : follows (92 ∷ cs) ys ≡ true

abbrev literal : List ℕ → ℕ → Letter × List ℕ
literal cs n = (Literal n, cs)

byte_sound : (xs : List ℕ) (x : Letter) (ys : List ℕ) → byte_front xs ≡ Some (x, ys) → EscapeFront (120 ∷ xs) x ys
byte_sound [] x ys e = none_some e
byte_sound (a ∷ []) x ys e = none_some e
byte_sound (a ∷ b ∷ cs) x ys e =
    let m = map_cases (literal cs) (byte_of a b) (x, ys) e in
    record {
      cs = 120 ∷ a ∷ b ∷ [];
      split = ap (λ p. 120 ∷ a ∷ b ∷ p.1) m.2;
      text = subst (LetterText (92 ∷ 120 ∷ a ∷ b ∷ [])) (ap (λ p. p.0) m.2) (is.byte a b m.0 m.1);
      after = refl;
    }

record FourFront (xs : List ℕ) (n : ℕ) (ys : List ℕ) : Type 0 where
  a : ℕ
  b : ℕ
  c : ℕ
  d : ℕ
  split : xs ≡ a ∷ b ∷ c ∷ d ∷ ys
  code : code_of a b c d ≡ Some n

four_sound : (xs : List ℕ) (n : ℕ) (ys : List ℕ) → four_front xs ≡ Some (n, ys) → FourFront xs n ys
four_sound [] n ys e = none_some e
four_sound (a ∷ []) n ys e = none_some e
four_sound (a ∷ b ∷ []) n ys e = none_some e
four_sound (a ∷ b ∷ c ∷ []) n ys e = none_some e
four_sound (a ∷ b ∷ c ∷ d ∷ cs) n ys e =
    let m = map_cases (λ k. let p : ℕ × List ℕ = (k, cs) in p) (code_of a b c d) (n, ys) e in
    record {
      a = a;
      b = b;
      c = c;
      d = d;
      split = ap (λ p. a ∷ b ∷ c ∷ d ∷ p.1) m.2;
      code = m.1 ∙ ap (λ p. Some p.0) m.2;
    }

one_unit : (xs : List ℕ) (n : ℕ) (zs : List ℕ) (x : Letter) (ys : List ℕ) → FourFront xs n zs
    → literal_front zs (scalar n) ≡ Some (x, ys) → EscapeFront (117 ∷ xs) x ys
one_unit xs n zs x ys f e =
    let m = map_cases (literal zs) (scalar n) (x, ys) e in
    record {
      cs = 117 ∷ f.a ∷ f.b ∷ f.c ∷ f.d ∷ [];
      split = ap (λ us. 117 ∷ us) f.split ∙ ap (λ p. 117 ∷ f.a ∷ f.b ∷ f.c ∷ f.d ∷ p.1) m.2;
      text = subst (LetterText (92 ∷ 117 ∷ f.a ∷ f.b ∷ f.c ∷ f.d ∷ [])) (ap (λ p. p.0) m.2)
          (is.unit f.a f.b f.c f.d n m.0 f.code m.1);
      after = refl;
    }

two_units : (xs : List ℕ) (n : ℕ) (zs : List ℕ) (x : Letter) (ys : List ℕ) → FourFront xs n zs
    → low_front n zs ≡ Some (x, ys) → EscapeFront (117 ∷ xs) x ys
two_units xs n [] x ys f e = none_some e
two_units xs n (k ∷ []) x ys f e = none_some e
two_units xs n (k ∷ l ∷ zs) x ys f e =
    elim (cond_cases ((k == 92) && (l == 117)) _ _ (x, ys) e) [
      | inl h ↦
          let both = and_parts (k == 92) (l == 117) h.0 in
          let t = then_cases (λ p. literal_front p.1 (pair_of n p.0)) (four_front zs) (x, ys) h.1 in
          let g = four_sound zs t.0.0 t.0.1 t.1 in
          let m = map_cases (literal t.0.1) (pair_of n t.0.0) (x, ys) t.2 in
          record {
            cs = 117 ∷ f.a ∷ f.b ∷ f.c ∷ f.d ∷ 92 ∷ 117 ∷ g.a ∷ g.b ∷ g.c ∷ g.d ∷ [];
            split = ap (λ us. 117 ∷ us) f.split
                ∙ (ap (λ y. 117 ∷ f.a ∷ f.b ∷ f.c ∷ f.d ∷ y ∷ l ∷ zs) (eqb-true k 92 both.0)
                ∙ (ap (λ y. 117 ∷ f.a ∷ f.b ∷ f.c ∷ f.d ∷ 92 ∷ y ∷ zs) (eqb-true l 117 both.1)
                ∙ (ap (λ us. 117 ∷ f.a ∷ f.b ∷ f.c ∷ f.d ∷ 92 ∷ 117 ∷ us) g.split
                ∙ ap (λ p. 117 ∷ f.a ∷ f.b ∷ f.c ∷ f.d ∷ 92 ∷ 117 ∷ g.a ∷ g.b ∷ g.c ∷ g.d ∷ p.1) m.2)));
            text = subst (LetterText (92 ∷ 117 ∷ f.a ∷ f.b ∷ f.c ∷ f.d ∷ 92 ∷ 117 ∷ g.a ∷ g.b ∷ g.c ∷ g.d ∷ [])) (ap (λ p. p.0) m.2)
                (is.pair f.a f.b f.c f.d g.a g.b g.c g.d n t.0.0 m.0 f.code g.code m.1);
            after = refl;
          }
      | inr h ↦ none_some h.1
    ]

half_sound : (xs : List ℕ) (n : ℕ) (zs : List ℕ) (x : Letter) (ys : List ℕ) → FourFront xs n zs
    → half_front (n, zs) ≡ Some (x, ys) → EscapeFront (117 ∷ xs) x ys
half_sound xs n zs x ys f e =
    elim (cond_cases (is_high n) _ _ (x, ys) e) [
      | inl a ↦ two_units xs n zs x ys f a.1
      | inr b ↦ one_unit xs n zs x ys f b.1
    ]

abbrev head_is : List ℕ → Bool
head_is [] = false
head_is (c ∷ cs) = c == 125

record ValueFront (k : ℕ) (xs : List ℕ) (n : ℕ) (ys : List ℕ) : Type 0 where
  ds : List ℕ
  split : xs ≡ ds ++ 125 ∷ ys
  value : value_of k ds ≡ Some n

value_sound : (xs : List ℕ) (k n : ℕ) (ys : List ℕ) → value_front k xs ≡ Some (n, ys) → ValueFront k xs n ys
value_sound [] k n ys e = none_some e
value_sound (c ∷ cs) k n ys e =
    elim (cond_cases (c == 125) _ _ (n, ys) e) [
      | inl a ↦
          let same = some_same a.1 in
          record {
            ds = [];
            split = ap (λ d. d ∷ cs) (eqb-true c 125 a.0) ∙ ap (λ p. 125 ∷ p.1) same;
            value = ap (λ p. Some p.0) same;
          }
      | inr b ↦
          let t = then_cases (λ x. cond (nat_le (16 * k + x) 1114111) (value_front (16 * k + x) cs) None) (hex_digit c) (n, ys) b.1 in
          elim (cond_cases (nat_le (16 * k + t.0) 1114111) _ _ (n, ys) t.2) [
            | inl f ↦
                let s = value_sound cs (16 * k + t.0) n ys f.1 in
                record {
                  ds = c ∷ s.ds;
                  split = ap (λ us. c ∷ us) s.split;
                  value = ap (option_and_then (λ x. value_of (16 * k + x) s.ds)) t.1 ∙ s.value;
                }
            | inr g ↦ none_some g.1
          ]
    ]

braced_sound : (xs : List ℕ) (m : ℕ) (zs : List ℕ) (x : Letter) (ys : List ℕ) → braced_front xs ≡ Some (m, zs)
    → literal_front zs (scalar m) ≡ Some (x, ys) → EscapeFront (117 ∷ 123 ∷ xs) x ys
braced_sound [] m zs x ys e f = none_some e
braced_sound (c ∷ cs) m zs x ys e f =
    elim (cond_cases (c == 125) _ _ (m, zs) e) [
      | inl a ↦ none_some a.1
      | inr b ↦ let s = value_sound (c ∷ cs) 0 m zs b.1 in by b.0 s.ds s.split s.value
    ]
  where
    by : (c == 125) ≡ false → (ds : List ℕ) → c ∷ cs ≡ ds ++ 125 ∷ zs → value_of 0 ds ≡ Some m → EscapeFront (117 ∷ 123 ∷ c ∷ cs) x ys
    by h [] split v = absurd (true≢false (sym (ap (λ us. head_is us) split) ∙ h))
    by h (d ∷ ds) split v =
        let k = map_cases (literal zs) (scalar m) (x, ys) f in
        record {
          cs = 117 ∷ 123 ∷ d ∷ (ds ++ 125 ∷ []);
          split = ap (λ us. 117 ∷ 123 ∷ us) split
              ∙ (sym (ap (λ us. 117 ∷ 123 ∷ d ∷ us) (append_assoc ds (125 ∷ []) zs))
              ∙ ap (λ p. 117 ∷ 123 ∷ d ∷ ((ds ++ 125 ∷ []) ++ p.1)) k.2);
          text = subst (LetterText (92 ∷ 117 ∷ 123 ∷ d ∷ (ds ++ 125 ∷ []))) (ap (λ p. p.0) k.2) (is.braced d ds m k.0 v k.1);
          after = refl;
        }

unit_sound : (xs : List ℕ) (x : Letter) (ys : List ℕ) → unit_front xs ≡ Some (x, ys) → EscapeFront (117 ∷ xs) x ys
unit_sound [] x ys e = none_some e
unit_sound (c ∷ cs) x ys e =
    elim (cond_cases (c == 123) _ _ (x, ys) e) [
      | inl a ↦
          let t = then_cases (λ p. literal_front p.1 (scalar p.0)) (braced_front cs) (x, ys) a.1 in
          subst (λ d. EscapeFront (117 ∷ d ∷ cs) x ys) (sym (eqb-true c 123 a.0)) (braced_sound cs t.0.0 t.0.1 x ys t.1 t.2)
      | inr b ↦
          let t = then_cases half_front (four_front (c ∷ cs)) (x, ys) b.1 in
          half_sound (c ∷ cs) t.0.0 t.0.1 x ys (four_sound (c ∷ cs) t.0.0 t.0.1 t.1) t.2
    ]

control_sound : (xs : List ℕ) (x : Letter) (ys : List ℕ) → control_front xs ≡ Some (x, ys) → EscapeFront (99 ∷ xs) x ys
control_sound [] x ys e = none_some e
control_sound (c ∷ cs) x ys e =
    let m = map_cases (literal cs) (control_of c) (x, ys) e in
    record {
      cs = 99 ∷ c ∷ [];
      split = ap (λ p. 99 ∷ c ∷ p.1) m.2;
      text = subst (LetterText (92 ∷ 99 ∷ c ∷ [])) (ap (λ p. p.0) m.2) (is.control c m.0 m.1);
      after = refl;
    }

null_sound : (xs : List ℕ) (x : Letter) (ys : List ℕ) → null_front xs ≡ Some (x, ys) → EscapeFront (48 ∷ xs) x ys
null_sound xs x ys e =
    elim (cond_cases (begins_with_digit xs) _ _ (x, ys) e) [
      | inl a ↦ none_some a.1
      | inr b ↦
          let same = some_same b.1 in
          record {
            cs = 48 ∷ [];
            split = ap (λ p. 48 ∷ p.1) same;
            text = subst (LetterText (92 ∷ 48 ∷ [])) (ap (λ p. p.0) same) is.null;
            after = ap (λ p. not (begins_with_digit p.1)) (sym same) ∙ ap not b.0;
          }
    ]

abbrev set_letter : (Set → Letter) → Set × List ℕ → Letter × List ℕ
set_letter view p = (view p.0, p.1)

property_sound : (l : ℕ) (view : Set → Letter) (xs : List ℕ) (x : Letter) (ys : List ℕ)
    → ((cs : List ℕ) (s : Set) → PropertyText cs s → LetterText (92 ∷ l ∷ 123 ∷ (cs ++ 125 ∷ [])) (view s))
    → option_map (set_letter view) (property_front xs) ≡ Some (x, ys) → EscapeFront (l ∷ xs) x ys
property_sound l view xs x ys make e =
    let m = map_cases (set_letter view) (property_front xs) (x, ys) e in
    let f = property_found xs m.0.0 m.0.1 m.1 in
    record {
      cs = l ∷ 123 ∷ (f.cs ++ 125 ∷ []);
      split = ap (λ us. l ∷ us) f.split ∙ ap (λ p. l ∷ 123 ∷ ((f.cs ++ 125 ∷ []) ++ p.1)) m.2;
      text = subst (LetterText (92 ∷ l ∷ 123 ∷ (f.cs ++ 125 ∷ []))) (ap (λ p. p.0) m.2) (make f.cs m.0.0 f.text);
      after = refl;
    }

escape_sound : (xs : List ℕ) (x : Letter) (ys : List ℕ) → escape_front xs ≡ Some (x, ys) → EscapeFront xs x ys
escape_sound [] x ys e = none_some e
escape_sound (l ∷ cs) x ys e =
    elim (cond_cases (l == 120) _ _ (x, ys) e) [
      | inl a ↦ subst (λ k. EscapeFront (k ∷ cs) x ys) (sym (eqb-true l 120 a.0)) (byte_sound cs x ys a.1)
      | inr b ↦ elim (cond_cases (l == 117) _ _ (x, ys) b.1) [
        | inl a ↦ subst (λ k. EscapeFront (k ∷ cs) x ys) (sym (eqb-true l 117 a.0)) (unit_sound cs x ys a.1)
        | inr n ↦ elim (cond_cases (l == 99) _ _ (x, ys) n.1) [
          | inl a ↦ subst (λ k. EscapeFront (k ∷ cs) x ys) (sym (eqb-true l 99 a.0)) (control_sound cs x ys a.1)
          | inr o ↦ elim (cond_cases (l == 48) _ _ (x, ys) o.1) [
            | inl a ↦ subst (λ k. EscapeFront (k ∷ cs) x ys) (sym (eqb-true l 48 a.0)) (null_sound cs x ys a.1)
            | inr z ↦ elim (cond_cases (l == 112) _ _ (x, ys) z.1) [
              | inl a ↦ subst (λ k. EscapeFront (k ∷ cs) x ys) (sym (eqb-true l 112 a.0)) (property_sound 112 Named cs x ys is.property a.1)
              | inr p ↦ elim (cond_cases (l == 80) _ _ (x, ys) p.1) [
                | inl a ↦
                    subst (λ k. EscapeFront (k ∷ cs) x ys) (sym (eqb-true l 80 a.0))
                    (property_sound 80 (λ s. Named (others s)) cs x ys is.no_property a.1)
                | inr q ↦
                    let m = map_cases (λ y. let p : Letter × List ℕ = (y, cs) in p) (named_letter l) (x, ys) q.1 in
                    record {
                      cs = l ∷ [];
                      split = ap (λ p. l ∷ p.1) m.2;
                      text = subst (LetterText (92 ∷ l ∷ [])) (ap (λ p. p.0) m.2) (is.named l m.0 m.1);
                      after = ap (λ b. not (b && begins_with_digit ys)) z.0;
                    }
              ]
            ]
          ]
        ]
      ]
    ]

pub letter_sound : (xs : List ℕ) (x : Letter) (ys : List ℕ) → letter_front xs ≡ Some (x, ys) → LetterFront xs x ys
letter_sound [] x ys e = none_some e
letter_sound (c ∷ cs) x ys e =
    elim (cond_cases (c == 92) _ _ (x, ys) e) [
      | inl a ↦
          let s = escape_sound cs x ys a.1 in
          record {
            cs = 92 ∷ s.cs;
            split = ap (λ y. y ∷ cs) (eqb-true c 92 a.0) ∙ ap (λ zs. 92 ∷ zs) s.split;
            text = s.text;
            after = s.after;
          }
      | inr b ↦
          let same = some_same b.1 in
          record {
            cs = c ∷ [];
            split = ap (λ p. c ∷ p.1) same;
            text = subst (LetterText (c ∷ [])) (ap (λ p. p.0) same) (is.plain c b.0);
            after = refl;
          }
    ]

named_not : (c k : ℕ) (x : Letter) → named_letter k ≡ None → named_letter c ≡ Some x → (c == k) ≡ false
named_not c k x n h = by (c == k) refl
  where
    by : (b : Bool) → (c == k) ≡ b → b ≡ false
    by true e = none_some (sym n ∙ (ap named_letter (sym (eqb-true c k e)) ∙ h))
    by false e = refl

-- a greater value comes of more digits
value_grows : (ds : List ℕ) (k n : ℕ) → value_of k ds ≡ Some n → k ≤ n
value_grows [] k n e = let same : k ≡ n = some_same e in omega arith
value_grows (d ∷ ds) k n e =
    let t = then_cases (λ x. value_of (16 * k + x) ds) (hex_digit d) n e in
    let more = value_grows ds (16 * k + t.0) n t.2 in
    omega arith

no_brace : (c x : ℕ) → hex_digit c ≡ Some x → (c == 125) ≡ false
no_brace c x h = by (c == 125) refl
  where
    by : (b : Bool) → (c == 125) ≡ b → b ≡ false
    by true e = none_some (ap hex_digit (sym (eqb-true c 125 e)) ∙ h)
    by false e = refl

value_complete : (ds : List ℕ) (k n : ℕ) (ys : List ℕ) → value_of k ds ≡ Some n → n ≤ 1114111
    → value_front k (ds ++ 125 ∷ ys) ≡ Some (n, ys)
value_complete [] k n ys e l = ap (λ m. let o : Option (ℕ × List ℕ) = Some (m, ys) in o) (some_same e)
value_complete (d ∷ ds) k n ys e l =
    let t = then_cases (λ x. value_of (16 * k + x) ds) (hex_digit d) n e in
    let more = value_grows ds (16 * k + t.0) n t.2 in
    let small : nat_le (16 * k + t.0) 1114111 ≡ true = le-leb (16 * k + t.0) 1114111 (omega arith) in
    cond-false (d == 125) _ _ (no_brace d t.0 t.1)
    ∙ (ap (option_and_then (λ x. cond (nat_le (16 * k + x) 1114111) (value_front (16 * k + x) (ds ++ 125 ∷ ys)) None)) t.1
    ∙ (cond-true (nat_le (16 * k + t.0) 1114111) _ _ small ∙ value_complete ds (16 * k + t.0) n ys t.2 l))

-- a character is no half of a pair, and its code no greater than the last
scalar_parts : (m n : ℕ) → scalar m ≡ Some n → (is_high m ≡ false) × (m ≤ 1114111)
scalar_parts m n e = by (is_surrogate m) (nat_le m 1114111) refl refl e
  where
    high : (b : Bool) → is_high m ≡ b → is_surrogate m ≡ false → b ≡ false
    high true h s =
        let both = and_parts (nat_le 55296 m) (nat_le m 56319) h in
        let low = leb-true m 56319 both.1 in
        let whole : is_surrogate m ≡ true = ap (λ b. b && nat_le m 57343) both.0 ∙ le-leb m 57343 (omega arith) in
        absurd (true≢false (sym whole ∙ s))
    high false h s = refl

    by : (s l : Bool) → is_surrogate m ≡ s → nat_le m 1114111 ≡ l → ◌≡◌ {A = Option ℕ} (cond (s || not l) None (Some m)) (Some n)
        → (is_high m ≡ false) × (m ≤ 1114111)
    by true l f g e = none_some e
    by false true f g e = (high (is_high m) refl f, leb-true m 1114111 g)
    by false false f g e = none_some e

-- the value of four digits, the first of which has the value o
abbrev code_by : Option ℕ → ℕ → ℕ → ℕ → Option ℕ
code_by o b c d =
    option_and_then (λ x. option_map (λ y. 256 * x + y) (byte_of c d)) (option_and_then (λ x. option_map (λ y. 16 * x + y) (hex_digit b)) o)

no_digit : (a b c d m x : ℕ) → hex_digit x ≡ None → code_of a b c d ≡ Some m → (a == x) ≡ false
no_digit a b c d m x n h = by (a == x) refl
  where
    by : (t : Bool) → (a == x) ≡ t → t ≡ false
    by true e =
        let same : hex_digit a ≡ None = ap hex_digit (eqb-true a x e) ∙ n in
        none_some (sym (ap (λ o. code_by o b c d) same) ∙ h)
    by false e = refl

code_complete : (a b c d m : ℕ) (ys : List ℕ) → code_of a b c d ≡ Some m → unit_front (a ∷ b ∷ c ∷ d ∷ ys) ≡ half_front (m, ys)
code_complete a b c d m ys h =
    cond-false (a == 123) _ _ (no_digit a b c d m 123 refl h)
    ∙ ap (λ o. option_and_then half_front (option_map (λ k. let p : ℕ × List ℕ = (k, ys) in p) o)) h

pair_parts : (m n k : ℕ) → pair_of m n ≡ Some k → is_high m ≡ true
pair_parts m n k e =
    elim (cond_cases (is_high m && is_low n) _ _ k e) [
      | inl a ↦ (and_parts (is_high m) (is_low n) a.0).0
      | inr b ↦ none_some b.1
    ]

pub letter_complete : (cs : List ℕ) (x : Letter) → LetterText cs x → (ys : List ℕ) → follows cs ys ≡ true
    → letter_front (cs ++ ys) ≡ Some (x, ys)
letter_complete cs x (is.plain c h) ys f = cond-false (c == 92) _ _ h
letter_complete cs x (is.named c y h) ys f =
    cond-false (c == 120) _ _ (named_not c 120 y refl h)
    ∙ (cond-false (c == 117) _ _ (named_not c 117 y refl h)
    ∙ (cond-false (c == 99) _ _ (named_not c 99 y refl h)
    ∙ (cond-false (c == 48) _ _ (named_not c 48 y refl h)
    ∙ (cond-false (c == 112) _ _ (named_not c 112 y refl h)
    ∙ (cond-false (c == 80) _ _ (named_not c 80 y refl h) ∙ ap (option_map (λ z. let p : Letter × List ℕ = (z, ys) in p)) h)))))
letter_complete cs x is.null ys f = cond-false (begins_with_digit ys) _ _ (not-true (begins_with_digit ys) f)
letter_complete cs x (is.control c n h) ys f = ap (literal_front ys) h
letter_complete cs x (is.byte a b n h) ys f = ap (literal_front ys) h
letter_complete cs x (is.unit a b c d m n h k) ys f =
    code_complete a b c d m ys h ∙ (cond-false (is_high m) _ _ (scalar_parts m n k).0 ∙ ap (literal_front ys) k)
letter_complete cs x (is.pair a b c d e f g h k m n i j l) ys after =
    code_complete a b c d k (92 ∷ 117 ∷ e ∷ f ∷ g ∷ h ∷ ys) i
    ∙ (cond-true (is_high k) _ _ (pair_parts k m n l)
    ∙ (ap (λ o. option_and_then (λ p. literal_front p.1 (pair_of k p.0)) (option_map (λ u. let p : ℕ × List ℕ = (u, ys) in p) o)) j
    ∙ ap (literal_front ys) l))
letter_complete cs x (is.braced d ds m n h k) ys f =
    let t = then_cases (λ y. value_of (16 * 0 + y) ds) (hex_digit d) m h in
    ap (λ us. option_and_then (λ p. literal_front p.1 (scalar p.0)) (braced_front (d ∷ us))) (append_assoc ds (125 ∷ []) ys)
    ∙ (ap (option_and_then (λ p. literal_front p.1 (scalar p.0)))
    (cond-false (d == 125) _ _ (no_brace d t.0 t.1) ∙ value_complete (d ∷ ds) 0 m ys h (scalar_parts m n k).1)
    ∙ ap (literal_front ys) k)
letter_complete cs x (is.property ns s t) ys f = ap (option_map (set_letter Named)) (property_read ns s ys t)
letter_complete cs x (is.no_property ns s t) ys f = ap (option_map (set_letter (λ z. Named (others z)))) (property_read ns s ys t)

letter_some : (cs : List ℕ) (x : Letter) → LetterText cs x → 0 < length cs
letter_some cs x (is.plain c h) = omega arith
letter_some cs x (is.named c y h) = omega arith
letter_some cs x is.null = omega arith
letter_some cs x (is.control c n h) = omega arith
letter_some cs x (is.byte a b n h) = omega arith
letter_some cs x (is.unit a b c d m n h k) = omega arith
letter_some cs x (is.pair a b c d e f g h k m n i j l) = omega arith
letter_some cs x (is.braced d ds m n h k) = omega arith
letter_some cs x (is.property ns s t) = omega arith
letter_some cs x (is.no_property ns s t) = omega arith

pub letter_shorter : (xs : List ℕ) (x : Letter) (ys : List ℕ) → letter_front xs ≡ Some (x, ys) → length ys < length xs
letter_shorter xs x ys e =
    let f = letter_sound xs x ys e in
    let some = letter_some f.cs x f.text in
    let len : length xs ≡ length (f.cs ++ ys) = ap length f.split in
    let sum = length-append f.cs ys in
    omega arith

-- ---- classes

abbrev AllSome : {A : Type 0} → (A → Type 0) → Option A → Type 0
AllSome {A} P o = (x : A) → o ≡ Some x → P x

all_cond : {A : Type 0} (P : A → Type 0) (b : Bool) (o p : Option A) → AllSome P o → AllSome P p → AllSome P (cond b o p)
all_cond P true o p h k = h
all_cond P false o p h k = k

all_some : {A : Type 0} (P : A → Type 0) (x : A) → P x → AllSome P (Some x)
all_some P x h y e = subst P (some_same e) h

all_none : {A : Type 0} (P : A → Type 0) → AllSome P None
all_none P x e = none_some e

abbrev Opens : Letter → Type 0
Opens x = ends_class x ≡ false

named_opens : (c : ℕ) → AllSome Opens (named_letter c)
named_opens c =
    all_cond Opens (c == 100) _ _ (all_some Opens _ refl) (all_cond Opens (c == 68) _ _ (all_some Opens _ refl)
    (all_cond Opens (c == 119) _ _ (all_some Opens _ refl) (all_cond Opens (c == 87) _ _ (all_some Opens _ refl)
    (all_cond Opens (c == 115) _ _ (all_some Opens _ refl) (all_cond Opens (c == 83) _ _ (all_some Opens _ refl)
    (all_cond Opens (c == 116) _ _ (all_some Opens _ refl) (all_cond Opens (c == 110) _ _ (all_some Opens _ refl)
    (all_cond Opens (c == 118) _ _ (all_some Opens _ refl) (all_cond Opens (c == 102) _ _ (all_some Opens _ refl)
    (all_cond Opens (c == 114) _ _ (all_some Opens _ refl)
    (all_cond Opens (is.is_sign c) _ _ (all_some Opens _ refl) (all_none Opens))))))))))))

closing : (cs : List ℕ) (x : Letter) → LetterText cs x → ends_class x ≡ true → cs ≡ 93 ∷ []
closing cs x (is.plain c h) e = ap (λ d. d ∷ []) (eqb-true c 93 e)
closing cs x (is.named c y h) e = absurd (true≢false (sym e ∙ named_opens c y h))
closing cs x is.null e = absurd (true≢false (sym e))
closing cs x (is.control c n h) e = absurd (true≢false (sym e))
closing cs x (is.byte a b n h) e = absurd (true≢false (sym e))
closing cs x (is.unit a b c d m n h k) e = absurd (true≢false (sym e))
closing cs x (is.pair a b c d f g h i k m n j l o) e = absurd (true≢false (sym e))
closing cs x (is.braced d ds m n h k) e = absurd (true≢false (sym e))
closing cs x (is.property ns s t) e = absurd (true≢false (sym e))
closing cs x (is.no_property ns s t) e = absurd (true≢false (sym e))

-- what follows a letter of a class may be its end, which is no digit
follows_closed : (cs ds ys : List ℕ) → follows cs (ds ++ 93 ∷ ys) ≡ follows cs ds
follows_closed cs [] ys = refl
follows_closed cs (d ∷ ds) ys = refl

record LettersFront (xs : List Letter) (cs : List ℕ) (zs : List Letter) (ys : List ℕ) : Type 0 where
  ds : List ℕ
  us : List Letter
  split : cs ≡ ds ++ 93 ∷ ys
  text : LettersText ds us
  whole : zs ≡ xs ++ us

letters_sound : (n : ℕ) (xs : List Letter) (cs : List ℕ) (zs : List Letter) (ys : List ℕ) → letters_front n xs cs ≡ Some (zs, ys)
    → LettersFront xs cs zs ys
letters_sound zero xs cs zs ys e = none_some e
letters_sound (suc n) xs cs zs ys e =
    let t = then_cases (letters_step (letters_front n) xs) (letter_front cs) (zs, ys) e in
    let s = letter_sound cs t.0.0 t.0.1 t.1 in
    elim (cond_cases (ends_class t.0.0) _ _ (zs, ys) t.2) [
      | inl a ↦
          let same = some_same a.1 in
          record {
            ds = [];
            us = [];
            split = s.split ∙ (ap (λ ks. ks ++ t.0.1) (closing s.cs t.0.0 s.text a.0) ∙ ap (λ p. 93 ∷ p.1) same);
            text = is.none;
            whole = sym (ap (λ p. p.0) same) ∙ sym (append-nil xs);
          }
      | inr b ↦
          let h = letters_sound n (xs ++ t.0.0 ∷ []) t.0.1 zs ys b.1 in
          record {
            ds = s.cs ++ h.ds;
            us = t.0.0 ∷ h.us;
            split = s.split ∙ (ap (λ ks. s.cs ++ ks) h.split ∙ sym (append_assoc s.cs h.ds (93 ∷ ys)));
            text = is.more s.text b.0 (sym (follows_closed s.cs h.ds ys) ∙ (ap (follows s.cs) (sym h.split) ∙ s.after)) h.text;
            whole = h.whole ∙ append_assoc xs (t.0.0 ∷ []) h.us;
          }
    ]

letters_complete : (ds : List ℕ) (us : List Letter) → LettersText ds us → (n : ℕ) (xs : List Letter) (ys : List ℕ)
    → length (ds ++ 93 ∷ ys) < n → letters_front n xs (ds ++ 93 ∷ ys) ≡ Some (xs ++ us, ys)
letters_complete ds us is.none zero xs ys l = absurd (omega arith)
letters_complete ds us is.none (suc n) xs ys l =
    ap (λ vs. let o : Option (List Letter × List ℕ) = Some (vs, ys) in o) (sym (append-nil xs))
letters_complete ds us (is.more t c f k) zero xs ys l = absurd (omega arith)
letters_complete ds us (is.more {cs = hs} {ds = ks} {x = x} {xs = vs} t c f k) (suc n) xs ys l =
    let some = letter_some hs x t in
    let same : (hs ++ ks) ++ 93 ∷ ys ≡ hs ++ (ks ++ 93 ∷ ys) = append_assoc hs ks (93 ∷ ys) in
    let len : length ((hs ++ ks) ++ 93 ∷ ys) ≡ length (hs ++ (ks ++ 93 ∷ ys)) = ap length same in
    let sum = length-append hs (ks ++ 93 ∷ ys) in
    ap (letters_front (suc n) xs) same
    ∙ (ap (option_and_then (letters_step (letters_front n) xs)) (letter_complete hs x t (ks ++ 93 ∷ ys) (follows_closed hs ks ys ∙ f))
    ∙ (cond-false (ends_class x) _ _ c
    ∙ (letters_complete ks vs k n (xs ++ x ∷ []) ys (omega arith)
    ∙ ap (λ ws. let o : Option (List Letter × List ℕ) = Some (ws, ys) in o) (append_assoc xs (x ∷ []) vs))))

caret_complete : (hs : List ℕ) (negated : Bool) (cs ys : List ℕ) → CaretText hs negated
    → (negated ≡ false → begins_with_caret cs ≡ false)
    → caret_front (hs ++ (cs ++ 93 ∷ ys)) ≡ (negated, cs ++ 93 ∷ ys)
caret_complete hs negated [] ys regexp.none f = refl
caret_complete hs negated (c ∷ cs) ys regexp.none f = cond-false (c == 94) _ _ (f refl)
caret_complete hs negated cs ys regexp.caret f = refl

class_complete : (hs : List ℕ) (negated : Bool) (cs : List ℕ) (xs : List Letter) (is : List Item) (ys : List ℕ) → CaretText hs negated
    → LettersText cs xs → (negated ≡ false → begins_with_caret cs ≡ false) → class_items xs ≡ Some is
    → class_front (hs ++ (cs ++ 93 ∷ ys)) ≡ Some (characters negated is, ys)
class_complete hs negated cs xs is ys h t f e =
    ap class_from (caret_complete hs negated cs ys h f)
    ∙ (ap (option_and_then (class_of negated)) (letters_complete cs xs t (suc (length (cs ++ 93 ∷ ys))) [] ys (omega arith))
    ∙ ap (option_map (λ js. let p : Token × List ℕ = (characters negated js, ys) in p)) e)

record ClassFront (negated : Bool) (xs : List ℕ) (t : Token) (ys : List ℕ) : Type 0 where
  cs : List ℕ
  us : List Letter
  is : List Item
  split : xs ≡ cs ++ 93 ∷ ys
  text : LettersText cs us
  items : class_items us ≡ Some is
  token : t ≡ characters negated is

letters_class : (negated : Bool) (xs : List ℕ) (t : Token) (ys : List ℕ) → class_from (negated, xs) ≡ Some (t, ys)
    → ClassFront negated xs t ys
letters_class negated xs t ys e =
    let k = then_cases (class_of negated) (letters_front (suc (length xs)) [] xs) (t, ys) e in
    let s = letters_sound (suc (length xs)) [] xs k.0.0 k.0.1 k.1 in
    let m = map_cases (λ js. let p : Token × List ℕ = (characters negated js, k.0.1) in p) (class_items k.0.0) (t, ys) k.2 in
    record {
      cs = s.ds;
      us = s.us;
      is = m.0;
      split = s.split ∙ ap (λ p. s.ds ++ 93 ∷ p.1) m.2;
      text = s.text;
      items = ap class_items (sym s.whole) ∙ m.1;
      token = sym (ap (λ p. p.0) m.2);
    }

-- ---- every mark

pub record MarkFront (xs : List ℕ) (m : Mark) (ys : List ℕ) : Type 0 where
  pub cs : List ℕ
  pub split : xs ≡ cs ++ ys
  pub spelled : Spells cs m
  pub fit : IsFitMark m
  pub after : follows cs ys ≡ true

other_follows : (c : ℕ) (cs ys : List ℕ) → (c == 92) ≡ false → follows (c ∷ cs) ys ≡ true
other_follows c [] ys h = refl
other_follows c (d ∷ []) ys h = ap (λ b. not ((b && (d == 48)) && begins_with_digit ys)) h
other_follows c (d ∷ e ∷ cs) ys h = refl

sign : (c k : ℕ) (u m : Mark) (cs ys : List ℕ) → (c == k) ≡ true → ◌≡◌ {A = Option (Mark × List ℕ)} (Some (u, cs)) (Some (m, ys))
    → Spells (k ∷ []) u → IsFitMark u → MarkFront (c ∷ cs) m ys
sign c k u m cs ys h e s f =
    let same = some_same e in
    record {
      cs = k ∷ [];
      split = ap (λ y. y ∷ cs) (eqb-true c k h) ∙ ap (λ p. k ∷ p.1) same;
      spelled = subst (Spells (k ∷ [])) (ap (λ p. p.0) same) s;
      fit = subst IsFitMark (ap (λ p. p.0) same) f;
      after = refl;
    }

regroup_class : (hs cs ys : List ℕ) → 91 ∷ (hs ++ (cs ++ 93 ∷ ys)) ≡ (91 ∷ (hs ++ (cs ++ 93 ∷ []))) ++ ys
regroup_class hs cs ys = simp append_assoc

bracket_front : (negated : Bool) (hs xs : List ℕ) (t : Token) (ys : List ℕ) (m : Mark) (zs : List ℕ) → CaretText hs negated
    → ((cs ks : List ℕ) → xs ≡ cs ++ 93 ∷ ks → negated ≡ false → begins_with_caret cs ≡ false)
    → class_from (negated, xs) ≡ Some (t, ys) → ◌≡◌ {A = Mark × List ℕ} (token t, ys) (m, zs) → MarkFront (91 ∷ (hs ++ xs)) m zs
bracket_front negated hs xs t ys m zs h first e same =
    let k = letters_class negated xs t ys e in
    let whole : token (characters negated k.is) ≡ m = ap token (sym k.token) ∙ ap (λ p. p.0) same in
    record {
      cs = 91 ∷ (hs ++ (k.cs ++ 93 ∷ []));
      split = ap (λ us. 91 ∷ (hs ++ us)) k.split ∙ (regroup_class hs k.cs ys ∙ ap (λ p. (91 ∷ (hs ++ (k.cs ++ 93 ∷ []))) ++ p.1) same);
      spelled = subst (Spells (91 ∷ (hs ++ (k.cs ++ 93 ∷ [])))) whole (is.bracket h k.text (first k.cs ys k.split) k.items);
      fit = subst IsFitMark whole tt;
      after = other_follows 91 (hs ++ (k.cs ++ 93 ∷ [])) zs refl;
    }

no_caret_in : (c : ℕ) (xs cs ks : List ℕ) → (c == 94) ≡ false → c ∷ xs ≡ cs ++ 93 ∷ ks → begins_with_caret cs ≡ false
no_caret_in c xs cs ks h e = no_caret cs (93 ∷ ks) xs c e h

class_sound : (xs : List ℕ) (m : Mark) (zs : List ℕ) → option_map token_mark (class_front xs) ≡ Some (m, zs) → MarkFront (91 ∷ xs) m zs
class_sound [] m zs e =
    let k = map_cases token_mark (class_from (false, [])) (m, zs) e in
    bracket_front false [] [] k.0.0 k.0.1 m zs regexp.none (λ cs ks s f. nothing cs ks s) k.1 k.2
  where
    nothing : (cs ks : List ℕ) → [] ≡ cs ++ 93 ∷ ks → begins_with_caret cs ≡ false
    nothing [] ks s = refl
    nothing (c ∷ cs) ks s = let len : 0 ≡ length ((c ∷ cs) ++ 93 ∷ ks) = ap length s in absurd (omega arith)
class_sound (c ∷ xs) m zs e = by (c == 94) refl e
  where
    by : (b : Bool) → (c == 94) ≡ b → option_map token_mark (class_from (cond b (true, xs) (false, c ∷ xs))) ≡ Some (m, zs)
        → MarkFront (91 ∷ c ∷ xs) m zs
    by true h e =
        let k = map_cases token_mark (class_from (true, xs)) (m, zs) e in
        subst (λ d. MarkFront (91 ∷ d ∷ xs) m zs) (sym (eqb-true c 94 h))
        (bracket_front true (94 ∷ []) xs k.0.0 k.0.1 m zs regexp.caret (λ cs ks s f. absurd (true≢false f)) k.1 k.2)
    by false h e =
        let k = map_cases token_mark (class_from (false, c ∷ xs)) (m, zs) e in
        bracket_front false [] (c ∷ xs) k.0.0 k.0.1 m zs regexp.none (λ cs ks s f. no_caret_in c xs cs ks h s) k.1 k.2

opened_sound : (cs : List ℕ) (m : Mark) (ys : List ℕ) → opening cs ≡ Some (m, ys) → MarkFront (40 ∷ cs) m ys
opened_sound [] m ys e = sign 40 40 (token opened) m [] ys refl e is.opens tt
opened_sound (c ∷ []) m ys e = sign 40 40 (token opened) m (c ∷ []) ys refl e is.opens tt
opened_sound (c ∷ d ∷ cs) m ys e = by (c == 63) refl e
  where
    one : (x : ℕ) (u : Mark) → (c == 63) ≡ true → (d == x) ≡ true → ◌≡◌ {A = Option (Mark × List ℕ)} (Some (u, cs)) (Some (m, ys))
        → Spells (40 ∷ 63 ∷ x ∷ []) u → IsFitMark u → MarkFront (40 ∷ c ∷ d ∷ cs) m ys
    one x u h k e s t =
        let same = some_same e in
        record {
          cs = 40 ∷ 63 ∷ x ∷ [];
          split = ap (λ y. 40 ∷ y ∷ d ∷ cs) (eqb-true c 63 h)
              ∙ (ap (λ y. 40 ∷ 63 ∷ y ∷ cs) (eqb-true d x k) ∙ ap (λ p. 40 ∷ 63 ∷ x ∷ p.1) same);
          spelled = subst (Spells (40 ∷ 63 ∷ x ∷ [])) (ap (λ p. p.0) same) s;
          fit = subst IsFitMark (ap (λ p. p.0) same) t;
          after = refl;
        }

    by : (b : Bool) → (c == 63) ≡ b → cond b (special d cs) (Some (token opened, c ∷ d ∷ cs)) ≡ Some (m, ys)
        → MarkFront (40 ∷ c ∷ d ∷ cs) m ys
    by true h e =
        elim (cond_cases (d == 58) _ _ (m, ys) e) [
          | inl a ↦ one 58 (token opened) h a.0 a.1 is.opens_silently tt
          | inr e1 ↦ elim (cond_cases (d == 61) _ _ (m, ys) e1.1) [
            | inl a ↦ one 61 (look false) h a.0 a.1 is.looks tt
            | inr e2 ↦ elim (cond_cases (d == 33) _ _ (m, ys) e2.1) [
              | inl a ↦ one 33 (look true) h a.0 a.1 is.looks_not tt
              | inr e3 ↦ none_some e3.1
            ]
          ]
        ]
    by false h e = sign 40 40 (token opened) m (c ∷ d ∷ cs) ys refl e is.opens tt

quantifier_follows : (cs : List ℕ) (t : Token) (least : ℕ) (most : Option ℕ) → regexp.Spells cs t → t ≡ quantifier least most
    → (zs ys : List ℕ) → follows (cs ++ zs) ys ≡ true
quantifier_follows cs t least most regexp.opens e zs ys = cc
quantifier_follows cs t least most regexp.closes e zs ys = cc
quantifier_follows cs t least most regexp.parts e zs ys = cc
quantifier_follows cs t least most (regexp.normal c h) e zs ys = cc
quantifier_follows cs t least most regexp.dot e zs ys = cc
quantifier_follows cs t least most (regexp.escaped l c h) e zs ys = cc
quantifier_follows cs t least most (regexp.category c) e zs ys = cc
quantifier_follows cs t least most (regexp.bracket a b c d f) e zs ys = cc
quantifier_follows cs t least most regexp.star e zs ys = other_follows 42 zs ys refl
quantifier_follows cs t least most regexp.plus e zs ys = other_follows 43 zs ys refl
quantifier_follows cs t least most regexp.question e zs ys = other_follows 63 zs ys refl
quantifier_follows cs t least most (regexp.exactly c ds h k) e zs ys =
    other_follows 123 ((c ∷ (ds ++ 125 ∷ [])) ++ zs) ys refl
quantifier_follows cs t least most (regexp.at_least c ds h k) e zs ys =
    other_follows 123 ((c ∷ (ds ++ 44 ∷ 125 ∷ [])) ++ zs) ys refl
quantifier_follows cs t least most (regexp.between c cs' d ds h k l m n) e zs ys =
    other_follows 123 ((c ∷ (cs' ++ 44 ∷ d ∷ (ds ++ 125 ∷ []))) ++ zs) ys refl

greedy_follows : (cs : List ℕ) (least : ℕ) (most : Option ℕ) → regexp.Spells cs (quantifier least most) → (ys : List ℕ)
    → follows cs ys ≡ true
greedy_follows cs least most s ys =
    ap (λ us. follows us ys) (sym (append-nil cs)) ∙ quantifier_follows cs (quantifier least most) least most s refl [] ys

quantifier_sound : (xs : List ℕ) (least : ℕ) (most : Option ℕ) (cs zs : List ℕ) (m : Mark) (ys : List ℕ) → xs ≡ cs ++ zs
    → regexp.Spells cs (quantifier least most) → IsFit (quantifier least most)
    → ◌≡◌ {A = Option (Mark × List ℕ)} (Some (token (quantifier least most), eager zs)) (Some (m, ys)) → MarkFront xs m ys
quantifier_sound xs least most cs [] m ys split s f e =
    let same = some_same e in
    record {
      cs = cs;
      split = split ∙ ap (λ p. cs ++ p.1) same;
      spelled = subst (Spells cs) (ap (λ p. p.0) same) (is.greedy s);
      fit = subst IsFitMark (ap (λ p. p.0) same) f;
      after = greedy_follows cs least most s ys;
    }
quantifier_sound xs least most cs (d ∷ zs) m ys split s f e = by (d == 63) refl e
  where
    by : (b : Bool) → (d == 63) ≡ b
        → ◌≡◌ {A = Option (Mark × List ℕ)} (Some (token (quantifier least most), cond b zs (d ∷ zs))) (Some (m, ys)) → MarkFront xs m ys
    by true h e =
        let same = some_same e in
        record {
          cs = cs ++ 63 ∷ [];
          split = split ∙ (ap (λ x. cs ++ x ∷ zs) (eqb-true d 63 h)
              ∙ (sym (append_assoc cs (63 ∷ []) zs) ∙ ap (λ p. (cs ++ 63 ∷ []) ++ p.1) same));
          spelled = subst (Spells (cs ++ 63 ∷ [])) (ap (λ p. p.0) same) (is.lazy s);
          fit = subst IsFitMark (ap (λ p. p.0) same) f;
          after = quantifier_follows cs (quantifier least most) least most s refl (63 ∷ []) ys;
        }
    by false h e =
        let same = some_same e in
        record {
          cs = cs;
          split = split ∙ ap (λ p. cs ++ p.1) same;
          spelled = subst (Spells cs) (ap (λ p. p.0) same) (is.greedy s);
          fit = subst IsFitMark (ap (λ p. p.0) same) f;
          after = greedy_follows cs least most s ys;
        }

repeat_sound : (xs : List ℕ) (m : Mark) (ys : List ℕ) → option_and_then repeat_front (token_front xs) ≡ Some (m, ys) → MarkFront xs m ys
repeat_sound xs m ys e =
    let t = then_cases repeat_front (token_front xs) (m, ys) e in
    let f = front_sound xs t.0.0 t.0.1 t.1 in
    by t.0.0 t.0.1 f.cs f.split f.spelled f.fit t.2
  where
    by : (t : Token) (zs cs : List ℕ) → xs ≡ cs ++ zs → regexp.Spells cs t → IsFit t → repeat_front (t, zs) ≡ Some (m, ys)
        → MarkFront xs m ys
    by (characters negated js) zs cs split s f e = none_some e
    by opened zs cs split s f e = none_some e
    by closed zs cs split s f e = none_some e
    by bar zs cs split s f e = none_some e
    by (asserted kind) zs cs split s f e = none_some e
    by (quantifier least most) zs cs split s f e = quantifier_sound xs least most cs zs m ys split s f e

escaped_sound : (cs : List ℕ) (m : Mark) (ys : List ℕ) → option_map letter_mark (escape_front cs) ≡ Some (m, ys) → MarkFront (92 ∷ cs) m ys
escaped_sound cs m ys e =
    let k = map_cases letter_mark (escape_front cs) (m, ys) e in
    let s = escape_sound cs k.0.0 k.0.1 k.1 in
    record {
      cs = 92 ∷ s.cs;
      split = ap (λ zs. 92 ∷ zs) s.split ∙ ap (λ p. 92 ∷ (s.cs ++ p.1)) k.2;
      spelled = subst (Spells (92 ∷ s.cs)) (ap (λ p. p.0) k.2) (is.escape s.text);
      fit = subst IsFitMark (ap (λ p. p.0) k.2) tt;
      after = subst (λ us. follows (92 ∷ s.cs) us ≡ true) (ap (λ p. p.1) k.2) s.after;
    }

-- a sign behind a backslash that makes an assertion
asserted_sound : (l k : ℕ) (u m : Mark) (cs ys : List ℕ) → (l == k) ≡ true
    → ◌≡◌ {A = Option (Mark × List ℕ)} (Some (u, cs)) (Some (m, ys)) → Spells (92 ∷ k ∷ []) u → IsFitMark u
    → follows (92 ∷ k ∷ []) ys ≡ true → MarkFront (92 ∷ l ∷ cs) m ys
asserted_sound l k u m cs ys h e s f after =
    let same = some_same e in
    record {
      cs = 92 ∷ k ∷ [];
      split = ap (λ y. 92 ∷ y ∷ cs) (eqb-true l k h) ∙ ap (λ p. 92 ∷ k ∷ p.1) same;
      spelled = subst (Spells (92 ∷ k ∷ [])) (ap (λ p. p.0) same) s;
      fit = subst IsFitMark (ap (λ p. p.0) same) f;
      after = after;
    }

escape_mark_sound : (cs : List ℕ) (m : Mark) (ys : List ℕ) → escape_mark cs ≡ Some (m, ys) → MarkFront (92 ∷ cs) m ys
escape_mark_sound [] m ys e = none_some e
escape_mark_sound (l ∷ cs) m ys e =
    elim (cond_cases (l == 98) _ _ (m, ys) e) [
      | inl a ↦ asserted_sound l 98 (token (asserted WordBoundary)) m cs ys a.0 a.1 is.boundary tt refl
      | inr b ↦ elim (cond_cases (l == 66) _ _ (m, ys) b.1) [
        | inl a ↦ asserted_sound l 66 (token (asserted NotWordBoundary)) m cs ys a.0 a.1 is.no_boundary tt refl
        | inr n ↦ escaped_sound (l ∷ cs) m ys n.1
      ]
    ]

normal_sound : (c : ℕ) (cs : List ℕ) (m : Mark) (ys : List ℕ) → is_normal c ≡ true
    → ◌≡◌ {A = Option (Mark × List ℕ)} (Some (token (one c), cs)) (Some (m, ys)) → MarkFront (c ∷ cs) m ys
normal_sound c cs m ys h e =
    let same = some_same e in
    record {
      cs = c ∷ [];
      split = ap (λ p. c ∷ p.1) same;
      spelled = subst (Spells (c ∷ [])) (ap (λ p. p.0) same) (is.normal c h);
      fit = subst IsFitMark (ap (λ p. p.0) same) tt;
      after = refl;
    }

at : (c k : ℕ) (cs : List ℕ) (m : Mark) (ys : List ℕ) → (c == k) ≡ true → MarkFront (k ∷ cs) m ys → MarkFront (c ∷ cs) m ys
at c k cs m ys h f = subst (λ d. MarkFront (d ∷ cs) m ys) (sym (eqb-true c k h)) f

sign_sound : (xs : List ℕ) (m : Mark) (ys : List ℕ) → sign_front xs ≡ Some (m, ys) → MarkFront xs m ys
sign_sound [] m ys e = none_some e
sign_sound (c ∷ cs) m ys e =
    elim (cond_cases (c == 94) _ _ (m, ys) e) [
      | inl a ↦ sign c 94 (token (asserted Start)) m cs ys a.0 a.1 is.begins tt
      | inr e1 ↦ elim (cond_cases (c == 36) _ _ (m, ys) e1.1) [
        | inl a ↦ sign c 36 (token (asserted End)) m cs ys a.0 a.1 is.finishes tt
        | inr e2 ↦ elim (cond_cases (c == 40) _ _ (m, ys) e2.1) [
          | inl a ↦ at c 40 cs m ys a.0 (opened_sound cs m ys a.1)
          | inr e3 ↦ elim (cond_cases (c == 41) _ _ (m, ys) e3.1) [
            | inl a ↦ sign c 41 (token closed) m cs ys a.0 a.1 is.closes tt
            | inr e4 ↦ elim (cond_cases (c == 124) _ _ (m, ys) e4.1) [
              | inl a ↦ sign c 124 (token bar) m cs ys a.0 a.1 is.parts tt
              | inr e5 ↦ elim (cond_cases (c == 46) _ _ (m, ys) e5.1) [
                | inl a ↦ sign c 46 (token dot) m cs ys a.0 a.1 is.any tt
                | inr e6 ↦ elim (cond_cases (c == 92) _ _ (m, ys) e6.1) [
                  | inl a ↦ at c 92 cs m ys a.0 (escape_mark_sound cs m ys a.1)
                  | inr e7 ↦ elim (cond_cases (c == 91) _ _ (m, ys) e7.1) [
                    | inl a ↦ at c 91 cs m ys a.0 (class_sound cs m ys a.1)
                    | inr e8 ↦ elim (cond_cases (is_normal c) _ _ (m, ys) e8.1) [
                      | inl a ↦ normal_sound c cs m ys a.0 a.1
                      | inr e9 ↦ repeat_sound (c ∷ cs) m ys e9.1
                    ]
                  ]
                ]
              ]
            ]
          ]
        ]
      ]
    ]

pub mark_sound : (xs : List ℕ) (m : Mark) (ys : List ℕ) → mark_front xs ≡ Some (m, ys) → MarkFront xs m ys × (fits m ys ≡ true)
mark_sound xs m ys e =
    let t = then_cases fitting (sign_front xs) (m, ys) e in
    elim (cond_cases (fits t.0.0 t.0.1) (Some t.0) None (m, ys) t.2) [
      | inl a ↦
          let same = some_same a.1 in (
            sign_sound xs m ys (t.1 ∙ ap Some same),
            subst (λ p. fits p.0 p.1 ≡ true) same a.0,
          )
      | inr b ↦ none_some b.1
    ]

-- ---- each spelling is its front

eager_other : (ys : List ℕ) → begins_with_question ys ≡ false → eager ys ≡ ys
eager_other [] h = refl
eager_other (c ∷ ys) h = cond-false (c == 63) _ _ h

opening_other : (ys : List ℕ) → begins_with_question ys ≡ false → opening ys ≡ Some (token opened, ys)
opening_other [] h = refl
opening_other (c ∷ []) h = refl
opening_other (c ∷ d ∷ ys) h = cond-false (c == 63) _ _ h

repeats : (cs : List ℕ) (t : Token) (least : ℕ) (most : Option ℕ) → regexp.Spells cs t → t ≡ quantifier least most → (ys : List ℕ)
    → sign_front (cs ++ ys) ≡ option_and_then repeat_front (token_front (cs ++ ys))
repeats cs t least most regexp.opens e ys = cc
repeats cs t least most regexp.closes e ys = cc
repeats cs t least most regexp.parts e ys = cc
repeats cs t least most (regexp.normal c h) e ys = cc
repeats cs t least most regexp.dot e ys = cc
repeats cs t least most (regexp.escaped l c h) e ys = cc
repeats cs t least most (regexp.category c) e ys = cc
repeats cs t least most (regexp.bracket a b c d f) e ys = cc
repeats cs t least most regexp.star e ys = refl
repeats cs t least most regexp.plus e ys = refl
repeats cs t least most regexp.question e ys = refl
repeats cs t least most (regexp.exactly c ds h k) e ys = refl
repeats cs t least most (regexp.at_least c ds h k) e ys = refl
repeats cs t least most (regexp.between c cs' d ds h k l m n) e ys = refl

repeat_complete : (cs : List ℕ) (least : ℕ) (most : Option ℕ) → regexp.Spells cs (quantifier least most) → (ys : List ℕ)
    → sign_front (cs ++ ys) ≡ Some (token (quantifier least most), eager ys)
repeat_complete cs least most s ys =
    repeats cs (quantifier least most) least most s refl ys
    ∙ ap (option_and_then repeat_front) (front_complete cs (quantifier least most) s ys)

regroup_bracket : (hs cs ys : List ℕ) → (hs ++ (cs ++ 93 ∷ [])) ++ ys ≡ hs ++ (cs ++ 93 ∷ ys)
regroup_bracket hs cs ys = simp append_assoc

-- a letter is no assertion
no_assertion : (l : ℕ) (cs : List ℕ) → (l == 98) ≡ false → (l == 66) ≡ false
    → escape_mark (l ∷ cs) ≡ option_map letter_mark (escape_front (l ∷ cs))
no_assertion l cs a b = cond-false (l == 98) _ _ a ∙ cond-false (l == 66) _ _ b

abbrev behind_first : List ℕ → List ℕ
behind_first [] = []
behind_first (c ∷ cs) = cs

abbrev escapes : List ℕ → Bool
escapes [] = false
escapes (c ∷ cs) = c == 92

letter_escape : (cs : List ℕ) (x : Letter) → LetterText cs x → (ys : List ℕ) → escapes cs ≡ true
    → escape_mark (behind_first cs ++ ys) ≡ option_map letter_mark (escape_front (behind_first cs ++ ys))
letter_escape cs x (is.plain c h) ys e = absurd (true≢false (sym e ∙ h))
letter_escape cs x (is.named c y h) ys e = no_assertion c ys (named_not c 98 y refl h) (named_not c 66 y refl h)
letter_escape cs x is.null ys e = refl
letter_escape cs x (is.control c n h) ys e = refl
letter_escape cs x (is.byte a b n h) ys e = refl
letter_escape cs x (is.unit a b c d m n h k) ys e = refl
letter_escape cs x (is.pair a b c d f g h i k m n o p q) ys e = refl
letter_escape cs x (is.braced d us m n h k) ys e = refl
letter_escape cs x (is.property us s h) ys e = refl
letter_escape cs x (is.no_property us s h) ys e = refl

with_rest : (m : Mark) (xs ys : List ℕ) → xs ≡ ys → ◌≡◌ {A = Option (Mark × List ℕ)} (Some (m, xs)) (Some (m, ys))
with_rest m xs ys e = ap (λ zs. let o : Option (Mark × List ℕ) = Some (m, zs) in o) e

sign_complete : (cs : List ℕ) (m : Mark) → Spells cs m → (ys : List ℕ) → fits m ys ≡ true → follows cs ys ≡ true
    → sign_front (cs ++ ys) ≡ Some (m, ys)
sign_complete cs m is.begins ys f after = refl
sign_complete cs m is.finishes ys f after = refl
sign_complete cs m is.boundary ys f after = refl
sign_complete cs m is.no_boundary ys f after = refl
sign_complete cs m is.opens ys f after = opening_other ys (not-true (begins_with_question ys) f)
sign_complete cs m is.opens_silently ys f after = refl
sign_complete cs m is.looks ys f after = refl
sign_complete cs m is.looks_not ys f after = refl
sign_complete cs m is.closes ys f after = refl
sign_complete cs m is.parts ys f after = refl
sign_complete cs m is.any ys f after = refl
sign_complete cs m (is.normal c h) ys f after =
    cond-false (c == 94) _ _ (not_equal c 94 [] (36 ∷ 40 ∷ 41 ∷ 124 ∷ 46 ∷ 92 ∷ 91 ∷ 42 ∷ 43 ∷ 63 ∷ 123 ∷ 93 ∷ 125 ∷ []) h)
    ∙ (cond-false (c == 36) _ _ (not_equal c 36 (94 ∷ []) (40 ∷ 41 ∷ 124 ∷ 46 ∷ 92 ∷ 91 ∷ 42 ∷ 43 ∷ 63 ∷ 123 ∷ 93 ∷ 125 ∷ []) h)
    ∙ (cond-false (c == 40) _ _ (not_equal c 40 (94 ∷ 36 ∷ []) (41 ∷ 124 ∷ 46 ∷ 92 ∷ 91 ∷ 42 ∷ 43 ∷ 63 ∷ 123 ∷ 93 ∷ 125 ∷ []) h)
    ∙ (cond-false (c == 41) _ _ (not_equal c 41 (94 ∷ 36 ∷ 40 ∷ []) (124 ∷ 46 ∷ 92 ∷ 91 ∷ 42 ∷ 43 ∷ 63 ∷ 123 ∷ 93 ∷ 125 ∷ []) h)
    ∙ (cond-false (c == 124) _ _ (not_equal c 124 (94 ∷ 36 ∷ 40 ∷ 41 ∷ []) (46 ∷ 92 ∷ 91 ∷ 42 ∷ 43 ∷ 63 ∷ 123 ∷ 93 ∷ 125 ∷ []) h)
    ∙ (cond-false (c == 46) _ _ (not_equal c 46 (94 ∷ 36 ∷ 40 ∷ 41 ∷ 124 ∷ []) (92 ∷ 91 ∷ 42 ∷ 43 ∷ 63 ∷ 123 ∷ 93 ∷ 125 ∷ []) h)
    ∙ (cond-false (c == 92) _ _ (not_equal c 92 (94 ∷ 36 ∷ 40 ∷ 41 ∷ 124 ∷ 46 ∷ []) (91 ∷ 42 ∷ 43 ∷ 63 ∷ 123 ∷ 93 ∷ 125 ∷ []) h)
    ∙ (cond-false (c == 91) _ _ (not_equal c 91 (94 ∷ 36 ∷ 40 ∷ 41 ∷ 124 ∷ 46 ∷ 92 ∷ []) (42 ∷ 43 ∷ 63 ∷ 123 ∷ 93 ∷ 125 ∷ []) h)
    ∙ cond-true (is_normal c) _ _ h)))))))
sign_complete cs m (is.escape {cs = ds} {x = x} t) ys f after =
    letter_escape (92 ∷ ds) x t ys refl ∙ ap (option_map letter_mark) (letter_complete (92 ∷ ds) x t ys after)
sign_complete cs m (is.bracket {hs = hs} {cs = ds} {negated = negated} {xs = xs} {is = js} h t first e) ys f after =
    ap (λ zs. option_map token_mark (class_front zs)) (regroup_bracket hs ds ys)
    ∙ ap (option_map token_mark) (class_complete hs negated ds xs js ys h t first e)
sign_complete cs m (is.greedy {least = least} {most = most} s) ys f after =
    repeat_complete cs least most s ys
    ∙ with_rest (token (quantifier least most)) (eager ys) ys (eager_other ys (not-true (begins_with_question ys) f))
sign_complete cs m (is.lazy {cs = ds} {least = least} {most = most} s) ys f after =
    ap sign_front (append_assoc ds (63 ∷ []) ys) ∙ repeat_complete ds least most s (63 ∷ ys)

pub mark_complete : (cs : List ℕ) (m : Mark) → Spells cs m → (ys : List ℕ) → fits m ys ≡ true → follows cs ys ≡ true
    → mark_front (cs ++ ys) ≡ Some (m, ys)
mark_complete cs m s ys f after = ap (option_and_then fitting) (sign_complete cs m s ys f after) ∙ cond-true (fits m ys) _ _ f

pub mark_some : (cs : List ℕ) (m : Mark) → Spells cs m → 0 < length cs
mark_some cs m is.begins = omega arith
mark_some cs m is.finishes = omega arith
mark_some cs m is.boundary = omega arith
mark_some cs m is.no_boundary = omega arith
mark_some cs m is.opens = omega arith
mark_some cs m is.opens_silently = omega arith
mark_some cs m is.looks = omega arith
mark_some cs m is.looks_not = omega arith
mark_some cs m is.closes = omega arith
mark_some cs m is.parts = omega arith
mark_some cs m is.any = omega arith
mark_some cs m (is.normal c h) = omega arith
mark_some cs m (is.escape t) = omega arith
mark_some cs m (is.bracket h t first e) = omega arith
mark_some cs m (is.greedy {least = least} {most = most} s) = spells_some cs (quantifier least most) s
mark_some cs m (is.lazy {cs = ds} s) = let sum = length-append ds (63 ∷ []) in omega arith

pub mark_shorter : (xs : List ℕ) (m : Mark) (ys : List ℕ) → mark_front xs ≡ Some (m, ys) → length ys < length xs
mark_shorter xs m ys e =
    let f = (mark_sound xs m ys e).0 in
    let some = mark_some f.cs m f.spelled in
    let len : length xs ≡ length (f.cs ++ ys) = ap length f.split in
    let sum = length-append f.cs ys in
    omega arith
