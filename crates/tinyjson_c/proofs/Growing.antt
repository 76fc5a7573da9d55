-- One line more.
use Rattle.std.proofs.Common.{◌≡◌, ◌≢◌, ℕ, ◌==◌, ◌+◌, Bool, true, false, List, [], ◌∷◌, ◌++◌, Option}
use Rattle.std.proofs.Common.{refl, sym, ap, ◌∙◌, ◌≤◌, subst, length, arith, append_assoc, append-nil, length-append, length-drop}
use Rattle.std.proofs.lemmas.Bool.{eqb-true, false≢true}
use Rattle.std.specs.Prelude.{encode_utf8_all}
use Rattle.tinyjson.specs.Text.{compact}
use Rattle.tinyjson_c.specs.Lines.{AreFirst, first_line, later_lines, lines_text}
use Rattle.tinyjson_c.specs.Stop.{IsTextOf}
use Rattle.tinyjson_grammar.specs.Characters.{line_feed}
use Rattle.tinyjson_grammar.specs.Tree.{Tree}

pub first_more : (limit : Option ℕ) (bytes : List ℕ) (ts : List Tree) (rest : List ℕ) (t : Tree) → AreFirst limit bytes ts rest → rest ≢ []
    → IsTextOf limit (first_line rest) t → AreFirst limit bytes (ts ++ t ∷ []) (later_lines rest)
first_more limit bytes [] rest t h more text =
    let P : List ℕ → Type 0 = λ bs. AreFirst limit bs (t ∷ []) (later_lines rest) in
    subst P (sym h) (more, text, refl)
first_more limit bytes (u ∷ us) rest t h more text = (h.0, h.1, first_more limit (later_lines bytes) us rest t h.2 more text)

lines_more : (ts : List Tree) (t : Tree) → lines_text (ts ++ t ∷ []) ≡ lines_text ts ++ (encode_utf8_all (compact t) ++ line_feed ∷ [])
lines_more [] t = append-nil _
lines_more (u ∷ us) t =
    ap (λ x. (encode_utf8_all (compact u) ++ line_feed ∷ []) ++ x) (lines_more us t)
    ∙ sym (append_assoc (encode_utf8_all (compact u) ++ line_feed ∷ []) (lines_text us) _)

pub length_more : (ts : List Tree) (t : Tree) → length (ts ++ t ∷ []) ≡ length ts + 1
length_more ts t = grind (arith, length-append)

-- what follows the first line of some bytes is shorter than they are
later_shorter : (bytes : List ℕ) → bytes ≢ [] → length (later_lines bytes) + 1 ≤ length bytes
later_shorter [] h = absurd (h refl)
later_shorter (b ∷ bs) h = grind (arith, length-drop)

-- these lines were read, and their normal texts are written
abbrev pub HasRead : Option ℕ → List ℕ → List ℕ → List ℕ → ℕ → Type 0
HasRead limit bytes rest written number =
    (ts : List Tree) × AreFirst limit bytes ts rest × (written ≡ lines_text ts) × (number ≡ length ts)

-- these lines were read, and what is made of their trees is written
abbrev pub HasMade : (List Tree → List ℕ) → Option ℕ → List ℕ → List ℕ → List ℕ → ℕ → Type 0
HasMade made limit bytes rest written number =
    (ts : List Tree) × AreFirst limit bytes ts rest × (written ≡ made ts) × (number ≡ length ts)

pub one_more_made : (made : List Tree → List ℕ) (of : Tree → List ℕ) → ((ts : List Tree) (t : Tree) → made (ts ++ t ∷ []) ≡ made ts ++ of t)
    → (limit : Option ℕ) (bytes rest line later old new : List ℕ) (number : ℕ) → HasMade made limit bytes rest old number → rest ≢ []
    → line ≡ first_line rest → later ≡ later_lines rest → (t : Tree) × IsTextOf limit line t × (new ≡ old ++ of t)
    → HasMade made limit bytes later new (number + 1)
one_more_made made of grows limit bytes rest line later old new number i more first after w =
    let P : List ℕ → Type 0 = λ z. AreFirst limit bytes (i.0 ++ w.0 ∷ []) z in
    let Q : List ℕ → Type 0 = λ z. IsTextOf limit z w.0 in (
      i.0 ++ w.0 ∷ [],
      subst P (sym after) (first_more limit bytes i.0 rest w.0 i.1 more (subst Q first w.1)),
      w.2 ∙ (ap (λ x. x ++ of w.0) i.2 ∙ sym (grows i.0 w.0)),
      ap (λ n. n + 1) i.3 ∙ sym (length_more i.0 w.0),
    )

pub one_more : (limit : Option ℕ) (bytes rest line later old new : List ℕ) (number : ℕ) → HasRead limit bytes rest old number → rest ≢ []
    → line ≡ first_line rest → later ≡ later_lines rest
    → (t : Tree) × IsTextOf limit line t × (new ≡ old ++ (encode_utf8_all (compact t) ++ line_feed ∷ []))
    → HasRead limit bytes later new (number + 1)
one_more = one_more_made lines_text (λ t. encode_utf8_all (compact t) ++ line_feed ∷ []) lines_more

pub counted : (bytes rest later : List ℕ) (number : ℕ) → number + length rest ≤ length bytes → rest ≢ [] → later ≡ later_lines rest
    → number + 1 + length later ≤ length bytes
counted bytes rest later number h more after =
    let P : List ℕ → Type 0 = λ z. number + 1 + length z ≤ length bytes in
    let shorter = later_shorter rest more in
    let k : number + 1 + length (later_lines rest) ≤ length bytes = omega (arith, h, shorter) in
    subst P (sym after) k

-- bytes of which a test says that they are some
pub not_empty : (bytes : List ℕ) (is_empty : Bool) → is_empty ≡ (length bytes == 0) → is_empty ≡ false → bytes ≢ []
not_empty [] is_empty e f = λ h. false≢true (sym f ∙ e)
not_empty (b ∷ bs) is_empty e f = λ h. cc

pub empty : (bytes : List ℕ) (is_empty : Bool) → is_empty ≡ (length bytes == 0) → is_empty ≡ true → bytes ≡ []
empty [] is_empty e f = refl
empty (b ∷ bs) is_empty e f = let none = eqb-true (length (b ∷ bs)) 0 (sym e ∙ f) in absurd (omega arith)
