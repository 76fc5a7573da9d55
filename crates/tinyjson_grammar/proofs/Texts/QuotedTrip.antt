-- Quoted characters are a string that stands for them.
use Rattle.std.proofs.Common.{◌≡◌, ℕ, ◌/◌, ◌%◌, ◌<◌, true, false, List, [], ◌∷◌, ◌++◌, refl, ap, ◌∙◌, arith, IsTrue, nat_lt, ◌==◌}
use Rattle.std.specs.Char.{IsScalar, digit_char, digit_value}
use Rattle.std.specs.Str.{all_scalars}
use Rattle.std.proofs.lemmas.Bool.{cond_both, and_parts, lt-ltb, ltb-true, ltb-false}
use Rattle.std.proofs.lemmas.Bool.Decides.{nat_tests}
use Rattle.std.proofs.lemmas.Str.{digit_value-digit_char}
use Rattle.tinyjson_grammar.specs.Characters.{decode, paired, is_hex}
use Rattle.tinyjson_grammar.specs.Syntax.{Piece, plain, escape, unit, piece_text, pieces_text, IsPiece, ArePieces, code, piece_codes}
use Rattle.tinyjson_grammar.specs.Text as written
use Rattle.tinyjson_grammar.proofs.Accepts.String.{decode_cons, paired_cons, scalar_no_surrogate}

-- ---- characters

pub scalar_parts : (c : ℕ) (cs : List ℕ) → IsTrue (all_scalars (c ∷ cs)) → IsScalar c × IsTrue (all_scalars cs)
scalar_parts c cs h = and_parts _ (all_scalars cs) h

pub decode_scalars : (cs : List ℕ) → IsTrue (all_scalars cs) → decode cs ≡ cs
decode_scalars [] h = refl
decode_scalars (c ∷ cs) h = let k = scalar_parts c cs h in decode_cons c cs (scalar_no_surrogate c k.0)
    ∙ ap (λ z. c ∷ z) (decode_scalars cs k.1)

pub paired_scalars : (cs : List ℕ) → IsTrue (all_scalars cs) → IsTrue (paired cs)
paired_scalars [] h = refl
paired_scalars (c ∷ cs) h = let k = scalar_parts c cs h in paired_cons c cs (scalar_no_surrogate c k.0) ∙ paired_scalars cs k.1

-- ---- pieces

-- xs is a piece that stands for c
record StandsFor (c : ℕ) (xs : List ℕ) : Type 0 where
  pub piece : Piece
  pub is : IsPiece piece
  pub code : code piece ≡ c
  pub text : piece_text piece ≡ xs

short : (c d n : ℕ) → IsPiece (escape d) → code (escape d) ≡ n → (c == n) ≡ true → StandsFor c (92 ∷ d ∷ [])
short c d n h e k = let same : n ≡ c = grind (arith, nat_tests) in record { piece = escape d; is = h; code = e ∙ same; text = refl }

hex_char : (d : ℕ) → d < 16 → IsTrue (is_hex (digit_char d))
hex_char d h = let e = digit_value-digit_char d (omega arith) in lt-ltb (digit_value (digit_char d)) 16 (omega arith)

control : (c : ℕ) → nat_lt c 32 ≡ true → StandsFor c (92 ∷ 117 ∷ 48 ∷ 48 ∷ digit_char (c / 16) ∷ digit_char (c % 16) ∷ [])
control c h =
    let l = ltb-true c 32 h in record {
      piece = unit 48 48 (digit_char (c / 16)) (digit_char (c % 16));
      is = (refl, refl, hex_char (c / 16) (omega arith), hex_char (c % 16) (omega arith));
      code = omega (arith, digit_value-digit_char (c / 16) (omega arith), digit_value-digit_char (c % 16) (omega arith));
      text = refl;
    }

itself : (c : ℕ) → IsScalar c → (c == 34) ≡ false → (c == 92) ≡ false → nat_lt c 32 ≡ false → StandsFor c (c ∷ [])
itself c s q b l = record { piece = plain c; is = (s, ltb-false c 32 l, rw (q, b)); code = refl; text = refl }

escaped : (c : ℕ) → IsScalar c → StandsFor c (written.escape c)
escaped c s = cond_both (c == 8) _ _ (StandsFor c) (short c 98 8 refl refl) (λ _.
    cond_both (c == 9) _ _ (StandsFor c) (short c 116 9 refl refl) (λ _.
    cond_both (c == 10) _ _ (StandsFor c) (short c 110 10 refl refl) (λ _.
    cond_both (c == 12) _ _ (StandsFor c) (short c 102 12 refl refl) (λ _.
    cond_both (c == 13) _ _ (StandsFor c) (short c 114 13 refl refl) (λ _.
    cond_both (c == 34) _ _ (StandsFor c) (short c 34 34 refl refl) (λ q.
    cond_both (c == 92) _ _ (StandsFor c) (short c 92 92 refl refl) (λ b.
    cond_both (nat_lt c 32) _ _ (StandsFor c) (control c) (itself c s q b))))))))

-- ---- strings

-- xs are pieces that stand for cs
pub record StandFor (cs xs : List ℕ) : Type 0 where
  pub pieces : List Piece
  pub are : ArePieces pieces
  pub codes : piece_codes pieces ≡ cs
  pub text : pieces_text pieces ≡ xs

pub escapes_stand : (cs : List ℕ) → IsTrue (all_scalars cs) → StandFor cs (written.escapes cs)
escapes_stand [] h = record { pieces = []; are = tt; codes = refl; text = refl }
escapes_stand (c ∷ cs) h =
    let k = scalar_parts c cs h in
    let one = escaped c k.0 in
    let more = escapes_stand cs k.1 in record {
      pieces = one.piece ∷ more.pieces;
      are = (one.is, more.are);
      codes = λ i. one.code i ∷ more.codes i;
      text = λ i. one.text i ++ more.text i;
    }
