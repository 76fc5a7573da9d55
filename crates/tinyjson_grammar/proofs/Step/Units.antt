-- What a run of escapes stands for.
use Rattle.std.proofs.Common.{◌≡◌, ℕ, false, List, [], ◌∷◌, ◌++◌, refl, ap, ◌∙◌, append_assoc, IsTrue, ◌&&◌}
use Rattle.tinyjson_grammar.specs.Characters.{unit_of, decode, paired, is_surrogate}
use Rattle.tinyjson_grammar.specs.Syntax.{Piece, code, piece_codes}
use Rattle.tinyjson_grammar.proofs.Trace.State.{Quad, quads, values, IsSettled}
use Rattle.tinyjson_grammar.proofs.Accepts.String.{decode_append, paired_append}

pub settled_start : IsSettled [] []
settled_start qs = (refl, refl)

pub codes_append : (ps qs : List Piece) → piece_codes (ps ++ qs) ≡ piece_codes ps ++ piece_codes qs
codes_append [] qs = refl
codes_append (p ∷ ps) qs = ap (λ xs. code p ∷ xs) (codes_append ps qs)

pub codes_quads : (qs : List Quad) → piece_codes (quads qs) ≡ values qs
codes_quads [] = refl
codes_quads (q ∷ qs) = ap (λ xs. unit_of 0 (q.a ∷ q.b ∷ q.c ∷ q.d ∷ []) ∷ xs) (codes_quads qs)

run_codes : (qs : List Quad) (rs : List Piece) → piece_codes (quads qs ++ rs) ≡ values qs ++ piece_codes rs
run_codes qs rs = codes_append (quads qs) rs ∙ ap (λ xs. xs ++ piece_codes rs) (codes_quads qs)

regroup : (xs ys : List Piece) (y : Piece) (zs : List Piece) → (xs ++ (ys ++ y ∷ [])) ++ zs ≡ xs ++ (ys ++ y ∷ zs)
regroup xs ys y zs = simp append_assoc

regroup_characters : (xs ys : List ℕ) (y : ℕ) (zs : List ℕ) → xs ++ (ys ++ y ∷ zs) ≡ ((xs ++ ys) ++ y ∷ []) ++ zs
regroup_characters xs ys y zs = simp append_assoc

-- the pieces, a run and one more piece
pub settle_more : (ps : List Piece) (cs : List ℕ) → IsSettled ps cs → (qs : List Quad) → IsTrue (paired (values qs)) → (e : Piece)
    → is_surrogate (code e) ≡ false → IsSettled (ps ++ (quads qs ++ e ∷ [])) ((cs ++ decode (values qs)) ++ code e ∷ [])
settle_more ps cs h qs hp e he rs = (
  ap (λ xs. decode (piece_codes xs)) (regroup ps (quads qs) e rs)
      ∙ ((h (quads qs ++ e ∷ rs)).0 ∙ (ap (λ xs. cs ++ decode xs) (run_codes qs (e ∷ rs))
      ∙ (ap (λ xs. cs ++ xs) (decode_append (values qs) (code e) (piece_codes rs) he)
      ∙ regroup_characters cs (decode (values qs)) (code e) (decode (piece_codes rs))))),
  ap (λ xs. paired (piece_codes xs)) (regroup ps (quads qs) e rs)
      ∙ ((h (quads qs ++ e ∷ rs)).1 ∙ (ap paired (run_codes qs (e ∷ rs))
      ∙ (paired_append (values qs) (code e) (piece_codes rs) he ∙ ap (λ b. b && paired (piece_codes rs)) hp))),
)

-- the whole string
pub settle_end : (ps : List Piece) (cs : List ℕ) → IsSettled ps cs → (qs : List Quad)
    → decode (piece_codes (ps ++ quads qs)) ≡ cs ++ decode (values qs)
settle_end ps cs h qs = (h (quads qs)).0 ∙ ap (λ xs. cs ++ decode xs) (codes_quads qs)

pub settle_paired : (ps : List Piece) (cs : List ℕ) → IsSettled ps cs → (qs : List Quad)
    → paired (piece_codes (ps ++ quads qs)) ≡ paired (values qs)
settle_paired ps cs h qs = (h (quads qs)).1 ∙ ap paired (codes_quads qs)
