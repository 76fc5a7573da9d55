-- Lines with two spaces a level.
use Rattle.std.proofs.Common.{◌≡◌, ℕ, zero, suc, ◌+◌, ◌*◌, ◌-◌, ◌≤◌, Bool, true, false, Option, None, Some, List, [], ◌∷◌, take, drop}
use Rattle.std.proofs.Common.{refl, sym, ◌∙◌, ap, arith}
use Rattle.std.specs.Borrow.{Bor}
use Rattle.std.specs.List.{repeat}
use Rattle.std.specs.Str.{chars}
use Rattle.tinyjson.specs.Indent.{indent_of}
use Rattle.tinyjson_grammar.specs.Text.{before}
use Rattle.tinyjson_output.proofs.Callers.{enc, enc_cons}
use mir.Val.{bool_byte}

-- the spaces of some levels
abbrev spaces : ℕ → List ℕ
spaces k = repeat k (32 ∷ 32 ∷ [])

take_spaces : (k n : ℕ) → k ≤ n → take (k + k) (spaces n) ≡ spaces k
take_spaces zero n h = refl
take_spaces (suc k) zero h = absurd (omega arith)
take_spaces (suc k) (suc n) h =
    let e : suc k + suc k ≡ suc (suc (k + k)) = omega arith in
    ap (λ m. take m (spaces (suc n))) e ∙ ap (λ w. 32 ∷ 32 ∷ w) (take_spaces k n (omega arith))

enc_spaces : (k : ℕ) → enc (spaces k) ≡ spaces k
enc_spaces zero = refl
enc_spaces (suc k) = enc_cons 32 (32 ∷ spaces k) (omega arith)
    ∙ ap (λ w. 32 ∷ w) (enc_cons 32 (spaces k) (omega arith) ∙ ap (λ w. 32 ∷ w) (enc_spaces k))

-- a line feed and the spaces
enc_line : (k : ℕ) → enc (10 ∷ spaces k) ≡ 10 ∷ spaces k
enc_line k = enc_cons 10 (spaces k) (omega arith) ∙ ap (λ w. 10 ∷ w) (enc_spaces k)

line_of : (first : Bool) (k : ℕ) → k ≤ 32 → enc (before (Some (32 ∷ 32 ∷ [])) k first)
    ≡ take (2 + 2 * k - bool_byte first) (drop (bool_byte first) (44 ∷ 10 ∷ spaces 32))
line_of true k h =
    let e : 2 + 2 * k - 1 ≡ suc (k + k) = omega arith in
    enc_line k ∙ ap (λ w. 10 ∷ w) (sym (take_spaces k 32 h)) ∙ ap (λ m. take m (10 ∷ spaces 32)) (sym e)
line_of false k h =
    let e : 2 + 2 * k - 0 ≡ suc (suc (k + k)) = omega arith in
    enc_cons 44 (10 ∷ spaces k) (omega arith) ∙ ap (λ w. 44 ∷ w) (enc_line k)
    ∙ ap (λ w. 44 ∷ 10 ∷ w) (sym (take_spaces k 32 h)) ∙ ap (λ m. take m (44 ∷ 10 ∷ spaces 32)) (sym e)

-- the line of an indent of two spaces
pub line_at : (o : Option (Bor (List ℕ))) (i : Bor (List ℕ)) (first : Bool) (k : ℕ) → o ≡ Some i → chars i.now ≡ 32 ∷ 32 ∷ [] → k ≤ 32
    → enc (before (indent_of o) k first) ≡ take (2 + 2 * k - bool_byte first) (drop (bool_byte first) (44 ∷ 10 ∷ spaces 32))
line_at o i first k e s h = ap (λ z. enc (before (indent_of z) k first)) e ∙ ap (λ z. enc (before (Some z) k first)) s ∙ line_of first k h

-- a comma alone, or nothing
pub line_none : (o : Option (Bor (List ℕ))) (first : Bool) (k : ℕ) → o ≡ None
    → enc (before (indent_of o) k first) ≡ take (1 - bool_byte first) (drop (bool_byte first) (44 ∷ 10 ∷ spaces 32))
line_none o first k e = ap (λ z. enc (before (indent_of z) k first)) e ∙ by first
  where
    by : (first : Bool) → enc (before None k first) ≡ take (1 - bool_byte first) (drop (bool_byte first) (44 ∷ 10 ∷ spaces 32))
    by true = refl
    by false = enc_cons 44 [] (omega arith)
