-- Pieces of an address, where some are left.
use Rattle.std.proofs.Common.{◌≡◌, ◌≢◌, ◌∙◌, ◌∷◌, [], ◌-◌, ◌&&◌, ◌||◌, ℕ, suc, Bool, true, not, cond, List, length, ap, sym, refl, arith}
use Rattle.text_formats.specs.declared.ip.Rules.{Rules}
use Rattle.text_formats.specs.Ip.{are_pieces, after_colon, is_last, is_piece, is_whole}
use Rattle.text_formats.specs.Letters.{is_empty, is_colon}
use Rattle.text_uri.specs.Letters.{before, from}

abbrev pub body : Rules → ℕ → Bool → List ℕ → List ℕ → Bool
body rules n gap front rest = cond (is_empty rest) (is_last rules n gap front)
    (cond (is_empty front)
    (not gap && ((is_empty (after_colon rest) && is_whole rules true n) || are_pieces rules n true (after_colon rest)))
    (is_piece front && are_pieces rules n gap (after_colon rest)))

pub opened : (rules : Rules) (left : ℕ) (gap : Bool) (text : List ℕ) → left ≢ 0
    → are_pieces rules left gap text ≡ body rules (left - 1) gap (before is_colon text) (from is_colon text)
opened rules left gap text some = let e : left ≡ suc (left - 1) = omega arith in ap (λ n. are_pieces rules n gap text) e

none : (xs : List ℕ) → length xs ≡ 0 → is_empty xs ≡ true
none [] e = refl
none (x ∷ xs) e = absurd (omega (arith, e))

pub pieces_last : (rules : Rules) (left : ℕ) (gap : Bool) (text rest : List ℕ) → left ≢ 0 → rest ≡ from is_colon text → length rest ≡ 0
    → are_pieces rules left gap text ≡ is_last rules (left - 1) gap (before is_colon text)
pieces_last rules left gap text rest some r e =
    let front = before is_colon text in
    let more = after_colon (from is_colon text) in
    opened rules left gap text some ∙ ap (λ b. cond b (is_last rules (left - 1) gap front)
    (cond (is_empty front) (not gap && ((is_empty more && is_whole rules true (left - 1)) || are_pieces rules (left - 1) true more))
    (is_piece front && are_pieces rules (left - 1) gap more)))
    (none (from is_colon text) (sym (ap length r) ∙ e))
