-- What stands before blanks, and what may follow it.
use Rattle.std.proofs.Common.{◌≡◌, ℕ, false, ◌==◌, List, ◌∷◌, None, ap, ◌∙◌}
use Rattle.tinyjson_path_query.specs.Grammar.{after_blanks}
use Rattle.tinyjson_path_query.specs.Fronts.{begins_int, begins_segment, operator_front}

-- what stands before blanks that are left out
pub record Before (P : List ℕ → Type 0) (ys : List ℕ) : Type 0 where
  pub whole : List ℕ
  pub blanks : after_blanks whole ≡ ys
  pub held : P whole

-- what may follow a selector or an expression, behind blanks: a sign that goes on with none of them
pub record Ends (ys : List ℕ) : Type 0 where
  pub sign : ℕ
  pub rest : List ℕ
  pub at : after_blanks ys ≡ sign ∷ rest
  pub no_int : begins_int (sign ∷ rest) ≡ false
  pub no_colon : (sign == 58) ≡ false
  pub no_segment : begins_segment (sign ∷ rest) ≡ false
  pub no_operator : operator_front (sign ∷ rest) ≡ None

abbrev pub ends_at : (sign : ℕ) (ys rest : List ℕ) → after_blanks ys ≡ sign ∷ rest → begins_int (sign ∷ rest) ≡ false → (sign == 58) ≡ false
    → begins_segment (sign ∷ rest) ≡ false → operator_front (sign ∷ rest) ≡ None → Ends ys
ends_at sign ys rest e f g h k =
    record { sign = sign; rest = rest; at = e; no_int = f; no_colon = g; no_segment = h; no_operator = k }

pub ends_no_segment : (ys : List ℕ) (k : Ends ys) → begins_segment (after_blanks ys) ≡ false
ends_no_segment ys k = ap begins_segment k.at ∙ k.no_segment

pub ends_no_operator : (ys : List ℕ) (k : Ends ys) → operator_front (after_blanks ys) ≡ None
ends_no_operator ys k = ap operator_front k.at ∙ k.no_operator
