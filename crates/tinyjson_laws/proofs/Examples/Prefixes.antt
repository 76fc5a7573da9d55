-- Shortest prefixes, and errors at them.
use Rattle.std.proofs.Common.{zero, suc, take, ◌<◌, ◌≡◌, ℕ, false, List, [], ◌∷◌, None, refl, arith}
use Rattle.std.specs.Prelude.{codes}
use Rattle.tinyjson_grammar.specs.Characters.{is_white}
use Rattle.tinyjson_grammar.specs.Prefix.{IsViable, IsErrorFree, IsLooselyViable}
use Rattle.tinyjson_grammar.specs.Grammar.{IsAccepted}
use Rattle.tinyjson_grammar.specs.Machine.{run, step, end}
use Rattle.tinyjson_grammar.specs.Refusal.{begins_value, IsRefusal}
use Rattle.tinyjson_grammar.specs.declared.error.JsonParseErrorKind.TheVariants.{InvalidCharacter}
use Rattle.tinyjson_number.specs.Numeral.{power_fits, value}
use Rattle.tinyjson_laws.specs.Prefixes.{IsShortest}
use Rattle.tinyjson_laws.proofs.Examples.Reading.{refusal_of}
use Rattle.tinyjson_laws.proofs.PrefixLaws.{empty_is_viable, viable_is_error_free, error_free_is_loosely_viable, unviable_at_first}

-- a list whose first character is wrong has shortest prefixes of all three kinds
unviable_from_the_first : (c : ℕ) (xs : List ℕ) → is_white c ≡ false → begins_value c ≡ false →
    IsShortest (IsViable (IsAccepted None)) (c ∷ xs) 1
    × IsShortest (IsErrorFree None) (c ∷ xs) 1
    × IsShortest (IsLooselyViable None) (c ∷ xs) 1
unviable_from_the_first c xs n b =
    let unviable = unviable_at_first None c [] n b in
    let viable = empty_is_viable None in (
      record {
        within = omega arith;
        fails = λ a. unviable (error_free_is_loosely_viable None (c ∷ []) (viable_is_error_free None (c ∷ []) a));
        least = λ k l d. d (first_only k l (IsViable (IsAccepted None)) viable.0);
      },
      record {
        within = omega arith;
        fails = λ m. unviable (error_free_is_loosely_viable None (c ∷ []) m);
        least = λ k l d. d (first_only k l (IsErrorFree None) (viable_is_error_free None [] viable.0));
      },
      record { within = omega arith; fails = unviable; least = λ k l d. d (first_only k l (IsLooselyViable None) viable.1) },
    )
  where
    first_only : (k : ℕ) → k < 1 → (P : List ℕ → Type 0) → P [] → P (take k (c ∷ xs))
    first_only zero l P h = h
    first_only (suc k) l P h = absurd (omega arith)

refused_at_once : IsRefusal None (InvalidCharacter 120) [] (codes "x")
unfolding run step end value power_fits
refused_at_once = refusal_of refl refl
