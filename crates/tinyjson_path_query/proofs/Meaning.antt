-- The kind of an error of the grammar is right for the text at its place.
use Rattle.std.proofs.Common.{◌≡◌, ℕ, ◌-◌, Bool, true, false, ◌||◌, cond, List, length, take, drop, refl, sym, ap, ◌∙◌, subst}
use Rattle.std.proofs.Math.Seq.{take-length}
use Rattle.std.proofs.lemmas.List.{length-drop}
use Rattle.tinyjson.specs.Characters.{value_separator}
use Rattle.tinyjson_path_query.specs.declared.error.ParseErrorKind.{ParseErrorKind}
use Rattle.tinyjson_path_query.specs.declared.error.ParseErrorKind.TheVariants.{Syntax, UnknownFunction, IndexOutOfRange}
use Rattle.tinyjson_path_query.specs.declared.refusal.Cause.{Cause}
use Rattle.tinyjson_path_query.specs.declared.refusal.Cause.TheVariants as missing
use Rattle.tinyjson_path_query.specs.Grammar.{right_parenthesis, begins_with}
use Rattle.tinyjson_path_query.specs.Kinds.{read_kind, broken_rule, rule}
use Rattle.tinyjson_path_query.specs.Refusing.{Says, is_unknown_call, is_known_call, is_large, begins_literal, begins_value}
use Rattle.tinyjson_path_query.specs.Refusing.{begins_condition, begins_operation, begins_misfit}

pub rest_at : (xs : List ℕ) (n : ℕ) → take (length xs - n) (drop n xs) ≡ drop n xs
rest_at xs n = ap (λ k. take k (drop n xs)) (sym (length-drop n xs)) ∙ take-length (drop n xs)

-- the text at the place is sliced
pub says_at : (xs : List ℕ) (n : ℕ) (k : ParseErrorKind) → Says (take n xs) (take (length xs - n) (drop n xs)) k
    → Says (take n xs) (drop n xs) k
says_at xs n k h = subst (λ ys. Says (take n xs) ys k) (rest_at xs n) h

or_left : (a b : Bool) → a ≡ true → a || b ≡ true
or_left a b e = ap (λ x. x || b) e

or_right : (a b : Bool) → b ≡ true → a || b ≡ true
or_right true b e = refl
or_right false b e = e

first_or_third : (a b c d : Bool) → a || c ≡ true → (a || b) || (c || d) ≡ true
first_or_third true b c d e = refl
first_or_third false b c d e = or_right b (c || d) (or_left c d e)

first_or_second : (a b c : Bool) → a || b ≡ true → a || (b || c) ≡ true
first_or_second true b c e = refl
first_or_second false b c e = or_left b c e

module _ (front xs : List ℕ) (known : is_unknown_call xs ≡ false) where
  rule_says : (count types : Bool) → (count ≡ true → begins_with value_separator xs || begins_with right_parenthesis xs ≡ true)
      → (types ≡ true → begins_misfit xs ≡ true) → Says front xs (rule count types)
  rule_says true types f g = f refl
  rule_says false true f g = g refl
  rule_says false false f g = known

  misfit_operation : begins_operation xs ≡ true → begins_misfit xs ≡ true
  misfit_operation e =
      or_right (begins_value xs) (begins_condition xs || begins_operation xs) (or_right (begins_condition xs) (begins_operation xs) e)

  closes : begins_with right_parenthesis xs ≡ true → begins_with value_separator xs || begins_with right_parenthesis xs ≡ true
  closes e = or_right (begins_with value_separator xs) (begins_with right_parenthesis xs) e

  broken_says : (c : Cause) → Says front xs (broken_rule c xs)
  broken_says missing.Character = known
  broken_says missing.Integer = by (is_large xs) refl
    where
      by : (b : Bool) → is_large xs ≡ b → Says front xs (cond b IndexOutOfRange Syntax)
      by true e = e
      by false e = known
  broken_says missing.Test =
      rule_says false (begins_value xs) (λ e. absurd cc) (λ e. or_left (begins_value xs) (begins_condition xs || begins_operation xs) e)
  broken_says missing.Value =
      rule_says false (is_known_call xs || begins_condition xs) (λ e. absurd cc)
      (λ e. first_or_third (is_known_call xs) (begins_literal xs) (begins_condition xs) (begins_operation xs) e)
  broken_says missing.Nodes =
      rule_says (begins_with right_parenthesis xs) (begins_value xs || begins_condition xs) closes
      (λ e. first_or_second (begins_value xs) (begins_condition xs) (begins_operation xs) e)
  broken_says missing.Argument = rule_says (begins_with right_parenthesis xs) false closes (λ e. absurd cc)
  broken_says missing.Comma = rule_says (begins_with right_parenthesis xs) (begins_operation xs) closes misfit_operation
  broken_says missing.LastArgument =
      rule_says (begins_with value_separator xs) (begins_operation xs)
      (λ e. or_left (begins_with value_separator xs) (begins_with right_parenthesis xs) e) misfit_operation
  broken_says missing.ConditionEnd = rule_says false (begins_operation xs) (λ e. absurd cc) misfit_operation
  broken_says missing.TooDeep = known
  broken_says missing.OutOfMemory = known

pub read_says : (front xs : List ℕ) (c : Cause) → Says front xs (read_kind c xs)
read_says front xs c = by (is_unknown_call xs) refl
  where
    by : (b : Bool) → is_unknown_call xs ≡ b → Says front xs (cond b UnknownFunction (broken_rule c xs))
    by true e = e
    by false e = broken_says front xs e c
