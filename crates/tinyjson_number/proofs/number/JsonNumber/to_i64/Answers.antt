use Rattle.std.proofs.Common.{◌≡◌, false, ℕ, ap, ◌∙◌, arith, rules}
use Rattle.tinyjson_number.specs.Integer.{whole_decimal}
use Rattle.tinyjson_number.proofs.Integers.{no_integer, no_positive, negated}
use Rattle.tinyjson_number.proofs.number.JsonNumber.to_i64.Goals as goal

pub returns-then-magnitude-clause-value : goal.returns-then-magnitude-clause-value
returns-then-magnitude-clause-value c = search (no_integer, c.in_ok-magnitude.ensures)

pub returns-then-magnitude-2-clause-value : goal.returns-then-magnitude-2-clause-value
returns-then-magnitude-2-clause-value c =
    let m : ℕ = c.in_ok-magnitude.magnitude in
    let sign : c.args.self.now.decimal.negative ≡ false = search rules in
    let is : c.args.self.now.decimal ≡ whole_decimal false m = c.in_ok-magnitude.ensures ∙ ap (λ b. whole_decimal b m) sign in
    no_positive c.args.self.now.decimal m is (omega arith) (omega arith)

pub returns-then-is_negative-clause-value : goal.returns-then-is_negative-clause-value
returns-then-is_negative-clause-value c = search (rules, negated)
