use Rattle.std.proofs.Common.{◌≡◌, true, rules, arith}
use Rattle.tinyjson_path_query.specs.Grammar.{is_digit}
use Rattle.tinyjson_path_query.proofs.Digits.{magnitude_over}
use Rattle.tinyjson_path_query.proofs.lexical.magnitude.Goals as goal

pub returns-then-value-gt-GREATEST_EXACT-clause-read : goal.returns-then-value-gt-GREATEST_EXACT-clause-read
returns-then-value-gt-GREATEST_EXACT-clause-read c = λ _.
    let digit : is_digit c.in-Some-split_first.next.now ≡ true = search rules in
    magnitude_over c.args.text.now _ _ _ c.in-Some.first.now _ _ c.in-Some-split_first.next.now c.in-Some.ensures.cases.0 (omega arith)
    c.loop-next.invariant.same c.in-Some-split_first.ensures.cases.0 digit (omega arith)
