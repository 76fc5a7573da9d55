use Rattle.std.proofs.Common.{◌≡◌, ◌<◌, ◌^◌, nat_le, true, true≢false, Some, length, refl, sym, ◌∙◌, arith}
use Rattle.std.proofs.lemmas.Bool.Decides.{nat_tests}
use Rattle.std.specs.Str.{chars}
use Rattle.tinyjson.specs.View.{view}
use Rattle.tinyjson_schema_assertions.proofs.Counts.{counted_at_least}
use Rattle.tinyjson_schema_assertions.proofs.Lengths.{characters_at_least, characters_at_most}
use Rattle.tinyjson_schema_assertions.proofs.assertion.is_surely_at_least.Goals as goal

pub returns-in-None : goal.returns-in-None
returns-in-None c h = absurd (true≢false (sym h))

pub returns-in-Some : goal.returns-in-Some
returns-in-Some c h =
    let bs = c.args.text.now in
    let few = characters_at_most bs c.utf8.text in
    let many = characters_at_least bs c.utf8.text in
    let less : nat_le c.in-Some.least (length (chars bs)) ≡ true = grind (arith, nat_tests, c.len.ensures) in
    let fits : length (chars bs) < 2 ^ 64 = omega (arith, few, c.len.ensures, c.len.type_inv) in
    sym less ∙ counted_at_least (Some (length (chars bs))) (length (chars bs)) c.in-Some.least (view c.args.limit.now) refl
    c.in-Some.ensures.is fits c.in-Some.ensures.range
