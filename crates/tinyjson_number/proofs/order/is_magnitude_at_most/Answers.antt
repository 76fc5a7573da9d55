use mir.Syntax.{w128}
use Rattle.std.proofs.Common.{to_z, of_z, ◌∙◌, length, ap, sym, arith, true≢false}
use Rattle.std.proofs.lemmas.Int.{ints}
use Rattle.std.specs.Cmp.Lexicographic.{slice_cmp}
use Rattle.std.specs.Ordering.{nat_cmp, is_le}
use Rattle.tinyjson_number.proofs.Decimals.{zero_least, not_under_zero, by_place, by_same_place}
use Rattle.tinyjson_number.proofs.order.is_magnitude_at_most.Goals as goal

pub returns-then-is_zero : goal.returns-then-is_zero
returns-then-is_zero c = zero_least c.args.number.now.decimal c.args.other.now.decimal c.args.number.now.canonical
    c.args.other.now.canonical (c.is_zero.ensures.0 c.if-is_zero.true)

pub returns-then-is_zero-2 : goal.returns-then-is_zero-2
returns-then-is_zero-2 c =
    not_under_zero c.args.number.now.decimal c.args.other.now.decimal c.args.number.now.canonical c.args.other.now.canonical
    (λ e. true≢false (sym (c.is_zero.ensures.1 e) ∙ c.if-is_zero.false)) (c.is_zero-2.ensures.0 c.if-is_zero-2.true)

pub returns-then-place-other_place : goal.returns-then-place-other_place
returns-then-place-other_place c =
    by_place c.args.number.now.decimal c.args.other.now.decimal c.args.number.now.canonical c.args.other.now.canonical
    (λ e. true≢false (sym (c.is_zero.ensures.1 e) ∙ c.if-is_zero.false))
    (λ e. true≢false (sym (c.is_zero-2.ensures.1 e) ∙ c.if-is_zero-2.false))
    (to_z w128 (of_z w128 c.first_place-place.result)) (to_z w128 (of_z w128 c.first_place-other_place.result))
    (omega (arith, ints, ap length c.digits-digits.ensures)) (omega (arith, ints, ap length c.digits-others.ensures))
    (λ e. omega (arith, ints, e))

pub returns : goal.returns
returns c =
    let d = c.args.number.now.decimal in
    let e = c.args.other.now.decimal in
    c.le.ensures
    ∙ ((λ i. is_le (slice_cmp nat_cmp (c.digits-digits.ensures i) (c.digits-others.ensures i)))
    ∙ by_same_place d e c.args.number.now.canonical c.args.other.now.canonical
    (omega (arith, ints, ap length c.digits-digits.ensures, ap length c.digits-others.ensures)))
