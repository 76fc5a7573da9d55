use Rattle.std.proofs.Common.{◌&&◌, ◌+◌, true, false, drop, sym, ap, ◌∙◌, refl}
use Rattle.tinyjson_view.specs.Views.{tree_of}
use Rattle.tinyjson_schema_keywords.proofs.Callers.{turn_next, turn_stop, turn_end}
use Rattle.tinyjson_schema_table.specs.Givens.{meets_given}
use Rattle.tinyjson_schema_table.proofs.Givens.{had_unmet}
use Rattle.tinyjson_schema_table.proofs.constraints.unmet_given.Goals as goal

pub loop-one-preserved : goal.loop-one-preserved
loop-one-preserved c =
    let t = tree_of c.args.value.now in
    let gs = c.args.given.now in
    let i = c.loop-one.one-index in
    turn_next (λ xs. meets_given xs t) gs i c.one-item.result c.loop-one-test.true c.one-item.is
    (ap (λ b. b && meets_given (drop (i + 1) gs) t) (sym c.in_ok-is_met.ensures ∙ c.if-not-is_met.false)) c.loop-one.invariant

pub returns-then-not-is_met : goal.returns-then-not-is_met
returns-then-not-is_met c s had all =
    let t = tree_of c.args.value.now in
    let gs = c.args.given.now in
    let i = c.loop-one.one-index in
    let unmet = sym c.in_ok-is_met.ensures ∙ c.if-not-is_met.true in (
      had_unmet s t gs i c.one-item.result c.loop-one-test.true c.one-item.is had unmet,
      sym (all t) ∙ sym (turn_stop (λ xs. meets_given xs t) gs i false c.one-item.result c.loop-one-test.true c.one-item.is
          (ap (λ b. b && meets_given (drop (i + 1) gs) t) unmet) c.loop-one.invariant),
    )

pub returns : goal.returns
returns c s had all =
    let t = tree_of c.args.value.now in
    sym (all t) ∙ turn_end (λ xs. meets_given xs t) c.args.given.now c.loop-one.one-index true c.loop-one-test.false refl
    c.loop-one.invariant
