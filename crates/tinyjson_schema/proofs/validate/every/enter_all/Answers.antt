use Rattle.std.proofs.Common.{◌∙◌, sym, ap}
use Rattle.tinyjson_schema_keywords.proofs.Callers.{drop_end}
use Rattle.tinyjson_schema.specs.Every.{spot_of}
use Rattle.tinyjson_schema.specs.Steps.{placed}
use Rattle.tinyjson_schema.proofs.Adding.{placed_turn}
use Rattle.tinyjson_schema.proofs.validate.every.enter_all.Goals as goal

pub loop-step-preserved : goal.loop-step-preserved
loop-step-preserved c =
    placed_turn c.args.path.now c.loop-step.step-index _ (spot_of c.loop-step.violation) (spot_of c.enter.new.violation) _
    c.loop-step-test.true c.in_ok-enter.ensures c.loop-step.invariant

pub returns : goal.returns
returns c =
    sym (ap (λ ps. placed ps (spot_of c.loop-step.violation)) (drop_end c.args.path.now c.loop-step.step-index c.loop-step-test.false))
    ∙ c.loop-step.invariant
