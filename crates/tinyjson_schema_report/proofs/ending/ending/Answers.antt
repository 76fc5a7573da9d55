use Rattle.std.proofs.Common.{◌∙◌, option_map, sym, ap}
use Rattle.tinyjson.specs.View.{view}
use Rattle.tinyjson_schema_report.specs.Ends.{ending}
use Rattle.tinyjson_schema_report.proofs.TokenSteps.{led_on, led_nowhere, led}
use Rattle.tinyjson_schema_report.proofs.ending.ending.Goals as goal

pub loop-token-preserved : goal.loop-token-preserved
loop-token-preserved c =
    led_on (view c.args.walk.whole.now.root.now) c.args.tokens.now c.loop-token.token-index (ending c.loop-token.here) _
    c.token-item.result (ending c.in-Some.next) c.loop-token-test.true c.token-item.is
    (ap (option_map ending) (sym c.in-Some.is) ∙ c.in_ok-next.ensures) c.loop-token.invariant

pub returns-in_default : goal.returns-in_default
returns-in_default c =
    led_nowhere (view c.args.walk.whole.now.root.now) c.args.tokens.now c.loop-token.token-index (ending c.loop-token.here) _
    c.token-item.result c.loop-token-test.true c.token-item.is
    (ap (option_map ending) (sym c.in_default.is) ∙ c.in_ok-next.ensures) c.loop-token.invariant

pub returns : goal.returns
returns c =
    led (view c.args.walk.whole.now.root.now) c.args.tokens.now c.loop-token.token-index (ending c.loop-token.here) _
    c.loop-token-test.false c.loop-token.invariant
