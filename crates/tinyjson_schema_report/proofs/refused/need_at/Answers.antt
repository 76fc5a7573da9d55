use Rattle.std.proofs.Common.{◌∙◌, option_map, sym, ap}
use Rattle.tinyjson_schema_report.specs.Refused.{need_of}
use Rattle.tinyjson_schema_report.proofs.Needing.{went_on, went_nowhere, went}
use Rattle.tinyjson_schema_report.proofs.refused.need_at.Goals as goal

pub loop-token-preserved : goal.loop-token-preserved
loop-token-preserved c =
    went_on c.args.tokens.now c.loop-token.token-index (need_of c.loop-token.here) _
    c.token-item.result (need_of c.in-Some.next) c.loop-token-test.true c.token-item.is
    (ap (option_map need_of) (sym c.in-Some.is) ∙ c.in_ok-next.ensures) c.loop-token.invariant

pub returns-in_default : goal.returns-in_default
returns-in_default c =
    went_nowhere c.args.tokens.now c.loop-token.token-index (need_of c.loop-token.here) _
    c.token-item.result c.loop-token-test.true c.token-item.is
    (ap (option_map need_of) (sym c.in_default.is) ∙ c.in_ok-next.ensures) c.loop-token.invariant

pub returns : goal.returns
returns c =
    went c.args.tokens.now c.loop-token.token-index (need_of c.loop-token.here) _
    c.loop-token-test.false c.loop-token.invariant
