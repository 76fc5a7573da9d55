use Rattle.std.proofs.Common.{◌∙◌, option_map, Some, None, sym, ap}
use Rattle.tinyjson.specs.View.{view, text}
use Rattle.tinyjson_schema_report.specs.Ends.{ending}
use Rattle.tinyjson_schema_report.proofs.TokenSteps.{went_on}
use Rattle.tinyjson_schema_report.proofs.ending.after.Goals as goal

pub returns-in_default : goal.returns-in_default
returns-in_default c =
    went_on (view c.args.walk.whole.now.root.now) (ending c.args.here) (text c.args.token.now) c.keyword_in-keyword.result None
    c.keyword_in-keyword.ensures (ap (option_map (λ x. view x.now)) (sym c.in_default.is) ∙ c.in_ok-value.ensures)

pub returns : goal.returns
returns c =
    went_on (view c.args.walk.whole.now.root.now) (ending c.args.here) (text c.args.token.now) c.keyword_in-keyword.result
    (Some (view c.in-Some.value.now)) c.keyword_in-keyword.ensures
    (ap (option_map (λ x. view x.now)) (sym c.in-Some.is) ∙ c.in_ok-value.ensures)
