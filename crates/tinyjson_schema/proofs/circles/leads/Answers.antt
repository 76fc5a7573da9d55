use Rattle.std.proofs.Common.{◌∙◌, sym}
use Rattle.tinyjson_schema.proofs.Remembering.{some_or, none_or}
use Rattle.tinyjson_schema.proofs.circles.leads.Goals as goal

pub returns-in-Some-clause-is : goal.returns-in-Some-clause-is
returns-in-Some-clause-is c = some_or _ _ _ _ (sym c.in-Some.is ∙ c.in_ok-settled.ensures.is)

pub returns-in-None-clause-is : goal.returns-in-None-clause-is
returns-in-None-clause-is c = none_or _ _ _ (sym c.in-None.is ∙ c.in_ok-settled.ensures.is)
