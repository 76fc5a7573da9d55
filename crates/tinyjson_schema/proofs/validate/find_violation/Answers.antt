use Rattle.std.proofs.Common.{subst}
use Rattle.tinyjson_view.specs.Views.{tree_of}
use Rattle.tinyjson_schema.specs.Valid.{root_of, Judges}
use Rattle.tinyjson_schema.proofs.Validity.{answered, agreed}
use Rattle.tinyjson_schema.proofs.validate.find_violation.Goals as goal

pub returns-clause-judged : goal.returns-clause-judged
returns-clause-judged c =
    let v = tree_of c.args.value.now in
    answered c.args.walk.steps (root_of c.args.walk) v c.violation_of.result
    (subst (λ x. Judges c.args.walk x v c.violation_of.result) c.by-here.ensures c.violation_of.ensures)

pub returns-clause-only : goal.returns-clause-only
returns-clause-only c =
    let v = tree_of c.args.value.now in
    agreed c.args.walk.steps (root_of c.args.walk) v c.violation_of.result
    (subst (λ x. Judges c.args.walk x v c.violation_of.result) c.by-here.ensures c.violation_of.ensures)
