use Rattle.std.proofs.Common.{◌++◌, ◌∙◌, ap, codes}
use Rattle.tinyjson_schema_report.specs.Brief.{written}
use Rattle.tinyjson_schema_report.proofs.Joining.{first_joined, one_joined, all_joined}
use Rattle.tinyjson_schema_report.proofs.brief.listed.Goals as goal

pub loop-value-init : goal.loop-value-init
loop-value-init c = first_joined (codes ", ") written _ _ c.in-Some.first.now _ c.in-Some.ensures.cases.0 c.in_ok-text.ensures

pub loop-value-preserved : goal.loop-value-preserved
loop-value-preserved c =
    one_joined (codes ", ") written _ c.loop-value.value-index c.value-item.result _ _ c.as_str.result.now _
    c.loop-value-test.true c.value-item.is
    (c.in_ok-push_str-2.ensures.bytes ∙ ap (λ x. x ++ c.as_str.result.now) c.in_ok-push_str.ensures.bytes)
    (c.as_str.ensures.value ∙ c.in_ok-one.ensures) c.loop-value.invariant

pub returns : goal.returns
returns c = all_joined (codes ", ") written _ c.loop-value.value-index _ _ c.loop-value-test.false c.loop-value.invariant
