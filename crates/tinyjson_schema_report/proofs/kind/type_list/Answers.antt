use Rattle.std.proofs.Common.{◌++◌, ◌∙◌, ap, codes}
use Rattle.tinyjson_schema_report.specs.Kinds.{type_name}
use Rattle.tinyjson_schema_report.proofs.Joining.{first_joined, one_joined, all_joined}
use Rattle.tinyjson_schema_report.proofs.kind.type_list.Goals as goal

pub loop-name-init : goal.loop-name-init
loop-name-init c = first_joined (codes " or ") type_name _ _ c.in-Some.first.now _ c.in-Some.ensures.cases.0 c.in_ok-words.ensures

pub loop-name-preserved : goal.loop-name-preserved
loop-name-preserved c =
    one_joined (codes " or ") type_name _ c.loop-name.name-index c.name-item.result _ _ c.as_str.result.now _
    c.loop-name-test.true c.name-item.is
    (c.in_ok-push_str-2.ensures.bytes ∙ ap (λ x. x ++ c.as_str.result.now) c.in_ok-push_str.ensures.bytes)
    (c.as_str.ensures.value ∙ c.in_ok-one.ensures) c.loop-name.invariant

pub returns : goal.returns
returns c = all_joined (codes " or ") type_name _ c.loop-name.name-index _ _ c.loop-name-test.false c.loop-name.invariant
