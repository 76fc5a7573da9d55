use Rattle.std.proofs.Common.{◌≡◌, ◌∙◌, sym, ap, subst}
use Rattle.tinyjson.proofs.Callers.{view_Object}
use Rattle.tinyjson.specs.Soundness.{IsSorted}
use Rattle.tinyjson.specs.Tree.{object}
use Rattle.tinyjson.specs.View.{view, members_listed}
use Rattle.tinyjson_schema_keywords.specs.declared.keyword.Form.TheVariants as form
use Rattle.tinyjson_schema_keywords.proofs.Callers.{listed_sorted}
use Rattle.tinyjson_schema_assertions.specs.Operands.{has_patterns}
use Rattle.tinyjson_schema.specs.Refused.{Refuses}
use Rattle.tinyjson_schema.proofs.Refusals.{no_patterns}
use Rattle.tinyjson_schema.proofs.refused.refused_pattern.Goals as goal

pub refused_key-requires : goal.refused_key-requires
refused_key-requires c = subst (λ xs. IsSorted (members_listed xs)) (sym c.as_slice.ensures.value)
    (listed_sorted c.in_ok-sorted-in-Object.sorted.items c.in-Object.schemas c.in_ok-sorted-in-Object.ensures)

pub returns-in_ok-sorted-in-Object : goal.returns-in_ok-sorted-in-Object
returns-in_ok-sorted-in-Object c = λ root whole.
    let same : object (members_listed c.as_slice.result.now) ≡ view c.args.schemas.now
    = ap object (ap members_listed c.as_slice.ensures.value ∙ c.in_ok-sorted-in-Object.ensures)
    ∙ sym (ap view c.in-Object.is ∙ view_Object c.in-Object.schemas) in
    subst (λ x. Refuses (has_patterns x) root whole form.PatternMap x c.refused_key.result) same (c.refused_key.ensures root whole)

pub returns-in_default : goal.returns-in_default
returns-in_default c = λ root whole.
    no_patterns root whole c.args.schemas.now c.whole_place.result c.in_default.not-Object c.whole_place.ensures
