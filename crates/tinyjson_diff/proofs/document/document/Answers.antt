use Rattle.std.proofs.lemmas.List.{nil_from_length}
use Rattle.std.proofs.Common.{arith, sym, subst}
use Rattle.tinyjson.proofs.Callers.{view_Array}
use Rattle.tinyjson_patch.specs.Document.{IsPatch}
use Rattle.tinyjson_diff.specs.Steps.{actions_of}
use Rattle.tinyjson_diff.proofs.Documents.{IsMaking, making_begins, making_ends, making_next}
use Rattle.tinyjson_diff.proofs.document.document.Goals as goal

pub loop-step-init : goal.loop-step-init
loop-step-init c =
    subst (IsMaking c.args.steps.items c.from_vec-rest.result.items) (sym c.new-items.ensures.items)
    (making_begins c.args.steps.items c.from_vec-rest.result.items c.from_vec-rest.ensures.items)

pub loop-step-preserved : goal.loop-step-preserved
loop-step-preserved c =
    making_next c.args.steps.items c.loop-step.rest.items c.pop_front.new.self.items c.loop-step.items.items c.push.new.self.items
    c.in-Some.step c.in_ok-operation.field-0 c.loop-step.invariant c.in-Some.ensures.items c.in_ok-operation.ensures
    c.in_ok-push.ensures.items

pub returns : goal.returns
returns c = λ short.
    subst (λ t. IsPatch t (actions_of c.args.steps.items)) (sym (view_Array c.loop-step.items))
    (making_ends c.args.steps.items c.loop-step.rest.items c.loop-step.items.items
    (nil_from_length c.loop-step.rest.items (omega (arith, c.loop-step.rest.ok, c.in_default.ensures.cases.0)))
    c.loop-step.invariant short)
