use Rattle.std.proofs.lemmas.List.{nil_from_length}
use Rattle.std.proofs.Common.{arith, ◌≡◌, Some}
use Rattle.tinyjson_pointer.specs.Index.{index_of}
use Rattle.tinyjson_diff.proofs.Steps.{appending_begins, appending_ends, appending_next}
use Rattle.tinyjson_diff.proofs.step.append_of_item.Goals as goal

pub loop-step-init : goal.loop-step-init
loop-step-init c =
    appending_begins (λ k. index_of k ≡ Some c.args.index) c.args.steps.now.items c.args.inner.items c.from_vec-rest.result.items
    c.from_vec-rest.ensures.items

pub loop-step-preserved : goal.loop-step-preserved
loop-step-preserved c =
    let before = c.in_ok-prepend_index.ensures.ok in
    appending_next (λ k. index_of k ≡ Some c.args.index) c.args.steps.now.items c.args.inner.items c.loop-step.rest.items
    c.loop-step.steps.items c.push.new.self.items c.pop_front.new.self.items c.in-Some.step c.prepend_index.new.self before.token
    c.loop-step.invariant c.in-Some.ensures.items before.named before.joined c.in_ok-push.ensures.items

pub returns : goal.returns
returns c =
    appending_ends (λ k. index_of k ≡ Some c.args.index) c.args.steps.now.items c.args.inner.items c.loop-step.rest.items
    c.loop-step.steps.items
    (nil_from_length c.loop-step.rest.items (omega (arith, c.loop-step.rest.ok, c.in_default.ensures.cases.0))) c.loop-step.invariant
