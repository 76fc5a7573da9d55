use Rattle.std.proofs.Common.{arith, ◌≤◌, ◌^◌, option_map, ap, ◌∙◌}
use Rattle.std.proofs.lemmas.Grind.{common_steps}
use Rattle.std.proofs.lemmas.Option.{slice_get_cases}
use Rattle.std.specs.Str.{chars}
use Rattle.tinyjson.specs.View.{view}
use Rattle.tinyjson_pointer.proofs.Steps.{step_object, step_item, step_past}
use Rattle.tinyjson_pointer.proofs.walk.child.Goals as goal

pub returns-in-Object : goal.returns-in-Object
returns-in-Object c = step_object c.args.value.now c.in-Object.members c.args.token.now c.get.result c.in-Object.is c.utf8.token
    c.get.ensures.value

pub returns-in_ok-index-in-Array : goal.returns-in_ok-index-in-Array
returns-in_ok-index-in-Array c =
    let i = c.in_ok-index-in-Array.field-0 in
    step_item c.args.value.now c.in-Array.items (chars c.args.token.now) i c.get-in-Array.result c.in-Array.is
    c.in_ok-index-in-Array.ensures (grind (arith, common_steps, slice_get_cases c.in-Array.items.items i))

pub returns-in_err-index-in-Array : goal.returns-in_err-index-in-Array
returns-in_err-index-in-Array c =
    let past = step_past c.args.value.now c.in-Array.items (chars c.args.token.now) c.in-Array.is (λ i e. let h : 2 ^ 64 ≤ i =
    c.in_err-index-in-Array.ensures i e in omega (arith, c.in-Array.items.small, c.in-Array.items.ok)) in
    ap (option_map (λ x. view x.now)) c.from_residual.ensures ∙ past
