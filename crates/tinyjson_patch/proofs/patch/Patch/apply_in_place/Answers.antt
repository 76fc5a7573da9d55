use Rattle.std.proofs.Common.{◌≡◌, ◌≤◌, ◌∷◌, map, length, arith, ap}
use Rattle.tinyjson.specs.View.{view}
use Rattle.tinyjson_patch.specs.Patch.{actions_of, all_applied, RunsAll}
use Rattle.tinyjson_patch.proofs.Documents.{error_back}
use Rattle.tinyjson_patch.proofs.Turns.{as_many, run_begins, run_on, run_over, fewer, stopped_at, stopped_beside}
use Rattle.tinyjson_patch.proofs.patch.Patch.apply_in_place.Goals as goal

pub loop-operation-init : goal.loop-operation-init
loop-operation-init c =
    let l = c.args.self.now.operations in
    run_begins c.len-total.result l.items c.as_slice-rest.result.now (view c.args.value.now)
    (omega (arith, l.small, l.ok, c.len-total.ensures)) c.as_slice-rest.ensures.value

pub overflow_sub-total : goal.overflow_sub-total
overflow_sub-total c = c.loop-operation.invariant.0

pub returns-in_err-apply_one : goal.returns-in_err-apply_one
returns-in_err-apply_one c =
    error_back (λ r. RunsAll (all_applied 0 (actions_of c.args.self.now) (view c.args.value.now)) r (view c.apply_one.new.value))
    c.from_residual.result c.in_err-apply_one.field-0.0 c.from_residual.ensures.1
    (stopped_at c.len-total.result c.loop-operation.rest.now c.in-Some.others.now c.in-Some.operation.now (view c.loop-operation.value)
    (all_applied 0 (actions_of c.args.self.now) (view c.args.value.now)) c.in-Some.ensures.cases.0 c.loop-operation.invariant.0
    c.loop-operation.invariant.1 c.in_err-apply_one.field-0.0 (view c.apply_one.new.value) c.in_err-apply_one.ensures)

pub apply_beside-requires : goal.apply_beside-requires
apply_beside-requires c =
    fewer c.len-total.result c.loop-operation.rest.now c.in-Some.others.now c.in-Some.operation.now (view c.loop-operation.value)
    (all_applied 0 (actions_of c.args.self.now) (view c.args.value.now)) c.in-Some.ensures.cases.0 c.loop-operation.invariant.0
    c.loop-operation.invariant.1

pub returns-in_err-rest : goal.returns-in_err-rest
returns-in_err-rest c =
    error_back (λ r. RunsAll (all_applied 0 (actions_of c.args.self.now) (view c.args.value.now)) r (view c.apply_beside.new.value))
    c.from_residual-in_err-rest.result c.in_err-rest.field-0.0 c.from_residual-in_err-rest.ensures.1
    (stopped_beside c.len-total.result c.loop-operation.rest.now c.in-Some.others.now c.in-Some.operation.now
    (view c.loop-operation.value) (all_applied 0 (actions_of c.args.self.now) (view c.args.value.now)) c.in-Some.ensures.cases.0
    c.loop-operation.invariant.0 c.loop-operation.invariant.1 c.in_err-rest.field-0.0 (view c.apply_one.new.value)
    (view c.apply_beside.new.value) c.in_ok-apply_one.ensures c.in_err-rest.ensures)

pub loop-operation-smaller : goal.loop-operation-smaller
loop-operation-smaller c =
    let h : length c.in_ok-rest.rest.now ≤ length (map _ c.in-Some.others.now) = c.in_ok-rest.ensures.0 in
    let n : length c.loop-operation.rest.now ≡ length (c.in-Some.operation.now ∷ c.in-Some.others.now)
    = ap length c.in-Some.ensures.cases.0 in
    omega (arith, h, n, as_many c.in-Some.others.now)

pub loop-operation-preserved : goal.loop-operation-preserved
loop-operation-preserved c =
    run_on c.len-total.result c.loop-operation.rest.now c.in-Some.others.now c.in-Some.operation.now (view c.loop-operation.value)
    (all_applied 0 (actions_of c.args.self.now) (view c.args.value.now)) c.in-Some.ensures.cases.0 c.loop-operation.invariant.0
    c.loop-operation.invariant.1 c.in_ok-rest.rest.now (view c.apply_one.new.value) (view c.apply_beside.new.value)
    c.in_ok-apply_one.ensures c.in_ok-rest.ensures

pub returns : goal.returns
returns c =
    run_over c.len-total.result c.loop-operation.rest.now (view c.loop-operation.value)
    (all_applied 0 (actions_of c.args.self.now) (view c.args.value.now)) c.in_default.ensures.cases c.loop-operation.invariant.1
