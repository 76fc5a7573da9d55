use Rattle.std.proofs.Common.{◌≡◌, ◌∷◌, Err, length, arith, refl, ap, subst}
use Rattle.tinyjson_pointer.specs.Tokens.{tokens_of}
use Rattle.tinyjson_patch.specs.Operation.{action_of}
use Rattle.tinyjson_patch.specs.Running.{AppliesAmong}
use Rattle.tinyjson_patch.proofs.Turns.{remains_after, remains_failed, remains_told}
use Rattle.tinyjson_patch.proofs.run.apply_among.Goals as goal

pub loop-operation-init : goal.loop-operation-init
loop-operation-init c = (omega arith, λ t s there. refl)

pub loop-operation-smaller : goal.loop-operation-smaller
loop-operation-smaller c =
    let n : length c.loop-operation.rest.now ≡ length (c.in-Some.operation.now ∷ c.in-Some.others.now)
    = ap length c.in-Some.ensures.cases.0 in
    omega (arith, n)

pub loop-operation-preserved : goal.loop-operation-preserved
loop-operation-preserved c =
    remains_after c.args.total c.args.operations.now c.loop-operation.rest.now c.in-Some.others.now c.in-Some.operation.now
    (tokens_of c.args.place.now) c.args.items.now.items c.loop-operation.items.items c.requires c.in-Some.ensures.cases.0
    c.loop-operation.invariant c.is_among.result c.is_among.ensures c.if-not-is_among.false c.apply_to_items.new.items.items
    c.in-Ok.ensures

pub overflow_sub-result : goal.overflow_sub-result
overflow_sub-result c = omega (arith, c.loop-operation.invariant.0, c.requires)

pub returns-in-Err-Failed : goal.returns-in-Err-Failed
returns-in-Err-Failed c = λ t s there.
    let us = c.apply_to_items.new.items.items in
    rw c.in-Err-Failed.field-0-is
    (remains_failed c.args.total c.args.operations.now c.loop-operation.rest.now c.in-Some.others.now c.in-Some.operation.now
    (tokens_of c.args.place.now) c.args.items.now.items c.loop-operation.items.items c.requires c.in-Some.ensures.cases.0
    c.loop-operation.invariant c.is_among.result c.is_among.ensures c.if-not-is_among.false us c.in-Err-Failed.reason
    (subst (λ e. AppliesAmong (action_of c.in-Some.operation.now) c.loop-operation.items.items (Err e) us)
    c.in-Err-Failed.field-0-is c.in-Err-Failed.ensures) t s there)

pub returns-then-not-is_among : goal.returns-then-not-is_among
returns-then-not-is_among c =
    remains_told c.args.total c.args.operations.now c.loop-operation.rest.now (tokens_of c.args.place.now) c.args.items.now.items
    c.loop-operation.items.items c.loop-operation.invariant

pub returns : goal.returns
returns c =
    remains_told c.args.total c.args.operations.now c.loop-operation.rest.now (tokens_of c.args.place.now) c.args.items.now.items
    c.loop-operation.items.items c.loop-operation.invariant
