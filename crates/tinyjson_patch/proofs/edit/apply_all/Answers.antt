use Rattle.std.proofs.Common.{◌≡◌, ◌∷◌, Err, Some, length, map, arith, refl, ap, subst, sym, ◌∙◌}
use Rattle.tinyjson_patch.specs.Operation.{action_of, applied}
use Rattle.tinyjson_patch.specs.Running.{last_applied}
use Rattle.tinyjson_patch.specs.private.Applying.{Applies}
use Rattle.tinyjson_patch.specs.Copies.{copies}
use Rattle.tinyjson_patch.specs.private.Counting.{Takes}
use Rattle.tinyjson_patch.specs.private.Edited.{tree}
use Rattle.tinyjson_patch.proofs.Editing.Running.{fails, goes_on, told}
use Rattle.tinyjson_patch.proofs.Editing.Taken.{AreTaken, failed_within, one_taken, too_much}
use Rattle.tinyjson_patch.proofs.edit.apply_all.Goals as goal

pub loop-operation-init : goal.loop-operation-init
loop-operation-init c = ((omega arith, refl), refl)

pub loop-operation-smaller : goal.loop-operation-smaller
loop-operation-smaller c =
    let n : length c.loop-operation.rest.now ≡ length (c.in-Some.operation.now ∷ c.in-Some.others.now)
    = ap length c.in-Some.ensures.cases.0 in
    omega (arith, n)

pub loop-operation-preserved : goal.loop-operation-preserved
loop-operation-preserved c =
    let l = c.loop-operation in
    let s = tree l.value in
    let s' = tree c.apply_to.new.target in
    let fits = subst (Takes l.left (copies (action_of c.in-Some.operation.now) s)) c.in-Some-2.is c.in_ok-others_left.ensures in (
      goes_on c.args.total c.args.operations.now l.rest.now c.in-Some.others.now c.in-Some.operation.now
          (tree c.args.value.now) s c.requires c.in-Some.ensures.cases.0 l.invariant.0 s' c.in-Ok.ensures,
      one_taken c.args.left.now l.left c.args.operations.now l.rest.now c.in-Some.others.now c.in-Some.operation.now
          (tree c.args.value.now) s c.in-Some.ensures.cases.0 l.invariant.1 c.in-Some-2.others_left s' fits c.in-Ok.ensures,
    )

pub overflow_sub-result : goal.overflow_sub-result
overflow_sub-result c = omega (arith, c.loop-operation.invariant.0.0, c.requires)

pub returns-in_default-2-clause-takes : goal.returns-in_default-2-clause-takes
returns-in_default-2-clause-takes c =
    let l = c.loop-operation in
    let s = tree l.value in
    too_much c.args.left.now l.left c.args.operations.now l.rest.now c.in-Some.others.now c.in-Some.operation.now
    (tree c.args.value.now) s c.in-Some.ensures.cases.0 l.invariant.1
    (subst (Takes l.left (copies (action_of c.in-Some.operation.now) s)) c.in_default-2.is c.in_ok-others_left.ensures)

pub returns-in-Err-Failed-clause-runs : goal.returns-in-Err-Failed-clause-runs
returns-in-Err-Failed-clause-runs c =
    let s = tree c.loop-operation.value in
    let s' = tree c.apply_to.new.target in
    rw c.in-Err-Failed.field-0-is
    (fails c.args.total c.args.operations.now c.loop-operation.rest.now c.in-Some.others.now c.in-Some.operation.now
    (tree c.args.value.now) s c.requires c.in-Some.ensures.cases.0 c.loop-operation.invariant.0 c.in-Err-Failed.reason
    (subst (λ e. Applies (applied (action_of c.in-Some.operation.now) s) s (Err e) s') c.in-Err-Failed.field-0-is
    c.in-Err-Failed.ensures))

pub returns-in-Err-Failed-clause-takes : goal.returns-in-Err-Failed-clause-takes
returns-in-Err-Failed-clause-takes c =
    let l = c.loop-operation in
    let s = tree l.value in
    let s' = tree c.apply_to.new.target in
    let fits = subst (Takes l.left (copies (action_of c.in-Some.operation.now) s)) c.in-Some-2.is c.in_ok-others_left.ensures in
    failed_within c.args.left.now l.left c.args.operations.now l.rest.now c.in-Some.others.now c.in-Some.operation.now
    (tree c.args.value.now) s c.in-Some.ensures.cases.0 l.invariant.1 c.in-Some-2.others_left c.in-Err-Failed.reason fits
    (subst (λ e. Applies (applied (action_of c.in-Some.operation.now) s) s (Err e) s') c.in-Err-Failed.field-0-is
    c.in-Err-Failed.ensures)

pub returns-in-Err-TakenApart-clause-runs : goal.returns-in-Err-TakenApart-clause-runs
returns-in-Err-TakenApart-clause-runs c =
    let s = tree c.loop-operation.value in
    let s' = tree c.apply_to.new.target in
    let h = told c.args.total c.args.operations.now c.loop-operation.rest.now (tree c.args.value.now) s c.loop-operation.invariant.0 in
    let same = subst (λ e. Applies (applied (action_of c.in-Some.operation.now) s) s (Err e) s') c.in-Err-TakenApart.field-0-is
    c.in-Err-TakenApart.ensures in
    (h.0, h.1 ∙ ap (last_applied c.args.total (map action_of c.loop-operation.rest.now)) (sym same))

pub returns-in-Err-TakenApart-clause-takes : goal.returns-in-Err-TakenApart-clause-takes
returns-in-Err-TakenApart-clause-takes c =
    let l = c.loop-operation in
    let s = tree l.value in
    let s' = tree c.apply_to.new.target in
    let same = subst (λ e. Applies (applied (action_of c.in-Some.operation.now) s) s (Err e) s') c.in-Err-TakenApart.field-0-is
    c.in-Err-TakenApart.ensures in
    subst (AreTaken c.args.left.now l.left c.args.operations.now (tree c.args.value.now) l.rest.now) (sym same) l.invariant.1

pub returns-clause-runs : goal.returns-clause-runs
returns-clause-runs c =
    told c.args.total c.args.operations.now c.loop-operation.rest.now (tree c.args.value.now) (tree c.loop-operation.value)
    c.loop-operation.invariant.0

pub returns-clause-takes : goal.returns-clause-takes
returns-clause-takes c = c.loop-operation.invariant.1
