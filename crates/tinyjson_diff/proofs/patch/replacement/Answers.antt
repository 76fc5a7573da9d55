use Rattle.std.proofs.Common.{◌≡◌, ◌∙◌, ◌++◌, ◌∷◌, [], sym, ap, subst, true≢false}
use Rattle.tinyjson.specs.Equality.{tree_eq_Decides}
use Rattle.tinyjson.specs.View.{view}
use Rattle.tinyjson_view.specs.Views.{tree_of}
use Rattle.tinyjson_patch.specs.Operation.{replace}
use Rattle.tinyjson_diff.specs.Steps.{actions_of, Changes}
use Rattle.tinyjson_diff.specs.declared.step.Change.TheVariants as change
use Rattle.tinyjson_diff.proofs.Leading.{no_changes, whole_change}
use Rattle.tinyjson_diff.proofs.patch.replacement.Goals as goal

pub returns-then-equals : goal.returns-then-equals
returns-then-equals c = λ room may.
    let t = tree_of c.args.old in
    let u = tree_of c.args.new in
    subst (λ l. Changes room t u (actions_of l)) (sym c.new-steps.ensures.items)
    (no_changes room t u ((tree_eq_Decides t u).0 (sym c.equals.ensures ∙ c.if-equals.true)))

pub returns : goal.returns
returns c = λ room may.
    let t = tree_of c.args.old in
    let u = tree_of c.args.new in
    let differ : ¬ (t ≡ u) = λ e. true≢false (sym ((tree_eq_Decides t u).1 e) ∙ (sym c.equals.ensures ∙ c.if-equals.false)) in
    subst (Changes room t u)
    (sym (ap actions_of (c.in_ok-push.ensures.items
    ∙ ap (λ l. l ++ record { path = c.root.result; change = change.Replace c.in_ok-copy_of.field-0 } ∷ [])
    c.new-steps.ensures.items)
    ∙ (ap (λ p. replace p (view c.in_ok-copy_of.field-0) ∷ []) c.root.ensures ∙ ap (λ x. replace [] x ∷ []) c.in_ok-copy_of.ensures)))
    (whole_change room t u differ may)
