use Rattle.std.proofs.Common.{◌∙◌, None, refl, sym}
use Rattle.text_regexp.specs.Forms.{concat}
use Rattle.text_regexp.specs.Marked.{tree_form}
use Rattle.text_regexp.proofs.Building.{empty_form, means_concat, means_left, means_right}
use Rattle.text_regexp.proofs.Kept.{kept_concat, plain_both, standing_both}
use Rattle.text_regexp.proofs.expression.Expression.concat.Goals as goal

pub invariant_of-result : goal.invariant_of-result
invariant_of-result c =
    let l = c.args.left in
    let r = c.args.right in
    let el = c.in_ok-new.ensures.ok in
    let er = c.in_ok-new-2.ensures.ok in record {
      kept = kept_concat l.root r.root c.in_ok-new.field-0.value c.in_ok-new-2.field-0.value c.skips-left_empty.result
          c.skips-right_empty.result el er l.kept l.unmarked r.kept r.unmarked c.skips-left_empty.ensures c.skips-right_empty.ensures;
      unmarked = refl;
      has = plain_both l.root r.root _ _ l.plain r.plain el er l.has r.has;
      stood = standing_both l.root r.root _ _ None None el er l.stood r.stood;
    }

pub returns-then-is_empty : goal.returns-then-is_empty
returns-then-is_empty c = λ f g m k.
    means_right c.args.left c.args.right f g (empty_form c.args.left.root (sym c.is_empty.ensures ∙ c.if-is_empty.true)) m k

pub returns-then-is_empty-2 : goal.returns-then-is_empty-2
returns-then-is_empty-2 c = λ f g m k.
    means_left c.args.left c.args.right f g (empty_form c.args.right.root (sym c.is_empty-2.ensures ∙ c.if-is_empty-2.true)) m k

pub returns : goal.returns
returns c = λ f g m k. means_concat c.args.left c.args.right _ f g
    (λ i. concat (tree_form (c.in_ok-new.ensures.ok i)) (tree_form (c.in_ok-new-2.ensures.ok i))) m k
