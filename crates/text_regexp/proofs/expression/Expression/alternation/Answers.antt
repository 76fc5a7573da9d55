use Rattle.std.proofs.Common.{None, refl}
use Rattle.text_regexp.specs.Marked.{tree_form}
use Rattle.text_regexp.specs.Forms.{alternation}
use Rattle.text_regexp.proofs.Building.{means_alternation}
use Rattle.text_regexp.proofs.Kept.{kept_alternation, plain_both, standing_both}
use Rattle.text_regexp.proofs.expression.Expression.alternation.Goals as goal

pub invariant_of-result : goal.invariant_of-result
invariant_of-result c =
    let l = c.args.left in
    let r = c.args.right in
    let el = c.in_ok-new.ensures.ok in
    let er = c.in_ok-new-2.ensures.ok in record {
      kept = kept_alternation l.root r.root _ _ el er l.kept l.unmarked r.kept r.unmarked;
      unmarked = refl;
      has = plain_both l.root r.root _ _ l.plain r.plain el er l.has r.has;
      stood = standing_both l.root r.root _ _ None None el er l.stood r.stood;
    }

pub returns : goal.returns
returns c = λ f g m k. means_alternation c.args.left c.args.right _ f g
    (λ i. alternation (tree_form (c.in_ok-new.ensures.ok i)) (tree_form (c.in_ok-new-2.ensures.ok i))) m k
