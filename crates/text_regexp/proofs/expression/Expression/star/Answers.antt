use Rattle.std.proofs.Common.{ap, ◌∙◌, None, sym}
use Rattle.text_regexp.specs.Forms.{repetition}
use Rattle.text_regexp.specs.Marked.{tree_form, is_marked, is_plain, is_standing}
use Rattle.text_regexp.proofs.Building.{means_star}
use Rattle.text_regexp.proofs.Kept.{kept_star}
use Rattle.text_regexp.proofs.expression.Expression.star.Goals as goal

pub invariant_of-result : goal.invariant_of-result
invariant_of-result c =
    let d = c.args.body in
    let e = c.in_ok-new.ensures.ok in record {
      kept = kept_star d.root _ e d.kept d.unmarked;
      unmarked = ap is_marked e ∙ d.unmarked;
      has = d.has ∙ ap is_plain (sym e);
      stood = ap (is_standing None None) e ∙ d.stood;
    }

pub returns : goal.returns
returns c = λ f m. means_star c.args.body _ f m (ap (λ n. repetition (tree_form n) 0 None) c.in_ok-new.ensures.ok)
