use Rattle.std.proofs.Common.{◌∙◌, None, ap, sym}
use Rattle.text_regexp.specs.Marked.{is_kept, is_marked, is_plain, is_standing, tree_form}
use Rattle.text_regexp.proofs.Kept.{kept_from, stands_from}
use Rattle.text_regexp.proofs.expression.Expression.searches.Goals as goal

pub matches_part-requires-clause-kept : goal.matches_part-requires-clause-kept
matches_part-requires-clause-kept c = kept_from c.args.self.now.root c.args.self.now.kept

pub matches_part-requires-clause-stood : goal.matches_part-requires-clause-stood
matches_part-requires-clause-stood c = stands_from None None c.args.self.now.root c.args.self.now.stood

pub invariant_of-self : goal.invariant_of-self
invariant_of-self c =
    let same = c.matches_part.ensures.same in
    let x = c.args.self.now in record {
      kept = ap is_kept same ∙ x.kept;
      unmarked = ap is_marked same ∙ x.unmarked;
      has = x.has ∙ ap is_plain (sym same);
      stood = ap (is_standing None None) same ∙ x.stood;
    }

pub returns-clause-same : goal.returns-clause-same
returns-clause-same c = ap tree_form c.matches_part.ensures.same
