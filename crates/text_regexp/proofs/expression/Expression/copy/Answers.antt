use Rattle.std.proofs.Common.{◌∙◌, None, sym}
use Rattle.text_regexp.proofs.Kept.{kept_copy, standing_copy}
use Rattle.text_regexp.proofs.expression.Expression.copy.Goals as goal

pub invariant_of-result : goal.invariant_of-result
invariant_of-result c =
    let x = c.args.self.now in
    let copied = c.in_ok-copy.ensures in
    record {
      kept = kept_copy x.root _ copied x.kept;
      unmarked = copied.marked ∙ x.unmarked;
      has = x.has ∙ sym copied.plain;
      stood = standing_copy x.root _ None None copied x.stood;
    }
