use Rattle.std.proofs.Common.{◌∙◌, ap, take, drop, length, subst, sym, ◌≤◌}
use Rattle.text_uri.proofs.Cuts.{take_before, drop_before, before_at_most}
use Rattle.text_uri.proofs.cutting.cut.Goals as goal

pub returns : goal.returns
returns g c =
    let p = g.E.Ends.ends c.args.end in
    let text = c.args.text.now in
    record {
      front = c.split_at.ensures.front ∙ (ap (λ n. take n text) c.end_in.ensures ∙ take_before p text);
      rest = c.split_at.ensures.back ∙ (ap (λ n. drop n text) c.end_in.ensures ∙ drop_before p text);
    }

pub split_at-requires : goal.split_at-requires
split_at-requires g c = subst (λ n. n ≤ length c.args.text.now) (sym c.end_in.ensures) (before_at_most (g.E.Ends.ends c.args.end) c.args.text.now)
