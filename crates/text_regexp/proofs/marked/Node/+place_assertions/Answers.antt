use Rattle.std.proofs.Common.{◌∙◌, ap}
use Rattle.text_regexp.specs.Marked.{standing}
use Rattle.text_regexp.proofs.Changes.{standing_alternation, standing_concat, standing_star}
use Rattle.text_regexp.proofs.marked.Node.+place_assertions.Goals as goal

pub returns-in-Concat-clause-stood : goal.returns-in-Concat-clause-stood
returns-in-Concat-clause-stood t c =
    let l = c.place_assertions-on_left.ensures in
    let r = c.place_assertions-on_right.ensures in
    let stand = standing c.args.before c.args.after in
    standing_concat c.args.before c.args.after c.args.self.now _ _ _ _ _ _ _ _ _ _ _ _ c.in-Concat.is
    (l.stood ∙ ap stand c.deref_mut.ensures.value) (r.stood ∙ ap stand c.deref_mut-in-Concat.ensures.value) l.skips r.skips l.ends

pub returns-in-Alternation-clause-stood : goal.returns-in-Alternation-clause-stood
returns-in-Alternation-clause-stood t c =
    let stand = standing c.args.before c.args.after in
    standing_alternation c.args.before c.args.after c.args.self.now _ _ _ _ _ _ c.in-Alternation.is
    (c.place_assertions-on_left-in-Alternation.ensures.stood ∙ ap stand c.deref_mut-in-Alternation.ensures.value)
    (c.place_assertions-on_right-in-Alternation.ensures.stood ∙ ap stand c.deref_mut-in-Alternation-2.ensures.value)

pub returns-in-Star-clause-stood : goal.returns-in-Star-clause-stood
returns-in-Star-clause-stood t c =
    let b = c.place_assertions-in_body.ensures in
    standing_star c.args.before c.args.after c.args.self.now _ _ _ _ c.in-Star.is
    (b.stood ∙ ap (standing c.args.before c.args.after) c.deref_mut-in-Star.ensures.value) b.ends
