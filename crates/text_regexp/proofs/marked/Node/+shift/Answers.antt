use Rattle.std.proofs.Common.{◌∙◌, ap, refl}
use Rattle.text_regexp.specs.Marked.{shifted}
use Rattle.text_regexp.proofs.Changes.{shifted_alternation, shifted_concat, shifted_star}
use Rattle.text_regexp.proofs.Marking.{shifted_still, ends_still}
use Rattle.text_regexp.proofs.marked.Node.+shift.Goals as goal

pub step-returns-then-not-start-marked-clause-marks : goal.step-returns-then-not-start-marked-clause-marks
step-returns-then-not-start-marked-clause-marks t c =
    shifted_still c.args.self.now c.args.start c.args.marked c.args.c c.requires.kept c.requires.marked c.if-not-start-marked.true

pub step-returns-then-not-start-marked-clause-ends : goal.step-returns-then-not-start-marked-clause-ends
step-returns-then-not-start-marked-clause-ends t c =
    ends_still c.args.self.now c.args.start c.args.marked c.requires.kept c.requires.marked c.if-not-start-marked.true

pub shift-returns-in-Concat-clause-marks : goal.shift-returns-in-Concat-clause-marks
shift-returns-in-Concat-clause-marks t c =
    let l = c.step-on_left.ensures in
    let r = c.step-on_right.ensures in
    let goes = c.args.start in
    shifted_concat goes c.args.c c.args.self.now _ _ _ _ _ _ _ _ _ _ _ _ c.in-Concat.is (l.marks ∙ ap (shifted goes c.args.c) c.deref_mut.ensures.value)
    (r.marks ∙ ap (shifted _ c.args.c) c.deref_mut-in-Concat.ensures.value) l.ends l.marked r.marked

pub shift-returns-in-Alternation-clause-marks : goal.shift-returns-in-Alternation-clause-marks
shift-returns-in-Alternation-clause-marks t c =
    let l = c.step-on_left-in-Alternation.ensures in
    let r = c.step-on_right-in-Alternation.ensures in
    let goes = c.args.start in
    shifted_alternation goes c.args.c c.args.self.now _ _ _ _ _ _ _ _ c.in-Alternation.is
    (l.marks ∙ ap (shifted goes c.args.c) c.deref_mut-in-Alternation.ensures.value)
    (r.marks ∙ ap (shifted goes c.args.c) c.deref_mut-in-Alternation-2.ensures.value) l.marked r.marked

pub shift-returns-in-Star-clause-marks : goal.shift-returns-in-Star-clause-marks
shift-returns-in-Star-clause-marks t c =
    let b = c.shift-in_body.ensures in
    shifted_star c.args.start c.args.c c.args.self.now _ _ _ _ c.in-Star.is (b.marks ∙ ap (shifted _ c.args.c) c.deref_mut-in-Star.ensures.value) b.ends

pub shift-returns-in-Concat-clause-marked : goal.shift-returns-in-Concat-clause-marked
shift-returns-in-Concat-clause-marked t c =
    refl

pub shift-returns-in-Alternation-clause-marked : goal.shift-returns-in-Alternation-clause-marked
shift-returns-in-Alternation-clause-marked t c =
    refl
