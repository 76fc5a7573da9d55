use Rattle.std.proofs.Common.{ap, sym, ◌∙◌}
use Rattle.text_regexp.specs.Marked.{behind, ends_here, placed}
use Rattle.text_regexp.proofs.Changes.{behind_alternation, behind_concat, placed_alternation, placed_concat}
use Rattle.text_regexp.proofs.Marking.{ends_unmarked}
use Rattle.text_regexp.proofs.marked.Node.+set_marks.Goals as goal

pub returns-then-first-eq0-clause-ends : goal.returns-then-first-eq0-clause-ends
returns-then-first-eq0-clause-ends t c =
    sym (ends_unmarked c.args.self.now c.requires.kept c.requires.unmarked) ∙ ap ends_here c.in-Concat.is

pub returns-then-first-eq0-2-clause-ends : goal.returns-then-first-eq0-2-clause-ends
returns-then-first-eq0-2-clause-ends t c =
    sym (ends_unmarked c.args.self.now c.requires.kept c.requires.unmarked) ∙ ap ends_here c.in-Alternation.is

pub returns-else-first-eq0-clause-marks : goal.returns-else-first-eq0-clause-marks
returns-else-first-eq0-clause-marks t c =
    let f = c.split-first-in-Concat.ensures in
    let l = c.set_marks.ensures in
    let r = c.set_marks-in-Concat.ensures in
    let at_l = c.deref_mut.ensures.value in
    let at_r = c.deref_mut-in-Concat.ensures.value in
    placed_concat c.args.self.now _ _ _ _ c.args.list.now _ _ _ _ _ _ _ _ _ _ _ c.in-Concat.is f.first c.if-first-eq0.false f.rest
    (l.marks ∙ ap (λ n. placed n c.split-first-in-Concat.result.1.now) at_l) (l.rest ∙ ap (λ n. behind n c.split-first-in-Concat.result.1.now) at_l)
    (r.marks ∙ ap (λ n. placed n c.set_marks.result.0.now) at_r) l.ends l.marked r.marked

pub returns-else-first-eq0-clause-rest : goal.returns-else-first-eq0-clause-rest
returns-else-first-eq0-clause-rest t c =
    let f = c.split-first-in-Concat.ensures in
    let l = c.set_marks.ensures in
    let r = c.set_marks-in-Concat.ensures in
    let at_l = c.deref_mut.ensures.value in
    let at_r = c.deref_mut-in-Concat.ensures.value in
    behind_concat c.args.self.now _ _ c.args.list.now _ _ _ _ _ _ _ _ _ c.in-Concat.is f.first c.if-first-eq0.false f.rest
    (l.rest ∙ ap (λ n. behind n c.split-first-in-Concat.result.1.now) at_l) (r.rest ∙ ap (λ n. behind n c.set_marks.result.0.now) at_r)

pub returns-else-first-eq0-2-clause-marks : goal.returns-else-first-eq0-2-clause-marks
returns-else-first-eq0-2-clause-marks t c =
    let f = c.split-first-in-Alternation.ensures in
    let l = c.set_marks-in-Alternation.ensures in
    let r = c.set_marks-in-Alternation-2.ensures in
    let at_l = c.deref_mut-in-Alternation.ensures.value in
    let at_r = c.deref_mut-in-Alternation-2.ensures.value in
    placed_alternation c.args.self.now _ _ _ _ c.args.list.now _ _ _ _ _ _ _ c.in-Alternation.is f.first c.if-first-eq0-2.false f.rest
    (l.marks ∙ ap (λ n. placed n c.split-first-in-Alternation.result.1.now) at_l) (l.rest ∙ ap (λ n. behind n c.split-first-in-Alternation.result.1.now) at_l)
    (r.marks ∙ ap (λ n. placed n c.set_marks-in-Alternation.result.0.now) at_r) l.marked r.marked

pub returns-else-first-eq0-2-clause-rest : goal.returns-else-first-eq0-2-clause-rest
returns-else-first-eq0-2-clause-rest t c =
    let f = c.split-first-in-Alternation.ensures in
    let l = c.set_marks-in-Alternation.ensures in
    let r = c.set_marks-in-Alternation-2.ensures in
    let at_l = c.deref_mut-in-Alternation.ensures.value in
    let at_r = c.deref_mut-in-Alternation-2.ensures.value in
    behind_alternation c.args.self.now _ _ c.args.list.now _ _ _ _ _ _ c.in-Alternation.is f.first c.if-first-eq0-2.false f.rest
    (l.rest ∙ ap (λ n. behind n c.split-first-in-Alternation.result.1.now) at_l) (r.rest ∙ ap (λ n. behind n c.set_marks-in-Alternation.result.0.now) at_r)
