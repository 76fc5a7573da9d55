use Rattle.std.proofs.Common.{ap, subst, sym, ◌∙◌, ◌++◌}
use Rattle.text_regexp.specs.Marked.{IsKept, marks_of, shifted}
use Rattle.text_regexp.proofs.Placing.{after_reads, after_right, kept_placed, moved_kept, moved_same}
use Rattle.text_regexp.proofs.state.State.after.Goals as goal

pub shift-edges-requires : goal.shift-edges-requires
shift-edges-requires c = subst IsKept (sym c.set_marks-rest.ensures.marks) (kept_placed c.args.tree.now c.args.marks.now c.requires.kept)

pub clear-requires : goal.clear-requires
clear-requires c =
    moved_kept c.args.tree.now _ c.args.marks.now c.args.start c.args.c c.requires.kept c.requires.unmarked
    (c.shift-edges.ensures.marks ∙ ap (shifted c.args.start c.args.c) c.set_marks-rest.ensures.marks)

pub returns-in_default-clause-same : goal.returns-in_default-clause-same
returns-in_default-clause-same c =
    moved_same c.args.tree.now _ c.args.marks.now c.args.start c.args.c c.requires.kept c.requires.unmarked _
    (c.shift-edges.ensures.marks ∙ ap (shifted c.args.start c.args.c) c.set_marks-rest.ensures.marks) c.clear.ensures

pub returns-clause-same : goal.returns-clause-same
returns-clause-same c =
    moved_same c.args.tree.now _ c.args.marks.now c.args.start c.args.c c.requires.kept c.requires.unmarked _
    (c.shift-edges.ensures.marks ∙ ap (shifted c.args.start c.args.c) c.set_marks-rest.ensures.marks) c.clear.ensures

pub returns-clause-right : goal.returns-clause-right
returns-clause-right c =
    after_right c.args.tree.now c.shift-edges.new.self c.args.marks.now c.args.start c.args.c c.requires.kept c.requires.unmarked
    c.list_marks-listed.new.list.items c.shift-edges.result.ends c.verdict_of-verdict.result
    (c.shift-edges.ensures.marks ∙ ap (shifted c.args.start c.args.c) c.set_marks-rest.ensures.marks)
    (c.in-Ok.ensures ∙ ap (λ ms. ms ++ marks_of c.shift-edges.new.self) c.new-marks.ensures.items) c.shift-edges.ensures.ends
    c.verdict_of-verdict.ensures

pub returns-clause-reads : goal.returns-clause-reads
returns-clause-reads c = λ cs.
    after_reads c.args.tree.now c.shift-edges.new.self c.args.marks.now c.args.start c.args.c c.requires.kept c.requires.unmarked
    c.list_marks-listed.new.list.items cs
    (c.shift-edges.ensures.marks ∙ ap (shifted c.args.start c.args.c) c.set_marks-rest.ensures.marks)
    (c.in-Ok.ensures ∙ ap (λ ms. ms ++ marks_of c.shift-edges.new.self) c.new-marks.ensures.items)
