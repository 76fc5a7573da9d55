use Rattle.text_regexp.proofs.Changes.{copied, copy_alternation, copy_concat}
use Rattle.text_regexp.proofs.marked.Node.+copy.Goals as goal

pub returns-in_ok-new-in-Concat-2 : goal.returns-in_ok-new-in-Concat-2
returns-in_ok-new-in-Concat-2 t c =
    copy_concat c.args.self.now _ _ _ _ _ _ _ _ _ c.in-Concat.is
    (copied c.in-Concat.left.value _ _ _ c.deref.ensures c.in_ok-new-in-Concat.ensures.ok c.in_ok-copy-in-Concat.ensures)
    (copied c.in-Concat.right.value _ _ _ c.deref-in-Concat.ensures c.in_ok-new-in-Concat-2.ensures.ok
    c.in_ok-copy-in-Concat-2.ensures)

pub returns-in_ok-new-in-Alternation-2 : goal.returns-in_ok-new-in-Alternation-2
returns-in_ok-new-in-Alternation-2 t c =
    copy_alternation c.args.self.now _ _ _ _ _ _ c.in-Alternation.is
    (copied c.in-Alternation.left.value _ _ _ c.deref-in-Alternation.ensures c.in_ok-new-in-Alternation.ensures.ok
    c.in_ok-copy-in-Alternation.ensures)
    (copied c.in-Alternation.right.value _ _ _ c.deref-in-Alternation-2.ensures c.in_ok-new-in-Alternation-2.ensures.ok
    c.in_ok-copy-in-Alternation-2.ensures)
