use Rattle.std.proofs.Common.{sym, ◌∙◌}
use Rattle.text_regexp.proofs.Running.{cleared_unmarked}
use Rattle.text_regexp.proofs.marked.Node.+clear.Goals as goal

pub clear_if-returns-then-not-marked : goal.clear_if-returns-then-not-marked
clear_if-returns-then-not-marked t c = cleared_unmarked c.args.self.now c.requires.kept (sym c.requires.marked ∙ c.if-not-marked.true)
