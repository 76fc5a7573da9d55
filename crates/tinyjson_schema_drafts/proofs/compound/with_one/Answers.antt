use Rattle.std.proofs.lemmas.Bool.{false≢true}
use Rattle.tinyjson.specs.View.{view}
use Rattle.tinyjson_schema_drafts.proofs.compound.with_one.Goals as goal

pub returns-in_ok-whole-in-Ok-clause-ok : goal.returns-in_ok-whole-in-Ok-clause-ok
returns-in_ok-whole-in-Ok-clause-ok c = (view c.in-Ok.tree, c.in-Ok.ensures.answer.1, c.in_ok-whole-in-Ok.ensures)

pub returns-else-is_out_of_memory-clause-err : goal.returns-else-is_out_of_memory-clause-err
returns-else-is_out_of_memory-clause-err c = c.in-Err.ensures.refused (λ k. false≢true (c.if-is_out_of_memory.ensures.1 k))
