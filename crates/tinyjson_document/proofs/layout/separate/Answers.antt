use Rattle.tinyjson_output.proofs.Callers.{sent_buffered}
use Rattle.tinyjson_document.proofs.Buffering.{sends_after}
use Rattle.tinyjson_document.proofs.layout.separate.Goals as goal

pub returns-then-quick_line : goal.returns-then-quick_line
returns-then-quick_line g c = sent_buffered _ _ _ _ (rw c.if-quick_line.true at c.quick_line.ensures)

pub returns : goal.returns
returns g c = sends_after _ _ _ c.separate.result _ _ (rw c.if-quick_line.false at c.quick_line.ensures) c.separate.ensures
