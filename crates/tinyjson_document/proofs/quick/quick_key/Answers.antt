use Rattle.tinyjson_output.specs.Buffer.{buffered}
use Rattle.tinyjson_document.proofs.Buffering.{taken_back, in_turn}
use Rattle.tinyjson_document.proofs.quick.quick_key.Goals as goal

pub returns-then-quick_name : goal.returns-then-quick_name
returns-then-quick_name c = λ cs h.
    let before = rw c.if-not-quick_line.false at c.quick_line.ensures in
    in_turn (buffered c.args.buffer.now) _ _ _ _ before (rw c.if-quick_name.true at (c.quick_name.ensures cs h))

pub returns : goal.returns
returns c = λ cs h.
    let before = rw c.if-not-quick_line.false at c.quick_line.ensures in
    let stays = rw c.if-quick_name.false at (c.quick_name.ensures cs h) in
    taken_back (buffered c.args.buffer.now) _ _ _ _ _ c.len-len.ensures c.truncate.ensures stays before
