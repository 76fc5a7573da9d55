use Rattle.std.proofs.Common.{sym, subst}
use Rattle.tinyjson.specs.Indent.{indent_of}
use Rattle.tinyjson_output.specs.Buffer.{buffered}
use Rattle.tinyjson_cells.specs.Cell.{IsBytes}
use Rattle.tinyjson_document.proofs.Buffering.{taken_back, in_turn}
use Rattle.tinyjson_document.proofs.quick.quick_member.Goals as goal

pub returns-then-quick_leaf : goal.returns-then-quick_leaf
returns-then-quick_leaf c = λ cs t e b h.
    let key = subst (IsBytes cs) (sym c.part.ensures) b in
    let before = rw c.if-not-quick_key.false at (c.quick_key.ensures cs key) in
    in_turn (buffered c.args.buffer.now) _ _ _ _ before
    (rw c.if-quick_leaf.true at (c.quick_leaf.ensures (indent_of c.args.line.indent) c.args.line.level t e h))

pub returns : goal.returns
returns c = λ cs t e b h.
    let key = subst (IsBytes cs) (sym c.part.ensures) b in
    let before = rw c.if-not-quick_key.false at (c.quick_key.ensures cs key) in
    let stays = rw c.if-quick_leaf.false at (c.quick_leaf.ensures (indent_of c.args.line.indent) c.args.line.level t e h) in
    taken_back (buffered c.args.buffer.now) _ _ _ _ _ c.len-len.ensures c.truncate.ensures stays before
