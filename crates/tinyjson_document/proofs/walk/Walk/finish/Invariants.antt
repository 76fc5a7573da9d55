use Rattle.std.proofs.Common.{◌≡◌, ℕ, List, reverse}
use Rattle.tinyjson.specs.Indent.{indent_of}
use Rattle.tinyjson_output.specs.Buffer.{buffered}
use Rattle.tinyjson_document.specs.Walking.{AreLeft, Advanced, left_cost}
use Rattle.tinyjson_document.proofs.walk.Walk.finish.Given as goal

abbrev pub invariant-loop-rest : goal.invariant-loop-rest
invariant-loop-rest g l =
    (l.self.store ≡ l.fn.self.store) × (l.self.most ≡ l.fn.self.most) × (l.self.indent ≡ l.fn.self.indent)
    × ((xs : List ℕ) → AreLeft (indent_of l.fn.self.indent) l.fn.self.store.now (reverse l.fn.self.stack.items) xs
    → Advanced (indent_of l.fn.self.indent) l.fn.self.store.now (g.W.Write.contents l.fn.out, buffered l.fn.self.buffer)
    (g.W.Write.contents l.out, buffered l.self.buffer)
    xs (reverse l.self.stack.items))

abbrev pub decreases-loop-rest : goal.decreases-loop-rest
decreases-loop-rest g l = left_cost l.fn.self.store.now l.fn.self.most (reverse l.self.stack.items)
