use Rattle.std.proofs.Common.{◌≡◌, ℕ, ◌≤◌, List, length, reverse}
use Rattle.std.specs.List.{sum_by}
use Rattle.tinyjson.specs.Indent.{indent_of}
use Rattle.tinyjson_output.specs.Buffer.{buffered}
use Rattle.tinyjson_document.specs.Walking.{cost}
use Rattle.tinyjson_document.proofs.Passing.{ItemsLeft, ItemsPassed}
use Rattle.tinyjson_document.proofs.walk.Walk.pass_items.Given as goal

abbrev pub invariant-loop-node : goal.invariant-loop-node
invariant-loop-node g l =
    (l.self.store ≡ l.fn.self.store) × (l.self.most ≡ l.fn.self.most) × (l.self.indent ≡ l.fn.self.indent)
    × (l.self.stack.items ≡ l.fn.self.stack.items)
    × ((xs : List ℕ) → ItemsLeft (indent_of l.fn.self.indent) l.fn.self.store.now l.fn.items l.fn.first (reverse l.fn.self.stack.items) xs
    → ItemsPassed (indent_of l.fn.self.indent) l.fn.self.store.now (g.W.Write.contents l.fn.out, buffered l.fn.self.buffer)
    (g.W.Write.contents l.out, buffered l.self.buffer)
    xs l.rest l.first (reverse l.fn.self.stack.items))
    × ((f : ℕ) → sum_by (cost l.fn.self.store.now f) l.rest ≤ sum_by (cost l.fn.self.store.now f) l.fn.items)

abbrev pub decreases-loop-node : goal.decreases-loop-node
decreases-loop-node g l = length l.rest
