use Rattle.std.proofs.Common.{◌≡◌, ℕ, ◌≤◌, List, length, reverse}
use Rattle.std.specs.List.{sum_by}
use Rattle.tinyjson.specs.Indent.{indent_of}
use Rattle.tinyjson_output.specs.Buffer.{buffered}
use Rattle.tinyjson_document.specs.Walking.{cost}
use Rattle.tinyjson_document.proofs.Passing.{MembersLeft, MembersPassed}
use Rattle.tinyjson_document.proofs.walk.Walk.pass_members.Given as goal

abbrev pub invariant-loop-member : goal.invariant-loop-member
invariant-loop-member g l =
    (l.self.store ≡ l.fn.self.store) × (l.self.most ≡ l.fn.self.most) × (l.self.indent ≡ l.fn.self.indent)
    × (l.self.stack.items ≡ l.fn.self.stack.items)
    × ((xs : List ℕ) → MembersLeft (indent_of l.fn.self.indent) l.fn.self.store.now l.fn.members l.fn.first
    (reverse l.fn.self.stack.items) xs
    → MembersPassed (indent_of l.fn.self.indent) l.fn.self.store.now (g.W.Write.contents l.fn.out, buffered l.fn.self.buffer)
    (g.W.Write.contents l.out, buffered l.self.buffer)
    xs l.rest l.first (reverse l.fn.self.stack.items))
    × ((f : ℕ) → sum_by (λ e. cost l.fn.self.store.now f e.value) l.rest
    ≤ sum_by (λ e. cost l.fn.self.store.now f e.value) l.fn.members)

abbrev pub decreases-loop-member : goal.decreases-loop-member
decreases-loop-member g l = length l.rest
