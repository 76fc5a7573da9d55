use Rattle.std.proofs.Common.{◌≡◌, ℕ, None, ◌≤◌, take, drop, reverse}
use Rattle.std.specs.Str.{encode_utf8_all}
use Rattle.tinyjson_output.specs.Buffer.{buffered, Buffers}
use Rattle.tinyjson.specs.private.Sorted.{sorted_view}
use Rattle.tinyjson_grammar.specs.Text.{members_text}
use Rattle.tinyjson.proofs.generator.quick.quick_members.Given as goal

abbrev pub invariant-loop-key : goal.invariant-loop-key
invariant-loop-key l =
    let gs = reverse l.fn.gathered.items in
    let hs = reverse l.gathered.items in
    ((k : ℕ) → Buffers (buffered l.fn.buffer) (buffered l.buffer) (encode_utf8_all
    (members_text None k l.fn.first (sorted_view (take l.fn.count gs))))
    (encode_utf8_all (members_text None k l.first (sorted_view (take l.left hs)))))
    × (drop l.left hs ≡ drop l.fn.count gs)
    × (l.left ≤ l.fn.count)

abbrev pub decreases-loop-key : goal.decreases-loop-key
decreases-loop-key l = l.left
