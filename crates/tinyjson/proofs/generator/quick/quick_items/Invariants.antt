use Rattle.std.proofs.Common.{ℕ, None, ◌≤◌, length}
use Rattle.std.specs.Str.{encode_utf8_all}
use Rattle.tinyjson_output.specs.Buffer.{buffered, Buffers}
use Rattle.tinyjson_grammar.specs.Text.{items_text}
use Rattle.tinyjson.specs.View.{items_view}
use Rattle.tinyjson.proofs.generator.quick.quick_items.Given as goal

abbrev pub invariant-loop-item : goal.invariant-loop-item
invariant-loop-item l =
    ((k : ℕ) → Buffers (buffered l.fn.buffer) (buffered l.buffer) (encode_utf8_all (items_text None k l.fn.first (items_view l.fn.items)))
    (encode_utf8_all (items_text None k l.first (items_view l.rest))))
    × (length l.rest ≤ length l.fn.items)

abbrev pub decreases-loop-item : goal.decreases-loop-item
decreases-loop-item l = length l.rest
