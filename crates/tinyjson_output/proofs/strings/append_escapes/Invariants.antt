use Rattle.std.proofs.Common.{◌≤◌, length}
use Rattle.tinyjson_grammar.specs.Text.{escapes}
use Rattle.tinyjson_output.specs.Buffer.{buffered, Buffers}
use Rattle.tinyjson_output.proofs.strings.append_escapes.Given as goal

abbrev pub invariant-loop-byte : goal.invariant-loop-byte
invariant-loop-byte l =
    Buffers (buffered l.fn.buffer) (buffered l.buffer) (escapes l.fn.bytes) (escapes l.rest) × (length l.rest ≤ length l.fn.bytes)

abbrev pub decreases-loop-byte : goal.decreases-loop-byte
decreases-loop-byte l = length l.rest
