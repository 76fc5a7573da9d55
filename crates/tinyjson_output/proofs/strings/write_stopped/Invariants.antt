use Rattle.std.proofs.Common.{◌≡◌, length}
use Rattle.std.specs.List.{prefix_len}
use Rattle.tinyjson_bytes.specs.Scan.{is_plain}
use Rattle.tinyjson_grammar.specs.Text.{escapes}
use Rattle.tinyjson_output.specs.Buffer.{buffered, Sent}
use Rattle.tinyjson_output.proofs.strings.write_stopped.Given as goal

abbrev pub invariant-loop-byte : goal.invariant-loop-byte
invariant-loop-byte g l = (prefix_len is_plain l.rest ≡ 0) × Sent (g.W.Write.contents l.initial.out, buffered l.initial.buffer)
    (g.W.Write.contents l.out, buffered l.buffer) (escapes l.bytes) (escapes l.rest)

abbrev pub decreases-loop-byte : goal.decreases-loop-byte
decreases-loop-byte g l = length l.rest
