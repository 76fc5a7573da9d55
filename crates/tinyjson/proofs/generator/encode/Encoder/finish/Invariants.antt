use Rattle.std.proofs.Common.{◌≡◌, ◌∷◌, [], length, reverse}
use Rattle.std.specs.Str.{encode_utf8_all}
use Rattle.tinyjson.specs.Indent.{indent_of}
use Rattle.tinyjson.specs.private.Encoding.{IsStack, frames, unwritten}
use Rattle.tinyjson_output.specs.Buffer.{buffered, Sent}
use Rattle.tinyjson.proofs.generator.encode.Encoder.finish.Given as goal

abbrev pub invariant-loop-frame : goal.invariant-loop-frame
invariant-loop-frame g l =
    let w = indent_of l.fn.self.indent in
    IsStack l.stack
    × (l.self.indent ≡ l.fn.self.indent)
    × Sent (g.W.Write.contents l.fn.out, buffered l.fn.self.buffer) (g.W.Write.contents l.out, buffered l.self.buffer)
    (encode_utf8_all (unwritten w (l.fn.frame ∷ []) (reverse l.fn.self.gathered.items)))
    (encode_utf8_all (unwritten w (frames l.stack) (reverse l.self.gathered.items)))

abbrev pub decreases-loop-frame : goal.decreases-loop-frame
decreases-loop-frame g l = length (encode_utf8_all (unwritten (indent_of l.fn.self.indent) (frames l.stack)
    (reverse l.self.gathered.items)))
