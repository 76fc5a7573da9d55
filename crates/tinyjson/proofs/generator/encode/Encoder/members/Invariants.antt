use Rattle.std.proofs.Common.{◌≡◌, ◌∷◌, reverse}
use Rattle.std.specs.Str.{encode_utf8_all}
use Rattle.tinyjson.specs.Indent.{indent_of}
use Rattle.tinyjson.specs.private.Encoding.{frames, unwritten}
use Rattle.tinyjson_output.specs.Buffer.{buffered, Sent}
use Rattle.tinyjson.specs.declared.generator.frames.Frame.TheVariants.{Members}
use Rattle.tinyjson.proofs.generator.encode.Encoder.members.Given as goal

abbrev pub invariant-loop-key : goal.invariant-loop-key
invariant-loop-key g l =
    let w = indent_of l.fn.self.indent in
    let fs = frames l.fn.stack in
    (l.stack ≡ l.fn.stack)
    × (l.self.indent ≡ l.fn.self.indent)
    × Sent (g.W.Write.contents l.fn.out, buffered l.fn.self.buffer) (g.W.Write.contents l.out, buffered l.self.buffer)
    (encode_utf8_all (unwritten w (Members l.fn.left l.fn.first ∷ fs) (reverse l.fn.self.gathered.items)))
    (encode_utf8_all (unwritten w (Members l.left l.first ∷ fs) (reverse l.self.gathered.items)))

abbrev pub decreases-loop-key : goal.decreases-loop-key
decreases-loop-key g l = l.left
