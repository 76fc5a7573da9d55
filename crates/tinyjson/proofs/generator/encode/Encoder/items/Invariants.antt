use Rattle.std.proofs.Common.{◌≡◌, ◌+◌, ◌++◌, ◌∷◌, [], length, reverse}
use Rattle.std.specs.Str.{encode_utf8_all}
use Rattle.tinyjson.specs.Indent.{indent_of}
use Rattle.tinyjson.specs.private.Encoding.{frames, unwritten}
use Rattle.tinyjson_grammar.specs.Text.{items_text, newline}
use Rattle.tinyjson.specs.View.{items_view}
use Rattle.tinyjson_output.specs.Buffer.{buffered, Sent}
use Rattle.tinyjson.proofs.generator.encode.Encoder.items.Given as goal

abbrev pub invariant-loop-item : goal.invariant-loop-item
invariant-loop-item g l =
    let w = indent_of l.fn.self.indent in
    let fs = frames l.fn.stack in
    let gs = reverse l.fn.self.gathered.items in
    let close = newline w (length fs) ++ 93 ∷ [] in
    (l.stack ≡ l.fn.stack)
    × (reverse l.self.gathered.items ≡ gs)
    × (l.self.indent ≡ l.fn.self.indent)
    × Sent (g.W.Write.contents l.fn.out, buffered l.fn.self.buffer) (g.W.Write.contents l.out, buffered l.self.buffer)
    (encode_utf8_all ((items_text w (length fs + 1) l.fn.first (items_view l.fn.items) ++ close) ++ unwritten w fs gs))
    (encode_utf8_all ((items_text w (length fs + 1) l.first (items_view l.rest) ++ close) ++ unwritten w fs gs))

abbrev pub decreases-loop-item : goal.decreases-loop-item
decreases-loop-item g l = length l.rest
