use Rattle.std.proofs.Common.{◌-◌, Some}
use Rattle.std.specs.Str.{encode_utf8_all, chars}
use Rattle.tinyjson_output.specs.Buffer.{buffered, Sent}
use Rattle.tinyjson_grammar.specs.Text.{newline, repeated}
use Rattle.tinyjson_output.proofs.layout.begin_line.Given as goal

abbrev pub invariant-loop-level : goal.invariant-loop-level
invariant-loop-level g l = Sent (g.W.Write.contents l.fn.out, buffered l.fn.buffer) (g.W.Write.contents l.out, buffered l.buffer)
    (encode_utf8_all (newline (Some (chars l.fn.indent)) l.fn.level))
    (encode_utf8_all (repeated (l.fn.level - l._level) (chars l.fn.indent)))
