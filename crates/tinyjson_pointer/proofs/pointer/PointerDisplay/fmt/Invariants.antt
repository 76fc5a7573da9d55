use Rattle.std.proofs.Common.{map, take, encode_utf8_all}
use Rattle.std.specs.Fmt.{HasWritten, IsPlainFormatter}
use Rattle.tinyjson.specs.View.{text}
use Rattle.tinyjson_pointer.specs.Text.{pointer_text}
use Rattle.tinyjson_pointer.proofs.pointer.PointerDisplay.fmt.Given as goal

abbrev pub invariant-loop-token : goal.invariant-loop-token
invariant-loop-token g l = IsPlainFormatter l.initial.f
    → HasWritten g.W.Write.write_str_gives l.initial.f (encode_utf8_all (pointer_text (map text (take l.token-index l.token-items)))) l.f
