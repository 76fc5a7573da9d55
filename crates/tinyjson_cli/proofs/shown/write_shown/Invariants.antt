use Rattle.std.proofs.Common.{◌≡◌, ◌++◌, IsUtf8, chars}
use Rattle.std.specs.Fmt.{HasWritten, IsPlainFormatter}
use Rattle.std.specs.Str.Iter.{chars_rest}
use Rattle.tinyjson_cli.specs.Shown.{shown}
use Rattle.tinyjson_cli.proofs.shown.write_shown.Given as goal

abbrev pub invariant-loop-c : goal.invariant-loop-c
invariant-loop-c g l =
    IsUtf8 (chars_rest l.c-iterator) × (chars l.fn.text ≡ l.yielded ++ chars (chars_rest l.c-iterator))
    × (IsPlainFormatter l.initial.f → HasWritten g.W.Write.write_str_gives l.initial.f (shown l.yielded) l.f)
