use Rattle.std.proofs.Common.{◌≡◌, ◌++◌, IsUtf8, chars}
use Rattle.std.specs.Str.Iter.{chars_rest}
use Rattle.tinyjson_grammar.specs.Position.{advance, origin, position_at}
use Rattle.tinyjson_pointer.proofs.place.position_after.Given as goal

abbrev pub invariant-loop-c : goal.invariant-loop-c
invariant-loop-c l =
    IsUtf8 (chars_rest l.c-iterator) × (chars l.fn.text ≡ l.yielded ++ chars (chars_rest l.c-iterator))
    × (position_at l.line l.column ≡ advance origin l.yielded)
