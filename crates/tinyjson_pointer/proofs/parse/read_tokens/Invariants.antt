use Rattle.std.proofs.Common.{map, IsUtf8, chars}
use Rattle.std.specs.Str.Iter.{chars_rest}
use Rattle.tinyjson.specs.View.{text}
use Rattle.tinyjson_pointer.proofs.Tokens.{Stands}
use Rattle.tinyjson_pointer.proofs.parse.read_tokens.Given as goal

abbrev pub invariant-loop-c : goal.invariant-loop-c
invariant-loop-c l = IsUtf8 (chars_rest l.c-iterator)
    × Stands (chars l.fn.text) (map text l.tokens.items) (text l.token) l.after_tilde (chars (chars_rest l.c-iterator))
