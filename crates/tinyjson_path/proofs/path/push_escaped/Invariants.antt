use Rattle.std.proofs.Common.{◌≡◌, ◌++◌, IsUtf8, chars}
use Rattle.std.specs.Str.Iter.{chars_rest}
use Rattle.tinyjson.specs.View.{text}
use Rattle.tinyjson_path.specs.Paths.{escape}
use Rattle.tinyjson_path.proofs.path.push_escaped.Given as goal

abbrev pub invariant-loop-c : goal.invariant-loop-c
invariant-loop-c l = IsUtf8 (chars_rest l.c-iterator)
    × (text l.path ++ escape (chars (chars_rest l.c-iterator)) ≡ text l.fn.path ++ escape (chars l.name))
