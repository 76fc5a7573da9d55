-- What is said of arguments that are not understood.
use Rattle.std.specs.Prelude.{ℕ, List, [], ◌∷◌, ◌++◌, codes, encode_utf8_all}
use Rattle.std.specs.Str.{chars}
use Rattle.tinyjson_cli.specs.Shown.{shown}
use Rattle.tinyjson_cli.specs.declared.arguments.Misuse.{Misuse}
use Rattle.tinyjson_cli.specs.declared.arguments.Misuse.TheVariants as misuse

abbrev pub misuse_message : Misuse → List ℕ
misuse_message (misuse.Unknown w) = codes "unknown option \"" ++ (shown (chars w.now) ++ codes "\"; after -- it is an operand")
misuse_message (misuse.NoNumber c) = codes "no number of 1 to 9 digits after -" ++ encode_utf8_all (c ∷ [])
misuse_message (misuse.NoText c) = codes "no text after -" ++ encode_utf8_all (c ∷ [])
misuse_message (misuse.Missing w) = w.now ++ codes " is missing"
misuse_message misuse.NotUtf8 = codes "an argument is not UTF-8"
misuse_message misuse.OutOfMemory = codes "out of memory"
