use Rattle.std.proofs.Common.{sym, ap, refl}
use Rattle.std.specs.Prelude.{codes}
use Rattle.tinyjson_path.specs.Paths.{escape_char}
use Rattle.tinyjson_path.proofs.Values.{ascii_pushed}
use Rattle.tinyjson_path.proofs.path.push_escaped_char.Goals as goal

pub returns-then-c-eq39 : goal.returns-then-c-eq39
returns-then-c-eq39 c =
    ascii_pushed c.push_words.result _ _ (codes "\\'") _ refl (sym (ap escape_char c.if-c-eq39.true)) c.push_words.ensures

pub returns-then-c-eq92 : goal.returns-then-c-eq92
returns-then-c-eq92 c =
    ascii_pushed c.push_words-then-c-eq92.result _ _ (codes "\\\\") _ refl (sym (ap escape_char c.if-c-eq92.true))
    c.push_words-then-c-eq92.ensures
