-- An indent as its characters.
use Rattle.std.specs.Prelude.{ℕ, List, Option, None, Some}
use Rattle.std.specs.Borrow.{Bor}
use Rattle.std.specs.Str.{chars}

abbrev pub indent_of : Option (Bor (List ℕ)) → Option (List ℕ)
indent_of None = None
indent_of (Some s) = Some (chars s.now)
