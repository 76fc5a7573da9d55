use Rattle.std.proofs.lemmas.Str.{chars-nil}
use Rattle.tinyjson_tokens.proofs.cursor.CharactersSource.lent.Goals as goal

pub returns : goal.returns
returns g c = chars-nil
