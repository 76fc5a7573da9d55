use Rattle.std.specs.Str.{chars}
use Rattle.tinyjson_schema_keywords.proofs.References.{read_tokens}
use Rattle.tinyjson_schema_keywords.proofs.reference.read_pointer.Goals as goal

pub returns-in-Ok : goal.returns-in-Ok
returns-in-Ok c = read_tokens (chars c.args.text.now) c.in-Ok.pointer c.in-Ok.ensures
