use Rattle.std.specs.Str.{chars}
use Rattle.tinyjson_schema_report.proofs.Placing.{accepted}
use Rattle.tinyjson_schema_report.proofs.located.place_of_violation.Goals as goal

pub key_place_in-requires : goal.key_place_in-requires
key_place_in-requires c = accepted c.requires.0 (chars c.args.text.now) c.requires.1 c.requires.2
