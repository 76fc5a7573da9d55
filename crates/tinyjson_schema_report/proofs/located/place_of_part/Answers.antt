use Rattle.std.proofs.Common.{Ok, subst}
use Rattle.std.specs.Str.{chars}
use Rattle.tinyjson_pointer.specs.Places.{Locates}
use Rattle.tinyjson_pointer.specs.Tokens.{tokens_of}
use Rattle.tinyjson_schema_report.proofs.Placing.{accepted, never_missed}
use Rattle.tinyjson_schema_report.proofs.located.place_of_part.Goals as goal

pub place_in-requires : goal.place_in-requires
place_in-requires c = accepted c.requires.0 (chars c.args.text.now) c.requires.1 c.requires.2

pub unreachable-requires : goal.unreachable-requires
unreachable-requires c =
    let xs = chars c.args.text.now in
    let ks = tokens_of c.args.part.now in
    never_missed c.requires.0 xs c.requires.1 ks c.requires.2 c.requires.3
    (subst (λ o. Locates xs ks (Ok o)) c.in-Ok-None.field-0-is c.in-Ok-None.ensures)
