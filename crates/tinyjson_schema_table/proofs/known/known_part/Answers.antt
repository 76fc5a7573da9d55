use Rattle.std.proofs.Common.{◌≡◌, true, subst}
use Rattle.tinyjson_schema_table.specs.Links.{led_by}
use Rattle.tinyjson_schema_table.specs.Places.{LeadsTo, is_of}
use Rattle.tinyjson_schema_table.proofs.Links.{known_same}
use Rattle.tinyjson_schema_table.proofs.known.known_part.Goals as goal

pub returns-in-Some : goal.returns-in-Some
returns-in-Some c s h =
    subst (λ x. LeadsTo (led_by x c.args.way) c.part.result)
    (known_same c.in-Some.known s (subst (λ o. is_of o s ≡ true) c.in-Some.is h)) c.part.ensures
