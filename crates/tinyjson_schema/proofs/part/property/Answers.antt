use Rattle.std.proofs.Common.{ap, ◌∙◌}
use Rattle.std.specs.Prelude.{option_and_then}
use Rattle.std.specs.Str.{chars}
use Rattle.tinyjson.specs.Index.{tree_at_key}
use Rattle.tinyjson_schema.proofs.part.property.Goals as goal

pub returns : goal.returns
returns c = c.property_of.ensures ∙ ap (option_and_then (λ p. tree_at_key p (chars c.args.key.now))) c.schema_at.ensures
