use Rattle.std.proofs.Common.{sym, ap, ◌∙◌}
use Rattle.std.specs.Prelude.{option_and_then}
use Rattle.std.specs.Str.{chars}
use Rattle.tinyjson.specs.Index.{tree_at_key}
use Rattle.tinyjson.specs.View.{view}
use Rattle.tinyjson_schema_table.proofs.Links.{nothing_added}
use Rattle.tinyjson_schema_table.proofs.table.add_at_key.Goals as goal

pub returns-in_default : goal.returns-in_default
returns-in_default c = nothing_added (view c.args.schema.now) c.args.shapes.now.items c.args.links.now.items

pub returns-in_default-operand : goal.returns-in_default-operand
returns-in_default-operand c = nothing_added (view c.args.schema.now) c.args.shapes.now.items c.args.links.now.items

pub returns : goal.returns
returns c = c.in_ok-add_link.ensures (view c.args.schema.now)
    (ap (option_and_then (λ p. tree_at_key p (chars c.args.key.now))) (sym c.in-Some.ensures) ∙ sym c.in-Some-operand.ensures)
