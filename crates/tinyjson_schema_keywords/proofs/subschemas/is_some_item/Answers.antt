use Rattle.std.proofs.Common.{not, ap, ◌∙◌}
use Rattle.tinyjson_schema_keywords.proofs.Forms.{some_items}
use Rattle.tinyjson_schema_keywords.proofs.subschemas.is_some_item.Goals as goal

pub returns : goal.returns
returns c = ap not c.is_empty.ensures ∙ some_items c.args.items.now
