use Rattle.std.proofs.Common.{◌≡◌, ◌++◌, drop}
use Rattle.tinyjson.specs.View.{items_view}
use Rattle.tinyjson_schema_keywords.specs.Subschemas.{all_parts, item_parts}
use Rattle.tinyjson_schema_keywords.proofs.subschemas.item_parts.Given as goal

abbrev pub invariant-loop-index : goal.invariant-loop-index
invariant-loop-index l = all_parts l.parts.items ++ item_parts l.index (items_view (drop l.index l.schemas))
    ≡ item_parts 0 (items_view l.schemas)
