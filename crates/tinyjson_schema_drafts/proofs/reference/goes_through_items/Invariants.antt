use Rattle.std.proofs.Common.{◌≡◌, drop, map}
use Rattle.tinyjson.specs.View.{text}
use Rattle.tinyjson_schema_drafts.specs.Pointers.{goes_through_items}
use Rattle.tinyjson_schema_drafts.proofs.reference.goes_through_items.Given as goal

abbrev pub invariant-loop-token : goal.invariant-loop-token
invariant-loop-token l = goes_through_items (map text (drop l.token-index l.tokens)) ≡ goes_through_items (map text l.tokens)
