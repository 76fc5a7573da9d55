use Rattle.std.proofs.Common.{◌≡◌, drop}
use Rattle.tinyjson_schema_keywords.specs.Anchors.{anchored, all_named}
use Rattle.tinyjson_schema_keywords.proofs.anchor.anchored.Given as goal

abbrev pub invariant-loop-anchor : goal.invariant-loop-anchor
invariant-loop-anchor l = anchored (all_named (drop l.anchor-index l.anchors)) l.name ≡ anchored (all_named l.anchors) l.name
