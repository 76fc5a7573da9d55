use Rattle.std.proofs.Common.{◌≡◌, ◌≤◌, drop, length, option_map, string_bytes, String, Global, Bor}
use Rattle.tinyjson_schema_keywords.specs.Anchors.{repeated, all_named}
use Rattle.tinyjson_schema_keywords.proofs.Naming.{HasNames}
use Rattle.tinyjson_schema_keywords.proofs.anchor.repeated.Given as goal

abbrev pub invariant-loop-left : goal.invariant-loop-left
invariant-loop-left l = (l.left ≤ length l.anchors) × HasNames (all_named (drop l.left l.anchors)) l.names
    × (option_map (λ (x : Bor (String Global)). string_bytes x.now) l.found ≡ repeated (all_named (drop l.left l.anchors)))

abbrev pub decreases-loop-left : goal.decreases-loop-left
decreases-loop-left l = l.left
