use Rattle.std.proofs.Common.{◌≡◌, drop, map, string_bytes}
use Rattle.tinyjson.specs.View.{text}
use Rattle.tinyjson_schema_bundle.specs.Bundles.{place_after}
use Rattle.tinyjson_schema_bundle.proofs.guide.place_after.Given as goal

abbrev pub invariant-loop-token : goal.invariant-loop-token
invariant-loop-token l = place_after (string_bytes l.below) (map text (drop l.token-index l.tokens))
    ≡ place_after l.place (map text l.tokens)
