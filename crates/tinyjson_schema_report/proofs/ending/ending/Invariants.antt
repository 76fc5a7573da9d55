use Rattle.std.proofs.Common.{◌≡◌, drop, map}
use Rattle.tinyjson.specs.View.{view, text}
use Rattle.tinyjson_schema_report.specs.Ends.{ending, ends_at, ends_from}
use Rattle.tinyjson_schema_report.proofs.ending.ending.Given as goal

abbrev pub invariant-loop-token : goal.invariant-loop-token
invariant-loop-token l =
    ends_at (view l.fn.walk.whole.now.root.now) (ending l.here) (map text (drop l.token-index l.tokens))
    ≡ ends_from (view l.fn.walk.whole.now.root.now) (map text l.tokens)
