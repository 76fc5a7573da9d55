use Rattle.std.proofs.Common.{◌≡◌, drop, map}
use Rattle.tinyjson.specs.View.{view, text}
use Rattle.tinyjson_schema_report.specs.Refused.{need_of, needs_at, needs_from}
use Rattle.tinyjson_schema_report.proofs.refused.need_at.Given as goal

abbrev pub invariant-loop-token : goal.invariant-loop-token
invariant-loop-token l =
    needs_at (need_of l.here) (map text (drop l.token-index l.tokens)) ≡ needs_from (view l.root) (map text l.tokens)
