use Rattle.std.proofs.Common.{◌≡◌, ◌≤◌, length, drop}
use Rattle.tinyjson_grammar.specs.Position.{line_feeds}
use Rattle.tinyjson_tokens.proofs.place.line_start.Given as goal

abbrev pub invariant-loop-start : goal.invariant-loop-start
invariant-loop-start l = (l.start ≤ length l.bytes) × (line_feeds (drop l.start l.bytes) ≡ 0)

abbrev pub decreases-loop-start : goal.decreases-loop-start
decreases-loop-start l = l.start

abbrev pub invariant-loop-start-2 : goal.invariant-loop-start-2
invariant-loop-start-2 l = (l.start ≤ length l.bytes) × (line_feeds (drop l.start l.bytes) ≡ 0)

abbrev pub decreases-loop-start-2 : goal.decreases-loop-start-2
decreases-loop-start-2 l = l.start
