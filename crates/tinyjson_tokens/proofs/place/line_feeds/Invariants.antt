use Rattle.std.proofs.Common.{◌≡◌, ◌+◌, ◌-◌, ◌≤◌, length, drop}
use Rattle.tinyjson_grammar.specs.Position.{line_feeds}
use Rattle.tinyjson_tokens.proofs.place.line_feeds.Given as goal

abbrev pub invariant-loop-i : goal.invariant-loop-i
invariant-loop-i l = (l.count + line_feeds (drop l.i l.bytes) ≡ line_feeds l.bytes) × (l.i ≤ length l.bytes)

abbrev pub decreases-loop-i : goal.decreases-loop-i
decreases-loop-i l = length l.bytes - l.i

abbrev pub invariant-loop-i-2 : goal.invariant-loop-i-2
invariant-loop-i-2 l = (l.count + line_feeds (drop l.i l.bytes) ≡ line_feeds l.bytes) × (l.i ≤ length l.bytes)

abbrev pub decreases-loop-i-2 : goal.decreases-loop-i-2
decreases-loop-i-2 l = length l.bytes - l.i
