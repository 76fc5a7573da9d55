use Rattle.std.proofs.Common.{◌≡◌, ◌+◌, ◌-◌, ◌≤◌, length, drop}
use Rattle.std.specs.Fmt.{is_char_start}
use Rattle.std.specs.List.{count_by}
use Rattle.tinyjson_tokens.proofs.place.characters.Given as goal

abbrev pub invariant-loop-i : goal.invariant-loop-i
invariant-loop-i l = (l.count + count_by is_char_start (drop l.i l.bytes) ≡ count_by is_char_start l.bytes) × (l.i ≤ length l.bytes)

abbrev pub decreases-loop-i : goal.decreases-loop-i
decreases-loop-i l = length l.bytes - l.i

abbrev pub invariant-loop-i-2 : goal.invariant-loop-i-2
invariant-loop-i-2 l = (l.count + count_by is_char_start (drop l.i l.bytes) ≡ count_by is_char_start l.bytes) × (l.i ≤ length l.bytes)

abbrev pub decreases-loop-i-2 : goal.decreases-loop-i-2
decreases-loop-i-2 l = length l.bytes - l.i
