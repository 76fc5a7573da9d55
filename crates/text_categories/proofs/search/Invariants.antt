use Rattle.std.proofs.Common.{◌≡◌, ◌-◌, ◌/◌, ◌<◌, ◌≤◌, length, drop, slice_index}
use Rattle.text_categories.specs.Runs.{run_category}
use Rattle.text_categories.proofs.search.Given as goal

abbrev pub invariant-loop-low : goal.invariant-loop-low
invariant-loop-low l =
    (l.low ≤ l.high)
    × (l.high ≤ length l.runs)
    × (run_category l.runs l.c ≡ run_category (drop l.low l.runs) l.c)
    × (l.high < length l.runs → l.c < slice_index l.runs l.high / 32)

abbrev pub decreases-loop-low : goal.decreases-loop-low
decreases-loop-low l = l.high - l.low
