use Rattle.std.proofs.Common.{◌≡◌, ◌≤◌, length}
use Rattle.text_iregexp.specs.PatternFronts.{value_front}
use Rattle.text_iregexp.proofs.letter.value.Given as goal

abbrev pub invariant-loop-next : goal.invariant-loop-next
invariant-loop-next l = record {
  few : l.value ≤ 1114111;
  same : value_front l.value l.rest ≡ value_front 0 l.fn.text;
}

abbrev pub decreases-loop-next : goal.decreases-loop-next
decreases-loop-next l = length l.rest
