use Rattle.std.proofs.Common.{◌≡◌, ◌≤◌, length}
use Rattle.text_iregexp.specs.Fronts.{digits_front}
use Rattle.text_iregexp.proofs.token.number.Given as goal

abbrev pub invariant-loop-next : goal.invariant-loop-next
invariant-loop-next l = record {
  few : l.value ≤ 10100;
  same : digits_front l.value l.rest ≡ digits_front l.initial.value l.initial.rest;
}

abbrev pub decreases-loop-next : goal.decreases-loop-next
decreases-loop-next l = length l.rest
