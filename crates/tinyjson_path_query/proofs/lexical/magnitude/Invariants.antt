use Rattle.std.proofs.Common.{◌≡◌, ◌≤◌, length}
use Rattle.tinyjson_path_query.specs.Grammar.{digits_on, greatest_exact}
use Rattle.tinyjson_path_query.proofs.lexical.magnitude.Given as goal

abbrev pub invariant-loop-next : goal.invariant-loop-next
invariant-loop-next l = record {
  few : l.value ≤ greatest_exact;
  same : digits_on l.initial.value l.initial.rest ≡ digits_on l.value l.rest;
}

abbrev pub decreases-loop-next : goal.decreases-loop-next
decreases-loop-next l = length l.rest
