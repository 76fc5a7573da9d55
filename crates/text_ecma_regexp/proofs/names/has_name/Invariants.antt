use Rattle.std.proofs.Common.{◌≡◌, length}
use Rattle.std.specs.List.{list_any}
use Rattle.text_ecma_regexp.specs.Regex.{is_same_name}
use Rattle.text_ecma_regexp.specs.Scan.{texts}
use Rattle.text_ecma_regexp.proofs.names.has_name.Given as goal

abbrev pub invariant-loop-rest : goal.invariant-loop-rest
invariant-loop-rest l = list_any (is_same_name l.name) (texts l.names) ≡ list_any (is_same_name l.name) (texts l.rest)

abbrev pub decreases-loop-rest : goal.decreases-loop-rest
decreases-loop-rest l = length l.rest
