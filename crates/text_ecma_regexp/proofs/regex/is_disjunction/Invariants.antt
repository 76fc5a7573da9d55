use Rattle.std.proofs.Common.{◌≡◌, ◌≤◌, [], length}
use Rattle.text_ecma_regexp.specs.Regex.{is_disjunction}
use Rattle.text_ecma_regexp.specs.Scan.{groups_of, texts}
use Rattle.text_ecma_regexp.proofs.regex.is_disjunction.Given as goal

abbrev pub invariant-loop-left : goal.invariant-loop-left
invariant-loop-left l = (is_disjunction l.count (texts l.names) (length l.text) [] l.text
    ≡ is_disjunction l.count (texts l.names) l.left (groups_of l.groups) l.rest) × (l.groups.depth ≤ 128)

abbrev pub decreases-loop-left : goal.decreases-loop-left
decreases-loop-left l = l.left
