use Rattle.std.proofs.Common.{◌≡◌, bytes_eq}
use Rattle.text_ecma_regexp.specs.Regex.{is_same_name}
use Rattle.text_ecma_regexp.specs.Scan.{left_of}
use Rattle.text_ecma_regexp.proofs.names.is_same_name.Given as goal

abbrev pub invariant-loop-n : goal.invariant-loop-n
invariant-loop-n l = is_same_name l.fn.name l.fn.other ≡ bytes_eq (left_of l.name) (left_of l.other)

abbrev pub decreases-loop-n : goal.decreases-loop-n
decreases-loop-n l = l.name.left
