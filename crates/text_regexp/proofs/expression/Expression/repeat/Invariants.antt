use Rattle.std.proofs.Common.{◌++◌, [], Some}
use Rattle.text_regexp.specs.Forms.{Form, repetition}
use Rattle.text_regexp.specs.Building.{Means, AllMean}
use Rattle.text_regexp.proofs.Building.{times}
use Rattle.text_regexp.proofs.expression.Expression.repeat.Given as goal

abbrev pub invariant-loop-i : goal.invariant-loop-i
invariant-loop-i l = (f : Form) → Means l.self f → AllMean l.parts.items (times l._i f [])

abbrev pub invariant-loop-k : goal.invariant-loop-k
invariant-loop-k l = (f : Form) → Means l.self f → AllMean l.parts.items (times l.least f [] ++ times l._k (repetition f 0 (Some 1)) [])
