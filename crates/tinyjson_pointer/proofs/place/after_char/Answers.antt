use Rattle.std.proofs.Common.{arith}
use Rattle.std.proofs.lemmas.Bool.Decides.{nat_tests}
use Rattle.tinyjson_grammar.specs.Position.{advance}
use Rattle.tinyjson_pointer.proofs.place.after_char.Goals as goal

pub returns-then-c-eq10 : goal.returns-then-c-eq10
unfolding advance
returns-then-c-eq10 c = grind (arith, nat_tests)

pub returns-else-c-eq10 : goal.returns-else-c-eq10
unfolding advance
returns-else-c-eq10 c = grind (arith, nat_tests)
