use Rattle.std.proofs.Common.{◌≡◌, length}
use Rattle.tinyjson_path_query.specs.Grammar.{after_blanks}
use Rattle.tinyjson_path_query.proofs.lexical.after_blanks.Given as goal

abbrev pub invariant-loop-first : goal.invariant-loop-first
invariant-loop-first l = after_blanks l.fn.text ≡ after_blanks l.rest

abbrev pub decreases-loop-first : goal.decreases-loop-first
decreases-loop-first l = length l.rest
