use Rattle.std.proofs.Common.{length}
use Rattle.tinyjson.specs.Characters.{text}
use Rattle.tinyjson_path_query.specs.Fronts.{string_turn}
use Rattle.tinyjson_path_query.proofs.Turns.{Goes}
use Rattle.tinyjson_path_query.proofs.string.quoted.Given as goal

abbrev pub invariant-loop-first : goal.invariant-loop-first
invariant-loop-first l = Goes (string_turn l.fn.quote) l.fn.text (text l.string) l.rest

abbrev pub decreases-loop-first : goal.decreases-loop-first
decreases-loop-first l = length l.rest
