use Rattle.std.proofs.Common.{◌≡◌, ◌++◌, length}
use Rattle.tinyjson.specs.Characters.{text}
use Rattle.tinyjson_path_query.specs.Grammar.{name_chars}
use Rattle.tinyjson_path_query.proofs.lexical.push_name_chars.Given as goal

abbrev pub invariant-loop-first : goal.invariant-loop-first
invariant-loop-first l = record {
  name : text l.initial.name ++ (name_chars l.initial.rest).0 ≡ text l.name ++ (name_chars l.rest).0;
  rest : (name_chars l.initial.rest).1 ≡ (name_chars l.rest).1;
}

abbrev pub decreases-loop-first : goal.decreases-loop-first
decreases-loop-first l = length l.rest
