use Rattle.std.proofs.Common.{◌≡◌, ◌++◌, length, string_bytes}
use Rattle.tinyjson_path_query.specs.Grammar.{number_chars}
use Rattle.tinyjson_path_query.proofs.lexical.push_number_chars.Given as goal

abbrev pub invariant-loop-first : goal.invariant-loop-first
invariant-loop-first l = record {
  number : string_bytes l.initial.number ++ (number_chars l.initial.rest).0 ≡ string_bytes l.number ++ (number_chars l.rest).0;
  rest : (number_chars l.initial.rest).1 ≡ (number_chars l.rest).1;
}

abbrev pub decreases-loop-first : goal.decreases-loop-first
decreases-loop-first l = length l.rest
