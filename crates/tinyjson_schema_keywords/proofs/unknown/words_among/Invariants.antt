use Rattle.std.proofs.Common.{drop}
use Rattle.tinyjson_schema_keywords.specs.Subschemas.{all_seen}
use Rattle.tinyjson_schema_keywords.specs.Unknown.{words_among}
use Rattle.tinyjson_schema_keywords.proofs.Words.{Gathered}
use Rattle.tinyjson_schema_keywords.proofs.unknown.words_among.Given as goal

abbrev pub invariant-loop-member : goal.invariant-loop-member
invariant-loop-member l =
    Gathered (words_among (all_seen l.members)) (words_among (all_seen (drop l.member-index l.members))) l.initial.words l.words
