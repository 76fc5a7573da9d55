use Rattle.std.proofs.Common.{length}
use Rattle.tinyjson_schema_keywords.proofs.References.{IsDecoded}
use Rattle.tinyjson_schema_keywords.proofs.reference.percent_decoded.Given as goal

abbrev pub invariant-loop-first : goal.invariant-loop-first
invariant-loop-first l = IsDecoded l.bytes l.decoded.items l.rest

abbrev pub decreases-loop-first : goal.decreases-loop-first
decreases-loop-first l = length l.rest
