use Rattle.tinyjson_schema_assertions.proofs.Formatted.{AreLeft}
use Rattle.tinyjson_schema_assertions.proofs.formats.formats_among.Given as goal

abbrev pub invariant-loop-member : goal.invariant-loop-member
invariant-loop-member l = AreLeft l.members l.member-index l.names
