use Rattle.tinyjson_schema_keywords.proofs.Listed.{sorted_result}
use Rattle.tinyjson_schema_keywords.proofs.subschemas.listed_members.Goals as goal

pub returns-in-Object-clause-sorted : goal.returns-in-Object-clause-sorted
returns-in-Object-clause-sorted c = sorted_result c.sorted_members.result c.in-Object.members c.sorted_members.ensures
