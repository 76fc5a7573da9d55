use Rattle.tinyjson_schema_table.proofs.Marking.{has_marks, no_marks}
use Rattle.tinyjson_schema_table.proofs.marks.marks_of.Goals as goal

pub returns-in-Object : goal.returns-in-Object
returns-in-Object c = has_marks c.marks_among.result c.args.schema.now c.in-Object.members c.in-Object.is c.marks_among.ensures

pub returns-in_default : goal.returns-in_default
returns-in_default c = no_marks c.args.schema.now c.in_default.not-Object
