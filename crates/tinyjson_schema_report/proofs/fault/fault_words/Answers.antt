use Rattle.tinyjson_schema_report.proofs.Faulting.{not_refused}
use Rattle.std.specs.Str.{chars}
use Rattle.tinyjson_schema_report.proofs.fault.fault_words.Goals as goal

pub returns-in_default : goal.returns-in_default
returns-in_default c = not_refused (chars c.args.pattern.now) c.parse.result c.in_default.not-Err c.parse.ensures

pub returns : goal.returns
returns c = (c.in-Err.error, c.in-Err.ensures, c.in_ok-pattern_words.ensures)
