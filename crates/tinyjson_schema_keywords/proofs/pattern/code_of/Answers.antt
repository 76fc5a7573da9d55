use Rattle.std.proofs.Common.{inl, inr}
use Rattle.std.specs.Str.{chars}
use Rattle.text_iregexp.proofs.Callers.{refused_pattern, outside_pattern}
use Rattle.tinyjson_schema_keywords.proofs.Patterns.{answers_read, is_read, answers_nothing, is_nothing}
use Rattle.tinyjson_schema_keywords.proofs.pattern.code_of.Goals as goal

pub returns-in-Ok-clause-is : goal.returns-in-Ok-clause-is
returns-in-Ok-clause-is c = is_read (chars c.args.pattern.now) c.in-Ok.code c.in-Ok.ensures

pub returns-in-Ok-clause-found : goal.returns-in-Ok-clause-found
returns-in-Ok-clause-found c = answers_read (chars c.args.pattern.now) c.in-Ok.code c.in-Ok.ensures

pub returns-in-Invalid-clause-is : goal.returns-in-Invalid-clause-is
returns-in-Invalid-clause-is c =
    is_nothing (chars c.args.pattern.now) (refused_pattern (chars c.args.pattern.now) c.in-Err.error c.in-Err.ensures c.in-Invalid.is)

pub returns-in-Invalid-clause-found : goal.returns-in-Invalid-clause-found
returns-in-Invalid-clause-found c =
    answers_nothing (chars c.args.pattern.now) (refused_pattern (chars c.args.pattern.now) c.in-Err.error c.in-Err.ensures c.in-Invalid.is)

pub returns-in-Outside-clause-is : goal.returns-in-Outside-clause-is
returns-in-Outside-clause-is c =
    is_nothing (chars c.args.pattern.now) (outside_pattern (chars c.args.pattern.now) c.in-Err.error c.in-Err.ensures c.in-Outside.is)

pub returns-in-Outside-clause-found : goal.returns-in-Outside-clause-found
returns-in-Outside-clause-found c =
    answers_nothing (chars c.args.pattern.now) (outside_pattern (chars c.args.pattern.now) c.in-Err.error c.in-Err.ensures c.in-Outside.is)

pub returns-in-TooDeep-clause-error : goal.returns-in-TooDeep-clause-error
returns-in-TooDeep-clause-error c = record { error = c.in-Err.error; refused = c.in-Err.ensures; limit = inl c.in-TooDeep.is }

pub returns-in-TooLarge-clause-error : goal.returns-in-TooLarge-clause-error
returns-in-TooLarge-clause-error c = record { error = c.in-Err.error; refused = c.in-Err.ensures; limit = inr c.in-TooLarge.is }
