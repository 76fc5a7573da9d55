use Rattle.std.specs.Str.{chars}
use Rattle.text_iregexp.proofs.Callers.{refused_invalid}
use Rattle.tinyjson_path.proofs.Judging.{answers_read, answers_nothing}
use Rattle.tinyjson_path.proofs.patterns.regexp_of.Goals as goal

pub returns-in-Ok-clause-ok : goal.returns-in-Ok-clause-ok
returns-in-Ok-clause-ok c = answers_read (chars c.args.pattern.now) c.in-Ok.regexp c.in-Ok.ensures

pub returns-in-Invalid-clause-ok : goal.returns-in-Invalid-clause-ok
returns-in-Invalid-clause-ok c =
    answers_nothing (chars c.args.pattern.now) (refused_invalid (chars c.args.pattern.now) c.in-Err.error c.in-Err.ensures c.in-Invalid.is)
