use Rattle.std.proofs.Common.{rules}
use Rattle.tinyjson_tokens.proofs.Reading.Escape.{tabled}
use Rattle.tinyjson_tokens.proofs.escape.short_escape.Goals as goal

pub returns-in_default : goal.returns-in_default
returns-in_default c = tabled c.args.c _ c.if-c-lt34.false c.if-c-gt116.false (search rules) (search rules)
