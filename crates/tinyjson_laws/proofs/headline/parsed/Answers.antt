use Rattle.std.proofs.Common.{None}
use Rattle.std.specs.Str.{chars}
use Rattle.tinyjson_laws.proofs.HeadlineLaws.{follows_grammar, timely}
use Rattle.tinyjson_laws.proofs.headline.parsed.Goals as goal

pub returns-clause-grammar : goal.returns-clause-grammar
returns-clause-grammar c = follows_grammar None (chars c.args.text.now) c.from_str.result c.from_str.ensures

pub returns-clause-timely : goal.returns-clause-timely
returns-clause-timely c = timely None (chars c.args.text.now) c.from_str.result c.from_str.ensures
