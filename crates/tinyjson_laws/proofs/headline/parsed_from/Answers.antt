use Rattle.std.proofs.Common.{None}
use Rattle.tinyjson.proofs.Callers.{parses_text}
use Rattle.tinyjson_laws.proofs.HeadlineLaws.{follows_grammar, timely}
use Rattle.tinyjson_laws.proofs.headline.parsed_from.Goals as goal

pub returns-clause-grammar : goal.returns-clause-grammar
returns-clause-grammar g c = λ xs h. follows_grammar None xs c.parse.result
    (parses_text None xs _ _ _ c.new.ensures.position c.new.ensures.limit (c.parse.ensures.parses xs (c.new.ensures.remains xs h)))

pub returns-clause-timely : goal.returns-clause-timely
returns-clause-timely g c = λ xs h. timely None xs c.parse.result
    (parses_text None xs _ _ _ c.new.ensures.position c.new.ensures.limit (c.parse.ensures.parses xs (c.new.ensures.remains xs h)))
