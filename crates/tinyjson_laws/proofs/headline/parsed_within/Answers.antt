use Rattle.std.proofs.Common.{Some}
use Rattle.tinyjson.proofs.Callers.{parses_text}
use Rattle.tinyjson_laws.proofs.HeadlineLaws.{follows_grammar, timely}
use Rattle.tinyjson_laws.proofs.headline.parsed_within.Goals as goal

pub returns-clause-grammar : goal.returns-clause-grammar
returns-clause-grammar g c = λ xs h. follows_grammar (Some c.args.limit) xs c.parse.result
    (parses_text (Some c.args.limit) xs _ _ _ c.with_depth_limit.ensures.position c.with_depth_limit.ensures.limit
    (c.parse.ensures.parses xs (c.with_depth_limit.ensures.remains xs h)))

pub returns-clause-timely : goal.returns-clause-timely
returns-clause-timely g c = λ xs h. timely (Some c.args.limit) xs c.parse.result
    (parses_text (Some c.args.limit) xs _ _ _ c.with_depth_limit.ensures.position c.with_depth_limit.ensures.limit
    (c.parse.ensures.parses xs (c.with_depth_limit.ensures.remains xs h)))
