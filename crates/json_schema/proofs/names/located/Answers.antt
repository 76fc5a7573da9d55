use Rattle.std.proofs.Common.{Some, None, arith}
use Rattle.std.proofs.lemmas.Str.Pattern.{split_once_first}
use Rattle.json_schema.proofs.Cutting.{cut_here, cut_nowhere}
use Rattle.json_schema.proofs.names.located.Goals as goal

pub returns-in-Some : goal.returns-in-Some
returns-in-Some c = cut_here c.args.text.now c.in-Some.uri.now c.in-Some.name.now
    (split_once_first 61 c.args.text.now (Some (c.in-Some.uri, c.in-Some.name)) c.in-Some.ensures.cases (omega arith))

pub returns-in-None : goal.returns-in-None
returns-in-None c = cut_nowhere c.args.text.now (split_once_first 61 c.args.text.now None c.in-None.ensures.cases (omega arith))
