use Rattle.tinyjson.proofs.Reading.Building.{last_set}
use Rattle.tinyjson.proofs.parser.nest.Nest.set_innermost.Goals as goal

pub returns-in-Some-clause-awaited : goal.returns-in-Some-clause-awaited
returns-in-Some-clause-awaited g c = λ o os e.
    let v = c.args.self.now.awaited in
    last_set v.len v.items o c.args.awaited os v.ok.0 e
