use Rattle.tinyjson.proofs.generator.JsonGenerator.generate.Goals as goal

pub returns-clause-written : goal.returns-clause-written
returns-clause-written g c = c.encode.ensures
