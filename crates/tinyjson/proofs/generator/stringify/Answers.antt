use Rattle.tinyjson.proofs.generator.stringify.Goals as goal

pub written-requires : goal.written-requires
written-requires c = tt

pub returns : goal.returns
returns c = c.written.ensures
