use Rattle.tinyjson.proofs.generator.encode.Encoder.run_of_members.Goals as goal

pub returns-in-None-clause-buffers : goal.returns-in-None-clause-buffers
returns-in-None-clause-buffers c = λ k held. rw c.in-None.is (c.quick_members.ensures.buffers k held)
