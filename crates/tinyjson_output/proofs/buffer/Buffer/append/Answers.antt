use Rattle.tinyjson_output.proofs.buffer.Buffer.append.Goals as goal

pub returns-clause-buffers : goal.returns-clause-buffers
returns-clause-buffers c = c.copy.ensures.copied
