use Rattle.tinyjson_bytes.proofs.Vectors.{put_front}
use Rattle.tinyjson_bytes.proofs.copies.put.Goals as goal

pub returns-clause-put : goal.returns-clause-put
returns-clause-put g c = put_front g.row.N c.args.at c.args.buffer.now c.args.bytes.now c.requires.bytes c.requires.room
