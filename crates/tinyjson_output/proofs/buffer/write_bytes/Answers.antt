use Rattle.tinyjson_output.proofs.Sending.{now_buffered}
use Rattle.tinyjson_output.proofs.buffer.write_bytes.Goals as goal

pub returns : goal.returns
returns g c = now_buffered _ _ _ c.args.bytes.now c.append.ensures.buffers
