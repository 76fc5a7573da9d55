use Rattle.std.proofs.Common.{arith}
use Rattle.std.proofs.lemmas.List.{take_rest}
use Rattle.tinyjson_number.proofs.Buffers.{mixed_put}
use Rattle.tinyjson_number.proofs.short.put_mixed.Goals as goal

pub returns-clause-text : goal.returns-clause-text
returns-clause-text c =
    let few = c.requires.digits.0 in
    let point = c.requires.point in (
      omega (arith, c.requires.room.0, few),
      mixed_put c.args.at c.args.count c.args.buffer.now c.put.new.buffer c.put-2.new.buffer
          c.args.bytes.now c.put-3.new.buffer _ c.args.point few point.0 point.1
          (take_rest c.args.bytes.now c.args.point) c.put.ensures.put c.put-2.ensures.put c.put-3.ensures.put,
    )
