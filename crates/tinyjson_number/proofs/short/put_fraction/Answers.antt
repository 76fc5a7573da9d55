use Rattle.std.proofs.Common.{arith}
use Rattle.tinyjson_number.proofs.Buffers.{fraction_put}
use Rattle.tinyjson_number.proofs.short.put_fraction.Goals as goal

pub returns-clause-text : goal.returns-clause-text
returns-clause-text c =
    let few = c.requires.digits.0 in
    let zeros = c.requires.zeros in (
      omega (arith, c.requires.room.0, few, zeros),
      fraction_put c.args.at c.args.count c.args.buffer.now c.put.new.buffer c.put-2.new.buffer
          c.args.bytes.now c.args.zeros few zeros c.put.ensures.put c.put-2.ensures.put,
    )
