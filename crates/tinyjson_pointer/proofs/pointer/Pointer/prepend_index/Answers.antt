use Rattle.std.proofs.Common.{arith}
use Rattle.tinyjson_pointer.proofs.Indices.{prepended}
use Rattle.tinyjson_pointer.specs.Tokens.{tokens_of}
use Rattle.tinyjson_pointer.proofs.pointer.Pointer.prepend_index.Goals as goal

pub returns-clause-ok : goal.returns-clause-ok
returns-clause-ok c = prepended c.prepend.result c.in_ok-format.field-0 c.args.index (tokens_of c.args.self.now)
    (tokens_of c.prepend.new.self) (omega (arith, c.ranges.index.fits)) c.in_ok-format.ensures.ok c.prepend.ensures.ok
