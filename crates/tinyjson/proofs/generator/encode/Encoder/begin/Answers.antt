use Rattle.std.proofs.Common.{refl}
use Rattle.tinyjson.specs.Indent.{indent_of}
use Rattle.tinyjson_output.proofs.Callers.{sent_buffered as buffers}
use Rattle.tinyjson.proofs.generator.encode.Encoder.begin.Goals as goal

pub returns-then-quick_value-clause-sent : goal.returns-then-quick_value-clause-sent
returns-then-quick_value-clause-sent g c = λ k. record {
  written = buffers _ _ _ _ (rw c.if-quick_value.true at (c.quick_value.ensures (indent_of c.args.self.now.indent) k));
  outside = refl;
}

pub returns-clause-sent : goal.returns-clause-sent
returns-clause-sent g c = λ k.
    let same = rw c.if-quick_value.false at (c.quick_value.ensures (indent_of c.args.self.now.indent) k) in
    rw same at (c.begin_slowly.ensures.sent k)
