use Rattle.std.proofs.Common.{ap, arith, sym, take, ◌∙◌}
use Rattle.std.specs.Int.{w64}
use Rattle.std.proofs.lemmas.Int.{to_z-of_z}
use Rattle.std.proofs.lemmas.List.{length-take-le}
use Rattle.tinyjson_number.proofs.Buffers.{decimal_put, zero_put}
use Rattle.tinyjson_number.proofs.number.JsonNumber.write_short.Goals as goal

pub returns-then-count-eq0-clause-text : goal.returns-then-count-eq0-clause-text
returns-then-count-eq0-clause-text c =
    let none = sym (c.in-Some.ensures.0) ∙ ap (λ n. take n c.in-Some.bytes.now) c.if-count-eq0.true in
    zero_put c.args.buffer.now c.args.self.now.decimal (omega (arith, c.if-buffer-lt-BUFFER.false)) none

pub returns-clause-text : goal.returns-clause-text
returns-clause-text c =
    let some = c.in-Some in
    let digits = some.ensures in
    let sign = c.put_sign-at in
    let put = c.put_magnitude in
    let long = length-take-le some.count some.bytes.now (omega (arith, digits.2, digits.1)) in
    decimal_put sign.new.buffer put.new.buffer sign.result (take some.count some.bytes.now) c.is_negative.result _ c.args.self.now.decimal
    digits.0 c.is_negative.ensures (to_z-of_z w64 c.power.result (record { sfits = c.power.type_inv }) ∙ c.power.ensures) put.result
    (omega (arith, long, c.if-count-eq0.false))
    sign.ensures.text (omega (arith, put.ensures.len, sign.ensures.len, c.if-buffer-lt-BUFFER.false)) put.ensures.text
