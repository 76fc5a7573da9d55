use Rattle.std.proofs.Common.{rules, ◌≡◌, length, string_bytes, sym, ◌∙◌}
use Rattle.tinyjson_tokens.proofs.Reading.Number.{digits_memory, digits_none, digits_some}
use Rattle.tinyjson_tokens.proofs.reader.TokenReader.digits.Goals as goal

pub returns-clause-reads : goal.returns-clause-reads
returns-clause-reads g c =
    let before : c.len-before.result ≡ length (string_bytes c.args.self.now.digit_buffer) = search rules in
    let longer : c.len.result ≡ length (string_bytes c.digits.new.buffer) = search rules in
    digits_some g.S.Source.sight c.args.empty _ _ _ _ c.digits.result c.digits.ensures.digits c.digits.ensures.stops
    (sym c.is_err.ensures.value ∙ c.if-is_err.false) (λ same. c.if-len-before.false (longer ∙ same ∙ sym before))

pub returns-then-is_err-clause-reads : goal.returns-then-is_err-clause-reads
returns-then-is_err-clause-reads g c = digits_memory g.S.Source.sight c.args.empty _ _ _ _ c.digits.result c.digits.ensures.digits

pub returns-then-len-before-clause-reads : goal.returns-then-len-before-clause-reads
returns-then-len-before-clause-reads g c =
    let before : c.len-before.result ≡ length (string_bytes c.args.self.now.digit_buffer) = search rules in
    let longer : c.len.result ≡ length (string_bytes c.digits.new.buffer) = search rules in
    digits_none g.S.Source.sight c.args.empty _ _ _ _ c.digits.result c.digits.ensures.digits c.digits.ensures.stops c.digits.ensures.still
    (sym c.is_err.ensures.value ∙ c.if-is_err.false) (sym longer ∙ c.if-len-before.true ∙ before)
