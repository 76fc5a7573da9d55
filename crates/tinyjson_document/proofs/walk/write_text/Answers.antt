use Rattle.std.proofs.Common.{◌∙◌, ◌++◌, ap, sym}
use Rattle.tinyjson_grammar.specs.Text.{quoted}
use Rattle.tinyjson_output.specs.Buffer.{buffered}
use Rattle.tinyjson_output.proofs.Callers.{enc, quoted_bytes, sent_buffered}
use Rattle.tinyjson_document.proofs.walk.write_text.Goals as goal

pub returns-then-quick_text : goal.returns-then-quick_text
returns-then-quick_text g c = λ cs h.
    sent_buffered _ _ _ _ (c.if-quick_text.ensures
    ∙ ap (λ z. buffered c.args.buffer.now ++ z) (sym (ap (λ z. enc (quoted z)) h.1 ∙ quoted_bytes c.args.bytes.now h.0)))
