use Rattle.std.proofs.Common.{◌∙◌, ap, get_or, subst}
use Rattle.tinyjson_number.specs.Text.{decimal_text}
use Rattle.tinyjson_output.specs.Buffer.{SendsText}
use Rattle.tinyjson_output.proofs.Callers.{sent_begins as begins, sent_stop as stop}
use Rattle.tinyjson_document.proofs.Buffering.{kept_got}
use Rattle.tinyjson_document.proofs.walk.write_kept.Goals as goal

pub returns-in-Some : goal.returns-in-Some
returns-in-Some g c = λ d h.
    let i = c.args.index in
    let x = c.in-Some.number.now in
    let is = kept_got c.args.store.now d i x (c.in-Some.ensures.lookup.1 ∙ ap (λ l. get_or l i x) c.deref.ensures.value) h in
    subst (λ z. SendsText g.W.Write.contents c.args.out.now c.write_number.new.out c.args.buffer.now c.write_number.new.buffer (decimal_text z)
    c.write_number.result)
    is c.write_number.ensures

pub returns-in-None : goal.returns-in-None
returns-in-None g c = λ d h. stop begins
