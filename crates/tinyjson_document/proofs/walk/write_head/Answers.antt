use Rattle.std.proofs.Common.{◌≡◌, [], encode_utf8_all, false, sym, ap, arith, ◌∙◌, subst, true}
use Rattle.tinyjson_number.specs.Text.{decimal_text}
use Rattle.tinyjson_output.specs.Buffer.{Sends, SendsText}
use Rattle.tinyjson_output.proofs.Callers.{enc_cons, null_bytes}
use Rattle.tinyjson_grammar.specs.Tree.{array, boolean, null, object}
use Rattle.tinyjson_cells.specs.Cell.{Is, IsBytes}
use Rattle.tinyjson_cells.specs.declared.store.Cell.TheVariants as node
use Rattle.tinyjson_document.specs.Walking.{head}
use Rattle.tinyjson_document.proofs.Buffering.{false_bytes, true_bytes}
use Rattle.tinyjson_cells.proofs.Callers.{number_bytes}
use Rattle.tinyjson_document.proofs.Writing.{head_sent, seen}
use Rattle.tinyjson_document.proofs.walk.write_head.Goals as goal

pub returns-in-Short : goal.returns-in-Short
returns-in-Short g c = λ t h.
    let s = c.args.store.now in
    let v = seen s t _ (subst (Is s t) c.in-Short.is h) in
    let bytes : c.part.result.now ≡ decimal_text v.0 = c.part.ensures ∙ v.2.text in
    let written : c.part.result.now ≡ encode_utf8_all (head t)
    = bytes ∙ sym (number_bytes v.0 v.2.canonical) ∙ ap (λ z. encode_utf8_all (head z)) (sym v.1) in
    subst (λ bs. Sends g.W.Write.contents c.args.out.now c.write_bytes-in-Short.new.out c.args.buffer.now
    c.write_bytes-in-Short.new.buffer bs c.write_bytes-in-Short.result)
    written c.write_bytes-in-Short.ensures

pub returns-in-Kept : goal.returns-in-Kept
returns-in-Kept g c = λ t h.
    let v = seen c.args.store.now t _ (subst (Is c.args.store.now t) c.in-Kept.is h) in
    subst (λ z. SendsText g.W.Write.contents c.args.out.now c.write_kept.new.out c.args.buffer.now c.write_kept.new.buffer (head z)
    c.write_kept.result)
    (sym v.1) (c.write_kept.ensures v.0 v.2)

pub returns-in-Null : goal.returns-in-Null
returns-in-Null g c = λ t h.
    let v = seen c.args.store.now t _ (subst (Is c.args.store.now t) c.in-Null.is h) in
    head_sent g.W.Write.contents _ _ _ _ _ t null _ v null_bytes c.write_bytes.ensures

pub returns-in-Boolean-true : goal.returns-in-Boolean-true
returns-in-Boolean-true g c = λ t h.
    let v = seen c.args.store.now t _ (subst (Is c.args.store.now t) (c.in-Boolean-true.is ∙ ap node.Boolean c.in-Boolean-true.field-0-test) h) in
    head_sent g.W.Write.contents _ _ _ _ _ t (boolean true) _ v true_bytes c.write_bytes-in-Boolean-true.ensures

pub returns-in-Boolean-false : goal.returns-in-Boolean-false
returns-in-Boolean-false g c = λ t h.
    let v = seen c.args.store.now t _ (subst (Is c.args.store.now t) (c.in-Boolean-false.is ∙ ap node.Boolean c.in-Boolean-false.field-0-test) h) in
    head_sent g.W.Write.contents _ _ _ _ _ t (boolean false) _ v false_bytes c.write_bytes-in-Boolean-false.ensures

pub returns-in-Array : goal.returns-in-Array
returns-in-Array g c = λ t h.
    let v = seen c.args.store.now t _ (subst (Is c.args.store.now t) c.in-Array.is h) in
    head_sent g.W.Write.contents _ _ _ _ _ t (array v.0) _ v.1 (enc_cons 91 [] (omega arith)) c.write_bytes-in-Array.ensures

pub returns-in-Object : goal.returns-in-Object
returns-in-Object g c = λ t h.
    let v = seen c.args.store.now t _ (subst (Is c.args.store.now t) c.in-Object.is h) in
    head_sent g.W.Write.contents _ _ _ _ _ t (object v.0) _ v.1 (enc_cons 123 [] (omega arith)) c.write_bytes-in-Object.ensures

pub returns-in-String : goal.returns-in-String
returns-in-String g c = λ t h.
    let v = seen c.args.store.now t _ (subst (Is c.args.store.now t) c.in-String.is h) in
    subst (λ z. SendsText g.W.Write.contents c.args.out.now c.write_text.new.out c.args.buffer.now c.write_text.new.buffer (head z)
    c.write_text.result)
    (sym v.1) (c.write_text.ensures v.0 (subst (IsBytes v.0) (sym c.part-in-String.ensures) v.2))
