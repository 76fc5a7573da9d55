use Rattle.std.proofs.Common.{subst}
use Rattle.tinyjson.specs.View.{view}
use Rattle.tinyjson_patch.specs.Reading.{Refused}
use Rattle.tinyjson_patch.proofs.Documents.{at_index, one_more, all_read, one_malformed}
use Rattle.tinyjson_patch.proofs.patch.Patch.from_value.Goals as goal

pub returns-in-Err-Malformed : goal.returns-in-Err-Malformed
returns-in-Err-Malformed c =
    let vs = c.deref-item-items.result.now in
    let n = c.loop-number.number in
    let x = c.item-item.result in
    rw c.in-Err-Malformed.field-0-is
    (one_malformed c.args.document.now c.in-Array.items vs n c.loop-number.operations.items x c.in-Err-Malformed.fault c.in-Array.is
    c.deref-item-items.ensures.value c.loop-number.invariant (at_index vs n x c.loop-number-test.true c.item-item.is)
    (subst (Refused (view x)) c.in-Err-Malformed.field-0-is c.in-Err-Malformed.ensures))

pub loop-number-preserved : goal.loop-number-preserved
loop-number-preserved c =
    let vs = c.deref-item-items.result.now in
    let n = c.loop-number.number in
    let x = c.item-item.result in
    one_more vs n c.loop-number.operations.items c.push.new.self.items x c.in-Ok.operation c.loop-number.invariant
    (at_index vs n x c.loop-number-test.true c.item-item.is) c.in-Ok-push.ensures.items c.in-Ok.ensures

pub returns : goal.returns
returns c =
    let vs = c.deref-item-items.result.now in
    all_read c.args.document.now c.in-Array.items vs c.loop-number.number (record { operations = c.loop-number.operations }) c.in-Array.is
    c.deref-item-items.ensures.value c.loop-number.invariant c.loop-number-test.false
