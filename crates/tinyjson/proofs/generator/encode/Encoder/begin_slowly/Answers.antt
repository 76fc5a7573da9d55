use Rattle.std.proofs.Common.{refl}
use Rattle.tinyjson.specs.Indent.{indent_of}
use Rattle.tinyjson_output.proofs.Callers.{null_bytes, sends_same}
use Rattle.tinyjson.proofs.Values.View.{view_Null, view_Boolean, view_Number, view_Array, view_String, view_Object}
use Rattle.tinyjson.proofs.Writing.Runs.{complete_at_once}
use Rattle.tinyjson.proofs.generator.encode.Encoder.begin_slowly.Goals as goal

pub returns-in-Null-clause-sent : goal.returns-in-Null-clause-sent
returns-in-Null-clause-sent g c = λ k. rw (c.in-Null.is, view_Null)
    (complete_at_once (indent_of c.args.self.now.indent) k _ _ _ _ _ c.write_bytes.result c.complete.result c.complete.ensures
    (sends_same _ _ _ _ _ null_bytes c.write_bytes.ensures) refl)

pub returns-in-Boolean-clause-sent : goal.returns-in-Boolean-clause-sent
returns-in-Boolean-clause-sent g c = λ k. rw (c.in-Boolean.is, view_Boolean c.in-Boolean.value)
    (complete_at_once (indent_of c.args.self.now.indent) k _ _ _ _ _ c.write_boolean.result c.complete-in-Boolean.result
    c.complete-in-Boolean.ensures c.write_boolean.ensures refl)

pub returns-in-Number-clause-sent : goal.returns-in-Number-clause-sent
returns-in-Number-clause-sent g c = λ k. rw (c.in-Number.is, view_Number c.in-Number.number)
    (complete_at_once (indent_of c.args.self.now.indent) k _ _ _ _ _ c.write_number.result c.complete-in-Number.result
    c.complete-in-Number.ensures c.write_number.ensures refl)

pub returns-in-String-clause-sent : goal.returns-in-String-clause-sent
returns-in-String-clause-sent g c = λ k. rw (c.in-String.is, view_String c.in-String.text)
    (complete_at_once (indent_of c.args.self.now.indent) k _ _ _ _ _ c.quote.result c.complete-in-String.result
    c.complete-in-String.ensures (rw c.deref.ensures at c.quote.ensures) refl)

pub returns-in-Array-clause-sent : goal.returns-in-Array-clause-sent
returns-in-Array-clause-sent g c = λ k. rw (c.in-Array.is, view_Array c.in-Array.items)
    (rw c.deref-in-Array.ensures.value at (c.begin_array.ensures.sent k))

pub returns-in-Object-clause-sent : goal.returns-in-Object-clause-sent
returns-in-Object-clause-sent g c = λ k. rw (c.in-Object.is, view_Object c.in-Object.members) (c.begin_object.ensures.sent k)
