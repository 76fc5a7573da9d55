use Rattle.std.proofs.lemmas.Str.{encodes-IsAscii, IsUtf8-string_bytes}
use Rattle.std.proofs.Common.{string_bytes, ◌≡◌, true, false, length, refl, rules, arith}
use Rattle.std.proofs.lemmas.Bool.Decides.{nat_tests}
use Rattle.tinyjson_number.specs.Text.{decimal_text}
use Rattle.tinyjson_number.proofs.Callers.{decimal_ascii}
use Rattle.tinyjson.specs.View.{items_view}
use Rattle.tinyjson.proofs.Values.View.{view_Null, view_Number, view_String, view_Array, view_Object}
use Rattle.tinyjson.proofs.Writing.Words.{true_is, false_is, empty_array, empty_object, no_items_in}
use Rattle.tinyjson_output.proofs.Callers.{quoted_bytes, null_bytes}
use Rattle.tinyjson.proofs.generator.quick.quick_value.Goals as goal

pub returns-in-Number : goal.returns-in-Number
returns-in-Number c =
    let n = c.in-Number.number in
    λ w k. rw (c.in-Number.is, view_Number n, encodes-IsAscii (decimal_text n.decimal) (decimal_ascii n.decimal n.canonical))
    c.quick_number.ensures

pub returns-in-String : goal.returns-in-String
returns-in-String c =
    let s = c.in-String.text in
    λ w k. rw (c.in-String.is, view_String s, quoted_bytes (string_bytes s) (IsUtf8-string_bytes s))
    (rw c.as_bytes.ensures.value at c.quick_text.ensures)

pub returns-in-Boolean-true : goal.returns-in-Boolean-true
returns-in-Boolean-true c =
    let e : c.in-Boolean-true.field-0 ≡ true = search rules in
    λ w k. rw (true_is w k _ _ c.in-Boolean-true.is e) c.quick_word.ensures

pub returns-in-Boolean-false : goal.returns-in-Boolean-false
returns-in-Boolean-false c =
    let e : c.in-Boolean-false.field-0 ≡ false = search rules in
    λ w k. rw (false_is w k _ _ c.in-Boolean-false.is e) c.quick_word-in-Boolean-false.ensures

pub returns-in-Null : goal.returns-in-Null
returns-in-Null c = λ w k. rw (c.in-Null.is, view_Null, null_bytes) c.quick_word-in-Null.ensures

pub returns-then-is_empty : goal.returns-then-is_empty
returns-then-is_empty c =
    let v = c.in-Array.items in
    let n : length v.items ≡ 0 = grind (arith, nat_tests) in
    λ w k. rw (c.in-Array.is, view_Array v, empty_array w k (items_view v.items) (no_items_in v.items n)) c.quick_word-then-is_empty.ensures

pub returns-else-is_empty : goal.returns-else-is_empty
returns-else-is_empty c = λ w k. rw c.if-is_empty.false refl

pub returns-then-is_empty-2 : goal.returns-then-is_empty-2
returns-then-is_empty-2 c =
    let m = c.in-Object.members in
    λ w k. rw (c.in-Object.is, view_Object m, empty_object w k m.entries (c.if-is_empty-2.ensures.0 refl))
    c.quick_word-then-is_empty-2.ensures

pub returns-else-is_empty-2 : goal.returns-else-is_empty-2
returns-else-is_empty-2 c = λ w k. rw c.if-is_empty-2.false refl
