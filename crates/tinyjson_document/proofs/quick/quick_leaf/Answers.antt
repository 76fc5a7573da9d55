use Rattle.std.proofs.Common.{◌≡◌, true, false, rules}
use Rattle.tinyjson_document.proofs.Buffering.{same_bytes, null_is, true_is, false_is, short_is, kept_at, string_is, array_is, object_is}
use Rattle.tinyjson_document.proofs.quick.quick_leaf.Goals as goal

pub returns-in-Null : goal.returns-in-Null
returns-in-Null c = λ w k t e h.
    same_bytes c.quick_word.result _ _ _ _ (null_is w k c.args.store.now t c.args.node c.in-Null.is h) c.quick_word.ensures

pub returns-in-Boolean-true : goal.returns-in-Boolean-true
returns-in-Boolean-true c = λ w k t e h.
    let b : c.in-Boolean-true.field-0 ≡ true = search rules in
    same_bytes c.quick_word-in-Boolean-true.result _ _ _ _ (true_is w k c.args.store.now t c.args.node _ c.in-Boolean-true.is b h)
    c.quick_word-in-Boolean-true.ensures

pub returns-in-Boolean-false : goal.returns-in-Boolean-false
returns-in-Boolean-false c = λ w k t e h.
    let b : c.in-Boolean-false.field-0 ≡ false = search rules in
    same_bytes c.quick_word-in-Boolean-false.result _ _ _ _ (false_is w k c.args.store.now t c.args.node _ c.in-Boolean-false.is b h)
    c.quick_word-in-Boolean-false.ensures

pub returns-in-Short : goal.returns-in-Short
returns-in-Short c = λ w k t e h.
    let is = c.part.ensures in
    same_bytes c.quick_word-in-Short.result _ _ _ _ (short_is w k c.args.store.now t c.args.node _ _ c.in-Short.is is h)
    c.quick_word-in-Short.ensures

pub returns-in-Kept : goal.returns-in-Kept
returns-in-Kept c = λ w k t e h.
    let v = kept_at w k c.args.store.now t c.args.node c.in-Kept.index c.in-Kept.is h in
    same_bytes c.quick_kept.result _ _ _ _ v.2 (c.quick_kept.ensures v.0 v.1)

pub returns-in-String : goal.returns-in-String
returns-in-String c = λ w k t e h.
    let is = c.part-in-String.ensures in
    same_bytes c.quick_text.result _ _ _ _ (string_is w k c.args.store.now t c.args.node _ _ c.in-String.is is h) c.quick_text.ensures

pub returns-in-Array : goal.returns-in-Array
returns-in-Array c = λ w k t e h.
    same_bytes c.quick_word-in-Array.result _ _ _ _ (array_is w k c.args.store.now t c.args.node _ c.in-Array.is e h)
    c.quick_word-in-Array.ensures

pub returns-in-Object : goal.returns-in-Object
returns-in-Object c = λ w k t e h.
    same_bytes c.quick_word-in-Object.result _ _ _ _ (object_is w k c.args.store.now t c.args.node _ c.in-Object.is e h)
    c.quick_word-in-Object.ensures
