use Rattle.std.proofs.Common.{◌≡◌, ◌∙◌, IfOk, unwrap_or, sym, ap, subst, refl}
use Rattle.std.specs.List.{IsDistinct}
use Rattle.std.specs.Map.{keys_of}
use Rattle.std.specs.Str.{chars}
use Rattle.std.specs.String.{string_eq}
use Rattle.tinyjson.proofs.Callers.{view_IsTree, view_Object}
use Rattle.tinyjson.specs.Tree.{null, object, find, put, remove}
use Rattle.tinyjson.specs.View.{view, text, members_view}
use Rattle.tinyjson_patch.specs.Merge.{members_of, merge_patch, merge_members}
use Rattle.tinyjson_patch.proofs.Entries.{merge_begins, merge_next, merge_ends, null_changed, value_changed, patch_replaces}
use Rattle.tinyjson_patch.proofs.Merging.{sorted_in}
use Rattle.tinyjson_patch.proofs.merge_patch.+merge_into.Goals as goal

pub loop-key-init : goal.loop-key-init
loop-key-init t c =
    let gives = c.into_iter-key-iterator.ensures.into_iter_gives in
    let es = c.into_iter-key-iterator.result in
    merge_begins (members_of (view c.args.target)) (members_view c.members_of-members.result.entries) es es c.members_of-members.ensures
    refl (subst (λ x. IsDistinct string_eq (keys_of x)) (sym gives.0) gives.4)

pub loop-key-preserved-then-is_null : goal.loop-key-preserved-then-is_null
loop-key-preserved-then-is_null t c =
    let key = c.in-Some.key.now in
    let v = c.in-Some.change.now in
    let now = members_view c.loop-key.members.entries in
    let next = members_view c.discard_member.new.members.entries in
    let gone : next ≡ remove (text key) now = c.discard_member.ensures ∙ ap (λ bs. remove (chars bs) now) c.as_str.ensures.value in
    merge_next (members_of (view c.args.target)) now next c.into_iter-key-iterator.result c.loop-key.key-iterator c.next.new.self (key, v)
    c.loop-key.invariant c.in-Some.ensures.steps (null_changed now next (text key) v c.if-is_null.ensures gone)

pub loop-key-preserved : goal.loop-key-preserved
loop-key-preserved t c =
    let key = c.in-Some.key.now in
    let v = c.in-Some.change.now in
    let now = members_view c.loop-key.members.entries in
    let mid = members_view c.take_or_null-old.new.members.entries in
    let next = members_view c.put_member.new.members.entries in
    let same = c.as_str-else-is_null.ensures.value in
    let gone : mid ≡ remove (text key) now = c.take_or_null-old.ensures.new ∙ ap (λ bs. remove (chars bs) now) same in
    let was : view c.take_or_null-old.result ≡ unwrap_or (find (text key) now) null =
    c.take_or_null-old.ensures.old ∙ ap (λ bs. unwrap_or (find (chars bs) now) null) same in
    let is_put : next ≡ put (text key) (view c.in-Ok.new) mid = c.in-Ok-put_member.ensures.ok
    ∙ ap (λ bs. put (chars bs) (view c.in-Ok.new) mid) c.as_str-else-is_null-2.ensures.value in
    merge_next (members_of (view c.args.target)) now next c.into_iter-key-iterator.result c.loop-key.key-iterator c.next.new.self (key, v)
    c.loop-key.invariant c.in-Some.ensures.steps
    (value_changed now mid next (text key) v (view c.take_or_null-old.result) (view c.in-Ok.new) c.if-is_null.ensures gone was
    c.in-Ok.ensures is_put)

pub returns : goal.returns
returns t c =
    let m = c.loop-key.members in
    let start = members_of (view c.args.target) in
    let es = c.into_iter-key-iterator.result in
    let gives = c.into_iter-key-iterator.ensures.into_iter_gives in
    view_Object m
    ∙ (ap object (merge_ends start es m.entries c.loop-key.key-iterator (sorted_in (view c.args.target) (view_IsTree c.args.target))
    c.loop-key.invariant c.in-None.ensures.steps.0)
    ∙ (ap (λ x. object (merge_members start (members_view x))) gives.0
    ∙ ap (merge_patch (view c.args.target)) (sym (ap view c.in-Object.is ∙ view_Object c.in-Object.changes))))

pub returns-in_default : goal.returns-in_default
returns-in_default t c =
    subst (λ x. IfOk c.try_clone.result (λ v. view v ≡ x)) (sym (patch_replaces c.args.patch.now
    (view c.args.target) c.in_default.not-Object))
    c.try_clone.ensures
