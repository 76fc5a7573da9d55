use Rattle.std.proofs.Common.{◌≡◌, ◌++◌, IfSome, ap, map, subst, sym, ◌∙◌}
use Rattle.std.proofs.lemmas.List.{nil_from_length}
use Rattle.std.specs.List.Sorted.{IsStrictlySortedBy}
use Rattle.std.specs.Map.{keys_of}
use Rattle.std.specs.Str.{chars}
use Rattle.std.specs.String.{string_cmp}
use Rattle.std.specs.VecDeque.Iter.{deque_iter_rest}
use Rattle.tinyjson_document.specs.Replaying.{put_members}
use Rattle.tinyjson_patch.specs.private.Edited.{item_tree, members_tree, tree}
use Rattle.tinyjson_patch.specs.private.Writing.{listed}
use Rattle.tinyjson_patch.proofs.Editing.Copying.{all_copied, next_copied, next_member_copied}
use Rattle.tinyjson_patch.proofs.Editing.Left.{all_put}
use Rattle.tinyjson_patch.proofs.Editing.Listed.{Entry}
use Rattle.tinyjson_patch.proofs.edit.copy.+copy_of.Goals as goal

pub copy_items-loop-item-init : goal.copy_items-loop-item-init
copy_items-loop-item-init t c =
    ap (λ es. map item_tree es ++ map item_tree (deque_iter_rest c.iter-rest.result)) c.in_ok-copies.ensures.items
    ∙ ap (map item_tree) c.iter-rest.ensures.rest

pub copy_items-loop-item-preserved : goal.copy_items-loop-item-preserved
copy_items-loop-item-preserved t c =
    let l = c.loop-item in
    let x = c.in-Some.item.now in
    let copied = subst (λ o. IfSome o (λ e. tree e ≡ tree c.as_ref.result.now)) c.in-Some-2.is c.in_ok-copy.ensures in
    next_copied l.copies.items c.push_back.new.self.items (deque_iter_rest l.rest) (deque_iter_rest c.next.new.self)
    c.in_ok-new.field-0 x (map item_tree c.args.items.now.items) c.in_ok-push_back.ensures.items
    (ap tree c.in_ok-new.ensures.ok ∙ (copied ∙ ap tree c.as_ref.ensures)) c.in-Some.ensures.steps l.invariant

pub copy_items-returns : goal.copy_items-returns
copy_items-returns t c =
    let l = c.loop-item in
    all_copied l.copies.items (deque_iter_rest l.rest) c.args.items.now.items
    (nil_from_length (deque_iter_rest l.rest) c.in_default.ensures.steps.0) l.invariant

pub copy_members-loop-key-init : goal.copy_members-loop-key-init
copy_members-loop-key-init t c =
    let es = c.iter-rest.result in
    let sorted = subst (λ xs. IsStrictlySortedBy string_cmp (keys_of xs)) (sym c.iter-rest.ensures.rest) c.iter-rest.ensures.ordered in
    ap (λ xs. put_members (members_tree xs) (listed es)) c.new-copies.ensures.empty
    ∙ (all_put es sorted ∙ ap members_tree c.iter-rest.ensures.rest)

pub copy_members-loop-key-preserved : goal.copy_members-loop-key-preserved
copy_members-loop-key-preserved t c =
    let l = c.loop-key in
    let x : Entry = (c.in-Some.key.now, c.in-Some.member.now) in
    let copied = subst (λ o. IfSome o (λ e. tree e ≡ tree c.in-Some.member.now)) c.in-Some-2.is c.in_ok-copy.ensures in
    next_member_copied l.copies.entries c.insert.new.self.entries l.rest c.next.new.self c.in_ok-from_str.field-0 c.in-Some-2.copy x
    c.in_ok-old.ensures.updates.0 (ap chars (c.in_ok-from_str.ensures.ok ∙ c.as_str.ensures.value)) copied c.in-Some.ensures.steps
    l.invariant

pub copy_members-returns : goal.copy_members-returns
copy_members-returns t c =
    let l = c.loop-key in
    sym (ap (λ es. put_members (members_tree l.copies.entries) (listed es)) c.in_default.ensures.steps.0) ∙ l.invariant
