use Rattle.std.proofs.Common.{◌∙◌, ◌+◌, drop, ap, sym}
use Rattle.std.specs.Str.{chars}
use Rattle.tinyjson_grammar.specs.Tree.{no_members, put}
use Rattle.tinyjson_document.proofs.Callers.{put_sorted}
use Rattle.tinyjson_document.specs.Replaying.{put_members}
use Rattle.tinyjson_view.proofs.Callers.{drop_at}
use Rattle.tinyjson_view.specs.Views.{members_of}
use Rattle.tinyjson_patch.specs.private.Edited.{tree, members_tree}
use Rattle.tinyjson_patch.specs.declared.edit.edited.Edited.TheVariants as is
use Rattle.tinyjson_patch.proofs.Editing.Listed.{members_inserted}
use Rattle.tinyjson_patch.proofs.Editing.Trees.{tree_Kept}
use Rattle.tinyjson_patch.proofs.edit.expand.kept_members.Goals as goal

pub loop-view-init : goal.loop-view-init
loop-view-init c =
    ap (λ es. put_members (members_tree es) (members_of c.deref-view-items.result.now)) c.new-members.ensures.empty
    ∙ (ap (λ vs. put_members no_members (members_of vs)) c.deref-view-items.ensures.value
    ∙ put_sorted (members_of c.args.views.items) c.requires)

pub loop-view-preserved : goal.loop-view-preserved
loop-view-preserved c =
    let vs = c.deref-view-items.result.now in
    let i = c.loop-view.view-index in
    let v = c.view-item.result in
    let m = c.loop-view.members.entries in
    let rest = members_of (drop (i + 1) vs) in
    let one = members_inserted m c.insert.new.self.entries c.in_ok-from_str.field-0 (is.Kept v.value) c.in_ok-insert.ensures.updates.0
    ∙ (ap (λ bs. put (chars bs) (tree (is.Kept v.value)) (members_tree m)) c.in_ok-from_str.ensures.ok
    ∙ ap (λ t. put (chars v.key.now) t (members_tree m)) (tree_Kept v.value)) in
    ap (λ ms. put_members ms rest) one
    ∙ (ap (λ ws. put_members (members_tree m) (members_of ws)) (sym (drop_at vs i v c.loop-view-test.true c.view-item.is))
    ∙ c.loop-view.invariant)
