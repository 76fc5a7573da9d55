use Rattle.std.proofs.Common.{Some, ap, sym, ◌∙◌}
use Rattle.std.specs.Str.{chars}
use Rattle.tinyjson_grammar.specs.Tree.{object, put}
use Rattle.tinyjson_patch.specs.private.Edited.{tree, members_tree}
use Rattle.tinyjson_patch.proofs.Editing.Listed.{members_inserted}
use Rattle.tinyjson_patch.proofs.edit.change.insert_member.Goals as goal

pub returns-in-Ok-None : goal.returns-in-Ok-None
returns-in-Ok-None c =
    let old = c.args.members.now.entries in
    let e = members_inserted old c.insert.new.self.entries c.in-Ok.key c.args.child c.in-Ok-None.ensures.updates.0 in
    ap (λ ms. Some (object ms)) (sym (e ∙ ap (λ bs. put (chars bs) (tree c.args.child) (members_tree old)) c.in-Ok.ensures.ok))

pub returns-in-Ok-Some : goal.returns-in-Ok-Some
returns-in-Ok-Some c =
    let old = c.args.members.now.entries in
    let e = members_inserted old c.insert.new.self.entries c.in-Ok.key c.args.child c.in-Ok-Some.ensures.updates.0 in
    ap (λ ms. Some (object ms)) (sym (e ∙ ap (λ bs. put (chars bs) (tree c.args.child) (members_tree old)) c.in-Ok.ensures.ok))
