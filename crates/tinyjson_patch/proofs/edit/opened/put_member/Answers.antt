use Rattle.std.proofs.Common.{IsSome, ap, option_map, refl, subst, sym, ◌∙◌}
use Rattle.std.specs.Str.{chars}
use Rattle.tinyjson_grammar.specs.Tree.{object}
use Rattle.tinyjson_patch.specs.private.Edited.{tree, members_tree}
use Rattle.tinyjson_patch.proofs.Editing.Listed.{find_members}
use Rattle.tinyjson_patch.proofs.Editing.Opening.{no_part_of_member, part_of_member}
use Rattle.tinyjson_patch.proofs.Editing.Steps.{member_put, member_there}
use Rattle.tinyjson_patch.proofs.edit.opened.put_member.Goals as goal

pub returns-in-Some : goal.returns-in-Some
returns-in-Some c =
    let m = c.args.members.now in
    let bs = c.args.token.now in
    let u = c.utf8.token in
    let w = c.args.part in
    let got = c.in-Some.ensures.value in
    ap object (member_put m (c.get_mut.follows.lender w) bs w u (subst IsSome got refl) (c.get_mut.follows.holds w))
    ∙ sym (part_of_member (members_tree m.entries) (chars bs) (tree c.in-Some.member.now) (tree w)
    (member_there m bs c.in-Some.member.now u got))

pub returns-in-None : goal.returns-in-None
returns-in-None c =
    let m = c.args.members.now in
    let bs = c.args.token.now in
    let none = find_members bs c.utf8.token m.entries ∙ ap (option_map tree) (sym c.in-None.ensures.value) in
    ap (λ x. object (members_tree x.entries)) c.get_mut.follows.holds-at-none
    ∙ sym (no_part_of_member (members_tree m.entries) (chars bs) (tree c.args.part) none)
