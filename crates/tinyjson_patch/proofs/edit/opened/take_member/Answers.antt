use Rattle.std.proofs.Common.{Some, IsSome, option_map, ap, refl, subst, sym, ◌∙◌}
use Rattle.std.specs.Str.{chars}
use Rattle.tinyjson_grammar.specs.Tree.{put}
use Rattle.tinyjson_patch.specs.private.Edited.{tree, members_tree}
use Rattle.tinyjson_patch.proofs.Editing.Listed.{find_members}
use Rattle.tinyjson_patch.proofs.Editing.Steps.{member_put, member_there}
use Rattle.tinyjson_patch.proofs.edit.opened.take_member.Goals as goal

pub returns-in-Some : goal.returns-in-Some
returns-in-Some c =
    let m = c.args.members.now in
    let bs = c.args.token.now in
    let u = c.utf8.token in
    let w = c.take.new.whole in
    let got = c.in-Some.ensures.value in (
      member_there m bs c.in-Some.member.now u got ∙ ap (λ e. Some (tree e)) (sym c.take.ensures.old),
      member_put m (c.get_mut.follows.lender w) bs w u (subst IsSome got refl) (c.get_mut.follows.holds w)
          ∙ ap (λ t. put (chars bs) t (members_tree m.entries)) c.take.ensures.empty,
    )

pub returns-in-None : goal.returns-in-None
returns-in-None c = find_members c.args.token.now c.utf8.token c.args.members.now.entries ∙ ap (option_map tree) (sym c.in-None.ensures.value)
