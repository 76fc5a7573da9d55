use Rattle.std.proofs.Common.{◌∙◌, ap, sym}
use Rattle.std.specs.Str.{chars}
use Rattle.tinyjson.specs.Tree.{find}
use Rattle.tinyjson_view.proofs.Callers.{key_at}
use Rattle.tinyjson_view.specs.Views.{tree_of}
use Rattle.tinyjson_diff.specs.Changes.{members_had}
use Rattle.tinyjson_diff.proofs.merge.member_of.Goals as goal

pub returns-in-Some : goal.returns-in-Some
returns-in-Some c =
    c.member.ensures ∙ (key_at (tree_of c.in-Some.object) (chars c.args.key.now)
    ∙ ap (λ o. find (chars c.args.key.now) (members_had o)) (sym c.in-Some.is))
