use Rattle.std.proofs.Common.{◌∙◌, refl, ap, codes}
use Rattle.tinyjson.proofs.Callers.{view_Object}
use Rattle.tinyjson.specs.Tree.{object, put}
use Rattle.tinyjson.specs.View.{view, members_view}
use Rattle.tinyjson_diff.proofs.Documents.{literal}
use Rattle.tinyjson_diff.proofs.document.valued.Goals as goal

pub returns : goal.returns
returns c =
    view_Object c.put_member.new.members
    ∙ ap object (literal (codes "value") (view c.args.value) (members_view c.in_ok-members.members.entries)
    (members_view c.put_member.new.members.entries) refl c.in_ok-put_member.ensures.ok
    ∙ ap (put (codes "value") (view c.args.value)) c.in_ok-members.ensures)
