use Rattle.std.proofs.Common.{◌∙◌, chars, sym, ap}
use Rattle.tinyjson.proofs.Callers.{view_Object}
use Rattle.tinyjson.specs.Tree.{object}
use Rattle.tinyjson.specs.View.{view}
use Rattle.tinyjson_schema_drafts.specs.Documents.{with_member}
use Rattle.tinyjson_schema_drafts.proofs.document.with_member.Goals as goal

pub returns-in_ok-put_member-in-Object : goal.returns-in_ok-put_member-in-Object
returns-in_ok-put_member-in-Object c =
    view_Object c.put_member.new.members
    ∙ (ap object c.in_ok-put_member-in-Object.ensures.ok
    ∙ ap (with_member (chars c.args.key.now) (view c.args.member)) (sym (ap view c.in-Object.is ∙ view_Object c.in-Object.members)))
