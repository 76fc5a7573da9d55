use Rattle.std.specs.Str.{chars}
use Rattle.tinyjson_document.proofs.Values.{member_viewed, no_member_viewed}
use Rattle.tinyjson_document.proofs.view.RefJsonValueJsonView.member.Goals as goal

pub returns-in-Object : goal.returns-in-Object
returns-in-Object c = member_viewed _ c.in-Object.members c.args.key.now c.get.result c.in-Object.is c.utf8.key c.get.ensures.value

pub returns-in_default : goal.returns-in_default
returns-in_default c = no_member_viewed _ (chars c.args.key.now) (λ m. c.in_default.not-Object m)
