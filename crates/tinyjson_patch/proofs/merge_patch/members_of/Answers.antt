use Rattle.std.proofs.Common.{◌∙◌, ap}
use Rattle.tinyjson.specs.View.{members_view}
use Rattle.tinyjson_patch.proofs.Entries.{no_members_of}
use Rattle.tinyjson_patch.proofs.merge_patch.members_of.Goals as goal

pub returns-in_default : goal.returns-in_default
returns-in_default c = ap members_view c.new.ensures.empty ∙ no_members_of c.args.value c.in_default.not-Object
