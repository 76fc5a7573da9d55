use Rattle.std.proofs.Common.{ap, subst, sym, ◌∙◌}
use Rattle.std.specs.Str.{chars}
use Rattle.tinyjson_patch.specs.private.Edited.{tree}
use Rattle.tinyjson_patch.specs.private.Opening.{Opens}
use Rattle.tinyjson_patch.proofs.Editing.Trees.{tree_Array}
use Rattle.tinyjson_patch.proofs.edit.opened.open.Goals as goal

pub returns-in-Array : goal.returns-in-Array
returns-in-Array c =
    subst (λ t. Opens t (chars c.args.token.now) c.open_array.result) (sym (ap tree c.in-Array.is ∙ tree_Array c.in-Array.items)) c.open_array.ensures
