use Rattle.std.proofs.Common.{◌∙◌, ap, is_some}
use Rattle.std.specs.Str.{chars}
use Rattle.tinyjson_view.proofs.Callers.{key_at, some_mapped}
use Rattle.tinyjson_view.specs.Views.{tree_of}
use Rattle.tinyjson_diff.proofs.parts.has_key.Goals as goal

pub returns : goal.returns
returns c =
    c.is_some.ensures
    ∙ (some_mapped tree_of c.member.result
    ∙ ap is_some (c.member.ensures ∙ key_at (tree_of c.args.object) (chars c.args.key.now)))
