use Rattle.std.proofs.Common.{◌∙◌, is_some, ap, sym}
use Rattle.std.specs.Str.{chars}
use Rattle.tinyjson.specs.Index.{tree_at_key}
use Rattle.tinyjson.specs.View.{text}
use Rattle.tinyjson_view.proofs.Callers.{key_at}
use Rattle.tinyjson_view.specs.Views.{tree_of}
use Rattle.tinyjson_view.proofs.Callers.{some_mapped}
use Rattle.tinyjson_schema_assertions.proofs.assertion.has_key.Goals as goal

pub returns : goal.returns
returns c =
    let t = tree_of c.args.value.now in
    c.is_some.ensures ∙ (some_mapped tree_of c.member.result
    ∙ ap is_some (c.member.ensures ∙ (ap (λ bs. tree_at_key t (chars bs)) c.as_str.ensures.value ∙ key_at t (text c.args.key.now))))
