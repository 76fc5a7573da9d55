use Rattle.std.proofs.Common.{◌≡◌, ◌∙◌, ◌++◌, ◌∷◌, [], ap, string_bytes, subst}
use Rattle.std.specs.Prelude.{IfOk}
use Rattle.std.specs.Str.{chars}
use Rattle.tinyjson.specs.Characters.{line_feed}
use Rattle.tinyjson_cli.specs.Shown.{shown}
use Rattle.json_format.proofs.Formatting.{one_or_other}
use Rattle.json_format.proofs.form.name_line.Goals as goal

pub returns : goal.returns
returns c =
    subst (λ bs. IfOk c.format.result (λ s. string_bytes s ≡ shown (chars bs) ++ line_feed ∷ []))
    (ap (λ n. n.now) c.unwrap_or-name.ensures ∙ one_or_other (λ n. n.now) c.args.file _) c.format.ensures.ok
