use Rattle.std.proofs.Common.{◌∙◌, refl}
use Rattle.std.specs.Str.{bytes_eq}
use Rattle.tinyjson_schema_drafts.specs.References.{is_text}
use Rattle.tinyjson_schema_drafts.proofs.Strings.{said}
use Rattle.tinyjson_schema_drafts.proofs.wanted.is_text.Goals as goal

pub returns-in-String : goal.returns-in-String
returns-in-String c = c.eq.ensures
    ∙ said c.args.value.now c.in-String.own c.as_str.result.now c.in-String.is c.as_str.ensures.value (λ bs. bytes_eq bs c.args.text.now)
    (is_text c.args.text.now) (λ cs. refl)
