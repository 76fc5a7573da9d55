use Rattle.std.proofs.Common.{◌∙◌, Some, ap, refl}
use Rattle.text_uri.specs.Resolving.{without_fragment}
use Rattle.tinyjson_schema_drafts.specs.References.{uri_in}
use Rattle.tinyjson_schema_drafts.proofs.Strings.{said}
use Rattle.tinyjson_schema_drafts.proofs.wanted.uri_in.Goals as goal

pub returns-in-String : goal.returns-in-String
returns-in-String c = ap Some c.without_fragment.ensures
    ∙ said c.args.value.now c.in-String.uri c.as_str.result.now c.in-String.is c.as_str.ensures.value
    (λ bs. Some (without_fragment bs)) uri_in (λ cs. refl)
