use Rattle.std.proofs.Common.{◌≡◌, ◌∙◌, string_bytes, ap, subst}
use Rattle.std.specs.Prelude.{IfOk}
use Rattle.text_uri.specs.Resolving.{without_fragment}
use Rattle.tinyjson_schema_bundle.proofs.Marking.{base_said}
use Rattle.tinyjson_schema_bundle.proofs.mark.base_by.Goals as goal

pub returns : goal.returns
returns c =
    let b = c.args.base.now in
    let bs = c.as_str.result.now in
    subst (λ xs. IfOk c.from_str-2.result (λ s. string_bytes s ≡ xs))
    (c.without_fragment.ensures
    ∙ (ap without_fragment (c.as_str-2.ensures.value ∙ c.in_ok-uri.ensures)
    ∙ base_said c.args.id.now c.in-String.id b bs c.in-String.is c.as_str.ensures.value)) c.from_str-2.ensures.ok
