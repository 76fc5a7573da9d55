use Rattle.std.proofs.Common.{◌≡◌, ◌∙◌, Some, option_map, sym, ap, subst}
use Rattle.std.specs.Prelude.{IfOk}
use Rattle.std.specs.Str.{IsUtf8}
use Rattle.tinyjson.specs.View.{view}
use Rattle.tinyjson_schema_keywords.specs.References.{percent_decoded}
use Rattle.tinyjson_schema_bundle.proofs.Placing.{schema_found, schema_missing}
use Rattle.tinyjson_schema_bundle.proofs.copies.schema_there.Goals as goal

pub returns-in-Ok : goal.returns-in-Ok
returns-in-Ok c =
    let p = c.args.place.now in
    let ds = c.in-Ok.pointer.now in
    let read : Some ds ≡ percent_decoded p = ap Some (c.in-Ok.ensures.cases.0 ∙ c.as_slice.ensures.value)
    ∙ (ap (option_map (λ v. v.items)) (sym c.in-Some.is) ∙ (c.in_ok-decoded.ensures ∙ ap percent_decoded c.as_bytes.ensures.value)) in
    subst (λ o. IfOk c.at_pointer.result (λ r. option_map (λ x. view x.now) r ≡ o))
    (schema_found (view c.args.document.now) p ds read (subst IsUtf8 (sym c.in-Ok.ensures.cases.0) c.in-Ok.ensures.cases.1))
    c.at_pointer.ensures

pub returns : goal.returns
returns c =
    let p = c.args.place.now in
    let ds = c.as_slice.result.now in
    let read : Some ds ≡ percent_decoded p = ap Some c.as_slice.ensures.value
    ∙ (ap (option_map (λ v. v.items)) (sym c.in-Some.is) ∙ (c.in_ok-decoded.ensures ∙ ap percent_decoded c.as_bytes.ensures.value)) in
    schema_missing (view c.args.document.now) p ds read c.in-Err.ensures.cases.0
