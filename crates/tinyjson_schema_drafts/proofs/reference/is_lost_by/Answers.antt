use Rattle.std.proofs.Common.{◌≡◌, ◌∙◌, Some, option_map, sym, ap, subst}
use Rattle.std.specs.Prelude.{IfOk}
use Rattle.std.specs.Str.{IsUtf8}
use Rattle.tinyjson.specs.View.{view}
use Rattle.tinyjson_schema_keywords.specs.References.{percent_decoded}
use Rattle.tinyjson_schema_drafts.proofs.Wording.{text_lost, no_text_lost}
use Rattle.tinyjson_schema_drafts.proofs.reference.is_lost_by.Goals as goal

pub returns-in-Ok : goal.returns-in-Ok
returns-in-Ok c =
    let f = c.args.fragment.now in
    let ds = c.in-Ok.word.now in
    let read : Some ds ≡ percent_decoded f = ap Some (c.in-Ok.ensures.cases.0 ∙ c.as_slice.ensures.value)
    ∙ (ap (option_map (λ v. v.items)) (sym c.in-Some.is) ∙ (c.in_ok-decoded.ensures ∙ ap percent_decoded c.as_bytes.ensures.value)) in
    subst (λ b. IfOk c.is_lost_word.result (λ is. is ≡ b))
    (text_lost (view c.args.resource.now) c.args.uri.now f ds read (subst IsUtf8 (sym c.in-Ok.ensures.cases.0) c.in-Ok.ensures.cases.1))
    c.is_lost_word.ensures

pub returns : goal.returns
returns c =
    let f = c.args.fragment.now in
    let ds = c.as_slice.result.now in
    let read : Some ds ≡ percent_decoded f = ap Some c.as_slice.ensures.value
    ∙ (ap (option_map (λ v. v.items)) (sym c.in-Some.is) ∙ (c.in_ok-decoded.ensures ∙ ap percent_decoded c.as_bytes.ensures.value)) in
    no_text_lost (view c.args.resource.now) c.args.uri.now f ds read c.in-Err.ensures.cases.0
