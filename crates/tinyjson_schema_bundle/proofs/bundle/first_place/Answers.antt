use Rattle.std.proofs.Common.{◌≡◌, ◌∙◌, Some, cond, option_map, string_bytes, sym, ap, subst}
use Rattle.std.specs.Prelude.{IfOk, option_and_then}
use Rattle.std.specs.Str.{IsUtf8}
use Rattle.text_uri.specs.Resolving.{without_fragment}
use Rattle.tinyjson_schema_keywords.specs.References.{percent_decoded}
use Rattle.tinyjson_schema_bundle.specs.Bundles.{place_below, with_name}
use Rattle.tinyjson_schema_bundle.specs.Scopes.{guided}
use Rattle.tinyjson_schema_bundle.proofs.Placing.{no_bytes, no_text, pointer_leads, name_leads}
use Rattle.tinyjson_schema_bundle.proofs.bundle.first_place.Goals as goal

pub returns-then-begins_pointer : goal.returns-then-begins_pointer
returns-then-begins_pointer c =
    let to = guided c.args.guide.now in
    let f = c.fragment_in-fragment.result.now in
    let ds = c.in-Ok.decoded.now in
    let read : Some ds ≡ percent_decoded f = ap Some (c.in-Ok.ensures.cases.0 ∙ c.as_slice.ensures.value)
    ∙ (ap (option_map (λ v. v.items)) (sym c.in-Some.is) ∙ (c.in_ok-decoded.ensures ∙ ap percent_decoded c.as_bytes.ensures.value)) in
    subst (λ o. IfOk c.place_below.result (λ p. option_map string_bytes p ≡ o))
    (ap (λ u. option_and_then (λ q. place_below q ds) (to.0 u)) c.without_fragment-uri.ensures
    ∙ pointer_leads to c.args.dynamic c.args.base.now c.args.target.now f c.fragment_in-fragment.ensures ds read
    (subst IsUtf8 (sym c.in-Ok.ensures.cases.0) c.in-Ok.ensures.cases.1) (sym c.begins_pointer.ensures ∙ c.if-begins_pointer.true))
    c.place_below.ensures

pub returns-in_default : goal.returns-in_default
returns-in_default c =
    no_bytes (guided c.args.guide.now) c.args.dynamic c.args.base.now c.args.target.now
    c.fragment_in-fragment.result.now c.fragment_in-fragment.ensures
    (ap (option_map (λ v. v.items)) (sym c.in_default.is) ∙ (c.in_ok-decoded.ensures ∙ ap percent_decoded c.as_bytes.ensures.value))

pub returns-then-dynamic : goal.returns-then-dynamic
returns-then-dynamic c =
    let to = guided c.args.guide.now in
    let f = c.fragment_in-fragment.result.now in
    let t = c.args.target.now in
    let ds = c.in-Ok.decoded.now in
    let read : Some ds ≡ percent_decoded f = ap Some (c.in-Ok.ensures.cases.0 ∙ c.as_slice.ensures.value)
    ∙ (ap (option_map (λ v. v.items)) (sym c.in-Some.is) ∙ (c.in_ok-decoded.ensures ∙ ap percent_decoded c.as_bytes.ensures.value)) in
    subst (λ o. IfOk c.place_of_dynamic.result (λ p. option_map string_bytes p ≡ o))
    (ap (λ u. to.1 c.args.base.now u ds) c.without_fragment-uri.ensures
    ∙ (sym (ap (λ x. cond x (to.1 c.args.base.now (without_fragment t) ds) (to.0 (with_name (without_fragment t) ds))) c.if-dynamic.true)
    ∙ name_leads to c.args.dynamic c.args.base.now t f c.fragment_in-fragment.ensures ds read
    (subst IsUtf8 (sym c.in-Ok.ensures.cases.0) c.in-Ok.ensures.cases.1) (sym c.begins_pointer.ensures ∙ c.if-begins_pointer.false)))
    c.place_of_dynamic.ensures

pub returns : goal.returns
returns c =
    let to = guided c.args.guide.now in
    let f = c.fragment_in-fragment.result.now in
    let t = c.args.target.now in
    let ds = c.in-Ok.decoded.now in
    let read : Some ds ≡ percent_decoded f = ap Some (c.in-Ok.ensures.cases.0 ∙ c.as_slice.ensures.value)
    ∙ (ap (option_map (λ v. v.items)) (sym c.in-Some.is) ∙ (c.in_ok-decoded.ensures ∙ ap percent_decoded c.as_bytes.ensures.value)) in
    subst (λ o. IfOk c.place_of_name.result (λ p. option_map string_bytes p ≡ o))
    (ap (λ u. to.0 (with_name u ds)) c.without_fragment-uri.ensures
    ∙ (sym (ap (λ x. cond x (to.1 c.args.base.now (without_fragment t) ds) (to.0 (with_name (without_fragment t) ds))) c.if-dynamic.false)
    ∙ name_leads to c.args.dynamic c.args.base.now t f c.fragment_in-fragment.ensures ds read
    (subst IsUtf8 (sym c.in-Ok.ensures.cases.0) c.in-Ok.ensures.cases.1) (sym c.begins_pointer.ensures ∙ c.if-begins_pointer.false)))
    c.place_of_name.ensures

pub returns-in_default-from_utf8 : goal.returns-in_default-from_utf8
returns-in_default-from_utf8 c =
    let f = c.fragment_in-fragment.result.now in
    let bs = c.as_slice.result.now in
    let read : Some bs ≡ percent_decoded f = ap Some c.as_slice.ensures.value
    ∙ (ap (option_map (λ v. v.items)) (sym c.in-Some.is) ∙ (c.in_ok-decoded.ensures ∙ ap percent_decoded c.as_bytes.ensures.value)) in
    no_text (guided c.args.guide.now) c.args.dynamic c.args.base.now c.args.target.now f c.fragment_in-fragment.ensures bs read
    c.in_default-from_utf8.ensures.cases.0
