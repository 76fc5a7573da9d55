use Rattle.std.proofs.Common.{◌≡◌, ◌∙◌, Some, None, option_map, string_bytes, sym, ap, subst}
use Rattle.std.specs.Prelude.{IfOk}
use Rattle.std.specs.Str.{chars}
use Rattle.tinyjson.proofs.Callers.{view_String}
use Rattle.tinyjson.specs.Tree.{string}
use Rattle.tinyjson.specs.View.{view}
use Rattle.text_uri.specs.Resolving.{resolved}
use Rattle.tinyjson_schema_bundle.specs.Bundles.{destination}
use Rattle.tinyjson_schema_bundle.specs.Scopes.{guided}
use Rattle.tinyjson_schema_bundle.proofs.Placing.{reference_pointed}
use Rattle.tinyjson_schema_bundle.proofs.bundle.pointing.Goals as goal

pub returns-in-Some : goal.returns-in-Some
returns-in-Some c =
    let to = guided c.args.guide.now in
    let d = c.args.dynamic in
    let b = c.args.base.now in
    let bs = c.as_str.result.now in
    let led : Some (string_bytes c.in-Some.place) ≡ destination to d b (resolved b bs) = ap (option_map string_bytes) (sym c.in-Some.is)
    ∙ (c.in_ok-place.ensures ∙ ap (destination to d b) (c.as_str-2.ensures.value ∙ c.in_ok-target.ensures)) in
    view_String c.in_ok-format-in-Some.field-0 ∙ (ap (λ xs. string (chars xs)) c.in_ok-format-in-Some.ensures.ok
    ∙ reference_pointed c.args.reference.now c.in-String.text bs c.in-String.is c.as_str.ensures.value to d b _ led)

pub returns : goal.returns
returns c =
    let to = guided c.args.guide.now in
    let d = c.args.dynamic in
    let b = c.args.base.now in
    let bs = c.as_str.result.now in
    let led : None ≡ destination to d b (resolved b bs) = ap (option_map string_bytes) (sym c.in-None.is)
    ∙ (c.in_ok-place.ensures ∙ ap (destination to d b) (c.as_str-2.ensures.value ∙ c.in_ok-target.ensures)) in
    subst (λ t. IfOk c.try_clone-in-None.result (λ v. view v ≡ t))
    (reference_pointed c.args.reference.now c.in-String.text bs c.in-String.is c.as_str.ensures.value to d b _ led)
    c.try_clone-in-None.ensures
