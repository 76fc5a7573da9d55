use Rattle.std.proofs.Common.{◌≡◌, ◌∙◌, ℕ, Vec, Global, option_map, sym, ap, subst}
use Rattle.std.specs.Prelude.{option_and_then, IfOk}
use Rattle.tinyjson.specs.View.{view}
use Rattle.tinyjson_schema_keywords.specs.References.{at_fragment}
use Rattle.tinyjson_schema_keywords.proofs.References.{string_target}
use Rattle.tinyjson_schema_keywords.proofs.reference.target.Goals as goal

pub returns-in_default-2 : goal.returns-in_default-2
returns-in_default-2 c =
    let root = view c.args.walk.whole.now.root.now in
    let read = ap (option_map (λ (v : Vec ℕ Global). v.items)) (sym c.in_default-2.is) ∙ c.in_ok-fragment.ensures in
    ap (option_and_then (at_fragment root)) read
    ∙ sym (string_target root c.args.reference.now c.in-String.reference c.as_str.result.now c.in-String.is c.as_str.ensures.value)

pub returns : goal.returns
returns c =
    let root = view c.args.walk.whole.now.root.now in
    let read = ap (option_map (λ (v : Vec ℕ Global). v.items)) (sym c.in-Some.is) ∙ c.in_ok-fragment.ensures in
    subst (λ o. IfOk c.at_fragment.result (λ r. option_map (λ x. view x.now) r ≡ o))
    (ap (at_fragment root) c.as_slice.ensures.value ∙ (ap (option_and_then (at_fragment root)) read
    ∙ sym (string_target root c.args.reference.now c.in-String.reference c.as_str.result.now c.in-String.is c.as_str.ensures.value)))
    c.at_fragment.ensures
