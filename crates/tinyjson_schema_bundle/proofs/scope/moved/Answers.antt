use Rattle.std.proofs.Common.{◌≡◌, ◌∙◌, map, sym, ap, string_bytes, rules, [], false}
use Rattle.std.specs.Prelude.{unwrap_or}
use Rattle.tinyjson_schema_bundle.specs.Bundles.{all_marked, places_in}
use Rattle.tinyjson_schema_bundle.specs.Scopes.{below, is_same, from_root, reached, scope_at, reached_of}
use Rattle.tinyjson_schema_bundle.proofs.Scoping.{moved_to}
use Rattle.tinyjson_schema_bundle.proofs.scope.moved.Goals as goal

pub returns : goal.returns
returns c =
    let g = c.args.guide.now in
    let all = all_marked g.marks.now in
    let r = g.root.now in
    let p = unwrap_or (places_in g.places.now c.args.base.now) [] in
    let q = string_bytes c.args.place in
    let s = reached_of g.from.now in
    let t = reached_of c.in_ok-state.state in
    let is : t ≡ reached all r (scope_at all r s p) q = c.in_ok-state.ensures
    ∙ (ap (λ x. reached all r (scope_at all r s x) c.as_str.result.now) c.place_of_base.ensures
    ∙ ap (reached all r (scope_at all r s p)) c.as_str.ensures.value) in
    let other : is_same t.0 (scope_at all r from_root q) ≡ false = ap (λ x. is_same t.0 (scope_at all r from_root x))
    (sym c.as_str-2.ensures.value) ∙ (sym c.in_ok-is_in_document.ensures ∙ c.if-branch.false) in
    let rest : c.rest_below-rest.result.now ≡ unwrap_or (below t.1 q) [] = c.rest_below-rest.ensures
    ∙ (ap (λ x. unwrap_or (below x c.as_str-4.result.now) []) c.as_str-3.ensures.value
    ∙ ap (λ x. unwrap_or (below t.1 x) []) c.as_str-4.ensures.value) in
    c.in_ok-format.ensures.ok ∙ moved_to (places_in g.places.now) all r g.letters.now g.contested (map reached_of g.copies.now) s t p q
    c.place_in_list-index.result c.rest_below-rest.result.now (search rules) is other c.place_in_list-index.ensures rest
