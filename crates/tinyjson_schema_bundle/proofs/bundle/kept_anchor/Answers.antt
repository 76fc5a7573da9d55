use Rattle.std.proofs.Common.{◌≡◌, ◌∙◌, ◌&&◌, true, false, None, Some, cond, sym, ap}
use Rattle.std.specs.Str.{chars}
use Rattle.tinyjson.proofs.Callers.{view_String}
use Rattle.tinyjson.specs.Tree.{string}
use Rattle.tinyjson_schema_keywords.specs.Anchors.{is_plain_name}
use Rattle.tinyjson_schema_bundle.specs.Bundles.{places_in, is_here, is_own_anchor, string_of, with_name}
use Rattle.tinyjson_schema_bundle.proofs.Placing.{anchor_said}
use Rattle.tinyjson_schema_bundle.proofs.bundle.kept_anchor.Goals as goal

pub returns-then-is_own_anchor : goal.returns-then-is_own_anchor
returns-then-is_own_anchor c =
    let at = places_in c.args.places.now in
    let b = c.args.spot.base.now in
    let p = c.args.spot.place.now in
    let bs = c.as_str-name.result.now in
    let own : is_own_anchor at b p bs ≡ true = ap (λ u. is_plain_name bs && is_here (at u) p)
    (sym (c.as_str.ensures.value ∙ c.in_ok-uri.ensures)) ∙ (sym c.is_own_anchor.ensures ∙ c.if-is_own_anchor.true) in
    sym (ap (λ x. cond x None (Some (string_of (with_name b bs)))) own)
    ∙ anchor_said c.args.operand.now c.in-String.name bs c.in-String.is c.as_str-name.ensures.value at b p

pub returns : goal.returns
returns c =
    let at = places_in c.args.places.now in
    let b = c.args.spot.base.now in
    let p = c.args.spot.place.now in
    let bs = c.as_str-name.result.now in
    let own : is_own_anchor at b p bs ≡ false = ap (λ u. is_plain_name bs && is_here (at u) p)
    (sym (c.as_str.ensures.value ∙ c.in_ok-uri.ensures)) ∙ (sym c.is_own_anchor.ensures ∙ c.if-is_own_anchor.false) in
    ap Some (view_String c.in_ok-uri.uri ∙ ap (λ xs. string (chars xs)) c.in_ok-uri.ensures)
    ∙ (sym (ap (λ x. cond x None (Some (string_of (with_name b bs)))) own)
    ∙ anchor_said c.args.operand.now c.in-String.name bs c.in-String.is c.as_str-name.ensures.value at b p)
