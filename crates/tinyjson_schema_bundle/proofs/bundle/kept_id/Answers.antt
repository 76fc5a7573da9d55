use Rattle.std.proofs.Common.{◌≡◌, ◌∙◌, true, false, None, Some, cond, sym, ap}
use Rattle.tinyjson.specs.View.{view}
use Rattle.tinyjson_schema_bundle.specs.Bundles.{places_in, is_own_id}
use Rattle.tinyjson_schema_bundle.proofs.Placing.{id_said}
use Rattle.tinyjson_schema_bundle.proofs.bundle.kept_id.Goals as goal

pub returns-then-is_own_id : goal.returns-then-is_own_id
returns-then-is_own_id c =
    let at = places_in c.args.places.now in
    let b = c.args.spot.base.now in
    let p = c.args.spot.place.now in
    let bs = c.as_str.result.now in
    let own : is_own_id at b p bs ≡ true = sym c.is_own_id.ensures ∙ c.if-is_own_id.true in
    sym (ap (λ x. cond x None (Some (view c.args.operand.now))) own)
    ∙ id_said c.args.operand.now c.in-String.id bs c.in-String.is c.as_str.ensures.value at b p

pub returns : goal.returns
returns c =
    let at = places_in c.args.places.now in
    let b = c.args.spot.base.now in
    let p = c.args.spot.place.now in
    let bs = c.as_str.result.now in
    let own : is_own_id at b p bs ≡ false = sym c.is_own_id.ensures ∙ c.if-is_own_id.false in
    ap Some c.in_ok-try_clone-2.ensures ∙ (sym (ap (λ x. cond x None (Some (view c.args.operand.now))) own)
    ∙ id_said c.args.operand.now c.in-String.id bs c.in-String.is c.as_str.ensures.value at b p)
