use Rattle.std.proofs.Common.{◌≡◌, ◌+◌, ◌∷◌, None, suc, drop, ap, arith, refl}
use Rattle.tinyjson.specs.View.{view, items_view}
use Rattle.tinyjson_schema_keywords.specs.Subschemas.{item_parts, by_index}
use Rattle.tinyjson_schema_keywords.specs.declared.keyword.Form.TheVariants as form
use Rattle.tinyjson_schema_keywords.proofs.Stepping.{part_listed, parts_listed}
use Rattle.tinyjson_schema_keywords.proofs.subschemas.item_parts.Goals as goal

pub loop-index-preserved : goal.loop-index-preserved
loop-index-preserved c =
    let i = c.loop-index.index in
    let next : suc i ≡ i + 1 = omega arith in
    let rest = items_view (drop (i + 1) c.args.schemas.now) in
    part_listed (λ j xs. item_parts j (items_view xs)) c.args.schemas.now i c.loop-index.parts.items c.loop-index.invariant
    c.index-schemas-index.result _ c.push.new.self.items c.loop-index-test.true c.index-schemas-index.is c.in_ok-push.ensures.items
    (ap (λ j. (by_index i, None, form.Schema, view c.index-schemas-index.result) ∷ item_parts j rest) next)

pub returns : goal.returns
returns c = parts_listed (λ j xs. item_parts j (items_view xs)) c.args.schemas.now c.loop-index.index c.loop-index.parts.items
    c.loop-index.invariant c.loop-index-test.false refl
