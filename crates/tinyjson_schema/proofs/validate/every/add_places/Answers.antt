use Rattle.std.proofs.Common.{◌∷◌, [], map, refl}
use Rattle.tinyjson_schema.specs.Every.{at_keyword}
use Rattle.tinyjson_schema.specs.Steps.{placed}
use Rattle.tinyjson_schema.proofs.Adding.{first_at, first_end}
use Rattle.tinyjson_schema.proofs.validate.every.add_places.Goals as goal

pub loop-keyword-preserved : goal.loop-keyword-preserved
loop-keyword-preserved c =
    let p = placed c.args.path.now in
    first_at c.args.limit (λ ks. map p (map at_keyword ks)) c.args.keywords.now c.loop-keyword.keyword-index _ _
    c.loop-keyword.found.items c.add_place.new.found.items (λ k. p (at_keyword k) ∷ []) c.loop-keyword-test.true (λ k. refl)
    c.in_ok-add_place.ensures c.loop-keyword.invariant

pub returns : goal.returns
returns c = first_end c.args.limit (λ ks. map (placed c.args.path.now) (map at_keyword ks)) c.args.keywords.now
    c.loop-keyword.keyword-index _ _ c.loop-keyword-test.false refl c.loop-keyword.invariant
