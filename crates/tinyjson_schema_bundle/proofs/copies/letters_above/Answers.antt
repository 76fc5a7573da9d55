use Rattle.std.proofs.Common.{◌≡◌, ◌+◌, ◌∙◌, ◌++◌, ◌∷◌, [], suc, ap, arith}
use Rattle.tinyjson_schema_bundle.specs.Scopes.{letters_above}
use Rattle.tinyjson_schema_bundle.proofs.Scoping.{replicate_more}
use Rattle.tinyjson_schema_bundle.proofs.copies.letters_above.Goals as goal

pub loop-preserved : goal.loop-preserved
unfolding lib.Utf8.encode
loop-preserved c =
    let next : suc c.loop.counter ≡ c.loop.counter + 1 = omega arith in
    c.in_ok-push.ensures.bytes ∙ (ap (λ l. l ++ 122 ∷ []) c.loop.invariant
    ∙ (replicate_more (suc c.loop.counter) 122 ∙ ap letters_above next))
