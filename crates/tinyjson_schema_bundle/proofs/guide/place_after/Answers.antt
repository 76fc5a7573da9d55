use Rattle.std.proofs.Common.{◌+◌, chars, drop, map, string_bytes, sym, ap, ◌∙◌}
use Rattle.tinyjson.specs.View.{text}
use Rattle.tinyjson_schema_keywords.proofs.Callers.{drop_item, drop_end}
use Rattle.tinyjson_schema_bundle.specs.Bundles.{at_key, place_after}
use Rattle.tinyjson_schema_bundle.proofs.guide.place_after.Goals as goal

pub loop-token-preserved : goal.loop-token-preserved
loop-token-preserved c =
    let ts = c.args.tokens.now in
    let i = c.loop-token.token-index in
    let below = string_bytes c.loop-token.below in
    ap (λ p. place_after p (map text (drop (i + 1) ts)))
    (c.in_ok-below-2.ensures ∙ (λ j. at_key (c.as_str.ensures.value j) (chars (c.as_str-in-loop-token.ensures.value j))))
    ∙ (sym (ap (λ xs. place_after below (map text xs)) (drop_item ts i c.token-item.result c.loop-token-test.true c.token-item.is))
    ∙ c.loop-token.invariant)

pub returns : goal.returns
returns c =
    let below = string_bytes c.loop-token.below in
    sym (ap (λ xs. place_after below (map text xs)) (drop_end c.args.tokens.now c.loop-token.token-index c.loop-token-test.false))
    ∙ c.loop-token.invariant
