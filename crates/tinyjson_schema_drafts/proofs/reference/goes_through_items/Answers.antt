use Rattle.std.proofs.Common.{◌≡◌, ◌∙◌, ◌||◌, ◌+◌, Bool, true, false, List, String, Global, bytes_eq, codes, drop}
use Rattle.std.proofs.Common.{encode_utf8_all, map, sym, ap}
use Rattle.tinyjson.specs.View.{text}
use Rattle.tinyjson_schema_keywords.proofs.Callers.{text_bytes, turn_next, turn_stop}
use Rattle.tinyjson_schema_drafts.specs.Pointers.{goes_through_items}
use Rattle.tinyjson_schema_drafts.proofs.reference.goes_through_items.Goals as goal

pub returns-then-eq : goal.returns-then-eq
returns-then-eq c =
    let ks = c.args.tokens.now in
    let i = c.loop-token.token-index in
    let x = c.token-item.result in
    let through : List (String Global) → Bool = λ xs. goes_through_items (map text xs) in
    let same : bytes_eq (encode_utf8_all (text x)) (codes "items") ≡ true
    = ap (λ bs. bytes_eq bs (codes "items")) (sym (text_bytes x c.as_str.result.now c.as_str.ensures.value))
    ∙ (sym c.eq.ensures ∙ c.if-eq.true) in
    turn_stop through ks i true x c.loop-token-test.true c.token-item.is (ap (λ b. b || through (drop (i + 1) ks)) same)
    c.loop-token.invariant

pub loop-token-preserved : goal.loop-token-preserved
loop-token-preserved c =
    let ks = c.args.tokens.now in
    let i = c.loop-token.token-index in
    let x = c.token-item.result in
    let through : List (String Global) → Bool = λ xs. goes_through_items (map text xs) in
    let other : bytes_eq (encode_utf8_all (text x)) (codes "items") ≡ false
    = ap (λ bs. bytes_eq bs (codes "items")) (sym (text_bytes x c.as_str.result.now c.as_str.ensures.value))
    ∙ (sym c.eq.ensures ∙ c.if-eq.false) in
    turn_next through ks i x c.loop-token-test.true c.token-item.is (ap (λ b. b || through (drop (i + 1) ks)) other)
    c.loop-token.invariant
