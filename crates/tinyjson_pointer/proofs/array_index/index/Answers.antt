use Rattle.std.proofs.Common.{◌≡◌, false, true, sym, ap, ◌∙◌}
use Rattle.tinyjson_pointer.proofs.Indices.{no_index, index_says}
use Rattle.tinyjson_pointer.proofs.array_index.index.Goals as goal
use Rattle.tinyjson_pointer.specs.Index.{is_index}

pub returns-then-not-is_numeral : goal.returns-then-not-is_numeral
returns-then-not-is_numeral c =
    let e : is_index c.args.token.now ≡ false = ap is_index (sym c.as_bytes.ensures.value)
    ∙ (sym c.is_numeral.ensures ∙ c.if-not-is_numeral.true) in
    no_index c.args.token.now c.utf8.token e

pub returns : goal.returns
returns c =
    let e : is_index c.args.token.now ≡ true = ap is_index (sym c.as_bytes.ensures.value)
    ∙ (sym c.is_numeral.ensures ∙ c.if-not-is_numeral.false) in
    index_says c.args.token.now c.parse.result c.ok.result c.utf8.token e c.parse.ensures.value.0 c.ok.ensures.value
