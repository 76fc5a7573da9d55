use Rattle.std.proofs.Common.{◌∙◌, None, cond, sym, ap}
use Rattle.tinyjson.specs.View.{text}
use Rattle.std.proofs.Common.{encode_utf8_all}
use Rattle.tinyjson_schema_keywords.specs.Names.{keywords, keyword_among}
use Rattle.tinyjson_schema_keywords.proofs.Callers.{text_bytes}
use Rattle.tinyjson_schema_report.proofs.ending.keyword_in.Goals as goal

pub returns-then-holds_more : goal.returns-then-holds_more
returns-then-holds_more c =
    ap (λ b. cond b None (keyword_among keywords (encode_utf8_all (text c.args.token.now))))
    (sym c.if-holds_more.true ∙ c.holds_more.ensures)

pub returns : goal.returns
returns c =
    c.keyword_of.ensures ∙ (ap (keyword_among keywords) (text_bytes c.args.token.now c.as_str.result.now c.as_str.ensures.value)
    ∙ ap (λ b. cond b None (keyword_among keywords (encode_utf8_all (text c.args.token.now))))
    (sym c.if-holds_more.false ∙ c.holds_more.ensures))
