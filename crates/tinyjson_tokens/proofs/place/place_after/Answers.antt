use Rattle.std.proofs.Common.{◌≡◌, ◌+◌, ap, ap₂, drop, sym, ◌∙◌, arith}
use Rattle.std.proofs.lemmas.List.{take_rest}
use Rattle.std.specs.Fmt.{is_char_start}
use Rattle.std.specs.List.{count_by}
use Rattle.tinyjson_grammar.specs.Position.{advance, capped, line_feeds, origin, position_at}
use Rattle.std.specs.Str.{chars}
use Rattle.tinyjson_tokens.proofs.Places.{place_is}
use Rattle.tinyjson_tokens.proofs.place.place_after.Goals as goal

pub returns : goal.returns
returns c =
    let bytes = c.as_bytes-bytes.result.now in
    let start = c.line_start-start in
    let whole = place_is bytes start.result c.as_bytes-bytes.ensures.utf8 start.ensures.within start.ensures.none start.ensures.after in
    let lines : c.saturating_add.result ≡ capped (1 + line_feeds bytes) = omega (arith, c.saturating_add.ensures, c.line_feeds.ensures) in
    let counted = c.characters-column.ensures ∙ ap (count_by is_char_start) (take_rest bytes start.result) in
    let column : c.characters-column.result ≡ capped (count_by is_char_start (drop start.result bytes)) =
    omega (arith, counted, c.characters-column.type_inv) in
    ap₂ position_at lines column ∙ sym whole ∙ ap (λ bs. advance origin (chars bs)) c.as_bytes-bytes.ensures.value
