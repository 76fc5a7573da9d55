use Rattle.std.proofs.Common.{◌≡◌, ◌∙◌, ◌∷◌, [], ◌++◌, ◌+◌, ◌<◌, length, map, take, arith, refl, sym, ap, encode_utf8_all}
use Rattle.std.proofs.lemmas.Grind.{put_three}
use Rattle.std.proofs.lemmas.List.{map_more}
use Rattle.std.specs.Str.{chars}
use Rattle.std.proofs.Math.Utf8.{encode}
use Rattle.tinyjson.specs.View.{text}
use Rattle.tinyjson_pointer.specs.Text.{escape, pointer_text}
use Rattle.tinyjson_pointer.proofs.Tokens.{pointer_more}
use Rattle.tinyjson_pointer.proofs.pointer.PointerDisplay.fmt.Goals as goal

pub loop-token-preserved : goal.loop-token-preserved
unfolding encode
loop-token-preserved g c = λ plain.
    let before = c.loop-token.invariant plain in
    let slash = c.in_ok-write_str.ensures.writes before.plain refl in
    let escaped = c.in_ok-write_escaped.ensures slash.plain refl in
    let items = c.deref-token-items.result.now in
    let i = c.loop-token.token-index in
    let within : i < length items = omega arith in
    let more : map text (take (i + 1) items) ≡ map text (take i items) ++ text c.token-item.result ∷ []
    = map_more text items i c.token-item.result within ∙ ap (λ s. map text (take i items) ++ text s ∷ []) (sym c.token-item.is) in
    put_three g.W.Write.write_str_gives _ _ _ _ _ _ _ _ before slash escaped
    (ap (λ bs. encode_utf8_all (pointer_text (map text (take i items))) ++ encode_utf8_all (47 ∷ escape (chars bs))) c.as_str.ensures.value
    ∙ (pointer_more (map text (take i items)) (text c.token-item.result) ∙ ap (λ ts. encode_utf8_all (pointer_text ts)) (sym more)))
