use Rattle.std.proofs.Common.{◌++◌, ◌∷◌, [], sym, ◌∙◌, ap, append_assoc, arith}
use Rattle.tinyjson_output.specs.Buffer.{buffered}
use Rattle.tinyjson_output.proofs.Quotes.{all_plain}
use Rattle.tinyjson_output.proofs.buffer.quick_text.Goals as goal

pub returns : goal.returns
returns c =
    let bytes = c.args.bytes.now in
    let p = buffered c.args.buffer.now in
    let plain = all_plain bytes c.plain_end.result c.plain_end.ensures.end (omega arith) in
    c.append-3.ensures.buffers ∙ ap (λ w. w ++ 34 ∷ []) (c.append-2.ensures.buffers ∙ ap (λ w. w ++ bytes) c.append.ensures.buffers)
    ∙ append_assoc (p ++ 34 ∷ []) bytes (34 ∷ []) ∙ append_assoc p (34 ∷ []) (bytes ++ 34 ∷ [])
    ∙ ap (λ b. p ++ 34 ∷ (b ++ 34 ∷ [])) (sym plain)
