use Rattle.std.proofs.Common.{◌++◌, ◌∷◌, [], length, sym, ◌∙◌, ap, rules, arith}
use Rattle.tinyjson_output.specs.Buffer.{buffered}
use Rattle.tinyjson_grammar.specs.Text.{separator}
use Rattle.tinyjson_output.proofs.Quotes.{all_plain, key_joined}
use Rattle.tinyjson_output.proofs.buffer.quick_key.Goals as goal

pub returns : goal.returns
returns c =
    let bytes = c.args.key.now in
    let p = buffered c.args.buffer.now in
    let s = separator c.args.first in
    let plain = all_plain bytes c.plain_end.result (rw c.as_bytes-bytes.ensures.value at c.plain_end.ensures.end)
    (omega (arith, ap length c.as_bytes-bytes.ensures.value)) in
    let front = c.append.ensures.buffers ∙ ap (λ w. p ++ w) c.opening.ensures.value in
    let middle = c.append-2.ensures.buffers ∙ ap (λ w. w ++ c.as_bytes-bytes.result.now) front
    ∙ ap (λ w. (p ++ (s ++ 34 ∷ [])) ++ w) c.as_bytes-bytes.ensures.value in (
      search rules,
      c.append-3.ensures.buffers ∙ ap (λ w. w ++ 34 ∷ 58 ∷ []) middle ∙ key_joined p s bytes
          ∙ ap (λ b. p ++ (s ++ ((34 ∷ [] ++ (b ++ 34 ∷ [])) ++ 58 ∷ []))) (sym plain),
    )
