use Rattle.std.proofs.Common.{◌≡◌, ◌+◌, ap, ◌∙◌, take, length, length-append, arith, ◌∷◌, []}
use Rattle.tinyjson_output.proofs.Callers.{enc}
use Rattle.tinyjson_grammar.specs.Text.{compact}
use Rattle.tinyjson_normal.proofs.Compacting.{whole_kept}
use Rattle.tinyjson_normal.proofs.reader.NormalReader.finish.Goals as goal

pub returns : goal.returns
returns c = λ t h k.
    let text = c.args.compact.value.text in
    let n = c.saturating_sub.result in
    let taken : c.replace-text.result.items ≡ text.items =
    ap (λ v. v.items) c.replace-text.ensures.value ∙ ap (λ z. z.text.items) c.deref_mut.ensures.value in
    let comma : n + 1 ≡ length text.items =
    omega (arith, c.replace-text.result.ok.0, ap length taken, ap length h, length-append (enc (compact t)) (44 ∷ [])) in
    (whole_kept text.items _ (enc (compact t)) n h comma (c.truncate.ensures.items ∙ ap (take n) taken), k)
