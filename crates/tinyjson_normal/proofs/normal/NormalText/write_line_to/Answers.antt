use Rattle.std.proofs.Common.{◌∙◌, subst}
use Rattle.tinyjson_normal.specs.Normal.{IsKept}
use Rattle.tinyjson_normal.proofs.normal.NormalText.write_line_to.Goals as goal

pub returns-in-Text-clause-text : goal.returns-in-Text-clause-text
returns-in-Text-clause-text g c = λ t h.
    let k = subst (λ z. IsKept z t) c.in-Text.is h in
    (c.write_with_line_feed.ensures.text ∙ k.0, k.1)
