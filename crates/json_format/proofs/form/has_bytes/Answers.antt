use Rattle.std.proofs.Common.{◌≡◌, ◌∙◌, subst, sym}
use Rattle.std.proofs.lemmas.Bool.Decides.{Decides-eqb}
use Rattle.std.proofs.lemmas.Slice.Eq.{slice_eq-Decides}
use Rattle.std.proofs.lemmas.Str.{encodes-chars}
use Rattle.std.specs.Bool.{Decides}
use Rattle.json_format.proofs.form.has_bytes.Goals as goal

pub returns : goal.returns
returns c =
    subst (λ bs. Decides c.eq.result (c.args.bytes.now ≡ bs)) (c.as_bytes.ensures.value ∙ sym (encodes-chars _ c.utf8.text))
    (slice_eq-Decides Decides-eqb _ _ _ c.eq.ensures)
