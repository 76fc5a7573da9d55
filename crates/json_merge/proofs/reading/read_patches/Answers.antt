use Rattle.std.proofs.Common.{◌≡◌, ◌+◌, ◌++◌, ◌∷◌, [], inl, length, if◌then◌else◌, ap, sym, subst, ◌∙◌}
use Rattle.std.proofs.lemmas.List.{length-append}
use Rattle.std.proofs.lemmas.List.Elements.{All-push}
use Rattle.std.proofs.lemmas.Result.{err_from_is_err_and}
use Rattle.std.specs.Prelude.{All}
use Rattle.std.specs.Str.{chars}
use Rattle.json_merge.specs.Reading.{IsOfFile}
use Rattle.json_merge.proofs.reading.read_patches.Goals as goal

pub loop-file-preserved : goal.loop-file-preserved
loop-file-preserved c =
    let before = c.loop-file.patches.items in
    let last = before ++ c.in_ok-patch.patch ∷ [] in
    let is : c.push.new.self.items ≡ last =
    subst (λ b. c.push.new.self.items ≡ (if b then last else before)) c.if-is_err.ensures.negation c.push.ensures.items in (
      ap length is ∙ (length-append before (c.in_ok-patch.patch ∷ []) ∙ ap (λ n. n + 1) c.loop-file.invariant.0),
      subst (All IsOfFile) (sym is) (All-push IsOfFile before _ c.loop-file.invariant.1 (chars c.as_str.result.now, c.in_ok-patch.ensures)),
    )

pub returns-in_err-patch : goal.returns-in_err-patch
returns-in_err-patch c =
    let p = err_from_is_err_and c.from_residual-in_err-patch.result c.from_residual-in_err-patch.ensures.1 in
    rw (p.1, p.2) (inl (chars c.as_str.result.now, c.in_err-patch.ensures))
