use Rattle.std.proofs.Common.{◌≡◌, ◌∙◌, ◌++◌, ◌∷◌, [], ap, append_assoc, arith, chars}
use Rattle.std.specs.Fmt.{decimal}
use Rattle.std.specs.Prelude.{codes}
use Rattle.std.proofs.lemmas.Fmt.{IsAscii-decimal}
use Rattle.std.proofs.lemmas.Str.{chars-IsAscii}
use Rattle.tinyjson.specs.View.{text}
use Rattle.tinyjson_path.proofs.Values.{pushed_after, pushed_as}
use Rattle.tinyjson_path.proofs.path.push_index.Goals as goal

pub returns : goal.returns
returns c =
    let r = c.push-2.result in
    let i = c.args.index in
    let shown = chars c.as_str.result.now in
    let digits : shown ≡ decimal i = ap chars (c.as_str.ensures.value ∙ c.in_ok-digits.ensures.ok)
    ∙ chars-IsAscii (decimal i) (IsAscii-decimal i (omega (arith, c.ranges.index.fits))) in
    let one = c.in_ok-push_words.ensures ∙ (ap (λ z. z ++ shown) c.in_ok-push.ensures
    ∙ append_assoc (text c.args.path.now) (91 ∷ []) shown) in
    pushed_as r _ _ _ _ (ap (λ cs. codes "[" ++ (cs ++ codes "]")) digits) (pushed_after r _ _ _ (91 ∷ shown) _ one c.push-2.ensures)
