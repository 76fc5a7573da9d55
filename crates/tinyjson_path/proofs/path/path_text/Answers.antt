use Rattle.std.proofs.Common.{◌∙◌, ◌++◌, ◌∷◌, [], ap, ap₂, chars, refl}
use Rattle.tinyjson_path.specs.Paths.{steps_text}
use Rattle.tinyjson_path.proofs.Values.{ascii_chars}
use Rattle.tinyjson_path.proofs.path.path_text.Goals as goal

pub loop-step-init : goal.loop-step-init
loop-step-init c = ap₂ (λ path steps. path ++ steps_text steps)
    (c.in_ok-push.ensures ∙ ap (λ z. z ++ 36 ∷ []) (ap chars c.new-path.ensures.bytes ∙ ascii_chars [] refl)) c.in_ok-steps.ensures
