use Rattle.std.proofs.Common.{◌∙◌, ◌++◌, ◌∷◌, [], ap, ap₂, append_assoc, refl, sym}
use Rattle.std.specs.Prelude.{codes}
use Rattle.tinyjson.specs.View.{text}
use Rattle.tinyjson_path.specs.Paths.{escape_with}
use Rattle.tinyjson_path.proofs.Values.{ascii_chars, pushed_after, pushed_as}
use Rattle.tinyjson_path.proofs.path.push_control.Goals as goal

pub returns-in_ok-push-in-Some : goal.returns-in_ok-push-in-Some
returns-in_ok-push-in-Some c =
    pushed_as c.push-in-Some.result _ _ _ _ (sym (ap (escape_with c.args.c) (sym c.control_letter.ensures ∙ c.in-Some.is)))
    (pushed_after c.push-in-Some.result _ _ _ (92 ∷ []) _ c.in_ok-push-in-Some.ensures c.push-in-Some.ensures)

pub returns-in_ok-push-in-None : goal.returns-in_ok-push-in-None
returns-in_ok-push-in-None c =
    let begun = c.in_ok-push_words-in-None.ensures ∙ ap (λ z. text c.args.path.now ++ z) (ascii_chars (codes "\\u00") refl) in
    let one = c.in_ok-push-in-None.ensures ∙ (ap (λ z. z ++ c.hex_digit.result ∷ []) begun
    ∙ append_assoc (text c.args.path.now) (codes "\\u00") (c.hex_digit.result ∷ [])) in
    pushed_as c.push-in-None-2.result _ _ _ _
    (ap₂ (λ a b. codes "\\u00" ++ a ∷ b ∷ []) c.hex_digit.ensures c.hex_digit-in-None.ensures
    ∙ sym (ap (escape_with c.args.c) (sym c.control_letter.ensures ∙ c.in-None.is)))
    (pushed_after c.push-in-None-2.result _ _ _ (codes "\\u00" ++ c.hex_digit.result ∷ []) _ one c.push-in-None-2.ensures)
