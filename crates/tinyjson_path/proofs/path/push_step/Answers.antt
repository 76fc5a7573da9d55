use Rattle.std.proofs.Common.{◌∙◌, ◌++◌, ap, append_assoc, refl, sym, chars}
use Rattle.std.specs.Prelude.{codes}
use Rattle.tinyjson.specs.View.{text}
use Rattle.tinyjson_path.specs.Paths.{escape, step_text}
use Rattle.tinyjson_path.specs.Seen.{step_view}
use Rattle.tinyjson_path.proofs.Values.{ascii_chars, pushed_after, pushed_as}
use Rattle.tinyjson_path.proofs.path.push_step.Goals as goal

pub returns-in_ok-push_escaped-in-Name : goal.returns-in_ok-push_escaped-in-Name
returns-in_ok-push_escaped-in-Name c =
    let r = c.push_words-in-Name.result in
    let begun = c.in_ok-push_words-in-Name.ensures ∙ ap (λ z. text c.args.path.now ++ z) (ascii_chars (codes "['") refl) in
    let one = c.in_ok-push_escaped-in-Name.ensures ∙ (ap (λ z. z ++ escape (chars c.in-Name.name.now)) begun
    ∙ append_assoc (text c.args.path.now) (codes "['") (escape (chars c.in-Name.name.now))) in
    pushed_as r _ _ _ _ (sym (ap (λ s. step_text (step_view s)) c.in-Name.is))
    (pushed_after r _ _ _ (codes "['" ++ escape (chars c.in-Name.name.now)) (codes "']") one
    (pushed_as r _ _ _ _ (ascii_chars (codes "']") refl) c.push_words-in-Name.ensures))

pub returns-in-Index : goal.returns-in-Index
returns-in-Index c =
    pushed_as c.push_index.result _ _ _ _ (sym (ap (λ s. step_text (step_view s)) c.in-Index.is)) c.push_index.ensures
