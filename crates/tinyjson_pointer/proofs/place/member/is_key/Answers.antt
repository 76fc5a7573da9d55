use Rattle.std.proofs.Common.{◌≡◌, List, ℕ, None, bytes_eq, sym, ap, ◌∙◌}
use Rattle.std.specs.Str.{chars}
use Rattle.tinyjson.proofs.Callers.{accepted_text, only_tree, no_string, view_String}
use Rattle.tinyjson.specs.View.{view, text}
use Rattle.tinyjson_grammar.specs.Tree.{string}
use Rattle.tinyjson_pointer.proofs.Locating.Members.{same_chars}
use Rattle.tinyjson_pointer.proofs.place.member.is_key.Goals as goal

same_text : (xs ys : List ℕ) → string xs ≡ string ys → xs ≡ ys
same_text xs ys h = cc

pub returns-in-String : goal.returns-in-String
returns-in-String c = λ k h.
    let tree : view c.in_ok-name.name ≡ string k = only_tree None (chars c.args.text.now) (view c.in_ok-name.name) (string k)
    (accepted_text None (chars c.args.text.now) c.in_ok-name.name c.in_ok-name.ensures) h in
    let is : text c.in-String.name ≡ k = same_text _ _ (sym (ap view c.in-String.is ∙ view_String c.in-String.name) ∙ tree) in
    c.eq.ensures ∙ (same_chars c.args.key.now c.as_str.result.now c.utf8.key c.as_str.utf8
    ∙ ap (bytes_eq (chars c.args.key.now)) (ap chars c.as_str.ensures.value ∙ is))

pub returns : goal.returns
returns c = λ k h.
    absurd (no_string c.in_ok-name.name (λ s. c.in_default.not-String s) k (only_tree None (chars c.args.text.now) (view c.in_ok-name.name)
    (string k) (accepted_text None (chars c.args.text.now) c.in_ok-name.name c.in_ok-name.ensures) h))
