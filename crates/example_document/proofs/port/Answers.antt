use Rattle.std.proofs.Common.{◌≡◌, codes, Some, None, option_map, refl, sym, ap, ◌∙◌}
use Rattle.std.specs.Prelude.{option_and_then}
use Rattle.tinyjson.proofs.Callers.{chars_literal}
use Rattle.tinyjson.specs.Words.{compact, tree_at_key}
use Rattle.tinyjson_document.specs.Document.{tree}
use Rattle.example_document.proofs.port.Goals as goal

pub returns-in_default-clause-ok : goal.returns-in_default-clause-ok
returns-in_default-clause-ok c =
    let h = c.in_ok-document.ensures.answer in
    let none = c.in_default.ensures ∙ (λ i. tree_at_key ((c.root.ensures ∙ h.3) i) (chars_literal (codes "server") refl i)) in
    (h.1, h.2, ap (λ o. option_map compact (option_and_then (λ server. tree_at_key server (codes "port")) o)) none)

pub returns-in-Some-member-clause-ok : goal.returns-in-Some-member-clause-ok
returns-in-Some-member-clause-ok c =
    let h = c.in_ok-document.ensures.answer in
    let server = c.in-Some.ensures ∙ (λ i. tree_at_key ((c.root.ensures ∙ h.3) i) (chars_literal (codes "server") refl i)) in
    let port = c.in-Some-member.ensures ∙ ap (tree_at_key (tree c.in-Some.server)) (chars_literal (codes "port") refl) in (
      h.1,
      h.2,
      ap Some c.in_ok-to_string-in-Some-member.ensures ∙ ap (option_map compact) port
          ∙ ap (λ o. option_map compact (option_and_then (λ s. tree_at_key s (codes "port")) o)) server,
    )

pub returns-clause-ok : goal.returns-clause-ok
returns-clause-ok c =
    let h = c.in_ok-document.ensures.answer in
    let server = c.in-Some.ensures ∙ (λ i. tree_at_key ((c.root.ensures ∙ h.3) i) (chars_literal (codes "server") refl i)) in
    let port = c.in-None.ensures ∙ ap (tree_at_key (tree c.in-Some.server)) (chars_literal (codes "port") refl) in (
      h.1,
      h.2,
      ap (option_map compact) port
          ∙ ap (λ o. option_map compact (option_and_then (λ s. tree_at_key s (codes "port")) o)) server,
    )
