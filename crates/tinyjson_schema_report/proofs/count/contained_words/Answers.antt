use Rattle.std.proofs.Common.{◌≡◌, ◌∙◌, ◌++◌, codes, string_bytes, ap, ap₂, subst}
use Rattle.std.specs.Prelude.{IfOk}
use Rattle.tinyjson_schema_report.specs.Counts.{plural}
use Rattle.tinyjson_schema_report.proofs.count.contained_words.Goals as goal

pub returns : goal.returns
returns c =
    let limit = c.in_ok-limit.ensures in
    subst (λ x. IfOk c.format.result (λ s. string_bytes s ≡ x))
    (ap₂ (λ l e. c.args.wanted.now ++ (l ++ (codes " item" ++ (e ++ codes " that the schema accepts"))))
    (c.as_str-2.ensures.value ∙ limit) (c.plural-end.ensures ∙ ap plural (c.as_str.ensures.value ∙ limit)))
    c.format.ensures.ok
