use Rattle.std.proofs.Common.{◌≡◌, ◌∙◌, ◌++◌, codes, string_bytes, ap, ap₂, subst}
use Rattle.std.specs.Fmt.{decimal}
use Rattle.std.specs.Prelude.{IfOk}
use Rattle.std.specs.Str.{chars}
use Rattle.tinyjson.proofs.Callers.{view_String}
use Rattle.tinyjson.specs.Tree.{string}
use Rattle.tinyjson_schema_report.specs.Brief.{brief}
use Rattle.tinyjson_schema_report.specs.Faults.{construct_of}
use Rattle.tinyjson_schema_report.proofs.fault.pattern_words.Goals as goal

pub returns : goal.returns
returns c =
    let s = c.in_ok-from_str.field-0 in
    let value = view_String s ∙ ap (λ bs. string (chars bs)) c.in_ok-from_str.ensures.ok in
    let text = c.as_str-2.ensures.value ∙ (c.in_ok-text.ensures ∙ ap brief value) in
    let found = c.construct_of-found.ensures ∙ ap (construct_of c.args.error.kind) (c.as_str.ensures.value ∙ c.in_ok-rest.ensures) in
    subst (λ x. IfOk c.format.result (λ s. string_bytes s ≡ x))
    (ap₂ (λ t f. codes "must be a pattern, is " ++ (t ++ (codes ": " ++ (f ++ (codes " at character " ++ decimal c.args.error.place)))))
    text found)
    c.format.ensures.ok
