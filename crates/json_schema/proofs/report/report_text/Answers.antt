use Rattle.std.proofs.Common.{◌≡◌, ◌∷◌, [], ◌++◌, ◌∙◌, IfOk, string_bytes, option_map, ap, ap₂, subst}
use Rattle.std.specs.Str.{chars}
use Rattle.tinyjson.specs.Characters.{line_feed}
use Rattle.tinyjson_cli.specs.Shown.{shown}
use Rattle.json_schema.specs.Report.{headed, text_at}
use Rattle.tinyjson_pointer.proofs.Callers.{place_text}
use Rattle.json_schema.proofs.report.report_text.Goals as goal

pub returns : goal.returns
returns c =
    let l = c.args.located.now in
    let p = l.finding.violation.instance_location in
    let pointer = ap chars c.as_str.ensures.value ∙ place_text p c.in_ok-pointer.pointer c.in_ok-pointer.ensures.ok in
    let head = c.as_str-2.ensures.value ∙ (c.in_ok-head.ensures.ok ∙ ap shown pointer) in
    let words = ap (λ bs. shown (chars bs) ++ line_feed ∷ []) c.as_str-3.ensures.value in
    let behind = c.as_str-4.ensures.value ∙ (c.in_ok-text.ensures ∙ ap₂ headed head words) in
    let file = option_map (λ f. f.now) c.args.file in
    subst (λ x. IfOk c.text_at.result (λ s. string_bytes s ≡ x)) (ap (text_at file c.args.line l.place.column) behind) c.text_at.ensures
