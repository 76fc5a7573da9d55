use Rattle.std.proofs.Common.{◌∷◌, sym, ap, ◌∙◌, subst}
use Rattle.std.proofs.lemmas.Str.{chars_past_char}
use Rattle.std.proofs.StrCases.{chars_of_empty}
use Rattle.std.specs.Str.{chars, IsUtf8}
use Rattle.std.specs.Str.Iter.{chars_rest}
use Rattle.tinyjson_pointer.proofs.Tokens.{exactly, no_slash, after_slash, error_back}
use Rattle.tinyjson_pointer.specs.Text.{pointer_text}
use Rattle.tinyjson_pointer.specs.Tokens.{tokens_of}
use Rattle.tinyjson_pointer.specs.Reading.{Reads}
use Rattle.tinyjson_pointer.proofs.pointer.Pointer.parse.Goals as goal

pub returns-in-None : goal.returns-in-None
returns-in-None c =
    exactly (chars c.args.text.now) (tokens_of c.root.result)
    (ap chars (sym c.chars-rest.ensures.rest) ∙ (chars_of_empty (chars_rest c.chars-rest.result) c.in-None.ensures.steps.0.0
    ∙ ap pointer_text (sym c.root.ensures)))

pub returns-in-Some : goal.returns-in-Some
returns-in-Some c =
    let rest = c.chars-rest.ensures.rest in
    let step = chars_past_char _ _ c.in-Some.field-0 (subst IsUtf8 (sym rest) c.utf8.text) c.in-Some.ensures.steps.0 in
    no_slash (chars c.args.text.now) _ c.in-Some.field-0 c.in-Some.field-0-test.1 (ap chars (sym rest) ∙ step)

pub returns-in_ok-read_tokens-in-Some-eq47 : goal.returns-in_ok-read_tokens-in-Some-eq47
returns-in_ok-read_tokens-in-Some-eq47 c =
    let rest = c.chars-rest.ensures.rest in
    let first = c.in-Some-eq47 in
    let step = chars_past_char _ _ first.field-0 (subst IsUtf8 (sym rest) c.utf8.text) first.ensures.steps.0 in
    let all = ap chars (sym rest) ∙ (step ∙ (ap (λ x. x ∷ chars (chars_rest c.next.new.self)) first.field-0-test
    ∙ ap (λ bs. 47 ∷ chars bs) (sym c.as_str.ensures))) in
    exactly (chars c.args.text.now) _ (all ∙ c.in_ok-read_tokens-in-Some-eq47.ensures)

pub returns-in_err-read_tokens-in-Some-eq47 : goal.returns-in_err-read_tokens-in-Some-eq47
returns-in_err-read_tokens-in-Some-eq47 c =
    let rest = c.chars-rest.ensures.rest in
    let first = c.in-Some-eq47 in
    let step = chars_past_char _ _ first.field-0 (subst IsUtf8 (sym rest) c.utf8.text) first.ensures.steps.0 in
    let all = ap chars (sym rest) ∙ (step ∙ (ap (λ x. x ∷ chars (chars_rest c.next.new.self)) first.field-0-test
    ∙ ap (λ bs. 47 ∷ chars bs) (sym c.as_str.ensures))) in
    let said = after_slash (chars c.args.text.now) (chars c.as_str.result.now) c.in_err-read_tokens-in-Some-eq47.field-0.0 all
    c.in_err-read_tokens-in-Some-eq47.ensures in
    error_back (Reads (chars c.args.text.now)) c.from_residual.result c.in_err-read_tokens-in-Some-eq47.field-0.0 c.from_residual.ensures.1
    said
