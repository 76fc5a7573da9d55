use Rattle.std.proofs.Common.{◌∙◌, ◌++◌, Err, ap, refl, subst}
use Rattle.tinyjson.specs.Number.{Reads}
use Rattle.tinyjson_path_query.specs.Grammar.{number_chars}
use Rattle.tinyjson_path_query.specs.Values as value
use Rattle.tinyjson_path_query.proofs.Literals.{number_at, number_none, number_far}
use Rattle.tinyjson_path_query.proofs.comparable.number.Goals as goal

pub returns-in-Ok : goal.returns-in-Ok
returns-in-Ok c =
    let run = c.in_ok-rest.ensures in (
      value.number c.in-Ok.number.decimal,
      number_at c.args.text.now c.as_str.result.now _ c.in-Ok.number.decimal
          (c.as_str.ensures.value ∙ (run.number ∙ ap (λ s. s ++ (number_chars c.args.text.now).0) c.new-digits.ensures.bytes)) run.rest
          c.in-Ok.ensures.reads,
      (c.in-Ok.number, refl, refl),
    )

pub returns-in-Err-NotANumber : goal.returns-in-Err-NotANumber
returns-in-Err-NotANumber c = λ _.
    number_none c.args.text.now c.as_str.result.now
    (c.as_str.ensures.value
    ∙ (c.in_ok-rest.ensures.number ∙ ap (λ s. s ++ (number_chars c.args.text.now).0) c.new-digits.ensures.bytes))
    (subst (λ e. Reads c.as_str.result.now (Err e)) c.in-Err-NotANumber.field-0-is c.in-Err-NotANumber.ensures.reads)

pub returns-in-Err-OutOfRange : goal.returns-in-Err-OutOfRange
returns-in-Err-OutOfRange c = λ _.
    let far = subst (λ e. Reads c.as_str.result.now (Err e)) c.in-Err-OutOfRange.field-0-is c.in-Err-OutOfRange.ensures.reads in
    number_far c.args.text.now c.as_str.result.now far.0
    (c.as_str.ensures.value
    ∙ (c.in_ok-rest.ensures.number ∙ ap (λ s. s ++ (number_chars c.args.text.now).0) c.new-digits.ensures.bytes))
    far.1 far.2
