use Rattle.std.proofs.Common.{◌≡◌, true, refl, arith}
use Rattle.std.proofs.lemmas.Bool.Decides.{nat_tests}
use Rattle.tinyjson_path_query.specs.Forms as form
use Rattle.tinyjson_path_query.specs.Forms.{IsPlain}
use Rattle.tinyjson_path_query.specs.Fronts.{is_quote, plain_front, quoted_front}
use Rattle.tinyjson_path_query.proofs.Refusals.{fronts_from, refused_as}
use Rattle.tinyjson_path_query.proofs.Steps.{colon_at, quoted_at, quoted_none, wildcard_at}
use Rattle.tinyjson_path_query.proofs.parse.plain_selector.Goals as goal

pub returns-in_ok-name-in-34 : goal.returns-in_ok-name-in-34
returns-in_ok-name-in-34 c =
    let quote : is_quote c.in-Some.first.now ≡ true = grind (arith, nat_tests) in
    let read = c.in_ok-name-in-34.ensures in (
      form.name read.0,
      quoted_at c.args.text.now _ c.in-Some.first.now read.0 _ _ c.in-Some.ensures.cases.0 quote read.1 c.after_blanks.ensures,
      (c.in_ok-name-in-34.name, refl, read.2),
    )

pub returns-in_err-name-in-34 : goal.returns-in_err-name-in-34
returns-in_err-name-in-34 c =
    let quote : is_quote c.in-Some.first.now ≡ true = grind (arith, nat_tests) in
    refused_as IsPlain (plain_front c.args.text.now) (quoted_front c.in-Some.first.now c.in-Some.rest.now) c.in_err-name-in-34.field-0.0 _
    c.from_residual.ensures.1 c.in_err-name-in-34.ensures (quoted_none c.args.text.now _ _ c.in-Some.ensures.cases.0 quote)

pub returns-in-42 : goal.returns-in-42
returns-in-42 c = (
  form.wildcard,
  wildcard_at c.args.text.now _ _ _ c.in-Some.ensures.cases.0 c.in-42.is c.after_blanks-in-42.ensures,
  refl,
)

pub returns-in-58 : goal.returns-in-58
returns-in-58 c =
    fronts_from IsPlain _ _ c.slice.result (colon_at c.args.text.now _ _ c.in-Some.ensures.cases.0 c.in-58.is) c.slice.ensures
