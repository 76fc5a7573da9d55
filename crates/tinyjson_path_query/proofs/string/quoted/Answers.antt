use Rattle.std.proofs.Common.{◌∙◌, ◌∷◌, [], ◌++◌, ap, refl}
use Rattle.std.proofs.lemmas.Str.{chars-nil}
use Rattle.std.specs.Str.{chars}
use Rattle.tinyjson.specs.Characters.{text}
use Rattle.tinyjson_path_query.specs.Fronts.{character_front, quoted_front, string_turn}
use Rattle.tinyjson_path_query.specs.Reading.{IsText}
use Rattle.tinyjson_path_query.proofs.Refusals.{refused_as}
use Rattle.tinyjson_path_query.proofs.Turns.{goes_end, goes_more, goes_none}
use Rattle.tinyjson_path_query.proofs.Shorter.{string_falls, character_falls}
use Rattle.tinyjson_path_query.proofs.Steps.{goes_from, goes_at, string_closes, string_more, string_none}
use Rattle.tinyjson_path_query.proofs.string.quoted.Goals as goal

pub loop-first-init : goal.loop-first-init
loop-first-init c =
    goes_from (string_turn c.args.quote) c.args.text.now (text c.new-string.result)
    (ap chars c.new-string.ensures.bytes ∙ chars-nil)

pub loop-first-smaller : goal.loop-first-smaller
loop-first-smaller c =
    (character_falls c.args.quote c.loop-first.rest.now).at (c.in_ok-c.c, c.in_ok-c.after.now) c.in_ok-c.ensures

pub loop-first-preserved : goal.loop-first-preserved
loop-first-preserved c =
    goes_at (string_turn c.args.quote) c.args.text.now c.in_ok-c.after.now (text c.loop-first.string ++ c.in_ok-c.c ∷ [])
    (text c.push.new.string) c.in_ok-push.ensures
    (goes_more (string_turn c.args.quote) (string_falls c.args.quote) c.args.text.now (text c.loop-first.string) c.loop-first.rest.now
    c.in_ok-c.c c.in_ok-c.after.now c.loop-first.invariant
    (string_more c.args.quote c.loop-first.rest.now c.in-Some.after.now c.in-Some.first.now c.in_ok-c.c c.in_ok-c.after.now
    c.in-Some.ensures.cases.0 c.if-first-quote.false c.in_ok-c.ensures))

pub returns-then-first-quote : goal.returns-then-first-quote
returns-then-first-quote c = (
  text c.loop-first.string,
  goes_end (string_turn c.args.quote) (string_falls c.args.quote) c.args.text.now (text c.loop-first.string) c.loop-first.rest.now
      c.in-Some.after.now c.loop-first.invariant
      (string_closes c.args.quote c.loop-first.rest.now c.in-Some.after.now c.in-Some.first.now c.in-Some.ensures.cases.0
      c.if-first-quote.true),
  refl,
)

pub returns-in_err-c : goal.returns-in_err-c
returns-in_err-c c =
    refused_as IsText (quoted_front c.args.quote c.args.text.now) (character_front c.args.quote c.loop-first.rest.now)
    c.in_err-c.field-0.0 _ c.from_residual.ensures.1 c.in_err-c.ensures
    (λ none. goes_none (string_turn c.args.quote) (string_falls c.args.quote) c.args.text.now (text c.loop-first.string)
    c.loop-first.rest.now c.loop-first.invariant
    (string_none c.args.quote c.loop-first.rest.now c.in-Some.after.now c.in-Some.first.now c.in-Some.ensures.cases.0
    c.if-first-quote.false none))
