use Rattle.std.proofs.Common.{◌∙◌, ◌∷◌, sym, ap}
use Rattle.std.specs.Str.{chars}
use Rattle.tinyjson_pointer.specs.Tokens.{tokens_of}
use Rattle.tinyjson_schema.proofs.Places.{by_part_place, whole_place}
use Rattle.tinyjson_schema.proofs.violation.Violation.enter_member.Goals as goal

pub returns-then-is_by_part : goal.returns-then-is_by_part
returns-then-is_by_part c =
    let a = c.args.applicator in
    let k = chars c.args.key.now in
    let was = c.args.self.now in (
      by_part_place a k c.name.result.now (tokens_of was.keyword_location) _ _ (sym c.is_by_part.ensures ∙ c.if-is_by_part.true)
          c.in_ok-put_under.ensures.0 c.in_ok-put_under-2.ensures.0 c.name.ensures,
      c.in_ok-put_under-2.ensures.1 ∙ (c.in_ok-put_under.ensures.1 ∙ (c.in_ok-prepend.ensures.ok
          ∙ ap (λ bs. chars bs ∷ tokens_of was.instance_location) c.in_ok-token.ensures.ok)),
    )

pub returns : goal.returns
returns c =
    let a = c.args.applicator in
    let k = chars c.args.key.now in
    let was = c.args.self.now in (
      whole_place a k c.name-2.result.now (tokens_of was.keyword_location) _ (sym c.is_by_part.ensures ∙ c.if-is_by_part.false)
          c.in_ok-put_under-3.ensures.0 c.name-2.ensures,
      c.in_ok-put_under-3.ensures.1 ∙ (c.in_ok-prepend.ensures.ok
          ∙ ap (λ bs. chars bs ∷ tokens_of was.instance_location) c.in_ok-token.ensures.ok),
    )
