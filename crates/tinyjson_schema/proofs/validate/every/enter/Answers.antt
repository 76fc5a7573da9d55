use Rattle.std.proofs.Common.{◌∷◌, ◌++◌, List, map, sym, ap, ◌∙◌}
use Rattle.std.specs.Str.{chars}
use Rattle.tinyjson_pointer.specs.Tokens.{tokens_of}
use Rattle.tinyjson_schema.specs.Every.{Token, token, word, spot_of}
use Rattle.tinyjson_schema.specs.Steps.{place_of, stepped}
use Rattle.tinyjson_schema.proofs.Adding.{spot_at_tokens, index_token, place_tokens}
use Rattle.tinyjson_schema.proofs.validate.every.enter.Goals as goal

pub returns-in_ok-enter_keyword-in-Schema : goal.returns-in_ok-enter_keyword-in-Schema
returns-in_ok-enter_keyword-in-Schema c = spot_at_tokens _ _ c.enter_keyword.new.self c.in_ok-enter_keyword-in-Schema.ensures
    ∙ ap (λ p. stepped p (spot_of c.args.violation.now)) (sym c.in-Schema.is)

pub returns-in_ok-enter_listed-in-Listed : goal.returns-in_ok-enter_listed-in-Listed
returns-in_ok-enter_listed-in-Listed c =
    let v = c.args.violation.now in
    let e = c.in_ok-enter_listed-in-Listed.ensures in
    spot_at_tokens _ _ c.enter_listed.new.self e.entered
    ∙ ap (λ (k : Token). record {
      in_schema = word c.in-Listed.keyword ∷ k ∷ map token (tokens_of v.keyword_location);
      in_value = map token (tokens_of v.instance_location);
    }) (index_token e.token c.in-Listed.index e.named)
    ∙ ap (λ p. stepped p (spot_of c.args.violation.now)) (sym c.in-Listed.is)

pub returns-in_ok-enter_keyed-in-Keyed : goal.returns-in_ok-enter_keyed-in-Keyed
returns-in_ok-enter_keyed-in-Keyed c = spot_at_tokens _ _ c.enter_keyed.new.self c.in_ok-enter_keyed-in-Keyed.ensures
    ∙ ap (λ p. stepped p (spot_of c.args.violation.now)) (sym c.in-Keyed.is)

pub returns-in_ok-enter_member-in-Member : goal.returns-in_ok-enter_member-in-Member
returns-in_ok-enter_member-in-Member c =
    let v = c.args.violation.now in
    let k = chars c.in-Member.key.now in
    spot_at_tokens _ _ c.enter_member.new.self c.in_ok-enter_member-in-Member.ensures
    ∙ ap (λ (ks : List Token). record { in_schema = ks; in_value = token k ∷ map token (tokens_of v.instance_location) })
    (place_tokens c.in-Member.applicator k (tokens_of v.keyword_location))
    ∙ ap (λ p. stepped p (spot_of c.args.violation.now)) (sym c.in-Member.is)

pub returns-in_ok-enter_value-in-Patterned : goal.returns-in_ok-enter_value-in-Patterned
returns-in_ok-enter_value-in-Patterned c =
    let one = c.in_ok-enter_keyed-in-Patterned.ensures in
    let two = c.in_ok-enter_value-in-Patterned.ensures in
    spot_at_tokens _ _ c.enter_value.new.self
    (two.0 ∙ one.0, two.1 ∙ ap (λ js. chars c.in-Patterned.key.now ∷ js) one.1)
    ∙ ap (λ p. stepped p (spot_of c.args.violation.now)) (sym c.in-Patterned.is)

pub returns-in_ok-enter_item-in-Item : goal.returns-in_ok-enter_item-in-Item
returns-in_ok-enter_item-in-Item c =
    let v = c.args.violation.now in
    let a = c.in-Item.applicator in
    let e = c.in_ok-enter_item-in-Item.ensures in
    spot_at_tokens _ _ c.enter_item.new.self e.entered
    ∙ (ap (λ (ks : List Token). record { in_schema = ks; in_value = token e.token ∷ map token (tokens_of v.instance_location) })
    (place_tokens a e.schema_token (tokens_of v.keyword_location))
    ∙ (λ j. record {
      in_schema = place_of a (index_token e.schema_token c.in-Item.index e.schema_named j) ++ map token (tokens_of v.keyword_location);
      in_value = index_token e.token c.in-Item.index e.named j ∷ map token (tokens_of v.instance_location);
    }))
    ∙ ap (λ p. stepped p (spot_of c.args.violation.now)) (sym c.in-Item.is)
