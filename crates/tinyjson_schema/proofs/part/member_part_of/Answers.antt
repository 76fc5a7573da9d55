use Rattle.std.proofs.Common.{◌≡◌, Some, option_map, sym, ap, subst, ◌∙◌}
use Rattle.std.specs.Prelude.{option_and_then}
use Rattle.std.specs.Str.{chars}
use Rattle.tinyjson.specs.Index.{tree_at_key}
use Rattle.tinyjson.specs.View.{view}
use Rattle.tinyjson_pointer.specs.Walk.{part_at}
use Rattle.tinyjson_schema_keywords.specs.declared.keyword.Keyword.TheVariants as kw
use Rattle.tinyjson_schema.specs.Parts.{property, member_schema}
use Rattle.tinyjson_schema.specs.Places.{place}
use Rattle.tinyjson_schema.proofs.Alternatives.{additional_known}
use Rattle.tinyjson_schema.proofs.Parts.{by_property, by_additional, no_member}
use Rattle.tinyjson_schema.proofs.Deep.{shallow}
use Rattle.tinyjson_schema.proofs.part.member_part_of.Goals as goal

pub returns-in-Some : goal.returns-in-Some
returns-in-Some c listed =
    let here = c.args.here.now in
    let s = view here.schema.now in
    let k = chars c.args.key.now in
    let n = c.in-Some.known in
    let leads : property s k ≡ Some (view n.shape.now.schema.now) = c.in-Some.ensures s here.same in
    subst (λ x. (member_schema s k ≡ Some (view x.now)) × (part_at s (place kw.Properties k) ≡ Some (view x.now)))
    (sym c.known.ensures) (by_property s k (view n.shape.now.schema.now) leads)

pub returns-in-Some-property_of : goal.returns-in-Some-property_of
returns-in-Some-property_of c listed =
    let s = view c.args.here.now.schema.now in
    let k = chars c.args.key.now in
    subst (λ x. (member_schema s k ≡ Some (view x.now)) × (part_at s (place kw.Properties k) ≡ Some (view x.now)))
    (sym c.of.ensures) (by_property s k (view c.in-Some-property_of.part.now)
    (ap (option_and_then (λ p. tree_at_key p k)) (sym listed) ∙ sym c.in-Some-property_of.ensures))

pub by-requires : goal.by-requires
by-requires c =
    let here = c.args.here.now in
    let s = view here.schema.now in
    additional_known s (chars c.args.key.now) (view c.in-Some-2.part.now) c.known_part-known.result
    (sym c.in_ok-part.ensures ∙ ap (option_map (λ x. view x.now)) c.in-Some-2.is) (c.known_part-known.ensures s here.same)

pub returns-in-Some-2 : goal.returns-in-Some-2
returns-in-Some-2 c listed =
    let s = view c.args.here.now.schema.now in
    let k = chars c.args.key.now in
    subst (λ r. (member_schema s k ≡ Some r) × (part_at s (place kw.AdditionalProperties k) ≡ Some r))
    (sym c.by.ensures) (by_additional s k (view c.in-Some-2.part.now)
    (ap (option_and_then (λ p. tree_at_key p k)) (sym listed) ∙ sym c.in_default-property_of.ensures)
    (sym c.in_ok-part.ensures ∙ ap (option_map (λ x. view x.now)) c.in-Some-2.is))

pub returns-in-None : goal.returns-in-None
returns-in-None c listed =
    let k = chars c.args.key.now in
    no_member (view c.args.here.now.schema.now) k
    (ap (option_and_then (λ p. tree_at_key p k)) (sym listed) ∙ sym c.in_default-property_of.ensures)
    (sym c.in_ok-part.ensures ∙ ap (option_map (λ x. view x.now)) c.in-None.is)

pub returns-in_err-part : goal.returns-in_err-part
returns-in_err-part c = shallow _ c.in_err-part.field-0.0 c.from_residual.result c.from_residual.ensures.1 c.in_err-part.ensures
