use Rattle.std.proofs.Common.{◌∙◌, sym, ap, subst}
use Rattle.tinyjson.specs.View.{view}
use Rattle.tinyjson_schema_keywords.specs.declared.keyword.Form.TheVariants as form
use Rattle.tinyjson_schema_keywords.specs.Forms.{is_some_item}
use Rattle.tinyjson_schema.specs.Refused.{Refuses, has_shape, whole_of}
use Rattle.tinyjson_schema.proofs.Refusals.{own_misfit}
use Rattle.tinyjson_schema.proofs.refused.misfit.Goals as goal

pub returns-in-Text-clause-place : goal.returns-in-Text-clause-place
returns-in-Text-clause-place c =
    own_misfit (whole_of c.args.document) c.args.is_whole c.args.form form.Text (view c.args.value.now) _ _ c.in-Text.is
    (sym c.is_string.ensures) (sym c.is_string.ensures) c.unless.ensures

pub returns-in-Truth-clause-place : goal.returns-in-Truth-clause-place
returns-in-Truth-clause-place c =
    own_misfit (whole_of c.args.document) c.args.is_whole c.args.form form.Truth (view c.args.value.now) _ _ c.in-Truth.is
    (sym c.is_boolean.ensures) (sym c.is_boolean.ensures) c.unless-in-Truth.ensures

pub returns-in-List-clause-place : goal.returns-in-List-clause-place
returns-in-List-clause-place c =
    own_misfit (whole_of c.args.document) c.args.is_whole c.args.form form.List (view c.args.value.now) _ _ c.in-List.is
    (sym c.is_array.ensures) (sym c.is_array.ensures) c.unless-in-List.ensures

pub returns-in-Types-clause-place : goal.returns-in-Types-clause-place
returns-in-Types-clause-place c =
    own_misfit (whole_of c.args.document) c.args.is_whole c.args.form form.Types (view c.args.value.now) _ _ c.in-Types.is
    (sym c.are_types.ensures) (sym c.are_types.ensures) c.unless-in-Types.ensures

pub returns-in-Number-clause-place : goal.returns-in-Number-clause-place
returns-in-Number-clause-place c =
    own_misfit (whole_of c.args.document) c.args.is_whole c.args.form form.Number (view c.args.value.now) _ _ c.in-Number.is
    (sym c.is_number.ensures) (sym c.is_number.ensures) c.unless-in-Number.ensures

pub returns-in-Divisor-clause-place : goal.returns-in-Divisor-clause-place
returns-in-Divisor-clause-place c =
    own_misfit (whole_of c.args.document) c.args.is_whole c.args.form form.Divisor (view c.args.value.now) _ _ c.in-Divisor.is
    (sym c.is_divisor_number.ensures) (sym c.is_divisor_number.ensures) c.unless-in-Divisor.ensures

pub returns-in-Count-clause-place : goal.returns-in-Count-clause-place
returns-in-Count-clause-place c =
    own_misfit (whole_of c.args.document) c.args.is_whole c.args.form form.Count (view c.args.value.now) _ _ c.in-Count.is
    (sym c.is_count.ensures) (sym c.is_count.ensures) c.unless-in-Count.ensures

pub returns-in-Dialect-clause-place : goal.returns-in-Dialect-clause-place
returns-in-Dialect-clause-place c =
    own_misfit (whole_of c.args.document) c.args.is_whole c.args.form form.Dialect (view c.args.value.now) _ _ c.in-Dialect.is
    (sym c.is_dialect.ensures) (sym c.is_dialect.ensures) c.unless-in-Dialect.ensures

pub returns-in-Base-clause-place : goal.returns-in-Base-clause-place
returns-in-Base-clause-place c =
    own_misfit (whole_of c.args.document) c.args.is_whole c.args.form form.Base (view c.args.value.now) _ _ c.in-Base.is
    (sym c.is_base.ensures) (sym c.is_base.ensures) c.unless-in-Base.ensures

pub returns-in-Anchor-clause-place : goal.returns-in-Anchor-clause-place
returns-in-Anchor-clause-place c =
    own_misfit (whole_of c.args.document) c.args.is_whole c.args.form form.Anchor (view c.args.value.now) _ _ c.in-Anchor.is
    (sym c.is_own_name.ensures) (sym c.is_own_name.ensures) c.unless-in-Anchor.ensures

pub returns-in_ok-is_key_list-in-Keys-clause-place : goal.returns-in_ok-is_key_list-in-Keys-clause-place
returns-in_ok-is_key_list-in-Keys-clause-place c =
    own_misfit (whole_of c.args.document) c.args.is_whole c.args.form form.Keys (view c.args.value.now) _ _ c.in-Keys.is
    (sym c.in_ok-is_key_list-in-Keys.ensures) (sym c.in_ok-is_key_list-in-Keys.ensures) c.unless-in-Keys.ensures

pub returns-in_ok-is_key_map-in-KeyLists-clause-place : goal.returns-in_ok-is_key_map-in-KeyLists-clause-place
returns-in_ok-is_key_map-in-KeyLists-clause-place c =
    own_misfit (whole_of c.args.document) c.args.is_whole c.args.form form.KeyLists (view c.args.value.now) _ _ c.in-KeyLists.is
    (sym c.in_ok-is_key_map-in-KeyLists.ensures) (sym c.in_ok-is_key_map-in-KeyLists.ensures) c.unless-in-KeyLists.ensures

pub returns-in_ok-leads-in-Reference-clause-place : goal.returns-in_ok-leads-in-Reference-clause-place
returns-in_ok-leads-in-Reference-clause-place c =
    own_misfit (whole_of c.args.document) c.args.is_whole c.args.form form.Reference (view c.args.value.now) _ _ c.in-Reference.is
    (sym c.in_ok-leads-in-Reference.ensures.is) (sym c.in_ok-leads-in-Reference.ensures.is) c.unless-in-Reference.ensures

pub returns-in-Pattern-clause-place : goal.returns-in-Pattern-clause-place
returns-in-Pattern-clause-place c =
    let root = whole_of c.args.document in
    subst (λ f. Refuses (has_shape root c.args.is_whole f (view c.args.value.now)) root c.args.is_whole f (view c.args.value.now)
    c.refused_text.result) (sym c.in-Pattern.is) (c.refused_text.ensures root c.args.is_whole)

pub returns-in-PatternMap-clause-place : goal.returns-in-PatternMap-clause-place
returns-in-PatternMap-clause-place c =
    let root = whole_of c.args.document in
    subst (λ f. Refuses (has_shape root c.args.is_whole f (view c.args.value.now)) root c.args.is_whole f (view c.args.value.now)
    c.refused_pattern.result) (sym c.in-PatternMap.is) (c.refused_pattern.ensures root c.args.is_whole)

pub returns-in-Schema-clause-place : goal.returns-in-Schema-clause-place
returns-in-Schema-clause-place c =
    own_misfit (whole_of c.args.document) c.args.is_whole c.args.form form.Schema (view c.args.value.now) _ _ c.in-Schema.is
    (sym c.is_boolean_or_object.ensures) (sym c.is_boolean_or_object.ensures) c.unless-in-Schema.ensures

pub returns-in-SchemaMap-clause-place : goal.returns-in-SchemaMap-clause-place
returns-in-SchemaMap-clause-place c =
    own_misfit (whole_of c.args.document) c.args.is_whole c.args.form form.SchemaMap (view c.args.value.now) _ _ c.in-SchemaMap.is
    (sym c.is_object.ensures) (sym c.is_object.ensures) c.unless-in-SchemaMap.ensures

pub returns-in-Schemas-clause-place : goal.returns-in-Schemas-clause-place
returns-in-Schemas-clause-place c =
    let some = sym (c.is_some_item.ensures ∙ ap is_some_item c.items_in.ensures) in
    own_misfit (whole_of c.args.document) c.args.is_whole c.args.form form.Schemas (view c.args.value.now) _ _ c.in-Schemas.is
    some some c.unless-in-Schemas.ensures
