use Rattle.std.proofs.Common.{◌∷◌, [], ◌∙◌, ap}
use Rattle.tinyjson.specs.View.{view}
use Rattle.tinyjson_view.specs.Views.{tree_of}
use Rattle.tinyjson_schema_keywords.specs.declared.keyword.Keyword.TheVariants as kw
use Rattle.tinyjson_schema.specs.Applicators.{applies, counts, contains_some, contains_at_most, contains_at_least}
use Rattle.tinyjson_schema.specs.Valid.{says}
use Rattle.tinyjson_schema_keywords.specs.declared.keyword.Keyword.{Keyword}
use Rattle.tinyjson_schema.proofs.Adding.{failing_next, failing_end}
use Rattle.tinyjson_schema.specs.declared.walk.CheckError.TheVariants.{OutOfMemory}
use Rattle.std.proofs.Common.{refl}
use Rattle.tinyjson_schema_keywords.specs.Applied.{schemas_at}
use Rattle.tinyjson_schema.proofs.Deep.{if_deep, of_list, raised}
use Rattle.tinyjson_schema.proofs.validate.every.add_tests.Goals as goal

pub returns : goal.returns
returns c g =
    let f = says c.args.walk g in
    let counted = c.in_ok-count.ensures g in
    let s = view c.args.here.now.schema.now in
    let v = tree_of c.args.value.now in
    let q = λ (k : Keyword). applies f k s v in
    failing_next q kw.AnyOf (kw.OneOf ∷ kw.Not ∷ kw.PropertyNames ∷ counts) _ _ _ _
    (c.in_ok-any.ensures g) c.in_ok-add_unless.ensures
    (failing_next q kw.OneOf (kw.Not ∷ kw.PropertyNames ∷ counts) _ _ _ _
    (c.in_ok-one.ensures g) c.in_ok-add_unless-2.ensures
    (failing_next q kw.Not (kw.PropertyNames ∷ counts) _ _ _ _ (c.in_ok-other.ensures g) c.in_ok-add_unless-3.ensures
    (failing_next q kw.PropertyNames counts _ _ _ _ (c.in_ok-names.ensures g) c.in_ok-add_unless-4.ensures
    (failing_next q kw.Contains (kw.MaxContains ∷ kw.MinContains ∷ []) _ _ _ _
    (c.contains_some-some.ensures ∙ ap (λ n. contains_some n s) counted) c.in_ok-add_unless-5.ensures
    (failing_next q kw.MaxContains (kw.MinContains ∷ []) _ _ _ _
    (c.in_ok-most.ensures ∙ ap (λ n. contains_at_most n s) counted) c.in_ok-add_unless-6.ensures
    (failing_next q kw.MinContains [] _ _ _ _
    (c.in_ok-least.ensures ∙ ap (λ n. contains_at_least n s) counted) c.in_ok-add_unless-7.ensures (failing_end q _)))))))

pub returns-in_err-any : goal.returns-in_err-any
returns-in_err-any c =
    let w = c.args.walk in
    let s = view c.args.here.now.schema.now in
    let v = tree_of c.args.value.now in
    raised _ _ c.in_err-any.field-0.0 c.from_residual.result c.from_residual.ensures.1
    (if_deep c.in_err-any.field-0.0
    (of_list w s v kw.AnyOf (schemas_at s kw.AnyOf) refl refl)
    c.in_err-any.ensures)

pub returns-in_err-add_unless : goal.returns-in_err-add_unless
returns-in_err-add_unless c =
    raised _ _ OutOfMemory c.from_residual-in_err-add_unless.result c.from_residual-in_err-add_unless.ensures.1 tt

pub returns-in_err-one : goal.returns-in_err-one
returns-in_err-one c =
    let w = c.args.walk in
    let s = view c.args.here.now.schema.now in
    let v = tree_of c.args.value.now in
    raised _ _ c.in_err-one.field-0.0 c.from_residual-in_err-one.result c.from_residual-in_err-one.ensures.1
    (if_deep c.in_err-one.field-0.0
    (of_list w s v kw.OneOf (schemas_at s kw.OneOf) refl refl)
    c.in_err-one.ensures)

pub returns-in_err-add_unless-2 : goal.returns-in_err-add_unless-2
returns-in_err-add_unless-2 c =
    raised _ _ OutOfMemory c.from_residual-in_err-add_unless-2.result c.from_residual-in_err-add_unless-2.ensures.1 tt

pub returns-in_err-other : goal.returns-in_err-other
returns-in_err-other c =
    raised _ _ c.in_err-other.field-0.0 c.from_residual-in_err-other.result c.from_residual-in_err-other.ensures.1 c.in_err-other.ensures

pub returns-in_err-add_unless-3 : goal.returns-in_err-add_unless-3
returns-in_err-add_unless-3 c =
    raised _ _ OutOfMemory c.from_residual-in_err-add_unless-3.result c.from_residual-in_err-add_unless-3.ensures.1 tt

pub returns-in_err-names : goal.returns-in_err-names
returns-in_err-names c =
    raised _ _ c.in_err-names.field-0.0 c.from_residual-in_err-names.result c.from_residual-in_err-names.ensures.1 c.in_err-names.ensures

pub returns-in_err-add_unless-4 : goal.returns-in_err-add_unless-4
returns-in_err-add_unless-4 c =
    raised _ _ OutOfMemory c.from_residual-in_err-add_unless-4.result c.from_residual-in_err-add_unless-4.ensures.1 tt

pub returns-in_err-count : goal.returns-in_err-count
returns-in_err-count c =
    raised _ _ c.in_err-count.field-0.0 c.from_residual-in_err-count.result c.from_residual-in_err-count.ensures.1 c.in_err-count.ensures

pub returns-in_err-add_unless-5 : goal.returns-in_err-add_unless-5
returns-in_err-add_unless-5 c =
    raised _ _ OutOfMemory c.from_residual-in_err-add_unless-5.result c.from_residual-in_err-add_unless-5.ensures.1 tt

pub returns-in_err-most : goal.returns-in_err-most
returns-in_err-most c =
    raised _ _ OutOfMemory c.from_residual-in_err-most.result c.from_residual-in_err-most.ensures.1 tt

pub returns-in_err-add_unless-6 : goal.returns-in_err-add_unless-6
returns-in_err-add_unless-6 c =
    raised _ _ OutOfMemory c.from_residual-in_err-add_unless-6.result c.from_residual-in_err-add_unless-6.ensures.1 tt

pub returns-in_err-least : goal.returns-in_err-least
returns-in_err-least c =
    raised _ _ OutOfMemory c.from_residual-in_err-least.result c.from_residual-in_err-least.ensures.1 tt

pub returns-in_err-add_unless-7 : goal.returns-in_err-add_unless-7
returns-in_err-add_unless-7 c =
    raised _ _ OutOfMemory c.from_residual-in_err-add_unless-7.result c.from_residual-in_err-add_unless-7.ensures.1 tt
