use Rattle.std.proofs.Common.{refl}
use Rattle.tinyjson_schema_keywords.specs.declared.keyword.Keyword.TheVariants as kw
use Rattle.tinyjson_schema.proofs.applied.Applied.may_apply.Goals as goal

pub returns : goal.returns
returns c apart =
    let none = c.may_have_some.ensures apart in
    record {
      tests = record {
        any_of = none kw.AnyOf refl;
        one_of = none kw.OneOf refl;
        not_of = none kw.Not refl;
        names = none kw.PropertyNames refl;
        contains = none kw.Contains refl;
      };
      demands = record {
        all_of = none kw.AllOf refl;
        if_of = none kw.If refl;
        dependents = none kw.DependentSchemas refl;
        patterns = none kw.PatternProperties refl;
      };
      references = record {
        reference = none kw.Ref refl;
        dynamic = none kw.DynamicRef refl;
      };
      properties = none kw.Properties refl;
      additional = none kw.AdditionalProperties refl;
      prefix = none kw.PrefixItems refl;
      items = none kw.Items refl;
      members_left = none kw.UnevaluatedProperties refl;
      items_left = none kw.UnevaluatedItems refl;
    }
