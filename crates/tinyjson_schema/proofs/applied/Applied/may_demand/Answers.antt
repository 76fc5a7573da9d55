use Rattle.std.proofs.Common.{refl}
use Rattle.tinyjson_schema_keywords.specs.declared.keyword.Keyword.TheVariants as kw
use Rattle.tinyjson_schema.proofs.applied.Applied.may_demand.Goals as goal

pub returns : goal.returns
returns c apart =
    let none = c.may_have_some.ensures apart in
    record {
      all_of = none kw.AllOf refl;
      if_of = none kw.If refl;
      dependents = none kw.DependentSchemas refl;
      patterns = none kw.PatternProperties refl;
    }
