use Rattle.std.proofs.Common.{refl}
use Rattle.tinyjson_schema_keywords.specs.declared.keyword.Keyword.TheVariants as kw
use Rattle.tinyjson_schema.proofs.applied.Applied.may_test.Goals as goal

pub returns : goal.returns
returns c apart =
    let none = c.may_have_some.ensures apart in
    record {
      any_of = none kw.AnyOf refl;
      one_of = none kw.OneOf refl;
      not_of = none kw.Not refl;
      names = none kw.PropertyNames refl;
      contains = none kw.Contains refl;
    }
