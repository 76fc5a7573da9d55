use Rattle.std.proofs.Common.{refl}
use Rattle.tinyjson_schema_keywords.specs.declared.keyword.Keyword.TheVariants as kw
use Rattle.tinyjson_schema.proofs.applied.Applied.may_refer.Goals as goal

pub returns : goal.returns
returns c apart =
    let none = c.may_have_some.ensures apart in
    record {
      reference = none kw.Ref refl;
      dynamic = none kw.DynamicRef refl;
    }
