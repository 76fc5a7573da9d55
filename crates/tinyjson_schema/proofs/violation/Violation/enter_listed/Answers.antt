use Rattle.std.proofs.Common.{◌∙◌, ◌∷◌, ap}
use Rattle.tinyjson_schema_keywords.specs.Names.{name}
use Rattle.tinyjson_schema.proofs.violation.Violation.enter_listed.Goals as goal

pub returns : goal.returns
returns c =
    let j = c.in_ok-prepend_index.ensures.ok in
    record {
      token = j.token;
      named = j.named;
      entered = (
        c.in_ok-enter_keyword.ensures.0 ∙ ap (λ xs. name c.args.keyword ∷ xs) j.joined,
        c.in_ok-enter_keyword.ensures.1,
      );
    }
