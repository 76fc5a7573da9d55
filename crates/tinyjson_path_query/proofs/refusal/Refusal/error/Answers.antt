use Rattle.std.proofs.Common.{ap, ◌∙◌}
use Rattle.tinyjson_path_query.specs.Kinds.{read_kind}
use Rattle.tinyjson_path_query.proofs.Meaning.{rest_at, says_at}
use Rattle.tinyjson_path_query.proofs.refusal.Refusal.error.Goals as goal

pub returns-clause-says : goal.returns-clause-says
returns-clause-says c = says_at c.args.text.now _ c.kind_at.result c.kind_at.ensures.says

pub returns-clause-rule : goal.returns-clause-rule
returns-clause-rule c = λ n. c.kind_at.ensures.rule n ∙ ap (read_kind c.args.self.cause) (rest_at c.args.text.now _)
