use Rattle.std.proofs.Common.{◌∙◌, refl}
use Rattle.tinyjson_schema_drafts.specs.Rules.{id_rule, id_rule_by}
use Rattle.tinyjson_schema_drafts.proofs.Wording.{said}
use Rattle.tinyjson_schema_drafts.proofs.rule.id_rule.Goals as goal

pub returns-in-String : goal.returns-in-String
returns-in-String c = c.id_rule_by.ensures
    ∙ said c.args.value.now c.in-String.id c.as_str.result.now c.in-String.is c.as_str.ensures.value id_rule_by id_rule refl
