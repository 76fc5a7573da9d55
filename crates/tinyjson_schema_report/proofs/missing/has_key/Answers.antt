use Rattle.std.proofs.Common.{◌∙◌, is_some, ap}
use Rattle.tinyjson_view.specs.Views.{tree_of}
use Rattle.tinyjson_view.proofs.Callers.{some_mapped}
use Rattle.tinyjson_schema_report.proofs.missing.has_key.Goals as goal

pub returns : goal.returns
returns c = c.is_some.ensures ∙ (some_mapped tree_of c.member.result ∙ ap is_some c.member.ensures)
