use Rattle.tinyjson_view.proofs.Callers.{view_compact}
use Rattle.tinyjson_schema_report.proofs.brief.written.Goals as goal

pub returns-in-Ok : goal.returns-in-Ok
returns-in-Ok c = view_compact c.in-Ok.text c.args.value.now c.in-Ok.ensures
