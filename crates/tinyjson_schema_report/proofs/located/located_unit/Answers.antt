use Rattle.std.proofs.Common.{◌≡◌, subst}
use Rattle.std.specs.Prelude.{IfOk}
use Rattle.tinyjson.specs.View.{view}
use Rattle.tinyjson_schema_report.specs.Located.{with_column}
use Rattle.tinyjson_schema_report.proofs.located.located_unit.Goals as goal

pub returns : goal.returns
returns c =
    subst (λ t. IfOk c.with_column.result (λ u. view u ≡ with_column c.args.located.now.place.column t)) c.in_ok-unit.ensures
    c.with_column.ensures
