use Rattle.std.proofs.Common.{◌≡◌, ap₂, subst}
use Rattle.std.specs.Prelude.{IfOk}
use Rattle.tinyjson.specs.View.{view}
use Rattle.tinyjson_schema_drafts.specs.References.{with_reference}
use Rattle.tinyjson_schema_drafts.proofs.compound.referring.Goals as goal

pub returns : goal.returns
returns c = subst (λ t. IfOk c.with_reference.result (λ v. view v ≡ t)) (ap₂ with_reference c.in_ok-reference.ensures c.in_ok-copy.ensures)
    c.with_reference.ensures
