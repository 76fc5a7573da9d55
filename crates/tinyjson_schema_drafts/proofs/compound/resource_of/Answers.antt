use Rattle.std.proofs.Common.{◌≡◌, List, subst}
use Rattle.std.specs.Prelude.{IfOk}
use Rattle.tinyjson.specs.View.{view}
use Rattle.tinyjson_schema_bundle.specs.Scopes.{Reached, AreCopies, bundled}
use Rattle.tinyjson_schema_drafts.proofs.compound.resource_of.Goals as goal

pub returns : goal.returns
returns c =
    subst (λ t. IfOk c.bundled-whole.result (λ v. (copies : List Reached) × (view v ≡ bundled copies t) × AreCopies t copies))
    c.in_ok-tree.ensures c.bundled-whole.ensures
