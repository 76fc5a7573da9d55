use Rattle.std.proofs.Common.{◌≡◌, drop}
use Rattle.tinyjson_schema_bundle.specs.Bundles.{all_marked}
use Rattle.tinyjson_schema_bundle.specs.Scopes.{entered_by, entered}
use Rattle.tinyjson_schema_bundle.proofs.scope.enter.Given as goal

abbrev pub invariant-loop-mark : goal.invariant-loop-mark
invariant-loop-mark l =
    let all = all_marked l.guide.marks.now in
    entered_by all l.guide.root.now (all_marked (drop l.mark-index l.guide.marks.now)) l.uri (all_marked l.scope.items)
    ≡ entered all l.guide.root.now l.uri (all_marked l.initial.scope.items)
