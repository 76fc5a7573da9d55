use Rattle.std.proofs.Common.{◌≡◌, drop}
use Rattle.tinyjson_schema_bundle.specs.Bundles.{all_marked}
use Rattle.tinyjson_schema_bundle.specs.Scopes.{innermost, home}
use Rattle.tinyjson_schema_bundle.proofs.scope.home.Given as goal

abbrev pub invariant-loop-mark : goal.invariant-loop-mark
invariant-loop-mark l =
    let all = all_marked l.guide.marks.now in
    innermost all l.guide.root.now (all_marked (drop l.mark-index l.guide.marks.now)) l.place (l.home.0.now, l.home.1.now)
    ≡ home all l.guide.root.now l.place
