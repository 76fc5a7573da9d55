use Rattle.std.proofs.Common.{◌≡◌, drop, string_bytes}
use Rattle.tinyjson_schema_bundle.specs.Bundles.{all_marked}
use Rattle.tinyjson_schema_bundle.specs.Scopes.{scope_by, scope_at, reached_of}
use Rattle.tinyjson_schema_bundle.proofs.scope.scope_at.Given as goal

abbrev pub invariant-loop-mark : goal.invariant-loop-mark
invariant-loop-mark l =
    let all = all_marked l.guide.marks.now in
    scope_by all l.guide.root.now (all_marked (drop l.mark-index l.guide.marks.now)) (string_bytes l.state.entry) l.place
    (all_marked l.scope.items)
    ≡ scope_at all l.guide.root.now (reached_of l.state) l.place
