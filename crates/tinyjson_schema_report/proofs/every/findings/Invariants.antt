use Rattle.std.proofs.Common.{length}
use Rattle.tinyjson_schema.specs.Reading.{tree_of}
use Rattle.tinyjson_schema_report.specs.Finds.{HasWords}
use Rattle.tinyjson_schema_report.specs.declared.found.Finding.{Finding}
use Rattle.tinyjson_view.specs.Views.{tree_of as value_tree}
use Rattle.tinyjson_schema_report.proofs.Callers.{IsGathering}
use Rattle.tinyjson_schema_report.proofs.every.findings.Given as goal

abbrev pub invariant-loop-violation : goal.invariant-loop-violation
invariant-loop-violation l =
    IsGathering (λ (f : Finding). f.violation) (HasWords (tree_of l.schema) (value_tree l.value)) l.fn.violations.items
    l.rest.items l.found.items

abbrev pub decreases-loop-violation : goal.decreases-loop-violation
decreases-loop-violation l = length l.rest.items
