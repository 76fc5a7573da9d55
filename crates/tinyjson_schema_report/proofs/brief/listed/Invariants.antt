use Rattle.std.proofs.Common.{◌≡◌, ◌++◌, codes, drop, string_bytes}
use Rattle.tinyjson.specs.View.{items_view}
use Rattle.tinyjson_schema_report.specs.Brief.{more_joined, joined, written}
use Rattle.tinyjson_schema_report.proofs.brief.listed.Given as goal

abbrev pub invariant-loop-value : goal.invariant-loop-value
invariant-loop-value l = string_bytes l.text ++ more_joined (codes ", ") written (items_view (drop l.value-index l.more))
    ≡ joined (codes ", ") written (items_view l.fn.values)
