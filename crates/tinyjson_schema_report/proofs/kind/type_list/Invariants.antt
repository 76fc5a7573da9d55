use Rattle.std.proofs.Common.{◌≡◌, ◌++◌, codes, drop, string_bytes}
use Rattle.tinyjson.specs.View.{items_view}
use Rattle.tinyjson_schema_report.specs.Brief.{more_joined, joined}
use Rattle.tinyjson_schema_report.specs.Kinds.{type_name}
use Rattle.tinyjson_schema_report.proofs.kind.type_list.Given as goal

abbrev pub invariant-loop-name : goal.invariant-loop-name
invariant-loop-name l = string_bytes l.words ++ more_joined (codes " or ") type_name (items_view (drop l.name-index l.more))
    ≡ joined (codes " or ") type_name (items_view l.fn.names)
