use Rattle.std.proofs.Common.{◌≡◌, ◌+◌, ◌≤◌, List, Option, Some, length}
use Rattle.tinyjson_c.specs.Lines.{AreFirst}
use Rattle.tinyjson_c.specs.Schema.{schema_depth}
use Rattle.tinyjson_c.specs.SchemaLines.{AreJudged, reports_text}
use Rattle.tinyjson_grammar.specs.Tree.{Tree}
use Rattle.tinyjson_schema.specs.Reading.{tree_of}
use Rattle.tinyjson_schema_report.specs.declared.located.Located.{Located}
use Rattle.tinyjson_c.proofs.valid_lines.check_lines.Given as goal

abbrev pub invariant-loop-rest : goal.invariant-loop-rest
invariant-loop-rest l = record {
  read : (ts : List Tree) × AreFirst (Some (schema_depth l.depth)) l.bytes ts l.rest
      × (os : List (Option Located)) × AreJudged (tree_of l.schema) l.bytes ts os × (l.reports.items ≡ reports_text 1 os)
      × (l.number ≡ length ts);
  counted : l.number + length l.rest ≤ length l.bytes;
}

abbrev pub decreases-loop-rest : goal.decreases-loop-rest
decreases-loop-rest l = length l.rest
