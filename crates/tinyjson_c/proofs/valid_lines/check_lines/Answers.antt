use Rattle.std.proofs.Common.{◌≡◌, ◌≢◌, [], Some, refl, arith}
use Rattle.tinyjson_c.proofs.Growing.{counted, empty, not_empty}
use Rattle.tinyjson_c.proofs.JudgingLines.{all_judged, judged_all, judged_all_valid, no_reports}
use Rattle.tinyjson_c.proofs.JudgingLines.{one_more_judged, some_reports, stopped_line}
use Rattle.tinyjson_c.specs.Schema.{schema_depth}
use Rattle.tinyjson_schema.specs.Reading.{tree_of}
use Rattle.tinyjson_c.proofs.valid_lines.check_lines.Goals as goal

pub loop-rest-init : goal.loop-rest-init
loop-rest-init c = record {
  read = ([], refl, [], tt, c.new-reports.ensures.items, refl);
  counted = omega arith;
}

pub loop-rest-preserved : goal.loop-rest-preserved
loop-rest-preserved c =
    let i = c.loop-rest.invariant in
    let s = c.split_line.ensures in
    let more : c.loop-rest.rest.now ≢ [] = not_empty _ _ c.is_empty.ensures c.loop-rest-test.true in
    record {
      read = one_more_judged (tree_of c.args.schema.now) (Some (schema_depth c.args.depth)) c.args.bytes.now c.loop-rest.rest.now
          c.split_line.result.0.now c.split_line.result.1.now c.loop-rest.reports.items c.push_line.new.reports.items
          c.loop-rest.number i.read more s.line s.later c.in-Ok.ensures;
      counted = counted _ _ _ _ i.counted more s.later;
    }

pub returns-in-Err : goal.returns-in-Err
returns-in-Err c =
    let more : c.loop-rest.rest.now ≢ [] = not_empty _ _ c.is_empty.ensures c.loop-rest-test.true in
    stopped_line (tree_of c.args.schema.now) (Some (schema_depth c.args.depth)) c.args.bytes.now c.loop-rest.rest.now
    c.split_line.result.0.now c.loop-rest.reports.items c.loop-rest.number c.loop-rest.invariant.read more c.split_line.ensures.line
    c.in-Err.error c.in-Err.ensures

pub returns-then-is_empty : goal.returns-then-is_empty
returns-then-is_empty c =
    let none : c.loop-rest.rest.now ≡ [] = empty _ _ c.is_empty.ensures c.loop-rest-test.false in
    judged_all_valid (Some (schema_depth c.args.depth)) (tree_of c.args.schema.now) c.args.bytes.now c.loop-rest.reports.items
    (no_reports c.loop-rest.reports _ c.is_empty-2.ensures c.if-is_empty.true)
    (all_judged (tree_of c.args.schema.now) (Some (schema_depth c.args.depth)) c.args.bytes.now c.loop-rest.rest.now
    c.loop-rest.reports.items c.loop-rest.number c.loop-rest.invariant.read none)

pub returns : goal.returns
returns c =
    let none : c.loop-rest.rest.now ≡ [] = empty _ _ c.is_empty.ensures c.loop-rest-test.false in
    judged_all (Some (schema_depth c.args.depth)) (tree_of c.args.schema.now) c.args.bytes.now c.loop-rest.reports
    (some_reports c.loop-rest.reports _ c.is_empty-2.ensures c.if-is_empty.false)
    (all_judged (tree_of c.args.schema.now) (Some (schema_depth c.args.depth)) c.args.bytes.now c.loop-rest.rest.now
    c.loop-rest.reports.items c.loop-rest.number c.loop-rest.invariant.read none)
