use Rattle.std.proofs.Common.{◌≡◌, ◌≢◌, [], Some}
use Rattle.tinyjson_c.proofs.Growing.{counted, empty, not_empty, one_more_made}
use Rattle.tinyjson_c.proofs.SelectingLines.{all_selected, selected_more, unselected_at}
use Rattle.tinyjson_path.specs.Patterns.{judged}
use Rattle.tinyjson_c.proofs.select_lines.select_lines.Goals as goal

pub loop-rest-preserved : goal.loop-rest-preserved
loop-rest-preserved c =
    let i = c.loop-rest.invariant in
    let s = c.split_line.ensures in
    let more : c.loop-rest.rest.now ≢ [] = not_empty _ _ c.is_empty.ensures c.loop-rest-test.true in
    record {
      read = one_more_made _ _ (selected_more judged c.in-Ok.query c.args.paths) _ _ _ _ _ _ _ _ i.read more s.line s.later
          c.in-Ok-push_line.ensures;
      counted = counted _ _ _ _ i.counted more s.later;
    }

pub returns-in-Err-push_line : goal.returns-in-Err-push_line
returns-in-Err-push_line c =
    let i = c.loop-rest.invariant.read in
    let more : c.loop-rest.rest.now ≢ [] = not_empty _ _ c.is_empty.ensures c.loop-rest-test.true in
    unselected_at (Some c.args.depth) c.args.bytes.now c.args.query.now c.loop-rest.rest.now c.split_line.result.0.now i.0
    c.loop-rest.number c.in-Ok.query c.in-Ok.ensures i.1 i.3 more c.split_line.ensures.line c.in-Err-push_line.error
    c.in-Err-push_line.ensures

pub returns : goal.returns
returns c =
    let i = c.loop-rest.invariant.read in
    let none : c.loop-rest.rest.now ≡ [] = empty _ _ c.is_empty.ensures c.loop-rest-test.false in
    all_selected (Some c.args.depth) c.args.bytes.now c.args.query.now c.loop-rest.rest.now c.loop-rest.written.items c.args.paths
    c.in-Ok.query i.0 c.in-Ok.ensures i.1 i.2 none
