use Rattle.std.proofs.Common.{◌≢◌, []}
use Rattle.tinyjson_c.proofs.Growing.{counted, not_empty, one_more}
use Rattle.tinyjson_c.proofs.lines.normal_lines.Goals as goal

pub loop-rest-preserved : goal.loop-rest-preserved
loop-rest-preserved c =
    let i = c.loop-rest.invariant in
    let s = c.split_line.ensures in
    let more : c.loop-rest.rest.now ≢ [] = not_empty _ _ c.is_empty.ensures c.loop-rest-test.true in
    record {
      read = one_more _ _ _ _ _ _ _ _ i.read more s.line s.later c.in-Ok.ensures;
      counted = counted _ _ _ _ i.counted more s.later;
    }
