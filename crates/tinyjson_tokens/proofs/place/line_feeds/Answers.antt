use Rattle.std.proofs.Common.{arith}
use Rattle.std.proofs.lemmas.List.Sums.{count_by-le-length}
use Rattle.tinyjson_grammar.specs.Position.{is_line_feed}
use Rattle.tinyjson_tokens.proofs.Places.{count_on}
use Rattle.tinyjson_tokens.proofs.place.line_feeds.Goals as goal

pub overflow_add-count : goal.overflow_add-count
overflow_add-count c =
    let bytes = c.args.bytes.now in
    let l = c.loop-i in
    omega (arith, count_on is_line_feed bytes l.i l.count _ c.feeds.ensures l.invariant.0, count_by-le-length is_line_feed bytes)

pub loop-i-preserved : goal.loop-i-preserved
loop-i-preserved c =
    let l = c.loop-i in
    (count_on is_line_feed c.args.bytes.now l.i l.count _ c.feeds.ensures l.invariant.0, omega arith)
