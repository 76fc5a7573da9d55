use Rattle.std.proofs.Common.{◌≡◌, ◌+◌, ◌-◌, drop, subst, arith}
use Rattle.tinyjson_grammar.specs.Position.{line_feeds}
use Rattle.tinyjson_tokens.proofs.Places.{none_on}
use Rattle.tinyjson_tokens.proofs.place.line_start.Goals as goal

pub loop-start-preserved : goal.loop-start-preserved
loop-start-preserved c =
    let bytes = c.args.bytes.now in
    let l = c.loop-start in
    let at : l.start ≡ (l.start - 16) + 16 = omega arith in (
      omega arith,
      none_on bytes (l.start - 16) _ c.feeds.ensures (omega arith) (subst (λ n. line_feeds (drop n bytes) ≡ 0) at l.invariant.1),
    )
