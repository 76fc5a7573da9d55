use Rattle.std.proofs.Common.{◌∷◌, [], ◌++◌}
use Rattle.tinyjson_path_query.specs.Fronts.{singular_turn}
use Rattle.tinyjson_path_query.specs.Values.{IsSingularSegment}
use Rattle.tinyjson_path_query.proofs.Literals.{singular_smaller, singular_more}
use Rattle.tinyjson_path_query.proofs.Refusals.{each_none, each_pushed}
use Rattle.tinyjson_path_query.proofs.Shorter.{singular_falls}
use Rattle.tinyjson_path_query.proofs.Turns.{goes_init, goes_more}
use Rattle.tinyjson_path_query.proofs.comparable.singular_segments.Goals as goal

pub loop-segment-init : goal.loop-segment-init
loop-segment-init c = (
  [],
  each_none IsSingularSegment _ c.new-segments.ensures.items,
  goes_init singular_turn c.args.text.now,
)

pub loop-segment-smaller : goal.loop-segment-smaller
loop-segment-smaller c =
    let s = c.in-Ok.ensures in
    singular_smaller c.loop-segment.rest.now c.after_blanks.result.now s.0 c.in-Ok.after.now c.after_blanks.ensures s.1

pub loop-segment-preserved : goal.loop-segment-preserved
loop-segment-preserved c =
    let held = c.loop-segment.invariant in
    let s = c.in-Ok.ensures in (
      held.0 ++ s.0 ∷ [],
      each_pushed IsSingularSegment held.0 s.0 _ _ _ c.in_ok-push-in-Ok.ensures.items held.1 s.2,
      goes_more singular_turn singular_falls c.args.text.now held.0 c.loop-segment.rest.now s.0 c.in-Ok.after.now held.2
          (singular_more c.loop-segment.rest.now c.after_blanks.result.now s.0 c.in-Ok.after.now c.after_blanks.ensures s.1),
    )
