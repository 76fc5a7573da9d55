use Rattle.std.proofs.Common.{◌≤◌, ◌-◌, ◌∙◌, length, sym, arith}
use Rattle.tinyjson_schema_bundle.proofs.Placing.{put_back}
use Rattle.tinyjson_schema_bundle.proofs.guide.places_of.Goals as goal

pub loop-left-preserved-in-Ok : goal.loop-left-preserved-in-Ok
loop-left-preserved-in-Ok c =
    let xs = c.args.marks.now in
    let n = c.loop-left.left in
    let before : n - 1 ≤ length xs = omega (arith, c.loop-left.invariant.0) in (
      before,
      put_back xs n c.index-marks-left.result c.loop-left-test.true c.loop-left.invariant.0 c.index-marks-left.is c.loop-left.places
          c.loop-left.invariant.1 c.in_ok-uri.uri c.in_ok-place.place c.insert.new.self (sym c.is_place.ensures ∙ c.if-is_place.true)
          (c.in_ok-uri.ensures.ok ∙ c.as_str.ensures.value) (c.in_ok-place.ensures.ok ∙ c.as_str-then-is_place.ensures.value)
          c.in-Ok.ensures.updates,
    )

pub loop-left-preserved-in-Ok-2 : goal.loop-left-preserved-in-Ok-2
loop-left-preserved-in-Ok-2 c =
    let xs = c.args.marks.now in
    let n = c.loop-left.left in
    let before : n - 1 ≤ length xs = omega (arith, c.loop-left.invariant.0) in (
      before,
      put_back xs n c.index-marks-left.result c.loop-left-test.true c.loop-left.invariant.0 c.index-marks-left.is c.loop-left.places
          c.loop-left.invariant.1 c.in_ok-uri.uri c.in_ok-place.place c.insert.new.self (sym c.is_place.ensures ∙ c.if-is_place.true)
          (c.in_ok-uri.ensures.ok ∙ c.as_str.ensures.value) (c.in_ok-place.ensures.ok ∙ c.as_str-then-is_place.ensures.value)
          c.in-Ok.ensures.updates,
    )
