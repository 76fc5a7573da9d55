use Rattle.std.proofs.Common.{arith}
use Rattle.std.proofs.lemmas.Str.{IsUtf8-past_char, chars_past_char}
use Rattle.std.proofs.StrCases.{chars_of_empty}
use Rattle.std.specs.Str.Iter.{chars_rest}
use Rattle.tinyjson_schema_report.proofs.Cutting.{one_more, no_more, all_shown}
use Rattle.tinyjson_schema_report.proofs.brief.cut.Goals as goal

pub returns-in_default : goal.returns-in_default
returns-in_default c =
    let held = c.loop-c.invariant in
    let parts = c.in-Some.ensures.steps.0 in
    no_more _ _ _ c.in-Some.c c.loop-c.left _ _ (omega (arith, c.in_default.ensures)) (chars_past_char _ _ c.in-Some.c held.0 parts)
    c.in_ok-push_str.ensures.bytes held.1

pub loop-c-preserved : goal.loop-c-preserved
loop-c-preserved c =
    let held = c.loop-c.invariant in
    let parts = c.in-Some.ensures.steps.0 in
    let x = c.in-Some.c in (
      IsUtf8-past_char _ _ x held.0 parts,
      one_more _ _ _ x c.loop-c.left c.in-Some-checked_sub.less _ _ (omega (arith, c.in-Some-checked_sub.ensures))
          (chars_past_char _ _ x held.0 parts)
          c.in_ok-push.ensures.bytes held.1,
    )

pub returns : goal.returns
returns c =
    let held = c.loop-c.invariant in
    all_shown _ _ c.loop-c.left _ (chars_of_empty (chars_rest c.loop-c.c-iterator) c.in-None.ensures.steps.0.0) held.1
