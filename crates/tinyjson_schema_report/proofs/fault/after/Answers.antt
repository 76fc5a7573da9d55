use Rattle.std.proofs.Common.{arith}
use Rattle.std.proofs.lemmas.Str.{IsUtf8-past_char, chars_past_char}
use Rattle.std.proofs.StrCases.{chars_of_empty}
use Rattle.std.specs.Str.Iter.{chars_rest}
use Rattle.tinyjson_schema_report.proofs.Faulting.{one_passed, one_kept, all_passed}
use Rattle.tinyjson_schema_report.proofs.fault.after.Goals as goal

pub loop-c-preserved : goal.loop-c-preserved
loop-c-preserved c =
    let held = c.loop-c.invariant in
    let parts = c.in-Some.ensures.steps.0 in
    let x = c.in-Some.c in (
      IsUtf8-past_char _ _ x held.0 parts,
      one_passed _ _ x c.loop-c.left c.in-Some-checked_sub.less _ _ (omega (arith, c.in-Some-checked_sub.ensures))
          (chars_past_char _ _ x held.0 parts) held.1,
    )

pub loop-c-preserved-in_default : goal.loop-c-preserved-in_default
loop-c-preserved-in_default c =
    let held = c.loop-c.invariant in
    let parts = c.in-Some.ensures.steps.0 in
    let x = c.in-Some.c in (
      IsUtf8-past_char _ _ x held.0 parts,
      one_kept _ _ _ x c.loop-c.left _ _ (omega (arith, c.in_default.ensures)) (chars_past_char _ _ x held.0 parts)
          c.in_ok-push.ensures.bytes held.1,
    )

pub returns : goal.returns
returns c =
    let held = c.loop-c.invariant in
    all_passed _ _ c.loop-c.left _ (chars_of_empty (chars_rest c.loop-c.c-iterator) c.in-None.ensures.steps.0.0) held.1
