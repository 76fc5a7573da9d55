use Rattle.std.proofs.Common.{◌≡◌, refl, ◌∙◌, ap}
use Rattle.std.specs.Int.{w128}
use Rattle.std.specs.Prelude.{unsigned_abs}
use Rattle.std.proofs.lemmas.Int.{to_z-of_z}
use Rattle.tinyjson_number.specs.Text.{natural_text}
use Rattle.tinyjson_output.proofs.Sending.{goes, ends, fails, written_none}
use Rattle.tinyjson_output.proofs.Digits.{negative_exponent, positive_exponent}
use Rattle.tinyjson_output.proofs.number.write_exponent.Goals as goal
use Rattle.tinyjson_output.proofs.number.write_exponent.Goals.{then-exponent-lt0+in_ok-write_bytes, else-exponent-lt0+in_ok-write_bytes-2}

pub returns-in_err-write_bytes : goal.returns-in_err-write_bytes
returns-in_err-write_bytes g c =
    let z = c.args.exponent in
    fails _ (natural_text (unsigned_abs z)) c.from_residual.ensures.0 c.in_err-write_bytes.ensures
    (written_none _ _ _ (negative_exponent z (unsigned_abs z) (rw (to_z-of_z w128 z c.ranges.exponent) at c.if-exponent-lt0.true) refl))

pub returns-in_err-write_bytes-2 : goal.returns-in_err-write_bytes-2
returns-in_err-write_bytes-2 g c =
    let z = c.args.exponent in
    fails _ (natural_text (unsigned_abs z)) c.from_residual-in_err-write_bytes-2.ensures.0 c.in_err-write_bytes-2.ensures
    (written_none _ _ _ (positive_exponent z (unsigned_abs z) (rw (to_z-of_z w128 z c.ranges.exponent) at c.if-exponent-lt0.false) refl))

pub returns : goal.returns
returns g c =
    let z = c.args.exponent in
    let n = c.unsigned_abs.result in
    let size : n ≡ unsigned_abs z = c.unsigned_abs.ensures.value ∙ ap unsigned_abs (to_z-of_z w128 z c.ranges.exponent) in
    elim c.if-exponent-lt0.branch [
      | then-exponent-lt0+in_ok-write_bytes w ↦ ends _ _ _ _ _ _ c.write_natural.ensures (rw (w.out-is, w.buffer-is)
          (goes (natural_text n) w.in_ok-write_bytes.ensures (written_none _ _ _
          (negative_exponent z n (rw (to_z-of_z w128 z c.ranges.exponent) at w.if-exponent-lt0.true) size))))
      | else-exponent-lt0+in_ok-write_bytes-2 w ↦ ends _ _ _ _ _ _ c.write_natural.ensures (rw (w.out-is, w.buffer-is)
          (goes (natural_text n) w.in_ok-write_bytes-2.ensures (written_none _ _ _
          (positive_exponent z n (rw (to_z-of_z w128 z c.ranges.exponent) at w.if-exponent-lt0.false) size))))
    ]
