use Rattle.std.proofs.Common.{◌+◌, ◌%◌, ◌∷◌, [], arith}
use Rattle.tinyjson_output.proofs.Sending.{goes, ends, fails, written_none}
use Rattle.tinyjson_output.proofs.Digits.{natural_more, natural_one}
use Rattle.tinyjson_output.proofs.number.+write_natural.Goals as goal
use Rattle.tinyjson_output.proofs.number.+write_natural.Goals.{then-number-ge10+in_ok-write_natural, else-number-ge10}

pub returns-in_err-write_natural : goal.returns-in_err-write_natural
returns-in_err-write_natural g t c =
    let n = c.args.number in
    fails _ ((48 + n % 10) ∷ []) c.from_residual.ensures.0 c.in_err-write_natural.ensures
    (written_none _ _ _ (natural_more n c.if-number-ge10.true c.ranges.number.fits))

pub returns : goal.returns
returns g t c =
    let n = c.args.number in
    elim c.if-number-ge10.branch [
      | then-number-ge10+in_ok-write_natural w ↦ ends _ _ _ _ _ _ c.write_bytes.ensures (rw (w.out-is, w.buffer-is)
          (goes ((48 + n % 10) ∷ []) w.in_ok-write_natural.ensures
          (written_none _ _ _ (natural_more n w.if-number-ge10.true c.ranges.number.fits))))
      | else-number-ge10 w ↦ ends _ _ _ _ _ _ c.write_bytes.ensures (rw (w.out-is, w.buffer-is)
          (written_none _ _ _ (natural_one n (omega (arith, w.if-number-ge10.false)))))
    ]
