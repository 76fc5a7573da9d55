use Rattle.std.proofs.Common.{◌+◌, sym, subst}
use Rattle.text_uri.proofs.Sharing.{IsShared, shared_first, shared_out, shared_apart, shared_slash, shared_other}
use Rattle.text_uri.proofs.relative.shared_len.Goals.{then-at-target-via-then-at-target, then-at-target-via-else-at-target+then-target-at}
use Rattle.text_uri.proofs.relative.shared_len.Goals.{then-byte-eq47, else-byte-eq47}
use Rattle.text_uri.proofs.relative.shared_len.Goals as goal

pub loop-at-init : goal.loop-at-init
loop-at-init c = shared_first c.args.base.now c.args.target.now

pub returns-then-at-target : goal.returns-then-at-target
returns-then-at-target c =
    let base = c.args.base.now in
    let target = c.args.target.now in
    let at = c.loop-at.at in
    elim c.then-at-target.branch [
      | then-at-target-via-then-at-target w ↦
          sym (shared_out base target at c.loop-at.shared c.loop-at.invariant w.if-at-target.true)
      | then-at-target-via-else-at-target+then-target-at w ↦
          sym (shared_apart base target at c.loop-at.shared c.loop-at.invariant c.loop-at-test.true w.if-at-target.false
          w.if-target-at.true)
    ]

pub loop-at-preserved : goal.loop-at-preserved
loop-at-preserved c =
    let base = c.args.base.now in
    let target = c.args.target.now in
    let at = c.loop-at.at in
    elim c.if-byte-eq47.branch [
      | then-byte-eq47 w ↦ subst (IsShared base target (at + 1)) (sym w.shared-is)
          (shared_slash base target at c.loop-at.shared c.loop-at.invariant c.loop-at-test.true c.if-at-target.false
          c.if-target-at.false w.if-byte-eq47.true)
      | else-byte-eq47 w ↦ subst (IsShared base target (at + 1)) (sym w.shared-is)
          (shared_other base target at c.loop-at.shared c.loop-at.invariant c.loop-at-test.true c.if-at-target.false
          c.if-target-at.false w.if-byte-eq47.false)
    ]
