use Rattle.std.proofs.Common.{length}
use Rattle.std.proofs.lemmas.Result.{MatchResult-from_err}
use borrow.Rule.Slice.PartMut.{post_of}
use Rattle.tinyjson_output.proofs.Sending.{flush_fails, in_front, waits_alone, far}
use Rattle.tinyjson_output.proofs.buffer.write_far.Goals as goal

pub returns-in_err-flush : goal.returns-in_err-flush
returns-in_err-flush g c = MatchResult-from_err _ _ _ c.from_residual.ensures.0
    (λ _. flush_fails c.args.bytes.now c.in_err-flush.ensures.written)

pub returns-then-len-gt-CAPACITY : goal.returns-then-len-gt-CAPACITY
returns-then-len-gt-CAPACITY g c = far _ _ _ _ _ _ _ c.in_ok-flush.ensures.written c.in_ok-flush.ensures.empty c.write_all.ensures

pub returns : goal.returns
returns g c =
    let bytes = c.args.bytes.now in
    waits_alone _ bytes c.in_ok-flush.ensures.written
    (in_front c.copy_from_slice.new.self (post_of 0 (length bytes) c.flush.new.buffer.bytes) bytes c.copy_from_slice.ensures.after)
