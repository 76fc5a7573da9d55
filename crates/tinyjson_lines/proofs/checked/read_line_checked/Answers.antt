use Rattle.std.proofs.Common.{ℕ, ◌<◌, List, Option, Result, Err, arith, length, subst}
use Rattle.std.proofs.lemmas.Bool.{false≢true}
use Rattle.std.specs.Prelude.{IfSome, Ok, Some}
use Rattle.std.specs.Result.{IsErr}
use Rattle.std.specs.declared.io.Error.{Error}
use Rattle.tinyjson_lines.proofs.Passing.{begins_rejected, checked_memory, checked_passing, checked_stops, rejected_bytes, rejected_text}
use Rattle.tinyjson_lines.specs.Checked.{ReadsChecked}
use Rattle.tinyjson_lines.specs.declared.checked.CheckedRead.{CheckedRead}
use Rattle.tinyjson_lines.specs.private.Beginnings.{Rejects, usize_max}
use Rattle.tinyjson_lines.specs.private.Pieces.{TakesPiece}
use Rattle.tinyjson_lines.proofs.checked.read_line_checked.Goals as goal

pub returns-in_err-take_piece : goal.returns-in_err-take_piece
returns-in_err-take_piece g c =
    let unread = g.R.Read.remaining c.args.input.now in
    checked_stops (Some c.args.limit) unread _ _ c.in_err-take_piece.field-0.0 c.from_residual.result c.from_residual.ensures.1
    (c.in_err-take_piece.ensures.reads unread c.loop.invariant.part)

pub returns-in_err-cause : goal.returns-in_err-cause
returns-in_err-cause g c =
    let unread = g.R.Read.remaining c.args.input.now in
    let left = g.R.Read.remaining c.take_piece.new.input in
    let part = c.take_piece.new.line.items in
    let piece = subst (λ o. TakesPiece usize_max unread left part (Ok o)) c.in-None.is
    (c.in_ok-take_piece.ensures.reads unread c.loop.invariant.part) in
    checked_memory (Some c.args.limit) unread left part c.in_err-cause.field-0.0 c.from_residual-in_err-cause.result
    c.from_residual-in_err-cause.ensures.1 c.in_err-cause.ensures.err piece

pub returns-in_err-pass_over : goal.returns-in_err-pass_over
returns-in_err-pass_over g c =
    let unread = g.R.Read.remaining c.args.input.now in
    let left = g.R.Read.remaining c.take_piece.new.input in
    let part = c.take_piece.new.line.items in
    let piece = subst (λ o. TakesPiece usize_max unread left part (Ok o)) c.in-None.is
    (c.in_ok-take_piece.ensures.reads unread c.loop.invariant.part) in
    let some : 0 < length part = omega (arith, c.loop.invariant.later, c.if-len-next_check.false, c.len.ensures) in
    let known = subst (λ o. IfSome o (Rejects (Some c.args.limit) c.as_slice.result.now)) c.in-Some.is c.in_ok-cause.ensures.cause in
    let rejects = subst (λ l. Rejects (Some c.args.limit) l c.in-Some.cause) c.as_slice.ensures.value known in
    checked_passing (Some c.args.limit) unread _ _ c.in_err-pass_over.field-0.0 c.from_residual-in_err-pass_over.result
    c.from_residual-in_err-pass_over.ensures.1 (c.in_err-pass_over.ensures unread some piece)
    (begins_rejected (Some c.args.limit) unread left part c.in-Some.cause piece some rejects)

pub returns-then-branch : goal.returns-then-branch
returns-then-branch g c =
    let unread = g.R.Read.remaining c.args.input.now in
    let left = g.R.Read.remaining c.take_piece.new.input in
    let part = c.take_piece.new.line.items in
    let piece = subst (λ o. TakesPiece usize_max unread left part (Ok o)) c.in-None.is
    (c.in_ok-take_piece.ensures.reads unread c.loop.invariant.part) in
    let some : 0 < length part = omega (arith, c.loop.invariant.later, c.if-len-next_check.false, c.len.ensures) in
    let known = subst (λ o. IfSome o (Rejects (Some c.args.limit) c.as_slice.result.now)) c.in-Some.is c.in_ok-cause.ensures.cause in
    let rejects = subst (λ l. Rejects (Some c.args.limit) l c.in-Some.cause) c.as_slice.ensures.value known in
    rejected_text (Some c.args.limit) unread _ part c.in-Some.cause c.in_ok-pass_over.field-0 c.if-branch.true rejects
    (c.in_ok-pass_over.ensures unread some piece)

pub returns-else-branch : goal.returns-else-branch
returns-else-branch g c =
    let unread = g.R.Read.remaining c.args.input.now in
    let left = g.R.Read.remaining c.take_piece.new.input in
    let part = c.take_piece.new.line.items in
    let piece = subst (λ o. TakesPiece usize_max unread left part (Ok o)) c.in-None.is
    (c.in_ok-take_piece.ensures.reads unread c.loop.invariant.part) in
    let some : 0 < length part = omega (arith, c.loop.invariant.later, c.if-len-next_check.false, c.len.ensures) in
    rejected_bytes (Some c.args.limit) unread _ part c.in_ok-pass_over.field-0 c.if-branch.false
    (c.in_ok-pass_over.ensures unread some piece)
