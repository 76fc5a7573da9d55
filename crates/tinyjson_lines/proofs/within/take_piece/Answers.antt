use Rattle.std.proofs.Common.{◌≡◌, ℕ, ◌+◌, ◌<◌, List, Option, Result, Ok, Err, inr, length, subst, sym, ◌∙◌, arith}
use Rattle.std.specs.Io.BufRead.{FillKeeps}
use Rattle.std.proofs.BufReadLemmas.{Consumes_shown}
use Rattle.std.proofs.lemmas.Bool.{eqb-true, false≢true}
use Rattle.std.specs.Result.{IsErr}
use Rattle.std.specs.declared.io.Error.{Error}
use Rattle.tinyjson_lines.proofs.Pieces.{begins_longer, memory_stops, more_part, none_shown, part_ends, stops_taken, too_long, whole_line}
use Rattle.tinyjson_lines.specs.declared.within.LineRead.{LineRead}
use Rattle.tinyjson_lines.specs.private.Pieces.{Extends}
use Rattle.tinyjson_lines.proofs.within.take_piece.Goals as goal

not_extended : (old new : List ℕ) (r : Result (Option LineRead) Error) → IsErr r → Extends old new r
not_extended old new (Ok x) e = absurd (false≢true e)
not_extended old new (Err x) e = tt

pub returns-in_err-skip_until-clause-reads : goal.returns-in_err-skip_until-clause-reads
returns-in_err-skip_until-clause-reads g c = λ unread p.
    let shown = c.in-Ok.available.now in
    let end = c.line_end-end in
    stops_taken c.args.max unread _ _ c.in_err-skip_until.field-0.0 c.from_residual.result c.from_residual.ensures.1 (record {
      kind = c.in_err-skip_until.ensures.retried;
      within = inr (begins_longer c.args.max end.result c.args.line.now.items shown end.ensures.end end.ensures.within
          (omega (arith, c.if-end-saturating_sub.true, c.saturating_sub.ensures, c.len.ensures)) unread _ c.in-Ok.ensures.front p);
    })

pub returns-in_err-skip_until-clause-extends : goal.returns-in_err-skip_until-clause-extends
returns-in_err-skip_until-clause-extends g c = not_extended _ _ c.from_residual.result c.from_residual.ensures.0

pub returns-in_err-extend_from_slice-clause-reads : goal.returns-in_err-extend_from_slice-clause-reads
returns-in_err-extend_from_slice-clause-reads g c = λ unread p.
    let rested = c.fill_buf.follows.lender-at-none in
    let filled = subst (FillKeeps _ (g.R.Read.remaining rested) (g.R.BufRead.consumable_len rested)) c.in-Ok.is
    c.fill_buf.follows.holds-at-none in
    memory_stops c.args.max unread _ _ c.args.line.now.items _ c.from_residual-in_err-extend_from_slice.result
    c.from_residual-in_err-extend_from_slice.ensures.1 filled.0 c.in_err-extend_from_slice.ensures.items p

pub returns-in_err-extend_from_slice-clause-extends : goal.returns-in_err-extend_from_slice-clause-extends
returns-in_err-extend_from_slice-clause-extends g c = not_extended _ _ c.from_residual-in_err-extend_from_slice.result c.from_residual-in_err-extend_from_slice.ensures.0

pub returns-in_err-extend_from_slice-2-clause-reads : goal.returns-in_err-extend_from_slice-2-clause-reads
returns-in_err-extend_from_slice-2-clause-reads g c = λ unread p.
    let rested = c.fill_buf.follows.lender-at-none in
    let filled = subst (FillKeeps _ (g.R.Read.remaining rested) (g.R.BufRead.consumable_len rested)) c.in-Ok.is
    c.fill_buf.follows.holds-at-none in
    memory_stops c.args.max unread _ _ c.args.line.now.items _ c.from_residual-in_err-extend_from_slice-2.result
    c.from_residual-in_err-extend_from_slice-2.ensures.1 filled.0 c.in_err-extend_from_slice-2.ensures.items p

pub returns-in_err-extend_from_slice-2-clause-extends : goal.returns-in_err-extend_from_slice-2-clause-extends
returns-in_err-extend_from_slice-2-clause-extends g c = not_extended _ _ c.from_residual-in_err-extend_from_slice-2.result c.from_residual-in_err-extend_from_slice-2.ensures.0

pub returns-then-is_empty-clause-reads : goal.returns-then-is_empty-clause-reads
returns-then-is_empty-clause-reads g c = λ unread p.
    let shown = c.in-Ok.available.now in
    let none : length shown ≡ 0 = eqb-true _ 0 (sym c.is_empty.ensures ∙ c.if-is_empty.true) in
    let rested = c.fill_buf.follows.lender-at-none in
    let filled = subst (FillKeeps _ (g.R.Read.remaining rested) (g.R.BufRead.consumable_len rested)) c.in-Ok.is
    c.fill_buf.follows.holds-at-none in
    part_ends c.args.max unread _ _ c.args.line.now.items c.as_slice.result.now _ c.end_read.ensures c.as_slice.ensures.value
    (none_shown _ (length shown) none c.in-Ok.ensures.end) filled.0 p

pub returns-then-end-saturating_sub-clause-reads : goal.returns-then-end-saturating_sub-clause-reads
returns-then-end-saturating_sub-clause-reads g c = λ unread p.
    let shown = c.in-Ok.available.now in
    let end = c.line_end-end in
    let rested = c.fill_buf.follows.lender-at-none in
    let filled = subst (FillKeeps _ (g.R.Read.remaining rested) (g.R.BufRead.consumable_len rested)) c.in-Ok.is
    c.fill_buf.follows.holds-at-none in
    too_long c.args.max end.result c.args.line.now.items shown end.ensures.end end.ensures.within
    (omega (arith, c.if-end-saturating_sub.true, c.saturating_sub.ensures, c.len.ensures)) unread _ _ _ c.in-Ok.ensures.front filled.0
    c.in_ok-skip_until.ensures.rest p

pub returns-then-end-available-clause-reads : goal.returns-then-end-available-clause-reads
returns-then-end-available-clause-reads g c = λ unread p.
    let shown = c.in-Ok.available.now in
    let end = c.line_end-end in
    let within : end.result < length shown = c.if-end-available.true in
    let rested = c.fill_buf.follows.lender-at-none in
    let filled = subst (FillKeeps _ (g.R.Read.remaining rested) (g.R.BufRead.consumable_len rested)) c.in-Ok.is
    c.fill_buf.follows.holds-at-none in
    let taken = Consumes_shown _ _ _ _ shown (end.result + 1) (omega (arith, within)) c.in-Ok.ensures.front c.in-Ok.ensures.end
    filled.0 filled.1 c.consume.ensures.bytes in
    whole_line c.args.max end.result c.args.line.now.items shown _ end.ensures.end within c.in_ok-extend_from_slice.ensures.items
    unread _ _ (omega (arith, c.if-end-saturating_sub.false, c.saturating_sub.ensures, c.len.ensures, p.within)) taken.0 p

pub returns-clause-reads : goal.returns-clause-reads
returns-clause-reads g c = λ unread p.
    let shown = c.in-Ok.available.now in
    let end = c.line_end-end in
    let rested = c.fill_buf.follows.lender-at-none in
    let filled = subst (FillKeeps _ (g.R.Read.remaining rested) (g.R.BufRead.consumable_len rested)) c.in-Ok.is
    c.fill_buf.follows.holds-at-none in
    let taken = Consumes_shown _ _ _ _ shown end.result end.ensures.within c.in-Ok.ensures.front c.in-Ok.ensures.end
    filled.0 filled.1 c.consume-2.ensures.bytes in
    more_part c.args.max end.result unread _ _ c.args.line.now.items shown _ end.ensures.end end.ensures.within
    c.if-end-available.false
    (omega (arith, c.if-end-saturating_sub.false, c.saturating_sub.ensures, c.len.ensures, p.within))
    c.in_ok-extend_from_slice-2.ensures.items taken.0 p
