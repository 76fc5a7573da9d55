use Rattle.std.proofs.Common.{Some, Ok, subst}
use Rattle.tinyjson_lines.proofs.Pieces.{stops_line, stops_longer}
use Rattle.tinyjson_lines.specs.Lines.{usize_max}
use Rattle.tinyjson_lines.specs.Within.{ReadsWithin}
use Rattle.tinyjson_lines.proofs.lines.read_line.Goals as goal

pub returns-in_err-gather_line : goal.returns-in_err-gather_line
returns-in_err-gather_line g c =
    stops_line _ _ _ c.in_err-gather_line.field-0.0 c.from_residual.result c.from_residual.ensures.1 c.in_err-gather_line.ensures.reads

pub returns-in-TooLong : goal.returns-in-TooLong
returns-in-TooLong g c =
    let unread = g.R.Read.remaining c.args.input.now in
    let left = g.R.Read.remaining c.gather_line.new.input in
    stops_longer unread left c.gather_line.new.line.items c.in-TooLong.field-0 c.too_long.result c.too_long.ensures
    (subst (λ r. ReadsWithin (Some usize_max) unread left c.gather_line.new.line.items (Ok r)) c.in-TooLong.is
    c.in_ok-gather_line.ensures.reads)
