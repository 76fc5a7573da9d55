use Rattle.tinyjson.specs.Indent.{indent_of}
use Rattle.tinyjson_grammar.specs.Text.{newline}
use Rattle.tinyjson_output.proofs.Callers.{
  sent_ends as ends,
  sent_fails as fails,
  sent_goes as goes,
  sent_written_none as written_none,
}
use Rattle.tinyjson_document.proofs.Writing.{closing_line, closing_alone}
use Rattle.tinyjson_document.proofs.walk.close.Goals as goal
use Rattle.tinyjson_document.proofs.walk.close.Goals.{then-not-is_empty+in_ok-separate, else-not-is_empty}

pub returns-in_err-separate : goal.returns-in_err-separate
returns-in_err-separate g c =
    let n = newline (indent_of c.args.indent) c.args.level in
    fails _ c.args.bracket.now c.from_residual.ensures.0 c.in_err-separate.ensures
    (written_none _ _ _ (closing_line c.args.is_empty n c.args.bracket.now c.if-not-is_empty.true))

pub returns : goal.returns
returns g c =
    let n = newline (indent_of c.args.indent) c.args.level in
    let b = c.args.bracket.now in
    elim c.if-not-is_empty.branch [
      | then-not-is_empty+in_ok-separate w ↦
          ends _ _ _ _ _ _ c.write_bytes.ensures (rw (w.out-is, w.buffer-is)
          (goes b w.in_ok-separate.ensures (written_none _ _ _ (closing_line c.args.is_empty n b w.if-not-is_empty.true))))
      | else-not-is_empty w ↦ ends _ _ _ _ _ _ c.write_bytes.ensures (rw (w.out-is, w.buffer-is)
          (written_none _ _ _ (closing_alone c.args.is_empty n b w.if-not-is_empty.false)))
    ]
