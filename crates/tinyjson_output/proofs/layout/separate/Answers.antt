use Rattle.tinyjson_grammar.specs.Text.{newline}
use Rattle.tinyjson_output.specs.Indent.{indent_of}
use Rattle.tinyjson_output.proofs.Bytes.{enc, comma_here, no_comma}
use Rattle.tinyjson_output.proofs.Sending.{goes, ends, fails, written_none}
use Rattle.tinyjson_output.proofs.layout.separate.Goals as goal
use Rattle.tinyjson_output.proofs.layout.separate.Goals.{then-not-first+in_ok-write_bytes, else-not-first}

pub returns-in_err-write_bytes : goal.returns-in_err-write_bytes
returns-in_err-write_bytes g c =
    let n = newline (indent_of c.args.indent) c.args.level in
    fails _ (enc n) c.from_residual.ensures.0 c.in_err-write_bytes.ensures
    (written_none _ _ _ (comma_here c.args.first n c.if-not-first.true))

pub returns : goal.returns
returns g c =
    let n = newline (indent_of c.args.indent) c.args.level in
    elim c.if-not-first.branch [
      | then-not-first+in_ok-write_bytes w ↦
          ends _ _ _ _ _ _ c.write_newline.ensures (rw (w.out-is, w.buffer-is)
          (goes (enc n) w.in_ok-write_bytes.ensures (written_none _ _ _ (comma_here c.args.first n w.if-not-first.true))))
      | else-not-first w ↦ ends _ _ _ _ _ _ c.write_newline.ensures (rw (w.out-is, w.buffer-is)
          (written_none _ _ _ (no_comma c.args.first n w.if-not-first.false)))
    ]
