use Rattle.std.proofs.Common.{◌∷◌, ◌++◌, refl, sym, ap, subst}
use Rattle.std.proofs.lemmas.Str.{encodes-append}
use Rattle.tinyjson.specs.Indent.{indent_of}
use Rattle.tinyjson_grammar.specs.Text.{quoted, before, after_colon}
use Rattle.tinyjson_output.proofs.Callers.{
  enc,
  sent_buffered,
  sent_ends as ends,
  sent_fails as fails,
  sent_goes as goes,
  sent_written_none as written_none,
}
use Rattle.tinyjson_cells.specs.Cell.{IsBytes}
use Rattle.tinyjson_document.proofs.Buffering.{sent_after, part_after}
use Rattle.tinyjson_document.proofs.walk.begin_member.Goals as goal

pub returns-then-quick_key : goal.returns-then-quick_key
returns-then-quick_key g c = λ cs h.
    let is = subst (IsBytes cs) (sym c.part-bytes.ensures) h in
    sent_buffered _ _ _ _ (rw c.if-quick_key.true at (c.quick_key.ensures cs is))

pub returns-in_err-separate : goal.returns-in_err-separate
returns-in_err-separate g c = λ cs h.
    let key = enc (quoted cs ++ (58 ∷ after_colon (indent_of c.args.line.indent))) in
    let is = subst (IsBytes cs) (sym c.part-bytes.ensures) h in
    fails _ key c.from_residual.ensures.0
    (part_after _ _ (rw c.if-quick_key.false at (c.quick_key.ensures cs is)) c.in_err-separate.ensures) (written_none _ _ _ refl)

pub returns-in_err-write_text : goal.returns-in_err-write_text
returns-in_err-write_text g c = λ cs h.
    let w = indent_of c.args.line.indent in
    let colon = 58 ∷ after_colon w in
    let first = enc (before w c.args.line.level c.args.line.first) in
    let is = subst (IsBytes cs) (sym c.part-bytes.ensures) h in
    let same = rw c.if-quick_key.false at (c.quick_key.ensures cs is) in
    fails _ (enc colon) c.from_residual-in_err-write_text.ensures.0 (c.in_err-write_text.ensures cs is)
    (goes (enc (quoted cs) ++ enc colon) (sent_after _ _ same c.in_ok-separate.ensures)
    (written_none _ _ _ (ap (λ z. first ++ z) (encodes-append (quoted cs) colon))))

pub returns : goal.returns
returns g c = λ cs h.
    let w = indent_of c.args.line.indent in
    let colon = 58 ∷ after_colon w in
    let first = enc (before w c.args.line.level c.args.line.first) in
    let is = subst (IsBytes cs) (sym c.part-bytes.ensures) h in
    let same = rw c.if-quick_key.false at (c.quick_key.ensures cs is) in
    ends _ _ _ _ _ _ c.write_colon.ensures (goes (enc colon) (c.in_ok-write_text.ensures cs is)
    (goes (enc (quoted cs) ++ enc colon) (sent_after _ _ same c.in_ok-separate.ensures)
    (written_none _ _ _ (ap (λ z. first ++ z) (encodes-append (quoted cs) colon)))))
