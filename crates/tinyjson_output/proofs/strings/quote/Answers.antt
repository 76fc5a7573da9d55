use Rattle.std.proofs.Common.{◌++◌, ◌∷◌, []}
use Rattle.tinyjson_grammar.specs.Text.{escapes}
use Rattle.tinyjson_output.proofs.Sending.{goes, ends, fails, written_none}
use Rattle.tinyjson_output.proofs.Quotes.{quoted_bytes}
use Rattle.tinyjson_output.proofs.strings.quote.Goals as goal

pub returns-in_err-write_bytes : goal.returns-in_err-write_bytes
returns-in_err-write_bytes g c = fails _ (escapes c.args.text.now ++ 34 ∷ []) c.from_residual.ensures.0 c.in_err-write_bytes.ensures
    (written_none _ _ _ (quoted_bytes c.args.text.now c.utf8.text))

pub returns-in_err-write_escaped : goal.returns-in_err-write_escaped
returns-in_err-write_escaped g c =
    let h = goes (escapes c.args.text.now ++ 34 ∷ []) c.in_ok-write_bytes.ensures
    (written_none _ _ _ (quoted_bytes c.args.text.now c.utf8.text)) in
    fails _ (34 ∷ []) c.from_residual-in_err-write_escaped.ensures.0 c.in_err-write_escaped.ensures (rw c.as_bytes.ensures.value h)

pub returns : goal.returns
returns g c =
    let h = goes (escapes c.args.text.now ++ 34 ∷ []) c.in_ok-write_bytes.ensures
    (written_none _ _ _ (quoted_bytes c.args.text.now c.utf8.text)) in
    ends _ _ _ _ _ _ c.write_bytes-2.ensures (goes (34 ∷ []) c.in_ok-write_escaped.ensures (rw c.as_bytes.ensures.value h))
