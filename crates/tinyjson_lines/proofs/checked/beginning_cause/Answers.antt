use Rattle.std.proofs.Common.{◌≡◌, ◌∙◌, length, sym, arith, rules}
use Rattle.std.proofs.lemmas.Bool.{false≢true}
use Rattle.std.proofs.lemmas.Str.{chars_from_encodes}
use Rattle.std.specs.Prelude.{Some}
use Rattle.std.specs.Str.{chars}
use Rattle.tinyjson_lines.proofs.Beginnings.{refused_line}
use Rattle.tinyjson_lines.proofs.checked.beginning_cause.Goals as goal

pub returns-then-column-count : goal.returns-then-column-count
returns-then-column-count c =
    let text = c.in-Some.text.now in
    let counted : c.count.result ≡ length (chars text) = search (rules, chars_from_encodes) in
    record {
      cause = refused_line (Some c.args.limit) text c.args.part.now c.in-Err.error c.in-Some.ensures
          (λ k. false≢true (c.if-is_out_of_memory.ensures.1 k)) (sym c.line.ensures ∙ c.if-line-eq1.true)
          (omega (arith, c.column.ensures, c.if-column-count.true, counted)) (omega (arith, c.count.type_inv, counted)) c.in-Err.ensures;
      err = tt;
    }
