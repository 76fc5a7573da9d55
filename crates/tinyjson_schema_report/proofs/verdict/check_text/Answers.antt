use Rattle.std.proofs.Common.{subst, sym}
use Rattle.std.proofs.lemmas.Bool.{false≢true}
use Rattle.std.specs.Str.{chars}
use Rattle.tinyjson.specs.Grammar.{IsText}
use Rattle.tinyjson_document.specs.Document.{tree}
use Rattle.tinyjson_schema_report.specs.Verdicts.{judged, depth_limit}
use Rattle.tinyjson_schema_report.proofs.Verdicts.{text_read, no_text, gives_of_value}
use Rattle.tinyjson_schema_report.proofs.verdict.check_text.Goals as goal

pub check_value-verdict-requires : goal.check_value-verdict-requires
check_value-verdict-requires c = subst (IsText depth_limit (chars c.args.text.now)) (sym c.root.ensures)
    (text_read depth_limit (chars c.args.text.now) c.in-Ok.document c.in-Ok.ensures)

pub returns-in-Ok : goal.returns-in-Ok
returns-in-Ok c =
    let xs = chars c.args.text.now in
    gives_of_value (judged c.args.judge) xs (tree c.root.result) c.check_value-verdict.result
    (subst (IsText depth_limit xs) (sym c.root.ensures) (text_read depth_limit xs c.in-Ok.document c.in-Ok.ensures))
    c.check_value-verdict.ensures

pub returns-else-is_out_of_memory : goal.returns-else-is_out_of_memory
returns-else-is_out_of_memory c =
    no_text (chars c.args.text.now) c.in-Err.error c.in-Err.ensures (λ k. false≢true (c.if-is_out_of_memory.ensures.1 k))
