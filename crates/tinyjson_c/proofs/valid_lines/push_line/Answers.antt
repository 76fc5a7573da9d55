use Rattle.std.proofs.Common.{None, Ok, Some, append-nil, subst, sym}
use Rattle.tinyjson_c.proofs.JudgingLines.{judged_line, unjudged, unreported_line}
use Rattle.tinyjson_c.specs.Schema.{FindsText, schema_depth}
use Rattle.tinyjson_schema.specs.Reading.{tree_of}
use Rattle.tinyjson_c.proofs.valid_lines.push_line.Goals as goal

pub returns-in-Ok-None : goal.returns-in-Ok-None
returns-in-Ok-None c =
    let limit = Some (schema_depth c.args.depth) in
    let s = tree_of c.args.schema.now in
    let old = c.args.reports.now.items in
    judged_line limit s c.args.line.now c.args.number old old None
    (subst (λ o. FindsText limit s c.args.line.now (Ok o)) c.in-Ok-None.field-0-is c.in-Ok-None.ensures) (sym (append-nil old))

pub returns-in-Ok : goal.returns-in-Ok
returns-in-Ok c =
    let limit = Some (schema_depth c.args.depth) in
    let s = tree_of c.args.schema.now in
    judged_line limit s c.args.line.now c.args.number c.args.reports.now.items c.push_report.new.reports.items
    (Some c.in-Ok-Some.located)
    (subst (λ o. FindsText limit s c.args.line.now (Ok o)) c.in-Ok-Some.field-0-is c.in-Ok-Some.ensures) c.in-Ok.ensures

pub returns-in-Ok-Some : goal.returns-in-Ok-Some
returns-in-Ok-Some c =
    let limit = Some (schema_depth c.args.depth) in
    let s = tree_of c.args.schema.now in
    unreported_line limit s c.args.line.now (Some c.in-Ok-Some.located)
    (subst (λ o. FindsText limit s c.args.line.now (Ok o)) c.in-Ok-Some.field-0-is c.in-Ok-Some.ensures)

pub returns : goal.returns
returns c =
    unjudged (Some (schema_depth c.args.depth)) (tree_of c.args.schema.now) c.args.line.now c.in-Err.error c.in-Err.ensures
