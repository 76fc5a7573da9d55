use Rattle.std.proofs.Common.{Ok, Some, subst}
use Rattle.tinyjson_c.proofs.Judging.{found_invalid, found_valid, found_without_memory, not_found}
use Rattle.tinyjson_c.specs.Schema.{FindsText, schema_depth}
use Rattle.tinyjson_schema.specs.Reading.{tree_of}
use Rattle.tinyjson_c.proofs.schema.check.Goals as goal

pub returns-in-Ok-None : goal.returns-in-Ok-None
returns-in-Ok-None c =
    let limit = Some (schema_depth c.args.depth) in
    let s = tree_of c.args.schema.now in
    found_valid limit s c.args.text.now (subst (λ o. FindsText limit s c.args.text.now (Ok o)) c.in-Ok-None.field-0-is c.in-Ok-None.ensures)

pub returns-in-Ok : goal.returns-in-Ok
returns-in-Ok c =
    let limit = Some (schema_depth c.args.depth) in
    let s = tree_of c.args.schema.now in
    let l = c.in-Ok-Some.located in
    found_invalid limit s c.args.text.now c.in-Ok.report l c.in-Ok.ensures
    (subst (λ o. FindsText limit s c.args.text.now (Ok o)) c.in-Ok-Some.field-0-is c.in-Ok-Some.ensures)

pub returns-in-Ok-Some : goal.returns-in-Ok-Some
returns-in-Ok-Some c =
    let limit = Some (schema_depth c.args.depth) in
    let s = tree_of c.args.schema.now in
    found_without_memory limit s c.args.text.now (Some c.in-Ok-Some.located)
    (subst (λ o. FindsText limit s c.args.text.now (Ok o)) c.in-Ok-Some.field-0-is c.in-Ok-Some.ensures)

pub returns : goal.returns
returns c =
    not_found (Some (schema_depth c.args.depth)) (tree_of c.args.schema.now) c.args.text.now c.in-Err.error c.in-Err.ensures
