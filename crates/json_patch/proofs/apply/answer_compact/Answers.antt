use Rattle.std.proofs.Common.{Result, false}
use Rattle.std.specs.declared.io.Error.{Error}
use Rattle.tinyjson_document.specs.Document.{tree}
use Rattle.tinyjson_patch.specs.Patch.{actions_of}
use Rattle.json_patch.proofs.Applying.{text_begun, text_cut, text_ended, unwritten}
use Rattle.json_patch.proofs.apply.answer_compact.Goals as goal

pub returns-in-Err : goal.returns-in-Err
returns-in-Err g c =
    unwritten c.args.most false (actions_of c.args.patch.now) (tree c.args.value) _ _ (Result (Unit {0}) Error)
    c.in-Err.error c.answer_failure.result c.in-Err.ensures.writes c.in-Err.ensures.within c.answer_failure.ensures

pub returns-in_err-written-in-Ok : goal.returns-in_err-written-in-Ok
returns-in_err-written-in-Ok g c =
    text_begun c.args.most (actions_of c.args.patch.now) (tree c.args.value) _ _ c.in-Ok.written c.in-Ok.ensures.within
    c.in-Ok.ensures.writes _ c.from_residual.result c.in_err-written-in-Ok.was c.from_residual.ensures.0

pub returns-in_err-write_all-in-Ok : goal.returns-in_err-write_all-in-Ok
returns-in_err-write_all-in-Ok g c =
    text_cut c.args.most (actions_of c.args.patch.now) (tree c.args.value) _ _ c.in-Ok.written c.in-Ok.ensures.within
    c.in-Ok.ensures.writes _ _
    c.from_residual-in_err-write_all-in-Ok.result c.in_ok-written-in-Ok.was c.from_residual-in_err-write_all-in-Ok.ensures.0
    c.in_err-write_all-in-Ok.ensures

pub returns-in_ok-write_all-in-Ok : goal.returns-in_ok-write_all-in-Ok
returns-in_ok-write_all-in-Ok g c =
    text_ended c.args.most (actions_of c.args.patch.now) (tree c.args.value) _ _ c.in-Ok.written c.in-Ok.ensures.within
    c.in-Ok.ensures.writes _ _ c.in_ok-written-in-Ok.was c.in_ok-write_all-in-Ok.ensures
