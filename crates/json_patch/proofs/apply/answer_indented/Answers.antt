use Rattle.std.proofs.Common.{true}
use Rattle.std.proofs.KnownBytes.{Keeps-refl}
use Rattle.tinyjson_document.specs.Document.{tree}
use Rattle.tinyjson_document.specs.declared.document.Document.{Document}
use Rattle.tinyjson_patch.specs.Patch.{actions_of}
use Rattle.json_patch.proofs.Applying.{failed}
use Rattle.json_patch.proofs.apply.answer_indented.Goals as goal

pub returns-in-Err : goal.returns-in-Err
returns-in-Err g c =
    failed c.args.most true (actions_of c.args.patch.now) (tree c.args.value) _ _ Document c.in-Err.error c.answer_failure.result
    c.in-Err.ensures.gives c.in-Err.ensures.within (Keeps-refl _) c.answer_failure.ensures
