use Rattle.std.proofs.Common.{true, false}
use Rattle.tinyjson_document.specs.Document.{tree}
use Rattle.tinyjson_patch.specs.Patch.{actions_of}
use Rattle.json_patch.specs.Apply.{copy_limit}
use Rattle.json_patch.proofs.Applying.{in_form}
use Rattle.json_patch.proofs.apply.AskedValueTool.answer_value.Goals as goal

pub returns-then-self : goal.returns-then-self
returns-then-self g c =
    in_form (actions_of c.args.self.now.patch.now) (tree c.args.value) c.args.self.now.is_indented true c.copies_for-most.result
    (copy_limit c.args.len) _ _ c.answer_indented.result c.if-self.true c.copies_for-most.ensures c.answer_indented.ensures

pub returns : goal.returns
returns g c =
    in_form (actions_of c.args.self.now.patch.now) (tree c.args.value) c.args.self.now.is_indented false c.copies_for-most.result
    (copy_limit c.args.len) _ _ c.answer_compact.result c.if-self.false c.copies_for-most.ensures c.answer_compact.ensures
