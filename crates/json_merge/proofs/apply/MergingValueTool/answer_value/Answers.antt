use Rattle.std.proofs.Common.{map, subst}
use Rattle.tinyjson_cli.specs.Texts.{Answers}
use Rattle.tinyjson_document.specs.Document.{document_tree, tree}
use Rattle.json_merge.specs.Apply.{GivesMerged}
use Rattle.json_merge.proofs.apply.MergingValueTool.answer_value.Goals as goal

pub returns : goal.returns
returns g c =
    subst (λ ds. Answers (GivesMerged c.args.self.now.is_indented (map document_tree ds) (tree c.args.value))
    (g.W.Write.contents c.args.output.now) (g.W.Write.contents c.answer.new.output) c.answer.result)
    c.as_slice.ensures.value c.answer.ensures
