use Rattle.std.proofs.Common.{subst}
use Rattle.tinyjson_cli.specs.Texts.{Answers}
use Rattle.tinyjson_document.specs.Document.{tree}
use Rattle.json_diff.specs.Compare.{GivesPatchOf}
use Rattle.json_diff.proofs.compare.ComparisonValueTool.answer_value.Goals as goal

pub returns : goal.returns
returns g c =
    subst (λ t. Answers (GivesPatchOf c.args.self.now.is_merge c.args.self.now.is_indented t (tree c.args.new))
    (g.W.Write.contents c.args.output.now) (g.W.Write.contents c.answer.new.output) c.answer.result)
    c.root.ensures c.answer.ensures
