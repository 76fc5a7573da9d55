use Rattle.std.proofs.Common.{map, subst, sym}
use Rattle.tinyjson.specs.Written.{WritesPrefix}
use Rattle.tinyjson_cli.specs.Layout.{laid_out}
use Rattle.tinyjson_document.specs.Document.{document_tree, tree}
use Rattle.json_merge.specs.Apply.{all_merged}
use Rattle.json_merge.proofs.apply.write_text.Goals as goal

pub returns-then-asked : goal.returns-then-asked
returns-then-asked g c =
    subst (λ b. WritesPrefix (g.W.Write.contents c.args.output.now) (g.W.Write.contents c.write_indented.new.output)
    (laid_out b (all_merged (tree c.args.value) (map document_tree c.args.asked.patches.now))) c.write_indented.result)
    (sym c.if-asked.true) c.write_indented.ensures

pub returns : goal.returns
returns g c =
    subst (λ b. WritesPrefix (g.W.Write.contents c.args.output.now) (g.W.Write.contents c.write_compact.new.output)
    (laid_out b (all_merged (tree c.args.value) (map document_tree c.args.asked.patches.now))) c.write_compact.result)
    (sym c.if-asked.false) c.write_compact.ensures
