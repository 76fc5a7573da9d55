use Rattle.std.proofs.Common.{◌++◌, ◌∷◌, [], ◌∙◌, ap, codes, encode_utf8_all, map, refl, subst, sym, true}
use Rattle.tinyjson.specs.Characters.{line_feed}
use Rattle.tinyjson.specs.Text.{indented}
use Rattle.tinyjson.specs.Written.{WritesPrefix}
use Rattle.tinyjson_cli.proofs.Callers.{is_indented}
use Rattle.tinyjson_document.specs.Document.{document_tree, tree}
use Rattle.json_merge.proofs.Applying.{unwritten}
use Rattle.json_merge.specs.Apply.{all_merged}
use Rattle.json_merge.proofs.apply.write_indented.Goals as goal

pub returns : goal.returns
returns g c =
    let t = tree c.args.value in
    let whole =
    c.root.ensures ∙ (c.in_ok-merged.ensures ∙ ap (λ ds. all_merged t (map document_tree ds)) (sym c.in-Some.ensures.cases.0)) in
    is_indented (all_merged t (map document_tree c.args.patches.now)) _ _ c.format_line_to-2.result true refl
    (subst (λ u. WritesPrefix (g.W.Write.contents c.args.output.now) (g.W.Write.contents c.format_line_to-2.new.out)
    (encode_utf8_all (indented u (codes "  ") 0) ++ line_feed ∷ []) c.format_line_to-2.result)
    whole c.format_line_to-2.ensures)

pub returns-in_err-merged : goal.returns-in_err-merged
returns-in_err-merged g c = unwritten _ _ c.from_residual.result c.from_residual.ensures.0
