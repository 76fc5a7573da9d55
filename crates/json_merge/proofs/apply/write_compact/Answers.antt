use Rattle.std.proofs.Common.{◌∷◌, [], false, map, sym, ap, ◌∙◌, subst}
use Rattle.std.proofs.lemmas.List.{map-append}
use Rattle.tinyjson.specs.Written.{WritesPrefix}
use Rattle.tinyjson_cli.specs.Layout.{laid_out}
use Rattle.tinyjson_document.specs.Document.{document_tree, tree}
use Rattle.tinyjson_patch.specs.Merge.{merge_patch}
use Rattle.json_merge.proofs.Applying.{last_merged, unwritten}
use Rattle.json_merge.specs.Apply.{all_merged}
use Rattle.json_merge.proofs.apply.write_compact.Goals as goal

pub returns : goal.returns
returns g c =
    let t = tree c.args.value in
    let last = c.in-Some.last.now in
    let others = c.in-Some.others.now in
    let split = c.in-Some.ensures.cases.0 in
    let merged = c.in_ok-merged.ensures ∙ ap (λ ds. all_merged t (map document_tree ds)) (sym c.in-Some-split_first.ensures.cases.0) in
    let whole =
    ap (λ p. merge_patch (tree c.root-2.result) p) c.root-3.ensures
    ∙ ap (λ u. merge_patch u (document_tree last)) (c.root-2.ensures ∙ merged)
    ∙ sym (last_merged t (map document_tree others) (document_tree last))
    ∙ ap (all_merged t) (sym (map-append document_tree others (last ∷ [])) ∙ ap (map document_tree) (sym split)) in
    subst (λ u. WritesPrefix (g.W.Write.contents c.args.output.now) (g.W.Write.contents c.write_merged-2.new.output) (laid_out false u)
    c.write_merged-2.result) whole c.write_merged-2.ensures

pub returns-in_err-merged : goal.returns-in_err-merged
returns-in_err-merged g c = unwritten _ _ c.from_residual.result c.from_residual.ensures.0
