use Rattle.std.proofs.Common.{◌+◌, ap, sym, ◌∙◌, drop, map}
use Rattle.tinyjson_cli.proofs.Callers.{drop_one}
use Rattle.tinyjson_document.specs.Document.{document_tree, tree}
use Rattle.tinyjson_patch.specs.Merge.{merge_patch}
use Rattle.json_merge.specs.Apply.{all_merged}
use Rattle.json_merge.proofs.apply.merge_all.Goals as goal

pub loop-patch-preserved : goal.loop-patch-preserved
loop-patch-preserved c =
    let i = c.loop-patch.patch-index in
    let ps = c.args.others.now in
    let t = document_tree c.loop-patch.merged in
    let merged =
    c.in_ok-merged-2.ensures
    ∙ (ap (λ u. merge_patch u (tree c.root-in-loop-patch-2.result)) c.root-in-loop-patch.ensures
    ∙ ap (λ u. merge_patch t u) c.root-in-loop-patch-2.ensures) in
    c.loop-patch.invariant
    ∙ (ap (λ us. all_merged t (map document_tree us)) (drop_one ps i c.patch-item.result c.loop-patch-test.true c.patch-item.is)
    ∙ ap (λ u. all_merged u (map document_tree (drop (i + 1) ps))) (sym merged))
