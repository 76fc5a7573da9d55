use Rattle.std.proofs.Common.{◌≡◌, ◌∷◌, drop, map}
use Rattle.tinyjson_document.specs.Document.{document_tree, tree}
use Rattle.json_merge.specs.Apply.{all_merged}
use Rattle.json_merge.proofs.apply.merge_all.Given as goal

abbrev pub invariant-loop-patch : goal.invariant-loop-patch
invariant-loop-patch l =
    all_merged (tree l.fn.value) (document_tree l.fn.first ∷ map document_tree l.others)
    ≡ all_merged (document_tree l.merged) (map document_tree (drop l.patch-index l.others))
