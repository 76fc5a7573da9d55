use Rattle.tinyjson_document.specs.Document.{document_tree, tree}
use Rattle.tinyjson_patch.proofs.Editing.Running.{IsBehind}
use Rattle.tinyjson_patch.proofs.Editing.Taken.{AreTaken}
use Rattle.tinyjson_patch.proofs.edit.patch_document.Given as goal

abbrev pub invariant-loop : goal.invariant-loop
invariant-loop l =
    IsBehind l.total l.patch.operations.items (tree l.node) l.rest (document_tree l.document)
    × AreTaken l.fn.most l.left l.patch.operations.items (tree l.node) l.rest (document_tree l.document)
