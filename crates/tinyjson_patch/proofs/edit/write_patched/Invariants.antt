use Rattle.tinyjson_document.specs.Document.{document_tree, tree}
use Rattle.tinyjson_patch.proofs.Editing.Running.{IsUnwritten}
use Rattle.tinyjson_patch.proofs.Editing.Taken.{AreTaken}
use Rattle.tinyjson_patch.proofs.edit.write_patched.Given as goal

abbrev pub invariant-loop : goal.invariant-loop
invariant-loop g l =
    IsUnwritten l.total l.patch.operations.items (tree l.node) l.rest (document_tree l.document)
    (g.W.Write.contents l.initial.output) (g.W.Write.contents l.output)
    × AreTaken l.fn.most l.left l.patch.operations.items (tree l.node) l.rest (document_tree l.document)
