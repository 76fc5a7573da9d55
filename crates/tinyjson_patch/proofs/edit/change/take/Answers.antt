use Rattle.std.proofs.Common.{ap, ◌∙◌}
use Rattle.tinyjson_grammar.specs.Tree.{array}
use Rattle.tinyjson_patch.specs.private.Edited.{tree, items_tree}
use Rattle.tinyjson_patch.proofs.Editing.Trees.{tree_Array}
use Rattle.tinyjson_patch.proofs.edit.change.take.Goals as goal

pub returns-clause-empty : goal.returns-clause-empty
returns-clause-empty c = ap tree c.replace.ensures.after ∙ (tree_Array c.new.result ∙ ap (λ es. array (items_tree es)) c.new.ensures.items)
