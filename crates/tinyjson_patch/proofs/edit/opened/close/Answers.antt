use Rattle.std.proofs.Common.{ap, sym, ◌∙◌}
use Rattle.tinyjson_grammar.specs.Tree.{array}
use Rattle.tinyjson_patch.specs.private.Edited.{tree}
use Rattle.tinyjson_patch.specs.private.Opening.{closed_once}
use Rattle.tinyjson_patch.proofs.Editing.Trees.{tree_Array, tree_Object}
use Rattle.tinyjson_patch.proofs.edit.opened.close.Goals as goal

pub returns-in-Array : goal.returns-in-Array
returns-in-Array c = tree_Array c.put_item.new.items ∙ (ap array c.put_item.ensures ∙ ap (λ o. closed_once o (tree c.args.part)) (sym c.in-Array.is))

pub returns-in-Object : goal.returns-in-Object
returns-in-Object c = tree_Object c.put_member.new.members ∙ (c.put_member.ensures ∙ ap (λ o. closed_once o (tree c.args.part)) (sym c.in-Object.is))
