use Rattle.std.proofs.Common.{length}
use Rattle.tinyjson.specs.Index.{item_count}
use Rattle.tinyjson_grammar.specs.Tree.{array}
use Rattle.tinyjson_view.specs.Views.{trees_of}
use Rattle.tinyjson_patch.specs.Copies.{item_values}
use Rattle.tinyjson_patch.proofs.Editing.Counting.{IsSpreading}
use Rattle.tinyjson_patch.proofs.edit.count.push_views.Given as goal

abbrev pub invariant-loop-view : goal.invariant-loop-view
invariant-loop-view l =
    IsSpreading (array (trees_of l.fn.views.items)) l.fn.stack.items l.stack.items (item_values (trees_of l.views.items))
    (item_count (trees_of l.views.items))

abbrev pub decreases-loop-view : goal.decreases-loop-view
decreases-loop-view l = length l.views.items
