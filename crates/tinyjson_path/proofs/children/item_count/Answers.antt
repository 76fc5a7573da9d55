use Rattle.std.proofs.Common.{◌∙◌, sym}
use Rattle.tinyjson_view.specs.Views.{tree_of}
use Rattle.tinyjson_path.proofs.Comparisons.{array_items, no_array}
use Rattle.tinyjson_path.proofs.children.item_count.Goals as goal

pub returns-in-Array : goal.returns-in-Array
returns-in-Array c = c.len.ensures ∙ array_items (tree_of c.args.value) (sym c.in-Array.is ∙ c.kind.ensures)

pub returns-in_default : goal.returns-in_default
returns-in_default c = no_array (tree_of c.args.value) (λ e. c.in_default.not-Array (c.kind.ensures ∙ sym e))
