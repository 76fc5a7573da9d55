-- The view of the code's private types.
use Rattle.std.specs.Prelude.{ℕ, suc, ℤ, pos, negsuc, Bool, false, List, Option, Some, None, option_map}
use Rattle.std.specs.Box.{box_value}
use Rattle.std.specs.Ordering.{is_lt}
use Rattle.std.specs.Str.{chars}
use Rattle.tinyjson.specs.Tree.{Tree, key_cmp}
use Rattle.tinyjson.specs.View.{view}
use Rattle.tinyjson_number.specs.Order.{is_less}
use Rattle.tinyjson.specs.Number.{Decimal}
use Rattle.tinyjson_path.specs.Nodes.{Step, at_key, at_index}
use Rattle.tinyjson_view.specs.Views.{tree_of}
use Rattle.tinyjson_path.specs.declared.operand.Operand.{Operand}
use Rattle.tinyjson_path.specs.declared.operand.Operand.TheVariants.{Part, Own}
use Rattle.tinyjson_path.specs.declared.path.Step as last
use Rattle.tinyjson_path.specs.declared.path.Step.TheVariants.{Name, Index}
use Rattle.tinyjson_path.specs.declared.slice.Steps.{Steps}
use Rattle.tinyjson_path.specs.declared.slice.Steps.TheVariants.{Up, Down}
use Rattle.tinyjson_view.specs.declared.view.ValueView.{ValueView}

-- the direction and the size of a slice's steps; up by one if there is no step
abbrev pub steps_of : Option ℤ → Steps
steps_of None = Up 1
steps_of (Some (pos n)) = Up n
steps_of (Some (negsuc n)) = Down (suc n)

abbrev pub step_view : last.Step → Step
step_view (Name k) = at_key (chars k.now)
step_view (Index i) = at_index i

-- the tree of a value that is compared
abbrev pub operand_tree : Operand → Tree
operand_tree (Part v) = tree_of v
operand_tree (Own b) = view (box_value b)

abbrev pub value_tree : Option ValueView → Option Tree
value_tree o = option_map tree_of o

-- ---- the order of numbers and of strings, which there may not be

abbrev pub numbers_less : Option Decimal → Option Decimal → Bool
numbers_less (Some d) (Some e) = is_less d e
numbers_less _ _ = false

abbrev pub texts_less : Option (List ℕ) → Option (List ℕ) → Bool
texts_less (Some k) (Some l) = is_lt (key_cmp k l)
texts_less _ _ = false
