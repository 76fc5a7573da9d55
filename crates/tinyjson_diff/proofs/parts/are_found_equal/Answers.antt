use Rattle.std.proofs.Common.{◌∙◌, sym}
use Rattle.tinyjson.specs.Equality.{tree_eq_Decides}
use Rattle.tinyjson_view.specs.Views.{tree_of}
use Rattle.tinyjson_diff.proofs.parts.are_found_equal.Goals as goal

pub returns : goal.returns
returns c = λ h. (tree_eq_Decides (tree_of c.args.old) (tree_of c.args.new)).0 (sym c.equals.ensures ∙ h)
