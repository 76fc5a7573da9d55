use Rattle.std.proofs.Common.{Some, ◌∙◌, ap, option_map}
use Rattle.tinyjson_view.specs.Views.{tree_of}
use Rattle.tinyjson_diff.proofs.merge.is_kept.Goals as goal

pub returns-in-Some : goal.returns-in-Some
returns-in-Some c = λ h. ap (option_map tree_of) c.in-Some.is ∙ ap Some (c.are_found_equal.ensures h)
