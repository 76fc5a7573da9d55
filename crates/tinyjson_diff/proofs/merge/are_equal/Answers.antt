use Rattle.tinyjson_view.specs.Views.{tree_of}
use Rattle.tinyjson_diff.proofs.Values.{equal_told, none_told}
use Rattle.tinyjson_diff.proofs.merge.are_equal.Goals as goal

pub returns-in-Some : goal.returns-in-Some
returns-in-Some c = equal_told c.args.old c.in-Some.old (tree_of c.args.new) c.equals.result c.in-Some.is c.equals.ensures

pub returns-in-None : goal.returns-in-None
returns-in-None c = none_told c.args.old (tree_of c.args.new) c.in-None.is
