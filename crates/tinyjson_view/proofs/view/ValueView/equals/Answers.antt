use Rattle.std.proofs.Common.{◌∙◌, ap₂, sym, ap}
use Rattle.tinyjson.specs.Equality.{tree_eq}
use Rattle.tinyjson_view.specs.Views.{tree_of}
use Rattle.tinyjson_view.proofs.Shapes.{tree_eq_sym}
use Rattle.tinyjson_view.proofs.view.ValueView.equals.Goals as goal

pub returns-in-InValue-InDocument : goal.returns-in-InValue-InDocument
returns-in-InValue-InDocument c =
    let both = c.in-InValue-InDocument in
    c.equals_value-in-InValue-InDocument.ensures
    ∙ (ap₂ tree_eq (sym (ap tree_of both.is-1)) (sym (ap tree_of both.is-0))
    ∙ tree_eq_sym (tree_of c.args.other.now) (tree_of c.args.self.now))
