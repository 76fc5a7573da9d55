-- Values, their trees and their texts.
use Rattle.std.proofs.Common.{ap}
use Rattle.tinyjson.specs.Equality.{tree_eq_Decides}
use Rattle.tinyjson_grammar.specs.Text.{compact}
use Rattle.tinyjson.specs.View.{view}
use Rattle.tinyjson.proofs.Callers.{view_IsTree}
use Rattle.tinyjson_laws.specs.Values.{EqualTrees, EqualTexts}
use Rattle.tinyjson_laws.proofs.WritingLaws.{same_compact}

pub equal_trees : EqualTrees
equal_trees v w = tree_eq_Decides (view v) (view w)

pub equal_texts : EqualTexts
equal_texts v w =
    let d = tree_eq_Decides (view v) (view w) in
    (λ h. ap compact (d.0 h), λ e. d.1 ((same_compact (view v) (view w) (view_IsTree v) (view_IsTree w)).0 e))
