use Rattle.tinyjson_document.specs.Document.{tree}
use Rattle.tinyjson_path.specs.Selections.{left}
use Rattle.json_path.proofs.Writing.{of_parts}
use Rattle.json_path.specs.declared.selected.Wanted.TheVariants.{Rest}
use Rattle.json_path.proofs.selected.write_rest.Goals as goal

pub returns-in-Ok : goal.returns-in-Ok
returns-in-Ok g c =
    let all = left c.in_ok-selection.selection in
    of_parts Rest c.args.query.now _ _ (tree c.args.root) all c.write_left.result c.in_ok-selection.ensures.left
    (c.write_left.ensures all c.in-Ok.ensures.paths)
