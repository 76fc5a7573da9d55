use Rattle.std.proofs.Common.{◌∙◌, sym}
use Rattle.tinyjson_document.specs.Document.{tree}
use Rattle.tinyjson_path.specs.Selections.{left}
use Rattle.json_path.proofs.Writing.{of_parts, took}
use Rattle.json_path.specs.Shapes.{begun}
use Rattle.json_path.specs.declared.selected.Wanted.TheVariants.{Selected}
use Rattle.json_path.proofs.selected.write_selection.Goals as goal

pub returns-in-Ok : goal.returns-in-Ok
returns-in-Ok g c =
    let all = left c.in_ok-selection.selection in
    let rest = left c.next.new.self in
    of_parts (Selected c.args.form) c.args.query.now _ _ (tree c.args.root) (begun c.in-Ok.first rest) c.write_begun.result
    (sym (took all rest c.in-Ok.first c.in-Ok.ensures.next) ∙ c.in_ok-selection.ensures.left) c.write_begun.ensures
