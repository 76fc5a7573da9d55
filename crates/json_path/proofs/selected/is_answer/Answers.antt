use Rattle.std.proofs.Common.{◌||◌, not, ap, sym, refl, ◌∙◌}
use Rattle.tinyjson_path.specs.Nodes.{parts_view}
use Rattle.tinyjson_path.specs.Queries.{is_some_part}
use Rattle.json_path.proofs.Writing.{some_parts}
use Rattle.json_path.proofs.selected.is_answer.Goals as goal

pub returns : goal.returns
returns c =
    ap not c.is_empty.ensures
    ∙ (some_parts c.args.nodes.now _ refl ∙ ap (λ b. b || is_some_part (parts_view c.args.nodes.now)) (sym c.if-form.false))
