use Rattle.std.proofs.Common.{[], ◌∷◌, ◌++◌, true}
use Rattle.tinyjson.proofs.Callers.{begins, ends, fails, goes}
use Rattle.tinyjson_path.specs.Selections.{left}
use Rattle.json_path.specs.Shapes.{begun, items_text}
use Rattle.json_path.proofs.array.write_array_begun.Goals as goal

pub returns-in_err-write_all : goal.returns-in_err-write_all
returns-in_err-write_all g c =
    fails _ (items_text c.args.shape true (begun c.args.first (left c.args.rest.now)) ++ 93 ∷ 10 ∷ []) c.from_residual.ensures.0
    c.in_err-write_all.ensures begins

pub returns-in_err-write_items_begun : goal.returns-in_err-write_items_begun
returns-in_err-write_items_begun g c =
    fails _ (93 ∷ 10 ∷ []) c.from_residual-in_err-write_items_begun.ensures.0 c.in_err-write_items_begun.ensures
    (goes (items_text c.args.shape true (begun c.args.first (left c.args.rest.now)) ++ 93 ∷ 10 ∷ []) c.in_ok-write_all.ensures begins)

pub returns : goal.returns
returns g c =
    ends _ _ _ _ _ c.write_all-2.result c.write_all-2.ensures
    (goes (93 ∷ 10 ∷ []) c.in_ok-write_items_begun.ensures
    (goes (items_text c.args.shape true (begun c.args.first (left c.args.rest.now)) ++ 93 ∷ 10 ∷ []) c.in_ok-write_all.ensures begins))
