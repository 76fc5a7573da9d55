use Rattle.std.proofs.Common.{Some, option_map, sym, ap, ◌∙◌, subst}
use Rattle.std.specs.Prelude.{IfOk}
use Rattle.tinyjson.proofs.Callers.{view_Number}
use Rattle.tinyjson.specs.View.{view}
use Rattle.tinyjson_document.specs.Numbers.{decimal_of}
use Rattle.tinyjson_view.proofs.Callers.{number_is}
use Rattle.tinyjson_view.specs.Views.{tree_of}
use Rattle.tinyjson_schema_assertions.specs.Assertions.{IsUnmet}
use Rattle.tinyjson_schema.proofs.assertions.unmet_number.Goals as goal

pub returns-in-Made : goal.returns-in-Made
returns-in-Made c =
    let same = view_Number c.in-Made.made
    ∙ number_is (tree_of c.args.value.now) c.in-Made.made.decimal (ap (λ n. Some (decimal_of n)) (sym c.in-Made.is)
    ∙ (ap (option_map decimal_of) (sym c.in-Some.is) ∙ c.number.ensures)) in
    subst (λ t. IfOk c.unmet_of-in-Made.result
    (IsUnmet c.args.walk.ground.now.formats (view c.args.here.now.schema.now) t)) same c.unmet_of-in-Made.ensures
