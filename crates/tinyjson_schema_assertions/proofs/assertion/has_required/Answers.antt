use Rattle.std.proofs.Common.{◌∙◌, sym}
use Rattle.tinyjson.specs.View.{view}
use Rattle.tinyjson_view.specs.Views.{tree_of}
use Rattle.tinyjson_schema_assertions.proofs.Counted.{keys_required, none_required}
use Rattle.tinyjson_schema_assertions.proofs.assertion.has_required.Goals as goal

pub returns-in-Object : goal.returns-in-Object
returns-in-Object c = c.has_keys.ensures
    ∙ keys_required (view c.args.keys.now) (tree_of c.args.value.now) (sym c.in-Object.is ∙ c.kind.ensures)

pub returns-in_default : goal.returns-in_default
returns-in_default c = none_required (view c.args.keys.now) (tree_of c.args.value.now)
    (λ e. c.in_default.not-Object (c.kind.ensures ∙ sym e))
