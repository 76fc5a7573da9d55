use Rattle.std.proofs.Common.{◌∙◌, int_le, pos, option_map, ap, sym}
use Rattle.tinyjson.specs.Number.{Decimal}
use Rattle.tinyjson_document.specs.Numbers.{decimal_of}
use Rattle.tinyjson_view.proofs.Callers.{number_is}
use Rattle.tinyjson_view.specs.Views.{tree_of}
use Rattle.tinyjson_schema_assertions.specs.Assertions.{is_whole}
use Rattle.tinyjson_schema_assertions.proofs.Counted.{no_whole}
use Rattle.tinyjson_schema_assertions.proofs.assertion.is_whole.Goals as goal

pub returns-in-Some : goal.returns-in-Some
returns-in-Some c =
    c.has_no_fraction.ensures ∙ (ap (λ (d : Decimal). int_le (pos 0) d.power) c.as_number.ensures
    ∙ ap is_whole (number_is (tree_of c.args.value.now) (decimal_of c.in-Some.number)
    (ap (option_map decimal_of) (sym c.in-Some.is) ∙ c.number.ensures)))

pub returns-in-None : goal.returns-in-None
returns-in-None c = no_whole (tree_of c.args.value.now) c.in-None.ensures
