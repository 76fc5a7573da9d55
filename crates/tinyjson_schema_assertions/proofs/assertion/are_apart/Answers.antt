use Rattle.std.proofs.Common.{◌∙◌, not, option_map, ap, ap₂, sym}
use Rattle.tinyjson_number.specs.Order.{is_at_most}
use Rattle.tinyjson_document.specs.Numbers.{decimal_of}
use Rattle.tinyjson_view.proofs.Callers.{number_is}
use Rattle.tinyjson_view.specs.Views.{tree_of}
use Rattle.tinyjson_schema_assertions.specs.Assertions.{are_apart}
use Rattle.tinyjson_schema_assertions.proofs.Counted.{unapart_first, unapart_second}
use Rattle.tinyjson_schema_assertions.proofs.assertion.are_apart.Goals as goal

pub returns-in_default : goal.returns-in_default
returns-in_default c = unapart_first (tree_of c.args.number.now) (tree_of c.args.other.now) c.in_default.ensures

pub returns-in_default-number : goal.returns-in_default-number
returns-in_default-number c = unapart_second (tree_of c.args.number.now) (tree_of c.args.other.now) c.in_default-number.ensures

pub returns : goal.returns
returns c =
    let first = number_is (tree_of c.args.number.now) (decimal_of c.in-Some.number)
    (ap (option_map decimal_of) (sym c.in-Some.is) ∙ c.number.ensures) in
    let second = number_is (tree_of c.args.other.now) (decimal_of c.in-Some-number.other)
    (ap (option_map decimal_of) (sym c.in-Some-number.is) ∙ c.number-2.ensures) in
    ap not (c.is_at_most.ensures ∙ ap₂ is_at_most c.as_number.ensures c.as_number-2.ensures) ∙ ap₂ are_apart first second
