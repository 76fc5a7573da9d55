use Rattle.std.proofs.Common.{◌∙◌, ap₂, sym}
use Rattle.tinyjson_view.specs.Views.{tree_of}
use Rattle.tinyjson_path.specs.Seen.{numbers_less, texts_less}
use Rattle.tinyjson_path.proofs.Comparisons.{by_numbers, by_strings, by_neither}
use Rattle.tinyjson_path.proofs.operand.is_value_less.Goals as goal

pub returns-in-Number : goal.returns-in-Number
returns-in-Number c =
    c.is_number_less.ensures
    ∙ (ap₂ numbers_less c.number.ensures c.number-in-Number.ensures
    ∙ by_numbers (tree_of c.args.left) (tree_of c.args.right) (sym c.in-Number.is ∙ c.kind.ensures))

pub returns-in-String : goal.returns-in-String
returns-in-String c =
    c.is_string_less.ensures
    ∙ (ap₂ texts_less c.string.ensures c.string-in-String.ensures
    ∙ by_strings (tree_of c.args.left) (tree_of c.args.right) (sym c.in-String.is ∙ c.kind.ensures))

pub returns-in_default : goal.returns-in_default
returns-in_default c =
    by_neither (tree_of c.args.left) (tree_of c.args.right) (λ e. c.in_default.not-Number (c.kind.ensures ∙ sym e))
    (λ e. c.in_default.not-String (c.kind.ensures ∙ sym e))
