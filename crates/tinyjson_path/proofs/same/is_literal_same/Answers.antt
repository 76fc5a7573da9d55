use Rattle.std.proofs.Common.{◌∙◌, ap, sym}
use Rattle.tinyjson.specs.Tree.{number}
use Rattle.tinyjson.specs.Number.{decimal_eq_Decides}
use Rattle.tinyjson_path.specs.Comparing.{literal_tree}
use Rattle.tinyjson_path.proofs.same.is_literal_same.Goals as goal

pub returns-in-Number-Number : goal.returns-in-Number-Number
returns-in-Number-Number c = λ same.
    let both = c.in-Number-Number in
    let decimals = (decimal_eq_Decides both.left.decimal both.right.decimal).0 (sym c.eq.ensures ∙ same) in
    ap literal_tree both.is-0 ∙ (ap number decimals ∙ sym (ap literal_tree both.is-1))
