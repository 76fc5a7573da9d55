use Rattle.std.proofs.Common.{sym}
use Rattle.tinyjson_number.proofs.Decimals.{positive_negative, negative_positive}
use Rattle.tinyjson_number.proofs.number.JsonNumber.is_at_most.Goals as goal

pub returns-in-true-false : goal.returns-in-true-false
returns-in-true-false c = negative_positive c.args.self.now.decimal c.args.other.now.decimal (sym c.in-true-false.ensures)
    (sym c.in-true-false.ensures')

pub returns-in-false-true : goal.returns-in-false-true
returns-in-false-true c =
    positive_negative c.args.self.now.decimal c.args.other.now.decimal c.args.other.now.canonical (sym c.in-false-true.ensures)
    (sym c.in-false-true.ensures')
