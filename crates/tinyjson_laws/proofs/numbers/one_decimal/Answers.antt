use Rattle.tinyjson_laws.proofs.NumberLaws.{one_decimal}
use Rattle.tinyjson_laws.proofs.numbers.one_decimal.Goals as goal

pub returns : goal.returns
returns c = one_decimal
