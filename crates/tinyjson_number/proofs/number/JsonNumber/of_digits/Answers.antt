use Rattle.tinyjson_number.proofs.Forms.{digits_of_form}
use Rattle.tinyjson_number.proofs.Runs.{digits_of_front, digits_back, digits_ascii}
use Rattle.tinyjson_number.proofs.number.JsonNumber.of_digits.Goals as goal

pub joined-requires-clause-front : goal.joined-requires-clause-front
joined-requires-clause-front c = search (digits_ascii, digits_of_front, digits_of_form)

pub joined-requires-clause-back : goal.joined-requires-clause-back
joined-requires-clause-back c = search (digits_ascii, digits_back, digits_of_form)
