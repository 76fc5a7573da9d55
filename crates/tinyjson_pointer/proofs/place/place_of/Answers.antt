use Rattle.std.specs.Str.{chars}
use Rattle.tinyjson_pointer.specs.Tokens.{tokens_of}
use Rattle.tinyjson_pointer.proofs.Locating.Placing.{locates_back}
use Rattle.tinyjson_pointer.proofs.place.place_of.Goals as goal

pub returns-in_err-check : goal.returns-in_err-check
returns-in_err-check c = locates_back (chars c.args.text.now) (tokens_of c.args.pointer.now) c.from_residual.result c.in_err-check.field-0.0
    c.from_residual.ensures.1 (λ n. c.in_err-check.ensures)

pub place_in-requires : goal.place_in-requires
place_in-requires c = c.in_ok-check.ensures.answer.1
