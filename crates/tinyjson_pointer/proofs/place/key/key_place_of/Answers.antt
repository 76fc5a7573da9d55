use Rattle.std.specs.Str.{chars}
use Rattle.tinyjson_pointer.specs.Tokens.{tokens_of}
use Rattle.tinyjson_pointer.proofs.Locating.KeyPlacing.{keyed_back}
use Rattle.tinyjson_pointer.proofs.place.key.key_place_of.Goals as goal

pub returns-in_err-check : goal.returns-in_err-check
returns-in_err-check c = keyed_back (chars c.args.text.now) (tokens_of c.args.pointer.now) c.from_residual.result c.in_err-check.field-0.0
    c.from_residual.ensures.1 (λ n. c.in_err-check.ensures)

pub key_place_in-requires : goal.key_place_in-requires
key_place_in-requires c = c.in_ok-check.ensures.answer.1
