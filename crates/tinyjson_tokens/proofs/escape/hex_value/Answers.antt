use Rattle.tinyjson_tokens.proofs.Reading.Escape.{hex_of_bits}
use Rattle.tinyjson_tokens.proofs.escape.hex_value.Goals as goal

pub returns : goal.returns
returns c = hex_of_bits c.args.byte c.ranges.byte.fits c.if-not-is_digit-is_letter.false
