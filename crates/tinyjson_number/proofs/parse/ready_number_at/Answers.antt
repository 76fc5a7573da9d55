use Rattle.std.proofs.Common.{arith, ap, drop, length, length-append}
use Rattle.std.proofs.lemmas.List.{length-drop}
use Rattle.tinyjson_number.specs.Numeral.{Numeral, spelling}
use Rattle.tinyjson_number.proofs.Parts.{parts_numeral, spelling_room}
use Rattle.tinyjson_number.proofs.parse.ready_number_at.Goals as goal

pub padded-requires-clause-numeral : goal.padded-requires-clause-numeral
padded-requires-clause-numeral c =
    let x = c.in_ok-parts.ensures in
    parts_numeral x.0 c.in_ok-parts.parts x.1 x.2.grammatical.well_formed

pub padded-requires-clause-room : goal.padded-requires-clause-room
padded-requires-clause-room c =
    let x = c.in_ok-parts.ensures in
    omega (
      arith,
      ap (λ (n : Numeral). length n.integer) x.1,
      ap (λ (n : Numeral). length n.fraction) x.1,
      spelling_room x.0,
      ap length x.2.spelled,
      length-append (spelling x.0) (drop c.in_ok-parts.end c.args.bytes.now),
      length-drop c.args.at c.args.bytes.now,
    )

pub is_normal-requires : goal.is_normal-requires
is_normal-requires c =
    let x = c.in_ok-parts.ensures in
    parts_numeral x.0 c.in_ok-parts.parts x.1 x.2.grammatical.well_formed
