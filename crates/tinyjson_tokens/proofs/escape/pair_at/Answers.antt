use Rattle.std.proofs.Common.{rules, ◌≡◌, true, refl}
use Rattle.tinyjson_grammar.specs.Characters.{is_low}
use Rattle.tinyjson_tokens.proofs.Reading.Escape.{pair_escape}
use Rattle.tinyjson_tokens.proofs.escape.pair_at.Goals as goal

pub returns : goal.returns
returns c =
    let low : is_low c.in_ok-low.low ≡ true = search rules in
    rw c.pair.ensures (pair_escape c.args.bytes.now c.args.at _ c.args.high c.in_ok-low.low c.requires.unit c.in_ok-low.ensures refl
    c.requires.high low)
