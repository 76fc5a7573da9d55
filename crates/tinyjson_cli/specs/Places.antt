-- The places of a text, as its parser counts them.
use Rattle.tinyjson_cli.specs.declared.failure.Place.{Place}
use Rattle.tinyjson_grammar.specs.Position.{Position, position_at}
pub use Rattle.tinyjson_grammar.specs.Position.{advance}

abbrev pub place_of : Place → Position
place_of p = position_at p.line p.column
