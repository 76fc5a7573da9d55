-- The words that contracts of programs need most, in one place.
pub use Rattle.std.specs.Str.{chars}
pub use Rattle.tinyjson.specs.Index.{tree_at, tree_at_key, with_tree_at, with_tree_at_key}
pub use Rattle.tinyjson.specs.Number.{integer_decimal}
pub use Rattle.tinyjson.specs.Parser.{ParsesText}
pub use Rattle.tinyjson.specs.View.{view, text}
pub use Rattle.tinyjson_grammar.specs.Grammar.{IsText, IsAccepted}
pub use Rattle.tinyjson_grammar.specs.Text.{compact, indented}
pub use Rattle.tinyjson_grammar.specs.Tree.{Tree, null, boolean, number, string, array, object, find, put, remove}
pub use Rattle.tinyjson_output.specs.Written.{WritesText}
