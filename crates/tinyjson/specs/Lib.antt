-- what public contracts use
pub mod View
pub mod Equality
pub mod Access
pub mod Convert
pub mod Index
pub mod Number
pub mod Error
pub mod Parser
pub mod Events
pub mod Generator
-- what they use of texts and trees, by the names of the crate `tinyjson_grammar`, so that callers name one crate
pub use Rattle.tinyjson_grammar.specs.Tree
pub use Rattle.tinyjson_grammar.specs.Kind
pub use Rattle.tinyjson_grammar.specs.Soundness
pub use Rattle.tinyjson_grammar.specs.Characters
pub use Rattle.tinyjson_grammar.specs.Syntax
pub use Rattle.tinyjson_grammar.specs.Grammar
pub use Rattle.tinyjson_grammar.specs.Prefix
pub use Rattle.tinyjson_grammar.specs.Refusal
pub use Rattle.tinyjson_grammar.specs.Position
pub use Rattle.tinyjson_grammar.specs.Text
pub use Rattle.tinyjson_grammar.specs.declared.kind.JsonKind
pub use Rattle.tinyjson_grammar.specs.declared.error.JsonParseErrorKind
-- the parts of a number's text, by the names of the crate `tinyjson_number`
pub use Rattle.tinyjson_number.specs.Numeral
-- what they use of a writer, and of an indent
pub use Rattle.tinyjson_output.specs.Written
pub use Rattle.tinyjson_output.specs.Indent
-- all of these that contracts of programs need most
pub mod Words
-- what private contracts alone use
pub mod private
