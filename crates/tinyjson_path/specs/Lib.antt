-- for public contracts
pub mod Nodes
pub mod Slices
pub mod Selecting
pub mod Comparing
pub mod Patterns
pub mod Queries
pub mod Strings
pub mod Paths
pub mod Limits
pub mod Selections
pub mod Asking
-- also for public contracts: the words for a query's text, from `tinyjson_path_query`, so that callers name one
-- crate
pub use Rattle.tinyjson_path_query.specs.Forms
pub use Rattle.tinyjson_path_query.specs.Grammar
pub use Rattle.tinyjson_path_query.specs.Message
pub use Rattle.tinyjson_path_query.specs.Reading
pub use Rattle.tinyjson_path_query.specs.Refusing
pub use Rattle.tinyjson_path_query.specs.declared.error.ParseError
pub use Rattle.tinyjson_path_query.specs.declared.error.ParseErrorKind
pub use Rattle.tinyjson_path_query.specs.declared.query.Query
-- and the trees of values, from `tinyjson_view`
pub use Rattle.tinyjson_view.specs.Views
-- for private contracts
pub mod Answers
pub mod Seen
pub mod Waiting
