-- The variant of a tree, and its name.
use Rattle.std.specs.Prelude.{ℕ, List, codes}
use Rattle.tinyjson_grammar.specs.Tree.{Tree, null, boolean, number, string, array, object}
use Rattle.tinyjson_grammar.specs.declared.kind.JsonKind.{JsonKind}
use Rattle.tinyjson_grammar.specs.declared.kind.JsonKind.TheVariants as kind

abbrev pub kind_of : Tree → JsonKind
kind_of null = kind.Null
kind_of (boolean b) = kind.Boolean
kind_of (number n) = kind.Number
kind_of (string s) = kind.String
kind_of (array ts) = kind.Array
kind_of (object ms) = kind.Object

abbrev pub kind_name : JsonKind → List ℕ
kind_name kind.Null = codes "null"
kind_name kind.Boolean = codes "boolean"
kind_name kind.Number = codes "number"
kind_name kind.String = codes "string"
kind_name kind.Array = codes "array"
kind_name kind.Object = codes "object"
