-- Literals and singular queries (RFC 9535, 2.3.5.1), and the code's values for them.
use Rattle.std.specs.Prelude.{◌≡◌, ℕ, Bool, List, String, ℤ}
use Rattle.std.specs.declared.alloc.Global.{Global}
use Rattle.tinyjson.specs.Characters.{text}
use Rattle.tinyjson.specs.Number.{Decimal, JsonNumber}
use Rattle.tinyjson_path_query.specs.declared.query.Literal.{Literal as CodeLiteral}
use Rattle.tinyjson_path_query.specs.declared.query.Literal.TheVariants as is
use Rattle.tinyjson_path_query.specs.declared.query.SingularSegment.{SingularSegment as CodeSegment}
use Rattle.tinyjson_path_query.specs.declared.query.SingularSegment.TheVariants as does

-- a number is its exact decimal
pub data Literal : Type 0 where
  null : Literal
  boolean : Bool → Literal
  number : Decimal → Literal
  string : (characters : List ℕ) → Literal

pub data SingularSegment : Type 0 where
  name : (characters : List ℕ) → SingularSegment
  index : ℤ → SingularSegment

-- the code's literal agrees
abbrev pub IsLiteral : Literal → CodeLiteral → Type 0
IsLiteral null x = x ≡ is.Null
IsLiteral (boolean b) x = x ≡ is.Boolean b
IsLiteral (number d) x = (n : JsonNumber) × (x ≡ is.Number n) × (n.decimal ≡ d)
IsLiteral (string cs) x = (s : String Global) × (x ≡ is.String s) × (text s ≡ cs)

-- the code's segment agrees
abbrev pub IsSingularSegment : SingularSegment → CodeSegment → Type 0
IsSingularSegment (name cs) x = (s : String Global) × (x ≡ does.Name s) × (text s ≡ cs)
IsSingularSegment (index i) x = x ≡ does.Index i
