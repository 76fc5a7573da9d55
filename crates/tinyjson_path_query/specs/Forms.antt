-- Parsed queries (RFC 9535, 2.3 to 2.5), and the code's values for them. The expression of a filter has a
-- type E, which is given below.
use Rattle.std.specs.Prelude.{◌≡◌, ℕ, zero, suc, List, [], ◌∷◌, Option, String, Vec, ℤ}
use Rattle.std.specs.Box.{box_value}
use Rattle.std.specs.declared.boxed.Box.{Box}
use Rattle.std.specs.declared.alloc.Global.{Global}
use Rattle.tinyjson.specs.Characters.{text}
use Rattle.tinyjson_path_query.specs.declared.query.Query.{Query}
use Rattle.tinyjson_path_query.specs.declared.query.Comparable.{Comparable as CodeComparable}
use Rattle.tinyjson_path_query.specs.declared.query.Comparable.TheVariants as compared
use Rattle.tinyjson_path_query.specs.declared.query.ComparisonOperator.{ComparisonOperator}
use Rattle.tinyjson_path_query.specs.declared.query.FilterQuery.{FilterQuery}
use Rattle.tinyjson_path_query.specs.declared.query.FunctionExpression.{FunctionExpression as CodeFunction}
use Rattle.tinyjson_path_query.specs.declared.query.FunctionExpression.TheVariants as calls
use Rattle.tinyjson_path_query.specs.declared.query.Literal.{Literal as CodeLiteral}
use Rattle.tinyjson_path_query.specs.declared.query.Origin.{Origin}
use Rattle.tinyjson_path_query.specs.declared.query.PatternFunction.{PatternFunction}
use Rattle.tinyjson_path_query.specs.declared.query.Expression.{Expression as CodeExpression}
use Rattle.tinyjson_path_query.specs.declared.query.Segment.{Segment as CodeSegment}
use Rattle.tinyjson_path_query.specs.declared.query.Selector.{Selector as CodeSelector}
use Rattle.tinyjson_path_query.specs.declared.query.Expression.TheVariants as says
use Rattle.tinyjson_path_query.specs.declared.query.Selector.TheVariants as is
use Rattle.tinyjson_path_query.specs.declared.query.Segment.TheVariants as does
use Rattle.tinyjson_path_query.specs.declared.query.SingularSegment.{SingularSegment as CodeSingularSegment}
use Rattle.tinyjson_path_query.specs.Values.{Literal, SingularSegment, IsLiteral, IsSingularSegment}

-- a name, all children, an index, or a slice
pub data PlainSelector : Type 0 where
  name : (characters : List ℕ) → PlainSelector
  wildcard : PlainSelector
  index : ℤ → PlainSelector
  slice : (start end step : Option ℤ) → PlainSelector

-- such a selector, or a filter with its expression
pub data Selector (E : Type 0) : Type 0 where
  plain : PlainSelector → Selector E
  filter : E → Selector E

-- selectors for the children of a node, or for those of its descendants too
pub data Segment (E : Type 0) : Type 0 where
  child : List (Selector E) → Segment E
  descendant : List (Selector E) → Segment E

-- An operand of `!`: an expression in parentheses, a test that a query selects a node, or `match` or `search`
-- of a value and a pattern. C are the function arguments.
pub data Operand (E C : Type 0) : Type 0 where
  parenthesized : E → Operand E C
  test : Origin → List (Segment E) → Operand E C
  pattern : PatternFunction → (value pattern : C) → Operand E C

-- a function of a value, or of the nodes of a query (2.4), that returns a value
pub data Function (E C : Type 0) : Type 0 where
  length : C → Function E C
  count : Origin → List (Segment E) → Function E C
  value : Origin → List (Segment E) → Function E C

-- an operand of a comparison
pub data Comparable (E C : Type 0) : Type 0 where
  literal : Literal → Comparable E C
  singular : Origin → List SingularSegment → Comparable E C
  function : Function E C → Comparable E C

-- an operand of `&&`
pub data Basic (E C : Type 0) : Type 0 where
  affirmed : Operand E C → Basic E C
  negated : Operand E C → Basic E C
  comparison : ComparisonOperator → (left right : Comparable E C) → Basic E C

-- the operands of `||`, each a list of operands of `&&`
abbrev pub Disjunction : Type 0 → Type 0 → Type 0
Disjunction E C = List (List (Basic E C))

-- logical expressions and function arguments, of which fewer than n are nested
abbrev mutual
  pub Expression : ℕ → Type 0
  Expression zero = ⊥
  Expression (suc n) = Disjunction (Expression n) (Argument n)

  pub Argument : ℕ → Type 0
  Argument zero = ⊥
  Argument (suc n) = Comparable (Expression n) (Argument n)

-- ---- the code's values

-- the two lists agree one by one
abbrev pub Each : {V U : Type 0} → (V → U → Type 0) → List V → List U → Type 0
Each Is [] [] = Unit {0}
Each Is [] (x ∷ xs) = ⊥
Each Is (v ∷ vs) [] = ⊥
Each Is (v ∷ vs) (x ∷ xs) = Is v x × Each Is vs xs

-- the code's selector agrees
abbrev pub IsPlain : PlainSelector → CodeSelector → Type 0
IsPlain (name cs) x = (s : String Global) × (x ≡ is.Name s) × (text s ≡ cs)
IsPlain wildcard x = x ≡ is.Wildcard
IsPlain (index i) x = x ≡ is.Index i
IsPlain (slice start end step) x = x ≡ is.Slice start end step

-- the code's selector agrees
abbrev pub IsSelector : {E : Type 0} → (E → CodeExpression → Type 0) → Selector E → CodeSelector → Type 0
IsSelector Is (plain v) x = IsPlain v x
IsSelector Is (filter e) x = (y : CodeExpression) × (x ≡ is.Filter y) × Is e y

-- a vector of the code's selectors
abbrev pub AreSelectorsIn : {E : Type 0} → (E → CodeExpression → Type 0) → List (Selector E) → Vec CodeSelector Global → Type 0
AreSelectorsIn Is vs v = Each (IsSelector Is) vs v.items

-- the code's segment agrees
abbrev pub IsSegment : {E : Type 0} → (E → CodeExpression → Type 0) → Segment E → CodeSegment → Type 0
IsSegment Is (child vs) x = (v : Vec CodeSelector Global) × (x ≡ does.Child v) × AreSelectorsIn Is vs v
IsSegment Is (descendant vs) x = (v : Vec CodeSelector Global) × (x ≡ does.Descendant v) × AreSelectorsIn Is vs v

-- a vector of the code's segments
abbrev pub AreSegmentsIn : {E : Type 0} → (E → CodeExpression → Type 0) → List (Segment E) → Vec CodeSegment Global → Type 0
AreSegmentsIn Is ss v = Each (IsSegment Is) ss v.items

-- the code's expression agrees with that operand
abbrev pub IsOperand : {E C : Type 0} → (E → CodeExpression → Type 0) → (C → CodeComparable → Type 0) → Operand E C → CodeExpression
    → Type 0
IsOperand Is In (parenthesized e) x = Is e x
IsOperand Is In (test o ss) x =
    (v : Vec CodeSegment Global) × (x ≡ says.Test (record { origin = o; segments = v })) × AreSegmentsIn Is ss v
IsOperand Is In (pattern f v p) x =
    (a b : Box CodeComparable Global) × (x ≡ says.Pattern f a b) × In v (box_value a) × In p (box_value b)

-- a vector of the code's segments with one selector
abbrev pub AreSingularSegmentsIn : List SingularSegment → Vec CodeSingularSegment Global → Type 0
AreSingularSegmentsIn ss v = Each IsSingularSegment ss v.items

-- the code's query in a filter agrees
abbrev pub IsFilterQuery : {E : Type 0} → (E → CodeExpression → Type 0) → Origin × List (Segment E) → FilterQuery → Type 0
IsFilterQuery Is q x = (v : Vec CodeSegment Global) × (x ≡ record { origin = q.0; segments = v }) × AreSegmentsIn Is q.1 v

-- the code's function agrees
abbrev pub IsFunction : {E C : Type 0} → (E → CodeExpression → Type 0) → (C → CodeComparable → Type 0) → Function E C
    → CodeFunction → Type 0
IsFunction Is In (length c) x = (b : Box CodeComparable Global) × (x ≡ calls.Length b) × In c (box_value b)
IsFunction Is In (count o ss) x = (q : FilterQuery) × (x ≡ calls.Count q) × IsFilterQuery Is (o, ss) q
IsFunction Is In (value o ss) x = (q : FilterQuery) × (x ≡ calls.Value q) × IsFilterQuery Is (o, ss) q

-- the code's operand agrees
abbrev pub IsComparable : {E C : Type 0} → (E → CodeExpression → Type 0) → (C → CodeComparable → Type 0) → Comparable E C → CodeComparable
    → Type 0
IsComparable Is In (literal l) x = (y : CodeLiteral) × (x ≡ compared.Literal y) × IsLiteral l y
IsComparable Is In (singular o ss) x =
    (v : Vec CodeSingularSegment Global) × (x ≡ compared.SingularQuery (record { origin = o; segments = v }))
    × AreSingularSegmentsIn ss v
IsComparable Is In (function f) x = (y : CodeFunction) × (x ≡ compared.Function y) × IsFunction Is In f y

-- the code's expression agrees
abbrev pub IsBasic : {E C : Type 0} → (E → CodeExpression → Type 0) → (C → CodeComparable → Type 0) → Basic E C → CodeExpression → Type 0
IsBasic Is In (affirmed o) x = IsOperand Is In o x
IsBasic Is In (negated o) x = (b : Box CodeExpression Global) × (x ≡ says.Not b) × IsOperand Is In o (box_value b)
IsBasic Is In (comparison op l r) x =
    (a b : Box CodeComparable Global) × (x ≡ says.Comparison op a b) × IsComparable Is In l (box_value a)
    × IsComparable Is In r (box_value b)

-- the code's expression is the conjunction of these
abbrev pub IsConjunction : {E C : Type 0} → (E → CodeExpression → Type 0) → (C → CodeComparable → Type 0) → List (Basic E C)
    → CodeExpression → Type 0
IsConjunction Is In bs x = (v : Vec CodeExpression Global) × (x ≡ says.And v) × Each (IsBasic Is In) bs v.items

-- the code's expression is the disjunction of these
abbrev pub IsDisjunction : {E C : Type 0} → (E → CodeExpression → Type 0) → (C → CodeComparable → Type 0) → Disjunction E C
    → CodeExpression → Type 0
IsDisjunction Is In cs x = (v : Vec CodeExpression Global) × (x ≡ says.Or v) × Each (IsConjunction Is In) cs v.items

-- the code's expression agrees, with the function arguments in it
abbrev mutual
  pub IsExpression : (n : ℕ) → Expression n → CodeExpression → Type 0
  IsExpression zero e x = ⊥
  IsExpression (suc n) e x = IsDisjunction (IsExpression n) (IsArgument n) e x

  pub IsArgument : (n : ℕ) → Argument n → CodeComparable → Type 0
  IsArgument zero c x = ⊥
  IsArgument (suc n) c x = IsComparable (IsExpression n) (IsArgument n) c x

-- ---- queries

-- how many logical expressions may be nested
abbrev pub nesting_limit : ℕ
nesting_limit = 64

-- a whole query
abbrev pub QuerySegment : Type 0
QuerySegment = Segment (Expression nesting_limit)

-- the code's query has these segments
abbrev pub IsQuery : List QuerySegment → Query → Type 0
IsQuery ss q = AreSegmentsIn (IsExpression nesting_limit) ss q.segments

-- a vector with one selector
abbrev pub IsOneSelector : PlainSelector → Vec CodeSelector Global → Type 0
IsOneSelector v x = (y : CodeSelector) × (x.items ≡ y ∷ []) × IsPlain v y
