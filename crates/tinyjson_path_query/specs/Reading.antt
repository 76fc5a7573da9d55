-- The result of parsing a query; all but `Reads` is for private contracts.
use Rattle.std.specs.Prelude.{◌≡◌, ◌≢◌, ℕ, ◌≤◌, List, ◌++◌, length, take, drop, Option, Some, None, option_map, Result, Ok, Err}
use Rattle.std.specs.Prelude.{String}
use Rattle.std.specs.Borrow.{Bor}
use Rattle.std.specs.declared.alloc.Global.{Global}
use Rattle.tinyjson.specs.Characters.{text}
use Rattle.tinyjson_path_query.specs.declared.error.ParseError.{ParseError}
use Rattle.tinyjson_path_query.specs.declared.error.ParseErrorKind.TheVariants.{OutOfMemory}
use Rattle.tinyjson_path_query.specs.declared.refusal.Refusal.{Refusal}
use Rattle.tinyjson_path_query.specs.declared.refusal.Cause.TheVariants as cause
use Rattle.tinyjson_path_query.specs.declared.query.Query.{Query}
use Rattle.tinyjson_path_query.specs.Forms.{Segment, Expression, nesting_limit, QuerySegment, IsQuery, AreSegmentsIn, IsExpression}
use Rattle.tinyjson_path_query.specs.Fronts.{query_front}
use Rattle.tinyjson_path_query.specs.Grammar.{QueryText, name_chars, number_chars}
use Rattle.tinyjson_path_query.specs.Refusing.{Says}

-- The text is this query and no other.
pub record IsReading (cs : List ℕ) (q : Query) : Type 0 where
  pub segments : List QuerySegment
  pub text : QueryText nesting_limit cs segments
  pub only : (ss : List QuerySegment) → QueryText nesting_limit cs ss → ss ≡ segments
  pub same : IsQuery segments q

-- The text is no query, or memory ran out. The place is within the text, and the kind is right for the text
-- before it and from there on.
pub record IsRefused (cs : List ℕ) (e : ParseError) : Type 0 where
  pub none : e.kind ≢ OutOfMemory → (ss : List QuerySegment) → QueryText nesting_limit cs ss → ⊥
  pub within : e.place ≤ length cs
  pub says : Says (take e.place cs) (drop e.place cs) e.kind

-- the result of parsing a text
abbrev pub Reads : List ℕ → Result Query ParseError → Type 0
Reads cs (Ok q) = IsReading cs q
Reads cs (Err e) = IsRefused cs e

-- the result of parsing the front of a text: o, unless memory ran out
abbrev pub Fronts : {U V : Type 0} → (V → U → Type 0) → Option (V × List ℕ) → Result (U × Bor (List ℕ)) Refusal → Type 0
Fronts {V = V} stands o (Ok r) = (v : V) × (o ≡ Some (v, r.1.now)) × stands v r.0
Fronts stands o (Err e) = e.cause ≢ cause.OutOfMemory → o ≡ None

-- the same for a value that is its own view
abbrev pub FrontsAs : {V : Type 0} → Option (V × List ℕ) → Result (V × Bor (List ℕ)) Refusal → Type 0
FrontsAs o (Ok r) = o ≡ Some (r.0, r.1.now)
FrontsAs o (Err e) = e.cause ≢ cause.OutOfMemory → o ≡ None

-- The characters of a name are appended, and the rest follows them.
pub record PushesName (old xs new left : List ℕ) : Type 0 where
  pub name : new ≡ old ++ (name_chars xs).0
  pub rest : left ≡ (name_chars xs).1

-- The characters of a number are appended, and the rest follows them.
pub record PushesNumber (old xs new left : List ℕ) : Type 0 where
  pub number : new ≡ old ++ (number_chars xs).0
  pub rest : left ≡ (number_chars xs).1

-- the code's value is o, and the rest follows it
abbrev pub FoundAs : {V : Type 0} → Option (V × List ℕ) → Option (V × Bor (List ℕ)) → Type 0
FoundAs o r = o ≡ option_map (λ p. (p.0, p.1.now)) r

-- the code's string has these characters
abbrev pub IsText : List ℕ → String Global → Type 0
IsText cs s = text s ≡ cs

-- the result of parsing a whole query
abbrev pub ReadsQuery : (n : ℕ) → List ℕ → Result Query Refusal → Type 0
ReadsQuery n xs (Ok q) = (ss : List (Segment (Expression n))) × (query_front n xs ≡ Some ss) × AreSegmentsIn (IsExpression n) ss q.segments
ReadsQuery n xs (Err e) = e.cause ≢ cause.OutOfMemory → query_front n xs ≡ None

-- the rest, if there is one
abbrev pub IsRest : Option (List ℕ) → Option (Bor (List ℕ)) → Type 0
IsRest o r = o ≡ option_map (λ b. b.now) r
