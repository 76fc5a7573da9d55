-- The schemas that evaluate members and items, for one that asks; for private contracts.
use Rattle.std.specs.Prelude.{◌≡◌, ◌∷◌, ◌≤◌, [], ℕ, suc, Bool, true, false, not, ◌&&◌, ◌||◌, List, Option, Some, None, is_some}
use Rattle.std.specs.Prelude.{Result, Ok, Err}
use Rattle.tinyjson.specs.Index.{nth}
use Rattle.tinyjson.specs.Tree.{Tree, Items}
use Rattle.tinyjson.specs.View.{view}
use Rattle.tinyjson_schema_keywords.specs.Applied.{schema_at, items_in}
use Rattle.tinyjson_schema_keywords.specs.Names.{name}
use Rattle.tinyjson_schema_keywords.specs.declared.keyword.Keyword.{Keyword}
use Rattle.tinyjson_schema.specs.declared.walk.CheckError.{CheckError}
use Rattle.tinyjson_schema.specs.Deep.{root_tree, DescendsIn}
use Rattle.tinyjson_schema.specs.Evaluated.{Child, IsChild, value_of, Answers, rest_keyword, applies_to, children_pass}
use Rattle.tinyjson_schema.specs.Nested.{IfDeep, Nests}
use Rattle.tinyjson_schema.specs.Places.{IsAt}
use Rattle.tinyjson_schema.specs.Valid.{answers_in, root_of, says, IsInvalidAt}
use Rattle.tinyjson_schema.specs.declared.validate.unevaluated.Source.{Source}
use Rattle.tinyjson_schema.specs.declared.violation.Violation.{Violation}
use Rattle.tinyjson_schema.specs.declared.walk.Walk.{Walk}

-- A keyword of the schema evaluates the child. The keyword for the rest counts except in the schema that asks.
abbrev pub source_evaluates : Answers → Source → Child → Bool
source_evaluates g x c = (not x.asks && is_some (schema_at (view x.applied.schema.now) (rest_keyword c)))
    || applies_to (says x.walk g) (view x.applied.schema.now) c

abbrev pub sources_evaluate : Answers → List Source → Child → Bool
sources_evaluate g [] c = false
sources_evaluate g (x ∷ xs) c = source_evaluates g x c || sources_evaluate g xs c

-- no walk in them has more steps
abbrev pub AreWithin : ℕ → List Source → Type 0
AreWithin n [] = Unit {0}
AreWithin n (x ∷ xs) = (x.walk.steps ≤ n) × AreWithin n xs

-- They evaluate what they did before, and what q yields of the results of schemas in the walk.
abbrev pub Adds : Walk → (Answers → Child → Bool) → List Source → List Source → Type 0
Adds w q old new = (g : Answers) (c : Child) → sources_evaluate g new c ≡ (sources_evaluate g old c || q (answers_in w g) c)

abbrev pub StaysWithin : Walk → List Source → List Source → Type 0
StaysWithin w old new = (n : ℕ) → w.steps ≤ n → AreWithin n old → AreWithin n new

-- More than n schemas are nested from s to t on, if too many are from one of the sources on.
abbrev pub AreReached : Tree → ℕ → Tree → Tree → List Source → Type 0
AreReached root n s t [] = Unit {0}
AreReached root n s t (x ∷ xs) = (DescendsIn x.walk (view x.applied.schema.now) t → Nests root n s t) × AreReached root n s t xs

-- It remains so, if it is so of what P says.
abbrev pub StaysReached : Type 0 → Tree → List Source → List Source → Type 0
StaysReached P t old new = (root s : Tree) (n : ℕ) → (P → Nests root n s t) → AreReached root n s t old → AreReached root n s t new

-- Too many are nested from the source on, or from one of them, as `contains` applies its schema to the item.
abbrev pub DescendsFromOne : Source → ℕ → Tree → Type 0
DescendsFromOne x i u = (t : Tree) → nth (items_in t) i ≡ Some u → DescendsIn x.walk (view x.applied.schema.now) t

abbrev pub DescendsFromItems : List Source → Items → Type 0
DescendsFromItems xs us = (root s t : Tree) (n : ℕ) → items_in t ≡ us → AreReached root n s t xs → Nests root n s t

abbrev pub DescendsFrom : List Source → ℕ → Tree → Type 0
DescendsFrom xs i u = (root s t : Tree) (n : ℕ) → nth (items_in t) i ≡ Some u → AreReached root n s t xs → Nests root n s t

-- The place is in a child that the sources do not evaluate, and the schema r at the keyword a does not accept the
-- child.
pub record InRest (w : Walk) (a : Keyword) (xs : List Source) (r t : Tree) (v : Violation) : Type 0 where
  pub child : Child
  pub token : List ℕ
  pub location : List (List ℕ)
  pub within : List (List ℕ)
  pub keyword : rest_keyword child ≡ a
  pub named : IsChild t token child
  pub left : (g : Answers) → sources_evaluate g xs child ≡ false
  pub placed : IsAt (name a ∷ location) (token ∷ within) v
  pub invalid : IsInvalidAt (root_of w) w.steps r (value_of child) location within

-- No violation, and r accepts each child that the sources do not evaluate; or a violation by such a child.
abbrev pub FindsLeft : Walk → Keyword → List Source → Tree → Tree → Result (Option Violation) CheckError → Type 0
FindsLeft w a xs r t (Ok None) = (g : Answers) → children_pass (λ c. sources_evaluate g xs c || says w g r (value_of c)) t ≡ true
FindsLeft w a xs r t (Ok (Some v)) = InRest w a xs r t v
FindsLeft w a xs r t (Err e) = IfDeep e ((s : Tree) → schema_at s a ≡ Some r
    → AreReached (root_tree w) (suc w.steps) s t xs → DescendsIn w s t)
