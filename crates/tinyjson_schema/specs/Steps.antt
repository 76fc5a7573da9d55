-- For private contracts: the schemas that are still to be applied, and lists of violations up to a limit.
use Rattle.std.specs.Prelude.{◌≡◌, ℕ, List, [], ◌∷◌, ◌++◌, cond, map, take, Option, Some, None}
use Rattle.std.specs.List.{AllByRecursion}
use Rattle.std.specs.Str.{chars}
use Rattle.tinyjson.specs.Tree.{Tree}
use Rattle.tinyjson.specs.View.{view}
use Rattle.tinyjson_schema_keywords.specs.declared.keyword.Keyword.{Keyword}
use Rattle.tinyjson_schema_keywords.specs.declared.keyword.Keyword.TheVariants as kw
use Rattle.tinyjson_schema.specs.Deep.{root_tree, DescendsIn}
use Rattle.tinyjson_schema.specs.Evaluated.{Answers}
use Rattle.tinyjson_schema.specs.Every.{Token, index, token, word, Spot, spot_of, here, at_keyword, Use, every}
use Rattle.tinyjson_schema.specs.Nested.{Applies}
use Rattle.tinyjson_schema.specs.Parts.{is_by_part}
use Rattle.tinyjson_schema.specs.Valid.{root_of}
use Rattle.tinyjson_schema.specs.declared.validate.pending.Pending.{Pending}
use Rattle.tinyjson_schema.specs.declared.validate.pending.Step.{Step}
use Rattle.tinyjson_schema.specs.declared.validate.pending.Step.TheVariants.{Schema, Listed, Keyed, Member, Patterned, Item}
use Rattle.tinyjson_schema.specs.declared.violation.Violation.{Violation}
use Rattle.tinyjson_schema.specs.declared.walk.Walk.{Walk}
use Rattle.tinyjson_view.specs.Views.{tree_of}

-- the place of a keyword, or of the schema
abbrev pub spot_at : Option Keyword → Spot
spot_at None = here
spot_at (Some k) = at_keyword k

abbrev pub place_of : Keyword → Token → List Token
place_of a k = word a ∷ cond (is_by_part a) (k ∷ []) []

-- the tokens of a step, in the schema and in the value
abbrev pub schema_tokens : Step → List Token
schema_tokens (Schema k) = word k ∷ []
schema_tokens (Listed k i) = word k ∷ index i ∷ []
schema_tokens (Keyed k l) = word k ∷ token (chars l.now) ∷ []
schema_tokens (Member a l) = place_of a (token (chars l.now))
schema_tokens (Patterned p l) = word kw.PatternProperties ∷ token (chars p.now) ∷ []
schema_tokens (Item a i) = place_of a (index i)

abbrev pub value_tokens : Step → List Token
value_tokens (Member a l) = token (chars l.now) ∷ []
value_tokens (Patterned p l) = token (chars l.now) ∷ []
value_tokens (Item a i) = index i ∷ []
value_tokens _ = []

abbrev pub use_of : Pending → Use
use_of p = record {
  in_schema = schema_tokens p.step;
  in_value = value_tokens p.step;
  schema = view p.schema.now;
  value = tree_of p.value;
}

abbrev pub stepped : Step → Spot → Spot
stepped p x = record { in_schema = schema_tokens p ++ x.in_schema; in_value = value_tokens p ++ x.in_value }

-- the place after the steps of a path, the innermost first
abbrev pub placed : List Step → Spot → Spot
placed [] x = x
placed (p ∷ ps) x = placed ps (stepped p x)

-- Up to the limit, the new violations are the old ones and those at the places xs.
abbrev pub AddsFirst : ℕ → List Spot → List Violation → List Violation → Type 0
AddsFirst limit xs old new = take limit (map spot_of new) ≡ take limit (map spot_of old ++ xs)

-- the same for all violations of the schema s by t, after the steps
abbrev pub AddsEvery : ℕ → Walk → List Step → Tree → Tree → List Violation → List Violation → Type 0
AddsEvery limit w ps s t old new = (g : Answers) → AddsFirst limit (map (placed ps) (every (root_of w) w.steps g s t)) old new

abbrev pub AddsUses : List Use → List Pending → List Pending → Type 0
AddsUses us old new = map use_of new ≡ map use_of old ++ us

-- the schema s applies each of these
abbrev pub AreApplied : Tree → Tree → Tree → List Use → Type 0
AreApplied root s t us = AllByRecursion (λ u. Applies root s t u.schema u.value) us

-- Too many are nested from one of these on.
abbrev pub DescendsUsing : Walk → List Use → Type 0
DescendsUsing w us = (s t : Tree) → AreApplied (root_tree w) s t us → DescendsIn w s t
