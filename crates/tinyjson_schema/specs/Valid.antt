-- Which values a schema accepts.
use Rattle.std.specs.Prelude.{◌≡◌, ℕ, zero, suc, Bool, true, false, not, ◌&&◌, List, [], ◌∷◌, ◌++◌, Option, Some, None, IsSome, is_some}
use Rattle.std.specs.Prelude.{Result, Ok, Err}
use Rattle.std.specs.Option.{option_map_or}
use Rattle.tinyjson.specs.Index.{tree_at_key}
use Rattle.tinyjson.specs.Tree.{Tree, boolean, Members, find}
use Rattle.tinyjson.specs.View.{view}
use Rattle.tinyjson_pointer.specs.Index.{index_of}
use Rattle.tinyjson_pointer.specs.Tokens.{tokens_of}
use Rattle.tinyjson_pointer.specs.Walk.{step, part_at, item_of}
use Rattle.text_iregexp.specs.PatternDeciding.{is_found}
use Rattle.tinyjson_schema_keywords.specs.Applied.{schema_at, schemas_at, schema_map_at, branch, members_in}
use Rattle.tinyjson_schema_keywords.specs.Names.{name}
use Rattle.tinyjson_schema_keywords.specs.References.{referenced}
use Rattle.tinyjson_schema_keywords.specs.declared.keyword.Keyword.{Keyword}
use Rattle.tinyjson_schema_keywords.specs.declared.keyword.Keyword.TheVariants as kw
use Rattle.tinyjson_schema.specs.Deep.{IsDeep, IsDeepFound}
use Rattle.tinyjson_schema.specs.declared.walk.CheckError.{CheckError}
use Rattle.tinyjson_schema.specs.Applicators.{Judge, applies, apply_all, tests, demands, parts_accepted, found_pass}
use Rattle.tinyjson_schema.specs.Evaluated.{Answers, Child, IsChild, value_of, rest_keyword, others_evaluate, evaluates_by, rest_accepted}
use Rattle.tinyjson_schema_assertions.specs.Assertions.{meets_all, assertions, IsUnmet}
use Rattle.tinyjson_schema.specs.Nested.{is_reference, Nests, IfDeep}
use Rattle.tinyjson_schema.specs.Parts.{part_schema}
use Rattle.tinyjson_schema.specs.declared.violation.Violation.{Violation}
use Rattle.tinyjson_schema.specs.declared.walk.Walk.{Walk}

-- A root schema, and whether `format` is an assertion in it (Validation, 7.2).
pub record Root : Type 0 where
  pub tree : Tree
  pub formats : Bool

-- `format` asserts nothing
abbrev pub plain : Tree → Root
plain s = record { tree = s; formats = false }

-- the schema `false` (Core, 4.3.2)
abbrev pub refuses_all : Tree → Bool
refuses_all (boolean accepts) = not accepts
refuses_all _ = false

-- the schemas to which `$ref` and `$dynamicRef` lead accept the value; their siblings count too (Core, 8.2.3)
abbrev pub target_accepts : Tree → Keyword → Judge → Tree → Tree → Bool
target_accepts root k f s t = option_map_or (λ r. f r t) (referenced root k s) true

abbrev pub reference_accepts : Tree → Judge → Tree → Tree → Bool
reference_accepts root f s t = target_accepts root kw.Ref f s t && target_accepts root kw.DynamicRef f s t

-- The schema s accepts the tree t, given the results a of the schemas that s applies, in s or elsewhere in the root
-- schema. So t meets the assertions and the applicators, the schema for each part accepts it, and so does the one
-- for what is not evaluated.
abbrev pub accepts_by : Root → Answers → Judge
accepts_by root a s t = not (refuses_all s) && (meets_all (assertions root.formats) s t && (apply_all a.accepts tests s t
    && (apply_all a.accepts demands s t && (reference_accepts root.tree a.accepts s t && (parts_accepted a.accepts s t
    && rest_accepted root.tree a s t)))))

abbrev pub by_rules : Root → Answers → Answers
by_rules root a = record { accepts = accepts_by root a; evaluates = evaluates_by root.tree a }

-- The results of the schemas in the root schema by the rules of all keywords, with up to this many nested schemas;
-- g has the results for those nested deeper.
abbrev pub answers : Root → ℕ → Answers → Answers
answers root zero g = g
answers root (suc n) g = by_rules root (answers root n g)

abbrev pub judge : Root → ℕ → Answers → Judge
judge root n g = (answers root n g).accepts

-- The tree t is valid against the root schema: at some depth the rules of the keywords yield it, whatever the results
-- of schemas nested deeper are. So no schema that matters is left out, and references are followed to any depth.
abbrev pub IsValidIn : Root → Tree → Type 0
IsValidIn root t = (n : ℕ) × ((g : Answers) → judge root n g root.tree t ≡ true)

-- the same where `format` asserts nothing
abbrev pub IsValid : Tree → Tree → Type 0
IsValid s = IsValidIn (plain s)

-- The results of all schemas for all values meet the rules of the keywords.
pub record MeetsRules (root : Root) (a : Answers) : Type 0 where
  pub accepts : (s t : Tree) → a.accepts s t ≡ accepts_by root a s t
  pub evaluates : (s t : Tree) (c : Child) → a.evaluates s t c ≡ evaluates_by root.tree a s t c

-- The first tokens lead in the schema s to the schema `false` or to a keyword, which the part of t does not meet to
-- which the other tokens lead. After a reference the tokens go on in the schema to which it leads (Core, 12.3.2).
pub data IsInvalidAt : Root → ℕ → Tree → Tree → List (List ℕ) → List (List ℕ) → Type 0 where
  refused : {root : Root} {s t : Tree} {n : ℕ} → refuses_all s ≡ true → IsInvalidAt root (suc n) s t [] []
  unmet : {root : Root} {s t : Tree} {n : ℕ} (k : Keyword) → IsUnmet root.formats s t (Some k)
      → IsInvalidAt root (suc n) s t (name k ∷ []) []
  not_applied : {root : Root} {s t : Tree} {n : ℕ} (k : Keyword) → ((g : Answers) → applies (judge root n g) k s t ≡ false)
      → IsInvalidAt root (suc n) s t (name k ∷ []) []
  in_all_of : {root : Root} {s t r : Tree} {n : ℕ} {k : List ℕ} {ks js : List (List ℕ)}
      → item_of (schemas_at s kw.AllOf) (index_of k) ≡ Some r
      → IsInvalidAt root n r t ks js → IsInvalidAt root (suc n) s t (name kw.AllOf ∷ k ∷ ks) js
  in_branch : {root : Root} {s t c r : Tree} {b : Bool} {n : ℕ} {ks js : List (List ℕ)} → schema_at s kw.If ≡ Some c
      → ((g : Answers) → judge root n g c t ≡ b) → schema_at s (branch b) ≡ Some r → IsInvalidAt root n r t ks js
      → IsInvalidAt root (suc n) s t (name (branch b) ∷ ks) js
  in_dependent : {root : Root} {s t r : Tree} {n : ℕ} {k : List ℕ} {ks js : List (List ℕ)} → is_some (tree_at_key t k) ≡ true
      → find k (schema_map_at s kw.DependentSchemas) ≡ Some r → IsInvalidAt root n r t ks js
      → IsInvalidAt root (suc n) s t (name kw.DependentSchemas ∷ k ∷ ks) js
  in_patterned : {root : Root} {s t r u : Tree} {n : ℕ} {p k : List ℕ} {ks js : List (List ℕ)}
      → find p (schema_map_at s kw.PatternProperties) ≡ Some r → is_found p k ≡ true → find k (members_in t) ≡ Some u
      → IsInvalidAt root n r u ks js → IsInvalidAt root (suc n) s t (name kw.PatternProperties ∷ p ∷ ks) (k ∷ js)
  in_reference : {root : Root} {s t r : Tree} {n : ℕ} {ks js : List (List ℕ)} (k : Keyword) → is_reference k ≡ true
      → referenced root.tree k s ≡ Some r → IsInvalidAt root n r t ks js → IsInvalidAt root (suc n) s t (name k ∷ ks) js
  in_part : {root : Root} {s t r u : Tree} {n : ℕ} {k : List ℕ} {ks js : List (List ℕ)} (ls : List (List ℕ)) → part_schema s t k ≡ Some r
      → step t k ≡ Some u → part_at s ls ≡ Some r → IsInvalidAt root n r u ks js → IsInvalidAt root (suc n) s t (ls ++ ks) (k ∷ js)
  in_rest : {root : Root} {s t r : Tree} {n : ℕ} {k : List ℕ} {ks js : List (List ℕ)} (c : Child) → schema_at s (rest_keyword c) ≡ Some r
      → IsChild t k c → ((g : Answers) → others_evaluate root.tree (answers root n g) s t c ≡ false)
      → IsInvalidAt root n r (value_of c) ks js → IsInvalidAt root (suc n) s t (name (rest_keyword c) ∷ ks) (k ∷ js)

-- The error is `TooDeep` only if more than n schemas are applied one within the other, from the root schema and t on.
abbrev pub IsBeyond : ℕ → Root → Tree → CheckError → Type 0
IsBeyond n root t e = IfDeep e (Nests root.tree n root.tree t)

-- No violation, and the root schema accepts t; or a violation, and it does not.
abbrev pub ValidatesIn : ℕ → Root → Tree → Result (Option Violation) CheckError → Type 0
ValidatesIn n root t (Ok None) = IsValidIn root t
ValidatesIn n root t (Ok (Some v)) =
    IsInvalidAt root n root.tree t (tokens_of v.keyword_location) (tokens_of v.instance_location)
    × IsSome (part_at t (tokens_of v.instance_location)) × ¬ IsValidIn root t
ValidatesIn n root t (Err e) = IsBeyond n root t e

-- the same where `format` asserts nothing
abbrev pub Validates : ℕ → Tree → Tree → Result (Option Violation) CheckError → Type 0
Validates n s = ValidatesIn n (plain s)

-- Any results that meet the rules of the keywords agree.
abbrev pub AgreesIn : Root → Tree → Option Violation → Type 0
AgreesIn root t o = (a : Answers) → MeetsRules root a → a.accepts root.tree t ≡ not (is_some o)

-- the same where `format` asserts nothing
abbrev pub Agrees : Tree → Tree → Option Violation → Type 0
Agrees s = AgreesIn (plain s)

-- ---- for private contracts

-- the root schema of a walk
abbrev pub root_of : Walk → Root
root_of w = record { tree = view w.ground.now.whole.now.root.now; formats = w.ground.now.formats }

-- the results of schemas in a walk; g has those beyond its steps
abbrev pub answers_in : Walk → Answers → Answers
answers_in w g = answers (root_of w) w.steps g

abbrev pub says : Walk → Answers → Judge
says w g = judge (root_of w) w.steps g

-- x is what q yields of the results of schemas in the walk, whatever the results beyond its steps are.
abbrev pub Follows : {X : Type 0} → Walk → X → (Judge → X) → Type 0
Follows w x q = (g : Answers) → x ≡ q (says w g)

-- No violation, and s accepts t, within this many steps; or a violation, and s does not.
abbrev pub Decides : Root → ℕ → Tree → Tree → Result (Option Violation) CheckError → Type 0
Decides root n s t (Ok None) = (g : Answers) → judge root n g s t ≡ true
Decides root n s t (Ok (Some v)) = IsInvalidAt root n s t (tokens_of v.keyword_location) (tokens_of v.instance_location)
Decides root n s t (Err e) = IfDeep e (Nests root.tree n s t)

abbrev pub Judges : Walk → Tree → Tree → Result (Option Violation) CheckError → Type 0
Judges w = Decides (root_of w) w.steps

-- No violation, and what was asked of t is true; or a violation of s by t, within the walk.
abbrev pub Finds : Walk → (Judge → Bool) → Tree → Tree → Result (Option Violation) CheckError → Type 0
Finds w q s t (Ok None) = (g : Answers) → q (says w g) ≡ true
Finds w q s t (Ok (Some v)) = IsInvalidAt (root_of w) (suc w.steps) s t (tokens_of v.keyword_location)
    (tokens_of v.instance_location)
Finds w q s t (Err e) = IsDeep w s t e

-- No violation, and what the other keywords of s leave is accepted; or a violation.
abbrev pub FindsRest : Walk → Tree → Tree → Result (Option Violation) CheckError → Type 0
FindsRest w s t (Ok None) = (g : Answers) → rest_accepted (view w.ground.now.whole.now.root.now) (answers_in w g) s t ≡ true
FindsRest w s t (Ok (Some v)) = IsInvalidAt (root_of w) (suc w.steps) s t (tokens_of v.keyword_location)
    (tokens_of v.instance_location)
FindsRest w s t (Err e) = IsDeep w s t e

-- The place is in the member at the key k; the pattern p matches k, and the schema r does not accept the member.
pub record InFound (w : Walk) (p : List ℕ) (r : Tree) (ms : Members) (v : Violation) : Type 0 where
  pub key : List ℕ
  pub value : Tree
  pub rest : List (List ℕ)
  pub found : is_found p key ≡ true
  pub at : find key ms ≡ Some value
  pub placed : tokens_of v.instance_location ≡ key ∷ rest
  pub invalid : IsInvalidAt (root_of w) w.steps r value (tokens_of v.keyword_location) rest

-- No violation, and r accepts each member whose key p matches; or a violation by such a member.
abbrev pub FindsFound : Walk → List ℕ → Tree → Members → Result (Option Violation) CheckError → Type 0
FindsFound w p r ms (Ok None) = (g : Answers) → found_pass (says w g r) p ms ≡ true
FindsFound w p r ms (Ok (Some v)) = InFound w p r ms v
FindsFound w p r ms (Err e) = IsDeepFound w p r ms e

-- No keyword, and t meets all of these; or one that t violates.
abbrev pub IsUnapplied : Walk → List Keyword → Tree → Tree → Option Keyword → Type 0
IsUnapplied w ks s t None = (g : Answers) → apply_all (says w g) ks s t ≡ true
IsUnapplied w ks s t (Some k) = (g : Answers) → applies (says w g) k s t ≡ false
