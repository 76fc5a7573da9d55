-- Which values a schema document with several resources accepts: its schemas are applied in a dynamic scope (JSON
-- Schema 2020-12, Core, 7.1 and 8.2.3.2). All rules that do not follow references are those of `tinyjson_schema`.
use Rattle.std.specs.Prelude.{◌≡◌, ℕ, zero, suc, Bool, true, false, not, ◌&&◌, ◌||◌, List, [], ◌∷◌, Option, Some, None, cond, is_some}
use Rattle.std.specs.Prelude.{option_map, option_and_then, unwrap_or, encode_utf8_all}
use Rattle.std.specs.Option.{option_map_or, option_or}
use Rattle.std.specs.Str.{chars, is_utf8}
use Rattle.tinyjson.specs.Access.{is_string}
use Rattle.tinyjson.specs.Tree.{Tree, string}
use Rattle.tinyjson_pointer.specs.Text.{pointer_tokens}
use Rattle.tinyjson_pointer.specs.Walk.{step}
use Rattle.text_uri.specs.Resolving.{resolved}
use Rattle.tinyjson_schema_keywords.specs.Applied.{schema_at, schemas_at, schema_map_at}
use Rattle.tinyjson_schema_keywords.specs.Names.{name}
use Rattle.tinyjson_schema_keywords.specs.References.{percent_decoded, form_in, is_schema_form}
use Rattle.tinyjson_schema_keywords.specs.declared.keyword.Form.{Form}
use Rattle.tinyjson_schema_keywords.specs.declared.keyword.Form.TheVariants as form
use Rattle.tinyjson_schema_keywords.specs.declared.keyword.Keyword.{Keyword}
use Rattle.tinyjson_schema_keywords.specs.declared.keyword.Keyword.TheVariants as kw
use Rattle.tinyjson_schema_assertions.specs.Assertions.{meets_all, assertions}
use Rattle.tinyjson_schema_bundle.specs.Bundles.{Marked, Leads, marks_of, place_of, dynamic_place, with_name, base_in, is_dynamic}
use Rattle.tinyjson_schema_bundle.specs.Bundles.{first_place}
use Rattle.tinyjson_schema.specs.Applicators.{apply_all, tests, demands, parts_accepted}
use Rattle.tinyjson_schema.specs.Evaluated.{Answers, Child, value_of, rest_keyword, applies_to, some_evaluate, accepting_evaluate}
use Rattle.tinyjson_schema.specs.Evaluated.{branch_evaluates, dependents_evaluate, children_pass}
use Rattle.tinyjson_schema.specs.Valid.{refuses_all}

-- ---- the dynamic scope, and where references lead

-- A dynamic scope: the URIs of the schema resources that were entered, the innermost first.
abbrev pub Scope : Type 0
Scope = List (List ℕ)

-- the base URI is that of the innermost resource (9.1)
abbrev pub base : Scope → List ℕ
base [] = []
base (u ∷ c) = u

-- The scope of a subschema. One with an `$id` begins a resource, which is entered (8.2.1).
abbrev pub entered : Scope → Tree → Scope
entered c s = cond (option_map_or is_string (schema_at s kw.Id) false) (base_in (base c) s ∷ c) c

-- the place of the name in the outermost resource of the scope that has it by `$dynamicAnchor`
abbrev pub outermost : List Marked → Scope → List ℕ → Option (List ℕ)
outermost ms [] n = None
outermost ms (u ∷ c) n = option_or (outermost ms c n) (dynamic_place ms (with_name u n))

-- The place to which `$dynamicRef` leads by the name n of the resource u: that of the name, as for `$ref`. But if
-- the schema there has it by `$dynamicAnchor`, then that in the outermost resource which has it (8.2.3.2).
abbrev pub dynamic_in : List Marked → Scope → List ℕ → List ℕ → Option (List ℕ)
dynamic_in ms c u n = option_map_or (λ p. Some (unwrap_or (outermost ms c n) p)) (dynamic_place ms (with_name u n))
    (place_of ms (with_name u n))

-- where references lead in the scope, by the marks of the document
abbrev pub leads_in : List Marked → Scope → Leads
leads_in ms c = (place_of ms, (λ b. dynamic_in ms c), λ b p. p)

-- the place to which the reference leads, resolved against the base URI
abbrev pub led_to : List Marked → Scope → Bool → Tree → Option (List ℕ)
led_to ms c dynamic (string cs) = first_place (leads_in ms c) dynamic (base c) (resolved (base c) (encode_utf8_all cs))
led_to ms c dynamic _ = None

-- the base URI in what has the form, given the one around it
abbrev pub base_within : Form → List ℕ → Tree → List ℕ
base_within form.Schema b w = base_in b w
base_within _ b w = b

-- the schema to which the tokens lead, through keywords that hold schemas, with the base URI in it
abbrev pub located : Form → List ℕ → Tree → List (List ℕ) → Option (List ℕ × Tree)
located f b w [] = cond (is_schema_form f) (Some (base_in b w, w)) None
located f b w (k ∷ ks) = option_and_then (λ v. located (form_in f k) (base_within f b w) v ks) (step w k)

-- the schema at a place of the document
abbrev pub located_at : Tree → List ℕ → Option (List ℕ × Tree)
located_at t p = option_and_then (λ bs. cond (is_utf8 bs) (option_and_then (located form.Schema [] t) (pointer_tokens (chars bs))) None)
    (percent_decoded p)

-- The schema to which the keyword of the schema s leads, and its scope: its resource is entered.
abbrev pub target_in : Tree → Scope → Keyword → Tree → Option (Scope × Tree)
target_in t c k s = option_map (λ x. (x.0 ∷ c, x.1))
    (option_and_then (located_at t) (option_and_then (led_to (marks_of t) c (is_dynamic (name k))) (schema_at s k)))

-- ---- the results of schemas

-- the results of the schemas that are applied in a scope
abbrev pub Scoped : Type 0
Scoped = Scope → Answers

-- the results of the subschemas of a schema in the scope
abbrev pub inner : Scoped → Scope → Answers
inner a c = record { accepts = λ r u. (a (entered c r)).accepts r u; evaluates = λ r u x. (a (entered c r)).evaluates r u x }

-- In the document t. `format` is an assertion or not.
module _ (t : Tree) (formats : Bool) where
  -- the schema to which the keyword leads accepts the value, or evaluates the child
  abbrev pub target_accepts : Scoped → Scope → Keyword → Tree → Tree → Bool
  target_accepts a c k s u = option_map_or (λ d. (a d.0).accepts d.1 u) (target_in t c k s) true

  abbrev pub target_evaluates : Scoped → Scope → Keyword → Tree → Tree → Child → Bool
  target_evaluates a c k s u x = option_map_or (λ d. (a d.0).evaluates d.1 u x) (target_in t c k s) false

  abbrev pub reference_accepts : Scoped → Scope → Tree → Tree → Bool
  reference_accepts a c s u = target_accepts a c kw.Ref s u && target_accepts a c kw.DynamicRef s u

  abbrev pub reference_evaluates : Scoped → Scope → Tree → Tree → Child → Bool
  reference_evaluates a c s u x = target_evaluates a c kw.Ref s u x || target_evaluates a c kw.DynamicRef s u x

  -- a schema evaluates the child that s applies to the value itself
  abbrev pub inner_evaluate : Scoped → Scope → Tree → Tree → Child → Bool
  inner_evaluate a c s u x = some_evaluate (inner a c) (schemas_at s kw.AllOf) u x
      || (accepting_evaluate (inner a c) (schemas_at s kw.AnyOf) u x
      || (accepting_evaluate (inner a c) (schemas_at s kw.OneOf) u x || (branch_evaluates (inner a c) s u x
      || (dependents_evaluate (inner a c) (schema_map_at s kw.DependentSchemas) u x || reference_evaluates a c s u x))))

  abbrev pub others_evaluate : Scoped → Scope → Tree → Tree → Child → Bool
  others_evaluate a c s u x = applies_to (inner a c).accepts s x || inner_evaluate a c s u x

  abbrev pub evaluates_by : Scoped → Scope → Tree → Tree → Child → Bool
  evaluates_by a c s u x = is_some (schema_at s (rest_keyword x)) || others_evaluate a c s u x

  -- the schema of `unevaluatedProperties`, or `unevaluatedItems`, accepts what the others do not evaluate
  abbrev pub rest_accepts : Scoped → Scope → Tree → Tree → Child → Bool
  rest_accepts a c s u x =
      option_map_or (λ r. others_evaluate a c s u x || (inner a c).accepts r (value_of x)) (schema_at s (rest_keyword x)) true

  abbrev pub rest_accepted : Scoped → Scope → Tree → Tree → Bool
  rest_accepted a c s u = children_pass (rest_accepts a c s u) u

  -- The schema s accepts the value u in the scope c, given the results a of the schemas that s applies.
  abbrev pub accepts_by : Scoped → Scope → Tree → Tree → Bool
  accepts_by a c s u = not (refuses_all s) && (meets_all (assertions formats) s u && (apply_all (inner a c).accepts tests s u
      && (apply_all (inner a c).accepts demands s u && (reference_accepts a c s u && (parts_accepted (inner a c).accepts s u
      && rest_accepted a c s u)))))

  abbrev pub by_rules : Scoped → Scoped
  by_rules a c = record { accepts = accepts_by a c; evaluates = evaluates_by a c }

  -- The results by the rules of all keywords, with up to this many nested schemas; g has those of deeper ones.
  abbrev pub answers : ℕ → Scoped → Scoped
  answers zero g = g
  answers (suc n) g = by_rules (answers n g)

-- the scope in which a document is applied: its own resource
abbrev pub outer : Tree → Scope
outer t = base_in [] t ∷ []

-- The document as a schema judges the value, with up to n nested schemas.
abbrev pub judged : Tree → Bool → ℕ → Scoped → Tree → Bool
judged t formats n g u = (answers t formats n g (outer t)).accepts t u

-- The value is valid against the document: at some depth the rules of the keywords yield it, whatever the results of
-- schemas nested deeper are.
abbrev pub IsValidScoped : Tree → Bool → Tree → Type 0
IsValidScoped t formats u = (n : ℕ) × ((g : Scoped) → judged t formats n g u ≡ true)
