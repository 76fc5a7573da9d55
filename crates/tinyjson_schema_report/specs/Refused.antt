-- Why a schema can't be applied, in words.
use Rattle.std.specs.Prelude.{◌≡◌, ℕ, Bool, true, false, ◌&&◌, ◌⊎◌, List, [], ◌∷◌, ◌++◌, Option, Some, None, cond, codes}
use Rattle.std.specs.Prelude.{is_some, option_map}
use Rattle.std.specs.Prelude.{option_and_then}
use Rattle.tinyjson.specs.Access.{is_null}
use Rattle.tinyjson.specs.Tree.{Tree, string}
use Rattle.tinyjson.specs.View.{view, text}
use Rattle.tinyjson_pointer.specs.Walk.{step}
use Rattle.tinyjson_schema_keywords.specs.References.{form_in, target}
use Rattle.tinyjson_schema_keywords.specs.declared.keyword.Form.{Form}
use Rattle.tinyjson_schema_keywords.specs.declared.keyword.Form.TheVariants as form
use Rattle.tinyjson_schema_report.specs.Brief.{brief}
use Rattle.tinyjson_schema_report.specs.Faults.{IsFault}
use Rattle.tinyjson_schema_report.specs.declared.refused.Need.{Need}

-- the form that a value needs, its key if that has to be a pattern, and the value
abbrev pub At : Type 0
At = Form × (Option (List ℕ) × Tree)

abbrev pub need_of : Need → At
need_of n = (n.form, (option_map (λ k. text k.now) n.key, view n.value.now))

-- the token if it is a key of `patternProperties`
abbrev pub key_in : Form → List ℕ → Option (List ℕ)
key_in form.PatternMap k = Some k
key_in _ k = None

-- what one more token leads to
abbrev pub needs_next : At → List ℕ → Option At
needs_next at k = option_map (λ u. (form_in at.0 k, (key_in at.0 k, u))) (step at.1.1 k)

-- what the tokens lead to
abbrev pub needs_at : At → List (List ℕ) → Option At
needs_at at [] = Some at
needs_at at (k ∷ ks) = option_and_then (λ next. needs_at next ks) (needs_next at k)

abbrev pub needs_from : Tree → List (List ℕ) → Option At
needs_from root ks = needs_at (form.Schema, (None, root)) ks

abbrev pub unknown : List ℕ
unknown = codes "can't be applied"

-- what is wanted of a value of this form
abbrev pub wanted : Form → List ℕ
wanted form.Text = codes "must be a string"
wanted form.Truth = codes "must be a boolean"
wanted form.List = codes "must be an array"
wanted form.Types = codes "must be a type or an array of different types"
wanted form.Number = codes "must be a number"
wanted form.Divisor = codes "must be a number above 0 with at most 1,000 digits"
wanted form.Count = codes "must be a non-negative integer"
wanted form.Keys = codes "must be an array of different strings"
wanted form.KeyLists = codes "must be an object of arrays of different strings"
wanted form.Dialect = codes "must be \"https://json-schema.org/draft/2020-12/schema\""
wanted form.Schema = codes "must be an object or a boolean"
wanted form.Schemas = codes "must be an array with a schema"
wanted form.SchemaMap = codes "must be an object of schemas"
wanted form.PatternMap = codes "must be an object of schemas"
wanted form.Base = codes "must be a URI without a fragment, of no other schema"
wanted form.Anchor = codes "must be a plain name of no other schema"
wanted _ = codes "must be applied"

-- of a reference: that it leads to a schema, and if it does, that this comes to an end
abbrev pub reference_wanted : Tree → Tree → List ℕ
reference_wanted root w = cond (is_some (target root w)) (codes "must not lead in a circle or through more than 100 schemas")
    (codes "must lead to a schema of the document")

-- `must be a non-negative integer, is -1`
abbrev pub told : List ℕ → Tree → List ℕ
told want w = want ++ (codes ", is " ++ brief w)

-- of a pattern: what is wrong in it
abbrev pub TellsPattern : Tree → List ℕ → Type 0
TellsPattern (string cs) bs = IsFault cs (Some bs) ⊎ (IsFault cs None × (bs ≡ unknown))
TellsPattern w bs = bs ≡ told (codes "must be a pattern") w

-- of a value that needs the form
abbrev pub TellsForm : Tree → Form → Tree → List ℕ → Type 0
TellsForm root form.Pattern w bs = TellsPattern w bs
TellsForm root form.Reference w bs = bs ≡ told (reference_wanted root w) w
TellsForm root f w bs = bs ≡ told (wanted f) w

-- in a schema of an older draft, null is what was not translated
abbrev pub TellsOlder : Bool → Tree → Form → Tree → List ℕ → Type 0
TellsOlder true root f w bs = bs ≡ codes "can't be applied in its draft"
TellsOlder false root f w bs = TellsForm root f w bs

abbrev pub TellsValue : Tree → Bool → Form → Tree → List ℕ → Type 0
TellsValue root older f w bs = TellsOlder (older && is_null w) root f w bs

-- a key that is no pattern comes before its value
abbrev pub TellsKey : Tree → Bool → List ℕ → Form → Tree → List ℕ → Type 0
TellsKey root older k f w bs = IsFault k (Some bs) ⊎ (IsFault k None × TellsValue root older f w bs)

abbrev pub TellsNeed : Tree → Bool → At → List ℕ → Type 0
TellsNeed root older (f, (None, w)) bs = TellsValue root older f w bs
TellsNeed root older (f, (Some k, w)) bs = TellsKey root older k f w bs

abbrev pub TellsAt : Tree → Bool → Option At → List ℕ → Type 0
TellsAt root older None bs = bs ≡ unknown
TellsAt root older (Some at) bs = TellsNeed root older at bs

-- Why the schema with this tree can't be applied at the place; it may have been translated from an older draft.
abbrev pub TellsRefused : Tree → Bool → List (List ℕ) → List ℕ → Type 0
TellsRefused root older ks bs = TellsAt root older (needs_from root ks) bs
