-- References in circles.
use Rattle.std.specs.Prelude.{ℕ, zero, suc, Bool, true, false, ◌&&◌, List, [], ◌∷◌}
use Rattle.std.specs.Option.{option_map_or}
use Rattle.tinyjson.specs.Tree.{Tree, Items, no_items, item, Members, no_members, member}
use Rattle.tinyjson.specs.View.{view}
use Rattle.tinyjson_schema_keywords.specs.Applied.{schema_at, schemas_at, schema_map_at}
use Rattle.tinyjson_schema_keywords.specs.References.{referenced, target}
use Rattle.tinyjson_schema_keywords.specs.declared.keyword.Keyword.{Keyword}
use Rattle.tinyjson_schema_keywords.specs.declared.keyword.Keyword.TheVariants as kw
use Rattle.tinyjson_schema_keywords.specs.declared.walk.Walk.{Walk}

-- the keywords that apply a list of schemas to the value itself, and those that apply one
abbrev pub in_lists : List Keyword
in_lists = kw.AllOf ∷ kw.AnyOf ∷ kw.OneOf ∷ []

abbrev pub in_place : List Keyword
in_place = kw.Not ∷ kw.If ∷ kw.Then ∷ kw.Else ∷ []

-- each schema passes the test
abbrev pub all_pass : (Tree → Bool) → Items → Bool
all_pass p no_items = true
all_pass p (item r rs) = p r && all_pass p rs

abbrev pub map_passes : (Tree → Bool) → Members → Bool
map_passes p no_members = true
map_passes p (member k r rs) = p r && map_passes p rs

abbrev pub lists_pass : (Tree → Bool) → List Keyword → Tree → Bool
lists_pass p [] s = true
lists_pass p (k ∷ ks) s = all_pass p (schemas_at s k) && lists_pass p ks s

abbrev pub singles_pass : (Tree → Bool) → List Keyword → Tree → Bool
singles_pass p [] s = true
singles_pass p (k ∷ ks) s = option_map_or p (schema_at s k) true && singles_pass p ks s

abbrev pub reference_passes : Tree → (Tree → Bool) → Tree → Bool
reference_passes root p s = option_map_or p (referenced root kw.Ref s) true && option_map_or p (referenced root kw.DynamicRef s) true

-- At most this many nested schemas are applied to the value itself, whatever it is. References in a circle have no
-- such bound.
abbrev pub settles : Tree → ℕ → Tree → Bool
settles root zero s = false
settles root (suc n) s = lists_pass (settles root n) in_lists s && (singles_pass (settles root n) in_place s
    && (map_passes (settles root n) (schema_map_at s kw.DependentSchemas) && reference_passes root (settles root n) s))

-- how many nested schemas are followed from a reference
abbrev pub reference_steps : ℕ
reference_steps = 100

-- The reference leads to a schema, and following on from there comes to an end.
abbrev pub leads : Tree → Tree → Bool
leads root w = option_map_or (settles root reference_steps) (target root w) false

-- `settles` in the root schema and with the steps of a walk
abbrev pub settles_in : Walk → Tree → Bool
settles_in w = settles (view w.whole.now.root.now) w.steps
