-- What a copy under way represents, and what of it is left. For private contracts.
use Rattle.std.specs.Prelude.{ℕ, ◌+◌, List, [], ◌∷◌, ◌++◌, map, String}
use Rattle.std.specs.Slice.Iter.{iter_rest}
use Rattle.std.specs.declared.alloc.Global.{Global}
use Rattle.tinyjson_grammar.specs.Tree.{Tree, array, object, items_of, Members, put}
use Rattle.tinyjson.specs.View.{view, items_view, members_view, text}
use Rattle.tinyjson.specs.declared.value.JsonValue.{JsonValue, fold-JsonValue}
use Rattle.tinyjson.specs.declared.value.JsonValue.TheOpen.{JsonValue-F}
use Rattle.tinyjson.specs.declared.value.copy.Partial.{Partial}
use Rattle.tinyjson.specs.declared.value.copy.Partial.TheVariants as partial
use Rattle.tinyjson.specs.declared.value.copy.Step.{Step}
use Rattle.tinyjson.specs.declared.value.copy.Step.TheVariants as step

-- the members with each of the entries put at its key, in turn
abbrev pub put_all : List (String Global × JsonValue) → Members → Members
put_all [] ms = ms
put_all (e ∷ es) ms = put_all es (put (text e.0) (view e.1) ms)

-- the container's tree, with that tree in the place of the value that is being copied
abbrev pub filled : Partial → Tree → Tree
filled (partial.Array v r) t = array (items_of (map view v.items ++ t ∷ map view (iter_rest r)))
filled (partial.Object m k r) t = object (put_all r (put (text k) t (members_view m.entries)))

-- as filled, for nested containers; the last is the innermost
abbrev pub filled_all : List Partial → Tree → Tree
filled_all [] t = t
filled_all (p ∷ ps) t = filled p (filled_all ps t)

abbrev pub step_view : Step → Tree
step_view (step.Array v) = array (items_view v.now.items)
step_view (step.Object m) = object (members_view m.now.entries)
step_view (step.Copied v) = view v

-- ---- how much is left to be copied

abbrev pub total : List ℕ → ℕ
total [] = 0
total (n ∷ ns) = n + total ns

abbrev pub entries_total : List (String Global × ℕ) → ℕ
entries_total [] = 0
entries_total (e ∷ es) = e.1 + entries_total es

abbrev pub weight_step : JsonValue-F ℕ → ℕ
weight_step JsonValue-F.Null = 2
weight_step (JsonValue-F.Boolean b) = 2
weight_step (JsonValue-F.Number n) = 2
weight_step (JsonValue-F.String s) = 2
weight_step (JsonValue-F.Array v) = 2 + total v.items
weight_step (JsonValue-F.Object m) = 2 + entries_total m.entries

abbrev pub weight : JsonValue → ℕ
weight = fold-JsonValue ℕ weight_step

abbrev pub items_weight : List JsonValue → ℕ
items_weight vs = total (map weight vs)

abbrev pub entries_weight : List (String Global × JsonValue) → ℕ
entries_weight es = entries_total (map (λ e. (e.0, weight e.1)) es)

abbrev pub partial_weight : Partial → ℕ
partial_weight (partial.Array v r) = 1 + items_weight (iter_rest r)
partial_weight (partial.Object m k r) = 1 + entries_weight r

abbrev pub stack_weight : List Partial → ℕ
stack_weight ps = total (map partial_weight ps)

abbrev pub step_weight : Step → ℕ
step_weight (step.Array v) = 2 + items_weight v.now.items
step_weight (step.Object m) = 2 + entries_weight m.now.entries
step_weight (step.Copied v) = 1
