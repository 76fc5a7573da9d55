-- What a comparison under way has still to find the same, and how much of it is left. For private contracts.
use Rattle.std.specs.Prelude.{ℕ, ◌+◌, Bool, ◌&&◌, List, map, Some, String}
use Rattle.std.specs.List.{list_all}
use Rattle.std.specs.Option.{option_eq}
use Rattle.std.specs.Slice.Iter.{iter_rest}
use Rattle.std.specs.declared.alloc.Global.{Global}
use Rattle.tinyjson.specs.private.Copy.{total, items_weight, entries_weight}
use Rattle.tinyjson.specs.Equality.{tree_eq, items_eq}
use Rattle.tinyjson_grammar.specs.Tree.{Members, find}
use Rattle.tinyjson.specs.View.{view, items_view, members_view, text}
use Rattle.tinyjson.specs.declared.value.JsonValue.{JsonValue}
use Rattle.tinyjson.specs.declared.value.equality.Compared.{Compared}
use Rattle.tinyjson.specs.declared.value.equality.Compared.TheVariants as compared
use Rattle.tinyjson.specs.declared.value.equality.Rest.{Rest}
use Rattle.tinyjson.specs.declared.value.equality.Rest.TheVariants as rest
use Rattle.tinyjson.specs.declared.value.equality.Step.{Step}
use Rattle.tinyjson.specs.declared.value.equality.Step.TheVariants as step

-- whether the members have the entry's value at its key
abbrev pub has_entry : Members → String Global × JsonValue → Bool
has_entry ms e = option_eq tree_eq (Some (view e.1)) (find (text e.0) ms)

abbrev pub has_entries : Members → List (String Global × JsonValue) → Bool
has_entries ms es = list_all (has_entry ms) es

abbrev pub rest_eq : Rest → Bool
rest_eq (rest.Items a b) = items_eq (items_view (iter_rest a)) (items_view (iter_rest b))
rest_eq (rest.Members a m) = has_entries (members_view m.now.entries) a

abbrev pub rests_eq : List Rest → Bool
rests_eq rs = list_all rest_eq rs

abbrev pub compared_eq : Compared → Bool
compared_eq (compared.Known same) = same
compared_eq (compared.Inside r) = rest_eq r

abbrev pub step_eq : Step → Bool
step_eq (step.Known same) = same
step_eq (step.Inside inner outer) = rest_eq inner && rest_eq outer

abbrev pub rest_weight : Rest → ℕ
rest_weight (rest.Items a b) = 1 + items_weight (iter_rest a)
rest_weight (rest.Members a m) = 1 + entries_weight a

abbrev pub rests_weight : List Rest → ℕ
rests_weight rs = total (map rest_weight rs)

abbrev pub compared_weight : Compared → ℕ
compared_weight (compared.Known same) = 0
compared_weight (compared.Inside r) = 1 + rest_weight r

abbrev pub step_weight : Step → ℕ
step_weight (step.Known same) = 0
step_weight (step.Inside inner outer) = rest_weight inner + rest_weight outer
