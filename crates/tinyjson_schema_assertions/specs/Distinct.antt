-- Values that are all different.
use Rattle.std.specs.Prelude.{Bool, true, false, not, ◌&&◌, ◌||◌}
use Rattle.tinyjson.specs.Equality.{tree_eq}
use Rattle.tinyjson.specs.Tree.{Tree, Items, no_items, item}

abbrev pub is_among : Items → Tree → Bool
is_among no_items t = false
is_among (item u us) t = tree_eq t u || is_among us t

-- each value differs from all after it
abbrev pub are_distinct : Items → Bool
are_distinct no_items = true
are_distinct (item t ts) = not (is_among ts t) && are_distinct ts
