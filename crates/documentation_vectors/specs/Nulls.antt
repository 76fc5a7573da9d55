-- Whether every item is null.
use Rattle.std.specs.Prelude.{Bool, true, ◌&&◌}
use Rattle.tinyjson.specs.Access.{is_null}
use Rattle.tinyjson.specs.Tree.{Items, no_items, item}

abbrev pub all_null : Items → Bool
all_null no_items = true
all_null (item t ts) = is_null t && all_null ts
