-- Members that are read from the last to the first. For private contracts.
use Rattle.std.specs.Prelude.{ℕ, List, cond, is_some}
use Rattle.tinyjson_grammar.specs.Tree.{Tree, Members, find, put}

-- the member, if no other has its key
abbrev pub add : List ℕ → Tree → Members → Members
add k t ms = cond (is_some (find k ms)) ms (put k t ms)
