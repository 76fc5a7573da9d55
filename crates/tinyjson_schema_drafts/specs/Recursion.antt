-- Recursive references of 2019-09 as dynamic ones (2019-09: Core, 8.2.4.2).
use Rattle.std.specs.Prelude.{Bool, false, ◌&&◌, cond, codes, encode_utf8_all}
use Rattle.std.specs.Option.{option_map_or}
use Rattle.std.specs.Str.{bytes_eq, chars}
use Rattle.tinyjson.specs.Index.{tree_at_key}
use Rattle.tinyjson.specs.Tree.{Tree, null, string}
use Rattle.tinyjson_schema_drafts.specs.Rules.{is_true}

-- a resource in which `$recursiveAnchor` is true
abbrev pub is_marked : Tree → Bool
is_marked r = option_map_or is_true (tree_at_key r (codes "$recursiveAnchor")) false

abbrev pub is_root_reference : Tree → Bool
is_root_reference (string cs) = bytes_eq (encode_utf8_all cs) (codes "#")
is_root_reference _ = false

-- It leads to the resource r, and if that is marked on to the outermost one that is. The name begins with `_`, as none of 2019-09
-- does.
abbrev pub recursive_in_words : Tree → Tree → Tree
recursive_in_words r w = cond (is_root_reference w) (cond (is_marked r) (string (chars (codes "#_recursiveAnchor"))) w) null

-- of a schema that is no resource: null
abbrev pub anchor_in_words : Tree → Tree → Tree
anchor_in_words r w = cond (is_true w && is_marked r) (string (chars (codes "_recursiveAnchor"))) null
