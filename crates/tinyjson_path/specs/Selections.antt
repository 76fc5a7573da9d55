-- What a selection has still to give, and from which strings its errors come.
use Rattle.std.specs.Prelude.{List, ◌++◌}
use Rattle.tinyjson_path.specs.Nodes.{Part}
use Rattle.tinyjson_path.specs.Strings.{Texts, segments_strings, strings_in}
use Rattle.tinyjson_path.specs.Waiting.{waits_left, waits_view}
use Rattle.tinyjson_path.specs.declared.selection.Selection.{Selection}
use Rattle.tinyjson_view.specs.Views.{tree_of}

-- the parts that are still to come, in order
abbrev pub left : Selection → List Part
left s = waits_left s.segments.now (tree_of s.finder.root) (waits_view s.waiting.items)

-- the strings of the query and of the value
abbrev pub sources : Selection → Texts
sources s = segments_strings s.segments.now ++ strings_in (tree_of s.finder.root)
