-- The report of a value that is not valid (Core, 12.4.2): what it lacks in words, the place in the value and that of
-- the keyword, with the number of the value's line if it has one.
use Rattle.std.specs.Prelude.{ℕ, pos, false, Option, Some, None, codes}
use Rattle.tinyjson.specs.Number.{integer_decimal}
use Rattle.tinyjson.specs.Tree.{Tree, boolean, number, string, object, Members, no_members, member, put}
use Rattle.tinyjson.specs.View.{text}
use Rattle.tinyjson_pointer.specs.Text.{pointer_text}
use Rattle.tinyjson_pointer.specs.Tokens.{tokens_of}
use Rattle.tinyjson_pointer.specs.declared.pointer.Pointer.{Pointer}
use Rattle.tinyjson_schema_report.specs.declared.found.Finding.{Finding}

abbrev pub place_tree : Pointer → Tree
place_tree p = string (pointer_text (tokens_of p))

-- the number of the line, as a member
abbrev pub with_line : Option ℕ → Members → Members
with_line None ms = ms
with_line (Some n) ms = put (codes "line") (number (integer_decimal (pos n))) ms

abbrev pub report_tree : Option ℕ → Finding → Tree
report_tree line f =
    object (member (codes "error") (string (text f.words))
    (member (codes "instanceLocation") (place_tree f.violation.instance_location)
    (member (codes "keywordLocation") (place_tree f.violation.keyword_location)
    (with_line line (member (codes "valid") (boolean false) no_members)))))
