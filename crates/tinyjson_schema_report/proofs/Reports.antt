-- The report of a violation, from the members that are put together.
use Rattle.std.proofs.Common.{◌≡◌, ℕ, true, false, List, Option, Some, None, codes}
use Rattle.std.proofs.Common.{refl, ap, ◌∙◌}
use Rattle.std.proofs.Math.Utf8.{encode}
use Rattle.std.specs.Str.{chars}
use Rattle.tinyjson.proofs.Callers.{are_ascii, chars_literal, view_Object}
use Rattle.tinyjson.specs.Access.{JsonMap}
use Rattle.tinyjson.specs.Tree.{Tree, boolean, string, object, Members, no_members, put}
use Rattle.tinyjson.specs.View.{view, text, members_view}
use Rattle.tinyjson.specs.declared.value.JsonValue.TheVariants as is
use Rattle.tinyjson_schema_report.specs.Report.{place_tree, with_line, report_tree}
use Rattle.tinyjson_schema_report.specs.declared.found.Finding.{Finding}

-- ---- the members

pub named : (k : List ℕ) (t : Tree) (old new : Members) → are_ascii k ≡ true → new ≡ put (chars k) t old → new ≡ put k t old
named k t old new a h = h ∙ ap (λ l. put l t old) (chars_literal k a)

-- each member is put to those before it
all_put : Option ℕ → Finding → Members
all_put line f = put (codes "valid") (boolean false)
    (with_line line (put (codes "keywordLocation") (place_tree f.violation.keyword_location)
    (put (codes "instanceLocation") (place_tree f.violation.instance_location) (put (codes "error") (string (text f.words)) no_members))))

made : (line : Option ℕ) (f : Finding) → object (all_put line f) ≡ report_tree line f
unfolding all_put encode
made None f = refl
made (Some n) f = refl

pub report_made : (line : Option ℕ) (f : Finding) (m : JsonMap) (none one two three four : Members) → none ≡ no_members
    → one ≡ put (chars (codes "error")) (string (text f.words)) none
    → two ≡ put (chars (codes "instanceLocation")) (place_tree f.violation.instance_location) one
    → three ≡ put (chars (codes "keywordLocation")) (place_tree f.violation.keyword_location) two
    → four ≡ with_line line three
    → members_view m.entries ≡ put (chars (codes "valid")) (boolean false) four
    → view (is.Object m) ≡ report_tree line f
unfolding all_put
report_made line f m none one two three four e a b c d g =
    let start = named (codes "error") (string (text f.words)) none one refl a ∙ ap (put (codes "error") (string (text f.words))) e in
    let second = named (codes "instanceLocation") (place_tree f.violation.instance_location) one two refl b
    ∙ ap (put (codes "instanceLocation") (place_tree f.violation.instance_location)) start in
    let third = named (codes "keywordLocation") (place_tree f.violation.keyword_location) two three refl c
    ∙ ap (put (codes "keywordLocation") (place_tree f.violation.keyword_location)) second in
    let last = named (codes "valid") (boolean false) four (members_view m.entries) refl g
    ∙ ap (put (codes "valid") (boolean false)) (d ∙ ap (with_line line) third) in
    view_Object m ∙ (ap object last ∙ made line f)
