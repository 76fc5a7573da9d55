-- What a value violates, with its place in the value's text.
use Rattle.std.specs.Prelude.{ℕ, Bool, true, false, ◌||◌, ◌⊎◌, pos, List, Option, Some, None, Ok, codes, encode_utf8_all}
use Rattle.std.specs.Str.{bytes_eq}
use Rattle.tinyjson.specs.Number.{integer_decimal}
use Rattle.tinyjson.specs.Tree.{Tree, number, object, put}
use Rattle.tinyjson_pointer.specs.Places.{Locates, LocatesKey}
use Rattle.tinyjson_pointer.specs.declared.place.Place.{Place}
use Rattle.tinyjson_pointer.specs.Siblings.{child_name}
use Rattle.tinyjson_pointer.specs.Tokens.{tokens_of}
use Rattle.tinyjson_schema.specs.declared.violation.Violation.{Violation}
use Rattle.tinyjson_schema_report.specs.Report.{report_tree}
use Rattle.tinyjson_schema_report.specs.declared.located.Located.{Located}

-- the keyword, a `false`, forbids a member that no other keyword is about
abbrev pub forbids_member : List (List ℕ) → Bool
forbids_member ks =
    let name = encode_utf8_all (child_name ks) in
    bytes_eq name (codes "additionalProperties") || bytes_eq name (codes "unevaluatedProperties")

-- the place is where the member's key begins in the text xs, or the part if that is no member
abbrev pub IsPlaceOfKey : List ℕ → List (List ℕ) → Place → Type 0
IsPlaceOfKey xs ks place =
    LocatesKey xs ks (Ok (Some place)) ⊎ (LocatesKey xs ks (Ok None) × Locates xs ks (Ok (Some place)))

abbrev pub IsPlaceBy : Bool → List ℕ → List (List ℕ) → Place → Type 0
IsPlaceBy true xs ks place = IsPlaceOfKey xs ks place
IsPlaceBy false xs ks place = Locates xs ks (Ok (Some place))

-- The place is where the key of a forbidden member begins in the text xs, or else the part that is not valid.
abbrev pub IsPlace : List ℕ → Violation → Place → Type 0
IsPlace xs v place = IsPlaceBy (forbids_member (tokens_of v.keyword_location)) xs (tokens_of v.instance_location) place

abbrev pub IsLocated : List ℕ → Located → Type 0
IsLocated xs l = IsPlace xs l.finding.violation l.place

-- the report with its column as a member
abbrev pub with_column : ℕ → Tree → Tree
with_column n (object ms) = object (put (codes "column") (number (integer_decimal (pos n))) ms)
with_column n t = t

-- the report with this line and the column at which the part begins
abbrev pub located_tree : ℕ → Located → Tree
located_tree line l = with_column l.place.column (report_tree (Some line) l.finding)
