-- The program's arguments.
use Rattle.std.specs.Prelude.{◌≡◌, ◌≢◌, ◌⊎◌, ℕ, Bool, true, false, ◌&&◌, not, cond, List, [], ◌∷◌, ◌++◌}
use Rattle.tinyjson.specs.Characters.{line_feed}
use Rattle.tinyjson_cli.specs.Arguments.{Given, is_given}
use Rattle.json_path.specs.declared.selected.Form.{Form}
use Rattle.json_path.specs.declared.selected.Layout.{Layout}
use Rattle.json_path.specs.declared.selected.Layout.TheVariants.{Compact, Indented}
use Rattle.json_path.specs.declared.selected.Shape.{Shape}
use Rattle.json_path.specs.declared.selected.Shape.TheVariants.{Value, Raw, Path}
use Rattle.json_path.specs.declared.selected.Wanted.{Wanted}
use Rattle.json_path.specs.declared.selected.Wanted.TheVariants.{Selected, Rest}

abbrev pub layout_asked : Bool → Layout
layout_asked is_indented = cond is_indented Indented Compact

-- what is written of a part: its path with `-p`; else, with `-r`, the characters of a string
abbrev pub shape_asked : Bool → Bool → Layout → Shape
shape_asked true is_raw l = Path
shape_asked false true l = Raw l
shape_asked false false l = Value l

-- with `-l` an array for each text, but a line for each part with `-f`; with `-e` also where nothing is selected
abbrev pub form_asked : Given → Form
form_asked a = record {
  shape = shape_asked (is_given 112 a) (is_given 114 a) (layout_asked (is_given 105 a));
  is_array = is_given 108 a && not (is_given 102 a);
  or_none = is_given 101 a;
}

-- with `-v` the rest, whatever else is given
abbrev pub wanted_asked : Given → Wanted
wanted_asked a = cond (is_given 118 a) Rest (Selected (form_asked a))

-- the text of a file, and the same without the line feed that ends it, if one does
abbrev pub IsWithoutEnd : List ℕ → List ℕ → Type 0
IsWithoutEnd all rest = (all ≡ rest ++ line_feed ∷ []) ⊎ ((rest ≡ all) × ((front : List ℕ) → all ≢ front ++ line_feed ∷ []))
