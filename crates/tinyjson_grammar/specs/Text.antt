-- The text of a tree, without white space or with indents.
use Rattle.std.specs.Prelude.{◌≡◌, ◌<◌, ◌⊎◌, ℕ, Option, None, Some, ◌+◌, ◌/◌, ◌%◌, ◌==◌, nat_lt, List, [], ◌∷◌, ◌++◌, Bool}
use Rattle.std.specs.Prelude.{true, false, cond, codes}
use Rattle.std.specs.Char.{digit_char}
-- n times the text
pub use Rattle.std.specs.List.{repeat as repeated}
use Rattle.tinyjson_grammar.specs.Tree.{Tree, Items, Members, null, boolean, number, string}
use Rattle.tinyjson_grammar.specs.Tree.{array, object, no_items, item, no_members, member}
use Rattle.tinyjson_number.specs.Text.{decimal_text}
use Rattle.tinyjson_grammar.specs.Characters.{backspace, begin_array, begin_object, carriage_return, end_array}
use Rattle.tinyjson_grammar.specs.Characters.{end_object, form_feed, horizontal_tab, line_feed, name_separator}
use Rattle.tinyjson_grammar.specs.Characters.{quotation_mark, reverse_solidus, space, value_separator}

-- how a character is spelled inside a string
abbrev pub escape : ℕ → List ℕ
escape c =
    cond (c == backspace) (codes "\\b")
    (cond (c == horizontal_tab) (codes "\\t")
    (cond (c == line_feed) (codes "\\n")
    (cond (c == form_feed) (codes "\\f")
    (cond (c == carriage_return) (codes "\\r")
    (cond (c == quotation_mark) (codes "\\\"")
    (cond (c == reverse_solidus) (codes "\\\\")
    (cond (nat_lt c space) (codes "\\u00" ++ digit_char (c / 16) ∷ digit_char (c % 16) ∷ []) (c ∷ []))))))))

-- the characters that are not written as they are
abbrev pub IsEscaped : ℕ → Type 0
IsEscaped c = (c < space) ⊎ ((c ≡ quotation_mark) ⊎ (c ≡ reverse_solidus))

abbrev pub escapes : List ℕ → List ℕ
escapes [] = []
escapes (c ∷ cs) = escape c ++ escapes cs

abbrev pub quoted : List ℕ → List ℕ
quoted cs = quotation_mark ∷ (escapes cs ++ quotation_mark ∷ [])

-- the comma before an item, but none before the first
abbrev pub separator : Bool → List ℕ
separator first = cond first [] (value_separator ∷ [])

-- a new line at a level, where the text is indented
abbrev pub newline : Option (List ℕ) → ℕ → List ℕ
newline None k = []
newline (Some i) k = line_feed ∷ repeated k i

-- what precedes an item
abbrev pub before : Option (List ℕ) → ℕ → Bool → List ℕ
before w k first = separator first ++ newline w k

-- what follows the last item
abbrev pub closing : Option (List ℕ) → ℕ → Bool → ℕ → List ℕ
closing w k is_empty bracket = cond is_empty [] (newline w k) ++ bracket ∷ []

-- the white space after a colon
abbrev pub after_colon : Option (List ℕ) → List ℕ
after_colon None = []
after_colon (Some i) = space ∷ []

abbrev pub has_no_items : Items → Bool
has_no_items no_items = true
has_no_items (item t ts) = false

abbrev pub has_no_members : Members → Bool
has_no_members no_members = true
has_no_members (member k t ms) = false

-- the text of a tree at the level k: compact, or indented with `Some` text
abbrev mutual
  pub text : Option (List ℕ) → ℕ → Tree → List ℕ
  text w k null = codes "null"
  text w k (boolean b) = cond b (codes "true") (codes "false")
  text w k (number d) = decimal_text d
  text w k (string cs) = quoted cs
  text w k (array ts) = begin_array ∷ (items_text w (k + 1) true ts ++ closing w k (has_no_items ts) end_array)
  text w k (object ms) = begin_object ∷ (members_text w (k + 1) true ms ++ closing w k (has_no_members ms) end_object)

  -- with `first` no item precedes these
  pub items_text : Option (List ℕ) → ℕ → Bool → Items → List ℕ
  items_text w k first no_items = []
  items_text w k first (item t ts) = before w k first ++ (text w k t ++ items_text w k false ts)

  pub members_text : Option (List ℕ) → ℕ → Bool → Members → List ℕ
  members_text w k first no_members = []
  members_text w k first (member key t ms) = before w k first
      ++ ((quoted key ++ (name_separator ∷ (after_colon w ++ text w k t))) ++ members_text w k false ms)

abbrev pub compact : Tree → List ℕ
compact t = text None 0 t

abbrev pub indented : Tree → List ℕ → ℕ → List ℕ
indented t indent level = text (Some indent) level t
