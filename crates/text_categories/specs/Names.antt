-- The names of categories in ECMA-262 (22.2.1, "Value aliases and canonical values for the Unicode
-- property General_Category").
use Rattle.std.specs.Prelude.{ℕ, Bool, true, false, ◌&&◌, ◌==◌, cond, List, [], ◌∷◌, Option, Some, None, codes}
use Rattle.std.specs.Borrow.{Bor}
use Rattle.text_categories.specs.declared.Category.{Category}
use Rattle.text_categories.specs.Categories.{from_to}

-- the two texts are the same
abbrev pub is_name : List ℕ → List ℕ → Bool
is_name [] [] = true
is_name [] (d ∷ ds) = false
is_name (c ∷ cs) [] = false
is_name (c ∷ cs) (d ∷ ds) = (c == d) && is_name cs ds

-- the category or group with this name in a table
abbrev pub value_in : List (List ℕ × (ℕ × ℕ)) → List ℕ → Option Category
value_in [] cs = None
value_in (v ∷ vs) cs = cond (is_name cs v.0) (Some (from_to v.1)) (value_in vs cs)

-- the names, each with the numbers of its first and last category
unfoldable pub values : List (List ℕ × (ℕ × ℕ))
values =
    (codes "Cased_Letter", (0, 2)) ∷ (codes "LC", (0, 2))
    ∷ (codes "Letter", (0, 4)) ∷ (codes "L", (0, 4))
    ∷ (codes "Uppercase_Letter", (0, 0)) ∷ (codes "Lu", (0, 0))
    ∷ (codes "Lowercase_Letter", (1, 1)) ∷ (codes "Ll", (1, 1))
    ∷ (codes "Titlecase_Letter", (2, 2)) ∷ (codes "Lt", (2, 2))
    ∷ (codes "Modifier_Letter", (3, 3)) ∷ (codes "Lm", (3, 3))
    ∷ (codes "Other_Letter", (4, 4)) ∷ (codes "Lo", (4, 4))
    ∷ (codes "Mark", (5, 7)) ∷ (codes "M", (5, 7)) ∷ (codes "Combining_Mark", (5, 7))
    ∷ (codes "Nonspacing_Mark", (5, 5)) ∷ (codes "Mn", (5, 5))
    ∷ (codes "Spacing_Mark", (6, 6)) ∷ (codes "Mc", (6, 6))
    ∷ (codes "Enclosing_Mark", (7, 7)) ∷ (codes "Me", (7, 7))
    ∷ (codes "Number", (8, 10)) ∷ (codes "N", (8, 10))
    ∷ (codes "Decimal_Number", (8, 8)) ∷ (codes "Nd", (8, 8)) ∷ (codes "digit", (8, 8))
    ∷ (codes "Letter_Number", (9, 9)) ∷ (codes "Nl", (9, 9))
    ∷ (codes "Other_Number", (10, 10)) ∷ (codes "No", (10, 10))
    ∷ (codes "Punctuation", (11, 17)) ∷ (codes "P", (11, 17)) ∷ (codes "punct", (11, 17))
    ∷ (codes "Connector_Punctuation", (11, 11)) ∷ (codes "Pc", (11, 11))
    ∷ (codes "Dash_Punctuation", (12, 12)) ∷ (codes "Pd", (12, 12))
    ∷ (codes "Open_Punctuation", (13, 13)) ∷ (codes "Ps", (13, 13))
    ∷ (codes "Close_Punctuation", (14, 14)) ∷ (codes "Pe", (14, 14))
    ∷ (codes "Initial_Punctuation", (15, 15)) ∷ (codes "Pi", (15, 15))
    ∷ (codes "Final_Punctuation", (16, 16)) ∷ (codes "Pf", (16, 16))
    ∷ (codes "Other_Punctuation", (17, 17)) ∷ (codes "Po", (17, 17))
    ∷ (codes "Separator", (18, 20)) ∷ (codes "Z", (18, 20))
    ∷ (codes "Space_Separator", (18, 18)) ∷ (codes "Zs", (18, 18))
    ∷ (codes "Line_Separator", (19, 19)) ∷ (codes "Zl", (19, 19))
    ∷ (codes "Paragraph_Separator", (20, 20)) ∷ (codes "Zp", (20, 20))
    ∷ (codes "Symbol", (21, 24)) ∷ (codes "S", (21, 24))
    ∷ (codes "Math_Symbol", (21, 21)) ∷ (codes "Sm", (21, 21))
    ∷ (codes "Currency_Symbol", (22, 22)) ∷ (codes "Sc", (22, 22))
    ∷ (codes "Modifier_Symbol", (23, 23)) ∷ (codes "Sk", (23, 23))
    ∷ (codes "Other_Symbol", (24, 24)) ∷ (codes "So", (24, 24))
    ∷ (codes "Other", (25, 29)) ∷ (codes "C", (25, 29))
    ∷ (codes "Control", (25, 25)) ∷ (codes "Cc", (25, 25)) ∷ (codes "cntrl", (25, 25))
    ∷ (codes "Format", (26, 26)) ∷ (codes "Cf", (26, 26))
    ∷ (codes "Surrogate", (29, 29)) ∷ (codes "Cs", (29, 29))
    ∷ (codes "Unassigned", (27, 27)) ∷ (codes "Cn", (27, 27))
    ∷ (codes "Private_Use", (28, 28)) ∷ (codes "Co", (28, 28)) ∷ []

-- the category or group with this name
abbrev pub value_named : List ℕ → Option Category
value_named cs = value_in values cs

-- a row of the code's table
abbrev pub row : Bor (List ℕ) × ℕ × ℕ → List ℕ × (ℕ × ℕ)
row r = (r.0.now, (r.1, r.2))
