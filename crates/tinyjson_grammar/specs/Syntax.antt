-- A value as it is spelled, by the loose grammar.
use Rattle.std.specs.Prelude.{ℕ, ◌+◌, max, ◌≤◌, Bool, true, false, ◌||◌, ◌==◌, not, List, [], ◌∷◌, ◌++◌, Option, Some, None, unwrap_or, ⊤}
use Rattle.std.specs.Prelude.{IsTrue, IsSome, codes}
use Rattle.std.specs.Char.{IsScalar}
use Rattle.tinyjson_number.specs.Numeral.{power_width, Numeral, IsNumeral, has_leading_zero, spelling, value, fits_in}
use Rattle.std.specs.Int.{Width}
use Rattle.tinyjson_grammar.specs.Tree as tree
use Rattle.tinyjson_grammar.specs.Characters.{is_white, is_hex, short_escape, unit_of, decode, paired}
use Rattle.tinyjson_grammar.specs.Characters.{begin_array, begin_object, end_array, end_object, letter_u}
use Rattle.tinyjson_grammar.specs.Characters.{name_separator, quotation_mark, reverse_solidus, space, value_separator}

-- A part of a string.
pub data Piece : Type 0 where
  plain : ℕ → Piece
  escape : ℕ → Piece
  unit : ℕ → ℕ → ℕ → ℕ → Piece

mutual
  pub data Syntax : Type 0 where
    null : Syntax
    boolean : Bool → Syntax
    number : Numeral → Syntax
    string : List Piece → Syntax
    empty_array : List ℕ → Syntax
    array : Elements → Syntax
    empty_object : List ℕ → Syntax
    object : Pairs → Syntax

  -- white space, a value, white space
  pub data Elements : Type 0 where
    last_element : List ℕ → Syntax → List ℕ → Elements
    element : List ℕ → Syntax → List ℕ → Elements → Elements

  -- a key, a colon and a value, each with white space around it. In the loose grammar a key is any value.
  pub data Pairs : Type 0 where
    last_pair : List ℕ → Syntax → List ℕ → List ℕ → Syntax → List ℕ → Pairs
    pair : List ℕ → Syntax → List ℕ → List ℕ → Syntax → List ℕ → Pairs → Pairs

abbrev pub piece_text : Piece → List ℕ
piece_text (plain c) = c ∷ []
piece_text (escape c) = reverse_solidus ∷ c ∷ []
piece_text (unit a b c d) = reverse_solidus ∷ letter_u ∷ a ∷ b ∷ c ∷ d ∷ []

abbrev pub pieces_text : List Piece → List ℕ
pieces_text [] = []
pieces_text (p ∷ ps) = piece_text p ++ pieces_text ps

abbrev mutual
  pub text : Syntax → List ℕ
  text null = codes "null"
  text (boolean true) = codes "true"
  text (boolean false) = codes "false"
  text (number n) = spelling n
  text (string ps) = quotation_mark ∷ (pieces_text ps ++ quotation_mark ∷ [])
  text (empty_array w) = begin_array ∷ (w ++ end_array ∷ [])
  text (array es) = begin_array ∷ (elements_text es ++ end_array ∷ [])
  text (empty_object w) = begin_object ∷ (w ++ end_object ∷ [])
  text (object ps) = begin_object ∷ (pairs_text ps ++ end_object ∷ [])

  pub elements_text : Elements → List ℕ
  elements_text (last_element v s w) = v ++ (text s ++ w)
  elements_text (element v s w es) = v ++ (text s ++ (w ++ value_separator ∷ elements_text es))

  pub pairs_text : Pairs → List ℕ
  pairs_text (last_pair a k b c s d) = a ++ (text k ++ (b ++ name_separator ∷ (c ++ (text s ++ d))))
  pairs_text (pair a k b c s d ps) =
      a ++ (text k ++ (b ++ name_separator ∷ (c ++ (text s ++ (d ++ value_separator ∷ pairs_text ps)))))

abbrev pub AreWhite : List ℕ → Type 0
AreWhite [] = ⊤
AreWhite (c ∷ cs) = IsTrue (is_white c) × AreWhite cs

abbrev pub IsPiece : Piece → Type 0
IsPiece (plain c) = IsScalar c × (space ≤ c) × IsTrue (not ((c == quotation_mark) || (c == reverse_solidus)))
IsPiece (escape c) = IsSome (short_escape c)
IsPiece (unit a b c d) =
    IsTrue (is_hex a) × IsTrue (is_hex b) × IsTrue (is_hex c) × IsTrue (is_hex d)

abbrev pub ArePieces : List Piece → Type 0
ArePieces [] = ⊤
ArePieces (p ∷ ps) = IsPiece p × ArePieces ps

-- The parts are what they are called.
abbrev mutual
  pub IsSpelled : Syntax → Type 0
  IsSpelled null = ⊤
  IsSpelled (boolean b) = ⊤
  IsSpelled (number n) = IsNumeral n
  IsSpelled (string ps) = ArePieces ps
  IsSpelled (empty_array w) = AreWhite w
  IsSpelled (array es) = AreElements es
  IsSpelled (empty_object w) = AreWhite w
  IsSpelled (object ps) = ArePairs ps

  pub AreElements : Elements → Type 0
  AreElements (last_element v s w) = AreWhite v × IsSpelled s × AreWhite w
  AreElements (element v s w es) = AreWhite v × IsSpelled s × AreWhite w × AreElements es

  pub ArePairs : Pairs → Type 0
  ArePairs (last_pair a k b c s d) =
      AreWhite a × IsSpelled k × AreWhite b × AreWhite c × IsSpelled s × AreWhite d
  ArePairs (pair a k b c s d ps) =
      AreWhite a × IsSpelled k × AreWhite b × AreWhite c × IsSpelled s × AreWhite d × ArePairs ps

abbrev pub unit_value : ℕ → ℕ → ℕ → ℕ → ℕ
unit_value a b c d = unit_of 0 (a ∷ b ∷ c ∷ d ∷ [])

-- the code that a piece stands for
abbrev pub code : Piece → ℕ
code (plain c) = c
code (escape c) = unwrap_or (short_escape c) 0
code (unit a b c d) = unit_value a b c d

abbrev pub piece_codes : List Piece → List ℕ
piece_codes [] = []
piece_codes (p ∷ ps) = code p ∷ piece_codes ps

-- The tree of a value. What the four conditions of the grammar rule out has some tree too.
abbrev mutual
  pub tree_of : Syntax → tree.Tree
  tree_of null = tree.null
  tree_of (boolean b) = tree.boolean b
  tree_of (number n) = tree.number (value n)
  tree_of (string ps) = tree.string (decode (piece_codes ps))
  tree_of (empty_array w) = tree.array tree.no_items
  tree_of (array es) = tree.array (tree.items_of (elements_trees es))
  tree_of (empty_object w) = tree.object tree.no_members
  tree_of (object ps) = tree.object (pairs_members tree.no_members ps)

  pub elements_trees : Elements → List tree.Tree
  elements_trees (last_element v s w) = tree_of s ∷ []
  elements_trees (element v s w es) = tree_of s ∷ elements_trees es

  -- of equal keys the last stays
  pub pairs_members : tree.Members → Pairs → tree.Members
  pairs_members ms (last_pair a k b c s d) = tree.put (tree.key_of (tree_of k)) (tree_of s) ms
  pairs_members ms (pair a k b c s d ps) =
      pairs_members (tree.put (tree.key_of (tree_of k)) (tree_of s) ms) ps

abbrev pub is_key : Syntax → Bool
is_key (string ps) = true
is_key null = false
is_key (boolean b) = false
is_key (number n) = false
is_key (empty_array w) = false
is_key (array es) = false
is_key (empty_object w) = false
is_key (object ps) = false

-- The four conditions: no leading zero, the power in range, surrogates in pairs, keys are strings.
abbrev mutual
  pub IsStrictAt : Width → Syntax → Type 0
  IsStrictAt width null = ⊤
  IsStrictAt width (boolean b) = ⊤
  IsStrictAt width (number n) =
      IsTrue (not (has_leading_zero n.integer)) × IsTrue (fits_in width (value n))
  IsStrictAt width (string ps) = IsTrue (paired (piece_codes ps))
  IsStrictAt width (empty_array w) = ⊤
  IsStrictAt width (array es) = ElementsAreStrictAt width es
  IsStrictAt width (empty_object w) = ⊤
  IsStrictAt width (object ps) = PairsAreStrictAt width ps

  pub ElementsAreStrictAt : Width → Elements → Type 0
  ElementsAreStrictAt width (last_element v s w) = IsStrictAt width s
  ElementsAreStrictAt width (element v s w es) = IsStrictAt width s × ElementsAreStrictAt width es

  pub PairsAreStrictAt : Width → Pairs → Type 0
  PairsAreStrictAt width (last_pair a k b c s d) =
      IsTrue (is_key k) × IsStrictAt width k × IsStrictAt width s
  PairsAreStrictAt width (pair a k b c s d ps) =
      IsTrue (is_key k) × IsStrictAt width k × IsStrictAt width s × PairsAreStrictAt width ps

abbrev pub IsStrict : Syntax → Type 0
IsStrict s = IsStrictAt power_width s

abbrev pub ElementsAreStrict : Elements → Type 0
ElementsAreStrict es = ElementsAreStrictAt power_width es

abbrev pub PairsAreStrict : Pairs → Type 0
PairsAreStrict ps = PairsAreStrictAt power_width ps

-- how many containers are open at once at the most
abbrev mutual
  pub depth : Syntax → ℕ
  depth null = 0
  depth (boolean b) = 0
  depth (number n) = 0
  depth (string ps) = 0
  depth (empty_array w) = 1
  depth (array es) = 1 + elements_depth es
  depth (empty_object w) = 1
  depth (object ps) = 1 + pairs_depth ps

  pub elements_depth : Elements → ℕ
  elements_depth (last_element v s w) = depth s
  elements_depth (element v s w es) = max (depth s) (elements_depth es)

  pub pairs_depth : Pairs → ℕ
  pairs_depth (last_pair a k b c s d) = max (depth k) (depth s)
  pairs_depth (pair a k b c s d ps) = max (max (depth k) (depth s)) (pairs_depth ps)

-- no limit, or at most that
abbrev pub IsWithin : Option ℕ → ℕ → Type 0
IsWithin None n = ⊤
IsWithin (Some limit) n = n ≤ limit
