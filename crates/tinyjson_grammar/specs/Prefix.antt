-- What can still become a text (a viable prefix), and what has no error so far.
use Rattle.std.specs.Prelude.{◌≡◌, ℕ, ◌+◌, max, false, List, [], ◌∷◌, ◌++◌, Option, ⊤, ◌⊎◌, IsTrue}
use Rattle.tinyjson_grammar.specs.Characters.{paired}
use Rattle.tinyjson_grammar.specs.Syntax.{Syntax, text, AreWhite, IsSpelled, IsStrict, is_key}
use Rattle.tinyjson_grammar.specs.Syntax.{Piece, pieces_text, ArePieces, piece_codes, depth}
use Rattle.tinyjson_grammar.specs.Syntax.{IsWithin}
use Rattle.tinyjson_grammar.specs.Grammar.{IsLoose, IsAccepted}
use Rattle.tinyjson_grammar.specs.Characters.{begin_array, begin_object, name_separator, quotation_mark, value_separator}

-- A viable prefix: some list, perhaps the empty one, completes it.
abbrev pub IsViable : (List ℕ → Type 0) → List ℕ → Type 0
IsViable P xs = (ys : List ℕ) × P (xs ++ ys)

-- viable in the loose grammar
abbrev pub IsLooselyViable : Option ℕ → List ℕ → Type 0
IsLooselyViable limit xs = IsViable (IsLoose limit) xs

-- ---- texts that end with their first key that is not a string

-- an item with the white space around it; a pair with the white space around its parts
pub record Element : Type 0 where
  pub before : List ℕ
  pub value : Syntax
  pub after : List ℕ

pub record Pair : Type 0 where
  pub before_key : List ℕ
  pub key : Syntax
  pub after_key : List ℕ
  pub before : List ℕ
  pub value : Syntax
  pub after : List ℕ

abbrev pub element_text : Element → List ℕ
element_text e = e.before ++ (text e.value ++ e.after)

abbrev pub pair_text : Pair → List ℕ
pair_text p =
    p.before_key ++ (text p.key ++ (p.after_key ++ name_separator ∷ (p.before ++ (text p.value ++ p.after))))

-- each with a comma after it
abbrev pub elements_before : List Element → List ℕ
elements_before [] = []
elements_before (e ∷ es) = element_text e ++ value_separator ∷ elements_before es

abbrev pub pairs_before : List Pair → List ℕ
pairs_before [] = []
pairs_before (p ∷ ps) = pair_text p ++ value_separator ∷ pairs_before ps

-- a value of the grammar
pub record IsValue (s : Syntax) : Type 0 where
  pub spelled : IsSpelled s
  pub strict : IsStrict s

pub record IsElement (e : Element) : Type 0 where
  pub before : AreWhite e.before
  pub value : IsValue e.value
  pub after : AreWhite e.after

pub record IsPair (p : Pair) : Type 0 where
  pub before_key : AreWhite p.before_key
  pub is_key : IsTrue (is_key p.key)
  pub key : IsValue p.key
  pub after_key : AreWhite p.after_key
  pub before : AreWhite p.before
  pub value : IsValue p.value
  pub after : AreWhite p.after

abbrev pub AreElementsBefore : List Element → Type 0
AreElementsBefore [] = ⊤
AreElementsBefore (e ∷ es) = IsElement e × AreElementsBefore es

abbrev pub ArePairsBefore : List Pair → Type 0
ArePairsBefore [] = ⊤
ArePairsBefore (p ∷ ps) = IsPair p × ArePairsBefore ps

-- A container that is left open after its first key that is not a string.
pub data CutOff : Type 0 where
  bad_key : List Pair → List ℕ → Syntax → CutOff
  in_key : List Pair → List ℕ → CutOff → CutOff
  in_member : List Pair → List ℕ → List Piece → List ℕ → List ℕ → CutOff → CutOff
  in_item : List Element → List ℕ → CutOff → CutOff

abbrev pub cut_off_text : CutOff → List ℕ
cut_off_text (bad_key ps w s) = begin_object ∷ (pairs_before ps ++ (w ++ text s))
cut_off_text (in_key ps w b) = begin_object ∷ (pairs_before ps ++ (w ++ cut_off_text b))
cut_off_text (in_member ps w k v u b) =
    begin_object ∷ (pairs_before ps ++ (w ++ quotation_mark ∷ (pieces_text k
    ++ quotation_mark ∷ (v ++ name_separator ∷ (u ++ cut_off_text b)))))
cut_off_text (in_item es w b) = begin_array ∷ (elements_before es ++ (w ++ cut_off_text b))

abbrev pub IsCutOff : CutOff → Type 0
IsCutOff (bad_key ps w s) = ArePairsBefore ps × AreWhite w × IsValue s × (is_key s ≡ false)
IsCutOff (in_key ps w b) = ArePairsBefore ps × AreWhite w × IsCutOff b
IsCutOff (in_member ps w k v u b) =
    ArePairsBefore ps × AreWhite w × ArePieces k × IsTrue (paired (piece_codes k))
    × AreWhite v × AreWhite u × IsCutOff b
IsCutOff (in_item es w b) = AreElementsBefore es × AreWhite w × IsCutOff b

abbrev pub elements_deepest : List Element → ℕ
elements_deepest [] = 0
elements_deepest (e ∷ es) = max (depth e.value) (elements_deepest es)

abbrev pub pairs_deepest : List Pair → ℕ
pairs_deepest [] = 0
pairs_deepest (p ∷ ps) = max (max (depth p.key) (depth p.value)) (pairs_deepest ps)

abbrev pub cut_off_depth : CutOff → ℕ
cut_off_depth (bad_key ps w s) = 1 + max (pairs_deepest ps) (depth s)
cut_off_depth (in_key ps w b) = 1 + max (pairs_deepest ps) (cut_off_depth b)
cut_off_depth (in_member ps w k v u b) = 1 + max (pairs_deepest ps) (cut_off_depth b)
cut_off_depth (in_item es w b) = 1 + max (elements_deepest es) (cut_off_depth b)

-- white space and a CutOff
pub record IsCutOffText (limit : Option ℕ) (xs : List ℕ) : Type 0 where
  pub before : List ℕ
  pub cut_off : CutOff
  pub white_before : AreWhite before
  pub is_cut_off : IsCutOff cut_off
  pub shallow : IsWithin limit (cut_off_depth cut_off)
  pub whole : xs ≡ before ++ cut_off_text cut_off

-- No error has come yet, or the first one just now, a key that is not a string. So some list, perhaps the
-- empty one, completes it to a text, or to one that ends with its first key that is not a string. That
-- includes `{1`, though no text begins so, and not `{1:`.
abbrev pub IsErrorFree : Option ℕ → List ℕ → Type 0
IsErrorFree limit xs = IsViable (λ ys. IsAccepted limit ys ⊎ IsCutOffText limit ys) xs
