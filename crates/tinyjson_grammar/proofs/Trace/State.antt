-- What was read, in each state of the machine.
use Rattle.std.proofs.Common.{◌≡◌, ℕ, ◌+◌, ◌<◌, ◌≤◌, Bool, true, false, List, [], ◌∷◌, ◌++◌, Option, Some, None, refl, append_assoc, arith}
use Rattle.std.proofs.Common.{length, subst, IsTrue}
use Rattle.std.specs.Prelude.{⊤, IfSome}
use Rattle.tinyjson_grammar.specs.Tree.{key_of, no_members, put}
use Rattle.tinyjson_grammar.specs.Characters.{unit_of, decode, paired}
use Rattle.tinyjson_number.specs.Numeral.{numeral, Numeral, Exponent, IsExponent, AreDigits, has_leading_zero, minus_text, fraction_text}
use Rattle.tinyjson_number.specs.Numeral.{sign_text, value, in_range, is_sign, is_exponent_letter}
use Rattle.tinyjson_grammar.specs.Syntax.{Syntax, text, AreWhite, IsSpelled, depth, IsWithin, tree_of, Piece, unit, ArePieces, piece_codes}
use Rattle.tinyjson_grammar.specs.Syntax.{pieces_text}
use Rattle.tinyjson_grammar.specs.Grammar.{IsLoose}
use Rattle.tinyjson_grammar.specs.Prefix.{IsValue, IsLooselyViable}
use Rattle.tinyjson_grammar.specs.Machine.{Frame, Phase, first, awaited, literal, digits, quoted, colon, after, finished, Stage, Within}
use Rattle.tinyjson_grammar.specs.Machine
use Rattle.tinyjson_grammar.specs.Refusal.{IsLiteral, IsHex, EndsBefore}
use Rattle.tinyjson_grammar.proofs.Trace.Paths.{IsKey, Path, outside, item_in, key_in, value_in, path_text, path_frames, trees_of}
use Rattle.tinyjson_grammar.proofs.Trace.Paths.{members_from, level, IsPath, within_le, closes, closing}

-- ---- the part of a number

pub data Part : Type 0 where
  part_minus : Part
  part_integer : Bool → ℕ → List ℕ → Part
  part_point : Bool → ℕ → List ℕ → Part
  part_fraction : Bool → ℕ → List ℕ → ℕ → List ℕ → Part
  part_letter : Bool → ℕ → List ℕ → List ℕ → ℕ → Part
  part_sign : Bool → ℕ → List ℕ → List ℕ → ℕ → ℕ → Part
  part_exponent : Bool → ℕ → List ℕ → List ℕ → ℕ → Option ℕ → ℕ → List ℕ → Part

abbrev pub exponent_with : ℕ → Option ℕ → List ℕ → Exponent
exponent_with l s ds = record { letter = l; sign = s; digits = ds }

abbrev pub part_numeral : Part → Numeral
part_numeral part_minus = numeral true [] [] None
part_numeral (part_integer b d ds) = numeral b (d ∷ ds) [] None
part_numeral (part_point b d ds) = numeral b (d ∷ ds) [] None
part_numeral (part_fraction b d ds e es) = numeral b (d ∷ ds) (e ∷ es) None
part_numeral (part_letter b d ds f l) = numeral b (d ∷ ds) f (Some (exponent_with l None []))
part_numeral (part_sign b d ds f l s) = numeral b (d ∷ ds) f (Some (exponent_with l (Some s) []))
part_numeral (part_exponent b d ds f l s e es) = numeral b (d ∷ ds) f (Some (exponent_with l s (e ∷ es)))

abbrev pub part_stage : Part → Stage
part_stage part_minus = Machine.minus
part_stage (part_integer b d ds) = Machine.integer
part_stage (part_point b d ds) = Machine.point
part_stage (part_fraction b d ds e es) = Machine.fraction
part_stage (part_letter b d ds f l) = Machine.letter
part_stage (part_sign b d ds f l s) = Machine.sign
part_stage (part_exponent b d ds f l s e es) = Machine.exponent

abbrev pub part_text : Part → List ℕ
part_text part_minus = 45 ∷ []
part_text (part_integer b d ds) = minus_text b ++ d ∷ ds
part_text (part_point b d ds) = minus_text b ++ d ∷ (ds ++ 46 ∷ [])
part_text (part_fraction b d ds e es) = minus_text b ++ d ∷ (ds ++ 46 ∷ e ∷ es)
part_text (part_letter b d ds f l) = minus_text b ++ d ∷ (ds ++ (fraction_text f ++ l ∷ []))
part_text (part_sign b d ds f l s) = minus_text b ++ d ∷ (ds ++ (fraction_text f ++ l ∷ s ∷ []))
part_text (part_exponent b d ds f l s e es) = minus_text b ++ d ∷ (ds ++ (fraction_text f ++ l ∷ (sign_text s ++ e ∷ es)))

-- digits with no zero in front
abbrev pub IsIntegerPart : ℕ → List ℕ → Type 0
IsIntegerPart d ds = AreDigits (d ∷ ds) × (has_leading_zero (d ∷ ds) ≡ false)

abbrev pub IsPart : Part → Type 0
IsPart part_minus = ⊤
IsPart (part_integer b d ds) = AreDigits (d ∷ ds)
IsPart (part_point b d ds) = IsIntegerPart d ds
IsPart (part_fraction b d ds e es) = IsIntegerPart d ds × AreDigits (e ∷ es)
IsPart (part_letter b d ds f l) = IsIntegerPart d ds × AreDigits f × IsTrue (is_exponent_letter l)
IsPart (part_sign b d ds f l s) = IsIntegerPart d ds × AreDigits f × IsTrue (is_exponent_letter l) × IsTrue (is_sign s)
IsPart (part_exponent b d ds f l s e es) = IsIntegerPart d ds × AreDigits f × IsTrue (is_exponent_letter l)
    × IfSome s (λ c. IsTrue (is_sign c)) × AreDigits (e ∷ es)

-- each numeral without exponent has an exponent with which it is in range
abbrev pub Ranges : Type 0
Ranges = (b : Bool) (w f : List ℕ) → AreDigits w → AreDigits f
    → (e : Exponent) × IsExponent e × IsTrue (in_range (value (numeral b w f (Some e))))

-- ---- the part of a string

pub record Quad : Type 0 where
  pub a : ℕ
  pub b : ℕ
  pub c : ℕ
  pub d : ℕ

abbrev pub quads : List Quad → List Piece
quads [] = []
quads (q ∷ qs) = unit q.a q.b q.c q.d ∷ quads qs

abbrev pub values : List Quad → List ℕ
values [] = []
values (q ∷ qs) = unit_of 0 (q.a ∷ q.b ∷ q.c ∷ q.d ∷ []) ∷ values qs

-- whatever follows, the pieces stand for these characters
abbrev pub IsSettled : List Piece → List ℕ → Type 0
IsSettled ps cs = (qs : List Piece) → (decode (piece_codes (ps ++ qs)) ≡ cs ++ decode (piece_codes qs))
    × (paired (piece_codes (ps ++ qs)) ≡ paired (piece_codes qs))

abbrev pub within_text : Within → List ℕ
within_text Machine.plain = []
within_text Machine.backslash = 92 ∷ []
within_text (Machine.hex ds) = 92 ∷ 117 ∷ ds

abbrev pub IsPartWithin : Within → Type 0
IsPartWithin Machine.plain = ⊤
IsPartWithin Machine.backslash = ⊤
IsPartWithin (Machine.hex ds) = IsHex ds × (length ds ≤ 3)

-- ---- states

pub data Read : Type 0 where
  at_first : Path → Read
  at_awaited : Path → Read
  in_literal : Path → Syntax → List ℕ → List ℕ → Read
  in_digits : Path → Part → Read
  in_quoted : Path → List Piece → List ℕ → List Quad → Within → Read
  at_after : Path → Syntax → List ℕ → Read

abbrev pub read_text : Read → List ℕ
read_text (at_first p) = path_text p
read_text (at_awaited p) = path_text p
read_text (in_literal p s done left) = path_text p ++ done
read_text (in_digits p n) = path_text p ++ part_text n
read_text (in_quoted p ps cs qs wi) = path_text p ++ 34 ∷ (pieces_text ps ++ (pieces_text (quads qs) ++ within_text wi))
read_text (at_after p s v) = path_text p ++ (text s ++ v)

abbrev pub after_frames : Path → Syntax → List Frame
after_frames (outside w) s = []
after_frames (item_in p es w) s = Machine.in_array (trees_of es ++ tree_of s ∷ []) ∷ path_frames p
after_frames (key_in p ps w) s = Machine.at_key (members_from no_members ps) ∷ path_frames p
after_frames (value_in p ps a k b w) s = Machine.at_key (put (key_of (tree_of k)) (tree_of s) (members_from no_members ps)) ∷ path_frames p

abbrev pub after_phase : Path → Syntax → Phase
after_phase (outside w) s = finished (tree_of s)
after_phase (item_in p es w) s = after
after_phase (key_in p ps w) s = colon (key_of (tree_of s))
after_phase (value_in p ps a k b w) s = after

abbrev pub read_frames : Read → List Frame
read_frames (at_first p) = path_frames p
read_frames (at_awaited p) = path_frames p
read_frames (in_literal p s done left) = path_frames p
read_frames (in_digits p n) = path_frames p
read_frames (in_quoted p ps cs qs wi) = path_frames p
read_frames (at_after p s v) = after_frames p s

abbrev pub read_phase : Read → Phase
read_phase (at_first p) = first
read_phase (at_awaited p) = awaited
read_phase (in_literal p s done left) = literal left (tree_of s)
read_phase (in_digits p n) = digits (part_stage n) (part_numeral n)
read_phase (in_quoted p ps cs qs wi) = quoted wi cs (values qs)
read_phase (at_after p s v) = after_phase p s

-- nothing stands in the container yet
abbrev pub IsFresh : Path → Type 0
IsFresh (outside w) = ⊥
IsFresh (item_in p [] w) = ⊤
IsFresh (item_in p (e ∷ es) w) = ⊥
IsFresh (key_in p [] w) = ⊤
IsFresh (key_in p (q ∷ qs) w) = ⊥
IsFresh (value_in p ps a k b w) = ⊥

-- a key is a string
abbrev pub IsKeyed : Path → Syntax → Type 0
IsKeyed (outside w) s = ⊤
IsKeyed (item_in p es w) s = ⊤
IsKeyed (key_in p ps w) s = IsKey s
IsKeyed (value_in p ps a k b w) s = ⊤

pub record IsWithinLiteral (s : Syntax) (done left : List ℕ) : Type 0 where
  pub value : IsValue s
  pub flat : depth s ≡ 0
  pub is_literal : IsLiteral (text s)
  pub whole : text s ≡ done ++ left
  pub no_number : (rest : List ℕ) → EndsBefore s rest
  pub begun : 0 < length done
  pub more : 0 < length left

abbrev pub IsRead : Option ℕ → Read → Type 0
IsRead limit (at_first p) = IsPath limit p × IsFresh p
IsRead limit (at_awaited p) = IsPath limit p
IsRead limit (in_literal p s done left) = IsPath limit p × IsWithinLiteral s done left
IsRead limit (in_digits p n) = IsPath limit p × IsPart n
IsRead limit (in_quoted p ps cs qs wi) = IsPath limit p × ArePieces ps × IsSettled ps cs × ArePieces (quads qs) × IsPartWithin wi
IsRead limit (at_after p s v) = IsPath limit p × IsValue s × IsKeyed p s × IsWithin limit (level p + depth s) × AreWhite v

-- What was read, where the machine is in this state.
pub record Spells (limit : Option ℕ) (used : List ℕ) (fs : List Frame) (q : Phase) : Type 0 where
  pub read : Read
  pub is : IsRead limit read
  pub whole : used ≡ read_text read
  pub frames : fs ≡ read_frames read
  pub phase : q ≡ read_phase read

-- the state that was read
pub after_read : {limit : Option ℕ} {used : List ℕ} (x : Read) → IsRead limit x → used ≡ read_text x
    → Spells limit used (read_frames x) (read_phase x)
after_read x is whole = record { read = x; is = is; whole = whole; frames = refl; phase = refl }

-- ---- a state is viable

pub path_within : (limit : Option ℕ) (p : Path) → IsPath limit p → IsWithin limit (level p + 0)
path_within None p h = tt
path_within (Some l) (outside w) h = omega arith
path_within (Some l) (value_in p ps a k b w) h = omega (arith, h.7)
path_within (Some l) _ h = omega (arith, h.3)

pub flat_within : (limit : Option ℕ) (p : Path) (s : Syntax) → IsPath limit p → depth s ≡ 0 → IsWithin limit (level p + depth s)
flat_within limit p s h e = within_le limit _ _ (path_within limit p h) (rw e (omega arith))

pub loosely_from : (limit : Option ℕ) (xs ys : List ℕ) {zs : List ℕ} → zs ≡ xs ++ ys → IsLoose limit zs → IsLooselyViable limit xs
loosely_from limit xs ys e h = (ys, subst (IsLoose limit) e h)

pub are_white_append : (v w : List ℕ) → AreWhite v → AreWhite w → AreWhite (v ++ w)
are_white_append [] w h i = i
are_white_append (c ∷ cs) w h i = (h.0, are_white_append cs w h.1 i)

pub are_pieces_append : (ps qs : List Piece) → ArePieces ps → ArePieces qs → ArePieces (ps ++ qs)
are_pieces_append [] qs h i = i
are_pieces_append (p ∷ ps) qs h i = (h.0, are_pieces_append ps qs h.1 i)

pub pieces_append : (ps qs : List Piece) → pieces_text (ps ++ qs) ≡ pieces_text ps ++ pieces_text qs
pieces_append [] qs = refl
pieces_append (p ∷ ps) qs = simp (pieces_append ps qs, append_assoc)

-- what a token that was begun may end as
pub record Ending (prefix : List ℕ) : Type 0 where
  pub value : Syntax
  pub spelled : IsSpelled value
  pub flat : depth value ≡ 0
  pub rest : List ℕ
  pub whole : text value ≡ prefix ++ rest

pub ends_loosely : (limit : Option ℕ) (p : Path) → IsPath limit p → (prefix : List ℕ) → Ending prefix
    → IsLooselyViable limit (path_text p ++ prefix)
ends_loosely limit p hp prefix e = loosely_from limit (path_text p ++ prefix) (e.rest ++ closing p) (rw e.whole (simp append_assoc))
    (closes limit p hp e.value e.spelled (flat_within limit p e.value hp e.flat) [] tt)

pub white_loosely : (limit : Option ℕ) (p : Path) → IsPath limit p → (s : Syntax) → IsSpelled s → IsWithin limit (level p + depth s)
    → (v : List ℕ) → AreWhite v → IsLooselyViable limit (path_text p ++ (text s ++ v))
white_loosely limit p hp s hs hd v hv = loosely_from limit (path_text p ++ (text s ++ v)) (closing p) (simp append_assoc)
    (closes limit p hp s hs hd v hv)
