-- The machine that parses tokens; for private contracts.
use Rattle.std.specs.Prelude.{◌≡◌, ℕ, suc, ◌+◌, ◌≤◌, ◌<◌, List, [], ◌∷◌, ◌++◌, length, map, Option, Some, None}
use Rattle.std.specs.Prelude.{option_and_then, Result, Ok, Err}
use Rattle.text_iregexp.specs.declared.error.IRegexpErrorKind.{IRegexpErrorKind}
use Rattle.text_iregexp.specs.declared.error.IRegexpErrorKind.TheVariants as kind
use Rattle.text_regexp.specs.declared.assertion.Assertion.{Assertion}
use Rattle.text_regexp.specs.declared.expression.Expression.{Expression}
use Rattle.text_iregexp.specs.declared.reader.Level.{Level as CodeLevel}
use Rattle.text_regexp.specs.Forms.{AtMost}
use Rattle.text_regexp.specs.Building.{Means, AllMean}
use Rattle.text_iregexp.specs.Limits.{depth_limit, size_limit, branch_size, piece_size, atom_size}
use Rattle.text_iregexp.specs.Grammar.{Token, characters, opened, closed, bar, quantifier, asserted, Regexp, last, branches, Branch}
use Rattle.text_iregexp.specs.Grammar.{nothing, pieces, Piece, once, times, asserts, Atom, character, group, branch_form}
use Rattle.text_iregexp.specs.Grammar.{piece_form, atom_form}

-- what was parsed of a group: the branches that have ended, the pieces of the last one, and the
-- atom after these
pub data Level : Type 0 where
  level : (done : List Branch) (front : List Piece) (end : Option Atom) → Level

-- the innermost group, and those around it
abbrev pub State : Type 0
State = Level × List Level

-- an empty group
abbrev pub fresh : Level
fresh = level [] [] None

-- the pieces, and the last atom as one more, which is not repeated
abbrev pub settled : List Piece → Option Atom → List Piece
settled ps None = ps
settled ps (Some a) = ps ++ once a ∷ []

-- the last atom is not repeated
abbrev pub settle : Level → Level
settle (level bs ps end) = level bs (settled ps end) None

-- one more atom
abbrev pub with_atom : Level → Atom → Level
with_atom (level bs ps end) a = level bs (settled ps end) (Some a)

-- one more assertion, which is not repeated
abbrev pub with_assertion : Level → Assertion → Level
with_assertion (level bs ps end) kind = level bs (settled ps end ++ asserts kind ∷ []) None

-- the pieces as a branch
abbrev pub branch_of : List Piece → Branch
branch_of [] = nothing
branch_of (p ∷ ps) = pieces p (branch_of ps)

-- branches, and the last one
abbrev pub regexp_from : List Branch → Branch → Regexp
regexp_from [] b = last b
regexp_from (c ∷ cs) b = branches c (regexp_from cs b)

-- a branch has ended
abbrev pub barred : Level → Level
barred (level bs ps end) = level (bs ++ branch_of (settled ps end) ∷ []) [] None

-- the group, as if it ended here
abbrev pub regexp_of : Level → Regexp
regexp_of (level bs ps end) = regexp_from bs (branch_of (settled ps end))

-- the last atom is repeated, if there is one
abbrev pub quantified : Level → ℕ → Option ℕ → Option Level
quantified (level bs ps None) least most = None
quantified (level bs ps (Some a)) least most = Some (level bs (ps ++ times a least most ∷ []) None)

-- the state with this innermost group, if there is one
abbrev pub in_state : List Level → Option Level → Option State
in_state ls None = None
in_state ls (Some l) = Some (l, ls)

-- the innermost group ends, and becomes an atom of the one around it
abbrev pub close : Level → List Level → Option State
close l [] = None
close l (o ∷ ls) = Some (with_atom o (group (regexp_of l)), ls)

-- a token is read
abbrev pub advance : State → Token → Option State
advance s (characters negated items) = Some (with_atom s.0 (character negated items), s.1)
advance s opened = Some (fresh, s.0 ∷ s.1)
advance s closed = close s.0 s.1
advance s bar = Some (barred s.0, s.1)
advance s (quantifier least most) = in_state s.1 (quantified s.0 least most)
advance s (asserted kind) = Some (with_assertion s.0 kind, s.1)

-- the tokens are read, one after the other
abbrev pub run : State → List Token → Option State
run s [] = Some s
run s (t ∷ ts) = option_and_then (λ s'. run s' ts) (advance s t)

-- ---- sizes

abbrev pub pieces_size : List Piece → ℕ
pieces_size [] = 0
pieces_size (p ∷ ps) = piece_size p + pieces_size ps

abbrev pub end_size : Option Atom → ℕ
end_size None = 0
end_size (Some a) = atom_size a

-- branches, each with the bar after it
abbrev pub branches_size : List Branch → ℕ
branches_size [] = 0
branches_size (b ∷ bs) = branch_size b + suc (branches_size bs)

abbrev pub level_size : Level → ℕ
level_size (level bs ps end) = branches_size bs + (pieces_size ps + end_size end)

-- levels, each with the parenthesis after it
abbrev pub outer_size : List Level → ℕ
outer_size [] = 0
outer_size (l ∷ ls) = suc (level_size l + outer_size ls)

abbrev pub state_size : State → ℕ
state_size s = level_size s.0 + outer_size s.1

-- ---- the code's levels

-- the node is the atom, or there is neither
abbrev pub MeansEnd : Option Expression → Option Atom → Type 0
MeansEnd None None = Unit {0}
MeansEnd None (Some a) = ⊥
MeansEnd (Some n) None = ⊥
MeansEnd (Some n) (Some a) = Means n (atom_form a)

-- the code's level has these branches, pieces and last atom
pub record Stands (f : CodeLevel) (bs : List Branch) (ps : List Piece) (end : Option Atom) : Type 0 where
  pub done : AllMean f.branches.items (map branch_form bs)
  pub front : AllMean f.pieces.items (map piece_form ps)
  pub ended : MeansEnd f.last end

-- the code's level is that level
abbrev pub StandsAt : CodeLevel → Level → Type 0
StandsAt f (level bs ps end) = Stands f bs ps end

-- the size of the last atom, if there is one
abbrev pub EndSized : ℕ → Option Atom → Type 0
EndSized n None = Unit {0}
EndSized n (Some a) = n ≡ atom_size a

abbrev pub LastSized : CodeLevel → Level → Type 0
LastSized f (level bs ps end) = EndSized f.last_size end

-- The code's level has the size of all that was parsed up to its end, with the groups around it,
-- and that of its last atom.
pub record IsSized (f : CodeLevel) (s : State) : Type 0 where
  pub size : f.size ≡ state_size s
  pub few : state_size s ≤ size_limit
  pub ended : LastSized f s.0

-- the levels around it; in the code's list the innermost is the last
abbrev pub Outer : List CodeLevel → List Level → Type 0
Outer fs [] = fs ≡ []
Outer fs (l ∷ ls) = (gs : List CodeLevel) × (f : CodeLevel) × (fs ≡ gs ++ f ∷ []) × StandsAt f l × IsSized f (l, ls) × Outer gs ls

-- the code's levels are that state
abbrev pub Agrees : CodeLevel → List CodeLevel → State → Type 0
Agrees here outer s = StandsAt here s.0 × IsSized here s × Outer outer s.1

-- the sum, or nothing if it is above the limit
abbrev pub Grows : ℕ → ℕ → Option ℕ → Type 0
Grows n more None = size_limit < n + more
Grows n more (Some m) = (m ≡ n + more) × (m ≤ size_limit)

-- what a quantifier does to a level
abbrev pub Quantifies : CodeLevel → ℕ → Option ℕ → Result (Unit {0}) IRegexpErrorKind → CodeLevel → Type 0
Quantifies old least most (Ok x) new =
    (l : Level) → StandsAt old l
    → (l' : Level) × (quantified l least most ≡ Some l') × StandsAt new l'
    × ((ls : List Level) → IsSized old (l, ls) → IsSized new (l', ls))
Quantifies old least most (Err kind.Invalid) new = (l : Level) → StandsAt old l → quantified l least most ≡ None
Quantifies old least most (Err kind.TooDeep) new = ⊥
Quantifies old least most (Err kind.TooLarge) new =
    (l : Level) → StandsAt old l
    → (l' : Level) × (quantified l least most ≡ Some l') × ((ls : List Level) → IsSized old (l, ls) → size_limit < state_size (l', ls))
Quantifies old least most (Err kind.OutOfMemory) new = Unit {0}

-- what a token does to a state
abbrev pub Takes : CodeLevel → List CodeLevel → Token → Result (Unit {0}) IRegexpErrorKind → CodeLevel → List CodeLevel → Type 0
Takes here outer t (Ok x) here' outer' =
    (s : State) → Agrees here outer s → (s' : State) × (advance s t ≡ Some s') × Agrees here' outer' s'
Takes here outer t (Err kind.Invalid) here' outer' = (s : State) → Agrees here outer s → advance s t ≡ None
Takes here outer t (Err kind.TooDeep) here' outer' = (t ≡ opened) × (depth_limit ≤ length outer)
Takes here outer t (Err kind.TooLarge) here' outer' =
    (s : State) → Agrees here outer s → (s' : State) × (advance s t ≡ Some s') × (size_limit < state_size s')
Takes here outer t (Err kind.OutOfMemory) here' outer' = Unit {0}

-- the first count of a quantifier is at most the second
abbrev pub IsFit : Token → Type 0
IsFit (quantifier least most) = AtMost least most
IsFit t = Unit {0}
