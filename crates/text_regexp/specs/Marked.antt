-- The marked tree of a regular expression; for private contracts.
use Rattle.std.specs.Prelude.{not, ◌≡◌, ◌==◌, ℕ, zero, suc, nat_le, Bool, true, false, ◌&&◌, ◌||◌, cond, List, [], ◌∷◌, ◌++◌}
use Rattle.std.specs.Prelude.{Option, Some, None, is_some, ◌⊎◌}
use Rattle.text_regexp.specs.declared.class.Class.{Class as ClassOf}
use Rattle.text_regexp.specs.declared.class.Item.{Item}
use Rattle.text_regexp.specs.declared.marked.Node.{Node}
use Rattle.text_regexp.specs.declared.marked.Node.TheVariants.{Empty, Class, Assert, Concat', Alternation', Star', UpTo}
use Rattle.text_regexp.specs.Forms.{Form, empty, class, assertion, concat, alternation, repetition, is_in_class, MatchesIn}
use Rattle.text_regexp.specs.Forms.{holds, next_of, last_of}

-- the regular expression of the tree
abbrev pub tree_form : Node → Form
tree_form Empty = empty
tree_form (Class cl mark) = class cl.negated cl.items.items
tree_form (Assert k held) = assertion k
tree_form (Concat' p l q r le re ends lm rm) = concat (tree_form l) (tree_form r)
tree_form (Alternation' p l q r lm rm) = alternation (tree_form l) (tree_form r)
tree_form (Star' p b ends) = repetition (tree_form b) 0 None
tree_form (UpTo cl most left) = repetition (class cl.negated cl.items.items) 0 (Some most)

-- it matches only the empty text
abbrev pub is_empty : Node → Bool
is_empty Empty = true
is_empty (Class cl mark) = false
is_empty (Assert k held) = false
is_empty (Concat' p l q r le re ends lm rm) = false
is_empty (Alternation' p l q r lm rm) = false
is_empty (Star' p b ends) = false
is_empty (UpTo cl most left) = false

-- it matches the empty text
abbrev pub skips : Node → Bool
skips Empty = true
skips (Class cl mark) = false
skips (Assert k held) = held
skips (Concat' p l q r le re ends lm rm) = skips l && skips r
skips (Alternation' p l q r lm rm) = skips l || skips r
skips (Star' p b ends) = true
skips (UpTo cl most left) = true

-- a text can end where the marks are
abbrev pub ends_here : Node → Bool
ends_here Empty = false
ends_here (Class cl mark) = mark
ends_here (Assert k held) = false
ends_here (Concat' p l q r le re ends lm rm) = ends_here r || (ends_here l && re)
ends_here (Alternation' p l q r lm rm) = ends_here l || ends_here r
ends_here (Star' p b ends) = ends_here b
ends_here (UpTo cl most left) = is_some left

-- the tree has a mark, by the flags that it keeps
abbrev pub is_marked : Node → Bool
is_marked Empty = false
is_marked (Class cl mark) = mark
is_marked (Assert k held) = false
is_marked (Concat' p l q r le re ends lm rm) = lm || rm
is_marked (Alternation' p l q r lm rm) = lm || rm
is_marked (Star' p b ends) = is_marked b
is_marked (UpTo cl most left) = is_some left

-- a count, if there is one, is at most so much
abbrev pub is_within : Option ℕ → ℕ → Bool
is_within None most = true
is_within (Some n) most = nat_le n most

-- the flags that the tree keeps are right
abbrev pub IsKept : Node → Type 0
IsKept Empty = Unit {0}
IsKept (Class cl mark) = Unit {0}
IsKept (Assert k held) = Unit {0}
IsKept (Concat' p l q r le re ends lm rm) =
    (le ≡ skips l) × (re ≡ skips r) × (ends ≡ ends_here l) × IsKept l × IsKept r × (lm ≡ is_marked l) × (rm ≡ is_marked r)
IsKept (Alternation' p l q r lm rm) = IsKept l × IsKept r × (lm ≡ is_marked l) × (rm ≡ is_marked r)
IsKept (Star' p b ends) = (ends ≡ ends_here b) × IsKept b
IsKept (UpTo cl most left) = is_within left most ≡ true

-- the list is empty
abbrev pub has_none : List Item → Bool
has_none [] = true
has_none (i ∷ is) = false

-- it is a class that has each character
abbrev pub is_each : Node → Bool
is_each Empty = false
is_each (Class cl mark) = cl.negated && has_none cl.items.items
is_each (Assert k held) = false
is_each (Concat' p l q r le re ends lm rm) = false
is_each (Alternation' p l q r lm rm) = false
is_each (Star' p b ends) = false
is_each (UpTo cl most left) = false

-- it is a repetition of such a class, which matches each text
abbrev pub is_any : Node → Bool
is_any Empty = false
is_any (Class cl mark) = false
is_any (Assert k held) = false
is_any (Concat' p l q r le re ends lm rm) = false
is_any (Alternation' p l q r lm rm) = false
is_any (Star' p b ends) = is_each b
is_any (UpTo cl most left) = false

-- what matches each text is next, or has begun
abbrev pub is_settled : Node → Bool
is_settled Empty = false
is_settled (Class cl mark) = false
is_settled (Assert k held) = false
is_settled (Concat' p l q r le re ends lm rm) = is_settled r || (ends && is_any r)
is_settled (Alternation' p l q r lm rm) = is_settled l || is_settled r
is_settled (Star' p b ends) = ends && is_each b
is_settled (UpTo cl most left) = false

-- from some mark on the regular expression matches the part, between the characters before and after it
abbrev pub Continues : Node → Option ℕ → List ℕ → Option ℕ → Type 0
Continues Empty before ds after = ⊥
Continues (Class cl mark) before ds after = (mark ≡ true) × (ds ≡ [])
Continues (Assert k held) before ds after = ⊥
Continues (Concat' p l q r le re ends lm rm) before ds after =
    Continues r before ds after
    ⊎ ((xs : List ℕ) × (ys : List ℕ) × (ds ≡ xs ++ ys) × Continues l before xs (next_of ys after)
    × MatchesIn (tree_form r) (last_of before xs) ys after)
Continues (Alternation' p l q r lm rm) before ds after = Continues l before ds after ⊎ Continues r before ds after
Continues (Star' p b ends) before ds after =
    (xs : List ℕ) × (ys : List ℕ) × (ds ≡ xs ++ ys) × Continues b before xs (next_of ys after)
    × MatchesIn (repetition (tree_form b) 0 None) (last_of before xs) ys after
Continues (UpTo cl most left) before ds after =
    (n : ℕ) × (left ≡ Some n) × MatchesIn (repetition (class cl.negated cl.items.items) 0 (Some n)) before ds after

-- ---- assertions

-- the tree has no assertion
abbrev pub is_plain : Node → Bool
is_plain Empty = true
is_plain (Class cl mark) = true
is_plain (Assert k held) = false
is_plain (Concat' p l q r le re ends lm rm) = is_plain l && is_plain r
is_plain (Alternation' p l q r lm rm) = is_plain l && is_plain r
is_plain (Star' p b ends) = is_plain b
is_plain (UpTo cl most left) = true

-- its assertions say whether they hold between the two characters
abbrev pub Stands : Node → Option ℕ → Option ℕ → Type 0
Stands Empty before after = Unit {0}
Stands (Class cl mark) before after = Unit {0}
Stands (Assert k held) before after = held ≡ holds k before after
Stands (Concat' p l q r le re ends lm rm) before after = Stands l before after × Stands r before after
Stands (Alternation' p l q r lm rm) before after = Stands l before after × Stands r before after
Stands (Star' p b ends) before after = Stands b before after
Stands (UpTo cl most left) before after = Unit {0}

-- the tree with its assertions, and what it keeps, as they are between the two characters
abbrev pub standing : Option ℕ → Option ℕ → Node → Node
standing before after Empty = Empty
standing before after (Class cl mark) = Class cl mark
standing before after (Assert k held) = Assert k (holds k before after)
standing before after (Concat' p l q r le re ends lm rm) =
    Concat' p (standing before after l) q (standing before after r) (skips (standing before after l)) (skips (standing before after r))
    (ends_here (standing before after l)) lm rm
standing before after (Alternation' p l q r lm rm) = Alternation' p (standing before after l) q (standing before after r) lm rm
standing before after (Star' p b ends) = Star' p (standing before after b) (ends_here (standing before after b))
standing before after (UpTo cl most left) = UpTo cl most left

-- The second tree is a copy of the first.
pub record IsCopy (n m : Node) : Type 0 where
  pub form : tree_form m ≡ tree_form n
  pub skipped : skips m ≡ skips n
  pub ended : ends_here m ≡ ends_here n
  pub marked : is_marked m ≡ is_marked n
  pub plain : is_plain m ≡ is_plain n
  pub kept : IsKept n → IsKept m
  pub stood : (before after : Option ℕ) → Stands n before after → Stands m before after

-- one less; none of zero
abbrev pub less_one : ℕ → Option ℕ
less_one zero = None
less_one (suc n) = Some n

-- how many characters of the class may follow one, if that count may begin with it
abbrev pub fewer : ClassOf → Option ℕ → ℕ → Option ℕ
fewer cl None c = None
fewer cl (Some n) c = cond (is_in_class cl.negated cl.items.items c) (less_one n) None

-- the tree with its marks moved over a character; with `start` a text may begin with it
abbrev pub shifted : Bool → ℕ → Node → Node
shifted start c Empty = Empty
shifted start c (Class cl mark) = Class cl (start && is_in_class cl.negated cl.items.items c)
shifted start c (Assert k held) = Assert k held
shifted start c (Concat' p l q r le re ends lm rm) =
    Concat' p (shifted start c l) q (shifted (ends || (start && le)) c r) le re (ends_here (shifted start c l))
    (is_marked (shifted start c l)) (is_marked (shifted (ends || (start && le)) c r))
shifted start c (Alternation' p l q r lm rm) =
    Alternation' p (shifted start c l) q (shifted start c r) (is_marked (shifted start c l)) (is_marked (shifted start c r))
shifted start c (Star' p b ends) = Star' p (shifted (start || ends) c b) (ends_here (shifted (start || ends) c b))
shifted start c (UpTo cl most left) = UpTo cl most (fewer cl (cond start (Some most) left) c)

-- the tree without marks
abbrev pub cleared : Node → Node
cleared Empty = Empty
cleared (Class cl mark) = Class cl false
cleared (Assert k held) = Assert k held
cleared (Concat' p l q r le re ends lm rm) = Concat' p (cleared l) q (cleared r) le re false false false
cleared (Alternation' p l q r lm rm) = Alternation' p (cleared l) q (cleared r) false false
cleared (Star' p b ends) = Star' p (cleared b) false
cleared (UpTo cl most left) = UpTo cl most None

-- ---- the same as tests

-- both are equal
abbrev pub same_bool : Bool → Bool → Bool
same_bool true b = b
same_bool false b = not b

-- the flags that the tree keeps are right
abbrev pub is_kept : Node → Bool
is_kept Empty = true
is_kept (Class cl mark) = true
is_kept (Assert k held) = true
is_kept (Concat' p l q r le re ends lm rm) =
    same_bool le (skips l) && (same_bool re (skips r) && (same_bool ends (ends_here l)
    && (is_kept l && (is_kept r && (same_bool lm (is_marked l) && same_bool rm (is_marked r))))))
is_kept (Alternation' p l q r lm rm) = is_kept l && (is_kept r && (same_bool lm (is_marked l) && same_bool rm (is_marked r)))
is_kept (Star' p b ends) = same_bool ends (ends_here b) && is_kept b
is_kept (UpTo cl most left) = is_within left most

-- its assertions say whether they hold between the two characters
abbrev pub is_standing : Option ℕ → Option ℕ → Node → Bool
is_standing before after Empty = true
is_standing before after (Class cl mark) = true
is_standing before after (Assert k held) = same_bool held (holds k before after)
is_standing before after (Concat' p l q r le re ends lm rm) = is_standing before after l && is_standing before after r
is_standing before after (Alternation' p l q r lm rm) = is_standing before after l && is_standing before after r
is_standing before after (Star' p b ends) = is_standing before after b
is_standing before after (UpTo cl most left) = true

-- the text is matched from the marks on or, with `start`, from its beginning
abbrev pub reads : Bool → Node → List ℕ → Bool
reads start n [] = ends_here n || (start && skips n)
reads start n (c ∷ cs) = reads false (shifted start c n) cs

-- whether each text is matched that goes on from the marks, or none is, where that is plain
abbrev pub verdict_in : Node → Option Bool
verdict_in n = cond (is_marked n) (cond (is_settled n) (Some true) None) (Some false)

-- ---- marks as a list

-- that there is no count, or that there is one, and which
abbrev pub count_marks : Option ℕ → List ℕ
count_marks None = 0 ∷ []
count_marks (Some n) = 1 ∷ n ∷ []

-- whether there is a mark and, if so, those of the parts
abbrev pub marks_of : Node → List ℕ
marks_of Empty = []
marks_of (Class cl mark) = cond mark 1 0 ∷ []
marks_of (Assert k held) = []
marks_of (Concat' p l q r le re ends lm rm) = cond (lm || rm) (1 ∷ (marks_of l ++ marks_of r)) (0 ∷ [])
marks_of (Alternation' p l q r lm rm) = cond (lm || rm) (1 ∷ (marks_of l ++ marks_of r)) (0 ∷ [])
marks_of (Star' p b ends) = marks_of b
marks_of (UpTo cl most left) = count_marks left

-- the first number, or 0
abbrev pub first : List ℕ → ℕ
first [] = 0
first (m ∷ ms) = m

-- the numbers behind the first one
abbrev pub rest : List ℕ → List ℕ
rest [] = []
rest (m ∷ ms) = ms

-- what is behind the marks of the tree
abbrev pub behind : Node → List ℕ → List ℕ
behind Empty ms = ms
behind (Class cl mark) ms = rest ms
behind (Assert k held) ms = ms
behind (Concat' p l q r le re ends lm rm) ms = cond (first ms == 0) (rest ms) (behind r (behind l (rest ms)))
behind (Alternation' p l q r lm rm) ms = cond (first ms == 0) (rest ms) (behind r (behind l (rest ms)))
behind (Star' p b ends) ms = behind b ms
behind (UpTo cl most left) ms = cond (first ms == 0) (rest ms) (rest (rest ms))

-- a tree without marks, with those of the list
abbrev pub placed : Node → List ℕ → Node
placed Empty ms = Empty
placed (Class cl mark) ms = Class cl (nat_le 1 (first ms))
placed (Assert k held) ms = Assert k held
placed (Concat' p l q r le re ends lm rm) ms =
    cond (first ms == 0) (Concat' p l q r le re ends lm rm)
    (Concat' p (placed l (rest ms)) q (placed r (behind l (rest ms))) le re (ends_here (placed l (rest ms)))
    (is_marked (placed l (rest ms))) (is_marked (placed r (behind l (rest ms)))))
placed (Alternation' p l q r lm rm) ms =
    cond (first ms == 0) (Alternation' p l q r lm rm)
    (Alternation' p (placed l (rest ms)) q (placed r (behind l (rest ms)))
    (is_marked (placed l (rest ms))) (is_marked (placed r (behind l (rest ms)))))
placed (Star' p b ends) ms = Star' p (placed b ms) (ends_here (placed b ms))
placed (UpTo cl most left) ms =
    cond (first ms == 0) (UpTo cl most left)
    (UpTo cl most (cond (nat_le (first (rest ms)) most) (Some (first (rest ms))) None))
