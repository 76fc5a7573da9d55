-- Marks as a list.
use Rattle.std.proofs.Common.{◌≡◌, ℕ, ◌==◌, Bool, true, false, ◌&&◌, ◌||◌, List, [], ◌∷◌, ◌++◌, Option, Some, None}
use Rattle.std.proofs.Common.{cond, nat_le, refl, sym, ap, ◌∙◌, subst}
use Rattle.std.proofs.Common.{append_assoc, append-nil}
use Rattle.text_regexp.specs.Marked.{skips, ends_here, is_marked, is_within, IsKept, cleared, shifted, first, rest, behind}
use Rattle.text_regexp.specs.Marked.{placed, is_plain}
use Rattle.text_regexp.specs.Marked.{marks_of, reads, standing, verdict_in}
use Rattle.text_regexp.specs.declared.marked.Node.{Node}
use Rattle.text_regexp.specs.declared.marked.Node.TheVariants.{Empty, Class, Assert, Concat', Alternation', Star', UpTo}
use Rattle.text_regexp.proofs.Marking.{kept_shifted}
use Rattle.text_regexp.proofs.Running.{cleared_unmarked, standing_cleared}

-- ---- the tree without marks stays the same

pub cleared_shifted : (n : Node) (start : Bool) (c : ℕ) → cleared (shifted start c n) ≡ cleared n
cleared_shifted Empty start c = refl
cleared_shifted (Class cl mark) start c = refl
cleared_shifted (Assert kind held) start c = refl
cleared_shifted (Concat' p l q r le re ends lm rm) start c =
    let a = cleared_shifted l start c in
    let b = cleared_shifted r (ends || (start && le)) c in
    cc
cleared_shifted (Alternation' p l q r lm rm) start c =
    let a = cleared_shifted l start c in
    let b = cleared_shifted r start c in
    cc
cleared_shifted (Star' p b ends) start c = let a = cleared_shifted b (start || ends) c in cc
cleared_shifted (UpTo cl most left) start c = refl

-- the tree without marks, between two characters, stays the same where it stands elsewhere
pub stood_on : (n m o : Node) (b a : Option ℕ) → m ≡ standing b a n → standing None None (cleared n) ≡ o
    → standing None None (cleared m) ≡ o
stood_on n m o b a stood same = ap (λ x. standing None None (cleared x)) stood ∙ (standing_cleared None None b a n ∙ same)

-- and where the marks are moved
pub moved_on : (n m o : Node) (start : Bool) (c : ℕ) → m ≡ shifted start c n → standing None None (cleared n) ≡ o
    → standing None None (cleared m) ≡ o
moved_on n m o start c moved same = ap (standing None None) (ap cleared moved ∙ cleared_shifted n start c) ∙ same

-- what both have
both_have : {A : Type 0} (P : A → Type 0) (b : Bool) (x y : A) → P x → P y → P (cond b x y)
both_have P true x y h k = h
both_have P false x y h k = k

-- what the one that is taken has
one_has : {A : Type 0} (P : A → Type 0) (b : Bool) (x y : A) → P x → (b ≡ false → P y) → P (cond b x y)
one_has P true x y h k = h
one_has P false x y h k = k refl

pub cleared_placed : (n : Node) (ms : List ℕ) → cleared (placed n ms) ≡ cleared n
cleared_placed Empty ms = refl
cleared_placed (Class cl mark) ms = refl
cleared_placed (Assert kind held) ms = refl
cleared_placed (Concat' p l q r le re ends lm rm) ms =
    let a = cleared_placed l (rest ms) in
    let b = cleared_placed r (behind l (rest ms)) in
    both_have (λ n. cleared n ≡ cleared (Concat' p l q r le re ends lm rm)) (first ms == 0) _ _ refl cc
cleared_placed (Alternation' p l q r lm rm) ms =
    let a = cleared_placed l (rest ms) in
    let b = cleared_placed r (behind l (rest ms)) in
    both_have (λ n. cleared n ≡ cleared (Alternation' p l q r lm rm)) (first ms == 0) _ _ refl cc
cleared_placed (Star' p b ends) ms = let a = cleared_placed b ms in cc
cleared_placed (UpTo cl most left) ms = both_have (λ n. cleared n ≡ UpTo cl most None) (first ms == 0) _ _ refl refl

-- ---- what is kept

skips_placed : (n : Node) (ms : List ℕ) → skips (placed n ms) ≡ skips n
skips_placed Empty ms = refl
skips_placed (Class cl mark) ms = refl
skips_placed (Assert kind held) ms = refl
skips_placed (Concat' p l q r le re ends lm rm) ms =
    let a = skips_placed l (rest ms) in
    let b = skips_placed r (behind l (rest ms)) in
    both_have (λ n. skips n ≡ (skips l && skips r)) (first ms == 0) _ _ refl cc
skips_placed (Alternation' p l q r lm rm) ms =
    let a = skips_placed l (rest ms) in
    let b = skips_placed r (behind l (rest ms)) in
    both_have (λ n. skips n ≡ (skips l || skips r)) (first ms == 0) _ _ refl cc
skips_placed (Star' p b ends) ms = refl
skips_placed (UpTo cl most left) ms = both_have (λ n. skips n ≡ true) (first ms == 0) _ _ refl refl

pub plain_placed : (n : Node) (ms : List ℕ) → is_plain (placed n ms) ≡ is_plain n
plain_placed Empty ms = refl
plain_placed (Class cl mark) ms = refl
plain_placed (Assert kind held) ms = refl
plain_placed (Concat' p l q r le re ends lm rm) ms =
    let a = plain_placed l (rest ms) in
    let b = plain_placed r (behind l (rest ms)) in
    both_have (λ n. is_plain n ≡ (is_plain l && is_plain r)) (first ms == 0) _ _ refl cc
plain_placed (Alternation' p l q r lm rm) ms =
    let a = plain_placed l (rest ms) in
    let b = plain_placed r (behind l (rest ms)) in
    both_have (λ n. is_plain n ≡ (is_plain l && is_plain r)) (first ms == 0) _ _ refl cc
plain_placed (Star' p b ends) ms = plain_placed b ms
plain_placed (UpTo cl most left) ms = both_have (λ n. is_plain n ≡ true) (first ms == 0) _ _ refl refl

within_cond : (n most : ℕ) (b : Bool) → nat_le n most ≡ b → is_within (cond b (Some n) None) most ≡ true
within_cond n most true e = e
within_cond n most false e = refl

pub kept_placed : (n : Node) (ms : List ℕ) → IsKept n → IsKept (placed n ms)
kept_placed Empty ms k = tt
kept_placed (Class cl mark) ms k = tt
kept_placed (Assert kind held) ms k = tt
kept_placed (Concat' p l q r le re ends lm rm) ms k =
    both_have IsKept (first ms == 0) _ _ k (
      k.0 ∙ sym (skips_placed l (rest ms)),
      k.1 ∙ sym (skips_placed r (behind l (rest ms))),
      refl,
      kept_placed l (rest ms) k.3,
      kept_placed r (behind l (rest ms)) k.4,
      refl,
      refl,
    )
kept_placed (Alternation' p l q r lm rm) ms k =
    both_have IsKept (first ms == 0) _ _ k (kept_placed l (rest ms) k.0, kept_placed r (behind l (rest ms)) k.1, refl, refl)
kept_placed (Star' p b ends) ms k = (refl, kept_placed b ms k.1)
kept_placed (UpTo cl most left) ms k =
    both_have IsKept (first ms == 0) _ _ k (within_cond (first (rest ms)) most (nat_le (first (rest ms)) most) refl)

-- ---- from the tree to its list and back

behind_back : (t : Node) (more : List ℕ) → IsKept t → behind (cleared t) (marks_of t ++ more) ≡ more
behind_back Empty more k = refl
behind_back (Class cl mark) more k = refl
behind_back (Assert kind held) more k = refl
behind_back (Concat' p l q r le re ends lm rm) more k =
    both_have (λ ms. behind (cleared (Concat' p l q r le re ends lm rm)) (ms ++ more) ≡ more) (lm || rm)
    (1 ∷ (marks_of l ++ marks_of r)) (0 ∷ [])
    (ap (λ ms. behind (cleared r) (behind (cleared l) ms)) (append_assoc (marks_of l) (marks_of r) more)
    ∙ (ap (behind (cleared r)) (behind_back l (marks_of r ++ more) k.3) ∙ behind_back r more k.4)) refl
behind_back (Alternation' p l q r lm rm) more k =
    both_have (λ ms. behind (cleared (Alternation' p l q r lm rm)) (ms ++ more) ≡ more) (lm || rm) (1 ∷ (marks_of l ++ marks_of r)) (0 ∷ [])
    (ap (λ ms. behind (cleared r) (behind (cleared l) ms)) (append_assoc (marks_of l) (marks_of r) more)
    ∙ (ap (behind (cleared r)) (behind_back l (marks_of r ++ more) k.0) ∙ behind_back r more k.1)) refl
behind_back (Star' p b ends) more k = behind_back b more k.1
behind_back (UpTo cl most None) more k = refl
behind_back (UpTo cl most (Some n)) more k = refl

mark_back : (mark : Bool) → nat_le 1 (cond mark 1 0) ≡ mark
mark_back true = refl
mark_back false = refl

placed_back : (t : Node) (more : List ℕ) → IsKept t → placed (cleared t) (marks_of t ++ more) ≡ t
placed_back Empty more k = refl
placed_back (Class cl mark) more k = ap (Class cl) (mark_back mark)
placed_back (Assert kind held) more k = refl
placed_back (Concat' p l q r le re ends lm rm) more k =
    let split = append_assoc (marks_of l) (marks_of r) more in
    let left = ap (placed (cleared l)) split ∙ placed_back l (marks_of r ++ more) k.3 in
    let right =
    ap (placed (cleared r)) (ap (behind (cleared l)) split ∙ behind_back l (marks_of r ++ more) k.3) ∙ placed_back r more k.4 in
    let one = k.2 in
    let two = k.5 in
    let three = k.6 in
    one_has (λ ms. placed (cleared (Concat' p l q r le re ends lm rm)) (ms ++ more) ≡ Concat' p l q r le re ends lm rm) (lm || rm)
    (1 ∷ (marks_of l ++ marks_of r)) (0 ∷ [])
    (cc) (λ e. sym (cleared_unmarked (Concat' p l q r le re ends lm rm) k e))
placed_back (Alternation' p l q r lm rm) more k =
    let split = append_assoc (marks_of l) (marks_of r) more in
    let left = ap (placed (cleared l)) split ∙ placed_back l (marks_of r ++ more) k.0 in
    let right =
    ap (placed (cleared r)) (ap (behind (cleared l)) split ∙ behind_back l (marks_of r ++ more) k.0) ∙ placed_back r more k.1 in
    let two = k.2 in
    let three = k.3 in
    one_has (λ ms. placed (cleared (Alternation' p l q r lm rm)) (ms ++ more) ≡ Alternation' p l q r lm rm) (lm || rm)
    (1 ∷ (marks_of l ++ marks_of r)) (0 ∷ [])
    (cc) (λ e. sym (cleared_unmarked (Alternation' p l q r lm rm) k e))
placed_back (Star' p b ends) more k = let a = placed_back b more k.1 in let one = k.0 in cc
placed_back (UpTo cl most None) more k = refl
placed_back (UpTo cl most (Some n)) more k = ap (λ b. UpTo cl most (cond b (Some n) None)) k

-- ---- no list

pub placed_none : (n : Node) → IsKept n → is_marked n ≡ false → placed n [] ≡ n
placed_none Empty k h = refl
placed_none (Class cl mark) k h = ap (Class cl) (sym h)
placed_none (Assert kind held) k h = refl
placed_none (Concat' p l q r le re ends lm rm) k h = refl
placed_none (Alternation' p l q r lm rm) k h = refl
placed_none (Star' p b ends) k h = let a = placed_none b k.1 h in let one = k.0 in cc
placed_none (UpTo cl most left) k h = refl

-- ---- a tree that was moved, and its list

-- the list of a tree gives the tree back
pub back : (n t : Node) → IsKept n → is_marked n ≡ false → IsKept t → cleared t ≡ cleared n → placed n (marks_of t) ≡ t
back n t k h j e =
    ap (λ x. placed x (marks_of t)) (cleared_unmarked n k h ∙ sym e)
    ∙ (ap (placed (cleared t)) (sym (append-nil (marks_of t))) ∙ placed_back t [] j)

-- a tree that was marked, moved and cleared
module _ (n m : Node) (ms : List ℕ) (start : Bool) (c : ℕ) (kept : IsKept n) (unmarked : is_marked n ≡ false) where
  pub moved_kept : m ≡ shifted start c (placed n ms) → IsKept m
  moved_kept e = subst IsKept (sym e) (kept_shifted (placed n ms) start c (kept_placed n ms kept))

  moved_clear : m ≡ shifted start c (placed n ms) → cleared m ≡ cleared n
  moved_clear e = ap cleared e ∙ (cleared_shifted (placed n ms) start c ∙ cleared_placed n ms)

  pub moved_same : (o : Node) → m ≡ shifted start c (placed n ms) → o ≡ cleared m → o ≡ n
  moved_same o e same = same ∙ (moved_clear e ∙ sym (cleared_unmarked n kept unmarked))

  -- its list gives it back
  moved_back : (list : List ℕ) → m ≡ shifted start c (placed n ms) → list ≡ [] ++ marks_of m → placed n list ≡ m
  moved_back list e is = ap (placed n) is ∙ back n m kept unmarked (moved_kept e) (moved_clear e)

  -- what is kept of it is right
  pub after_right : (list : List ℕ) (ends : Bool) (verdict : Option Bool) → m ≡ shifted start c (placed n ms) → list ≡ [] ++ marks_of m
      → ends ≡ ends_here m → verdict ≡ verdict_in m → (ends ≡ ends_here (placed n list)) × (verdict ≡ verdict_in (placed n list))
  after_right list ends verdict e is f v =
      let same = sym (moved_back list e is) in
      (f ∙ ap ends_here same, v ∙ ap verdict_in same)

  pub after_reads : (list cs : List ℕ) → m ≡ shifted start c (placed n ms) → list ≡ [] ++ marks_of m
      → reads false (placed n list) cs ≡ reads false (shifted start c (placed n ms)) cs
  after_reads list cs e is = ap (λ t. reads false t cs) (moved_back list e is ∙ e)
