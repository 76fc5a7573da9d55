-- The marks of a tree stand for what may come next.
use Rattle.std.proofs.Common.{◌≡◌, ℕ, zero, suc, ◌≤◌, Bool, true, false, ◌&&◌, ◌||◌, List, [], ◌∷◌, ◌++◌, None, ◌⊎◌, inl, inr}
use Rattle.std.proofs.Common.{length, cond, Option, Some, is_some, refl, sym, ap, ◌∙◌, subst, arith, true≢false}
use Rattle.std.proofs.lemmas.Bool.{and_parts, and_from, or_cases, or_parts, or_from, or_left, or_right, le-leb, leb-true}
use Rattle.text_regexp.specs.Forms.{class, repetition, is_in_class, next_of, last_of, MatchesIn, Parts}
use Rattle.text_regexp.specs.Marked.{tree_form, skips, ends_here, is_marked, IsKept, Continues, shifted, has_none, is_each, is_any}
use Rattle.text_regexp.specs.Marked.{is_settled}
use Rattle.text_regexp.specs.Marked.{is_within, is_plain, less_one, fewer, Stands}
use Rattle.text_regexp.specs.declared.class.Class.{Class as ClassOf}
use Rattle.text_regexp.specs.declared.class.Item.{Item}
use Rattle.text_regexp.specs.declared.marked.Node.{Node}
use Rattle.text_regexp.specs.declared.marked.Node.TheVariants.{Empty, Class, Assert, Concat', Alternation', Star', UpTo}

-- ---- nothing is nothing twice

pub front_empty : (xs ys : List ℕ) → [] ≡ xs ++ ys → xs ≡ []
front_empty [] ys e = refl
front_empty (x ∷ xs) ys e = cc

-- what is so of a part between its neighbours
abbrev Between : Type 1
Between = Option ℕ → List ℕ → Option ℕ → Type 0

none_split : (P Q : Between) (b : Option ℕ) (xs ys : List ℕ) (a : Option ℕ) → [] ≡ xs ++ ys → P b xs (next_of ys a)
    → Q (last_of b xs) ys a → P b [] a × Q b [] a
none_split P Q b [] [] a e p q = (p, q)
none_split P Q b [] (y ∷ ys) a e p q = cc
none_split P Q b (x ∷ xs) ys a e p q = cc

-- ---- the empty text

pub skips_sound : (n : Node) (b a : Option ℕ) → Stands n b a → skips n ≡ true → MatchesIn (tree_form n) b [] a
skips_sound Empty b a s h = refl
skips_sound (Class cl mark) b a s h = absurd (true≢false (sym h))
skips_sound (Assert k held) b a s h = (refl, sym s ∙ h)
skips_sound (Concat' p l q r le re ends lm rm) b a s h =
    let both = and_parts (skips l) (skips r) h in
    ([], [], refl, skips_sound l b a s.0 both.0, skips_sound r b a s.1 both.1)
skips_sound (Alternation' p l q r lm rm) b a s h =
    elim (or_cases (skips l) (skips r) h) [ inl x ↦ inl (skips_sound l b a s.0 x) | inr y ↦ inr (skips_sound r b a s.1 y) ]
skips_sound (Star' p d ends) b a s h = (0, omega arith, tt, refl)
skips_sound (UpTo cl most left) b a s h = (0, omega arith, omega arith, refl)

pub skips_complete : (n : Node) (b a : Option ℕ) → Stands n b a → MatchesIn (tree_form n) b [] a → skips n ≡ true
skips_complete Empty b a s h = refl
skips_complete (Class cl mark) b a s h = let e : [] ≡ h.0 ∷ [] = h.1 in cc
skips_complete (Assert k held) b a s h = s ∙ h.1
skips_complete (Concat' p l q r le re ends lm rm) b a s h =
    let both = none_split (MatchesIn (tree_form l)) (MatchesIn (tree_form r)) b h.0 h.1 a h.2 h.3 h.4 in
    and_from (skips l) (skips r) (skips_complete l b a s.0 both.0) (skips_complete r b a s.1 both.1)
skips_complete (Alternation' p l q r lm rm) b a s h =
    elim h [
      | inl x ↦ or_left (skips l) (skips r) (skips_complete l b a s.0 x)
      | inr y ↦ or_right (skips l) (skips r) (skips_complete r b a s.1 y)
    ]
skips_complete (Star' p d ends) b a s h = refl
skips_complete (UpTo cl most left) b a s h = refl

-- ---- the end of a text

pub ends_sound : (n : Node) (b a : Option ℕ) → IsKept n → Stands n b a → ends_here n ≡ true → Continues n b [] a
ends_sound Empty b a k s h = absurd (true≢false (sym h))
ends_sound (Class cl mark) b a k s h = (h, refl)
ends_sound (Assert kind held) b a k s h = absurd (true≢false (sym h))
ends_sound (Concat' p l q r le re ends lm rm) b a k s h =
    elim (or_cases (ends_here r) (ends_here l && re) h) [
      | inl x ↦ inl (ends_sound r b a k.4 s.1 x)
      | inr y ↦
          let both = and_parts (ends_here l) re y in
          inr ([], [], refl, ends_sound l b a k.3 s.0 both.0, skips_sound r b a s.1 (sym k.1 ∙ both.1))
    ]
ends_sound (Alternation' p l q r lm rm) b a k s h =
    elim (or_cases (ends_here l) (ends_here r) h) [
      | inl x ↦ inl (ends_sound l b a k.0 s.0 x)
      | inr y ↦ inr (ends_sound r b a k.1 s.1 y)
    ]
ends_sound (Star' p d ends) b a k s h = ([], [], refl, ends_sound d b a k.1 s h, (0, omega arith, tt, refl))
ends_sound (UpTo cl most None) b a k s h = absurd (true≢false (sym h))
ends_sound (UpTo cl most (Some n)) b a k s h = (n, refl, (0, omega arith, omega arith, refl))

pub ends_complete : (n : Node) (b a : Option ℕ) → IsKept n → Stands n b a → Continues n b [] a → ends_here n ≡ true
ends_complete Empty b a k s h = absurd h
ends_complete (Class cl mark) b a k s h = h.0
ends_complete (Assert kind held) b a k s h = absurd h
ends_complete (Concat' p l q r le re ends lm rm) b a k s h =
    elim h [
      | inl x ↦ or_left (ends_here r) (ends_here l && re) (ends_complete r b a k.4 s.1 x)
      | inr y ↦
          let both = none_split (Continues l) (MatchesIn (tree_form r)) b y.0 y.1 a y.2 y.3 y.4 in
          or_right (ends_here r) (ends_here l && re)
          (and_from (ends_here l) re (ends_complete l b a k.3 s.0 both.0) (k.1 ∙ skips_complete r b a s.1 both.1))
    ]
ends_complete (Alternation' p l q r lm rm) b a k s h =
    elim h [
      | inl x ↦ or_left (ends_here l) (ends_here r) (ends_complete l b a k.0 s.0 x)
      | inr y ↦ or_right (ends_here l) (ends_here r) (ends_complete r b a k.1 s.1 y)
    ]
ends_complete (Star' p d ends) b a k s h =
    ends_complete d b a k.1 s (none_split (Continues d) (MatchesIn (repetition (tree_form d) 0 None)) b h.0 h.1 a h.2 h.3 h.4).0
ends_complete (UpTo cl most left) b a k s h = ap is_some h.1

-- ---- moving the marks keeps the expression, and what is kept

pub form_shifted : (n : Node) (start : Bool) (c : ℕ) → tree_form (shifted start c n) ≡ tree_form n
form_shifted Empty start c = refl
form_shifted (Class cl mark) start c = refl
form_shifted (Assert kind held) start c = refl
form_shifted (Concat' p l q r le re ends lm rm) start c =
    let a = form_shifted l start c in
    let b = form_shifted r (ends || (start && le)) c in
    cc
form_shifted (Alternation' p l q r lm rm) start c =
    let a = form_shifted l start c in
    let b = form_shifted r start c in
    cc
form_shifted (Star' p b ends) start c = ap (λ f. repetition f 0 None) (form_shifted b (start || ends) c)
form_shifted (UpTo cl most left) start c = refl

pub skips_shifted : (n : Node) (start : Bool) (c : ℕ) → skips (shifted start c n) ≡ skips n
skips_shifted Empty start c = refl
skips_shifted (Class cl mark) start c = refl
skips_shifted (Assert kind held) start c = refl
skips_shifted (Concat' p l q r le re ends lm rm) start c =
    let a = skips_shifted l start c in
    let b = skips_shifted r (ends || (start && le)) c in
    cc
skips_shifted (Alternation' p l q r lm rm) start c =
    let a = skips_shifted l start c in
    let b = skips_shifted r start c in
    cc
skips_shifted (Star' p b ends) start c = refl
skips_shifted (UpTo cl most left) start c = refl

fewer_within : (cl : ClassOf) (n most : ℕ) (c : ℕ) (b : Bool) → n ≤ most → is_within (cond b (less_one n) None) most ≡ true
fewer_within cl n most c false l = refl
fewer_within cl zero most c true l = refl
fewer_within cl (suc n) most c true l = le-leb n most (omega arith)

kept_fewer : (cl : ClassOf) (most : ℕ) (left : Option ℕ) (start : Bool) (c : ℕ) → is_within left most ≡ true
    → is_within (fewer cl (cond start (Some most) left) c) most ≡ true
kept_fewer cl most left true c k = fewer_within cl most most c (is_in_class cl.negated cl.items.items c) (omega arith)
kept_fewer cl most None false c k = refl
kept_fewer cl most (Some n) false c k = fewer_within cl n most c (is_in_class cl.negated cl.items.items c) (leb-true n most k)

pub kept_shifted : (n : Node) (start : Bool) (c : ℕ) → IsKept n → IsKept (shifted start c n)
kept_shifted Empty start c k = tt
kept_shifted (Class cl mark) start c k = tt
kept_shifted (Assert kind held) start c k = tt
kept_shifted (Concat' p l q r le re ends lm rm) start c k = (
  k.0 ∙ sym (skips_shifted l start c),
  k.1 ∙ sym (skips_shifted r (ends || (start && le)) c),
  refl,
  kept_shifted l start c k.3,
  kept_shifted r (ends || (start && le)) c k.4,
  refl,
  refl,
)
kept_shifted (Alternation' p l q r lm rm) start c k = (kept_shifted l start c k.0, kept_shifted r start c k.1, refl, refl)
kept_shifted (Star' p b ends) start c k = (refl, kept_shifted b (start || ends) c k.1)
kept_shifted (UpTo cl most left) start c k = kept_fewer cl most left start c k

-- ---- where no mark is, none moves

pub ends_unmarked : (n : Node) → IsKept n → is_marked n ≡ false → ends_here n ≡ false
ends_unmarked Empty k h = refl
ends_unmarked (Class cl mark) k h = h
ends_unmarked (Assert kind held) k h = refl
ends_unmarked (Concat' p l q r le re ends lm rm) k h =
    let both = or_parts lm rm h in
    or_from (ends_here r) (ends_here l && re) (ends_unmarked r k.4 (sym k.6 ∙ both.1))
    (ap (λ b. b && re) (ends_unmarked l k.3 (sym k.5 ∙ both.0)))
ends_unmarked (Alternation' p l q r lm rm) k h =
    let both = or_parts lm rm h in
    or_from (ends_here l) (ends_here r) (ends_unmarked l k.0 (sym k.2 ∙ both.0)) (ends_unmarked r k.1 (sym k.3 ∙ both.1))
ends_unmarked (Star' p b ends) k h = ends_unmarked b k.1 h
ends_unmarked (UpTo cl most left) k h = h

pub shifted_unmarked : (n : Node) (c : ℕ) → IsKept n → is_marked n ≡ false → shifted false c n ≡ n
shifted_unmarked Empty c k h = refl
shifted_unmarked (Class cl mark) c k h = ap (Class cl) (sym h)
shifted_unmarked (Assert kind held) c k h = refl
shifted_unmarked (Concat' p l q r le re ends lm rm) c k h =
    let both = or_parts lm rm h in
    let still_l : is_marked l ≡ false = sym k.5 ∙ both.0 in
    let still_r : is_marked r ≡ false = sym k.6 ∙ both.1 in
    let a = shifted_unmarked l c k.3 still_l in
    let none : ends ≡ false = k.2 ∙ ends_unmarked l k.3 still_l in
    let b = ap (λ s. shifted (s || (false && le)) c r) none ∙ shifted_unmarked r c k.4 still_r in
    let e = ap ends_here a ∙ sym k.2 in
    let f = ap is_marked a ∙ sym k.5 in
    let g = ap is_marked b ∙ sym k.6 in
    cc
shifted_unmarked (Alternation' p l q r lm rm) c k h =
    let both = or_parts lm rm h in
    let a = shifted_unmarked l c k.0 (sym k.2 ∙ both.0) in
    let b = shifted_unmarked r c k.1 (sym k.3 ∙ both.1) in
    let f = ap is_marked a ∙ sym k.2 in
    let g = ap is_marked b ∙ sym k.3 in
    cc
shifted_unmarked (Star' p b ends) c k h =
    let none : ends ≡ false = k.0 ∙ ends_unmarked b k.1 h in
    let a = ap (λ s. shifted (false || s) c b) none ∙ shifted_unmarked b c k.1 h in
    let e = ap ends_here a ∙ sym k.0 in
    cc
shifted_unmarked (UpTo cl most None) c k h = refl
shifted_unmarked (UpTo cl most (Some n)) c k h = absurd (true≢false h)

-- nothing is done where the text does not begin here and no mark is
pub shifted_still : (n : Node) (start marked : Bool) (c : ℕ) → IsKept n → marked ≡ is_marked n → (start || marked) ≡ false
    → n ≡ shifted start c n
shifted_still n start marked c k e h =
    let both = or_parts start marked h in
    sym (ap (λ b. shifted b c n) both.0 ∙ shifted_unmarked n c k (sym e ∙ both.1))

pub ends_still : (n : Node) (start marked : Bool) → IsKept n → marked ≡ is_marked n → (start || marked) ≡ false → false ≡ ends_here n
ends_still n start marked k e h = sym (ends_unmarked n k (sym e ∙ (or_parts start marked h).1))

-- ---- trees without assertions

pub plain_shifted : (n : Node) (start : Bool) (c : ℕ) → is_plain (shifted start c n) ≡ is_plain n
plain_shifted Empty start c = refl
plain_shifted (Class cl mark) start c = refl
plain_shifted (Assert kind held) start c = refl
plain_shifted (Concat' p l q r le re ends lm rm) start c =
    let a = plain_shifted l start c in
    let b = plain_shifted r (ends || (start && le)) c in
    cc
plain_shifted (Alternation' p l q r lm rm) start c =
    let a = plain_shifted l start c in
    let b = plain_shifted r start c in
    cc
plain_shifted (Star' p d ends) start c = plain_shifted d (start || ends) c
plain_shifted (UpTo cl most left) start c = refl

-- stand everywhere
pub plain_stands : (n : Node) (b a : Option ℕ) → is_plain n ≡ true → Stands n b a
plain_stands Empty b a h = tt
plain_stands (Class cl mark) b a h = tt
plain_stands (Assert kind held) b a h = absurd (true≢false (sym h))
plain_stands (Concat' p l q r le re ends lm rm) b a h =
    let both = and_parts (is_plain l) (is_plain r) h in
    (plain_stands l b a both.0, plain_stands r b a both.1)
plain_stands (Alternation' p l q r lm rm) b a h =
    let both = and_parts (is_plain l) (is_plain r) h in
    (plain_stands l b a both.0, plain_stands r b a both.1)
plain_stands (Star' p d ends) b a h = plain_stands d b a h
plain_stands (UpTo cl most left) b a h = tt

-- ---- a repetition of any number

-- a part of parts, one after the other, each of which P holds of
abbrev Star : Between → Between
Star P b cs a = (n : ℕ) × (0 ≤ n) × Unit {0} × Parts P n b cs a

star_more : (P : Between) (b : Option ℕ) (cs xs ys : List ℕ) (a : Option ℕ) → cs ≡ xs ++ ys → P b xs (next_of ys a)
    → Star P (last_of b xs) ys a → Star P b cs a
star_more P b cs xs ys a e h s = (suc s.0, omega arith, tt, (xs, ys, e, h, s.3))

-- the first part that is not empty
parts_first : (P : Between) (n : ℕ) (b : Option ℕ) (c : ℕ) (ds : List ℕ) (a : Option ℕ) → Parts P n b (c ∷ ds) a
    → (xs : List ℕ) × (ys : List ℕ) × (ds ≡ xs ++ ys) × P b (c ∷ xs) (next_of ys a) × Star P (last_of (Some c) xs) ys a
parts_first P zero b c ds a h = cc
parts_first P (suc n) b c ds a h = by h.0 h.1 h.2 h.3 h.4 (λ k. parts_first P n b c ds a k)
  where
    First : Type 0
    First = (us : List ℕ) × (vs : List ℕ) × (ds ≡ us ++ vs) × P b (c ∷ us) (next_of vs a) × Star P (last_of (Some c) us) vs a

    by : (xs ys : List ℕ) → c ∷ ds ≡ xs ++ ys → P b xs (next_of ys a) → Parts P n (last_of b xs) ys a
        → (Parts P n b (c ∷ ds) a → First) → First
    by [] ys e p q rec = rec (subst (λ zs. Parts P n b zs a) (sym e) q)
    by (x ∷ xs) ys e p q rec =
        let head : x ≡ c = cc in
        let tail : ds ≡ xs ++ ys = cc in (
          xs,
          ys,
          tail,
          subst (λ y. P b (y ∷ xs) (next_of ys a)) head p,
          (n, omega arith, tt, subst (λ y. Parts P n (last_of (Some y) xs) ys a) head q),
        )

-- ---- a repetition of a class, up to so many times

-- a part of at most so many characters of the class
abbrev Few : ClassOf → ℕ → Between
Few cl n b ds a = MatchesIn (repetition (class cl.negated cl.items.items) 0 (Some n)) b ds a

abbrev HasOne : ClassOf → ℕ → Type 0
HasOne cl c = is_in_class cl.negated cl.items.items c ≡ true

few_more : (cl : ClassOf) (n : ℕ) (b : Option ℕ) (c : ℕ) (ds : List ℕ) (a : Option ℕ) → HasOne cl c → Few cl n (Some c) ds a
    → Few cl (suc n) b (c ∷ ds) a
few_more cl n b c ds a e h =
    let count : ℕ = h.0 in
    let bound : count ≤ n = h.2 in
    (suc count, omega arith, omega arith, (c ∷ [], ds, refl, (c, refl, e), h.3))

few_within : (cl : ClassOf) (n m : ℕ) (b : Option ℕ) (ds : List ℕ) (a : Option ℕ) → n ≤ m → Few cl n b ds a → Few cl m b ds a
few_within cl n m b ds a l h =
    let count : ℕ = h.0 in
    let bound : count ≤ n = h.2 in
    (count, omega arith, omega arith, h.3)

-- the first character is one of the class, and one less may follow
abbrev FewAfter : ClassOf → ℕ → ℕ → List ℕ → Option ℕ → Type 0
FewAfter cl n c ds a = (m : ℕ) × (n ≡ suc m) × HasOne cl c × Few cl m (Some c) ds a

few_parts : (cl : ClassOf) (count n : ℕ) (b : Option ℕ) (c : ℕ) (ds : List ℕ) (a : Option ℕ) → count ≤ n
    → Parts (MatchesIn (class cl.negated cl.items.items)) count b (c ∷ ds) a → FewAfter cl n c ds a
few_parts cl zero n b c ds a l h = let e : c ∷ ds ≡ [] = h in cc
few_parts cl (suc count) zero b c ds a l h = absurd (omega arith)
few_parts cl (suc count) (suc n) b c ds a l h =
    by h.0 h.1 h.2 h.3.0 h.3.1 h.3.2 h.4
  where
    P : Between
    P = Parts (MatchesIn (class cl.negated cl.items.items)) count

    by : (xs ys : List ℕ) → c ∷ ds ≡ xs ++ ys → (x : ℕ) → xs ≡ x ∷ [] → HasOne cl x → P (last_of b xs) ys a
        → FewAfter cl (suc n) c ds a
    by xs ys e x one has rest =
        let all : c ∷ ds ≡ x ∷ ys = e ∙ ap (λ us. us ++ ys) one in
        let head : x ≡ c = cc in
        let tail : ys ≡ ds = cc in
        let moved : P (Some x) ys a = subst (λ us. P (last_of b us) ys a) one rest in (
          n,
          refl,
          subst (HasOne cl) head has,
          (count, omega arith, omega arith, subst (λ us. P (Some c) us a) tail (subst (λ y. P (Some y) ys a) head moved)),
        )

few_less : (cl : ClassOf) (n : ℕ) (b : Option ℕ) (c : ℕ) (ds : List ℕ) (a : Option ℕ) → Few cl n b (c ∷ ds) a → FewAfter cl n c ds a
few_less cl n b c ds a h = few_parts cl h.0 n b c ds a h.2 h.3

-- what is left was one more before
fewer_from : (cl : ClassOf) (count : Option ℕ) (n c : ℕ) → fewer cl count c ≡ Some n → (count ≡ Some (suc n)) × HasOne cl c
fewer_from cl None n c e = let f : None ≡ Some n = e in cc
fewer_from cl (Some m) n c e = by (is_in_class cl.negated cl.items.items c) refl m e
  where
    by : (b : Bool) → is_in_class cl.negated cl.items.items c ≡ b → (k : ℕ) → cond b (less_one k) None ≡ Some n
        → (Some k ≡ Some (suc n)) × (is_in_class cl.negated cl.items.items c ≡ true)
    by false f k g = let x : None ≡ Some n = g in cc
    by true f zero g = let x : None ≡ Some n = g in cc
    by true f (suc k) g = let x : Some k ≡ Some n = g in (cc, f)

fewer_to : (cl : ClassOf) (n c : ℕ) → HasOne cl c → fewer cl (Some (suc n)) c ≡ Some n
fewer_to cl n c e = ap (λ b. cond b (Some n) None) e

few_sound : (cl : ClassOf) (most : ℕ) (left : Option ℕ) (start : Bool) (b : Option ℕ) (c : ℕ) (ds : List ℕ) (a : Option ℕ)
    → Continues (UpTo cl most (fewer cl (cond start (Some most) left) c)) (Some c) ds a
    → Continues (UpTo cl most left) b (c ∷ ds) a ⊎ ((start ≡ true) × Few cl most b (c ∷ ds) a)
few_sound cl most left true b c ds a h =
    let n : ℕ = h.0 in
    let from = fewer_from cl (Some most) n c h.1 in
    let some : Some most ≡ Some (suc n) = from.0 in
    let same : suc n ≡ most = cc in
    inr (refl, subst (λ m. Few cl m b (c ∷ ds) a) same (few_more cl n b c ds a from.1 h.2))
few_sound cl most left false b c ds a h =
    let n : ℕ = h.0 in
    let from = fewer_from cl left n c h.1 in
    inl (suc n, from.0, few_more cl n b c ds a from.1 h.2)

few_complete : (cl : ClassOf) (most : ℕ) (left : Option ℕ) (start : Bool) (b : Option ℕ) (c : ℕ) (ds : List ℕ) (a : Option ℕ)
    → is_within left most ≡ true
    → Continues (UpTo cl most left) b (c ∷ ds) a ⊎ ((start ≡ true) × Few cl most b (c ∷ ds) a)
    → Continues (UpTo cl most (fewer cl (cond start (Some most) left) c)) (Some c) ds a
few_complete cl most left true b c ds a k h =
    let all : Few cl most b (c ∷ ds) a = elim h [
      | inl x ↦ few_within cl x.0 most b (c ∷ ds) a (leb-true x.0 most (sym (ap (λ o. is_within o most) x.1) ∙ k)) x.2
      | inr y ↦ y.1
    ] in
    let less = few_less cl most b c ds a all in
    (less.0, ap (λ m. fewer cl (Some m) c) less.1 ∙ fewer_to cl less.0 c less.2, less.3)
few_complete cl most left false b c ds a k h =
    elim h [
      | inl x ↦
          let less = few_less cl x.0 b c ds a x.2 in
          (less.0, ap (λ o. fewer cl o c) x.1 ∙ (ap (λ m. fewer cl (Some m) c) less.1 ∙ fewer_to cl less.0 c less.2), less.3)
      | inr y ↦ absurd (true≢false (sym y.0))
    ]

-- ---- what may come next, once the marks are moved

pub shift_sound : (n : Node) (start : Bool) (b : Option ℕ) (c : ℕ) (ds : List ℕ) (a : Option ℕ) → IsKept n → Stands n b (Some c)
    → Continues (shifted start c n) (Some c) ds a
    → Continues n b (c ∷ ds) a ⊎ ((start ≡ true) × MatchesIn (tree_form n) b (c ∷ ds) a)
shift_sound Empty start b c ds a k s h = absurd h
shift_sound (Class cl mark) start b c ds a k s h =
    let both = and_parts start (is_in_class cl.negated cl.items.items c) h.0 in
    inr (both.0, (c, ap (λ x. c ∷ x) h.1, both.1))
shift_sound (Assert kind held) start b c ds a k s h = absurd h
shift_sound (Concat' p l q r le re ends lm rm) start b c ds a k s h =
    elim h [
      | inl g ↦ elim (shift_sound r (ends || (start && le)) b c ds a k.4 s.1 g) [
        | inl x ↦ inl (inl x)
        | inr x ↦ elim (or_cases ends (start && le) x.0) [
          | inl f ↦ inl (inr ([], c ∷ ds, refl, ends_sound l b (Some c) k.3 s.0 (sym k.2 ∙ f), x.1))
          | inr f ↦
              let both = and_parts start le f in
              inr (both.0, ([], c ∷ ds, refl, skips_sound l b (Some c) s.0 (sym k.0 ∙ both.1), x.1))
        ]
      ]
      | inr g ↦
          let rest : MatchesIn (tree_form r) (last_of (Some c) g.0) g.1 a =
          subst (λ f. MatchesIn f (last_of (Some c) g.0) g.1 a) (form_shifted r (ends || (start && le)) c) g.4 in
          elim (shift_sound l start b c g.0 (next_of g.1 a) k.3 s.0 g.3) [
            | inl x ↦ inl (inr (c ∷ g.0, g.1, ap (λ x. c ∷ x) g.2, x, rest))
            | inr x ↦ inr (x.0, (c ∷ g.0, g.1, ap (λ x. c ∷ x) g.2, x.1, rest))
          ]
    ]
shift_sound (Alternation' p l q r lm rm) start b c ds a k s h =
    elim h [
      | inl g ↦ elim (shift_sound l start b c ds a k.0 s.0 g) [ inl x ↦ inl (inl x) | inr x ↦ inr (x.0, inl x.1) ]
      | inr g ↦ elim (shift_sound r start b c ds a k.1 s.1 g) [ inl x ↦ inl (inr x) | inr x ↦ inr (x.0, inr x.1) ]
    ]
shift_sound (Star' p d ends) start b c ds a k s h =
    let P : Between = MatchesIn (tree_form d) in
    let rest : Star P (last_of (Some c) h.0) h.1 a =
    subst (λ f. Star (MatchesIn f) (last_of (Some c) h.0) h.1 a) (form_shifted d (start || ends) c) h.4 in
    elim (shift_sound d (start || ends) b c h.0 (next_of h.1 a) k.1 s h.3) [
      | inl x ↦ inl (c ∷ h.0, h.1, ap (λ x. c ∷ x) h.2, x, rest)
      | inr x ↦
          let all : Star P b (c ∷ ds) a = star_more P b (c ∷ ds) (c ∷ h.0) h.1 a (ap (λ x. c ∷ x) h.2) x.1 rest in
          elim (or_cases start ends x.0) [
            | inl f ↦ inr (f, all)
            | inr g ↦ inl ([], c ∷ ds, refl, ends_sound d b (Some c) k.1 s (sym k.0 ∙ g), all)
          ]
    ]
shift_sound (UpTo cl most left) start b c ds a k s h = few_sound cl most left start b c ds a h

-- a part that begins with a character, in two: the first is empty or begins with it
parted : (P Q : Between) (b : Option ℕ) (c : ℕ) (ds xs ys : List ℕ) (a : Option ℕ) → c ∷ ds ≡ xs ++ ys → P b xs (next_of ys a)
    → Q (last_of b xs) ys a
    → (P b [] (Some c) × Q b (c ∷ ds) a)
    ⊎ ((us : List ℕ) × (ds ≡ us ++ ys) × P b (c ∷ us) (next_of ys a) × Q (last_of (Some c) us) ys a)
parted P Q b c ds [] ys a e p q =
    inl (subst (λ zs. P b [] (next_of zs a)) (sym e) p, subst (λ zs. Q b zs a) (sym e) q)
parted P Q b c ds (x ∷ xs) ys a e p q =
    let head : x ≡ c = cc in
    let tail : ds ≡ xs ++ ys = cc in
    inr (xs, tail, subst (λ y. P b (y ∷ xs) (next_of ys a)) head p, subst (λ y. Q (last_of (Some y) xs) ys a) head q)

pub shift_complete : (n : Node) (start : Bool) (b : Option ℕ) (c : ℕ) (ds : List ℕ) (a : Option ℕ) → IsKept n → Stands n b (Some c)
    → Continues n b (c ∷ ds) a ⊎ ((start ≡ true) × MatchesIn (tree_form n) b (c ∷ ds) a)
    → Continues (shifted start c n) (Some c) ds a
shift_complete Empty start b c ds a k s h = elim h [ inl x ↦ absurd x | inr x ↦ let e : c ∷ ds ≡ [] = x.1 in cc ]
shift_complete (Class cl mark) start b c ds a k s h =
    elim h [
      | inl x ↦ let e : c ∷ ds ≡ [] = x.1 in cc
      | inr x ↦
          let e : c ∷ ds ≡ x.1.0 ∷ [] = x.1.1 in
          let head : x.1.0 ≡ c = cc in
          let tail : ds ≡ [] = cc in (
            and_from start (is_in_class cl.negated cl.items.items c) x.0
                (subst (λ y. is_in_class cl.negated cl.items.items y ≡ true) head x.1.2),
            tail,
          )
    ]
shift_complete (Assert kind held) start b c ds a k s h =
    elim h [ inl x ↦ absurd x | inr x ↦ let e : c ∷ ds ≡ [] = x.1.0 in cc ]
shift_complete (Concat' p l q r le re ends lm rm) start b c ds a k s h =
    let R : Between = MatchesIn (tree_form r) in
    let back : (us ys : List ℕ) → R (last_of (Some c) us) ys a
    → MatchesIn (tree_form (shifted (ends || (start && le)) c r)) (last_of (Some c) us) ys a =
    λ us ys m. subst (λ f. MatchesIn f (last_of (Some c) us) ys a) (sym (form_shifted r (ends || (start && le)) c)) m in
    elim h [
      | inl x ↦ elim x [
        | inl g ↦ inl (shift_complete r (ends || (start && le)) b c ds a k.4 s.1 (inl g))
        | inr g ↦ elim (parted (Continues l) R b c ds g.0 g.1 a g.2 g.3 g.4) [
          | inl e ↦ inl (shift_complete r (ends || (start && le)) b c ds a k.4 s.1 (inr (
            or_left ends (start && le) (k.2 ∙ ends_complete l b (Some c) k.3 s.0 e.0),
            e.1,
          )))
          | inr e ↦ inr (e.0, g.1, e.1, shift_complete l start b c e.0 (next_of g.1 a) k.3 s.0 (inl e.2), back e.0 g.1 e.3)
        ]
      ]
      | inr y ↦
          let g = y.1 in
          elim (parted (MatchesIn (tree_form l)) R b c ds g.0 g.1 a g.2 g.3 g.4) [
            | inl e ↦ inl (shift_complete r (ends || (start && le)) b c ds a k.4 s.1 (inr (
              or_right ends (start && le) (and_from start le y.0 (k.0 ∙ skips_complete l b (Some c) s.0 e.0)),
              e.1,
            )))
            | inr e ↦ inr (e.0, g.1, e.1, shift_complete l start b c e.0 (next_of g.1 a) k.3 s.0 (inr (y.0, e.2)), back e.0 g.1 e.3)
          ]
    ]
shift_complete (Alternation' p l q r lm rm) start b c ds a k s h =
    elim h [
      | inl x ↦ elim x [
        | inl g ↦ inl (shift_complete l start b c ds a k.0 s.0 (inl g))
        | inr g ↦ inr (shift_complete r start b c ds a k.1 s.1 (inl g))
      ]
      | inr y ↦ elim y.1 [
        | inl g ↦ inl (shift_complete l start b c ds a k.0 s.0 (inr (y.0, g)))
        | inr g ↦ inr (shift_complete r start b c ds a k.1 s.1 (inr (y.0, g)))
      ]
    ]
shift_complete (Star' p d ends) start b c ds a k s h =
    let P : Between = MatchesIn (tree_form d) in
    let back : (us ys : List ℕ) → Star P (last_of (Some c) us) ys a
    → Star (MatchesIn (tree_form (shifted (start || ends) c d))) (last_of (Some c) us) ys a =
    λ us ys m. subst (λ g. Star (MatchesIn g) (last_of (Some c) us) ys a) (sym (form_shifted d (start || ends) c)) m in
    elim h [
      | inl x ↦ elim (parted (Continues d) (Star P) b c ds x.0 x.1 a x.2 x.3 x.4) [
        | inl e ↦
            let f = parts_first P e.1.0 b c ds a e.1.3 in (
              f.0,
              f.1,
              f.2,
              shift_complete d (start || ends) b c f.0 (next_of f.1 a) k.1 s
                  (inr (or_right start ends (k.0 ∙ ends_complete d b (Some c) k.1 s e.0), f.3)),
              back f.0 f.1 f.4,
            )
        | inr e ↦ (e.0, x.1, e.1, shift_complete d (start || ends) b c e.0 (next_of x.1 a) k.1 s (inl e.2), back e.0 x.1 e.3)
      ]
      | inr y ↦
          let f = parts_first P y.1.0 b c ds a y.1.3 in (
            f.0,
            f.1,
            f.2,
            shift_complete d (start || ends) b c f.0 (next_of f.1 a) k.1 s (inr (or_left start ends y.0, f.3)),
            back f.0 f.1 f.4,
          )
    ]
shift_complete (UpTo cl most left) start b c ds a k s h = few_complete cl most left start b c ds a k h

-- ---- marks that decide the rest

none_within : (is : List Item) → has_none is ≡ true → is ≡ []
none_within [] h = refl
none_within (i ∷ is) h = absurd (true≢false (sym h))

each_parts : (n : Node) → is_each n ≡ true → (b : Option ℕ) (ds : List ℕ) (a : Option ℕ)
    → Parts (MatchesIn (tree_form n)) (length ds) b ds a
each_parts n h b [] a = refl
each_parts Empty h b (c ∷ ds) a = absurd (true≢false (sym h))
each_parts (Class cl mark) h b (c ∷ ds) a =
    let both = and_parts cl.negated (has_none cl.items.items) h in
    let in_all : is_in_class cl.negated cl.items.items c ≡ true =
    ap (λ x. is_in_class x cl.items.items c) both.0 ∙ ap (λ is. is_in_class true is c) (none_within cl.items.items both.1) in
    (c ∷ [], ds, refl, (c, refl, in_all), each_parts (Class cl mark) h (Some c) ds a)
each_parts (Assert kind held) h b (c ∷ ds) a = absurd (true≢false (sym h))
each_parts (Concat' p l q r le re ends lm rm) h b (c ∷ ds) a = absurd (true≢false (sym h))
each_parts (Alternation' p l q r lm rm) h b (c ∷ ds) a = absurd (true≢false (sym h))
each_parts (Star' p d ends) h b (c ∷ ds) a = absurd (true≢false (sym h))
each_parts (UpTo cl most left) h b (c ∷ ds) a = absurd (true≢false (sym h))

each_star : (n : Node) → is_each n ≡ true → (b : Option ℕ) (ds : List ℕ) (a : Option ℕ)
    → MatchesIn (repetition (tree_form n) 0 None) b ds a
each_star n h b ds a = (length ds, omega arith, tt, each_parts n h b ds a)

any_matches : (n : Node) → is_any n ≡ true → (b : Option ℕ) (ds : List ℕ) (a : Option ℕ) → MatchesIn (tree_form n) b ds a
any_matches Empty h b ds a = absurd (true≢false (sym h))
any_matches (Class cl mark) h b ds a = absurd (true≢false (sym h))
any_matches (Assert kind held) h b ds a = absurd (true≢false (sym h))
any_matches (Concat' p l q r le re ends lm rm) h b ds a = absurd (true≢false (sym h))
any_matches (Alternation' p l q r lm rm) h b ds a = absurd (true≢false (sym h))
any_matches (Star' p d ends) h b ds a = each_star d h b ds a
any_matches (UpTo cl most left) h b ds a = absurd (true≢false (sym h))

-- each part can be read from marks that are settled
pub settled_goes : (n : Node) (b : Option ℕ) (ds : List ℕ) (a : Option ℕ) → IsKept n → Stands n b (next_of ds a) → is_settled n ≡ true
    → Continues n b ds a
settled_goes Empty b ds a k s h = absurd (true≢false (sym h))
settled_goes (Class cl mark) b ds a k s h = absurd (true≢false (sym h))
settled_goes (Assert kind held) b ds a k s h = absurd (true≢false (sym h))
settled_goes (Concat' p l q r le re ends lm rm) b ds a k s h =
    elim (or_cases (is_settled r) (ends && is_any r) h) [
      | inl x ↦ inl (settled_goes r b ds a k.4 s.1 x)
      | inr y ↦
          let both = and_parts ends (is_any r) y in
          inr ([], ds, refl, ends_sound l b (next_of ds a) k.3 s.0 (sym k.2 ∙ both.0), any_matches r both.1 b ds a)
    ]
settled_goes (Alternation' p l q r lm rm) b ds a k s h =
    elim (or_cases (is_settled l) (is_settled r) h) [
      | inl x ↦ inl (settled_goes l b ds a k.0 s.0 x)
      | inr y ↦ inr (settled_goes r b ds a k.1 s.1 y)
    ]
settled_goes (Star' p d ends) b ds a k s h =
    let both = and_parts ends (is_each d) h in
    ([], ds, refl, ends_sound d b (next_of ds a) k.1 s (sym k.0 ∙ both.0), each_star d both.1 b ds a)
settled_goes (UpTo cl most left) b ds a k s h = absurd (true≢false (sym h))

-- and none where no mark is
pub unmarked_stops : (n : Node) (b : Option ℕ) (ds : List ℕ) (a : Option ℕ) → IsKept n → is_marked n ≡ false → Continues n b ds a → ⊥
unmarked_stops Empty b ds a k h g = g
unmarked_stops (Class cl mark) b ds a k h g = true≢false (sym g.0 ∙ h)
unmarked_stops (Assert kind held) b ds a k h g = g
unmarked_stops (Concat' p l q r le re ends lm rm) b ds a k h g =
    let both = or_parts lm rm h in
    elim g [
      | inl x ↦ unmarked_stops r b ds a k.4 (sym k.6 ∙ both.1) x
      | inr y ↦ unmarked_stops l b y.0 (next_of y.1 a) k.3 (sym k.5 ∙ both.0) y.3
    ]
unmarked_stops (Alternation' p l q r lm rm) b ds a k h g =
    let both = or_parts lm rm h in
    elim g [
      | inl x ↦ unmarked_stops l b ds a k.0 (sym k.2 ∙ both.0) x
      | inr y ↦ unmarked_stops r b ds a k.1 (sym k.3 ∙ both.1) y
    ]
unmarked_stops (Star' p d ends) b ds a k h g = unmarked_stops d b g.0 (next_of g.1 a) k.1 h g.3
unmarked_stops (UpTo cl most left) b ds a k h g = true≢false (sym (ap is_some g.1) ∙ h)
