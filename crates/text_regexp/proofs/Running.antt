-- Reading a text over the marks.
use Rattle.std.proofs.Common.{Option, not, None, Some, ◌≡◌, ◌↔◌, ℕ, Bool, true, false, ◌&&◌, ◌||◌, IsTrue, List, [], ◌∷◌, ◌++◌, ◌⊎◌}
use Rattle.std.proofs.Common.{inl, inr, refl, sym, ap, ◌∙◌}
use Rattle.std.proofs.Common.{subst, true≢false}
use Rattle.std.proofs.lemmas.Bool.{and_parts, and_from, or_cases, or_left, or_right, or_from, or_parts}
use Rattle.text_regexp.specs.Forms.{Form, Matches, MatchesIn, Searches, repetition, next_of, last_of}
use Rattle.text_regexp.specs.Marked.{tree_form, skips, ends_here, is_marked, IsKept, Continues, shifted, cleared, is_settled}
use Rattle.text_regexp.specs.Marked.{is_plain, Stands, standing}
use Rattle.text_regexp.specs.declared.marked.Node.{Node}
use Rattle.text_regexp.specs.declared.marked.Node.TheVariants.{Empty, Class, Assert, Concat', Alternation', Star', UpTo}
use Rattle.text_regexp.proofs.Marking.{skips_sound, skips_complete, ends_sound, ends_complete, form_shifted, kept_shifted, shift_sound}
use Rattle.text_regexp.proofs.Marking.{shift_complete, settled_goes, unmarked_stops, ends_unmarked, plain_shifted}
use Rattle.text_regexp.proofs.Marking.{plain_stands, skips_shifted}

-- ---- no marks

pub form_cleared : (n : Node) → tree_form (cleared n) ≡ tree_form n
form_cleared Empty = refl
form_cleared (Class cl mark) = refl
form_cleared (Assert kind held) = refl
form_cleared (Concat' p l q r le re ends lm rm) = let a = form_cleared l in let b = form_cleared r in cc
form_cleared (Alternation' p l q r lm rm) = let a = form_cleared l in let b = form_cleared r in cc
form_cleared (Star' p b ends) = ap (λ f. repetition f 0 None) (form_cleared b)
form_cleared (UpTo cl most left) = refl

pub skips_cleared : (n : Node) → skips (cleared n) ≡ skips n
skips_cleared Empty = refl
skips_cleared (Class cl mark) = refl
skips_cleared (Assert kind held) = refl
skips_cleared (Concat' p l q r le re ends lm rm) = let a = skips_cleared l in let b = skips_cleared r in cc
skips_cleared (Alternation' p l q r lm rm) = let a = skips_cleared l in let b = skips_cleared r in cc
skips_cleared (Star' p b ends) = refl
skips_cleared (UpTo cl most left) = refl

ends_cleared : (n : Node) → ends_here (cleared n) ≡ false
ends_cleared Empty = refl
ends_cleared (Class cl mark) = refl
ends_cleared (Assert kind held) = refl
ends_cleared (Concat' p l q r le re ends lm rm) =
    or_from (ends_here (cleared r)) (ends_here (cleared l) && re) (ends_cleared r) (ap (λ b. b && re) (ends_cleared l))
ends_cleared (Alternation' p l q r lm rm) = or_from (ends_here (cleared l)) (ends_here (cleared r)) (ends_cleared l) (ends_cleared r)
ends_cleared (Star' p b ends) = ends_cleared b
ends_cleared (UpTo cl most left) = refl

pub marked_cleared : (n : Node) → is_marked (cleared n) ≡ false
marked_cleared Empty = refl
marked_cleared (Class cl mark) = refl
marked_cleared (Assert kind held) = refl
marked_cleared (Concat' p l q r le re ends lm rm) = refl
marked_cleared (Alternation' p l q r lm rm) = refl
marked_cleared (Star' p b ends) = marked_cleared b
marked_cleared (UpTo cl most left) = refl

pub kept_cleared : (n : Node) → IsKept n → IsKept (cleared n)
kept_cleared Empty k = tt
kept_cleared (Class cl mark) k = tt
kept_cleared (Assert kind held) k = tt
kept_cleared (Concat' p l q r le re ends lm rm) k = (
  k.0 ∙ sym (skips_cleared l),
  k.1 ∙ sym (skips_cleared r),
  sym (ends_cleared l),
  kept_cleared l k.3,
  kept_cleared r k.4,
  sym (marked_cleared l),
  sym (marked_cleared r),
)
kept_cleared (Alternation' p l q r lm rm) k = (
  kept_cleared l k.0,
  kept_cleared r k.1,
  sym (marked_cleared l),
  sym (marked_cleared r),
)
kept_cleared (Star' p b ends) k = (sym (ends_cleared b), kept_cleared b k.1)
kept_cleared (UpTo cl most left) k = refl

-- a tree with no mark stays
pub cleared_unmarked : (n : Node) → IsKept n → is_marked n ≡ false → n ≡ cleared n
cleared_unmarked Empty k h = refl
cleared_unmarked (Class cl mark) k h = ap (Class cl) h
cleared_unmarked (Assert kind held) k h = refl
cleared_unmarked (Concat' p l q r le re ends lm rm) k h =
    let both = or_parts lm rm h in
    let none_l : is_marked l ≡ false = sym k.5 ∙ both.0 in
    let a = cleared_unmarked l k.3 none_l in
    let b = cleared_unmarked r k.4 (sym k.6 ∙ both.1) in
    let none : ends ≡ false = k.2 ∙ ends_unmarked l k.3 none_l in
    let m = both.0 in
    let n = both.1 in
    cc
cleared_unmarked (Alternation' p l q r lm rm) k h =
    let both = or_parts lm rm h in
    let a = cleared_unmarked l k.0 (sym k.2 ∙ both.0) in
    let b = cleared_unmarked r k.1 (sym k.3 ∙ both.1) in
    let m = both.0 in
    let n = both.1 in
    cc
cleared_unmarked (Star' p b ends) k h =
    let none : ends ≡ false = k.0 ∙ ends_unmarked b k.1 h in
    let a = cleared_unmarked b k.1 h in
    cc
cleared_unmarked (UpTo cl most None) k h = refl
cleared_unmarked (UpTo cl most (Some n)) k h = absurd (true≢false h)

-- ---- assertions between two characters

pub form_standing : (b a : Option ℕ) (n : Node) → tree_form (standing b a n) ≡ tree_form n
form_standing b a Empty = refl
form_standing b a (Class cl mark) = refl
form_standing b a (Assert kind held) = refl
form_standing b a (Concat' p l q r le re ends lm rm) = let x = form_standing b a l in let y = form_standing b a r in cc
form_standing b a (Alternation' p l q r lm rm) = let x = form_standing b a l in let y = form_standing b a r in cc
form_standing b a (Star' p d ends) = ap (λ f. repetition f 0 None) (form_standing b a d)
form_standing b a (UpTo cl most left) = refl

marked_standing : (b a : Option ℕ) (n : Node) → is_marked (standing b a n) ≡ is_marked n
marked_standing b a Empty = refl
marked_standing b a (Class cl mark) = refl
marked_standing b a (Assert kind held) = refl
marked_standing b a (Concat' p l q r le re ends lm rm) = refl
marked_standing b a (Alternation' p l q r lm rm) = refl
marked_standing b a (Star' p d ends) = marked_standing b a d
marked_standing b a (UpTo cl most left) = refl

pub kept_standing : (b a : Option ℕ) (n : Node) → IsKept n → IsKept (standing b a n)
kept_standing b a Empty k = tt
kept_standing b a (Class cl mark) k = tt
kept_standing b a (Assert kind held) k = tt
kept_standing b a (Concat' p l q r le re ends lm rm) k = (
  refl,
  refl,
  refl,
  kept_standing b a l k.3,
  kept_standing b a r k.4,
  k.5 ∙ sym (marked_standing b a l),
  k.6 ∙ sym (marked_standing b a r),
)
kept_standing b a (Alternation' p l q r lm rm) k = (
  kept_standing b a l k.0,
  kept_standing b a r k.1,
  k.2 ∙ sym (marked_standing b a l),
  k.3 ∙ sym (marked_standing b a r),
)
kept_standing b a (Star' p d ends) k = (refl, kept_standing b a d k.1)
kept_standing b a (UpTo cl most left) k = k

stands_standing : (b a : Option ℕ) (n : Node) → Stands (standing b a n) b a
stands_standing b a Empty = tt
stands_standing b a (Class cl mark) = tt
stands_standing b a (Assert kind held) = refl
stands_standing b a (Concat' p l q r le re ends lm rm) = (stands_standing b a l, stands_standing b a r)
stands_standing b a (Alternation' p l q r lm rm) = (stands_standing b a l, stands_standing b a r)
stands_standing b a (Star' p d ends) = stands_standing b a d
stands_standing b a (UpTo cl most left) = tt

-- a tree that stands there stays
pub standing_same : (b a : Option ℕ) (n : Node) → IsKept n → Stands n b a → standing b a n ≡ n
standing_same b a Empty k s = refl
standing_same b a (Class cl mark) k s = refl
standing_same b a (Assert kind held) k s = ap (Assert kind) (sym s)
standing_same b a (Concat' p l q r le re ends lm rm) k s =
    let x = standing_same b a l k.3 s.0 in
    let y = standing_same b a r k.4 s.1 in
    let e = ap skips x ∙ sym k.0 in
    let f = ap skips y ∙ sym k.1 in
    let g = ap ends_here x ∙ sym k.2 in
    cc
standing_same b a (Alternation' p l q r lm rm) k s =
    let x = standing_same b a l k.0 s.0 in
    let y = standing_same b a r k.1 s.1 in
    cc
standing_same b a (Star' p d ends) k s =
    let x = standing_same b a d k.1 s in
    let g = ap ends_here x ∙ sym k.0 in
    cc
standing_same b a (UpTo cl most left) k s = refl

-- where it stood before doesn't matter
pub standing_cleared : (b a b' a' : Option ℕ) (n : Node) → standing b a (cleared (standing b' a' n)) ≡ standing b a (cleared n)
standing_cleared b a b' a' Empty = refl
standing_cleared b a b' a' (Class cl mark) = refl
standing_cleared b a b' a' (Assert kind held) = refl
standing_cleared b a b' a' (Concat' p l q r le re ends lm rm) =
    let x = standing_cleared b a b' a' l in
    let y = standing_cleared b a b' a' r in
    let e = ap skips x in
    let f = ap skips y in
    let g = ap ends_here x in
    cc
standing_cleared b a b' a' (Alternation' p l q r lm rm) =
    let x = standing_cleared b a b' a' l in
    let y = standing_cleared b a b' a' r in
    cc
standing_cleared b a b' a' (Star' p d ends) =
    let x = standing_cleared b a b' a' d in
    let g = ap ends_here x in
    cc
standing_cleared b a b' a' (UpTo cl most left) = refl

-- nor for what the marks go on with
to_standing : (x y : Option ℕ) (n : Node) (b : Option ℕ) (ds : List ℕ) (a : Option ℕ) → Continues n b ds a
    → Continues (standing x y n) b ds a
to_standing x y Empty b ds a h = h
to_standing x y (Class cl mark) b ds a h = h
to_standing x y (Assert kind held) b ds a h = h
to_standing x y (Concat' p l q r le re ends lm rm) b ds a h =
    elim h [
      | inl g ↦ inl (to_standing x y r b ds a g)
      | inr g ↦ inr (
        g.0,
        g.1,
        g.2,
        to_standing x y l b g.0 (next_of g.1 a) g.3,
        subst (λ f. MatchesIn f (last_of b g.0) g.1 a) (sym (form_standing x y r)) g.4,
      )
    ]
to_standing x y (Alternation' p l q r lm rm) b ds a h =
    elim h [ inl g ↦ inl (to_standing x y l b ds a g) | inr g ↦ inr (to_standing x y r b ds a g) ]
to_standing x y (Star' p d ends) b ds a h = (
  h.0,
  h.1,
  h.2,
  to_standing x y d b h.0 (next_of h.1 a) h.3,
  subst (λ f. MatchesIn (repetition f 0 None) (last_of b h.0) h.1 a) (sym (form_standing x y d)) h.4,
)
to_standing x y (UpTo cl most left) b ds a h = h

from_standing : (x y : Option ℕ) (n : Node) (b : Option ℕ) (ds : List ℕ) (a : Option ℕ) → Continues (standing x y n) b ds a
    → Continues n b ds a
from_standing x y Empty b ds a h = h
from_standing x y (Class cl mark) b ds a h = h
from_standing x y (Assert kind held) b ds a h = h
from_standing x y (Concat' p l q r le re ends lm rm) b ds a h =
    elim h [
      | inl g ↦ inl (from_standing x y r b ds a g)
      | inr g ↦ inr (
        g.0,
        g.1,
        g.2,
        from_standing x y l b g.0 (next_of g.1 a) g.3,
        subst (λ f. MatchesIn f (last_of b g.0) g.1 a) (form_standing x y r) g.4,
      )
    ]
from_standing x y (Alternation' p l q r lm rm) b ds a h =
    elim h [ inl g ↦ inl (from_standing x y l b ds a g) | inr g ↦ inr (from_standing x y r b ds a g) ]
from_standing x y (Star' p d ends) b ds a h = (
  h.0,
  h.1,
  h.2,
  from_standing x y d b h.0 (next_of h.1 a) h.3,
  subst (λ f. MatchesIn (repetition f 0 None) (last_of b h.0) h.1 a) (form_standing x y d) h.4,
)
from_standing x y (UpTo cl most left) b ds a h = h

plain_same : (b a : Option ℕ) (n : Node) → IsKept n → is_plain n ≡ true → standing b a n ≡ n
plain_same b a n k h = standing_same b a n k (plain_stands n b a h)

-- ---- the whole text

-- The rest can be read from the marks, or from the start.
abbrev pub Goes : Form → Node → Bool → Option ℕ → List ℕ → Type 0
Goes f n start b ds = Continues n b ds None ⊎ ((start ≡ true) × MatchesIn f b ds None)

-- Behind that character the rest is left, and can be read from here exactly if the text is matched.
pub record Reached (f : Form) (n : Node) (start : Bool) (before : Option ℕ) (rest text : List ℕ) : Type 0 where
  pub kept : IsKept n
  pub form : tree_form n ≡ f
  pub sound : Goes f n start before rest → Matches f text
  pub complete : Matches f text → Goes f n start before rest

pub reached_init : (n : Node) (rest text : List ℕ) → IsKept n → is_marked n ≡ false → rest ≡ text
    → Reached (tree_form n) n true None rest text
reached_init n rest text k none same = record {
  kept = k;
  form = refl;
  sound = λ h. subst (Matches (tree_form n)) same (elim h [ inl a ↦ absurd (unmarked_stops n None rest None k none a) | inr b ↦ b.1 ]);
  complete = λ h. inr (refl, subst (Matches (tree_form n)) (sym same) h);
}

pub reached_step : (f : Form) (n m : Node) (start : Bool) (b : Option ℕ) (c : ℕ) (rest rest' text : List ℕ)
    → Reached f n start b rest text → rest ≡ c ∷ rest' → m ≡ shifted start c (standing b (Some c) n)
    → Reached f m false (Some c) rest' text
reached_step f n m start b c rest rest' text w split moved =
    let n' : Node = standing b (Some c) n in
    let kept' : IsKept n' = kept_standing b (Some c) n w.kept in
    let stands = stands_standing b (Some c) n in
    let form' : tree_form n' ≡ f = form_standing b (Some c) n ∙ w.form in
    subst (λ x. Reached f x false (Some c) rest' text) (sym moved) record {
      kept = kept_shifted n' start c kept';
      form = form_shifted n' start c ∙ form';
      sound = λ h. w.sound (subst (Goes f n start b) (sym split) (elim h [
        | inl x ↦ elim (shift_sound n' start b c rest' None kept' stands x) [
          | inl y ↦ inl (from_standing b (Some c) n b (c ∷ rest') None y)
          | inr y ↦ inr (y.0, subst (λ g. MatchesIn g b (c ∷ rest') None) form' y.1)
        ]
        | inr y ↦ absurd (true≢false (sym y.0))
      ]));
      complete = λ h. inl (shift_complete n' start b c rest' None kept' stands (elim (subst (Goes f n start b) split (w.complete h)) [
        | inl x ↦ inl (to_standing b (Some c) n b (c ∷ rest') None x)
        | inr y ↦ inr (y.0, subst (λ g. MatchesIn g b (c ∷ rest') None) (sym form') y.1)
      ]));
    }

pub reached_unmarked : (f : Form) (n : Node) (b : Option ℕ) (rest text : List ℕ) → Reached f n false b rest text
    → is_marked n ≡ false → IsTrue false ↔ Matches f text
reached_unmarked f n b rest text w e = (
  λ h. absurd (true≢false (sym h)),
  λ h. absurd (elim (w.complete h) [ inl x ↦ unmarked_stops n b rest None w.kept e x | inr y ↦ true≢false (sym y.0) ]),
)

-- whether a text can end here, between the two characters
abbrev pub can_end : Bool → Node → Bool
can_end start n = ends_here n || (start && skips n)

pub reached_end : (f : Form) (n m : Node) (start : Bool) (b : Option ℕ) (rest text : List ℕ) → Reached f n start b rest text → rest ≡ []
    → m ≡ standing b None n → IsTrue (can_end start m) ↔ Matches f text
reached_end f n m start b rest text w e is = subst (λ x. IsTrue (can_end start x) ↔ Matches f text) (sym is) (
  λ h. w.sound (subst (Goes f n start b) (sym e) (elim (or_cases (ends_here n') (start && skips n') h) [
    | inl x ↦ inl (from_standing b None n b [] None (ends_sound n' b None kept' stands x))
    | inr y ↦
        let both = and_parts start (skips n') y in
        inr (both.0, subst (λ g. MatchesIn g b [] None) form' (skips_sound n' b None stands both.1))
  ])),
  λ h. elim (subst (Goes f n start b) e (w.complete h)) [
    | inl x ↦ or_left (ends_here n') (start && skips n') (ends_complete n' b None kept' stands (to_standing b None n b [] None x))
    | inr y ↦ or_right (ends_here n') (start && skips n')
        (and_from start (skips n') y.0 (skips_complete n' b None stands (subst (λ g. MatchesIn g b [] None) (sym form') y.1)))
  ],
)
  where
    n' : Node
    n' = standing b None n

    kept' : IsKept n'
    kept' = kept_standing b None n w.kept

    stands : Stands n' b None
    stands = stands_standing b None n

    form' : tree_form n' ≡ f
    form' = form_standing b None n ∙ w.form

-- So it is for a tree without assertions, which tells at each place whether a text can end there.
pub record Whole (f : Form) (n : Node) (start ends : Bool) (rest text : List ℕ) : Type 0 where
  pub before : Option ℕ
  pub kept : IsKept n
  pub plain : is_plain n ≡ true
  pub reached : Reached f n start before rest text
  pub ended : ends ≡ can_end start n

pub whole_init : (n : Node) (ends : Bool) (rest text : List ℕ) → IsKept n → is_marked n ≡ false → is_plain n ≡ true → ends ≡ skips n
    → rest ≡ text → Whole (tree_form n) n true ends rest text
whole_init n ends rest text k none plain e same = record {
  before = None;
  kept = k;
  plain = plain;
  reached = reached_init n rest text k none same;
  ended = e ∙ sym (ap (λ x. x || skips n) (ends_unmarked n k none));
}

pub whole_step : (f : Form) (n m : Node) (start before ends : Bool) (c : ℕ) (rest rest' text : List ℕ) → Whole f n start before rest text
    → rest ≡ c ∷ rest' → m ≡ shifted start c n → ends ≡ ends_here m → Whole f m false ends rest' text
whole_step f n m start before ends c rest rest' text w split moved e =
    let same = plain_same w.before (Some c) n w.kept w.plain in
    let r = reached_step f n m start w.before c rest rest' text w.reached split (moved ∙ ap (shifted start c) (sym same)) in
    record {
      before = Some c;
      kept = r.kept;
      plain = ap is_plain moved ∙ (plain_shifted n start c ∙ w.plain);
      reached = r;
      ended = e ∙ no_start (ends_here m) (skips m);
    }
  where
    no_start : (x y : Bool) → x ≡ (x || (false && y))
    no_start true y = refl
    no_start false y = refl

pub whole_end : (f : Form) (n : Node) (start ends : Bool) (rest text : List ℕ) → Whole f n start ends rest text → rest ≡ []
    → IsTrue ends ↔ Matches f text
whole_end f n start ends rest text w e =
    subst (λ x. IsTrue x ↔ Matches f text) (sym w.ended)
    (reached_end f n n start w.before rest text w.reached e (sym (plain_same w.before None n w.kept w.plain)))

pub whole_settled : (f : Form) (n : Node) (start ends : Bool) (rest text : List ℕ) → Whole f n start ends rest text
    → is_settled n ≡ true → IsTrue true ↔ Matches f text
whole_settled f n start ends rest text w e = (
  λ _. w.reached.sound (inl (settled_goes n w.before rest None w.kept (plain_stands n w.before (next_of rest None) w.plain) e)),
  λ _. refl,
)

pub whole_unmarked : (f : Form) (n : Node) (ends : Bool) (rest text : List ℕ) → Whole f n false ends rest text
    → is_marked n ≡ false → IsTrue false ↔ Matches f text
whole_unmarked f n ends rest text w e = reached_unmarked f n w.before rest text w.reached e

-- ---- a part of the text

-- A part that ends in the rest is begun.
pub record Begun (n : Node) (b : Option ℕ) (rest : List ℕ) : Type 0 where
  pub part : List ℕ
  pub after : List ℕ
  pub split : rest ≡ part ++ after
  pub goes : Continues n b part (next_of after None)

-- A part of the rest is matched.
pub record Found (f : Form) (b : Option ℕ) (rest : List ℕ) : Type 0 where
  pub before : List ℕ
  pub part : List ℕ
  pub after : List ℕ
  pub split : rest ≡ before ++ (part ++ after)
  pub matched : MatchesIn f (last_of b before) part (next_of after None)

abbrev pub Ahead : Form → Node → Option ℕ → List ℕ → Type 0
Ahead f n b rest = Begun n b rest ⊎ Found f b rest

pub record Parting (f : Form) (n : Node) (before : Option ℕ) (rest text : List ℕ) : Type 0 where
  pub kept : IsKept n
  pub form : tree_form n ≡ f
  pub sound : Ahead f n before rest → Searches f text
  pub complete : Searches f text → Ahead f n before rest

pub parting_init : (n : Node) (rest text : List ℕ) → IsKept n → is_marked n ≡ false → rest ≡ text → Parting (tree_form n) n None rest text
parting_init n rest text k none same = record {
  kept = k;
  form = refl;
  sound = λ h. subst (Searches (tree_form n)) same (elim h [
    | inl a ↦ absurd (unmarked_stops n None a.part (next_of a.after None) k none a.goes)
    | inr b ↦ record { before = b.before; part = b.part; after = b.after; split = b.split; matched = b.matched }
  ]);
  complete = λ h. inr (record { before = h.before; part = h.part; after = h.after; split = same ∙ h.split; matched = h.matched });
}

-- what was found is what is begun over the character before
found_before : (f : Form) (n : Node) (b : Option ℕ) (c : ℕ) (rest : List ℕ) → IsKept n → tree_form n ≡ f
    → Ahead f (shifted true c (standing b (Some c) n)) (Some c) rest → Ahead f n b (c ∷ rest)
found_before f n b c rest k form h =
    elim h [
      | inl x ↦ elim (shift_sound (standing b (Some c) n) true b c x.part (next_of x.after None) (kept_standing b (Some c) n k)
          (stands_standing b (Some c) n) x.goes) [
            | inl y ↦ inl (record {
              part = c ∷ x.part;
              after = x.after;
              split = ap (λ cs. c ∷ cs) x.split;
              goes = from_standing b (Some c) n b (c ∷ x.part) (next_of x.after None) y;
            })
            | inr y ↦ inr (record {
              before = [];
              part = c ∷ x.part;
              after = x.after;
              split = ap (λ cs. c ∷ cs) x.split;
              matched = subst (λ g. MatchesIn g b (c ∷ x.part) (next_of x.after None)) (form_standing b (Some c) n ∙ form) y.1;
            })
          ]
      | inr y ↦ inr (record {
        before = c ∷ y.before;
        part = y.part;
        after = y.after;
        split = ap (λ cs. c ∷ cs) y.split;
        matched = y.matched;
      })
    ]

begun_on : (n : Node) (b : Option ℕ) (c : ℕ) (rest part after : List ℕ) → IsKept n → c ∷ rest ≡ part ++ after
    → (Continues n b [] (Some c) → ⊥) → Continues n b part (next_of after None)
    → Begun (shifted true c (standing b (Some c) n)) (Some c) rest
begun_on n b c rest [] after k e none h = absurd (none (subst (λ cs. Continues n b [] (next_of cs None)) (sym e) h))
begun_on n b c rest (x ∷ part) after k e none h =
    let head : x ≡ c = cc in
    let tail : rest ≡ part ++ after = cc in
    record {
      part = part;
      after = after;
      split = tail;
      goes = shift_complete (standing b (Some c) n) true b c part (next_of after None) (kept_standing b (Some c) n k)
          (stands_standing b (Some c) n) (inl (to_standing b (Some c) n b (c ∷ part) (next_of after None)
          (subst (λ y. Continues n b (y ∷ part) (next_of after None)) head h)));
    }

search_on : (f : Form) (n : Node) (b : Option ℕ) (c : ℕ) (rest before part after : List ℕ) → IsKept n → tree_form n ≡ f
    → c ∷ rest ≡ before ++ (part ++ after) → (MatchesIn f b [] (Some c) → ⊥)
    → MatchesIn f (last_of b before) part (next_of after None) → Ahead f (shifted true c (standing b (Some c) n)) (Some c) rest
search_on f n b c rest [] [] after k form e never h = absurd (never (subst (λ cs. MatchesIn f b [] (next_of cs None)) (sym e) h))
search_on f n b c rest [] (x ∷ part) after k form e never h =
    let head : x ≡ c = cc in
    let tail : rest ≡ part ++ after = cc in
    inl (record {
      part = part;
      after = after;
      split = tail;
      goes = shift_complete (standing b (Some c) n) true b c part (next_of after None) (kept_standing b (Some c) n k)
          (stands_standing b (Some c) n) (inr (
            refl,
            subst (λ g. MatchesIn g b (c ∷ part) (next_of after None))
                (sym (form_standing b (Some c) n ∙ form)) (subst (λ y. MatchesIn f b (y ∷ part) (next_of after None)) head h),
          ));
    })
search_on f n b c rest (x ∷ before) part after k form e never h =
    let head : x ≡ c = cc in
    let tail : rest ≡ before ++ (part ++ after) = cc in
    inr (record {
      before = before;
      part = part;
      after = after;
      split = tail;
      matched = subst (λ y. MatchesIn f (last_of (Some y) before) part (next_of after None)) head h;
    })

found_after : (f : Form) (n : Node) (b : Option ℕ) (c : ℕ) (rest : List ℕ) → IsKept n → tree_form n ≡ f
    → (MatchesIn f b [] (Some c) → ⊥) → (Continues n b [] (Some c) → ⊥) → Ahead f n b (c ∷ rest)
    → Ahead f (shifted true c (standing b (Some c) n)) (Some c) rest
found_after f n b c rest k form never none h =
    elim h [
      | inl x ↦ inl (begun_on n b c rest x.part x.after k x.split none x.goes)
      | inr y ↦ search_on f n b c rest y.before y.part y.after k form y.split never y.matched
    ]

pub parting_step : (f : Form) (n m : Node) (b : Option ℕ) (c : ℕ) (rest rest' text : List ℕ) → Parting f n b rest text → rest ≡ c ∷ rest'
    → skips (standing b (Some c) n) ≡ false → ends_here (standing b (Some c) n) ≡ false → m ≡ shifted true c (standing b (Some c) n)
    → Parting f m (Some c) rest' text
parting_step f n m b c rest rest' text w split skipped ended moved =
    let n' : Node = standing b (Some c) n in
    let kept' : IsKept n' = kept_standing b (Some c) n w.kept in
    let stands = stands_standing b (Some c) n in
    let form' : tree_form n' ≡ f = form_standing b (Some c) n ∙ w.form in
    subst (λ x. Parting f x (Some c) rest' text) (sym moved) record {
      kept = kept_shifted n' true c kept';
      form = form_shifted n' true c ∙ form';
      sound = λ h. w.sound (subst (Ahead f n b) (sym split) (found_before f n b c rest' w.kept w.form h));
      complete = λ h. found_after f n b c rest' w.kept w.form
          (λ x. true≢false (sym (skips_complete n' b (Some c) stands (subst (λ g. MatchesIn g b [] (Some c)) (sym form') x)) ∙ skipped))
          (λ x. true≢false (sym (ends_complete n' b (Some c) kept' stands (to_standing b (Some c) n b [] (Some c) x)) ∙ ended))
          (subst (Ahead f n b) split (w.complete h));
    }

-- a part ends here
pub parting_found : (f : Form) (n : Node) (b : Option ℕ) (rest text : List ℕ) → Parting f n b rest text
    → (skips (standing b (next_of rest None) n) || ends_here (standing b (next_of rest None) n)) ≡ true → Searches f text
parting_found f n b rest text w h =
    let a : Option ℕ = next_of rest None in
    let n' : Node = standing b a n in
    let stands = stands_standing b a n in
    w.sound (elim (or_cases (skips n') (ends_here n') h) [
      | inl x ↦ inr (record {
        before = [];
        part = [];
        after = rest;
        split = refl;
        matched = subst (λ g. MatchesIn g b [] a) (form_standing b a n ∙ w.form) (skips_sound n' b a stands x);
      })
      | inr y ↦ inl (record {
        part = [];
        after = rest;
        split = refl;
        goes = from_standing b a n b [] a (ends_sound n' b a (kept_standing b a n w.kept) stands y);
      })
    ])

-- none begins or ends at the end
none_begun : (n : Node) (b : Option ℕ) (part after : List ℕ) → [] ≡ part ++ after → Continues n b part (next_of after None)
    → Continues n b [] None
none_begun n b [] [] e h = h
none_begun n b [] (x ∷ after) e h = cc
none_begun n b (x ∷ part) after e h = cc

none_found : (f : Form) (b : Option ℕ) (before part after : List ℕ) → [] ≡ before ++ (part ++ after)
    → MatchesIn f (last_of b before) part (next_of after None) → MatchesIn f b [] None
none_found f b [] [] [] e h = h
none_found f b [] [] (x ∷ after) e h = cc
none_found f b [] (x ∷ part) after e h = cc
none_found f b (x ∷ before) part after e h = cc

pub parting_end : (f : Form) (n : Node) (b : Option ℕ) (rest text : List ℕ) → Parting f n b rest text → rest ≡ []
    → skips (standing b None n) ≡ false → ends_here (standing b None n) ≡ false → Searches f text → ⊥
parting_end f n b rest text w e skipped ended h =
    let n' : Node = standing b None n in
    let stands = stands_standing b None n in
    elim (subst (Ahead f n b) e (w.complete h)) [
      | inl x ↦ true≢false (sym (ends_complete n' b None (kept_standing b None n w.kept) stands
          (to_standing b None n b [] None (none_begun n b x.part x.after x.split x.goes))) ∙ ended)
      | inr y ↦ true≢false (sym (skips_complete n' b None stands (subst (λ g. MatchesIn g b [] None)
          (sym (form_standing b None n ∙ w.form)) (none_found f b y.before y.part y.after y.split y.matched))) ∙ skipped)
    ]

-- the same for what was computed of it
pub parting_here : (f : Form) (n m : Node) (b : Option ℕ) (c : ℕ) (rest rest' text : List ℕ) (x y : Bool) → Parting f n b rest text
    → rest ≡ c ∷ rest' → m ≡ standing b (Some c) n → x ≡ skips m → y ≡ ends_here m → (x || y) ≡ true → Searches f text
parting_here f n m b c rest rest' text x y w split stood ex ey h =
    parting_found f n b rest text w (subst (λ a. (skips (standing b a n) || ends_here (standing b a n)) ≡ true)
    (sym (ap (λ cs. next_of cs None) split)) (subst (λ k. (skips k || ends_here k) ≡ true) stood
    (subst (λ z. (skips m || z) ≡ true) ey (subst (λ z. (z || y) ≡ true) ex h))))

pub parting_done : (f : Form) (n m : Node) (b : Option ℕ) (rest text : List ℕ) (x y : Bool) → Parting f n b rest text → rest ≡ []
    → m ≡ standing b None n → x ≡ skips m → y ≡ ends_here m → IsTrue (x || y) ↔ Searches f text
parting_done f n m b rest text x y w e stood ex ey = by x y (ex ∙ ap skips stood) (ey ∙ ap ends_here stood)
  where
    here : (skips (standing b None n) || ends_here (standing b None n)) ≡ true → Searches f text
    here h = parting_found f n b rest text w
        (subst (λ cs. (skips (standing b (next_of cs None) n) || ends_here (standing b (next_of cs None) n)) ≡ true) (sym e) h)

    by : (x y : Bool) → x ≡ skips (standing b None n) → y ≡ ends_here (standing b None n) → IsTrue (x || y) ↔ Searches f text
    by true y ex ey = (λ h. here (or_left (skips (standing b None n)) (ends_here (standing b None n)) (sym ex)), λ h. refl)
    by false true ex ey = (λ h. here (or_right (skips (standing b None n)) (ends_here (standing b None n)) (sym ey)), λ h. refl)
    by false false ex ey = (λ h. absurd (true≢false (sym h)), λ h. absurd (parting_end f n b rest text w e (sym ex) (sym ey) h))

-- So it is for a tree without assertions where no part ends.
pub record PartingPlain (f : Form) (n : Node) (rest text : List ℕ) : Type 0 where
  pub before : Option ℕ
  pub kept : IsKept n
  pub plain : is_plain n ≡ true
  pub skipped : skips n ≡ false
  pub ended : ends_here n ≡ false
  pub parting : Parting f n before rest text

pub plain_parting_init : (n : Node) (rest text : List ℕ) → IsKept n → is_marked n ≡ false → is_plain n ≡ true → skips n ≡ false
    → rest ≡ text → PartingPlain (tree_form n) n rest text
plain_parting_init n rest text k none plain e same = record {
  before = None;
  kept = k;
  plain = plain;
  skipped = e;
  ended = ends_unmarked n k none;
  parting = parting_init n rest text k none same;
}

plain_parting_moved : (f : Form) (n m : Node) (c : ℕ) (rest rest' text : List ℕ) (w : PartingPlain f n rest text) → rest ≡ c ∷ rest'
    → m ≡ shifted true c n → Parting f m (Some c) rest' text
plain_parting_moved f n m c rest rest' text w split moved =
    let same = plain_same w.before (Some c) n w.kept w.plain in
    parting_step f n m w.before c rest rest' text w.parting split (ap skips same ∙ w.skipped) (ap ends_here same ∙ w.ended)
    (moved ∙ ap (shifted true c) (sym same))

pub plain_parting_step : (f : Form) (n m : Node) (c : ℕ) (rest rest' text : List ℕ) → PartingPlain f n rest text → rest ≡ c ∷ rest'
    → m ≡ shifted true c n → ends_here m ≡ false → PartingPlain f m rest' text
plain_parting_step f n m c rest rest' text w split moved e =
    let next = plain_parting_moved f n m c rest rest' text w split moved in
    record {
      before = Some c;
      kept = next.kept;
      plain = ap is_plain moved ∙ (plain_shifted n true c ∙ w.plain);
      skipped = ap skips moved ∙ (skips_shifted n true c ∙ w.skipped);
      ended = e;
      parting = next;
    }

pub plain_parting_found : (f : Form) (n m : Node) (c : ℕ) (rest rest' text : List ℕ) → PartingPlain f n rest text → rest ≡ c ∷ rest'
    → m ≡ shifted true c n → ends_here m ≡ true → Searches f text
plain_parting_found f n m c rest rest' text w split moved e =
    let next = plain_parting_moved f n m c rest rest' text w split moved in
    let plain = ap is_plain moved ∙ (plain_shifted n true c ∙ w.plain) in
    let same = plain_same (Some c) (next_of rest' None) m next.kept plain in
    parting_found f m (Some c) rest' text next
    (or_right (skips (standing (Some c) (next_of rest' None) m)) _ (ap ends_here same ∙ e))

pub plain_parting_end : (f : Form) (n : Node) (rest text : List ℕ) → PartingPlain f n rest text → rest ≡ [] → Searches f text → ⊥
plain_parting_end f n rest text w e h =
    let same = plain_same w.before None n w.kept w.plain in
    parting_end f n w.before rest text w.parting e (ap skips same ∙ w.skipped) (ap ends_here same ∙ w.ended) h

-- the empty part is a part of each text
pub empty_part : (n : Node) (text : List ℕ) → is_plain n ≡ true → skips n ≡ true → Searches (tree_form n) text
empty_part n text plain h = record {
  before = [];
  part = [];
  after = text;
  split = refl;
  matched = skips_sound n None (next_of text None) (plain_stands n None (next_of text None) plain) h;
}

-- where no mark is left
pub no_mark : (b : Bool) → not b ≡ true → b ≡ false
no_mark true e = absurd (true≢false (sym e))
no_mark false e = refl
