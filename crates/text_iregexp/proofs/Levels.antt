-- What the code's levels stand for, as tokens are taken.
use Rattle.std.proofs.Common.{◌≡◌, ℕ, suc, ◌+◌, ◌-◌, ◌*◌, ◌<◌, ◌≤◌, List, [], ◌∷◌, ◌++◌, length, map, Option, Some, None, Result, Ok, Err}
use Rattle.std.proofs.Common.{refl, sym, ap, ◌∙◌, subst, arith, length-append}
use Rattle.std.proofs.lemmas.List.{map-append}
use Rattle.text_iregexp.specs.declared.error.IRegexpErrorKind.{IRegexpErrorKind}
use Rattle.text_iregexp.specs.declared.error.IRegexpErrorKind.TheVariants.{Invalid, TooDeep, TooLarge, OutOfMemory}
use Rattle.text_regexp.specs.declared.assertion.Assertion.{Assertion}
use Rattle.text_regexp.specs.declared.expression.Expression.{Expression}
use Rattle.text_iregexp.specs.declared.reader.Level.{Level as CodeLevel}
use Rattle.text_regexp.specs.Forms.{Form, assertion, concat, alternation, repetition}
use Rattle.text_regexp.specs.Building.{Means, AllMean, sequence, choice, choice_from}
use Rattle.text_iregexp.specs.Grammar.{Token, closed, quantifier, Branch, Piece, once, times, asserts, Atom, group, regexp_form}
use Rattle.text_iregexp.specs.Grammar.{branch_form}
use Rattle.text_iregexp.specs.Grammar.{piece_form}
use Rattle.text_iregexp.specs.Grammar.{atom_form}
use Rattle.text_iregexp.specs.Levels.{Level, level, State, settled, settle, with_atom, branch_of, regexp_from, barred, regexp_of}
use Rattle.text_iregexp.specs.Levels.{quantified}
use Rattle.text_iregexp.specs.Levels.{in_state, close, advance, MeansEnd, StandsAt, IsSized, Outer, Agrees, Quantifies, Takes, level_size}
use Rattle.text_iregexp.specs.Levels.{outer_size, state_size, with_assertion}
use Rattle.text_iregexp.specs.Limits.{size_limit, repeated, regexp_size}
use Rattle.text_regexp.proofs.Callers.{all_mean_push}
use Rattle.text_iregexp.proofs.Sizes.{regexp_of_size, put_sized, quantified_sized, quantified_more}

pub all_mean_map_push : {A : Type 0} (form : A → Form) (ns ms : List Expression) (n : Expression) (xs : List A) (x : A) → ms ≡ ns ++ n ∷ []
    → AllMean ns (map form xs) → Means n (form x) → AllMean ms (map form (xs ++ x ∷ []))
all_mean_map_push form ns ms n xs x e a m =
    subst (AllMean ms) (sym (map-append form xs (x ∷ []))) (all_mean_push ns ms n (map form xs) (form x) e a m)

pub ended_none : (o : Option Expression) (end : Option Atom) → o ≡ None → MeansEnd o end → end ≡ None
ended_none o None e m = refl
ended_none o (Some a) e m = absurd (subst (λ x. MeansEnd x (Some a)) e m)

pub stands_same : (f g : CodeLevel) (l : Level) → g.branches ≡ f.branches → g.pieces ≡ f.pieces → g.last ≡ f.last → StandsAt f l
    → StandsAt g l
stands_same f g (level bs ps end) b p o s = record {
  done = subst (λ v. AllMean v.items (map branch_form bs)) (sym b) s.done;
  front = subst (λ v. AllMean v.items (map piece_form ps)) (sym p) s.front;
  ended = subst (λ x. MeansEnd x end) (sym o) s.ended;
}

pub settle_stands : (f g : CodeLevel) (n : Expression) (l : Level) → f.last ≡ Some n → g.branches ≡ f.branches
    → g.pieces.items ≡ f.pieces.items ++ n ∷ [] → g.last ≡ None → StandsAt f l → StandsAt g (settle l)
settle_stands f g n (level bs ps None) e b p o s = absurd (subst (λ x. MeansEnd x None) e s.ended)
settle_stands f g n (level bs ps (Some a)) e b p o s = record {
  done = subst (λ v. AllMean v.items (map branch_form bs)) (sym b) s.done;
  front = all_mean_map_push piece_form f.pieces.items g.pieces.items n ps (once a) p s.front (subst (λ x. MeansEnd x (Some a)) e s.ended);
  ended = subst (λ x. MeansEnd x None) (sym o) tt;
}

pub sequence_branch : (ps : List Piece) → sequence (map piece_form ps) ≡ branch_form (branch_of ps)
sequence_branch [] = refl
sequence_branch (p ∷ ps) = ap (concat (piece_form p)) (sequence_branch ps)

-- the level f after the last atom was settled, and g after the branch was ended, which is the node n
pub barred_stands : (f g : CodeLevel) (n : Expression) (l : Level) → StandsAt f (settle l)
    → ((fs : List Form) → AllMean f.pieces.items fs → Means n (sequence fs)) → g.branches.items ≡ f.branches.items ++ n ∷ []
    → g.pieces.items ≡ [] → g.last ≡ f.last → StandsAt g (barred l)
barred_stands f g n (level bs ps end) s m b p o = record {
  done = all_mean_map_push branch_form f.branches.items g.branches.items n bs (branch_of (settled ps end)) b s.done
      (subst (Means n) (sequence_branch (settled ps end)) (m (map piece_form (settled ps end)) s.front));
  front = subst (λ ns. AllMean ns []) (sym p) tt;
  ended = subst (λ x. MeansEnd x None) (sym o) s.ended;
}

choice_more : (f : Form) (bs : List Branch) (b : Branch)
    → choice_from f (map branch_form (bs ++ b ∷ [])) ≡ alternation f (choice (map branch_form (bs ++ b ∷ [])))
choice_more f [] b = refl
choice_more f (c ∷ bs) b = refl

pub choice_regexp : (bs : List Branch) (b : Branch) → choice (map branch_form (bs ++ b ∷ [])) ≡ regexp_form (regexp_from bs b)
choice_regexp [] b = refl
choice_regexp (c ∷ bs) b = choice_more (branch_form c) bs b ∙ ap (alternation (branch_form c)) (choice_regexp bs b)

pub finished : (f : CodeLevel) (n : Expression) (l : Level) → StandsAt f (barred l)
    → ((fs : List Form) → AllMean f.branches.items fs → Means n (choice fs)) → Means n (regexp_form (regexp_of l))
finished f n (level bs ps end) s m =
    subst (Means n) (choice_regexp bs (branch_of (settled ps end))) (m (map branch_form (bs ++ branch_of (settled ps end) ∷ [])) s.done)

pub put_stands : (f g : CodeLevel) (n : Expression) (l : Level) (a : Atom) → StandsAt f (settle l) → Means n (atom_form a)
    → g.branches ≡ f.branches → g.pieces ≡ f.pieces → g.last ≡ Some n → StandsAt g (with_atom l a)
put_stands f g n (level bs ps end) a s m b p o = record {
  done = subst (λ v. AllMean v.items (map branch_form bs)) (sym b) s.done;
  front = subst (λ v. AllMean v.items (map piece_form (settled ps end))) (sym p) s.front;
  ended = subst (λ x. MeansEnd x (Some a)) (sym o) m;
}

pub assertion_stands : (f g : CodeLevel) (n : Expression) (l : Level) (kind : Assertion) → StandsAt f (settle l) → Means n (assertion kind)
    → g.branches ≡ f.branches → g.pieces.items ≡ f.pieces.items ++ n ∷ [] → g.last ≡ f.last → StandsAt g (with_assertion l kind)
assertion_stands f g n (level bs ps end) kind s m b p o = record {
  done = subst (λ v. AllMean v.items (map branch_form bs)) (sym b) s.done;
  front = all_mean_map_push piece_form f.pieces.items g.pieces.items n (settled ps end) (asserts kind) p s.front m;
  ended = subst (λ x. MeansEnd x None) (sym o) s.ended;
}

pub quantified_stands : (f g : CodeLevel) (n m : Expression) (least : ℕ) (most : Option ℕ) (l : Level) → f.last ≡ Some n
    → ((h : Form) → Means n h → Means m (repetition h least most)) → g.branches ≡ f.branches → g.pieces.items ≡ f.pieces.items ++ m ∷ []
    → g.last ≡ None → g.size ≡ f.size + repeated least most * f.last_size → g.size ≤ size_limit → StandsAt f l
    → (l' : Level) × (quantified l least most ≡ Some l') × StandsAt g l' × ((ls : List Level) → IsSized f (l, ls) → IsSized g (l', ls))
quantified_stands f g n m least most (level bs ps None) e r b p o z k s = absurd (subst (λ x. MeansEnd x None) e s.ended)
quantified_stands f g n m least most (level bs ps (Some a)) e r b p o z k s = (
  level bs (ps ++ times a least most ∷ []) None,
  refl,
  record {
    done = subst (λ v. AllMean v.items (map branch_form bs)) (sym b) s.done;
    front = all_mean_map_push piece_form f.pieces.items g.pieces.items m ps (times a least most) p s.front
        (r (atom_form a) (subst (λ x. MeansEnd x (Some a)) e s.ended));
    ended = subst (λ x. MeansEnd x None) (sym o) tt;
  },
  λ ls i. quantified_sized f g bs ps a least most ls i z k,
)

pub quantified_large : (f : CodeLevel) (n : Expression) (least : ℕ) (most : Option ℕ) (l : Level) → f.last ≡ Some n
    → size_limit < f.size + repeated least most * f.last_size → StandsAt f l
    → (l' : Level) × (quantified l least most ≡ Some l') × ((ls : List Level) → IsSized f (l, ls) → size_limit < state_size (l', ls))
quantified_large f n least most (level bs ps None) e z s = absurd (subst (λ x. MeansEnd x None) e s.ended)
quantified_large f n least most (level bs ps (Some a)) e z s =
    (level bs (ps ++ times a least most ∷ []) None, refl, λ ls i. quantified_more f bs ps a least most ls i z)

pub quantified_nothing : (f : CodeLevel) (least : ℕ) (most : Option ℕ) (l : Level) → f.last ≡ None → StandsAt f l
    → quantified l least most ≡ None
quantified_nothing f least most (level bs ps end) e s = ap (λ x. quantified (level bs ps x) least most) (ended_none f.last end e s.ended)

-- ---- the levels around

pub outer_push : (fs gs : List CodeLevel) (f : CodeLevel) (l : Level) (ls : List Level) → gs ≡ fs ++ f ∷ [] → Outer fs ls → StandsAt f l
    → IsSized f (l, ls) → Outer gs (l ∷ ls)
outer_push fs gs f l ls e o s z = (fs, f, e, s, z, o)

front_of : (fs : List CodeLevel) → List CodeLevel
front_of [] = []
front_of (f ∷ []) = []
front_of (f ∷ g ∷ fs) = f ∷ front_of (g ∷ fs)

last_of : CodeLevel → List CodeLevel → CodeLevel
last_of d [] = d
last_of d (f ∷ fs) = last_of f fs

last_push : (d : CodeLevel) (fs : List CodeLevel) (f : CodeLevel) → last_of d (fs ++ f ∷ []) ≡ f
unfolding last_of
last_push d [] f = refl
last_push d (g ∷ fs) f = last_push g fs f

front_push : (fs : List CodeLevel) (f : CodeLevel) → front_of (fs ++ f ∷ []) ≡ fs
unfolding front_of
front_push [] f = refl
front_push (g ∷ []) f = refl
front_push (g ∷ h ∷ fs) f = ap (λ xs. g ∷ xs) (front_push (h ∷ fs) f)

pub outer_pop : (fs gs : List CodeLevel) (f : CodeLevel) (ls : List Level) → gs ≡ fs ++ f ∷ [] → Outer gs ls
    → (l : Level) × (ms : List Level) × (ls ≡ l ∷ ms) × StandsAt f l × IsSized f (l, ms) × Outer fs ms
outer_pop fs gs f [] e o =
    let none : length (fs ++ f ∷ []) ≡ 0 = ap length (sym e ∙ o) in
    let some = length-append fs (f ∷ []) in
    absurd (omega arith)
outer_pop fs gs f (l ∷ ls) e o =
    let same : o.0 ++ o.1 ∷ [] ≡ fs ++ f ∷ [] = sym o.2 ∙ e in
    let front : o.0 ≡ fs = sym (front_push o.0 o.1) ∙ (ap front_of same ∙ front_push fs f) in
    let back : o.1 ≡ f = sym (last_push f o.0 o.1) ∙ (ap (last_of f) same ∙ last_push f fs f) in (
      l,
      ls,
      refl,
      subst (λ x. StandsAt x l) back o.3,
      subst (λ x. IsSized x (l, ls)) back o.4,
      subst (λ x. Outer x ls) front o.5,
    )

pub outer_none : (fs : List CodeLevel) (ls : List Level) → fs ≡ [] → Outer fs ls → ls ≡ []
outer_none fs [] e o = refl
outer_none fs (l ∷ ls) e o =
    let none : length (o.0 ++ o.1 ∷ []) ≡ 0 = ap length (sym o.2 ∙ e) in
    let some = length-append o.0 (o.1 ∷ []) in
    absurd (omega arith)

pub quantifier_takes : (here here' : CodeLevel) (outer : List CodeLevel) (least : ℕ) (most : Option ℕ) (t : Token)
    (r : Result (Unit {0}) IRegexpErrorKind) → t ≡ quantifier least most → Quantifies here least most r here'
    → Takes here outer t r here' outer
quantifier_takes here here' outer least most t (Ok x) e q = λ s a.
    let k = q s.0 a.0 in
    ((k.0, s.1), ap (advance s) e ∙ ap (in_state s.1) k.1, (k.2, k.3 s.1 a.1, a.2))
quantifier_takes here here' outer least most t (Err Invalid) e q = λ s a. ap (advance s) e ∙ ap (in_state s.1) (q s.0 a.0)
quantifier_takes here here' outer least most t (Err TooDeep) e q = absurd q
quantifier_takes here here' outer least most t (Err TooLarge) e q = λ s a.
    let k = q s.0 a.0 in
    ((k.0, s.1), ap (advance s) e ∙ ap (in_state s.1) k.1, k.2 s.1 a.1)
quantifier_takes here here' outer least most t (Err OutOfMemory) e q = tt

pub closed_takes : (here here' around : CodeLevel) (outer outer' : List CodeLevel) (n : Expression) (t : Token) → t ≡ closed
    → outer ≡ outer' ++ around ∷ [] → ((l : Level) → StandsAt here l → Means n (regexp_form (regexp_of l)))
    → ((l : Level) (a : Atom) → StandsAt around l → Means n (atom_form a) → StandsAt here' (with_atom l a)) → here'.size ≡ here.size
    → here'.last_size ≡ here.size - around.size → (s : State) → Agrees here outer s
    → (s' : State) × (advance s t ≡ Some s') × Agrees here' outer' s'
closed_takes here here' around outer outer' n t e split whole put z k s a =
    let p = outer_pop outer' outer around s.1 split a.2 in
    let around_size : around.size ≡ level_size p.0 + outer_size p.1 = p.4.size in
    let here_size : here.size ≡ level_size s.0 + outer_size s.1 = a.1.size in
    let few : level_size s.0 + outer_size s.1 ≤ size_limit = a.1.few in
    let outer_same : outer_size s.1 ≡ suc (level_size p.0 + outer_size p.1) = ap outer_size p.2 in
    let same : regexp_size (regexp_of s.0) ≡ level_size s.0 = regexp_of_size s.0 in (
      (with_atom p.0 (group (regexp_of s.0)), p.1),
      ap (advance s) e ∙ ap (close s.0) p.2,
      (
        put p.0 (group (regexp_of s.0)) p.3 (whole s.0 a.0),
        put_sized around here' p.0 p.1 (group (regexp_of s.0)) p.4 (omega arith) (omega arith) (omega arith),
        p.5,
      ),
    )
