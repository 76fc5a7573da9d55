-- How much was read does not fall as tokens are read.
use Rattle.std.proofs.Common.{◌≡◌, ℕ, suc, ◌+◌, ◌-◌, ◌*◌, ◌<◌, ◌≤◌, List, [], ◌∷◌, ◌++◌, Option, Some, None}
use Rattle.std.proofs.Common.{refl, ap, arith}
use Rattle.std.specs.Prelude.{option_and_then, min, ◌^◌}
use Rattle.text_iregexp.specs.declared.reader.Level.{Level as CodeLevel}
use Rattle.text_regexp.specs.declared.assertion.Assertion.{Assertion}
use Rattle.text_iregexp.specs.Grammar.{Token, characters, opened, closed, bar, quantifier, asserted, Branch, Piece, once, times, asserts}
use Rattle.text_iregexp.specs.Grammar.{Atom, character, group}
use Rattle.text_iregexp.specs.Levels.{Level, level, State, fresh, settled, with_atom, branch_of, regexp_from, barred, regexp_of, quantified}
use Rattle.text_iregexp.specs.Levels.{in_state, advance, pieces_size, end_size, branches_size, level_size, outer_size, state_size}
use Rattle.text_iregexp.specs.Levels.{LastSized, IsSized, run, with_assertion}
use Rattle.text_iregexp.specs.Limits.{size_limit, repeated, regexp_size, branch_size, piece_size, atom_size}

pieces_push : (ps : List Piece) (p : Piece) → pieces_size (ps ++ p ∷ []) ≡ pieces_size ps + piece_size p
pieces_push [] p = omega arith
pieces_push (q ∷ ps) p = let h = pieces_push ps p in omega arith

branches_push : (bs : List Branch) (b : Branch) → branches_size (bs ++ b ∷ []) ≡ branches_size bs + suc (branch_size b)
branches_push [] b = omega arith
branches_push (c ∷ bs) b = let h = branches_push bs b in omega arith

branch_of_size : (ps : List Piece) → branch_size (branch_of ps) ≡ pieces_size ps
branch_of_size [] = refl
branch_of_size (p ∷ ps) = ap (λ n. piece_size p + n) (branch_of_size ps)

settled_size : (ps : List Piece) (end : Option Atom) → pieces_size (settled ps end) ≡ pieces_size ps + end_size end
settled_size ps None = omega arith
settled_size ps (Some a) = pieces_push ps (once a)

regexp_from_size : (bs : List Branch) (b : Branch) → regexp_size (regexp_from bs b) ≡ branches_size bs + branch_size b
regexp_from_size [] b = omega arith
regexp_from_size (c ∷ bs) b = let h = regexp_from_size bs b in omega arith

pub regexp_of_size : (l : Level) → regexp_size (regexp_of l) ≡ level_size l
regexp_of_size (level bs ps end) =
    let a = regexp_from_size bs (branch_of (settled ps end)) in
    let b = branch_of_size (settled ps end) in
    let c = settled_size ps end in
    omega arith

pub with_atom_size : (l : Level) (a : Atom) → level_size (with_atom l a) ≡ level_size l + atom_size a
with_atom_size (level bs ps end) a = let h = settled_size ps end in omega arith

pub with_assertion_size : (l : Level) (kind : Assertion) → level_size (with_assertion l kind) ≡ suc (level_size l)
with_assertion_size (level bs ps end) kind =
    let a = pieces_push (settled ps end) (asserts kind) in
    let b = settled_size ps end in
    omega arith

pub barred_size : (l : Level) → level_size (barred l) ≡ suc (level_size l)
barred_size (level bs ps end) =
    let a = branches_push bs (branch_of (settled ps end)) in
    let b = branch_of_size (settled ps end) in
    let c = settled_size ps end in
    omega arith

pub quantified_size : (bs : List Branch) (ps : List Piece) (a : Atom) (least : ℕ) (most : Option ℕ)
    → level_size (level bs (ps ++ times a least most ∷ []) None) ≡ level_size (level bs ps (Some a)) + repeated least most * atom_size a
quantified_size bs ps a least most = let h = pieces_push ps (times a least most) in omega arith

none_some : {A P : Type 0} {x : A} → None ≡ Some x → P
none_some h = cc

some_state : {s u : State} → Some s ≡ Some u → s ≡ u
some_state h = cc

advance_grows : (s : State) (t : Token) (u : State) → advance s t ≡ Some u → state_size s ≤ state_size u
advance_grows s (characters negated items) u e =
    let same = ap state_size (some_state e) in
    let h = with_atom_size s.0 (character negated items) in
    omega arith
advance_grows s opened u e = let same = ap state_size (some_state e) in omega arith
advance_grows (l, []) closed u e = none_some e
advance_grows (l, o ∷ ls) closed u e =
    let same = ap state_size (some_state e) in
    let h = with_atom_size o (group (regexp_of l)) in
    let k = regexp_of_size l in
    omega arith
advance_grows s bar u e = let same = ap state_size (some_state e) in let h = barred_size s.0 in omega arith
advance_grows s (quantifier least most) u e = by s.0 e
  where
    by : (l : Level) → in_state s.1 (quantified l least most) ≡ Some u → level_size l + outer_size s.1 ≤ state_size u
    by (level bs ps None) f = none_some f
    by (level bs ps (Some a)) f =
        let same = ap state_size (some_state f) in
        let h = quantified_size bs ps a least most in
        omega arith
advance_grows s (asserted kind) u e =
    let same = ap state_size (some_state e) in let h = with_assertion_size s.0 kind in omega arith

pub run_grows : (ts : List Token) (s u : State) → run s ts ≡ Some u → state_size s ≤ state_size u
run_grows [] s u e = let same = ap state_size (some_state e) in omega arith
run_grows (t ∷ ts) s u e = by (advance s t) refl e (λ v g. run_grows ts v u g)
  where
    by : (o : Option State) → advance s t ≡ o → option_and_then (λ v. run v ts) o ≡ Some u
        → ((v : State) → run v ts ≡ Some u → state_size v ≤ state_size u) → state_size s ≤ state_size u
    by None f g rec = none_some g
    by (Some v) f g rec =
        let one = advance_grows s t v f in
        let rest = rec v g in
        omega arith

-- ---- the code's levels

pub fresh_sized : (f : CodeLevel) (ls : List Level) → f.size ≡ outer_size ls → outer_size ls ≤ size_limit → IsSized f (fresh, ls)
fresh_sized f ls e l = record { size = omega arith; few = omega arith; ended = tt }

with_atom_last : (f : CodeLevel) (l : Level) (a : Atom) → f.last_size ≡ atom_size a → LastSized f (with_atom l a)
with_atom_last f (level bs ps end) a e = e

pub put_sized : (f g : CodeLevel) (l : Level) (ls : List Level) (a : Atom) → IsSized f (l, ls)
    → g.size ≡ f.size + atom_size a → g.size ≤ size_limit → g.last_size ≡ g.size - f.size → IsSized g (with_atom l a, ls)
put_sized f g l ls a s e m d =
    let h = with_atom_size l a in
    let k = s.size in
    record { size = omega arith; few = omega arith; ended = with_atom_last g l a (omega arith) }

barred_last : (f : CodeLevel) (l : Level) → LastSized f (barred l)
barred_last f (level bs ps end) = tt

pub barred_sized : (f g : CodeLevel) (l : Level) (ls : List Level) → IsSized f (l, ls) → g.size ≡ f.size + 1 → g.size ≤ size_limit
    → IsSized g (barred l, ls)
barred_sized f g l ls s e m =
    let h = barred_size l in
    let k = s.size in
    record { size = omega arith; few = omega arith; ended = barred_last g l }

assertion_last : (f : CodeLevel) (l : Level) (kind : Assertion) → LastSized f (with_assertion l kind)
assertion_last f (level bs ps end) kind = tt

pub quantified_sized : (f g : CodeLevel) (bs : List Branch) (ps : List Piece) (a : Atom) (least : ℕ) (most : Option ℕ) (ls : List Level)
    → IsSized f (level bs ps (Some a), ls) → g.size ≡ f.size + repeated least most * f.last_size → g.size ≤ size_limit
    → IsSized g (level bs (ps ++ times a least most ∷ []) None, ls)
quantified_sized f g bs ps a least most ls s e m =
    let h = quantified_size bs ps a least most in
    let k = s.size in
    let l : repeated least most * f.last_size ≡ repeated least most * atom_size a = ap (λ n. repeated least most * n) s.ended in
    record { size = omega arith; few = omega arith; ended = tt }

pub quantified_more : (f : CodeLevel) (bs : List Branch) (ps : List Piece) (a : Atom) (least : ℕ) (most : Option ℕ) (ls : List Level)
    → IsSized f (level bs ps (Some a), ls) → size_limit < f.size + repeated least most * f.last_size
    → size_limit < state_size (level bs (ps ++ times a least most ∷ []) None, ls)
quantified_more f bs ps a least most ls s m =
    let h = quantified_size bs ps a least most in
    let k = s.size in
    let l : repeated least most * f.last_size ≡ repeated least most * atom_size a = ap (λ n. repeated least most * n) s.ended in
    omega arith

-- ---- a product that is as large as a number can be, at most

pub product_below : (n product more size : ℕ) → more ≡ min product (2 ^ 64 - 1) → n ≡ size + more → n ≤ size_limit → n ≡ size + product
product_below n product more size e f l = omega arith

pub product_above : (product more size : ℕ) → more ≡ min product (2 ^ 64 - 1) → size_limit < size + more → size_limit < size + product
product_above product more size e l = omega arith

-- ---- a token is taken, or is too much

pub put_grown : (f g : CodeLevel) (l : Level) (ls : List Level) (a : Atom) (more size : ℕ) → IsSized f (l, ls)
    → (size ≡ f.size + more) × (size ≤ size_limit) → more ≡ atom_size a → g.size ≡ size → g.last_size ≡ size - f.size
    → IsSized g (with_atom l a, ls)
put_grown f g l ls a more size s w o e d =
    let sum = w.0 in
    let few = w.1 in
    put_sized f g l ls a s (omega arith) (omega arith) (omega arith)

pub put_large : (f : CodeLevel) (l : Level) (ls : List Level) (a : Atom) (more : ℕ) → IsSized f (l, ls) → more ≡ atom_size a
    → size_limit < f.size + more → size_limit < state_size (with_atom l a, ls)
put_large f l ls a more s o m = let h = with_atom_size l a in let k = s.size in omega arith

pub opened_grown : (f g : CodeLevel) (s : State) (size : ℕ) → IsSized f s → (size ≡ f.size + 1) × (size ≤ size_limit) → g.size ≡ size
    → IsSized g (fresh, s.0 ∷ s.1)
opened_grown f g s size i w e =
    let sum = w.0 in
    let few = w.1 in
    let k = i.size in
    fresh_sized g (s.0 ∷ s.1) (omega arith) (omega arith)

pub opened_large : (f : CodeLevel) (s : State) → IsSized f s → size_limit < f.size + 1 → size_limit < state_size (fresh, s.0 ∷ s.1)
opened_large f s i m = let k = i.size in omega arith

pub barred_grown : (f g : CodeLevel) (l : Level) (ls : List Level) (size : ℕ) → IsSized f (l, ls)
    → (size ≡ f.size + 1) × (size ≤ size_limit) → g.size ≡ size → IsSized g (barred l, ls)
barred_grown f g l ls size s w e =
    let sum = w.0 in
    let few = w.1 in
    barred_sized f g l ls s (omega arith) (omega arith)

pub assertion_grown : (f g : CodeLevel) (l : Level) (ls : List Level) (kind : Assertion) (size : ℕ) → IsSized f (l, ls)
    → (size ≡ f.size + 1) × (size ≤ size_limit) → g.size ≡ size → IsSized g (with_assertion l kind, ls)
assertion_grown f g l ls kind size s w e =
    let h = with_assertion_size l kind in
    let k = s.size in
    let sum = w.0 in
    let few = w.1 in
    record { size = omega arith; few = omega arith; ended = assertion_last g l kind }

pub assertion_large : (f : CodeLevel) (l : Level) (ls : List Level) (kind : Assertion) → IsSized f (l, ls) → size_limit < f.size + 1
    → size_limit < state_size (with_assertion l kind, ls)
assertion_large f l ls kind s m = let h = with_assertion_size l kind in let k = s.size in omega arith

pub barred_large : (f : CodeLevel) (l : Level) (ls : List Level) → IsSized f (l, ls) → size_limit < f.size + 1
    → size_limit < state_size (barred l, ls)
barred_large f l ls s m = let h = barred_size l in let k = s.size in omega arith
