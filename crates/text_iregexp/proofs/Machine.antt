-- The machine takes the tokens of a regular expression, and no others, to their tree.
use Rattle.std.proofs.Common.{◌≡◌, ℕ, List, [], ◌∷◌, ◌++◌, Option, Some, None, refl, sym, ap, ◌∙◌, append_assoc, append-nil}
use Rattle.std.specs.Prelude.{option_and_then}
use Rattle.text_iregexp.specs.Grammar.{Token, characters, opened, closed, bar, quantifier, asserted, Regexp, last, branches, Branch}
use Rattle.text_iregexp.specs.Grammar.{nothing, pieces, Piece, once, times, asserts, Atom, character, group, regexp_tokens, branch_tokens}
use Rattle.text_iregexp.specs.Grammar.{piece_tokens, atom_tokens}
use Rattle.text_iregexp.specs.Levels.{Level, level, State, fresh, settled, with_atom, branch_of, regexp_from, barred, regexp_of, quantified}
use Rattle.text_iregexp.specs.Levels.{in_state, close, advance, run, with_assertion}
use Rattle.text_regexp.specs.declared.assertion.Assertion.{Assertion}

-- ---- the tokens that were taken

abbrev pieces_tokens : List Piece → List Token
pieces_tokens [] = []
pieces_tokens (p ∷ ps) = piece_tokens p ++ pieces_tokens ps

abbrev barred_tokens : List Branch → List Token
barred_tokens [] = []
barred_tokens (b ∷ bs) = branch_tokens b ++ bar ∷ barred_tokens bs

abbrev level_tokens : Level → List Token
level_tokens (level bs ps end) = barred_tokens bs ++ pieces_tokens (settled ps end)

abbrev outer_tokens : List Level → List Token
outer_tokens [] = []
outer_tokens (l ∷ ls) = outer_tokens ls ++ (level_tokens l ++ opened ∷ [])

abbrev state_tokens : Level → List Level → List Token
state_tokens l ls = outer_tokens ls ++ level_tokens l

pieces_push : (ps : List Piece) (p : Piece) → pieces_tokens (ps ++ p ∷ []) ≡ pieces_tokens ps ++ piece_tokens p
pieces_push [] p = append-nil (piece_tokens p)
pieces_push (q ∷ ps) p = ap (λ ts. piece_tokens q ++ ts) (pieces_push ps p)
    ∙ sym (append_assoc (piece_tokens q) (pieces_tokens ps) (piece_tokens p))

barred_push : (bs : List Branch) (b : Branch) → barred_tokens (bs ++ b ∷ []) ≡ barred_tokens bs ++ (branch_tokens b ++ bar ∷ [])
barred_push [] b = refl
barred_push (c ∷ bs) b = ap (λ ts. branch_tokens c ++ bar ∷ ts) (barred_push bs b)
    ∙ sym (append_assoc (branch_tokens c) (bar ∷ barred_tokens bs) (branch_tokens b ++ bar ∷ []))

branch_of_tokens : (ps : List Piece) → branch_tokens (branch_of ps) ≡ pieces_tokens ps
branch_of_tokens [] = refl
branch_of_tokens (p ∷ ps) = ap (λ ts. piece_tokens p ++ ts) (branch_of_tokens ps)

regexp_from_tokens : (bs : List Branch) (b : Branch) → regexp_tokens (regexp_from bs b) ≡ barred_tokens bs ++ branch_tokens b
regexp_from_tokens [] b = refl
regexp_from_tokens (c ∷ bs) b = ap (λ ts. branch_tokens c ++ bar ∷ ts) (regexp_from_tokens bs b)
    ∙ sym (append_assoc (branch_tokens c) (bar ∷ barred_tokens bs) (branch_tokens b))

pub regexp_of_tokens : (l : Level) → regexp_tokens (regexp_of l) ≡ level_tokens l
regexp_of_tokens (level bs ps end) = regexp_from_tokens bs (branch_of (settled ps end))
    ∙ ap (λ ts. barred_tokens bs ++ ts) (branch_of_tokens (settled ps end))

atom_put : (l : Level) (a : Atom) → level_tokens (with_atom l a) ≡ level_tokens l ++ atom_tokens a
atom_put (level bs ps end) a = ap (λ ts. barred_tokens bs ++ ts) (pieces_push (settled ps end) (once a))
    ∙ sym (append_assoc (barred_tokens bs) (pieces_tokens (settled ps end)) (atom_tokens a))

assertion_put : (l : Level) (kind : Assertion) → level_tokens (with_assertion l kind) ≡ level_tokens l ++ asserted kind ∷ []
assertion_put (level bs ps end) kind = ap (λ ts. barred_tokens bs ++ ts) (pieces_push (settled ps end) (asserts kind))
    ∙ sym (append_assoc (barred_tokens bs) (pieces_tokens (settled ps end)) (asserted kind ∷ []))

bar_put : (l : Level) → level_tokens (barred l) ≡ level_tokens l ++ bar ∷ []
bar_put (level bs ps end) =
    append-nil (barred_tokens (bs ++ branch_of (settled ps end) ∷ []))
    ∙ (barred_push bs (branch_of (settled ps end))
    ∙ (ap (λ ts. barred_tokens bs ++ (ts ++ bar ∷ [])) (branch_of_tokens (settled ps end))
    ∙ sym (append_assoc (barred_tokens bs) (pieces_tokens (settled ps end)) (bar ∷ []))))

quantifier_put : (l l' : Level) (least : ℕ) (most : Option ℕ) → quantified l least most ≡ Some l'
    → level_tokens l' ≡ level_tokens l ++ quantifier least most ∷ []
quantifier_put (level bs ps None) l' least most e = cc
quantifier_put (level bs ps (Some a)) l' least most e =
    let same : level bs (ps ++ times a least most ∷ []) None ≡ l' = cc in
    ap level_tokens (sym same)
    ∙ (ap (λ ts. barred_tokens bs ++ ts) (pieces_push ps (times a least most))
    ∙ (ap (λ ts. barred_tokens bs ++ ts) (sym (append_assoc (pieces_tokens ps) (atom_tokens a) (quantifier least most ∷ [])))
    ∙ (sym (append_assoc (barred_tokens bs) (pieces_tokens ps ++ atom_tokens a) (quantifier least most ∷ []))
    ∙ ap (λ ts. (barred_tokens bs ++ ts) ++ quantifier least most ∷ []) (sym (pieces_push ps (once a))))))

in_outer : (ls : List Level) (l l' : Level) (ts : List Token) → level_tokens l' ≡ level_tokens l ++ ts
    → state_tokens l' ls ≡ state_tokens l ls ++ ts
in_outer ls l l' ts e = ap (λ us. outer_tokens ls ++ us) e ∙ sym (append_assoc (outer_tokens ls) (level_tokens l) ts)

abbrev Taken : Level → List Level → Token → Option State → Type 0
Taken l ls t o = (s : State) → o ≡ Some s → state_tokens s.0 s.1 ≡ state_tokens l ls ++ t ∷ []

some_state : (l : Level) (ls : List Level) (t : Token) (s : State) → state_tokens s.0 s.1 ≡ state_tokens l ls ++ t ∷ []
    → Taken l ls t (Some s)
some_state l ls t s e s' h = let same : s ≡ s' = cc in ap (λ x. state_tokens x.0 x.1) (sym same) ∙ e

none_state : (l : Level) (ls : List Level) (t : Token) → Taken l ls t None
none_state l ls t s h = cc

opened_put : (l : Level) (ls : List Level) → state_tokens fresh (l ∷ ls) ≡ state_tokens l ls ++ opened ∷ []
opened_put l ls = append-nil (outer_tokens ls ++ (level_tokens l ++ opened ∷ []))
    ∙ sym (append_assoc (outer_tokens ls) (level_tokens l) (opened ∷ []))

regroup : (a b c : List Token) (t u : Token) → a ++ (b ++ t ∷ (c ++ u ∷ [])) ≡ ((a ++ (b ++ t ∷ [])) ++ c) ++ u ∷ []
regroup a b c t u = simp append_assoc

closed_put : (l o : Level) (ls : List Level) → state_tokens (with_atom o (group (regexp_of l))) ls ≡ state_tokens l (o ∷ ls) ++ closed ∷ []
closed_put l o ls =
    ap (λ ts. outer_tokens ls ++ ts) (atom_put o (group (regexp_of l)))
    ∙ (ap (λ ts. outer_tokens ls ++ (level_tokens o ++ opened ∷ (ts ++ closed ∷ []))) (regexp_of_tokens l)
    ∙ regroup (outer_tokens ls) (level_tokens o) (level_tokens l) opened closed)

close_taken : (l : Level) (ls : List Level) → Taken l ls closed (close l ls)
close_taken l [] = none_state l [] closed
close_taken l (o ∷ ls) = some_state l (o ∷ ls) closed (with_atom o (group (regexp_of l)), ls) (closed_put l o ls)

quantifier_taken : (l : Level) (ls : List Level) (least : ℕ) (most : Option ℕ)
    → Taken l ls (quantifier least most) (in_state ls (quantified l least most))
quantifier_taken l ls least most = by (quantified l least most) refl
  where
    by : (o : Option Level) → quantified l least most ≡ o → Taken l ls (quantifier least most) (in_state ls o)
    by None e = none_state l ls (quantifier least most)
    by (Some l') e = some_state l ls (quantifier least most) (l', ls)
        (in_outer ls l l' (quantifier least most ∷ []) (quantifier_put l l' least most e))

taken : (l : Level) (ls : List Level) (t : Token) → Taken l ls t (advance (l, ls) t)
taken l ls (characters negated items) =
    some_state l ls (characters negated items) (with_atom l (character negated items), ls)
    (in_outer ls l (with_atom l (character negated items)) (characters negated items ∷ []) (atom_put l (character negated items)))
taken l ls opened = some_state l ls opened (fresh, l ∷ ls) (opened_put l ls)
taken l ls closed = close_taken l ls
taken l ls bar = some_state l ls bar (barred l, ls) (in_outer ls l (barred l) (bar ∷ []) (bar_put l))
taken l ls (quantifier least most) = quantifier_taken l ls least most
taken l ls (asserted kind) =
    some_state l ls (asserted kind) (with_assertion l kind, ls)
    (in_outer ls l (with_assertion l kind) (asserted kind ∷ []) (assertion_put l kind))

run_tokens : (ts : List Token) (s s' : State) → run s ts ≡ Some s' → state_tokens s'.0 s'.1 ≡ state_tokens s.0 s.1 ++ ts
run_tokens [] s s' e = let same : s ≡ s' = cc in ap (λ x. state_tokens x.0 x.1) (sym same) ∙ sym (append-nil (state_tokens s.0 s.1))
run_tokens (t ∷ ts) s s' e = by (advance s t) (taken s.0 s.1 t) e (λ u h. run_tokens ts u s' h)
  where
    by : (o : Option State) → Taken s.0 s.1 t o → option_and_then (λ u. run u ts) o ≡ Some s'
        → ((u : State) → run u ts ≡ Some s' → state_tokens s'.0 s'.1 ≡ state_tokens u.0 u.1 ++ ts)
        → state_tokens s'.0 s'.1 ≡ state_tokens s.0 s.1 ++ t ∷ ts
    by None k e rec = cc
    by (Some u) k e rec = rec u e ∙ (ap (λ us. us ++ ts) (k u refl) ∙ append_assoc (state_tokens s.0 s.1) (t ∷ []) ts)

pub machine_sound : (ts : List Token) (l : Level) → run (fresh, []) ts ≡ Some (l, []) → regexp_tokens (regexp_of l) ≡ ts
machine_sound ts l e = regexp_of_tokens l ∙ run_tokens ts (fresh, []) (l, []) e

-- ---- each regular expression is taken

abbrev pieces_of : Branch → List Piece
pieces_of nothing = []
pieces_of (pieces p b) = p ∷ pieces_of b

branch_of_pieces : (b : Branch) → branch_of (pieces_of b) ≡ b
branch_of_pieces nothing = refl
branch_of_pieces (pieces p b) = ap (pieces p) (branch_of_pieces b)

abbrev prepended : List Branch → Regexp → Regexp
prepended [] r = r
prepended (b ∷ bs) r = branches b (prepended bs r)

regexp_from_last : (bs : List Branch) (b : Branch) → regexp_from bs b ≡ prepended bs (last b)
regexp_from_last [] b = refl
regexp_from_last (c ∷ bs) b = ap (branches c) (regexp_from_last bs b)

prepended_push : (bs : List Branch) (b : Branch) (r : Regexp) → prepended (bs ++ b ∷ []) r ≡ prepended bs (branches b r)
prepended_push [] b r = refl
prepended_push (c ∷ bs) b r = ap (branches c) (prepended_push bs b r)

record RunsRegexp (r : Regexp) (bs : List Branch) (ls : List Level) (rest : List Token) : Type 0 where
  end_level : Level
  runs : run (level bs [] None, ls) (regexp_tokens r ++ rest) ≡ run (end_level, ls) rest
  whole : regexp_of end_level ≡ prepended bs r

record RunsPieces (ts : List Token) (qs : List Piece) (bs : List Branch) (ps : List Piece) (end : Option Atom) (ls : List Level)
    (rest : List Token) : Type 0 where
  front : List Piece
  ended : Option Atom
  runs : run (level bs ps end, ls) (ts ++ rest) ≡ run (level bs front ended, ls) rest
  whole : settled front ended ≡ settled ps end ++ qs

abbrev RunsAtom : Atom → List Branch → List Piece → Option Atom → List Level → List Token → Type 0
RunsAtom a bs ps end ls rest = run (level bs ps end, ls) (atom_tokens a ++ rest) ≡ run (level bs (settled ps end) (Some a), ls) rest

mutual
  runs_regexp : (r : Regexp) (bs : List Branch) (ls : List Level) (rest : List Token) → RunsRegexp r bs ls rest
  runs_regexp (last b) bs ls rest =
      let k = runs_branch b bs [] None ls rest in
      record {
        end_level = level bs k.front k.ended;
        runs = k.runs;
        whole = ap (λ ps. regexp_from bs (branch_of ps)) k.whole ∙ (ap (regexp_from bs) (branch_of_pieces b) ∙ regexp_from_last bs b);
      }
  runs_regexp (branches b r) bs ls rest =
      let k = runs_branch b bs [] None ls (bar ∷ (regexp_tokens r ++ rest)) in
      let b' = branch_of (settled k.front k.ended) in
      let m = runs_regexp r (bs ++ b' ∷ []) ls rest in
      record {
        end_level = m.end_level;
        runs = ap (run (level bs [] None, ls)) (append_assoc (branch_tokens b) (bar ∷ regexp_tokens r) rest) ∙ (k.runs ∙ m.runs);
        whole = m.whole ∙ (prepended_push bs b' r ∙ ap (λ c. prepended bs (branches c r)) (ap branch_of k.whole ∙ branch_of_pieces b));
      }

  runs_branch : (b : Branch) (bs : List Branch) (ps : List Piece) (end : Option Atom) (ls : List Level) (rest : List Token)
      → RunsPieces (branch_tokens b) (pieces_of b) bs ps end ls rest
  runs_branch nothing bs ps end ls rest = record { front = ps; ended = end; runs = refl; whole = sym (append-nil (settled ps end)) }
  runs_branch (pieces p b) bs ps end ls rest =
      let k = runs_piece p bs ps end ls (branch_tokens b ++ rest) in
      let m = runs_branch b bs k.front k.ended ls rest in
      record {
        front = m.front;
        ended = m.ended;
        runs = ap (run (level bs ps end, ls)) (append_assoc (piece_tokens p) (branch_tokens b) rest) ∙ (k.runs ∙ m.runs);
        whole = m.whole ∙ (ap (λ qs. qs ++ pieces_of b) k.whole ∙ append_assoc (settled ps end) (p ∷ []) (pieces_of b));
      }

  runs_piece : (p : Piece) (bs : List Branch) (ps : List Piece) (end : Option Atom) (ls : List Level) (rest : List Token)
      → RunsPieces (piece_tokens p) (p ∷ []) bs ps end ls rest
  runs_piece (once a) bs ps end ls rest =
      record { front = settled ps end; ended = Some a; runs = runs_atom a bs ps end ls rest; whole = refl }
  runs_piece (times a least most) bs ps end ls rest = record {
    front = settled ps end ++ times a least most ∷ [];
    ended = None;
    runs = ap (run (level bs ps end, ls)) (append_assoc (atom_tokens a) (quantifier least most ∷ []) rest)
        ∙ runs_atom a bs ps end ls (quantifier least most ∷ rest);
    whole = refl;
  }
  runs_piece (asserts kind) bs ps end ls rest =
      record { front = settled ps end ++ asserts kind ∷ []; ended = None; runs = refl; whole = refl }

  runs_atom : (a : Atom) (bs : List Branch) (ps : List Piece) (end : Option Atom) (ls : List Level) (rest : List Token)
      → RunsAtom a bs ps end ls rest
  runs_atom (character negated items) bs ps end ls rest = refl
  runs_atom (group r) bs ps end ls rest =
      let k = runs_regexp r [] (level bs ps end ∷ ls) (closed ∷ rest) in
      ap (run (fresh, level bs ps end ∷ ls)) (append_assoc (regexp_tokens r) (closed ∷ []) rest)
      ∙ (k.runs ∙ ap (λ x. run (level bs (settled ps end) (Some (group x)), ls) rest) k.whole)

-- the tokens of a regular expression lead to a state with no group around it
pub machine_complete : (r : Regexp) → (l : Level) × (run (fresh, []) (regexp_tokens r) ≡ Some (l, [])) × (regexp_of l ≡ r)
machine_complete r =
    let k = runs_regexp r [] [] [] in
    (k.end_level, ap (run (fresh, [])) (sym (append-nil (regexp_tokens r))) ∙ k.runs, k.whole)
