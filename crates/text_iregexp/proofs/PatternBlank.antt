-- A level of the code in which nothing was read, or one piece, and a level without its first or last piece.
use Rattle.std.proofs.Common.{◌≡◌, ◌<◌, ◌≢◌, ◌+◌, ◌-◌, ℕ, zero, suc, Bool, true, false, cond, List, [], ◌∷◌, ◌++◌, length, map, take, drop}
use Rattle.std.proofs.Common.{Option, Some, None, refl, subst, arith, not, sym, ap, ◌∙◌, true≢false}
use Rattle.std.specs.Prelude.{is_some}
use Rattle.text_regexp.specs.declared.expression.Expression.{Expression}
use Rattle.text_iregexp.specs.declared.reader.Level.{Level as CodeLevel}
use Rattle.text_regexp.specs.Building.{AllMean}
use Rattle.text_regexp.specs.Forms.{Form}
use Rattle.text_iregexp.specs.Grammar.{Piece, Atom, branch_form, piece_form}
use Rattle.text_iregexp.specs.Levels.{Level, level, StandsAt, MeansEnd}
use Rattle.text_iregexp.specs.PatternMachine.{is_blank, is_single, without_first, without_last, all_but_last}

no_nodes : (ns : List Expression) → 0 < length ns → AllMean ns [] → ⊥
no_nodes [] l a = absurd (omega arith)
no_nodes (n ∷ ns) l a = a

some_nodes : (ns : List Expression) (f : Form) (fs : List Form) → ns ≡ [] → AllMean ns (f ∷ fs) → ⊥
some_nodes [] f fs e a = a
some_nodes (n ∷ ns) f fs e a = cc

pub blank_branches : (f : CodeLevel) (l : Level) → 0 < length f.branches.items → StandsAt f l → false ≡ is_blank l
blank_branches f (level [] ps z) l s = absurd (no_nodes f.branches.items l s.done)
blank_branches f (level (b ∷ bs) ps z) l s = refl

pub blank_pieces : (f : CodeLevel) (l : Level) → 0 < length f.pieces.items → StandsAt f l → false ≡ is_blank l
blank_pieces f (level bs [] z) l s = absurd (no_nodes f.pieces.items l s.front)
blank_pieces f (level [] (p ∷ ps) z) l s = refl
blank_pieces f (level (b ∷ bs) (p ∷ ps) z) l s = refl

pub blank_some : (f : CodeLevel) (l : Level) (n : Expression) → f.last ≡ Some n → StandsAt f l → false ≡ is_blank l
blank_some f (level bs ps None) n e s = absurd (subst (λ o. MeansEnd o None) e s.ended)
blank_some f (level [] [] (Some a)) n e s = refl
blank_some f (level [] (p ∷ ps) (Some a)) n e s = refl
blank_some f (level (b ∷ bs) ps (Some a)) n e s = refl

pub blank_none : (f : CodeLevel) (l : Level) → f.branches.items ≡ [] → f.pieces.items ≡ [] → f.last ≡ None → StandsAt f l
    → true ≡ is_blank l
blank_none f (level bs ps (Some a)) b p e s = absurd (subst (λ o. MeansEnd o (Some a)) e s.ended)
blank_none f (level [] [] None) b p e s = refl
blank_none f (level [] (q ∷ ps) None) b p e s = absurd (some_nodes f.pieces.items _ _ p s.front)
blank_none f (level (c ∷ bs) ps None) b p e s = absurd (some_nodes f.branches.items _ _ b s.done)

pub blank_last : (f : CodeLevel) (l : Level) (b : Bool) → is_some f.last ≡ not b → f.branches.items ≡ [] → f.pieces.items ≡ []
    → StandsAt f l → b ≡ is_blank l
blank_last f l b e bs ps s = by f.last b refl e
  where
    by : (o : Option Expression) (b : Bool) → f.last ≡ o → is_some o ≡ not b → b ≡ is_blank l
    by None true k h = blank_none f l bs ps k s
    by None false k h = absurd (true≢false (sym h))
    by (Some n) true k h = absurd (true≢false h)
    by (Some n) false k h = blank_some f l n k s

-- ---- one piece

pub single_branches : (f : CodeLevel) (l : Level) → 0 < length f.branches.items → StandsAt f l → false ≡ is_single l
single_branches f (level [] ps z) l s = absurd (no_nodes f.branches.items l s.done)
single_branches f (level (b ∷ bs) ps z) l s = refl

mean_length : (ns : List Expression) (fs : List Form) → AllMean ns fs → length ns ≡ length fs
mean_length [] [] a = refl
mean_length [] (f ∷ fs) a = absurd a
mean_length (n ∷ ns) [] a = absurd a
mean_length (n ∷ ns) (f ∷ fs) a = let h = mean_length ns fs a.1 in omega arith

pub single_pieces : (f : CodeLevel) (l : Level) → length f.pieces.items ≢ 1 → StandsAt f l → false ≡ is_single l
single_pieces f (level (b ∷ bs) ps z) n s = refl
single_pieces f (level [] [] z) n s = refl
single_pieces f (level [] (p ∷ []) z) n s = absurd (n (mean_length f.pieces.items (map piece_form (p ∷ [])) s.front))
single_pieces f (level [] (p ∷ q ∷ ps) z) n s = refl

pub single_last : (f : CodeLevel) (l : Level) (b : Bool) → is_some f.last ≡ not b → f.branches.items ≡ [] → length f.pieces.items ≡ 1
    → StandsAt f l → b ≡ is_single l
single_last f (level (c ∷ bs) ps z) b e n k s = absurd (some_nodes f.branches.items _ _ n s.done)
single_last f (level [] [] z) b e n k s = let none = mean_length f.pieces.items [] s.front in absurd (omega arith)
single_last f (level [] (p ∷ q ∷ ps) z) b e n k s =
    let many = mean_length f.pieces.items (map piece_form (p ∷ q ∷ ps)) s.front in absurd (omega arith)
single_last f (level [] (p ∷ []) z) b e n k s = by f.last z b refl s.ended e
  where
    by : (o : Option Expression) (z : Option Atom) (b : Bool) → f.last ≡ o → MeansEnd o z → is_some f.last ≡ not b
        → b ≡ is_single (level [] (p ∷ []) z)
    by None None true g m h = refl
    by None None false g m h = absurd (true≢false (sym (sym (ap is_some g) ∙ h)))
    by None (Some a) b g m h = absurd m
    by (Some x) None b g m h = absurd m
    by (Some x) (Some a) true g m h = absurd (true≢false (sym (ap is_some g) ∙ h))
    by (Some x) (Some a) false g m h = refl

-- ---- without the first piece, or the last one

pub uncut : (f : CodeLevel) (l : Level) (first : Bool) → first ≡ false → StandsAt f l → StandsAt f (cond first (without_first l) l)
uncut f l first e s = subst (λ b. StandsAt f (cond b (without_first l) l)) (sym e) s

pub uncut_last : (f : CodeLevel) (l : Level) (last : Bool) → last ≡ false → StandsAt f l → StandsAt f (cond last (without_last l) l)
uncut_last f l last e s = subst (λ b. StandsAt f (cond b (without_last l) l)) (sym e) s

-- there is none
pub cut_nothing : (f : CodeLevel) (l : Level) (first : Bool) → f.pieces.items ≡ [] → StandsAt f l
    → StandsAt f (cond first (without_first l) l)
cut_nothing f l false e s = s
cut_nothing f (level bs [] z) true e s = s
cut_nothing f (level bs (p ∷ ps) z) true e s = absurd (some_nodes f.pieces.items _ _ e s.front)

rest_nothing : (ns : List Expression) → AllMean ns [] → AllMean (take 0 ns ++ drop (0 + 1) ns) []
rest_nothing [] a = tt
rest_nothing (n ∷ ns) a = absurd a

rest_means : (ns : List Expression) (f : Form) (fs : List Form) → AllMean ns (f ∷ fs) → AllMean (take 0 ns ++ drop (0 + 1) ns) fs
rest_means [] f fs a = absurd a
rest_means (n ∷ ns) f fs a = a.1

pub first_cut : (f g : CodeLevel) (l : Level) (first : Bool) → first ≡ true → g.branches ≡ f.branches
    → g.pieces.items ≡ take 0 f.pieces.items ++ drop (0 + 1) f.pieces.items → g.last ≡ f.last → StandsAt f l
    → StandsAt g (cond first (without_first l) l)
first_cut f g l first e b p o s = subst (λ x. StandsAt g (cond x (without_first l) l)) (sym e) (by l s)
  where
    by : (l : Level) → StandsAt f l → StandsAt g (without_first l)
    by (level bs [] z) s = record {
      done = subst (λ v. AllMean v.items (map branch_form bs)) (sym b) s.done;
      front = subst (λ ns. AllMean ns []) (sym p) (rest_nothing f.pieces.items s.front);
      ended = subst (λ x. MeansEnd x z) (sym o) s.ended;
    }
    by (level bs (q ∷ ps) z) s = record {
      done = subst (λ v. AllMean v.items (map branch_form bs)) (sym b) s.done;
      front = subst (λ ns. AllMean ns (map piece_form ps)) (sym p) (rest_means f.pieces.items (piece_form q) (map piece_form ps) s.front);
      ended = subst (λ x. MeansEnd x z) (sym o) s.ended;
    }

last_means : (k : ℕ) (ns : List Expression) (ps : List Piece) → k ≡ length ns - 1 → AllMean ns (map piece_form ps)
    → AllMean (take k ns) (map piece_form (all_but_last ps))
last_means zero [] [] e a = tt
last_means (suc k) [] [] e a = tt
last_means k [] (p ∷ ps) e a = absurd a
last_means k (n ∷ ns) [] e a = absurd a
last_means zero (n ∷ []) (p ∷ []) e a = tt
last_means (suc k) (n ∷ []) (p ∷ []) e a = absurd (omega arith)
last_means k (n ∷ m ∷ ns) (p ∷ []) e a = absurd a.1
last_means k (n ∷ []) (p ∷ q ∷ ps) e a = absurd a.1
last_means zero (n ∷ m ∷ ns) (p ∷ q ∷ ps) e a = absurd (omega arith)
last_means (suc k) (n ∷ m ∷ ns) (p ∷ q ∷ ps) e a = (a.0, last_means k (m ∷ ns) (q ∷ ps) (omega arith) a.1)

pub last_cut : (f g : CodeLevel) (l : Level) (last : Bool) (k : ℕ) → last ≡ true → k ≡ length f.pieces.items - 1
    → g.branches ≡ f.branches → g.pieces.items ≡ take k f.pieces.items → g.last ≡ f.last → StandsAt f l
    → StandsAt g (cond last (without_last l) l)
last_cut f g l last k e c b p o s = subst (λ x. StandsAt g (cond x (without_last l) l)) (sym e) (by l s)
  where
    by : (l : Level) → StandsAt f l → StandsAt g (without_last l)
    by (level bs ps z) s = record {
      done = subst (λ v. AllMean v.items (map branch_form bs)) (sym b) s.done;
      front = subst (λ ns. AllMean ns (map piece_form (all_but_last ps))) (sym p) (last_means k f.pieces.items ps c s.front);
      ended = subst (λ x. MeansEnd x z) (sym o) s.ended;
    }
