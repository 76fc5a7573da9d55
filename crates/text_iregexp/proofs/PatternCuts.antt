-- A branch with any text before and after it matches the same texts where `^` and `$` are left out at its ends, and such a text too.
use Rattle.std.proofs.Common.{◌≡◌, inl, inr, ℕ, ◌||◌, Bool, true, false, cond, List, [], ◌∷◌, ◌++◌, map, Option, Some, None}
use Rattle.std.proofs.Common.{refl, sym, ap, ◌∙◌, subst, arith, true≢false}
use Rattle.std.specs.Prelude.{is_none}
use Rattle.std.proofs.lemmas.List.{map-append}
use Rattle.text_regexp.specs.declared.assertion.Assertion.TheVariants.{Start, End}
use Rattle.text_regexp.specs.declared.expression.Expression.{Expression}
use Rattle.text_regexp.specs.Building.{Means, AllMean, form_of, choice, choice_from}
use Rattle.text_regexp.specs.Forms.{Form, assertion, concat, MatchesIn, Matches, next_of, last_of}
use Rattle.text_iregexp.specs.Grammar.{Piece, once, asserts, Atom, branch_form}
use Rattle.text_iregexp.specs.Levels.{Level, level, branch_of}
use Rattle.text_iregexp.specs.PatternMachine.{is_end_piece, first_starts, last_ends, starts_at, ends_at, no_done, branch_in}
use Rattle.text_iregexp.specs.PatternMachine.{open_form, form_at, without_first, without_last, all_but_last, MeansWhole, AllMeanWhole}
use Rattle.text_iregexp.proofs.PatternEnds.{start_piece, end_piece}

-- ---- neighbours

no_last : (c : ℕ) (xs : List ℕ) → is_none (last_of (Some c) xs) ≡ true → ⊥
no_last c [] h = true≢false (sym h)
no_last c (x ∷ xs) h = no_last x xs h

first_place : (xs : List ℕ) → is_none (last_of None xs) ≡ true → xs ≡ []
first_place [] h = refl
first_place (x ∷ xs) h = absurd (no_last x xs h)

last_place : (ys : List ℕ) → is_none (next_of ys None) ≡ true → ys ≡ []
last_place [] h = refl
last_place (y ∷ ys) h = absurd (true≢false (sym h))

-- ---- `$` behind the last piece

abbrev pieces_form : List Piece → Form
pieces_form ps = branch_form (branch_of ps)

end_to : (ps : List Piece) (before : Option ℕ) (cs : List ℕ) (after : Option ℕ)
    → MatchesIn (pieces_form (ps ++ asserts End ∷ [])) before cs after → MatchesIn (pieces_form ps) before cs after × (is_none after ≡ true)
end_to [] before cs after m =
    let rest : m.1 ≡ [] = m.4 in
    let none : m.0 ≡ [] = m.3.0 in
    (m.2 ∙ (ap (λ us. us ++ m.1) none ∙ rest), ap (λ ys. is_none (next_of ys after)) (sym rest) ∙ m.3.1)
end_to (p ∷ ps) before cs after m =
    let k = end_to ps (last_of before m.0) m.1 after m.4 in
    ((m.0, m.1, m.2, m.3, k.0), k.1)

end_from : (ps : List Piece) (before : Option ℕ) (cs : List ℕ) (after : Option ℕ) → MatchesIn (pieces_form ps) before cs after
    → is_none after ≡ true → MatchesIn (pieces_form (ps ++ asserts End ∷ [])) before cs after
end_from [] before cs after m h = ([], [], m, (refl, h), refl)
end_from (p ∷ ps) before cs after m h = (m.0, m.1, m.2, m.3, end_from ps (last_of before m.0) m.1 after m.4 h)

-- ---- the pieces without those at the ends

last_split : (ps : List Piece) → last_ends ps ≡ true → all_but_last ps ++ asserts End ∷ [] ≡ ps
last_split [] h = absurd (true≢false (sym h))
last_split (p ∷ []) h = ap (λ q. q ∷ []) (sym (end_piece p h))
last_split (p ∷ q ∷ ps) h = ap (λ us. p ∷ us) (last_split (q ∷ ps) h)

-- the form with any text, or none, before and after it
abbrev between : Bool → Form → Bool → Form
between starts f ends = concat (open_form starts) (concat f (open_form ends))

-- both forms match the same whole texts
pub record Agree (f g : Form) : Type 0 where
  pub to : (cs : List ℕ) → Matches f cs → Matches g cs
  pub from : (cs : List ℕ) → Matches g cs → Matches f cs

agree_same : (f : Form) → Agree f f
agree_same f = record { to = λ cs m. m; from = λ cs m. m }

agree_then : {f g h : Form} → Agree f g → Agree g h → Agree f h
agree_then a b = record { to = λ cs m. b.to cs (a.to cs m); from = λ cs m. a.from cs (b.from cs m) }

open_nothing : (b : Bool) (before : Option ℕ) (xs : List ℕ) (after : Option ℕ) → xs ≡ [] → MatchesIn (open_form b) before xs after
open_nothing true before xs after e = e
open_nothing false before xs after e = (0, omega arith, tt, e)

start_cut : (x : Bool) (f : Form) → Agree (between x (concat (assertion Start) f) false) (between true f false)
start_cut x f = record {
  to = λ cs m.
      let n = m.4 in
      let k = n.3 in
      let none : k.0 ≡ [] = k.3.0 in
      let here = subst (λ us. MatchesIn f (last_of (last_of None m.0) us) k.1 (next_of n.1 None)) none k.4 in
      let whole : k.1 ≡ n.0 = sym (k.2 ∙ ap (λ us. us ++ k.1) none) in (
        m.0,
        m.1,
        m.2,
        first_place m.0 k.3.1,
        (n.0, n.1, n.2, subst (λ us. MatchesIn f (last_of None m.0) us (next_of n.1 None)) whole here, n.4),
      );
  from = λ cs m.
      let n = m.4 in
      let none : m.0 ≡ [] = m.3 in
      let first : is_none (last_of None m.0) ≡ true = ap (λ us. is_none (last_of None us)) none in (
        m.0,
        m.1,
        m.2,
        open_nothing x None m.0 (next_of m.1 None) none,
        (n.0, n.1, n.2, ([], n.0, refl, (refl, first), n.3), n.4),
      );
}

end_cut : (x : Bool) (ps : List Piece) → Agree (between x (pieces_form (ps ++ asserts End ∷ [])) false) (between x (pieces_form ps) true)
end_cut x ps = record {
  to = λ cs m.
      let n = m.4 in
      let k = end_to ps (last_of None m.0) n.0 (next_of n.1 None) n.3 in
      (m.0, m.1, m.2, m.3, (n.0, n.1, n.2, k.0, last_place n.1 k.1));
  from = λ cs m.
      let n = m.4 in
      let none : n.1 ≡ [] = n.4 in
      let last : is_none (next_of n.1 None) ≡ true = ap (λ ys. is_none (next_of ys None)) none in (
        m.0,
        m.1,
        m.2,
        m.3,
        (
          n.0,
          n.1,
          n.2,
          end_from ps (last_of None m.0) n.0 (next_of n.1 None) n.3 last,
          open_nothing false (last_of (last_of None m.0) n.0) n.1 None none,
        ),
      );
}

or_nothing : (b : Bool) → b ≡ (b || false)
or_nothing true = refl
or_nothing false = refl

or_true : (b : Bool) → true ≡ (b || true)
or_true true = refl
or_true false = refl

abbrev without_start : Bool → Level → Level
without_start starts l = cond starts (without_first l) l

abbrev without_end : Bool → Level → Level
without_end ends l = cond ends (without_last l) l

start_agree : (fixed : Bool) (ps : List Piece) (z : Option Atom) (starts : Bool) → starts ≡ first_starts ps
    → Agree (form_at fixed (branch_in (level [] ps z)))
    (between (fixed || starts) (branch_form (branch_in (without_start starts (level [] ps z)))) false)
start_agree fixed ps z false h =
    subst (λ c. Agree (form_at fixed (branch_in (level [] ps z))) (between c (branch_form (branch_in (level [] ps z))) false))
    (or_nothing fixed) (agree_same _)
start_agree fixed [] z true h = absurd (true≢false h)
start_agree fixed (p ∷ ps) z true h = by z
  where
    one : (qs : List Piece) → Agree (form_at fixed (branch_of (p ∷ qs))) (between (fixed || true) (pieces_form qs) false)
    one qs =
        subst (λ q. Agree (form_at fixed (branch_of (q ∷ qs))) (between (fixed || true) (pieces_form qs) false))
        (sym (start_piece p (sym h)))
        (subst (λ c. Agree (form_at fixed (branch_of (asserts Start ∷ qs))) (between c (pieces_form qs) false)) (or_true fixed)
        (start_cut fixed (pieces_form qs)))

    by : (z : Option Atom) → Agree (form_at fixed (branch_in (level [] (p ∷ ps) z)))
        (between (fixed || true) (branch_form (branch_in (level [] ps z))) false)
    by None = one ps
    by (Some a) = one (ps ++ once a ∷ [])

end_agree : (x : Bool) (l : Level) (ends : Bool) → no_done l ≡ true → ends ≡ ends_at l
    → Agree (between x (branch_form (branch_in l)) false) (between x (branch_form (branch_in (without_end ends l))) ends)
end_agree x l false d h = agree_same _
end_agree x (level bs ps (Some a)) true d h = absurd (true≢false h)
end_agree x (level (b ∷ bs) ps None) true d h = absurd (true≢false (sym d))
end_agree x (level [] ps None) true d h =
    subst (λ qs. Agree (between x (pieces_form qs) false) (between x (pieces_form (all_but_last ps)) true)) (last_split ps (sym h))
    (end_cut x (all_but_last ps))

ends_kept : (ps : List Piece) (z : Option Atom) (starts : Bool) → starts ≡ first_starts ps
    → ends_at (level [] ps z) ≡ ends_at (without_start starts (level [] ps z))
ends_kept ps z false h = refl
ends_kept [] z true h = absurd (true≢false h)
ends_kept (p ∷ ps) (Some a) true h = refl
ends_kept (p ∷ []) None true h = ap is_end_piece (start_piece p (sym h))
ends_kept (p ∷ q ∷ ps) None true h = refl

done_first : (l : Level) (starts : Bool) → no_done l ≡ true → no_done (without_start starts l) ≡ true
done_first l false d = d
done_first (level [] [] z) true d = refl
done_first (level [] (p ∷ ps) z) true d = refl
done_first (level (b ∷ bs) ps z) true d = absurd (true≢false (sym d))

done_last : (l : Level) (ends : Bool) → no_done l ≡ true → no_done (without_end ends l) ≡ true
done_last l false d = d
done_last (level [] ps z) true d = refl
done_last (level (b ∷ bs) ps z) true d = absurd (true≢false (sym d))

-- what is left of a level
abbrev pub left_of : Bool → Bool → Level → Level
left_of starts ends l = without_end ends (without_start starts l)

pub left_done : (l : Level) (starts ends : Bool) → no_done l ≡ true → no_done (left_of starts ends l) ≡ true
left_done l starts ends d = done_last (without_start starts l) ends (done_first l starts d)

pub cut_agree : (fixed : Bool) (l : Level) (starts ends : Bool) → no_done l ≡ true → starts ≡ starts_at l → ends ≡ ends_at l
    → Agree (form_at fixed (branch_in l))
    (concat (open_form (fixed || starts)) (concat (branch_form (branch_in (left_of starts ends l))) (open_form ends)))
cut_agree fixed (level (b ∷ bs) ps z) starts ends d s e = absurd (true≢false (sym d))
cut_agree fixed (level [] ps z) starts ends d s e =
    agree_then (start_agree fixed ps z starts s)
    (end_agree (fixed || starts) (without_start starts (level [] ps z)) ends (done_first (level [] ps z) starts d)
    (e ∙ ends_kept ps z starts s))

-- ---- expressions that match the same whole texts

pub whole_as : (n : Expression) (f g : Form) → Agree f g → Means n g → MeansWhole n f
whole_as n f g a m = record {
  sound = λ cs k. a.from cs (m.sound None cs None k);
  complete = λ cs k. m.complete None cs None (a.to cs k);
}

all_whole_push : (ns ms : List Expression) (n : Expression) (fs : List Form) (f : Form) → ms ≡ ns ++ n ∷ [] → AllMeanWhole ns fs
    → MeansWhole n f → AllMeanWhole ms (fs ++ f ∷ [])
all_whole_push ns ms n fs f e a m = subst (λ ks. AllMeanWhole ks (fs ++ f ∷ [])) (sym e) (by ns fs a)
  where
    by : (ns : List Expression) (fs : List Form) → AllMeanWhole ns fs → AllMeanWhole (ns ++ n ∷ []) (fs ++ f ∷ [])
    by [] [] a = (m, tt)
    by [] (g ∷ fs) a = absurd a
    by (k ∷ ns) [] a = absurd a
    by (k ∷ ns) (g ∷ fs) a = (a.0, by ns fs a.1)

pub all_whole_map_push : {A : Type 0} (form : A → Form) (ns ms : List Expression) (n : Expression) (xs : List A) (x : A)
    → ms ≡ ns ++ n ∷ [] → AllMeanWhole ns (map form xs) → MeansWhole n (form x) → AllMeanWhole ms (map form (xs ++ x ∷ []))
all_whole_map_push form ns ms n xs x e a m =
    subst (AllMeanWhole ms) (sym (map-append form xs (x ∷ []))) (all_whole_push ns ms n (map form xs) (form x) e a m)

same_means : (n : Expression) → Means n (form_of n)
same_means n = record { sound = λ before cs after m. m; complete = λ before cs after m. m }

pub all_same : (ns : List Expression) → AllMean ns (map form_of ns)
all_same [] = tt
all_same (n ∷ ns) = (same_means n, all_same ns)

from_agree : (n : Expression) (ns : List Expression) (f : Form) (fs : List Form) → MeansWhole n f → AllMeanWhole ns fs
    → Agree (choice_from f fs) (choice_from (form_of n) (map form_of ns))
from_agree n [] f [] m a = record { to = m.complete; from = m.sound }
from_agree n [] f (g ∷ fs) m a = absurd a
from_agree n (k ∷ ns) f [] m a = absurd a
from_agree n (k ∷ ns) f (g ∷ fs) m a =
    let r = from_agree k ns g fs a.0 a.1 in record {
      to = λ cs h. elim h [ inl x ↦ inl (m.complete cs x) | inr y ↦ inr (r.to cs y) ];
      from = λ cs h. elim h [ inl x ↦ inl (m.sound cs x) | inr y ↦ inr (r.from cs y) ];
    }

pub choice_agree : (ns : List Expression) (fs : List Form) → AllMeanWhole ns fs → Agree (choice fs) (choice (map form_of ns))
choice_agree [] [] a = agree_same _
choice_agree [] (f ∷ fs) a = absurd a
choice_agree (n ∷ ns) [] a = absurd a
choice_agree (n ∷ ns) (f ∷ fs) a = from_agree n ns f fs a.0 a.1
