-- What a pattern's trees match is where the pattern is found.
use Rattle.std.proofs.Common.{◌≡◌, inl, inr, ℕ, Bool, true, false, List, [], ◌∷◌, ◌++◌, length, map, Option, Some, None, refl, sym, ap, ◌∙◌}
use Rattle.std.proofs.Common.{arith, true≢false}
use Rattle.text_regexp.specs.Building.{choice_from}
use Rattle.text_regexp.specs.Forms.{Form, class, MatchesIn, Matches, Parts}
use Rattle.text_iregexp.specs.Grammar.{Branch}
use Rattle.text_iregexp.specs.Patterns.{Disjunction, Look, Case, Pattern, Finds, FindsOne, Unless, Holds, AllHold}
use Rattle.text_iregexp.specs.Patterns.{has_looks, FindsCase, FindsOneCase, IsFound}
use Rattle.text_iregexp.specs.PatternCases.{look_form, case_form, pattern_form}
use Rattle.text_iregexp.specs.PatternMachine.{open_form, form_at, disjunction_form}
use Rattle.text_iregexp.specs.PatternTexts.{unless_form, guarded}

any_parts : (before : Option ℕ) (xs : List ℕ) (after : Option ℕ) → Parts (MatchesIn (class true [])) (length xs) before xs after
any_parts before [] after = refl
any_parts before (x ∷ xs) after = (x ∷ [], xs, refl, (x, refl, refl), any_parts (Some x) xs after)

open_to : (b : Bool) (before : Option ℕ) (xs : List ℕ) (after : Option ℕ) → MatchesIn (open_form b) before xs after → b ≡ true → xs ≡ []
open_to true before xs after m e = m
open_to false before xs after m e = absurd (true≢false (sym e))

open_from : (b : Bool) (before : Option ℕ) (xs : List ℕ) (after : Option ℕ) → (b ≡ true → xs ≡ []) → MatchesIn (open_form b) before xs after
open_from true before xs after h = h refl
open_from false before xs after h = (length xs, omega arith, tt, any_parts before xs after)

part_to : (fixed : Bool) (q : Branch) (cs : List ℕ) → Matches (form_at fixed q) cs → Finds fixed q cs
part_to fixed q cs m =
    let n = m.4 in
    record {
      before = m.0;
      part = n.0;
      after = n.1;
      split = m.2 ∙ ap (λ ys. m.0 ++ ys) n.2;
      matched = n.3;
      begins = open_to fixed None m.0 _ m.3;
    }

part_from : (fixed : Bool) (q : Branch) (cs : List ℕ) → Finds fixed q cs → Matches (form_at fixed q) cs
part_from fixed q cs f = (
  f.before,
  f.part ++ f.after,
  f.split,
  open_from fixed None f.before _ f.begins,
  (f.part, f.after, refl, f.matched, open_from false _ f.after None (λ e. absurd (true≢false (sym e)))),
)

parts_to : (fixed : Bool) (q : Branch) (qs : List Branch) (cs : List ℕ)
    → Matches (choice_from (form_at fixed q) (map (form_at fixed) qs)) cs → FindsOne fixed (q ∷ qs) cs
parts_to fixed q [] cs m = inl (part_to fixed q cs m)
parts_to fixed q (r ∷ qs) cs m =
    elim m [
      | inl a ↦ inl (part_to fixed q cs a)
      | inr b ↦ inr (parts_to fixed r qs cs b)
    ]

parts_from : (fixed : Bool) (q : Branch) (qs : List Branch) (cs : List ℕ) → FindsOne fixed (q ∷ qs) cs
    → Matches (choice_from (form_at fixed q) (map (form_at fixed) qs)) cs
parts_from fixed q [] cs f =
    elim f [
      | inl a ↦ part_from fixed q cs a
      | inr b ↦ absurd b
    ]
parts_from fixed q (r ∷ qs) cs f =
    elim f [
      | inl a ↦ inl (part_from fixed q cs a)
      | inr b ↦ inr (parts_from fixed r qs cs b)
    ]

disjunction_to : (fixed : Bool) (p : Disjunction) (cs : List ℕ) → Matches (disjunction_form fixed p) cs
    → FindsOne fixed (p.before ++ p.last ∷ []) cs
disjunction_to fixed p cs m = by p.before m
  where
    by : (qs : List Branch) → Matches (disjunction_form fixed (record { before = qs; last = p.last })) cs
        → FindsOne fixed (qs ++ p.last ∷ []) cs
    by [] m = parts_to fixed p.last [] cs m
    by (q ∷ qs) m = parts_to fixed q (qs ++ p.last ∷ []) cs m

disjunction_from : (fixed : Bool) (p : Disjunction) (cs : List ℕ) → FindsOne fixed (p.before ++ p.last ∷ []) cs
    → Matches (disjunction_form fixed p) cs
disjunction_from fixed p cs f = by p.before f
  where
    by : (qs : List Branch) → FindsOne fixed (qs ++ p.last ∷ []) cs
        → Matches (disjunction_form fixed (record { before = qs; last = p.last })) cs
    by [] f = parts_from fixed p.last [] cs f
    by (q ∷ qs) f = parts_from fixed q (qs ++ p.last ∷ []) cs f

-- ---- look-aheads

unless_to : (b : Bool) (f : Form) (cs : List ℕ) (P : Type 0) → (Matches f cs → P) → (P → Matches f cs)
    → Matches (unless_form b f) cs → Unless b P
unless_to false f cs P to from m = to m
unless_to true f cs P to from m = λ p. m (from p)

unless_from : (b : Bool) (f : Form) (cs : List ℕ) (P : Type 0) → (Matches f cs → P) → (P → Matches f cs)
    → Unless b P → Matches (unless_form b f) cs
unless_from false f cs P to from u = from u
unless_from true f cs P to from u = λ m. u (to m)

look_to : (k : Look) (cs : List ℕ) → Matches (look_form k) cs → Holds k cs
look_to k cs m =
    unless_to k.negated (disjunction_form true k.content) cs _ (disjunction_to true k.content cs) (disjunction_from true k.content cs) m

look_from : (k : Look) (cs : List ℕ) → Holds k cs → Matches (look_form k) cs
look_from k cs h =
    unless_from k.negated (disjunction_form true k.content) cs _ (disjunction_to true k.content cs) (disjunction_from true k.content cs) h

guard_to : (ks : List Look) (f : Form) (cs : List ℕ) → Matches (guarded (map look_form ks) f) cs → AllHold ks cs × Matches f cs
guard_to [] f cs m = (tt, m)
guard_to (k ∷ ks) f cs m = let g = guard_to ks f cs m.1 in ((look_to k cs m.0, g.0), g.1)

guard_from : (ks : List Look) (f : Form) (cs : List ℕ) → AllHold ks cs → Matches f cs → Matches (guarded (map look_form ks) f) cs
guard_from [] f cs h m = m
guard_from (k ∷ ks) f cs h m = (look_from k cs h.0, guard_from ks f cs h.1 m)

-- ---- outermost branches

case_to : (c : Case) (cs : List ℕ) → Matches (case_form c) cs → FindsCase c cs
case_to c cs m =
    let g = guard_to c.looks (form_at (has_looks c.looks) c.branch) cs m in
    (g.0, part_to (has_looks c.looks) c.branch cs g.1)

case_from : (c : Case) (cs : List ℕ) → FindsCase c cs → Matches (case_form c) cs
case_from c cs f =
    guard_from c.looks (form_at (has_looks c.looks) c.branch) cs f.0 (part_from (has_looks c.looks) c.branch cs f.1)

cases_to : (c : Case) (rest : List Case) (cs : List ℕ) → Matches (choice_from (case_form c) (map case_form rest)) cs
    → FindsOneCase (c ∷ rest) cs
cases_to c [] cs m = inl (case_to c cs m)
cases_to c (d ∷ rest) cs m =
    elim m [
      | inl a ↦ inl (case_to c cs a)
      | inr b ↦ inr (cases_to d rest cs b)
    ]

cases_from : (c : Case) (rest : List Case) (cs : List ℕ) → FindsOneCase (c ∷ rest) cs
    → Matches (choice_from (case_form c) (map case_form rest)) cs
cases_from c [] cs f =
    elim f [
      | inl a ↦ case_from c cs a
      | inr b ↦ absurd b
    ]
cases_from c (d ∷ rest) cs f =
    elim f [
      | inl a ↦ inl (case_from c cs a)
      | inr b ↦ inr (cases_from d rest cs b)
    ]

pub found_to : (p : Pattern) (cs : List ℕ) → Matches (pattern_form p) cs → IsFound p cs
found_to p cs m = by p.before m
  where
    by : (qs : List Case) → Matches (pattern_form (record { before = qs; last = p.last })) cs → FindsOneCase (qs ++ p.last ∷ []) cs
    by [] m = cases_to p.last [] cs m
    by (q ∷ qs) m = cases_to q (qs ++ p.last ∷ []) cs m

pub found_from : (p : Pattern) (cs : List ℕ) → IsFound p cs → Matches (pattern_form p) cs
found_from p cs f = by p.before f
  where
    by : (qs : List Case) → FindsOneCase (qs ++ p.last ∷ []) cs → Matches (pattern_form (record { before = qs; last = p.last })) cs
    by [] f = cases_from p.last [] cs f
    by (q ∷ qs) f = cases_from q (qs ++ p.last ∷ []) cs f
