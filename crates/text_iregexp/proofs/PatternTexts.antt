-- The trees of a pattern that was parsed match what the pattern's regular expression matches.
use Rattle.std.proofs.Common.{◌≡◌, inl, inr, ℕ, Bool, true, false, List, [], ◌∷◌, map, sym, subst}
use Rattle.text_iregexp.specs.declared.cases.Look.{Look as LookTree}
use Rattle.text_iregexp.specs.declared.cases.Case.{Case as CaseTree}
use Rattle.text_regexp.specs.Automaton.{expression_of}
use Rattle.text_regexp.specs.Building.{choice, choice_from}
use Rattle.text_regexp.specs.Forms.{Form, Matches}
use Rattle.text_regexp.specs.Building.{form_of}
use Rattle.text_iregexp.specs.Patterns.{Look, Case, has_looks}
use Rattle.text_iregexp.specs.PatternCases.{look_form, case_form, LooksMean, CaseMeans, CasesMean}
use Rattle.text_iregexp.specs.PatternMachine.{form_at, disjunction_form}
use Rattle.text_iregexp.specs.PatternTexts.{unless_form, guarded, look_text, case_text}

unless_same : (a b : Bool) (f g : Form) → a ≡ b → ((cs : List ℕ) → Matches f cs → Matches g cs)
    → ((cs : List ℕ) → Matches g cs → Matches f cs) → (cs : List ℕ) → Matches (unless_form a f) cs → Matches (unless_form b g) cs
unless_same a b f g e to from cs m = subst (λ x. Matches (unless_form x g) cs) e (by a m)
  where
    by : (a : Bool) → Matches (unless_form a f) cs → Matches (unless_form a g) cs
    by false m = to cs m
    by true m = λ h. m (from cs h)

guard_to : (ns : List LookTree) (ks : List Look) (f g : Form) (cs : List ℕ) → LooksMean ns ks → (Matches f cs → Matches g cs)
    → Matches (guarded (map look_text ns) f) cs → Matches (guarded (map look_form ks) g) cs
guard_to [] [] f g cs means to m = to m
guard_to [] (k ∷ ks) f g cs means to m = absurd means
guard_to (n ∷ ns) [] f g cs means to m = absurd means
guard_to (n ∷ ns) (k ∷ ks) f g cs means to m = (
  unless_same n.negated k.negated (form_of n.root) (disjunction_form true k.content) means.0.negated means.0.root.sound
      means.0.root.complete cs m.0,
  guard_to ns ks f g cs means.1 to m.1,
)

guard_from : (ns : List LookTree) (ks : List Look) (f g : Form) (cs : List ℕ) → LooksMean ns ks → (Matches g cs → Matches f cs)
    → Matches (guarded (map look_form ks) g) cs → Matches (guarded (map look_text ns) f) cs
guard_from [] [] f g cs means from m = from m
guard_from [] (k ∷ ks) f g cs means from m = absurd means
guard_from (n ∷ ns) [] f g cs means from m = absurd means
guard_from (n ∷ ns) (k ∷ ks) f g cs means from m = (
  unless_same k.negated n.negated (disjunction_form true k.content) (form_of n.root) (sym means.0.negated) means.0.root.complete
      means.0.root.sound cs m.0,
  guard_from ns ks f g cs means.1 from m.1,
)

case_to : (n : CaseTree) (c : Case) (cs : List ℕ) → CaseMeans n c → Matches (case_text n) cs → Matches (case_form c) cs
case_to n c cs means m =
    guard_to n.looks.items c.looks (form_of (expression_of n.root)) (form_at (has_looks c.looks) c.branch) cs means.looks
    (means.root.sound cs) m

case_from : (n : CaseTree) (c : Case) (cs : List ℕ) → CaseMeans n c → Matches (case_form c) cs → Matches (case_text n) cs
case_from n c cs means m =
    guard_from n.looks.items c.looks (form_of (expression_of n.root)) (form_at (has_looks c.looks) c.branch) cs means.looks
    (means.root.complete cs) m

cases_to : (n : CaseTree) (ns : List CaseTree) (c : Case) (rest : List Case) (cs : List ℕ) → CasesMean (n ∷ ns) (c ∷ rest)
    → Matches (choice_from (case_text n) (map case_text ns)) cs → Matches (choice_from (case_form c) (map case_form rest)) cs
cases_to n [] c [] cs means m = case_to n c cs means.0 m
cases_to n [] c (d ∷ rest) cs means m = absurd means.1
cases_to n (o ∷ ns) c [] cs means m = absurd means.1
cases_to n (o ∷ ns) c (d ∷ rest) cs means m =
    elim m [
      | inl a ↦ inl (case_to n c cs means.0 a)
      | inr b ↦ inr (cases_to o ns d rest cs means.1 b)
    ]

cases_from : (n : CaseTree) (ns : List CaseTree) (c : Case) (rest : List Case) (cs : List ℕ) → CasesMean (n ∷ ns) (c ∷ rest)
    → Matches (choice_from (case_form c) (map case_form rest)) cs → Matches (choice_from (case_text n) (map case_text ns)) cs
cases_from n [] c [] cs means m = case_from n c cs means.0 m
cases_from n [] c (d ∷ rest) cs means m = absurd means.1
cases_from n (o ∷ ns) c [] cs means m = absurd means.1
cases_from n (o ∷ ns) c (d ∷ rest) cs means m =
    elim m [
      | inl a ↦ inl (case_from n c cs means.0 a)
      | inr b ↦ inr (cases_from o ns d rest cs means.1 b)
    ]

pub texts_to : (ns : List CaseTree) (rest : List Case) (cs : List ℕ) → CasesMean ns rest → Matches (choice (map case_text ns)) cs
    → Matches (choice (map case_form rest)) cs
texts_to [] [] cs means m = m
texts_to [] (c ∷ rest) cs means m = absurd means
texts_to (n ∷ ns) [] cs means m = absurd means
texts_to (n ∷ ns) (c ∷ rest) cs means m = cases_to n ns c rest cs means m

pub texts_from : (ns : List CaseTree) (rest : List Case) (cs : List ℕ) → CasesMean ns rest → Matches (choice (map case_form rest)) cs
    → Matches (choice (map case_text ns)) cs
texts_from [] [] cs means m = m
texts_from [] (c ∷ rest) cs means m = absurd means
texts_from (n ∷ ns) [] cs means m = absurd means
texts_from (n ∷ ns) (c ∷ rest) cs means m = cases_from n ns c rest cs means m
