-- What the code's outermost branches stand for, as marks are taken.
use Rattle.std.proofs.Common.{◌≡◌, ◌==◌, ◌&&◌, Bool, true, false, not, List, [], ◌∷◌, ◌++◌, length}
use Rattle.std.proofs.Common.{Option, Some, None, Result, Ok, Err, is_some, option_map, refl, sym, ap, ◌∙◌, subst, arith, true≢false}
use Rattle.std.proofs.lemmas.Bool.{cond-true, cond-false, eqb-true}
use Rattle.text_iregexp.specs.declared.cases.Look.{Look as LookTree}
use Rattle.text_iregexp.specs.declared.cases.Case.{Case as CaseTree}
use Rattle.text_iregexp.specs.declared.error.IRegexpErrorKind.{IRegexpErrorKind}
use Rattle.text_iregexp.specs.declared.error.IRegexpErrorKind.TheVariants.{Invalid, TooDeep, TooLarge, OutOfMemory}
use Rattle.text_iregexp.specs.declared.mark.Mark.{Mark as CodeMark}
use Rattle.text_iregexp.specs.declared.mark.Mark.TheVariants as code
use Rattle.text_iregexp.specs.declared.outermost.Outermost.{Outermost}
use Rattle.text_regexp.specs.Automaton.{expression_of}
use Rattle.text_iregexp.specs.Patterns.{Mark, look, token, Look, Case, has_looks, AreSmall, AreSmallCases}
use Rattle.text_iregexp.specs.PatternFronts.{mark_of}
use Rattle.text_iregexp.specs.PatternMachine.{PartsState, initial, no_levels, is_before, part_in, advance_mark, form_at, disjunction_form}
use Rattle.text_iregexp.specs.PatternMachine.{disjunction_in, MeansWhole, AgreesAt, Finishes, TakesMark}
use Rattle.text_iregexp.specs.PatternCases.{CasesState, no_cases, is_closed, case_in, opened_look, look_in, closed_look}
use Rattle.text_iregexp.specs.PatternCases.{next_case, with_here}
use Rattle.text_iregexp.specs.PatternCases.{is_last, ended, may_look, advance_other, advance_case, is_other}
use Rattle.text_iregexp.specs.PatternCases.{LookMeans, LooksMean, CaseMeans, CasesMean, StandsFor, TakesOther, TakesCase}
use Rattle.text_iregexp.specs.PatternCases.{FinishesCases, Stands, StandsOut}
use Rattle.text_iregexp.proofs.Lexing.{none_some}
use Rattle.text_iregexp.proofs.PatternCases.{cases_small, looks_small, still_alone, step_fixed}

false_true : {P : Type 0} → false ≡ true → P
false_true h = absurd (true≢false (sym h))

some_none : {P : Type 0} (b : Bool) → Some b ≡ None → P
some_none b h = none_some (sym h)

-- ---- lists

looks_mean_push : (ns : List LookTree) (ks : List Look) (n : LookTree) (k : Look) → LooksMean ns ks → LookMeans n k
    → LooksMean (ns ++ n ∷ []) (ks ++ k ∷ [])
looks_mean_push [] [] n k a m = (m, tt)
looks_mean_push [] (j ∷ ks) n k a m = absurd a
looks_mean_push (o ∷ ns) [] n k a m = absurd a
looks_mean_push (o ∷ ns) (j ∷ ks) n k a m = (a.0, looks_mean_push ns ks n k a.1 m)

cases_mean_push : (ns : List CaseTree) (cs : List Case) (n : CaseTree) (c : Case) → CasesMean ns cs → CaseMeans n c
    → CasesMean (ns ++ n ∷ []) (cs ++ c ∷ [])
cases_mean_push [] [] n c a m = (m, tt)
cases_mean_push [] (d ∷ cs) n c a m = absurd a
cases_mean_push (o ∷ ns) [] n c a m = absurd a
cases_mean_push (o ∷ ns) (d ∷ cs) n c a m = (a.0, cases_mean_push ns cs n c a.1 m)

looks_none : (ns : List LookTree) (ks : List Look) → LooksMean ns ks → not (has_looks ks) ≡ (length ns == 0)
looks_none [] [] a = refl
looks_none [] (k ∷ ks) a = absurd a
looks_none (n ∷ ns) [] a = absurd a
looks_none (n ∷ ns) (k ∷ ks) a = by (length (n ∷ ns) == 0) refl
  where
    by : (b : Bool) → (length (n ∷ ns) == 0) ≡ b → false ≡ b
    by true e = let zero = eqb-true (length (n ∷ ns)) 0 e in absurd (omega arith)
    by false e = refl

-- ---- the beginning

pub stands_first : (b : Outermost) → b.cases.items ≡ [] → b.looks.items ≡ [] → b.inside ≡ None → AgreesAt b.here (initial false)
    → StandsFor b no_cases
stands_first b c k i h = record {
  cases = subst (λ v. CasesMean v []) (sym c) tt;
  looks = subst (λ v. LooksMean v []) (sym k) tt;
  inside = i;
  here = h;
  small_cases = tt;
  small_looks = tt;
  proper = record { alone = λ _. refl; within = λ e. false_true e; behind = λ _. refl };
}

-- ---- look-aheads

pub look_inside : (old new : Outermost) (n : Bool) → is_some old.inside ≡ true → TakesCase old (look n) (Err Invalid) new
look_inside old new n e s a =
    cond-false (may_look s) _ _ (ap (λ b. not b && is_before s.here (not (has_looks s.looks))) (sym (ap is_some a.inside) ∙ e))

and_false : (b : Bool) → (b && false) ≡ false
and_false true = refl
and_false false = refl

before_as : (old : Outermost) (s : CasesState) (first b : Bool) → StandsFor old s → first ≡ (length old.looks.items == 0)
    → ((h : PartsState) → AgreesAt old.here h → b ≡ is_before h first) → is_before s.here (not (has_looks s.looks)) ≡ b
before_as old s first b a f h =
    ap (is_before s.here) (looks_none old.looks.items s.looks a.looks ∙ sym f) ∙ sym (h s.here a.here)

pub look_late : (old new : Outermost) (n first : Bool) → first ≡ (length old.looks.items == 0)
    → ((h : PartsState) → AgreesAt old.here h → false ≡ is_before h first) → TakesCase old (look n) (Err Invalid) new
look_late old new n first f h s a =
    cond-false (may_look s) _ _ (ap (λ b. not (is_some s.inside) && b) (before_as old s first false a f h)
    ∙ and_false (not (is_some s.inside)))

pub look_opened : (old new : Outermost) (n first : Bool) → is_some old.inside ≡ false → first ≡ (length old.looks.items == 0)
    → ((h : PartsState) → AgreesAt old.here h → true ≡ is_before h first) → new.cases ≡ old.cases → new.looks ≡ old.looks
    → new.inside ≡ Some n → AgreesAt new.here (initial true) → TakesCase old (look n) (Ok tt) new
look_opened old new n first e f h c k i here s a = (
  opened_look s n,
  cond-true (may_look s) _ _ (ap (λ b. not b && is_before s.here (not (has_looks s.looks))) (sym (ap is_some a.inside) ∙ e)
      ∙ before_as old s first true a f h),
  record {
    cases = subst (λ v. CasesMean v.items s.cases) (sym c) a.cases;
    looks = subst (λ v. LooksMean v.items s.looks) (sym k) a.looks;
    inside = i;
    here = here;
    small_cases = a.small_cases;
    small_looks = a.small_looks;
    proper = record { alone = λ g. some_none n g; within = λ _. refl; behind = λ g. absurd (true≢false g) };
  },
)

pub look_closed : (old new : Outermost) (n : Bool) (k : LookTree) → Finishes old.here k.root → k.negated ≡ n
    → new.cases ≡ old.cases → new.looks.items ≡ old.looks.items ++ k ∷ [] → new.inside ≡ None → AgreesAt new.here (initial true)
    → (s : CasesState) → StandsFor old s → s.inside ≡ Some n → no_levels s.here.state.1 ≡ true → StandsFor new (closed_look s n)
look_closed old new n k done e c l i here s a some none =
    let f = done s.here a.here none in
    let fixed : s.here.fixed ≡ true = a.proper.within (ap is_some some) in
    record {
      cases = subst (λ v. CasesMean v.items s.cases) (sym c) a.cases;
      looks = subst (λ v. LooksMean v (s.looks ++ look_in s n ∷ [])) (sym l) (looks_mean_push old.looks.items s.looks k (look_in s n)
          a.looks
          (record { negated = e; root = subst (λ b. MeansWhole k.root (disjunction_form b (disjunction_in s.here))) fixed f.0 }));
      inside = i;
      here = here;
      small_cases = a.small_cases;
      small_looks = looks_small s.looks (look_in s n) a.small_looks f.1;
      proper = record {
        alone = λ _. refl;
        within = λ e. false_true e;
        behind = λ _. sym (more s.looks (look_in s n));
      };
    }
  where
    more : (ks : List Look) (k : Look) → has_looks (ks ++ k ∷ []) ≡ true
    more [] k = refl
    more (j ∷ ks) k = refl

-- ---- the end of a branch

pub case_ended : (old new : Outermost) (n : CaseTree) → Finishes old.here (expression_of n.root) → n.looks ≡ old.looks
    → new.cases.items ≡ old.cases.items ++ n ∷ [] → new.looks.items ≡ [] → new.inside ≡ old.inside → AgreesAt new.here (initial false)
    → (s : CasesState) → StandsFor old s → s.inside ≡ None → no_levels s.here.state.1 ≡ true → StandsFor new (next_case s)
case_ended old new n done l c k i here s a out none =
    let f = done s.here a.here none in
    let alone = a.proper.alone out in
    let fixed : s.here.fixed ≡ has_looks s.looks = a.proper.behind (ap is_some out) in
    let first : MeansWhole (expression_of n.root) (form_at s.here.fixed (part_in s.here)) =
    subst (λ qs. MeansWhole (expression_of n.root) (disjunction_form s.here.fixed (record { before = qs; last = part_in s.here }))) alone
    f.0 in
    let small = subst (λ qs. AreSmall (qs ++ part_in s.here ∷ [])) alone f.1 in
    record {
      cases = subst (λ v. CasesMean v (s.cases ++ case_in s ∷ [])) (sym c) (cases_mean_push old.cases.items s.cases n (case_in s) a.cases
          (record {
            looks = subst (λ v. LooksMean v.items s.looks) (sym l) a.looks;
            root = subst (λ b. MeansWhole (expression_of n.root) (form_at b (part_in s.here))) fixed first;
          }));
      looks = subst (λ v. LooksMean v []) (sym k) tt;
      inside = i ∙ (a.inside ∙ out);
      here = here;
      small_cases = cases_small s.cases (case_in s) a.small_cases a.small_looks small.0;
      small_looks = tt;
      proper = record { alone = λ _. refl; within = λ e. false_true e; behind = λ _. refl };
    }

-- ---- other marks

pub ended_inside : (old new : Outermost) (n : Bool) → old.inside ≡ Some n
    → ((s : CasesState) → StandsFor old s → s.inside ≡ Some n → no_levels s.here.state.1 ≡ true → StandsFor new (closed_look s n))
    → (s : CasesState) → StandsFor old s → no_levels s.here.state.1 ≡ true → StandsFor new (ended s s.inside)
ended_inside old new n e k s a l =
    let same : s.inside ≡ Some n = sym a.inside ∙ e in
    subst (λ o. StandsFor new (ended s o)) (sym same) (k s a same l)

pub ended_outside : (old new : Outermost) → old.inside ≡ None
    → ((s : CasesState) → StandsFor old s → s.inside ≡ None → no_levels s.here.state.1 ≡ true → StandsFor new (next_case s))
    → (s : CasesState) → StandsFor old s → no_levels s.here.state.1 ≡ true → StandsFor new (ended s s.inside)
ended_outside old new e k s a l =
    let same : s.inside ≡ None = sym a.inside ∙ e in
    subst (λ o. StandsFor new (ended s o)) (sym same) (k s a same l)

-- the test of the code is that of the state
last_as : (old : Outermost) (s : CasesState) (m : Mark) (a b v : Bool) → StandsFor old s
    → ((h : PartsState) → AgreesAt old.here h → a ≡ no_levels h.state.1) → b ≡ is_last old.inside m → (a && b) ≡ v
    → (no_levels s.here.state.1 && is_last s.inside m) ≡ v
last_as old s m a b v st h k e =
    ap (λ x. x && is_last s.inside m) (sym (h s.here st.here))
    ∙ (ap (λ x. a && x) (ap (λ o. is_last o m) (sym st.inside) ∙ sym k) ∙ e)

pub other_ended : (old new : Outermost) (m : Mark) (a b : Bool)
    → ((h : PartsState) → AgreesAt old.here h → a ≡ no_levels h.state.1) → b ≡ is_last old.inside m → (a && b) ≡ true
    → ((s : CasesState) → StandsFor old s → no_levels s.here.state.1 ≡ true → StandsFor new (ended s s.inside))
    → TakesOther old m (Ok tt) new
other_ended old new m a b h k e done s st = (
  ended s s.inside,
  cond-true _ _ _ (last_as old s m a b true st h k e),
  done s st (sym (h s.here st.here) ∙ first a b e),
)
  where
    first : (a b : Bool) → (a && b) ≡ true → a ≡ true
    first true b e = refl
    first false b e = e

open_other : (s : CasesState) (m : Mark) (o : Option PartsState) → (no_levels s.here.state.1 && is_last s.inside m) ≡ false
    → advance_mark s.here m ≡ o → advance_other s m ≡ option_map (with_here s) o
open_other s m o l e = cond-false _ _ _ l ∙ ap (option_map (with_here s)) e

pub other_taken : (old new : Outermost) (m : Mark) (a b : Bool) (r : Result (Unit {0}) IRegexpErrorKind)
    → ((h : PartsState) → AgreesAt old.here h → a ≡ no_levels h.state.1) → b ≡ is_last old.inside m → (a && b) ≡ false
    → new.cases ≡ old.cases → new.looks ≡ old.looks → new.inside ≡ old.inside → TakesMark old.here m r new.here
    → TakesOther old m r new
other_taken old new m a b (Ok x) h k e c l i takes = λ s st.
    let last = last_as old s m a b false st h k e in
    let t = takes s.here st.here in (
      with_here s t.0,
      open_other s m (Some t.0) last t.1,
      record {
        cases = subst (λ v. CasesMean v.items s.cases) (sym c) st.cases;
        looks = subst (λ v. LooksMean v.items s.looks) (sym l) st.looks;
        inside = i ∙ st.inside;
        here = t.2;
        small_cases = st.small_cases;
        small_looks = st.small_looks;
        proper = record {
          alone = still_alone s m t.0 st.proper.alone last t.1;
          within = λ g. step_fixed s.here m t.0 t.1 ∙ st.proper.within g;
          behind = λ g. step_fixed s.here m t.0 t.1 ∙ st.proper.behind g;
        };
      },
    )
other_taken old new m a b (Err Invalid) h k e c l i takes = λ s st.
    open_other s m None (last_as old s m a b false st h k e) (takes s.here st.here)
other_taken old new m a b (Err TooDeep) h k e c l i takes = takes
other_taken old new m a b (Err TooLarge) h k e c l i takes = λ s st.
    let t = takes s.here st.here in
    (with_here s t.0, open_other s m (Some t.0) (last_as old s m a b false st h k e) t.1, t.2)
other_taken old new m a b (Err OutOfMemory) h k e c l i takes = tt

-- ---- all marks

case_other : (s : CasesState) (m : Mark) → is_other m ≡ true → advance_other s m ≡ advance_case s m
case_other s (look n) h = false_true h
case_other s (token t) h = refl

pub other_mark : (m : CodeMark) → ((n : Bool) → m ≡ code.Look n → ⊥) → is_other (mark_of m) ≡ true
other_mark (code.Look n) h = absurd (h n refl)
other_mark (code.Token t) h = refl

pub case_taken : (old new : Outermost) (m : Mark) (r : Result (Unit {0}) IRegexpErrorKind) → is_other m ≡ true → TakesOther old m r new
    → TakesCase old m r new
case_taken old new m (Ok x) h takes = λ s st. let t = takes s st in (t.0, sym (case_other s m h) ∙ t.1, t.2)
case_taken old new m (Err Invalid) h takes = λ s st. sym (case_other s m h) ∙ takes s st
case_taken old new m (Err TooDeep) h takes = takes
case_taken old new m (Err TooLarge) h takes = λ s st. let t = takes s st in (t.0, sym (case_other s m h) ∙ t.1, t.2)
case_taken old new m (Err OutOfMemory) h takes = tt

-- ---- the end of the text

pub closed_not_look : (old : Outermost) → is_some old.inside ≡ true → FinishesCases old (Err Invalid)
closed_not_look old e s a = ap (λ b. not b && no_levels s.here.state.1) (sym (ap is_some a.inside) ∙ e)

pub closed_not_group : (old : Outermost) → ((h : PartsState) → AgreesAt old.here h → false ≡ no_levels h.state.1)
    → FinishesCases old (Err Invalid)
closed_not_group old h s a = ap (λ b. not (is_some s.inside) && b) (sym (h s.here a.here)) ∙ and_false (not (is_some s.inside))

pub closed_all : (old : Outermost) (ns : List CaseTree) → is_some old.inside ≡ false
    → ((h : PartsState) → AgreesAt old.here h → true ≡ no_levels h.state.1) → (mid : Outermost)
    → ((s : CasesState) → StandsFor old s → s.inside ≡ None → no_levels s.here.state.1 ≡ true → StandsFor mid (next_case s))
    → ns ≡ mid.cases.items → (s : CasesState) → StandsFor old s
    → (is_closed s ≡ true) × CasesMean ns (s.cases ++ case_in s ∷ []) × AreSmallCases (s.cases ++ case_in s ∷ [])
closed_all old ns e h mid ended f s a =
    let inside : is_some s.inside ≡ false = sym (ap is_some a.inside) ∙ e in
    let none = sym (h s.here a.here) in
    let k = ended s a (none_is s.inside inside) none in (
      ap (λ b. not b && no_levels s.here.state.1) inside ∙ none,
      subst (λ v. CasesMean v (s.cases ++ case_in s ∷ [])) (sym f) k.cases,
      k.small_cases,
    )
  where
    none_is : (o : Option Bool) → is_some o ≡ false → o ≡ None
    none_is None e = refl
    none_is (Some b) e = absurd (true≢false e)

-- ---- outside of groups

pub out_of : (b : Outermost) (a : Bool) → Stands b → ((h : PartsState) → AgreesAt b.here h → a ≡ no_levels h.state.1) → a ≡ true
    → StandsOut b
out_of b a st h e = (st.0, st.1, sym (h st.0.here st.1.here) ∙ e)

pub out_last : (b : Outermost) (x y : Bool) → Stands b → ((h : PartsState) → AgreesAt b.here h → x ≡ no_levels h.state.1)
    → (x && y) ≡ true → StandsOut b
out_last b x y st h e = out_of b x st h (first x y e)
  where
    first : (x y : Bool) → (x && y) ≡ true → x ≡ true
    first true y e = refl
    first false y e = e
