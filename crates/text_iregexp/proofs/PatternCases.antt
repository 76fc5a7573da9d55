-- The machine takes the marks of a pattern, and no others, to the pattern.
use Rattle.std.proofs.Common.{◌≡◌, inl, inr, ◌≤◌, Bool, true, false, not, ◌&&◌, cond, List, [], ◌∷◌, ◌++◌}
use Rattle.std.proofs.Common.{Option, Some, None, option_map, is_some, refl, sym, ap, ◌∙◌, subst, arith, append_assoc, append-nil}
use Rattle.std.proofs.Common.{true≢false}
use Rattle.std.proofs.lemmas.Bool.{cond-true, cond-false, and_parts}
use Rattle.std.specs.Prelude.{option_and_then}
use Rattle.text_regexp.specs.declared.assertion.Assertion.TheVariants.{Start}
use Rattle.text_iregexp.specs.Grammar.{Token, characters, opened, closed, bar, quantifier, asserted, asserts, Branch}
use Rattle.text_iregexp.specs.Levels.{level, State, fresh, advance, state_size}
use Rattle.text_iregexp.specs.Limits.{size_limit, branch_size}
use Rattle.text_iregexp.specs.Patterns.{Mark, look, token, Disjunction, Look, Case, Pattern, branch_marks, barred_marks}
use Rattle.text_iregexp.specs.Patterns.{disjunction_marks, looks_marks, guard_marks, case_marks, cases_marks, pattern_marks, has_looks}
use Rattle.text_iregexp.specs.Patterns.{AreSmall, AreSmallLooks, AreSmallCases, IsSmall}
use Rattle.text_iregexp.specs.PatternMachine.{PartsState, initial, no_levels, is_blank, is_single, starts_at, is_before, is_bar, branch_in}
use Rattle.text_iregexp.specs.PatternMachine.{part_in, disjunction_in, next_part, with_state, advance_mark, run_marks, is_bare}
use Rattle.text_iregexp.specs.PatternCases.{CasesState, no_cases, is_closed, case_in, pattern_in, opened_look, look_in}
use Rattle.text_iregexp.specs.PatternCases.{closed_look, next_case}
use Rattle.text_iregexp.specs.PatternCases.{with_here, is_parting, is_close, is_closing, is_last, ended, may_look, advance_other}
use Rattle.text_iregexp.specs.PatternCases.{advance_case, run_cases}
use Rattle.text_iregexp.proofs.Lexing.{cond_cases, map_cases, none_some, some_same}
use Rattle.text_iregexp.proofs.PatternMachine.{is_the_bar, no_level_left, disjunction_sound, disjunction_complete}
use Rattle.text_iregexp.proofs.PatternMachine.{run_marks_append, Fine, fine_part, step_back}
use Rattle.text_iregexp.proofs.PatternEnds.{only_start, is_the_blank}

-- ---- what a mark does

pub data Step (s : CasesState) (m : Mark) (u : CasesState) : Type 0 where
  opening : (n : Bool) → m ≡ look n → may_look s ≡ true → opened_look s n ≡ u → Step s m u
  ending : no_levels s.here.state.1 ≡ true → is_last s.inside m ≡ true → ended s s.inside ≡ u → Step s m u
  going : (h : PartsState) → (no_levels s.here.state.1 && is_last s.inside m) ≡ false → advance_mark s.here m ≡ Some h
      → with_here s h ≡ u → Step s m u

other_step : (s : CasesState) (m : Mark) (u : CasesState) → advance_other s m ≡ Some u → Step s m u
other_step s m u e =
    elim (cond_cases (no_levels s.here.state.1 && is_last s.inside m) _ _ u e) [
      | inl a ↦ let both = and_parts (no_levels s.here.state.1) (is_last s.inside m) a.0 in ending both.0 both.1 (some_same a.1)
      | inr n ↦ let k = map_cases (with_here s) (advance_mark s.here m) u n.1 in going k.0 n.0 k.1 k.2
    ]

pub step_of : (s : CasesState) (m : Mark) (u : CasesState) → advance_case s m ≡ Some u → Step s m u
step_of s (look n) u e =
    elim (cond_cases (may_look s) _ _ u e) [
      | inl a ↦ opening n refl a.0 (some_same a.1)
      | inr b ↦ none_some b.1
    ]
step_of s (token t) u e = other_step s (token t) u e

pub parting_bar : (m : Mark) → is_parting m ≡ true → m ≡ token bar
parting_bar (look n) h = absurd (true≢false (sym h))
parting_bar (token t) h = ap token (is_the_bar t h)

close_closed : (t : Token) → is_close t ≡ true → t ≡ closed
close_closed (characters negated is) h = absurd (true≢false (sym h))
close_closed opened h = absurd (true≢false (sym h))
close_closed closed h = refl
close_closed bar h = absurd (true≢false (sym h))
close_closed (quantifier least most) h = absurd (true≢false (sym h))
close_closed (asserted kind) h = absurd (true≢false (sym h))

pub closing_closed : (m : Mark) → is_closing m ≡ true → m ≡ token closed
closing_closed (look n) h = absurd (true≢false (sym h))
closing_closed (token t) h = ap token (close_closed t h)

pub none_of : (o : Option Bool) → not (is_some o) ≡ true → o ≡ None
none_of None h = refl
none_of (Some b) h = absurd (true≢false (sym h))

-- ---- branches that have ended in a step

pub no_part : (qs : List Branch) (q : Branch) → qs ++ q ∷ [] ≡ [] → ⊥
no_part [] q e = cc
no_part (r ∷ qs) q e = cc

pub step_parts : (s : PartsState) (m : Mark) (u : PartsState) → advance_mark s m ≡ Some u
    → (no_levels s.state.1 && is_parting m) ≡ false → u.parts ≡ s.parts
step_parts s (look n) u e h = none_some e
step_parts s (token t) u e h =
    elim (cond_cases (no_levels s.state.1 && is_bar t) _ _ u e) [
      | inl a ↦ absurd (true≢false (sym a.0 ∙ h))
      | inr n ↦ ap (λ v. v.parts) (sym (map_cases (with_state s) (advance s.state t) u n.1).2)
    ]

pub step_fixed : (s : PartsState) (m : Mark) (u : PartsState) → advance_mark s m ≡ Some u → u.fixed ≡ s.fixed
step_fixed s (look n) u e = none_some e
step_fixed s (token t) u e =
    elim (cond_cases (no_levels s.state.1 && is_bar t) _ _ u e) [
      | inl a ↦ ap (λ v. v.fixed) (sym (some_same a.1))
      | inr n ↦ ap (λ v. v.fixed) (sym (map_cases (with_state s) (advance s.state t) u n.1).2)
    ]

and_false : (b : Bool) → (b && false) ≡ false
and_false true = refl
and_false false = refl

bar_step : (s : PartsState) (u : PartsState) → advance_mark s (token bar) ≡ Some u → no_levels s.state.1 ≡ true → next_part s ≡ u
bar_step s u e n = some_same (sym (cond-true (no_levels s.state.1 && true) _ _ (ap (λ b. b && true) n)) ∙ e)

-- where no branch has ended after a step, the step has ended none
quiet : (s : PartsState) (m : Mark) (u : PartsState) → advance_mark s m ≡ Some u → u.parts ≡ []
    → (no_levels s.state.1 && is_parting m) ≡ false
quiet s m u e p = by (no_levels s.state.1 && is_parting m) refl
  where
    by : (b : Bool) → (no_levels s.state.1 && is_parting m) ≡ b → b ≡ false
    by false k = refl
    by true k =
        let both = and_parts (no_levels s.state.1) (is_parting m) k in
        let next = bar_step s u (ap (advance_mark s) (sym (parting_bar m both.1)) ∙ e) both.0 in
        absurd (no_part s.parts (part_in s) (ap (λ v. v.parts) next ∙ p))

no_parts_before : (ms : List Mark) (s u : PartsState) → run_marks s ms ≡ Some u → u.parts ≡ [] → s.parts ≡ []
no_parts_before [] s u e p = ap (λ v. v.parts) (some_same e) ∙ p
no_parts_before (m ∷ ms) s u e p = by (advance_mark s m) refl e (λ v g. no_parts_before ms v u g p)
  where
    by : (o : Option PartsState) → advance_mark s m ≡ o → option_and_then (λ v. run_marks v ms) o ≡ Some u
        → ((v : PartsState) → run_marks v ms ≡ Some u → v.parts ≡ []) → s.parts ≡ []
    by None f g rec = none_some g
    by (Some v) f g rec = let none = rec v g in sym (step_parts s m v f (quiet s m v f none)) ∙ none

-- ---- what was read is the marks

-- the mark `^`
abbrev begin : Mark
begin = token (asserted Start)

abbrev opening_marks : Option Bool → List Look → List Mark
opening_marks None ks = guard_marks ks
opening_marks (Some n) ks = begin ∷ (looks_marks ks ++ look n ∷ [])

pub record Shape (s : CasesState) (ms : List Mark) : Type 0 where
  pub inner : List Mark
  pub fixed : Bool
  pub ran : run_marks (initial fixed) inner ≡ Some s.here
  pub marks : ms ≡ cases_marks s.cases ++ (opening_marks s.inside s.looks ++ inner)
  pub alone : s.inside ≡ None → s.here.parts ≡ []

shape_none : Shape no_cases []
shape_none = record { inner = []; fixed = false; ran = refl; marks = refl; alone = λ h. refl }

-- the mark `^`, or none
abbrev begin_if : Bool → List Mark
begin_if true = begin ∷ []
begin_if false = []

abbrev state_before : Bool → State
state_before true = (level [] (asserts Start ∷ []) None, [])
state_before false = (fresh, [])

pub before_state : (h : PartsState) (b : Bool) → is_before h b ≡ true → h.state ≡ state_before b
before_state h b e =
    let both = and_parts (no_levels h.state.1) (cond b (starts_at h.state.0 && is_single h.state.0) (is_blank h.state.0)) e in
    by b h.state both.0 both.1
  where
    by : (b : Bool) (s : State) → no_levels s.1 ≡ true → cond b (starts_at s.0 && is_single s.0) (is_blank s.0) ≡ true → s ≡ state_before b
    by true (l, ls) n k =
        let two = and_parts (starts_at l) (is_single l) k in
        ap (λ x. let v : State = (x, ls) in v) (only_start l two.0 two.1)
        ∙ ap (λ x. let v : State = (level [] (asserts Start ∷ []) None, x) in v) (no_level_left ls n)
    by false (l, ls) n k =
        ap (λ x. let v : State = (x, ls) in v) (is_the_blank l k) ∙ ap (λ x. let v : State = (fresh, x) in v) (no_level_left ls n)

before_marks : (h : PartsState) (b : Bool) → is_before h b ≡ true → h.parts ≡ [] → disjunction_marks (disjunction_in h) ≡ begin_if b
before_marks h b e p =
    ap (λ qs. barred_marks qs ++ branch_marks (branch_in h.state.0)) p
    ∙ (ap (λ v. branch_marks (branch_in v.0)) (before_state h b e) ∙ by b)
  where
    by : (b : Bool) → branch_marks (branch_in (state_before b).0) ≡ begin_if b
    by true = refl
    by false = refl

pub before_closed : (h : PartsState) (b : Bool) → is_before h b ≡ true → no_levels h.state.1 ≡ true
before_closed h b e =
    (and_parts (no_levels h.state.1) (cond b (starts_at h.state.0 && is_single h.state.0) (is_blank h.state.0)) e).0

regroup_look : (a b : List Mark) (m : Mark) → (a ++ (b ++ [])) ++ m ∷ [] ≡ a ++ ((b ++ m ∷ []) ++ [])
regroup_look a b m = simp append_assoc

shape_opens : (s : CasesState) (ms : List Mark) (n : Bool) → Shape s ms → may_look s ≡ true → Shape (opened_look s n) (ms ++ look n ∷ [])
shape_opens s ms n h e =
    let both = and_parts (not (is_some s.inside)) (is_before s.here (not (has_looks s.looks))) e in
    let none = none_of s.inside both.0 in
    let read : disjunction_marks (disjunction_in s.here) ≡ h.inner =
    disjunction_sound h.fixed h.inner s.here h.ran (before_closed s.here _ both.1) in
    let inner : h.inner ≡ begin_if (not (has_looks s.looks)) = sym read ∙ before_marks s.here _ both.1 (h.alone none) in
    record {
      inner = [];
      fixed = true;
      ran = refl;
      marks = ap (λ us. us ++ look n ∷ []) (h.marks
          ∙ (ap (λ o. cases_marks s.cases ++ (opening_marks o s.looks ++ h.inner)) none
          ∙ ap (λ us. cases_marks s.cases ++ (guard_marks s.looks ++ us)) inner))
          ∙ by s.looks;
      alone = λ f. none_some (sym f);
    }
  where
    by : (ks : List Look) → (cases_marks s.cases ++ (guard_marks ks ++ begin_if (not (has_looks ks)))) ++ look n ∷ []
        ≡ cases_marks s.cases ++ ((begin ∷ (looks_marks ks ++ look n ∷ [])) ++ [])
    by [] = append_assoc (cases_marks s.cases) (begin ∷ []) (look n ∷ [])
    by (k ∷ ks) = regroup_look (cases_marks s.cases) (begin ∷ looks_marks (k ∷ ks)) (look n)

cases_push : (cs : List Case) (c : Case) → cases_marks (cs ++ c ∷ []) ≡ cases_marks cs ++ (case_marks c ++ token bar ∷ [])
cases_push [] c = refl
cases_push (d ∷ cs) c = ap (λ ms. case_marks d ++ token bar ∷ ms) (cases_push cs c)
    ∙ sym (append_assoc (case_marks d) (token bar ∷ cases_marks cs) (case_marks c ++ token bar ∷ []))

regroup_case : (a b c : List Mark) (m : Mark) → (a ++ (b ++ c)) ++ m ∷ [] ≡ (a ++ ((b ++ c) ++ m ∷ [])) ++ []
regroup_case a b c m = simp append_assoc

shape_next : (s : CasesState) (ms : List Mark) → Shape s ms → no_levels s.here.state.1 ≡ true → s.inside ≡ None
    → Shape (next_case s) (ms ++ token bar ∷ [])
shape_next s ms h n none =
    let read : disjunction_marks (disjunction_in s.here) ≡ h.inner = disjunction_sound h.fixed h.inner s.here h.ran n in
    let inner : h.inner ≡ branch_marks (part_in s.here) = sym read
    ∙ ap (λ qs. barred_marks qs ++ branch_marks (part_in s.here)) (h.alone none) in
    record {
      inner = [];
      fixed = false;
      ran = refl;
      marks = ap (λ us. us ++ token bar ∷ []) (h.marks
          ∙ (ap (λ o. cases_marks s.cases ++ (opening_marks o s.looks ++ h.inner)) none
          ∙ ap (λ us. cases_marks s.cases ++ (guard_marks s.looks ++ us)) inner))
          ∙ (regroup_case (cases_marks s.cases) (guard_marks s.looks) (branch_marks (part_in s.here)) (token bar)
          ∙ ap (λ us. us ++ []) (sym (cases_push s.cases (case_in s))));
      alone = λ f. refl;
    }

looks_push : (ks : List Look) (k : Look)
    → looks_marks (ks ++ k ∷ []) ≡ looks_marks ks ++ look k.negated ∷ (disjunction_marks k.content ++ token closed ∷ [])
looks_push [] k = refl
looks_push (j ∷ ks) k =
    ap (λ ms. look j.negated ∷ (disjunction_marks j.content ++ token closed ∷ ms)) (looks_push ks k)
    ∙ ap (λ ms. look j.negated ∷ ms) (sym (append_assoc (disjunction_marks j.content) (token closed ∷ looks_marks ks)
    (look k.negated ∷ (disjunction_marks k.content ++ token closed ∷ []))))

guard_push : (ks : List Look) (k : Look)
    → guard_marks (ks ++ k ∷ []) ≡ begin ∷ (looks_marks ks ++ look k.negated ∷ (disjunction_marks k.content ++ token closed ∷ []))
guard_push [] k = refl
guard_push (j ∷ ks) k = ap (λ ms. begin ∷ ms) (looks_push (j ∷ ks) k)

regroup_closed : (a b d : List Mark) (m c : Mark) → (a ++ ((b ++ m ∷ []) ++ d)) ++ c ∷ [] ≡ a ++ ((b ++ m ∷ (d ++ c ∷ [])) ++ [])
regroup_closed a b d m c = simp append_assoc

shape_closed : (s : CasesState) (ms : List Mark) (n : Bool) → Shape s ms → no_levels s.here.state.1 ≡ true → s.inside ≡ Some n
    → Shape (closed_look s n) (ms ++ token closed ∷ [])
shape_closed s ms n h l some =
    let inner : h.inner ≡ disjunction_marks (disjunction_in s.here) = sym (disjunction_sound h.fixed h.inner s.here h.ran l) in
    record {
      inner = [];
      fixed = true;
      ran = refl;
      marks = ap (λ us. us ++ token closed ∷ []) (h.marks
          ∙ (ap (λ o. cases_marks s.cases ++ (opening_marks o s.looks ++ h.inner)) some
          ∙ ap (λ us. cases_marks s.cases ++ ((begin ∷ (looks_marks s.looks ++ look n ∷ [])) ++ us)) inner))
          ∙ (regroup_closed (cases_marks s.cases) (begin ∷ looks_marks s.looks) (disjunction_marks (disjunction_in s.here)) (look n)
          (token closed)
          ∙ ap (λ us. cases_marks s.cases ++ (us ++ [])) (sym (guard_push s.looks (look_in s n))));
      alone = λ f. refl;
    }

shape_ends : (s : CasesState) (m : Mark) (ms : List Mark) → Shape s ms → no_levels s.here.state.1 ≡ true → is_last s.inside m ≡ true
    → Shape (ended s s.inside) (ms ++ m ∷ [])
shape_ends s m ms h n l = by s.inside refl l
  where
    by : (o : Option Bool) → s.inside ≡ o → is_last o m ≡ true → Shape (ended s o) (ms ++ m ∷ [])
    by None e k = subst (λ x. Shape (next_case s) (ms ++ x ∷ [])) (sym (parting_bar m k)) (shape_next s ms h n e)
    by (Some b) e k = subst (λ x. Shape (closed_look s b) (ms ++ x ∷ [])) (sym (closing_closed m k)) (shape_closed s ms b h n e)

pub still_alone : (s : CasesState) (m : Mark) (h : PartsState) → (s.inside ≡ None → s.here.parts ≡ [])
    → (no_levels s.here.state.1 && is_last s.inside m) ≡ false → advance_mark s.here m ≡ Some h → s.inside ≡ None → h.parts ≡ []
still_alone s m h alone l e none =
    step_parts s.here m h e (ap (λ o. no_levels s.here.state.1 && is_last o m) (sym none) ∙ l) ∙ alone none

regroup_goes : (a b c : List Mark) (m : Mark) → (a ++ (b ++ c)) ++ m ∷ [] ≡ a ++ (b ++ (c ++ m ∷ []))
regroup_goes a b c m = simp append_assoc

shape_goes : (s : CasesState) (m : Mark) (ms : List Mark) (h : PartsState) → Shape s ms
    → (no_levels s.here.state.1 && is_last s.inside m) ≡ false → advance_mark s.here m ≡ Some h → Shape (with_here s h) (ms ++ m ∷ [])
shape_goes s m ms h shape l e = record {
  inner = shape.inner ++ m ∷ [];
  fixed = shape.fixed;
  ran = run_marks_append shape.inner (m ∷ []) (initial shape.fixed)
      ∙ (ap (option_and_then (λ u. run_marks u (m ∷ []))) shape.ran ∙ ap (option_and_then (λ u. run_marks u [])) e);
  marks = ap (λ us. us ++ m ∷ []) shape.marks
      ∙ regroup_goes (cases_marks s.cases) (opening_marks s.inside s.looks) shape.inner m;
  alone = still_alone s m h shape.alone l e;
}

shape_step : (s : CasesState) (m : Mark) (u : CasesState) (ms : List Mark) → Shape s ms → advance_case s m ≡ Some u
    → Shape u (ms ++ m ∷ [])
shape_step s m u ms h e = by (step_of s m u e)
  where
    by : Step s m u → Shape u (ms ++ m ∷ [])
    by (opening n i k f) =
        subst (λ v. Shape v (ms ++ m ∷ [])) f (subst (λ x. Shape (opened_look s n) (ms ++ x ∷ [])) (sym i) (shape_opens s ms n h k))
    by (ending n l f) = subst (λ v. Shape v (ms ++ m ∷ [])) f (shape_ends s m ms h n l)
    by (going v l k f) = subst (λ v. Shape v (ms ++ m ∷ [])) f (shape_goes s m ms v h l k)

shape_run : (ms ns : List Mark) (s u : CasesState) → Shape s ns → run_cases s ms ≡ Some u → Shape u (ns ++ ms)
shape_run [] ns s u h e = subst (λ v. Shape v (ns ++ [])) (some_same e) (subst (Shape s) (sym (append-nil ns)) h)
shape_run (m ∷ ms) ns s u h e = by (advance_case s m) refl e (λ v k g. shape_run ms (ns ++ m ∷ []) v u k g)
  where
    by : (o : Option CasesState) → advance_case s m ≡ o → option_and_then (λ v. run_cases v ms) o ≡ Some u
        → ((v : CasesState) → Shape v (ns ++ m ∷ []) → run_cases v ms ≡ Some u → Shape u ((ns ++ m ∷ []) ++ ms)) → Shape u (ns ++ m ∷ ms)
    by None f g rec = none_some g
    by (Some v) f g rec = subst (Shape u) (append_assoc ns (m ∷ []) ms) (rec v (shape_step s m v ns h f) g)

pub pattern_sound : (ms : List Mark) (s : CasesState) → run_cases no_cases ms ≡ Some s → is_closed s ≡ true
    → pattern_marks (pattern_in s) ≡ ms
pattern_sound ms s e c =
    let h = shape_run ms [] no_cases s shape_none e in
    let both = and_parts (not (is_some s.inside)) (no_levels s.here.state.1) c in
    let none = none_of s.inside both.0 in
    let read : disjunction_marks (disjunction_in s.here) ≡ h.inner = disjunction_sound h.fixed h.inner s.here h.ran both.1 in
    let inner : h.inner ≡ branch_marks (part_in s.here) = sym read
    ∙ ap (λ qs. barred_marks qs ++ branch_marks (part_in s.here)) (h.alone none) in
    sym (h.marks
    ∙ (ap (λ o. cases_marks s.cases ++ (opening_marks o s.looks ++ h.inner)) none
    ∙ ap (λ us. cases_marks s.cases ++ (guard_marks s.looks ++ us)) inner))

-- ---- each pattern is taken

pub run_cases_append : (ms ns : List Mark) (s : CasesState)
    → run_cases s (ms ++ ns) ≡ option_and_then (λ u. run_cases u ns) (run_cases s ms)
run_cases_append [] ns s = refl
run_cases_append (m ∷ ms) ns s = by (advance_case s m) (λ u. run_cases_append ms ns u)
  where
    by : (o : Option CasesState)
        → ((u : CasesState) → run_cases u (ms ++ ns) ≡ option_and_then (λ v. run_cases v ns) (run_cases u ms))
        → option_and_then (λ u. run_cases u (ms ++ ns)) o
        ≡ option_and_then (λ v. run_cases v ns) (option_and_then (λ u. run_cases u ms) o)
    by None h = refl
    by (Some u) h = h u

closed_none : (s : PartsState) → no_levels s.state.1 ≡ true → advance_mark s (token closed) ≡ None
closed_none s n =
    cond-false (no_levels s.state.1 && false) _ _ (and_false (no_levels s.state.1))
    ∙ ap (λ ls. option_map (with_state s) (advance (s.state.0, ls) closed)) (no_level_left s.state.1 n)

-- a mark that the branches take, and that does not end them, is taken
goes_on : (s : CasesState) (m : Mark) (h : PartsState) → (no_levels s.here.state.1 && is_last s.inside m) ≡ false
    → advance_mark s.here m ≡ Some h → advance_case s m ≡ Some (with_here s h)
goes_on s (look n) h l e = none_some e
goes_on s (token t) h l e = cond-false _ _ _ l ∙ ap (option_map (with_here s)) e

not_last : (s : CasesState) (m : Mark) (h : PartsState) → advance_mark s.here m ≡ Some h → (s.inside ≡ None → h.parts ≡ [])
    → (no_levels s.here.state.1 && is_last s.inside m) ≡ false
not_last s m h e p = by s.inside refl
  where
    closes : (b : Bool) → (no_levels s.here.state.1 && is_closing m) ≡ b → b ≡ false
    closes false k = refl
    closes true k =
        let both = and_parts (no_levels s.here.state.1) (is_closing m) k in
        none_some (sym (ap (advance_mark s.here) (closing_closed m both.1) ∙ closed_none s.here both.0) ∙ e)

    by : (o : Option Bool) → s.inside ≡ o → (no_levels s.here.state.1 && is_last o m) ≡ false
    by None f = quiet s.here m h e (p f)
    by (Some n) f = closes (no_levels s.here.state.1 && is_closing m) refl

runs_inner : (ms : List Mark) (s : CasesState) (h : PartsState) (rest : List Mark) → run_marks s.here ms ≡ Some h
    → (s.inside ≡ None → h.parts ≡ []) → run_cases s (ms ++ rest) ≡ run_cases (with_here s h) rest
runs_inner [] s h rest e p = ap (λ k. run_cases (with_here s k) rest) (some_same e)
runs_inner (m ∷ ms) s h rest e p = by (advance_mark s.here m) refl e (λ v g. runs_inner ms (with_here s v) h rest g p)
  where
    by : (o : Option PartsState) → advance_mark s.here m ≡ o → option_and_then (λ v. run_marks v ms) o ≡ Some h
        → ((v : PartsState) → run_marks v ms ≡ Some h → run_cases (with_here s v) (ms ++ rest) ≡ run_cases (with_here s h) rest)
        → run_cases s (m ∷ (ms ++ rest)) ≡ run_cases (with_here s h) rest
    by None f g rec = none_some g
    by (Some v) f g rec =
        let l = not_last s m v f (λ none. no_parts_before ms v h g (p none)) in
        ap (option_and_then (λ u. run_cases u (ms ++ rest))) (goes_on s m v l f) ∙ rec v g

-- a branch behind its look-aheads
abbrev behind : List Case → List Look → Bool → CasesState
behind cs ks fixed = record { cases = cs; looks = ks; inside = None; here = initial fixed }

closes_look : (s : CasesState) (n : Bool) (h : PartsState) (p : Disjunction) → no_levels h.state.1 ≡ true → disjunction_in h ≡ p
    → advance_case (with_here (opened_look s n) h) (token closed)
    ≡ Some (behind s.cases (s.looks ++ record { negated = n; content = p } ∷ []) true)
closes_look s n h p l e =
    cond-true (no_levels h.state.1 && true) _ _ (ap (λ b. b && true) l)
    ∙ ap (λ d. let o : Option CasesState = Some (behind s.cases (s.looks ++ record { negated = n; content = d } ∷ []) true) in o) e

runs_look : (s : CasesState) (k : Look) (rest : List Mark) → may_look s ≡ true
    → run_cases s (look k.negated ∷ (disjunction_marks k.content ++ token closed ∷ rest))
    ≡ run_cases (behind s.cases (s.looks ++ k ∷ []) true) rest
runs_look s k rest e =
    let d = disjunction_complete true k.content in
    ap (option_and_then (λ u. run_cases u (disjunction_marks k.content ++ token closed ∷ rest))) (cond-true (may_look s) _ _ e)
    ∙ (runs_inner (disjunction_marks k.content) (opened_look s k.negated) d.last (token closed ∷ rest) d.runs (λ f. none_some (sym f))
    ∙ ap (option_and_then (λ u. run_cases u rest)) (closes_look s k.negated d.last k.content d.closed d.whole))

looks_more : (ks : List Look) (k : Look) → has_looks (ks ++ k ∷ []) ≡ true
looks_more [] k = refl
looks_more (j ∷ ks) k = refl

may_look_behind : (cs : List Case) (ks : List Look) → has_looks ks ≡ true → may_look (behind cs ks true) ≡ true
may_look_behind cs ks h = ap (λ b. is_before (initial true) (not b)) h

runs_looks : (ks done : List Look) (cs : List Case) (rest : List Mark) → has_looks done ≡ true
    → run_cases (behind cs done true) (looks_marks ks ++ rest) ≡ run_cases (behind cs (done ++ ks) true) rest
runs_looks [] done cs rest h = ap (λ js. run_cases (behind cs js true) rest) (sym (append-nil done))
runs_looks (k ∷ ks) done cs rest h =
    ap (λ ms. run_cases (behind cs done true) (look k.negated ∷ ms)) (append_assoc (disjunction_marks k.content) (token closed ∷
    looks_marks ks) rest)
    ∙ (runs_look (behind cs done true) k (looks_marks ks ++ rest) (may_look_behind cs done h)
    ∙ (runs_looks ks (done ++ k ∷ []) cs rest (looks_more done k)
    ∙ ap (λ js. run_cases (behind cs js true) rest) (append_assoc done (k ∷ []) ks)))

abbrev begun : List Case → CasesState
begun cs = with_here (behind cs [] false) (record { fixed = false; parts = []; state = state_before true })

runs_guard : (ks : List Look) (cs : List Case) (rest : List Mark)
    → run_cases (behind cs [] false) (guard_marks ks ++ rest) ≡ run_cases (behind cs ks (has_looks ks)) rest
runs_guard [] cs rest = refl
runs_guard (k ∷ ks) cs rest =
    ap (λ ms. run_cases (begun cs) (look k.negated ∷ ms)) (append_assoc (disjunction_marks k.content) (token closed ∷ looks_marks ks) rest)
    ∙ (runs_look (begun cs) k (looks_marks ks ++ rest) refl ∙ runs_looks ks (k ∷ []) cs rest refl)

abbrev alone_part : Branch → Disjunction
alone_part q = record { before = []; last = q }

abbrev case_end : List Case → Case → CasesState
case_end cs c = record {
  cases = cs;
  looks = c.looks;
  inside = None;
  here = (disjunction_complete (has_looks c.looks) (alone_part c.branch)).last;
}

runs_case : (cs : List Case) (c : Case) (rest : List Mark)
    → run_cases (behind cs [] false) (case_marks c ++ rest) ≡ run_cases (case_end cs c) rest
runs_case cs c rest =
    let d = disjunction_complete (has_looks c.looks) (alone_part c.branch) in
    ap (run_cases (behind cs [] false)) (append_assoc (guard_marks c.looks) (branch_marks c.branch) rest)
    ∙ (runs_guard c.looks cs (branch_marks c.branch ++ rest)
    ∙ runs_inner (branch_marks c.branch) (behind cs c.looks (has_looks c.looks)) d.last rest d.runs (λ f. ap (λ p. p.before) d.whole))

parts_case : (cs : List Case) (c : Case) → advance_case (case_end cs c) (token bar) ≡ Some (behind (cs ++ c ∷ []) [] false)
parts_case cs c =
    let d = disjunction_complete (has_looks c.looks) (alone_part c.branch) in
    cond-true (no_levels d.last.state.1 && true) _ _ (ap (λ b. b && true) d.closed)
    ∙ ap (λ p. let o : Option CasesState = Some (behind (cs ++ record { looks = c.looks; branch = p.last } ∷ []) [] false) in o) d.whole

runs_cases : (cs done : List Case) (rest : List Mark)
    → run_cases (behind done [] false) (cases_marks cs ++ rest) ≡ run_cases (behind (done ++ cs) [] false) rest
runs_cases [] done rest = ap (λ ds. run_cases (behind ds [] false) rest) (sym (append-nil done))
runs_cases (c ∷ cs) done rest =
    ap (run_cases (behind done [] false)) (append_assoc (case_marks c) (token bar ∷ cases_marks cs) rest)
    ∙ (runs_case done c (token bar ∷ (cases_marks cs ++ rest))
    ∙ (ap (option_and_then (λ u. run_cases u (cases_marks cs ++ rest))) (parts_case done c)
    ∙ (runs_cases cs (done ++ c ∷ []) rest
    ∙ ap (λ ds. run_cases (behind ds [] false) rest) (append_assoc done (c ∷ []) cs))))

-- ---- how large it is

pub record FineCases (s : CasesState) : Type 0 where
  pub cases : AreSmallCases s.cases
  pub looks : AreSmallLooks s.looks
  pub here : Fine s.here

pub cases_small : (cs : List Case) (c : Case) → AreSmallCases cs → AreSmallLooks c.looks → branch_size c.branch ≤ size_limit
    → AreSmallCases (cs ++ c ∷ [])
cases_small [] c a k b = (k, b, tt)
cases_small (d ∷ cs) c a k b = (a.0, a.1, cases_small cs c a.2 k b)

cases_split : (cs : List Case) (c : Case) → AreSmallCases (cs ++ c ∷ [])
    → AreSmallCases cs × AreSmallLooks c.looks × (branch_size c.branch ≤ size_limit)
cases_split [] c a = (tt, a.0, a.1)
cases_split (d ∷ cs) c a = let s = cases_split cs c a.2 in ((a.0, a.1, s.0), s.1, s.2)

pub looks_small : (ks : List Look) (k : Look) → AreSmallLooks ks → AreSmall (k.content.before ++ k.content.last ∷ [])
    → AreSmallLooks (ks ++ k ∷ [])
looks_small [] k a b = (b, tt)
looks_small (j ∷ ks) k a b = (a.0, looks_small ks k a.1 b)

looks_split : (ks : List Look) (k : Look) → AreSmallLooks (ks ++ k ∷ [])
    → AreSmallLooks ks × AreSmall (k.content.before ++ k.content.last ∷ [])
looks_split [] k a = (tt, a.0)
looks_split (j ∷ ks) k a = let s = looks_split ks k a.1 in ((a.0, s.0), s.1)

pub record RunsPattern (p : Pattern) : Type 0 where
  pub last : CasesState
  pub runs : run_cases no_cases (pattern_marks p) ≡ Some last
  pub whole : pattern_in last ≡ p
  pub closed : is_closed last ≡ true
  pub fine : IsSmall p → FineCases last

-- the marks of a pattern lead to a state with no group and no look-ahead open
pub pattern_complete : (p : Pattern) → RunsPattern p
pattern_complete p =
    let d = disjunction_complete (has_looks p.last.looks) (alone_part p.last.branch) in
    let none = no_level_left d.last.state.1 d.closed in
    record {
      last = case_end p.before p.last;
      runs = runs_cases p.before [] (case_marks p.last)
          ∙ (ap (run_cases (behind p.before [] false)) (sym (append-nil (case_marks p.last))) ∙ runs_case p.before p.last []);
      whole = ap (λ q. let w : Pattern = record { before = p.before; last = record { looks = p.last.looks; branch = q.last } } in w)
          d.whole;
      closed = d.closed;
      fine = λ small.
          let s = cases_split p.before p.last small in
          record {
            cases = s.0;
            looks = s.1;
            here = fine_part d.last d.closed (ap (λ ls. is_bare d.last.state.0 ls) none ∙ d.bare)
                (subst (λ q. AreSmall (q.before ++ q.last ∷ [])) (sym d.whole) (s.2, tt));
          };
    }

pub record Back (s u : CasesState) : Type 0 where
  pub bare : is_bare u.here.state.0 u.here.state.1 ≡ true
  pub alone : u.inside ≡ None → u.here.parts ≡ []
  pub fine : FineCases u → FineCases s

fine_before : (h : PartsState) (b : Bool) → is_before h b ≡ true → h.parts ≡ [] → Fine h
fine_before h b e p = record {
  parts = subst AreSmall (sym p) tt;
  state = subst (λ v. state_size v ≤ size_limit) (sym (before_state h b e)) (by b);
}
  where
    by : (b : Bool) → state_size (state_before b) ≤ size_limit
    by true = omega arith
    by false = omega arith

back_ends : (s : CasesState) → is_bare s.here.state.0 s.here.state.1 ≡ true → (s.inside ≡ None → s.here.parts ≡ [])
    → no_levels s.here.state.1 ≡ true → Back s (ended s s.inside)
back_ends s b p n = by s.inside refl
  where
    by : (o : Option Bool) → s.inside ≡ o → Back s (ended s o)
    by None e = record {
      bare = refl;
      alone = λ f. refl;
      fine = λ f.
          let k = cases_split s.cases (case_in s) f.cases in
          record {
            cases = k.0;
            looks = k.1;
            here = fine_part s.here n b (subst (λ qs. AreSmall (qs ++ part_in s.here ∷ [])) (sym (p e)) (k.2, tt));
          };
    }
    by (Some x) e = record {
      bare = refl;
      alone = λ f. refl;
      fine = λ f.
          let k = looks_split s.looks (look_in s x) f.looks in
          record { cases = f.cases; looks = k.0; here = fine_part s.here n b k.1 };
    }

pub case_back : (s : CasesState) (m : Mark) (u : CasesState) → advance_case s m ≡ Some u
    → is_bare s.here.state.0 s.here.state.1 ≡ true → (s.inside ≡ None → s.here.parts ≡ []) → Back s u
case_back s m u e b p = by (step_of s m u e)
  where
    by : Step s m u → Back s u
    by (opening n i k f) =
        let both = and_parts (not (is_some s.inside)) (is_before s.here (not (has_looks s.looks))) k in
        subst (Back s) f (record {
          bare = refl;
          alone = λ f. none_some (sym f);
          fine = λ f. record {
            cases = f.cases;
            looks = f.looks;
            here = fine_before s.here _ both.1 (p (none_of s.inside both.0));
          };
        })
    by (ending n l f) = subst (Back s) f (back_ends s b p n)
    by (going h l k f) =
        let r = step_back s.here m h k b in
        subst (Back s) f (record {
          bare = r.bare;
          alone = still_alone s m h p l k;
          fine = λ f. record { cases = f.cases; looks = f.looks; here = r.fine f.here };
        })

pub run_fine : (ms : List Mark) (s u : CasesState) → run_cases s ms ≡ Some u → is_bare s.here.state.0 s.here.state.1 ≡ true
    → (s.inside ≡ None → s.here.parts ≡ []) → FineCases u → FineCases s
run_fine [] s u e b p f = subst FineCases (sym (some_same e)) f
run_fine (m ∷ ms) s u e b p f = by (advance_case s m) refl e (λ v h k q. run_fine ms v u h k q f)
  where
    by : (o : Option CasesState) → advance_case s m ≡ o → option_and_then (λ v. run_cases v ms) o ≡ Some u
        → ((v : CasesState) → run_cases v ms ≡ Some u → is_bare v.here.state.0 v.here.state.1 ≡ true
        → (v.inside ≡ None → v.here.parts ≡ []) → FineCases v) → FineCases s
    by None g h rec = none_some h
    by (Some v) g h rec = let k = case_back s m v g b p in k.fine (rec v h k.bare k.alone)
