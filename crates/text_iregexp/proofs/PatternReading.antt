-- Reading a pattern mark by mark.
use Rattle.std.proofs.Common.{◌≡◌, inl, inr, ℕ, ◌+◌, ◌-◌, ◌<◌, ◌≤◌, Bool, true, false, not, ◌&&◌, cond, List, [], ◌∷◌, ◌++◌, length}
use Rattle.std.proofs.Common.{is_some, Option, Some, None, Err, refl, sym, ap, ◌∙◌, subst, arith, append-nil, append_assoc, length-append}
use Rattle.std.proofs.Common.{true≢false}
use Rattle.std.proofs.lemmas.Bool.{and_parts, cond-true}
use Rattle.std.specs.Prelude.{option_and_then}
use Rattle.text_iregexp.specs.declared.cases.Case.{Case as CaseTree}
use Rattle.text_iregexp.specs.declared.outermost.Outermost.{Outermost}
use Rattle.text_iregexp.specs.declared.error.IRegexpError.{IRegexpError}
use Rattle.text_iregexp.specs.declared.error.IRegexpErrorKind.{IRegexpErrorKind}
use Rattle.text_iregexp.specs.declared.error.IRegexpErrorKind.TheVariants.{Invalid, TooDeep, TooLarge, OutOfMemory}
use Rattle.text_iregexp.specs.Grammar.{opened, closed, group}
use Rattle.text_iregexp.specs.Levels.{Level, with_atom, regexp_of, advance, state_size}
use Rattle.text_iregexp.specs.Limits.{depth_limit, size_limit, begins_group, ends_group}
use Rattle.text_iregexp.specs.Patterns as is
use Rattle.text_iregexp.specs.Patterns.{Mark, look, token, Spelled, are_distinct, Pattern, pattern_marks, IsText, IsSmall}
use Rattle.text_iregexp.specs.Patterns.{has_looks, AreSmallCases}
use Rattle.text_iregexp.specs.PatternFronts.{next_front, Takes, TakesName}
use Rattle.text_iregexp.specs.PatternMachine.{PartsState, no_levels, is_before, is_bar, with_state, advance_mark}
use Rattle.text_iregexp.specs.PatternCases.{CasesState, no_cases, is_closed, case_in, pattern_in, with_here, closed_look, ended, is_last}
use Rattle.text_iregexp.specs.PatternCases.{advance_case, run_cases}
use Rattle.text_iregexp.specs.PatternCases.{CasesMean, StandsFor, TakesCase, FinishesCases}
use Rattle.text_iregexp.specs.PatternReading.{begins_one, ends_one, begun_groups, ended_groups, OpensTooMany, IsNone, GrowsTooLarge}
use Rattle.text_iregexp.specs.PatternReading.{Says, Refused}
use Rattle.std.proofs.Common.{drop, take}
use Rattle.text_iregexp.specs.declared.pattern_error.SchemaPatternError.{SchemaPatternError}
use Rattle.text_iregexp.specs.declared.pattern_error.SchemaPatternErrorKind.TheVariants as reason
use Rattle.text_iregexp.specs.PatternReading.{is_outside, kind_at, SaysOf, IsRefused}
use Rattle.text_iregexp.proofs.Lexing.{cond_cases, map_cases, none_some, some_same}
use Rattle.text_iregexp.proofs.PatternNames.{next_sound, mark_complete_next, name_complete_next, distinct_front}
use Rattle.text_iregexp.proofs.PatternMachine.{no_level_left, is_the_bar}
use Rattle.text_iregexp.proofs.PatternCases.{Step, opening, ending, going, step_of, parting_bar, closing_closed, none_of, before_closed}
use Rattle.text_iregexp.proofs.PatternCases.{pattern_sound, run_cases_append, pattern_complete, case_back, run_fine}
use Rattle.text_iregexp.proofs.Refusing.{step_depth, outer_length}

-- ---- marks, one after the other

pub data Lexes : List ℕ → List Mark → List (List ℕ) → List ℕ → Type 0 where
  stop : {xs : List ℕ} → Lexes xs [] [] xs
  go : {xs ys zs : List ℕ} {m : Mark} {ms : List Mark} {ns us : List (List ℕ)} → next_front xs ≡ Some (m, (ns, ys)) → Lexes ys ms us zs
      → Lexes xs (m ∷ ms) (ns ++ us) zs

lexes_push : {xs ys zs : List ℕ} {ms : List Mark} {us ns : List (List ℕ)} {m : Mark} → Lexes xs ms us ys
    → next_front ys ≡ Some (m, (ns, zs)) → Lexes xs (ms ++ m ∷ []) (us ++ ns) zs
lexes_push {xs = xs} {zs = zs} {ns = ns} {m = m} stop e = subst (λ vs. Lexes xs (m ∷ []) vs zs) (append-nil ns) (go e stop)
lexes_push {zs = zs} {ns = ns} {m = m} (go {xs = xs} {m = k} {ms = ms} {ns = vs} {us = us} f l) e =
    subst (λ ts. Lexes xs (k ∷ (ms ++ m ∷ [])) ts zs) (sym (append_assoc vs us ns)) (go f (lexes_push l e))

pub lexes_spelled : {xs zs : List ℕ} {ms : List Mark} {ns : List (List ℕ)} → Lexes xs ms ns zs → zs ≡ [] → Spelled xs ms ns
lexes_spelled stop e = subst (λ xs. Spelled xs [] []) (sym e) is.none
lexes_spelled (go {xs} {ys} {zs} {m} {ms} {ns} {us} f k) e =
    let s = next_sound xs m ns ys f in
    subst (λ cs. Spelled cs (m ∷ ms) (ns ++ us)) (sym s.split) (s.grows ys [] ms us (sym (append-nil ys)) (lexes_spelled k e))

pub spelled_lexes : {xs : List ℕ} {ms : List Mark} {ns : List (List ℕ)} → Spelled xs ms ns → Lexes xs ms ns []
spelled_lexes is.none = stop
spelled_lexes (is.more {cs} {ds} {m} {ms} s f a k) = go (mark_complete_next cs m s ds f a) (spelled_lexes k)
spelled_lexes (is.named {name} {ds} h k) = go (name_complete_next name ds h) (spelled_lexes k)

record Rest (us ms : List Mark) (ks ns : List (List ℕ)) (ys : List ℕ) : Type 0 where
  rest : List Mark
  left : List (List ℕ)
  split : us ≡ ms ++ rest
  names : ks ≡ ns ++ left
  lexed : Lexes ys rest left []

mark_same : {a b : Mark} {p q : List (List ℕ) × List ℕ}
    → ◌≡◌ {A = Option (Mark × (List (List ℕ) × List ℕ))} (Some (a, p)) (Some (b, q)) → a ≡ b
mark_same h = ap (λ p. p.0) (some_same h)

rest_same : {a b : Mark} {p q : List (List ℕ) × List ℕ}
    → ◌≡◌ {A = Option (Mark × (List (List ℕ) × List ℕ))} (Some (a, p)) (Some (b, q)) → p ≡ q
rest_same h = ap (λ p. p.1) (some_same h)

record Behind (u : Mark) (ns : List (List ℕ)) (ds : List ℕ) (us : List Mark) (ks : List (List ℕ)) : Type 0 where
  marks : List Mark
  others : List (List ℕ)
  split : us ≡ u ∷ marks
  names : ks ≡ ns ++ others
  lexed : Lexes ds marks others []

front_same : {cs ds : List ℕ} {u : Mark} {ns : List (List ℕ)} (us : List Mark) (ks : List (List ℕ)) (zs : List ℕ)
    → next_front cs ≡ Some (u, (ns, ds)) → Lexes cs us ks zs → zs ≡ [] → Behind u ns ds us ks
front_same us ks zs e stop f = absurd (none_some (ap next_front (sym f) ∙ e))
front_same {ds = ds} {u = u} {ns = ns} us ks zs e (go {ys = ys} {m = m} {ms = ms} {ns = vs} {us = ws} g k) f =
    let same : ◌≡◌ {A = Option (Mark × (List (List ℕ) × List ℕ))} (Some (u, (ns, ds))) (Some (m, (vs, ys))) = sym e ∙ g in
    record {
      marks = ms;
      others = ws;
      split = ap (λ x. x ∷ ms) (sym (mark_same same));
      names = ap (λ p. p.0 ++ ws) (sym (rest_same same));
      lexed = subst (λ p. Lexes p.1 ms ws []) (sym (rest_same same)) (subst (λ x. Lexes ys ms ws x) f k);
    }

lexes_unique : {xs ys : List ℕ} {ms : List Mark} {ns : List (List ℕ)} (us : List Mark) (ks : List (List ℕ)) → Lexes xs ms ns ys
    → Lexes xs us ks [] → Rest us ms ks ns ys
lexes_unique us ks stop k = record { rest = us; left = ks; split = refl; names = refl; lexed = k }
lexes_unique us ks (go {xs} {ys} {zs} {m} {ms} {ns} {us = vs} e h) k =
    let s = front_same us ks [] e k refl in
    let r = lexes_unique s.marks s.others h s.lexed in
    record {
      rest = r.rest;
      left = r.left;
      split = s.split ∙ ap (λ ws. m ∷ ws) r.split;
      names = s.names ∙ (ap (λ ws. ns ++ ws) r.names ∙ sym (append_assoc ns vs r.left));
      lexed = r.lexed;
    }

nothing_lexed : {xs zs : List ℕ} {vs : List Mark} {ns : List (List ℕ)} → Lexes xs vs ns zs → xs ≡ [] → vs ≡ []
nothing_lexed stop f = refl
nothing_lexed (go g k) f = absurd (none_some (sym (ap next_front f) ∙ g))

-- ---- the reading of a text, of which the rest is left

pub record Reading (text rest : List ℕ) (b : Outermost) (names : List (List ℕ)) : Type 0 where
  pub marks : List Mark
  pub state : CasesState
  pub lexed : Lexes text marks names rest
  pub ran : run_cases no_cases marks ≡ Some state
  pub agrees : StandsFor b state
  pub distinct : are_distinct names ≡ true

pub reading_init : (text : List ℕ) (b : Outermost) → StandsFor b no_cases → Reading text text b []
reading_init text b a = record { marks = []; state = no_cases; lexed = stop; ran = refl; agrees = a; distinct = refl }

runs_on : (ms : List Mark) (s : CasesState) (m : Mark) → run_cases no_cases ms ≡ Some s
    → run_cases no_cases (ms ++ m ∷ []) ≡ advance_case s m
runs_on ms s m e =
    run_cases_append ms (m ∷ []) no_cases ∙ (ap (option_and_then (λ u. run_cases u (m ∷ []))) e ∙ by (advance_case s m))
  where
    by : (o : Option CasesState) → option_and_then (λ u. run_cases u []) o ≡ o
    by None = refl
    by (Some u) = refl

pub reading_on : (text rest after : List ℕ) (b b' : Outermost) (m : Mark) (old new : List (List ℕ)) → Reading text rest b old
    → Takes rest m after old new
    → ((s : CasesState) → StandsFor b s → (u : CasesState) × (advance_case s m ≡ Some u) × StandsFor b' u) → Reading text after b' new
reading_on text rest after b b' m old new r t takes =
    let k = takes r.state r.agrees in
    record {
      marks = r.marks ++ m ∷ [];
      state = k.0;
      lexed = subst (λ us. Lexes text (r.marks ++ m ∷ []) us after) (sym t.2) (lexes_push r.lexed t.1);
      ran = runs_on r.marks r.state m r.ran ∙ k.1;
      agrees = k.2;
      distinct = t.3 r.distinct;
    }

pub reading_end : (text rest : List ℕ) (b : Outermost) (n : List CaseTree) (names : List (List ℕ)) → Reading text rest b names → rest ≡ []
    → ((s : CasesState) → StandsFor b s
    → (is_closed s ≡ true) × CasesMean n (s.cases ++ case_in s ∷ []) × AreSmallCases (s.cases ++ case_in s ∷ []))
    → (p : Pattern) × IsText text p × IsSmall p × CasesMean n (p.before ++ p.last ∷ [])
reading_end text rest b n names r e whole =
    let w = whole r.state r.agrees in
    let same = pattern_sound r.marks r.state r.ran w.0 in (
      pattern_in r.state,
      record {
        names = names;
        spelled = subst (λ ms. Spelled text ms names) (sym same) (lexes_spelled r.lexed e);
        distinct = r.distinct;
      },
      w.2,
      w.1,
    )

-- ---- refusals

left_of : {text rest : List ℕ} {b : Outermost} {names : List (List ℕ)} (r : Reading text rest b names) (p : Pattern) (t : IsText text p)
    → Rest (pattern_marks p) r.marks t.names names rest
left_of r p t = lexes_unique (pattern_marks p) t.names r.lexed (spelled_lexes t.spelled)

-- no mark is at the place, or its name is not distinct from those before it
no_front : (text rest : List ℕ) (b : Outermost) (names : List (List ℕ)) → Reading text rest b names → 0 < length rest
    → ((m : Mark) (ns : List (List ℕ)) (ys : List ℕ) → next_front rest ≡ Some (m, (ns, ys)) → are_distinct (names ++ ns) ≡ false)
    → IsNone text
no_front text rest b names r l e p t =
    let left = left_of r p t in
    by left.left left.lexed refl (ap are_distinct (sym left.names) ∙ t.distinct)
  where
    by : {vs : List Mark} {zs : List ℕ} (ns : List (List ℕ)) → Lexes rest vs ns zs → zs ≡ [] → are_distinct (names ++ ns) ≡ true → ⊥
    by ns stop f d = let none : length rest ≡ 0 = ap length f in absurd (omega arith)
    by ns (go {ys = ys} {m = m} {ns = us} {us = ws} g k) f d =
        let whole : are_distinct ((names ++ us) ++ ws) ≡ true = ap are_distinct (append_assoc names us ws) ∙ d in
        true≢false (sym (distinct_front (names ++ us) ws whole) ∙ e m us ys g)

-- the run of the marks of a pattern, from the mark at the place on
from_place : {text rest after : List ℕ} {b : Outermost} {names ns : List (List ℕ)} (m : Mark) (r : Reading text rest b names)
    → next_front rest ≡ Some (m, (ns, after)) → (p : Pattern) → IsText text p
    → (ns : List Mark) × (option_and_then (λ u. run_cases u ns) (advance_case r.state m) ≡ Some (pattern_complete p).last)
from_place m r e p t =
    let left = left_of r p t in
    let first = front_same left.rest left.left [] e left.lexed refl in
    let whole = pattern_complete p in
    let marks : pattern_marks p ≡ r.marks ++ m ∷ first.marks = left.split ∙ ap (λ vs. r.marks ++ vs) first.split in (
      first.marks,
      sym (run_cases_append r.marks (m ∷ first.marks) no_cases
          ∙ ap (option_and_then (λ u. run_cases u (m ∷ first.marks))) r.ran)
          ∙ (ap (run_cases no_cases) (sym marks) ∙ whole.runs),
    )

no_advance : (text rest after : List ℕ) (b : Outermost) (m : Mark) (names ns : List (List ℕ)) → Reading text rest b names
    → next_front rest ≡ Some (m, (ns, after)) → ((s : CasesState) → StandsFor b s → advance_case s m ≡ None) → IsNone text
no_advance text rest after b m names ns r e takes p t =
    let f = from_place m r e p t in
    none_some (sym (ap (option_and_then (λ u. run_cases u f.0)) (takes r.state r.agrees)) ∙ f.1)

no_end : (text rest : List ℕ) (b : Outermost) (names : List (List ℕ)) → Reading text rest b names → rest ≡ []
    → ((s : CasesState) → StandsFor b s → is_closed s ≡ false) → IsNone text
no_end text rest b names r e not_closed p t =
    let left = left_of r p t in
    let whole = pattern_complete p in
    let marks : pattern_marks p ≡ r.marks = left.split
    ∙ (ap (λ us. r.marks ++ us) (nothing_lexed left.lexed e) ∙ append-nil r.marks) in
    let same : whole.last ≡ r.state = some_same (sym whole.runs ∙ (ap (run_cases no_cases) marks ∙ r.ran)) in
    true≢false (sym whole.closed ∙ (ap is_closed same ∙ not_closed r.state r.agrees))

record Front (text : List ℕ) (marks : List Mark) (names : List (List ℕ)) (rest : List ℕ) : Type 0 where
  cs : List ℕ
  split : text ≡ cs ++ rest
  spelled : Spelled cs marks names

front_of : {xs zs : List ℕ} {ms : List Mark} {ns : List (List ℕ)} → Lexes xs ms ns zs → Front xs ms ns zs
front_of stop = record { cs = []; split = refl; spelled = is.none }
front_of (go {xs} {ys} {zs} {m} {ms} {ns} {us} e k) =
    let s = next_sound xs m ns ys e in
    let f = front_of k in
    record {
      cs = s.cs ++ f.cs;
      split = s.split ∙ (ap (λ ts. s.cs ++ ts) f.split ∙ sym (append_assoc s.cs f.cs zs));
      spelled = s.grows f.cs zs ms us f.split f.spelled;
    }

-- ---- what was read can be ended

abbrev at_levels : CasesState → Level → List Level → CasesState
at_levels s l ls = with_here s (with_state s.here (l, ls))

record Closes (s : CasesState) : Type 0 where
  marks : List Mark
  last : CasesState
  ran : run_cases s marks ≡ Some last
  closed : no_levels last.here.state.1 ≡ true

-- the groups that are open end, the innermost first
closes : (s : CasesState) (l : Level) (ls : List Level) → Closes (at_levels s l ls)
closes s l [] = record { marks = []; last = at_levels s l []; ran = refl; closed = refl }
closes s l (o ∷ ls) =
    let k = closes s (with_atom o (group (regexp_of l))) ls in
    record { marks = token closed ∷ k.marks; last = k.last; ran = k.ran; closed = k.closed }

record Completes (s : CasesState) : Type 0 where
  marks : List Mark
  last : CasesState
  ran : run_cases s marks ≡ Some last
  closed : is_closed last ≡ true

-- and so does the look-ahead
look_ends : (s : CasesState) (n : Bool) → no_levels s.here.state.1 ≡ true → s.inside ≡ Some n
    → run_cases s (token closed ∷ []) ≡ Some (closed_look s n)
look_ends s n l e =
    ap (option_and_then (λ u. run_cases u []))
    (cond-true (no_levels s.here.state.1 && is_last s.inside (token closed)) _ _
    (ap (λ b. b && is_last s.inside (token closed)) l ∙ ap (λ o. is_last o (token closed)) e)
    ∙ ap (λ o. let x : Option CasesState = Some (ended s o) in x) e)

completes : (s : CasesState) → Completes s
completes s = by k.last.inside refl
  where
    k : Closes s
    k = closes s s.here.state.0 s.here.state.1

    by : (o : Option Bool) → k.last.inside ≡ o → Completes s
    by None e = record {
      marks = k.marks;
      last = k.last;
      ran = k.ran;
      closed = ap (λ o. not (is_some o) && no_levels k.last.here.state.1) e ∙ k.closed;
    }
    by (Some n) e = record {
      marks = k.marks ++ token closed ∷ [];
      last = closed_look k.last n;
      ran = run_cases_append k.marks (token closed ∷ []) s
          ∙ (ap (option_and_then (λ u. run_cases u (token closed ∷ []))) k.ran ∙ look_ends k.last n k.closed e);
      closed = refl;
    }

grows_large : (text rest after : List ℕ) (b : Outermost) (m : Mark) (old new : List (List ℕ)) (r : Reading text rest b old)
    → Takes rest m after old new
    → ((s : CasesState) → StandsFor b s → (u : CasesState) × (advance_case s m ≡ Some u) × (size_limit < state_size u.here.state))
    → GrowsTooLarge text r.marks
grows_large text rest after b m old new r t takes =
    let k = takes r.state r.agrees in
    let marks = r.marks ++ m ∷ [] in
    let lexed : Lexes text marks new after = subst (λ us. Lexes text marks us after) (sym t.2) (lexes_push r.lexed t.1) in
    let front = front_of lexed in
    let ran : run_cases no_cases marks ≡ Some k.0 = runs_on r.marks r.state m r.ran ∙ k.1 in
    let c = completes k.0 in
    let on : (more : List Mark) → run_cases no_cases (marks ++ more) ≡ run_cases k.0 more =
    λ more. run_cases_append marks more no_cases ∙ ap (option_and_then (λ u. run_cases u more)) ran in
    record {
      mark = m;
      front = front.cs;
      after = after;
      names = new;
      split = front.split;
      spelled = front.spelled;
      distinct = t.3 r.distinct;
      begun = record {
        more = c.marks;
        pattern = pattern_in c.last;
        whole = pattern_sound (marks ++ c.marks) c.last (on c.marks ∙ c.ran) c.closed;
      };
      large = λ more p e small.
          let w = pattern_complete p in
          let runs : run_cases k.0 more ≡ Some w.last = sym (on more) ∙ (ap (run_cases no_cases) (sym e) ∙ w.runs) in
          let back = case_back r.state m k.0 k.1 r.agrees.here.bare r.agrees.proper.alone in
          let fine = run_fine more k.0 w.last runs back.bare back.alone (w.fine small) in
          absurd (omega (arith, k.2, fine.here.state));
    }

-- ---- how many groups are open

step_groups : (s : PartsState) (m : Mark) (u : PartsState) → advance_mark s m ≡ Some u
    → length s.state.1 + begins_one m ≡ length u.state.1 + ends_one m
step_groups s (look negated) u e = none_some e
step_groups s (token t) u e =
    elim (cond_cases (no_levels s.state.1 && is_bar t) _ _ u e) [
      | inl a ↦
          let both = and_parts (no_levels s.state.1) (is_bar t) a.0 in
          let none : length s.state.1 ≡ 0 = ap length (no_level_left s.state.1 both.0) in
          let same : 0 ≡ length u.state.1 = ap (λ v. length v.state.1) (some_same a.1) in
          let first : begins_group t ≡ 0 = ap begins_group (is_the_bar t both.1) in
          let last : ends_group t ≡ 0 = ap ends_group (is_the_bar t both.1) in
          omega arith
      | inr n ↦
          let m = map_cases (with_state s) (advance s.state t) u n.1 in
          subst (λ v. length s.state.1 + begins_group t ≡ length v.state.1 + ends_group t) m.2 (step_depth s.state t m.0 m.1)
    ]

-- a look-ahead counts as a group
abbrev one_open : Option Bool → ℕ
one_open None = 0
one_open (Some negated) = 1

abbrev open_groups : CasesState → ℕ
open_groups s = length s.here.state.1 + one_open s.inside

no_length : (s : PartsState) → no_levels s.state.1 ≡ true → length s.state.1 ≡ 0
no_length s n = ap length (no_level_left s.state.1 n)

ended_groups_same : (s : CasesState) (m : Mark) → no_levels s.here.state.1 ≡ true → is_last s.inside m ≡ true
    → open_groups s + begins_one m ≡ open_groups (ended s s.inside) + ends_one m
ended_groups_same s m n l = by s.inside refl l
  where
    by : (o : Option Bool) → s.inside ≡ o → is_last o m ≡ true
        → (length s.here.state.1 + one_open o) + begins_one m ≡ open_groups (ended s o) + ends_one m
    by None e k =
        let zero = no_length s.here n in
        let now : one_open None ≡ 0 = refl in
        let over : open_groups (ended s None) ≡ 0 = refl in
        let first : begins_one m ≡ 0 = ap begins_one (parting_bar m k) in
        let last : ends_one m ≡ 0 = ap ends_one (parting_bar m k) in
        omega arith
    by (Some x) e k =
        let zero = no_length s.here n in
        let now : one_open (Some x) ≡ 1 = refl in
        let over : open_groups (ended s (Some x)) ≡ 0 = refl in
        let first : begins_one m ≡ 0 = ap begins_one (closing_closed m k) in
        let last : ends_one m ≡ 1 = ap ends_one (closing_closed m k) in
        omega arith

case_groups : (s : CasesState) (m : Mark) (u : CasesState) → advance_case s m ≡ Some u
    → open_groups s + begins_one m ≡ open_groups u + ends_one m
case_groups s m u e = by (step_of s m u e)
  where
    by : Step s m u → open_groups s + begins_one m ≡ open_groups u + ends_one m
    by (opening x i k f) =
        let both = and_parts (not (is_some s.inside)) (is_before s.here (not (has_looks s.looks))) k in
        let out = before_closed s.here (not (has_looks s.looks)) both.1 in
        let zero : length s.here.state.1 ≡ 0 = ap length (no_level_left s.here.state.1 out) in
        let none : one_open s.inside ≡ 0 = ap one_open (none_of s.inside both.0) in
        let begun : begins_one m ≡ 1 = ap begins_one i in
        let over : ends_one m ≡ 0 = ap ends_one i in
        let same : 1 ≡ open_groups u = ap open_groups f in
        omega arith
    by (ending n l f) = subst (λ v. open_groups s + begins_one m ≡ open_groups v + ends_one m) f (ended_groups_same s m n l)
    by (going h l k f) =
        let one = step_groups s.here m h k in
        let same : length h.state.1 + one_open s.inside ≡ open_groups u = ap open_groups f in
        omega arith

run_groups : (ms : List Mark) (s u : CasesState) → run_cases s ms ≡ Some u
    → open_groups s + begun_groups ms ≡ open_groups u + ended_groups ms
run_groups [] s u e = ap (λ v. open_groups v + 0) (some_same e)
run_groups (m ∷ ms) s u e = by (advance_case s m) refl e (λ v g. run_groups ms v u g)
  where
    by : (o : Option CasesState) → advance_case s m ≡ o → option_and_then (λ v. run_cases v ms) o ≡ Some u
        → ((v : CasesState) → run_cases v ms ≡ Some u → open_groups v + begun_groups ms ≡ open_groups u + ended_groups ms)
        → open_groups s + (begins_one m + begun_groups ms) ≡ open_groups u + (ends_one m + ended_groups ms)
    by None f g rec = none_some g
    by (Some v) f g rec =
        let one = case_groups s m v f in
        let rest = rec v g in
        omega arith

too_deep : (text rest after : List ℕ) (b : Outermost) (m : Mark) (names ns : List (List ℕ)) (r : Reading text rest b names)
    → next_front rest ≡ Some (m, (ns, after))
    → m ≡ token opened → depth_limit ≤ length b.here.outer.items → OpensTooMany r.marks rest
too_deep text rest after b m names ns r e f h =
    let s = next_sound rest m ns after e in
    let w = s.begins f in
    let run = run_groups r.marks no_cases r.state r.ran in
    let len = outer_length b.here.outer.items r.state.here.state.1 r.agrees.here.agrees.2 in
    record { after = w.0 ++ after; begins = s.split ∙ ap (λ cs. cs ++ after) w.1; full = omega arith }

-- ---- what a kind of error says

pub says_no_mark : (text rest : List ℕ) (b : Outermost) (k : IRegexpErrorKind) (old new : List (List ℕ)) (r : Reading text rest b old)
    → 0 < length rest → TakesName rest old (Err k) new → Says text r.marks rest k
says_no_mark text rest b Invalid old new r l f = no_front text rest b old r l f
says_no_mark text rest b TooDeep old new r l f = absurd f
says_no_mark text rest b TooLarge old new r l f = inl f
says_no_mark text rest b OutOfMemory old new r l f = tt

pub says_no_take : (text rest after : List ℕ) (b b' : Outermost) (m : Mark) (k : IRegexpErrorKind) (old new : List (List ℕ))
    (r : Reading text rest b old) → Takes rest m after old new → TakesCase b m (Err k) b' → Says text r.marks rest k
says_no_take text rest after b b' m Invalid old new r t f = no_advance text rest after b m old t.0 r t.1 f
says_no_take text rest after b b' m TooDeep old new r t f = too_deep text rest after b m old t.0 r t.1 f.0 f.1
says_no_take text rest after b b' m TooLarge old new r t f = inr (grows_large text rest after b m old new r t f)
says_no_take text rest after b b' m OutOfMemory old new r t f = tt

pub says_no_end : (text rest : List ℕ) (b : Outermost) (k : IRegexpErrorKind) (names : List (List ℕ)) (r : Reading text rest b names)
    → rest ≡ [] → FinishesCases b (Err k) → Says text r.marks rest k
says_no_end text rest b Invalid names r e f = no_end text rest b names r e f
says_no_end text rest b TooDeep names r e f = absurd f
says_no_end text rest b TooLarge names r e f = absurd f
says_no_end text rest b OutOfMemory names r e f = tt

pub refused : (text rest : List ℕ) (b : Outermost) (e : IRegexpError) (names : List (List ℕ)) (r : Reading text rest b names)
    → e.place ≡ length text - length rest → Says text r.marks rest e.kind → Refused text e
refused text rest b e names r p says =
    let f = front_of r.lexed in
    let len : length text ≡ length (f.cs ++ rest) = ap length f.split in
    let sum = length-append f.cs rest in
    record {
      front = f.cs;
      marks = r.marks;
      names = names;
      rest = rest;
      split = f.split;
      placed = omega arith;
      spelled = f.spelled;
      says = says;
    }

-- ---- a text is one pattern

pub one_pattern : (text : List ℕ) (p q : Pattern) → IsText text p → IsText text q → p ≡ q
one_pattern text p q s t =
    let r = lexes_unique (pattern_marks p) s.names (spelled_lexes t.spelled) (spelled_lexes s.spelled) in
    let marks : pattern_marks p ≡ pattern_marks q = r.split
    ∙ (ap (λ us. pattern_marks q ++ us) (nothing_lexed r.lexed refl) ∙ append-nil (pattern_marks q)) in
    let a = pattern_complete p in
    let b = pattern_complete q in
    let same : a.last ≡ b.last = some_same (sym a.runs ∙ (ap (run_cases no_cases) marks ∙ b.runs)) in
    sym a.whole ∙ (ap pattern_in same ∙ b.whole)

-- ---- the errors of patterns

-- nothing was read
pub refused_at_once : (text : List ℕ) (e : SchemaPatternError) → e.kind ≡ reason.OutOfMemory → e.place ≡ 0 → IsRefused text e
refused_at_once text e k p = record {
  front = [];
  marks = [];
  names = [];
  rest = text;
  split = refl;
  placed = p;
  spelled = is.none;
  says = subst (SaysOf text [] text) (sym k) tt;
}

pub refused_place : (text : List ℕ) (e : IRegexpError) → Refused text e → e.place ≤ length text
refused_place text e r =
    let len : length text ≡ length (r.front ++ r.rest) = ap length r.split in
    let sum = length-append r.front r.rest in
    let place = r.placed in
    omega arith

says_of : (text : List ℕ) (marks : List Mark) (rest : List ℕ) (k : IRegexpErrorKind) → Says text marks rest k
    → SaysOf text marks rest (kind_at rest k)
says_of text marks rest Invalid s = by (is_outside rest) refl
  where
    by : (b : Bool) → is_outside rest ≡ b → SaysOf text marks rest (cond b reason.Outside reason.Invalid)
    by true e = (s, e)
    by false e = s
says_of text marks rest TooDeep s = s
says_of text marks rest TooLarge s = s
says_of text marks rest OutOfMemory s = tt

drop_front : (xs ys : List ℕ) → drop (length xs) (xs ++ ys) ≡ ys
drop_front [] ys = refl
drop_front (x ∷ xs) ys = drop_front xs ys

take_whole : (xs : List ℕ) → take (length xs) xs ≡ xs
take_whole [] = refl
take_whole (x ∷ xs) = ap (λ ys. x ∷ ys) (take_whole xs)

pub refusal_of : (text left : List ℕ) (e : IRegexpError) (f : SchemaPatternError) → Refused text e
    → left ≡ take (length text - e.place) (drop e.place text)
    → f.place ≡ e.place → f.kind ≡ kind_at left e.kind → IsRefused text f
refusal_of text left e f r l p k =
    let dropped : drop e.place text ≡ r.rest =
    ap (λ n. drop n text) r.placed ∙ (ap (drop (length r.front)) r.split ∙ drop_front r.front r.rest) in
    let len : length text ≡ length (r.front ++ r.rest) = ap length r.split in
    let sum = length-append r.front r.rest in
    let place = r.placed in
    let count : length text - e.place ≡ length r.rest = omega arith in
    let rest : left ≡ r.rest = l ∙ (ap (take (length text - e.place)) dropped
    ∙ (ap (λ n. take n r.rest) count ∙ take_whole r.rest)) in
    record {
      front = r.front;
      marks = r.marks;
      names = r.names;
      rest = r.rest;
      split = r.split;
      placed = p ∙ r.placed;
      spelled = r.spelled;
      says = subst (SaysOf text r.marks r.rest) (sym (k ∙ ap (λ xs. kind_at xs e.kind) rest)) (says_of text r.marks r.rest e.kind r.says);
    }
