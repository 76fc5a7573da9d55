-- The machine takes the marks of branches, and no others, to the branches.
use Rattle.std.proofs.Common.{◌≡◌, inl, inr, ℕ, ◌≤◌, Bool, true, false, ◌&&◌, List, [], ◌∷◌, ◌++◌, map}
use Rattle.std.proofs.Common.{Option, Some, None, option_map, refl, sym, ap, ◌∙◌, subst, arith, append_assoc, append-nil, true≢false}
use Rattle.std.proofs.lemmas.Bool.{cond-false, and_parts}
use Rattle.std.proofs.lemmas.List.{map-append}
use Rattle.std.specs.Prelude.{option_and_then}
use Rattle.text_iregexp.specs.Grammar as regexp
use Rattle.text_regexp.specs.declared.assertion.Assertion.{Assertion}
use Rattle.text_iregexp.specs.Grammar.{Token, characters, opened, closed, bar, quantifier, asserted, last, branches, Branch, Piece, Atom}
use Rattle.text_iregexp.specs.Grammar.{branch_tokens}
use Rattle.text_iregexp.specs.Levels.{Level, level, State, fresh, with_atom, regexp_of, quantified, in_state, advance, run, state_size}
use Rattle.text_iregexp.specs.Levels.{level_size, outer_size, with_assertion}
use Rattle.text_iregexp.specs.Limits.{size_limit, branch_size}
use Rattle.text_iregexp.specs.Patterns.{Mark, look, token, Disjunction, branch_marks, barred_marks}
use Rattle.text_iregexp.specs.Patterns.{disjunction_marks, AreSmall}
use Rattle.text_iregexp.specs.PatternMachine.{PartsState, initial, no_levels, is_bar, branch_in, part_in, disjunction_in}
use Rattle.text_iregexp.specs.PatternMachine.{next_part, with_state, advance_mark, run_marks, no_done, is_bare}
use Rattle.text_iregexp.proofs.Lexing.{cond_cases, map_cases, none_some, some_same}
use Rattle.text_iregexp.proofs.Machine.{machine_sound, machine_complete}
use Rattle.text_iregexp.proofs.Reading.{run_append}
use Rattle.text_iregexp.proofs.Sizes.{regexp_of_size, run_grows}

-- ---- no branch ends outside of groups

bare_same : (bs : List Branch) (ps qs : List Piece) (a b : Option Atom) (ls : List Level)
    → is_bare (level bs ps a) ls ≡ is_bare (level bs qs b) ls
bare_same [] ps qs a b [] = refl
bare_same (c ∷ bs) ps qs a b [] = refl
bare_same bs ps qs a b (o ∷ ls) = refl

bare_put : (l : Level) (a : Atom) (ls : List Level) → is_bare (with_atom l a) ls ≡ is_bare l ls
bare_put (level bs ps e) a ls = bare_same bs _ _ _ _ ls

bare_quantified : (l k : Level) (least : ℕ) (most : Option ℕ) (ls : List Level) → quantified l least most ≡ Some k
    → is_bare k ls ≡ is_bare l ls
bare_quantified (level bs ps None) k least most ls e = none_some e
bare_quantified (level bs ps (Some a)) k least most ls e = ap (λ x. is_bare x ls) (sym (some_same e)) ∙ bare_same bs _ _ _ _ ls

bare_asserted : (l : Level) (kind : Assertion) (ls : List Level) → is_bare (with_assertion l kind) ls ≡ is_bare l ls
bare_asserted (level bs ps e) kind ls = bare_same bs _ _ _ _ ls

abbrev bare_in : State → Bool
bare_in s = is_bare s.0 s.1

pub advance_bare : (s : State) (t : Token) (u : State) → (no_levels s.1 && is_bar t) ≡ false → advance s t ≡ Some u
    → is_bare u.0 u.1 ≡ is_bare s.0 s.1
advance_bare (l, ls) (characters negated is) u h e = ap bare_in (sym (some_same e)) ∙ bare_put l (regexp.character negated is) ls
advance_bare (l, ls) opened u h e = ap bare_in (sym (some_same e))
advance_bare (l, []) closed u h e = none_some e
advance_bare (l, o ∷ ls) closed u h e = ap bare_in (sym (some_same e)) ∙ bare_put o (regexp.group (regexp_of l)) ls
advance_bare (l, []) bar u h e = absurd (true≢false h)
advance_bare (l, o ∷ ls) bar u h e = ap bare_in (sym (some_same e))
advance_bare (l, ls) (asserted kind) u h e = ap bare_in (sym (some_same e)) ∙ bare_asserted l kind ls
advance_bare (l, ls) (quantifier least most) u h e = by (quantified l least most) refl e
  where
    by : (o : Option Level) → quantified l least most ≡ o → in_state ls o ≡ Some u → is_bare u.0 u.1 ≡ is_bare l ls
    by None f g = none_some g
    by (Some k) f g = ap bare_in (sym (some_same g)) ∙ bare_quantified l k least most ls f

barred_done : (bs : List Branch) (b : Branch) (ps : List Piece) (z : Option Atom) → no_done (level (bs ++ b ∷ []) ps z) ≡ false
barred_done [] b ps z = refl
barred_done (c ∷ bs) b ps z = refl

bar_bare : (s u : State) → no_levels s.1 ≡ true → advance s bar ≡ Some u → is_bare u.0 u.1 ≡ false
bar_bare (level bs ps z, []) u h e = ap bare_in (sym (some_same e)) ∙ barred_done bs _ _ _
bar_bare (l, o ∷ ls) u h e = absurd (true≢false (sym h))

pub is_the_bar : (t : Token) → is_bar t ≡ true → t ≡ bar
is_the_bar (characters negated is) h = absurd (true≢false (sym h))
is_the_bar opened h = absurd (true≢false (sym h))
is_the_bar closed h = absurd (true≢false (sym h))
is_the_bar bar h = refl
is_the_bar (quantifier least most) h = absurd (true≢false (sym h))
is_the_bar (asserted kind) h = absurd (true≢false (sym h))

pub no_level_left : (ls : List Level) → no_levels ls ≡ true → ls ≡ []
no_level_left [] h = refl
no_level_left (l ∷ ls) h = absurd (true≢false (sym h))

-- the tokens of a branch that was read
bare_tokens : (l : Level) (ts : List Token) → no_done l ≡ true → run (fresh, []) ts ≡ Some (l, []) → branch_tokens (branch_in l) ≡ ts
bare_tokens (level [] ps z) ts h e = machine_sound ts (level [] ps z) e
bare_tokens (level (b ∷ bs) ps z) ts h e = absurd (true≢false (sym h))

-- ---- what was read is the marks

pub record Shape (s : PartsState) (ms : List Mark) : Type 0 where
  pub tokens : List Token
  pub ran : run (fresh, []) tokens ≡ Some s.state
  pub marks : ms ≡ barred_marks s.parts ++ map token tokens
  pub bare : is_bare s.state.0 s.state.1 ≡ true

shape_initial : (fixed : Bool) → Shape (initial fixed) []
shape_initial fixed = record { tokens = []; ran = refl; marks = refl; bare = refl }

barred_push : (qs : List Branch) (q : Branch) → barred_marks (qs ++ q ∷ []) ≡ barred_marks qs ++ (branch_marks q ++ token bar ∷ [])
barred_push [] q = refl
barred_push (r ∷ qs) q = ap (λ ms. branch_marks r ++ token bar ∷ ms) (barred_push qs q)
    ∙ sym (append_assoc (branch_marks r) (token bar ∷ barred_marks qs) (branch_marks q ++ token bar ∷ []))

regroup_next : (a b : List Mark) (m : Mark) → (a ++ b) ++ m ∷ [] ≡ (a ++ (b ++ m ∷ [])) ++ []
regroup_next a b m = simp append_assoc

-- the tokens of the last branch, where no group is open
pub last_tokens : (s : PartsState) (ts : List Token) → run (fresh, []) ts ≡ Some s.state → is_bare s.state.0 s.state.1 ≡ true
    → no_levels s.state.1 ≡ true → branch_tokens (part_in s) ≡ ts
last_tokens s ts ran b n =
    let none = no_level_left s.state.1 n in
    let bare : no_done s.state.0 ≡ true = sym (ap (λ ls. is_bare s.state.0 ls) none) ∙ b in
    bare_tokens s.state.0 ts bare (ran ∙ ap (λ ls. let o : Option State = Some (s.state.0, ls) in o) none)

shape_next : (s : PartsState) (ms : List Mark) → Shape s ms → no_levels s.state.1 ≡ true → Shape (next_part s) (ms ++ token bar ∷ [])
shape_next s ms h n =
    record {
      tokens = [];
      ran = refl;
      marks = ap (λ ns. ns ++ token bar ∷ []) (h.marks
          ∙ ap (λ us. barred_marks s.parts ++ map token us) (sym (last_tokens s h.tokens h.ran h.bare n)))
          ∙ (regroup_next (barred_marks s.parts) (branch_marks (part_in s)) (token bar)
          ∙ ap (λ ns. ns ++ []) (sym (barred_push s.parts (part_in s))));
      bare = refl;
    }

regroup_token : (a : List Mark) (ts : List Token) (t : Token) → (a ++ map token ts) ++ token t ∷ [] ≡ a ++ map token (ts ++ t ∷ [])
regroup_token a ts t = append_assoc a (map token ts) (token t ∷ []) ∙ ap (λ c. a ++ c) (sym (map-append token ts (t ∷ [])))

shape_token : (s : PartsState) (t : Token) (u : PartsState) (ms : List Mark) → Shape s ms → advance_mark s (token t) ≡ Some u
    → Shape u (ms ++ token t ∷ [])
shape_token s t u ms h e =
    elim (cond_cases (no_levels s.state.1 && is_bar t) _ _ u e) [
      | inl a ↦
          let both = and_parts (no_levels s.state.1) (is_bar t) a.0 in
          subst (λ v. Shape v (ms ++ token t ∷ [])) (some_same a.1)
          (subst (λ x. Shape (next_part s) (ms ++ token x ∷ [])) (sym (is_the_bar t both.1)) (shape_next s ms h both.0))
      | inr n ↦
          let m = map_cases (with_state s) (advance s.state t) u n.1 in
          subst (λ v. Shape v (ms ++ token t ∷ [])) m.2 (record {
            tokens = h.tokens ++ t ∷ [];
            ran = run_append h.tokens (t ∷ []) (fresh, [])
                ∙ (ap (option_and_then (λ v. run v (t ∷ []))) h.ran ∙ ap (option_and_then (λ v. run v [])) m.1);
            marks = ap (λ ns. ns ++ token t ∷ []) h.marks ∙ regroup_token (barred_marks s.parts) h.tokens t;
            bare = advance_bare s.state t m.0 n.0 m.1 ∙ h.bare;
          })
    ]

shape_step : (s : PartsState) (m : Mark) (u : PartsState) (ms : List Mark) → Shape s ms → advance_mark s m ≡ Some u
    → Shape u (ms ++ m ∷ [])
shape_step s (look negated) u ms h e = none_some e
shape_step s (token t) u ms h e = shape_token s t u ms h e

shape_run : (ms ns : List Mark) (s u : PartsState) → Shape s ns → run_marks s ms ≡ Some u → Shape u (ns ++ ms)
shape_run [] ns s u h e = subst (λ v. Shape v (ns ++ [])) (some_same e) (subst (Shape s) (sym (append-nil ns)) h)
shape_run (m ∷ ms) ns s u h e = by (advance_mark s m) refl e (λ v k g. shape_run ms (ns ++ m ∷ []) v u k g)
  where
    by : (o : Option PartsState) → advance_mark s m ≡ o → option_and_then (λ v. run_marks v ms) o ≡ Some u
        → ((v : PartsState) → Shape v (ns ++ m ∷ []) → run_marks v ms ≡ Some u → Shape u ((ns ++ m ∷ []) ++ ms)) → Shape u (ns ++ m ∷ ms)
    by None f g rec = none_some g
    by (Some v) f g rec = subst (Shape u) (append_assoc ns (m ∷ []) ms) (rec v (shape_step s m v ns h f) g)

pub shaped : (fixed : Bool) (ms : List Mark) (u : PartsState) → run_marks (initial fixed) ms ≡ Some u → Shape u ms
shaped fixed ms u e = shape_run ms [] (initial fixed) u (shape_initial fixed) e

pub disjunction_sound : (fixed : Bool) (ms : List Mark) (s : PartsState) → run_marks (initial fixed) ms ≡ Some s
    → no_levels s.state.1 ≡ true → disjunction_marks (disjunction_in s) ≡ ms
disjunction_sound fixed ms s e n =
    let h = shaped fixed ms s e in
    ap (λ us. barred_marks s.parts ++ map token us) (last_tokens s h.tokens h.ran h.bare n) ∙ sym h.marks

-- ---- all branches are taken

pub run_marks_append : (ms ns : List Mark) (s : PartsState)
    → run_marks s (ms ++ ns) ≡ option_and_then (λ u. run_marks u ns) (run_marks s ms)
run_marks_append [] ns s = refl
run_marks_append (m ∷ ms) ns s = by (advance_mark s m) (λ u. run_marks_append ms ns u)
  where
    by : (o : Option PartsState)
        → ((u : PartsState) → run_marks u (ms ++ ns) ≡ option_and_then (λ v. run_marks v ns) (run_marks u ms))
        → option_and_then (λ u. run_marks u (ms ++ ns)) o
        ≡ option_and_then (λ v. run_marks v ns) (option_and_then (λ u. run_marks u ms) o)
    by None h = refl
    by (Some u) h = h u

record RunsBranch (s : PartsState) (ts : List Token) (l : Level) (rest : List Mark) : Type 0 where
  runs : run_marks s (map token ts ++ rest) ≡ run_marks (with_state s (l, [])) rest
  bare : is_bare s.state.0 s.state.1 ≡ true

pub open_token : (s : PartsState) (t : Token) (v : State) → (no_levels s.state.1 && is_bar t) ≡ false
    → advance s.state t ≡ Some v → advance_mark s (token t) ≡ Some (with_state s v)
open_token s t v h e = cond-false (no_levels s.state.1 && is_bar t) _ _ h ∙ ap (option_map (with_state s)) e

runs_branch : (ts : List Token) (s : PartsState) (l : Level) (rest : List Mark) → run s.state ts ≡ Some (l, [])
    → no_done l ≡ true → RunsBranch s ts l rest
runs_branch [] s l rest e h =
    let same : s.state ≡ (l, []) = some_same e in
    record { runs = ap (λ v. run_marks (with_state s v) rest) same; bare = ap bare_in same ∙ h }
runs_branch (t ∷ ts) s l rest e h = by (advance s.state t) refl e (λ v g. runs_branch ts (with_state s v) l rest g h)
  where
    with_bar : (v : State) → advance s.state t ≡ Some v → RunsBranch (with_state s v) ts l rest
        → (b : Bool) → (no_levels s.state.1 && is_bar t) ≡ b → RunsBranch s (t ∷ ts) l rest
    with_bar v f r true k =
        let both = and_parts (no_levels s.state.1) (is_bar t) k in
        let not_bare = bar_bare s.state v both.0 (ap (advance s.state) (sym (is_the_bar t both.1)) ∙ f) in
        absurd (true≢false (sym r.bare ∙ not_bare))
    with_bar v f r false k =
        record {
          runs = ap (option_and_then (λ u. run_marks u (map token ts ++ rest))) (open_token s t v k f) ∙ r.runs;
          bare = sym (advance_bare s.state t v k f) ∙ r.bare;
        }

    by : (x : Option State) → advance s.state t ≡ x → option_and_then (λ v. run v ts) x ≡ Some (l, [])
        → ((v : State) → run v ts ≡ Some (l, []) → RunsBranch (with_state s v) ts l rest) → RunsBranch s (t ∷ ts) l rest
    by None f g rec = none_some g
    by (Some v) f g rec = with_bar v f (rec v g) (no_levels s.state.1 && is_bar t) refl

last_bare : (l : Level) (b : Branch) → regexp_of l ≡ last b → (no_done l ≡ true) × (branch_in l ≡ b)
last_bare (level [] ps z) b e = (refl, cc)
last_bare (level (c ∷ bs) ps z) b e = absurd (let no : branches c _ ≡ last b = e in cc)

abbrev part_end : Bool → List Branch → Level → PartsState
part_end fixed qs l = record { fixed = fixed; parts = qs; state = (l, []) }

abbrev part_begin : Bool → List Branch → PartsState
part_begin fixed qs = part_end fixed qs fresh

record RunsPart (fixed : Bool) (qs : List Branch) (q : Branch) (rest : List Mark) : Type 0 where
  end_level : Level
  runs : run_marks (part_begin fixed qs) (branch_marks q ++ rest) ≡ run_marks (part_end fixed qs end_level) rest
  bare : no_done end_level ≡ true
  branch : branch_in end_level ≡ q

runs_part : (fixed : Bool) (qs : List Branch) (q : Branch) (rest : List Mark) → RunsPart fixed qs q rest
runs_part fixed qs q rest =
    let k = machine_complete (last q) in
    let b = last_bare k.0 q k.2 in
    record {
      end_level = k.0;
      runs = (runs_branch (branch_tokens q) (part_begin fixed qs) k.0 rest k.1 b.0).runs;
      bare = b.0;
      branch = b.1;
    }

runs_bar : (fixed : Bool) (qs : List Branch) (q : Branch) (l : Level) → branch_in l ≡ q
    → advance_mark (part_end fixed qs l) (token bar) ≡ Some (part_begin fixed (qs ++ q ∷ []))
runs_bar fixed qs q l e = ap (λ b. let o : Option PartsState = Some (part_begin fixed (qs ++ b ∷ [])) in o) e

runs_parts : (fixed : Bool) (qs done : List Branch) (rest : List Mark)
    → run_marks (part_begin fixed done) (barred_marks qs ++ rest) ≡ run_marks (part_begin fixed (done ++ qs)) rest
runs_parts fixed [] done rest = ap (λ ps. run_marks (part_begin fixed ps) rest) (sym (append-nil done))
runs_parts fixed (q ∷ qs) done rest =
    let r = runs_part fixed done q (token bar ∷ (barred_marks qs ++ rest)) in
    ap (run_marks (part_begin fixed done)) (append_assoc (branch_marks q) (token bar ∷ barred_marks qs) rest)
    ∙ (r.runs
    ∙ (ap (option_and_then (λ u. run_marks u (barred_marks qs ++ rest))) (runs_bar fixed done q r.end_level r.branch)
    ∙ (runs_parts fixed qs (done ++ q ∷ []) rest
    ∙ ap (λ ps. run_marks (part_begin fixed ps) rest) (append_assoc done (q ∷ []) qs))))

pub record RunsDisjunction (fixed : Bool) (p : Disjunction) : Type 0 where
  pub last : PartsState
  pub runs : run_marks (initial fixed) (disjunction_marks p) ≡ Some last
  pub whole : disjunction_in last ≡ p
  pub closed : no_levels last.state.1 ≡ true
  pub bare : no_done last.state.0 ≡ true

-- the marks of all branches lead to a state with no group open
pub disjunction_complete : (fixed : Bool) (p : Disjunction) → RunsDisjunction fixed p
disjunction_complete fixed p =
    let r = runs_part fixed p.before p.last [] in
    record {
      last = part_end fixed p.before r.end_level;
      runs = runs_parts fixed p.before [] (branch_marks p.last)
          ∙ (ap (run_marks (part_begin fixed p.before)) (sym (append-nil (branch_marks p.last))) ∙ r.runs);
      whole = ap (λ b. let d : Disjunction = record { before = p.before; last = b } in d) r.branch;
      closed = refl;
      bare = r.bare;
    }

-- ---- how large it is

pub record Fine (s : PartsState) : Type 0 where
  pub parts : AreSmall s.parts
  pub state : state_size s.state ≤ size_limit

pub small_append : (qs : List Branch) (q : Branch) → AreSmall qs → branch_size q ≤ size_limit → AreSmall (qs ++ q ∷ [])
small_append [] q a b = (b, tt)
small_append (r ∷ qs) q a b = (a.0, small_append qs q a.1 b)

pub small_split : (qs : List Branch) (q : Branch) → AreSmall (qs ++ q ∷ []) → AreSmall qs × (branch_size q ≤ size_limit)
small_split [] q a = (tt, a.0)
small_split (r ∷ qs) q a = let s = small_split qs q a.1 in ((a.0, s.0), s.1)

pub branch_in_size : (l : Level) → no_done l ≡ true → branch_size (branch_in l) ≡ level_size l
branch_in_size (level [] ps z) h = regexp_of_size (level [] ps z)
branch_in_size (level (b ∷ bs) ps z) h = absurd (true≢false (sym h))

pub fine_part : (s : PartsState) → no_levels s.state.1 ≡ true → is_bare s.state.0 s.state.1 ≡ true → AreSmall (s.parts ++ part_in s ∷ [])
    → Fine s
fine_part s n b a =
    let none = no_level_left s.state.1 n in
    let bare : no_done s.state.0 ≡ true = sym (ap (λ ls. is_bare s.state.0 ls) none) ∙ b in
    let small = small_split s.parts (part_in s) a in
    let size = branch_in_size s.state.0 bare in
    let zero : outer_size s.state.1 ≡ 0 = ap outer_size none in
    record { parts = small.0; state = omega (arith, small.1) }

pub record Back (s u : PartsState) : Type 0 where
  pub bare : is_bare u.state.0 u.state.1 ≡ true
  pub fine : Fine u → Fine s

pub step_back : (s : PartsState) (m : Mark) (u : PartsState) → advance_mark s m ≡ Some u → is_bare s.state.0 s.state.1 ≡ true → Back s u
step_back s (look negated) u e b = none_some e
step_back s (token t) u e b =
    elim (cond_cases (no_levels s.state.1 && is_bar t) _ _ u e) [
      | inl a ↦
          let both = and_parts (no_levels s.state.1) (is_bar t) a.0 in
          subst (Back s) (some_same a.1) (record { bare = refl; fine = λ f. fine_part s both.0 b f.parts })
      | inr n ↦
          let m = map_cases (with_state s) (advance s.state t) u n.1 in
          let grows = run_grows (t ∷ []) s.state m.0 (ap (option_and_then (λ v. run v [])) m.1) in
          subst (Back s) m.2 (record {
            bare = advance_bare s.state t m.0 n.0 m.1 ∙ b;
            fine = λ f. record { parts = f.parts; state = omega (arith, grows, f.state) };
          })
    ]

pub run_fine : (ms : List Mark) (s u : PartsState) → run_marks s ms ≡ Some u → is_bare s.state.0 s.state.1 ≡ true → Fine u → Fine s
run_fine [] s u e b f = subst Fine (sym (some_same e)) f
run_fine (m ∷ ms) s u e b f = by (advance_mark s m) refl e (λ v h k. run_fine ms v u h k f)
  where
    by : (o : Option PartsState) → advance_mark s m ≡ o → option_and_then (λ v. run_marks v ms) o ≡ Some u
        → ((v : PartsState) → run_marks v ms ≡ Some u → is_bare v.state.0 v.state.1 ≡ true → Fine v) → Fine s
    by None g h rec = none_some h
    by (Some v) g h rec = let k = step_back s m v g b in k.fine (rec v h k.bare)
