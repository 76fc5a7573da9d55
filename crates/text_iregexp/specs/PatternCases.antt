-- The machine that parses the marks of a pattern; for private contracts.
use Rattle.std.specs.Prelude.{◌≡◌, ◌≤◌, ◌<◌, Bool, true, false, not, ◌&&◌, cond, List, [], ◌∷◌, ◌++◌, length, map, Option, Some, None}
use Rattle.std.specs.Prelude.{is_some, option_map, option_and_then, Result, Ok, Err}
use Rattle.std.specs.declared.alloc.Global.{Global}
use Rattle.std.specs.declared.vec.Vec.{Vec}
use Rattle.text_iregexp.specs.declared.cases.Look.{Look as LookTree}
use Rattle.text_iregexp.specs.declared.cases.Case.{Case as CaseTree}
use Rattle.text_iregexp.specs.declared.error.IRegexpErrorKind.{IRegexpErrorKind}
use Rattle.text_iregexp.specs.declared.error.IRegexpErrorKind.TheVariants as kind
use Rattle.text_iregexp.specs.declared.outermost.Outermost.{Outermost}
use Rattle.text_regexp.specs.Automaton.{expression_of}
use Rattle.text_regexp.specs.Building.{choice}
use Rattle.text_regexp.specs.Forms.{Form}
use Rattle.text_iregexp.specs.Grammar.{Token, opened, closed}
use Rattle.text_iregexp.specs.Levels.{state_size}
use Rattle.text_iregexp.specs.Limits.{depth_limit, size_limit}
use Rattle.text_iregexp.specs.Patterns.{Mark, token, look, Look, Case, Pattern, has_looks, AreSmallLooks, AreSmallCases}
use Rattle.text_iregexp.specs.PatternMachine.{PartsState, initial, no_levels, is_before, is_bar, part_in, disjunction_in, advance_mark}
use Rattle.text_iregexp.specs.PatternMachine.{form_at, disjunction_form, MeansWhole, AgreesAt}
use Rattle.text_iregexp.specs.PatternTexts.{unless_form, guarded}

-- The outermost branches that have ended, the look-aheads of the last one, whether the open
-- look-ahead is negated, and what was parsed of the rest or of that.
pub record CasesState : Type 0 where
  pub cases : List Case
  pub looks : List Look
  pub inside : Option Bool
  pub here : PartsState

-- the state before the first mark
abbrev pub no_cases : CasesState
no_cases = record { cases = []; looks = []; inside = None; here = initial false }

-- no group or look-ahead is open
abbrev pub is_closed : CasesState → Bool
is_closed s = not (is_some s.inside) && no_levels s.here.state.1

-- the last branch, as if it ended here
abbrev pub case_in : CasesState → Case
case_in s = record { looks = s.looks; branch = part_in s.here }

-- the pattern, as if it ended here
abbrev pub pattern_in : CasesState → Pattern
pattern_in s = record { before = s.cases; last = case_in s }

abbrev pub opened_look : CasesState → Bool → CasesState
opened_look s negated = record { cases = s.cases; looks = s.looks; inside = Some negated; here = initial true }

-- the look-ahead, as if it ended here
abbrev pub look_in : CasesState → Bool → Look
look_in s negated = record { negated = negated; content = disjunction_in s.here }

abbrev pub closed_look : CasesState → Bool → CasesState
closed_look s negated = record { cases = s.cases; looks = s.looks ++ look_in s negated ∷ []; inside = None; here = initial true }

-- a branch has ended
abbrev pub next_case : CasesState → CasesState
next_case s = record { cases = s.cases ++ case_in s ∷ []; looks = []; inside = None; here = initial false }

abbrev pub with_here : CasesState → PartsState → CasesState
with_here s h = record { cases = s.cases; looks = s.looks; inside = s.inside; here = h }

abbrev pub is_parting : Mark → Bool
is_parting (look negated) = false
is_parting (token t) = is_bar t

abbrev pub is_close : Token → Bool
is_close closed = true
is_close t = false

abbrev pub is_closing : Mark → Bool
is_closing (look negated) = false
is_closing (token t) = is_close t

-- outside of groups the mark ends the open look-ahead or, if none is, the branch
abbrev pub is_last : Option Bool → Mark → Bool
is_last None m = is_parting m
is_last (Some negated) m = is_closing m

abbrev pub ended : CasesState → Option Bool → CasesState
ended s None = next_case s
ended s (Some negated) = closed_look s negated

-- a look-ahead may begin: of the branch were read a `^` and look-aheads
abbrev pub may_look : CasesState → Bool
may_look s = not (is_some s.inside) && is_before s.here (not (has_looks s.looks))

-- a mark is read that begins no look-ahead
abbrev pub advance_other : CasesState → Mark → Option CasesState
advance_other s m =
    cond (no_levels s.here.state.1 && is_last s.inside m) (Some (ended s s.inside)) (option_map (with_here s) (advance_mark s.here m))

-- a mark is read
abbrev pub advance_case : CasesState → Mark → Option CasesState
advance_case s (look negated) = cond (may_look s) (Some (opened_look s negated)) None
advance_case s (token t) = advance_other s (token t)

-- the marks are read, one after the other
abbrev pub run_cases : CasesState → List Mark → Option CasesState
run_cases s [] = Some s
run_cases s (m ∷ ms) = option_and_then (λ u. run_cases u ms) (advance_case s m)

-- ---- what is matched

abbrev pub look_form : Look → Form
look_form k = unless_form k.negated (disjunction_form true k.content)

abbrev pub case_form : Case → Form
case_form c = guarded (map look_form c.looks) (form_at (has_looks c.looks) c.branch)

abbrev pub pattern_form : Pattern → Form
pattern_form p = choice (map case_form (p.before ++ p.last ∷ []))

-- ---- the code

-- the trees match what the look-aheads and the branches match, one by one
pub record LookMeans (n : LookTree) (k : Look) : Type 0 where
  pub negated : n.negated ≡ k.negated
  pub root : MeansWhole n.root (disjunction_form true k.content)

abbrev pub LooksMean : List LookTree → List Look → Type 0
LooksMean [] [] = Unit {0}
LooksMean [] (k ∷ ks) = ⊥
LooksMean (n ∷ ns) [] = ⊥
LooksMean (n ∷ ns) (k ∷ ks) = LookMeans n k × LooksMean ns ks

pub record CaseMeans (n : CaseTree) (c : Case) : Type 0 where
  pub looks : LooksMean n.looks.items c.looks
  pub root : MeansWhole (expression_of n.root) (form_at (has_looks c.looks) c.branch)

abbrev pub CasesMean : List CaseTree → List Case → Type 0
CasesMean [] [] = Unit {0}
CasesMean [] (c ∷ cs) = ⊥
CasesMean (n ∷ ns) [] = ⊥
CasesMean (n ∷ ns) (c ∷ cs) = CaseMeans n c × CasesMean ns cs

-- what is known of each state: only in a look-ahead branches may have ended, and in and behind one
-- they match only at the beginning
pub record IsProper (s : CasesState) : Type 0 where
  pub alone : s.inside ≡ None → s.here.parts ≡ []
  pub within : is_some s.inside ≡ true → s.here.fixed ≡ true
  pub behind : is_some s.inside ≡ false → s.here.fixed ≡ has_looks s.looks

-- the code's state is that state
pub record StandsFor (b : Outermost) (s : CasesState) : Type 0 where
  pub cases : CasesMean b.cases.items s.cases
  pub looks : LooksMean b.looks.items s.looks
  pub inside : b.inside ≡ s.inside
  pub here : AgreesAt b.here s.here
  pub small_cases : AreSmallCases s.cases
  pub small_looks : AreSmallLooks s.looks
  pub proper : IsProper s

-- there is such a state, and one outside of groups
abbrev pub Stands : Outermost → Type 0
Stands b = (s : CasesState) × StandsFor b s

abbrev pub StandsOut : Outermost → Type 0
StandsOut b = (s : CasesState) × StandsFor b s × (no_levels s.here.state.1 ≡ true)

-- what a mark does to a state, by the given step
abbrev pub TakesBy : (CasesState → Option CasesState) → Outermost → Mark → Result (Unit {0}) IRegexpErrorKind → Outermost → Type 0
TakesBy step old m (Ok x) new =
    (s : CasesState) → StandsFor old s → (u : CasesState) × (step s ≡ Some u) × StandsFor new u
TakesBy step old m (Err kind.Invalid) new = (s : CasesState) → StandsFor old s → step s ≡ None
TakesBy step old m (Err kind.TooDeep) new = (m ≡ token opened) × (depth_limit ≤ length old.here.outer.items)
TakesBy step old m (Err kind.TooLarge) new =
    (s : CasesState) → StandsFor old s → (u : CasesState) × (step s ≡ Some u) × (size_limit < state_size u.here.state)
TakesBy step old m (Err kind.OutOfMemory) new = Unit {0}

abbrev pub TakesOther : Outermost → Mark → Result (Unit {0}) IRegexpErrorKind → Outermost → Type 0
TakesOther old m r new = TakesBy (λ s. advance_other s m) old m r new

abbrev pub TakesCase : Outermost → Mark → Result (Unit {0}) IRegexpErrorKind → Outermost → Type 0
TakesCase old m r new = TakesBy (λ s. advance_case s m) old m r new

-- the end of the text
abbrev pub FinishesCases : Outermost → Result (Vec CaseTree Global) IRegexpErrorKind → Type 0
FinishesCases old (Ok v) =
    (s : CasesState) → StandsFor old s
    → (is_closed s ≡ true) × CasesMean v.items (s.cases ++ case_in s ∷ []) × AreSmallCases (s.cases ++ case_in s ∷ [])
FinishesCases old (Err kind.Invalid) = (s : CasesState) → StandsFor old s → is_closed s ≡ false
FinishesCases old (Err kind.TooDeep) = ⊥
FinishesCases old (Err kind.TooLarge) = ⊥
FinishesCases old (Err kind.OutOfMemory) = Unit {0}

-- the mark begins no look-ahead
abbrev pub is_other : Mark → Bool
is_other (look negated) = false
is_other (token t) = true
