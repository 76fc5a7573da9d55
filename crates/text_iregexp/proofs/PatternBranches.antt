-- What the code's branches stand for, as marks are taken.
use Rattle.std.proofs.Common.{◌≡◌, ◌<◌, Bool, true, false, ◌&&◌, ◌||◌, ◌==◌, cond, List, [], ◌∷◌, ◌++◌, length, map}
use Rattle.std.proofs.Common.{ℕ, suc, Some, None, Result, Ok, Err, option_map, refl, sym, ap, ◌∙◌, subst, arith, true≢false}
use Rattle.std.proofs.lemmas.Bool.{cond-true, cond-false, eqb-true}
use Rattle.text_iregexp.specs.declared.branches.Branches.{Branches}
use Rattle.text_iregexp.specs.declared.reader.Level.{Level as CodeLevel}
use Rattle.text_iregexp.specs.declared.error.IRegexpErrorKind.{IRegexpErrorKind}
use Rattle.text_iregexp.specs.declared.error.IRegexpErrorKind.TheVariants.{Invalid, TooDeep, TooLarge, OutOfMemory}
use Rattle.text_regexp.specs.declared.expression.Expression.{Expression}
use Rattle.text_regexp.specs.Building.{Means, AllMean, form_of, choice}
use Rattle.text_regexp.specs.Forms.{Form, concat}
use Rattle.text_iregexp.specs.Grammar.{Token, regexp_form, branch_form}
use Rattle.text_iregexp.specs.Levels.{Level, level, State, fresh, regexp_of, advance, StandsAt, Takes}
use Rattle.text_iregexp.specs.Patterns.{token}
use Rattle.text_iregexp.specs.PatternMachine.{PartsState, initial, no_levels, is_blank, is_unread, is_single, is_bar, is_start_token}
use Rattle.text_iregexp.specs.PatternMachine.{is_end_token, starts_at, starts_in, ends_in, ends_at, is_before, branch_in, part_in}
use Rattle.text_iregexp.specs.PatternMachine.{next_part}
use Rattle.text_iregexp.specs.PatternMachine.{outermost as outer_level, with_state, advance_mark, no_done, is_bare, open_form, form_at}
use Rattle.text_iregexp.specs.PatternMachine.{AgreesAt, without_first, without_last, AllMeanWhole, TakesMark, EndsPart, Finishes}
use Rattle.text_iregexp.proofs.Levels.{outer_none}
use Rattle.text_iregexp.proofs.PatternCuts.{left_of, left_done, cut_agree, whole_as, all_whole_map_push, all_same, choice_agree}
use Rattle.text_iregexp.proofs.PatternEnds.{advance_starts, advance_ends}
use Rattle.text_iregexp.proofs.PatternMachine.{no_level_left, small_append, branch_in_size, advance_bare, open_token}
use Rattle.text_iregexp.proofs.Refusing.{outer_length}
use Rattle.text_iregexp.proofs.Sizes.{fresh_sized}

false_true : {P : Type 0} → false ≡ true → P
false_true h = absurd (true≢false (sym h))

-- ---- groups that are open

pub outermost : (b : Branches) (s : PartsState) → AgreesAt b s → b.outer.items ≡ [] → no_levels s.state.1 ≡ true
outermost b s a e = ap no_levels (outer_none b.outer.items s.state.1 e a.agrees.2)

pub not_outermost : (b : Branches) (s : PartsState) → AgreesAt b s → 0 < length b.outer.items → no_levels s.state.1 ≡ false
not_outermost b s a l = by s.state.1 (outer_length b.outer.items s.state.1 a.agrees.2)
  where
    by : (ls : List Level) → length b.outer.items ≡ length ls → no_levels ls ≡ false
    by [] e = absurd (omega arith)
    by (o ∷ ls) e = refl

-- ---- a branch

bare_form : (l : Level) → no_done l ≡ true → regexp_form (regexp_of l) ≡ branch_form (branch_in l)
bare_form (level [] ps z) h = refl
bare_form (level (b ∷ bs) ps z) h = false_true h

pub at_first : (b : Branches) (fixed : Bool) → b.fixed ≡ fixed → b.parts.items ≡ [] → b.starts ≡ false → b.ends ≡ false
    → StandsAt b.here fresh → b.here.size ≡ 0 → b.outer.items ≡ [] → AgreesAt b (initial fixed)
at_first b fixed f p s e h z o = record {
  fixed = f;
  starts = s;
  ends = e;
  parts = subst (λ ns. AllMeanWhole ns []) (sym p) tt;
  small = tt;
  agrees = (h, fresh_sized b.here [] z (omega arith), o);
  bare = refl;
}

-- the level after what it begins and ends with was cut off
pub level_cut : (old mid new : CodeLevel) (starts ends : Bool)
    → ((l : Level) → StandsAt old l → StandsAt mid (cond starts (without_first l) l))
    → ((l : Level) → StandsAt mid l → StandsAt new (cond ends (without_last l) l)) → (l : Level) → StandsAt old l
    → StandsAt new (left_of starts ends l)
level_cut old mid new starts ends first last l s = last (cond starts (without_first l) l) (first l s)

pub part_ended : (old : Branches) (mid : CodeLevel) (ps : List Expression) (n before behind inner part : Expression)
    → ((l : Level) → StandsAt old.here l → StandsAt mid (left_of old.starts old.ends l))
    → ((l : Level) → StandsAt mid l → Means n (regexp_form (regexp_of l))) → Means behind (open_form old.ends)
    → ((f g : Form) → Means n f → Means behind g → Means inner (concat f g)) → Means before (open_form (old.fixed || old.starts))
    → ((f g : Form) → Means before f → Means inner g → Means part (concat f g)) → ps ≡ old.parts.items ++ part ∷ []
    → EndsPart old ps
part_ended old mid ps n before behind inner part cut whole end_means first start_means second e s a h =
    let none = no_level_left s.state.1 h in
    let l = s.state.0 in
    let left = left_of old.starts old.ends l in
    let bare : no_done l ≡ true = sym (ap (λ ls. is_bare l ls) none) ∙ a.bare in
    let size = branch_in_size l bare in
    let few = a.agrees.1.few in
    let starts : old.starts ≡ starts_at l = a.starts ∙ ap (λ ls. starts_at (outer_level l ls)) none in
    let ends : old.ends ≡ ends_at l = a.ends ∙ ap (λ b. b && ends_at l) h in
    let branch : Means n (branch_form (branch_in left)) =
    subst (Means n) (bare_form left (left_done l old.starts old.ends bare)) (whole left (cut l a.agrees.0)) in
    let before_means : Means before (open_form (s.fixed || old.starts)) =
    subst (λ b. Means before (open_form (b || old.starts))) a.fixed start_means in
    let means = second (open_form (s.fixed || old.starts)) _ before_means (first (branch_form (branch_in left)) (open_form old.ends) branch
    end_means) in (
      all_whole_map_push (form_at s.fixed) old.parts.items ps part s.parts (part_in s) e a.parts
          (whole_as part (form_at s.fixed (part_in s)) _ (cut_agree s.fixed l old.starts old.ends bare starts ends) means),
      small_append s.parts (part_in s) a.small (omega arith),
    )

pub bar_taken : (old : Branches) (ps : List Expression) (new : Branches) → EndsPart old ps → new.fixed ≡ old.fixed → new.parts.items ≡ ps
    → new.starts ≡ false → new.ends ≡ false → StandsAt new.here fresh → new.here.size ≡ 0 → new.outer.items ≡ [] → (s : PartsState)
    → AgreesAt old s
    → no_levels s.state.1 ≡ true → AgreesAt new (next_part s)
bar_taken old ps new ended x p st en h z o s a n =
    let k = ended s a n in
    record {
      fixed = x ∙ a.fixed;
      starts = st;
      ends = en;
      parts = subst (λ ns. AllMeanWhole ns (map (form_at s.fixed) (s.parts ++ part_in s ∷ []))) (sym p) k.0;
      small = k.1;
      agrees = (h, fresh_sized new.here [] z (omega arith), o);
      bare = refl;
    }

-- ---- what was read of the last branch

not_zero : (n m : ℕ) → n ≡ suc m → (n == 0) ≡ false
not_zero n m e = by (n == 0) refl
  where
    by : (b : Bool) → (n == 0) ≡ b → (n == 0) ≡ false
    by true k = let zero = eqb-true n 0 k in absurd (omega arith)
    by false k = k

outer_is : (b : Branches) (s : PartsState) → AgreesAt b s → (length b.outer.items == 0) ≡ no_levels s.state.1
outer_is b s a = by s.state.1 (outer_length b.outer.items s.state.1 a.agrees.2)
  where
    by : (ls : List Level) → length b.outer.items ≡ length ls → (length b.outer.items == 0) ≡ no_levels ls
    by [] e = ap (λ n. n == 0) e
    by (o ∷ ls) e = not_zero (length b.outer.items) (length ls) e

pub out_is : (b : Branches) (s : PartsState) (x : Bool) → AgreesAt b s → x ≡ (length b.outer.items == 0) → x ≡ no_levels s.state.1
out_is b s x a e = e ∙ outer_is b s a

pub before_within : (b : Branches) (s : PartsState) (starts : Bool) → AgreesAt b s → 0 < length b.outer.items → false ≡ is_before s starts
before_within b s starts a l =
    ap (λ x. x && cond starts (starts_at s.state.0 && is_single s.state.0) (is_blank s.state.0)) (sym (not_outermost b s a l))

pub before_start : (b : Branches) (s : PartsState) (x : Bool) → AgreesAt b s → b.outer.items ≡ []
    → ((l : Level) → StandsAt b.here l → x ≡ is_single l) → (b.starts && x) ≡ is_before s true
before_start b s x a o h =
    let out = outermost b s a o in
    let none = no_level_left s.state.1 out in
    ap (λ c. c && x) (a.starts ∙ ap (λ ls. starts_at (outer_level s.state.0 ls)) none)
    ∙ (ap (λ c. starts_at s.state.0 && c) (h s.state.0 a.agrees.0)
    ∙ ap (λ c. c && (starts_at s.state.0 && is_single s.state.0)) (sym out))

pub before_blank : (b : Branches) (s : PartsState) (x : Bool) → AgreesAt b s → b.outer.items ≡ []
    → ((l : Level) → StandsAt b.here l → x ≡ is_blank l) → x ≡ is_before s false
before_blank b s x a o h =
    h s.state.0 a.agrees.0 ∙ ap (λ c. c && is_blank s.state.0) (sym (outermost b s a o))

-- ---- tokens

pub next_taken : (old new : Branches) (t : Token) → old.outer.items ≡ [] → is_bar t ≡ true
    → ((s : PartsState) → AgreesAt old s → no_levels s.state.1 ≡ true → AgreesAt new (next_part s)) → TakesMark old (token t) (Ok tt) new
next_taken old new t n h k s a =
    let none = outermost old s a n in
    (next_part s, cond-true (no_levels s.state.1 && is_bar t) _ _ (ap (λ b. b && is_bar t) none ∙ h), k s a none)

not_next : (old : Branches) (s : PartsState) (t : Token) → AgreesAt old s → ((length old.outer.items == 0) && is_bar t) ≡ false
    → (no_levels s.state.1 && is_bar t) ≡ false
not_next old s t a h = by s.state.1 (outer_length old.outer.items s.state.1 a.agrees.2)
  where
    by : (ls : List Level) → length old.outer.items ≡ length ls → (no_levels ls && is_bar t) ≡ false
    by [] e = sym (ap (λ n. (n == 0) && is_bar t) e) ∙ h
    by (o ∷ ls) e = refl

refused_token : (s : PartsState) (t : Token) → (no_levels s.state.1 && is_bar t) ≡ false → advance s.state t ≡ None
    → advance_mark s (token t) ≡ None
refused_token s t h e = cond-false (no_levels s.state.1 && is_bar t) _ _ h ∙ ap (option_map (with_state s)) e

starts_after : (old : Branches) (s : PartsState) (t : Token) (u : State) (blank out is x : Bool) → AgreesAt old s
    → blank ≡ is_blank s.state.0 → out ≡ no_levels s.state.1 → is ≡ is_start_token t → x ≡ (old.starts || ((blank && out) && is))
    → (no_levels s.state.1 && is_bar t) ≡ false → advance s.state t ≡ Some u → x ≡ starts_in u
starts_after old s t u blank out is x a b o i e n k =
    e
    ∙ (ap (λ c. c || ((blank && out) && is)) a.starts
    ∙ (ap (λ c. starts_in s.state || ((c && out) && is)) b
    ∙ (ap (λ c. starts_in s.state || ((is_blank s.state.0 && c) && is)) o
    ∙ (ap (λ c. starts_in s.state || (is_unread s.state && c)) i ∙ sym (advance_starts s.state t u n k)))))

ends_after : (s : PartsState) (t : Token) (u : State) (out is x : Bool) → out ≡ no_levels s.state.1 → is ≡ is_end_token t
    → x ≡ (out && is) → (no_levels s.state.1 && is_bar t) ≡ false → advance s.state t ≡ Some u → x ≡ ends_in u
ends_after s t u out is x o i e n k =
    e ∙ (ap (λ c. c && is) o ∙ (ap (λ c. no_levels s.state.1 && c) i ∙ sym (advance_ends s.state t u n k)))

pub token_takes : (old new : Branches) (t : Token) (r : Result (Unit {0}) IRegexpErrorKind) (blank out starts ends : Bool)
    → new.fixed ≡ old.fixed → new.parts ≡ old.parts → ((l : Level) → StandsAt old.here l → blank ≡ is_blank l)
    → out ≡ (length old.outer.items == 0) → starts ≡ is_start_token t → ends ≡ is_end_token t
    → new.starts ≡ (old.starts || ((blank && out) && starts)) → new.ends ≡ (out && ends)
    → ((length old.outer.items == 0) && is_bar t) ≡ false → Takes old.here old.outer.items t r new.here new.outer.items
    → TakesMark old (token t) r new
token_takes old new t (Ok ok) blank out starts ends x p b o is_s is_e st en h takes = λ s a.
    let k = takes s.state a.agrees in
    let n = not_next old s t a h in
    let outside = out_is old s out a o in (
      with_state s k.0,
      open_token s t k.0 n k.1,
      record {
        fixed = x ∙ a.fixed;
        starts = starts_after old s t k.0 blank out starts new.starts a (b s.state.0 a.agrees.0) outside is_s st n k.1;
        ends = ends_after s t k.0 out ends new.ends outside is_e en n k.1;
        parts = subst (λ v. AllMeanWhole v.items (map (form_at s.fixed) s.parts)) (sym p) a.parts;
        small = a.small;
        agrees = k.2;
        bare = advance_bare s.state t k.0 n k.1 ∙ a.bare;
      },
    )
token_takes old new t (Err Invalid) blank out starts ends x p b o is_s is_e st en h takes = λ s a.
    refused_token s t (not_next old s t a h) (takes s.state a.agrees)
token_takes old new t (Err TooDeep) blank out starts ends x p b o is_s is_e st en h takes = (ap token takes.0, takes.1)
token_takes old new t (Err TooLarge) blank out starts ends x p b o is_s is_e st en h takes = λ s a.
    let k = takes s.state a.agrees in
    (with_state s k.0, open_token s t k.0 (not_next old s t a h) k.1, k.2)
token_takes old new t (Err OutOfMemory) blank out starts ends x p b o is_s is_e st en h takes = tt

pub next_test : (a b x y v : Bool) → a ≡ x → b ≡ y → (a && b) ≡ v → (x && y) ≡ v
next_test a b x y v e f h = sym (ap (λ c. c && y) e) ∙ (sym (ap (λ c. a && c) f) ∙ h)

-- ---- the end

pub finished : (old : Branches) (qs : List Expression) (n : Expression) (ps : List Expression) → EndsPart old qs → ps ≡ qs
    → ((fs : List Form) → AllMean ps fs → Means n (choice fs)) → Finishes old n
finished old qs n ps ended e means s a none =
    let k = ended s a none in
    let fs = map (form_at s.fixed) (s.parts ++ part_in s ∷ []) in
    let all = choice_agree ps fs (subst (λ ns. AllMeanWhole ns fs) (sym e) k.0) in
    (whole_as n (choice fs) _ all (means (map form_of ps) (all_same ps)), k.1)
