-- What an automaton remembers.
use Rattle.std.proofs.Common.{◌≡◌, ℕ, zero, suc, ◌+◌, ◌*◌, ◌-◌, ◌<◌, ◌≤◌, Bool, true, false, List, [], ◌∷◌, ◌++◌, length, get_or, set}
use Rattle.std.proofs.Common.{not, Option, Some, None, ⊎_elim, refl, sym, ap, ◌∙◌, ◌||◌, subst, arith, length-append}
use Rattle.std.proofs.Common.{append-nil, true≢false, cond, Result, Ok, Err, replicate, ◌⊎◌, inl, inr}
use Rattle.std.specs.List.{slice_get}
use Rattle.std.specs.Option.{option_map_or}
use Rattle.std.specs.Result.{is_err, is_ok}
use lib.Dec.{eqb}
use lib.Pointwise.{pointwise}
use Rattle.std.proofs.lemmas.Bool.{cases_lt, eq-eqb, eqb-true}
use Rattle.std.proofs.lemmas.Slice.Eq.{slice_eq-Decides}
use Rattle.std.proofs.lemmas.List.{get_or-append_right, get_or_append_left}
use Rattle.std.proofs.lemmas.Option.{slice_get-get_or, slice_get_within}
use Rattle.text_regexp.specs.Automata.{AreStates, Extends, HasMarksAt, IsRowOf, IsState, Knows, LeadsTo, row_reads}
use Rattle.std.specs.Prelude.{IfSome}
use Rattle.text_regexp.specs.Marked.{ends_here, is_kept, is_marked, is_plain, placed, reads, skips}
use Rattle.text_regexp.proofs.Kept.{kept_from}
use Rattle.text_regexp.proofs.Marking.{ends_unmarked}
use Rattle.text_regexp.proofs.Rereading.{verdict_right}
use Rattle.text_regexp.proofs.Placing.{kept_placed, placed_none, plain_placed}
use Rattle.text_regexp.specs.declared.marked.Node.{Node}
use Rattle.text_regexp.specs.declared.state.State.{State}

-- ---- rows

pub state_had : (states items : List State) (place : ℕ) (s : State) → items ≡ states → place < length items → s ≡ get_or items place s
    → slice_get states place ≡ Some s
state_had states items place s same within is =
    subst (λ ss. slice_get ss place ≡ Some s) same (slice_get-get_or items place s within ∙ ap Some (sym is))

pub at_start : (root : Node) (states : List State) (row : ℕ) (cs : List ℕ) → (1 ≤ row → ⊥)
    → row_reads root states row cs ≡ reads true root cs
at_start root states zero cs none = refl
at_start root states (suc k) cs none = absurd (none (omega arith))

pub at_state : (root : Node) (states : List State) (row place : ℕ) (s : State) (cs : List ℕ) → 1 ≤ row → place ≡ row - 1
    → slice_get states place ≡ Some s → row_reads root states row cs ≡ reads false (placed root s.marks.items) cs
at_state root states zero place s cs some is had = absurd (omega arith)
at_state root states (suc k) place s cs some is had =
    let same : k ≡ place = omega (arith, is) in
    ap (λ o. option_map_or (λ x. reads false (placed root x.marks.items) cs) o false) (ap (slice_get states) same ∙ had)

pub same_list : (xs ys : List ℕ) (ne : Bool) → ne ≡ not (pointwise eqb xs ys) → ne ≡ false → xs ≡ ys
same_list xs ys ne e h =
    (slice_eq-Decides (λ a b. (eqb-true a b, eq-eqb a b)) xs ys (not ne) (ap not e ∙ not_not (pointwise eqb xs ys))).0 (ap not h)
  where
    not_not : (b : Bool) → not (not b) ≡ b
    not_not true = refl
    not_not false = refl

-- ---- more states

get_more : (states more : List State) (k : ℕ) → k < length states → slice_get (states ++ more) k ≡ slice_get states k
get_more [] more k h = absurd (omega arith)
get_more (s ∷ ss) more zero h = refl
get_more (s ∷ ss) more (suc k) h = get_more ss more k (omega arith)

get_last : (states : List State) (s : State) (k : ℕ) → k ≡ length states → slice_get (states ++ s ∷ []) k ≡ Some s
get_last [] s zero h = refl
get_last [] s (suc k) h = absurd (omega arith)
get_last (x ∷ ss) s zero h = absurd (omega arith)
get_last (x ∷ ss) s (suc k) h = get_last ss s k (omega arith)

pub rows_stay : (root : Node) (states more : List State) (row : ℕ) (cs : List ℕ) → row ≤ length states
    → row_reads root (states ++ more) row cs ≡ row_reads root states row cs
rows_stay root states more zero cs h = refl
rows_stay root states more (suc k) cs h =
    ap (λ o. option_map_or (λ x. reads false (placed root x.marks.items) cs) o false) (get_more states more k (omega arith))

pub row_added : (root : Node) (states : List State) (s : State) (row : ℕ) (cs : List ℕ) → row ≡ length states + 1
    → row_reads root (states ++ s ∷ []) row cs ≡ reads false (placed root s.marks.items) cs
row_added root states s zero cs h = absurd (omega arith)
row_added root states s (suc k) cs h =
    ap (λ o. option_map_or (λ x. reads false (placed root x.marks.items) cs) o false) (get_last states s k (omega arith))

pub right_more : (root : Node) (states : List State) (s : State) → AreStates root states → IsState root s
    → AreStates root (states ++ s ∷ [])
right_more root states s all one k x had =
    ⊎_elim (λ within. all k x (sym (get_more states (s ∷ []) k within) ∙ had)) (λ past.
    let last : k ≡ length states =
    omega (arith, slice_get_within (states ++ s ∷ []) k x had, length-append states (s ∷ []), past) in
    let same : s ≡ x = cc_some (sym (get_last states s k last) ∙ had) in
    subst (IsState root) same one) (cases_lt k (length states))
  where
    cc_some : Some s ≡ Some x → s ≡ x
    cc_some e = cc

-- ---- steps

abbrev zeros_of : ℕ → List ℕ
zeros_of n = replicate n 0

zeros_at : (n i : ℕ) → get_or (zeros_of n) i 0 ≡ 0
zeros_at zero i = refl
zeros_at (suc n) zero = refl
zeros_at (suc n) (suc i) = zeros_at n i

step_had : (steps : List ℕ) (n i v : ℕ) → get_or (steps ++ replicate n 0) i 0 ≡ suc v → get_or steps i 0 ≡ suc v
step_had steps n i v h =
    ⊎_elim (λ within. sym (get_or_append_left steps (replicate n 0) 0 i within) ∙ h) (λ past.
    absurd (omega (arith, h, get_or-append_right steps (replicate n 0) (length steps) i 0 refl past, zeros_at n (i - length steps))))
    (cases_lt i (length steps))

-- steps that are not known add nothing
pub knows_more : (root : Node) (states : List State) (steps : List ℕ) (n : ℕ) → Knows root states steps
    → Knows root states (steps ++ replicate n 0)
knows_more root states steps n known row c next ascii h = known row c next ascii (step_had steps n (row * 128 + c) next h)

-- nor does a state
pub knows_state : (root : Node) (states : List State) (steps : List ℕ) (more : List State) → Knows root states steps
    → Knows root (states ++ more) steps
knows_state root states steps more known row c next ascii h =
    let k = known row c next ascii h in
    let longer : length states ≤ length (states ++ more) = omega (arith, length-append states more) in (
      omega (arith, k.0, longer),
      omega (arith, k.1, longer),
      λ cs. rows_stay root states more (suc next) cs k.1 ∙ (k.2 cs ∙ sym (rows_stay root states more row (c ∷ cs) k.0)),
    )

-- so it is for the tree as it is after a call
pub right_root : (root other : Node) (states : List State) → other ≡ root → AreStates root states → AreStates other states
right_root root other states e = subst (λ n. AreStates n states) (sym e)

pub knows_root : (root other : Node) (states : List State) (steps : List ℕ) → other ≡ root → Knows root states steps
    → Knows other states steps
knows_root root other states steps e = subst (λ n. Knows n states steps) (sym e)

one_place : (row c row' c' : ℕ) → c < 128 → c' < 128 → row' * 128 + c' ≡ row * 128 + c → (row' ≡ row) × (c' ≡ c)
one_place row c row' c' h k e = (omega (arith, h, k, e), omega (arith, h, k, e))

set_cases : (steps : List ℕ) (i j v w : ℕ) → get_or (set steps i v) j 0 ≡ suc w → ((j ≡ i) × (v ≡ suc w)) ⊎ (get_or steps j 0 ≡ suc w)
set_cases [] i j v w h = inr h
set_cases (x ∷ xs) zero zero v w h = inl (refl, h)
set_cases (x ∷ xs) zero (suc j) v w h = inr h
set_cases (x ∷ xs) (suc i) zero v w h = inr h
set_cases (x ∷ xs) (suc i) (suc j) v w h = elim (set_cases xs i j v w h) [ inl a ↦ inl (ap suc a.0, a.1) | inr b ↦ inr b ]

-- a step that is right is kept
pub knows_step : (root : Node) (states : List State) (steps : List ℕ) (row c next : ℕ) → Knows root states steps → row ≤ length states
    → c < 128 → next ≤ length states
    → ((cs : List ℕ) → row_reads root states next cs ≡ row_reads root states row (c ∷ cs))
    → Knows root states (set steps (row * 128 + c) next)
knows_step root states steps row c next known within ascii fits leads row' c' next' ascii' h =
    elim (set_cases steps (row * 128 + c) (row' * 128 + c') next next' h) [
      | inl a ↦ let one = one_place row c row' c' ascii ascii' a.0 in (
        omega (arith, one.0, within),
        omega (arith, a.1, fits),
        λ cs. ap (λ r. row_reads root states r cs) (sym a.1) ∙ (leads cs
            ∙ (λ i. row_reads root states (sym one.0 i) (sym one.1 i ∷ cs))),
      )
      | inr b ↦ known row' c' next' ascii' b
    ]

-- ---- for the calls

module _ (root : Node) (states : List State) (row place : ℕ) (s : State) (some : 1 ≤ row) (is : place ≡ row - 1)
    (had : slice_get states place ≡ Some s) (kept : is_kept root ≡ true) (all : AreStates root states) where
  pub verdict_had : is_plain root ≡ true → (o : Option Bool) → o ≡ s.verdict → IfSome o
      (λ b. (cs : List ℕ) → row_reads root states row cs ≡ b)
  verdict_had plain None e = tt
  verdict_had plain (Some b) e = λ cs. at_state root states row place s cs some is had
      ∙ verdict_right (placed root s.marks.items) b cs (kept_placed root s.marks.items (kept_from root kept))
      (plain_placed root s.marks.items ∙ plain) (e ∙ (all place s had).1)

  pub ends_had : s.ends ≡ row_reads root states row []
  ends_had = (all place s had).0 ∙ (or_false (ends_here (placed root s.marks.items)) ∙ sym
      (at_state root states row place s [] some is had))
    where
      or_false : (b : Bool) → b ≡ (b || false)
      or_false true = refl
      or_false false = refl

pub moved_reads : (start : Bool) (n root : Node) (states : List State) (row c : ℕ) (o : Option State)
    → ((cs : List ℕ) → row_reads root states row (c ∷ cs) ≡ reads start n (c ∷ cs))
    → IfSome o (λ x. (cs : List ℕ) → reads false (placed root x.marks.items) cs ≡ reads start n (c ∷ cs))
    → IfSome o (λ x. (cs : List ℕ) → reads false (placed root x.marks.items) cs ≡ row_reads root states row (c ∷ cs))
moved_reads start n root states row c None same h = tt
moved_reads start n root states row c (Some x) same h = λ cs. h cs ∙ sym (same cs)

-- from the start on, there are no marks
pub first_reads : (root : Node) (states : List State) (row c : ℕ) (cs : List ℕ) → is_kept root ≡ true → is_marked root ≡ false
    → (1 ≤ row → ⊥) → row_reads root states row (c ∷ cs) ≡ reads true (placed root []) (c ∷ cs)
first_reads root states row c cs kept none first =
    at_start root states row (c ∷ cs) first ∙ ap (λ n. reads true n (c ∷ cs)) (sym (placed_none root (kept_from root kept) none))

-- at the start the empty text is matched if it is skipped
pub ends_start : (root : Node) (states : List State) (row : ℕ) → is_kept root ≡ true → is_marked root ≡ false → (1 ≤ row → ⊥)
    → skips root ≡ row_reads root states row []
ends_start root states row kept none first =
    sym (at_start root states row [] first ∙ ap (λ b. b || skips root) (ends_unmarked root (kept_from root kept) none))

-- a state that has the marks of another is as good
pub row_found : (root : Node) (states : List State) (place : ℕ) (s : State) → HasMarksAt states place s.marks.items
    → IsRowOf root states (place + 1) s
row_found root states place s h =
    let within = slice_get_within states place h.0 h.1 in (
      omega arith,
      omega (arith, within),
      λ cs. at_state root states (place + 1) place h.0 cs (omega arith) (omega arith) h.1
          ∙ ap (λ ms. reads false (placed root ms) cs) h.2,
    )

pub row_new : (root : Node) (states : List State) (s : State) (row : ℕ) → row ≡ length (states ++ s ∷ [])
    → IsRowOf root (states ++ s ∷ []) row s
row_new root states s row e =
    let count : row ≡ length states + 1 = omega (arith, e, length-append states (s ∷ [])) in
    (omega (arith, count), omega (arith, e), λ cs. row_added root states s row cs count)

-- a step that is kept leads where it says
pub step_kept : (root : Node) (states : List State) (steps bytes : List ℕ) (row c known : ℕ) → Knows root states steps → bytes ≡ steps
    → c < 128 → 0 < known → known ≡ get_or bytes (row * 128 + c) 0 → LeadsTo root states states row c known
step_kept root states steps bytes row c zero knows same ascii some is = absurd (omega arith)
step_kept root states steps bytes row c (suc next) knows same ascii some is =
    let k = knows row c next ascii (sym (is ∙ ap (λ x. get_or x (row * 128 + c) 0) same)) in
    (k.1, k.2)

-- ---- what grows, if there is memory

pub ok_from : {A E : Type 0} → (r : Result A E) → false ≡ is_err r → is_ok r ≡ true
ok_from (Ok x) h = refl
ok_from (Err e) h = absurd (true≢false (sym h))

pub knows_room : (grown : Bool) (root : Node) (states : List State) (steps new : List ℕ) (n : ℕ) → Knows root states steps
    → new ≡ cond grown (steps ++ replicate n 0) steps → Knows root states new
knows_room true root states steps new n known is = subst (Knows root states) (sym is) (knows_more root states steps n known)
knows_room false root states steps new n known is = subst (Knows root states) (sym is) known

module _ (root : Node) (states new : List State) (steps : List ℕ) (s : State) (all : AreStates root states) (one : IsState root s)
    (known : Knows root states steps) where
  pub added_few : (grown : Bool) → new ≡ cond grown (states ++ s ∷ []) states → length states < 2500 → length new ≤ 2500
  added_few true is h = omega (arith, ap length is, length-append states (s ∷ []), h)
  added_few false is h = omega (arith, ap length is, h)

  pub added_right : (grown : Bool) → new ≡ cond grown (states ++ s ∷ []) states → AreStates root new
  added_right true is = subst (AreStates root) (sym is) (right_more root states s all one)
  added_right false is = subst (AreStates root) (sym is) all

  pub added_known : (grown : Bool) → new ≡ cond grown (states ++ s ∷ []) states → Knows root new steps
  added_known true is = subst (λ ss. Knows root ss steps) (sym is) (knows_state root states steps (s ∷ []) known)
  added_known false is = subst (λ ss. Knows root ss steps) (sym is) known

  pub added_rows : (grown : Bool) → new ≡ cond grown (states ++ s ∷ []) states → Extends states new
  added_rows true is = (s ∷ [], is)
  added_rows false is = ([], is ∙ sym (append-nil states))

  pub added_next : (grown : Bool) (row : ℕ) → new ≡ cond grown (states ++ s ∷ []) states → grown ≡ true → row ≡ length new
      → IsRowOf root new row s
  added_next true row is h e = subst (λ ss. IsRowOf root ss row s) (sym is) (row_new root states s row (e ∙ ap length is))
  added_next false row is h e = absurd (true≢false (sym h))

-- ---- a step that is found

module _ (root other : Node) (old new : List State) (row c next : ℕ) (s : State) where
  pub found_leads : other ≡ root → ((cs : List ℕ) → reads false (placed root s.marks.items) cs ≡ row_reads root old row (c ∷ cs))
      → IsRowOf other new next s → LeadsTo root old new row c next
  found_leads same moved is = (
    is.1,
    λ cs. ap (λ n. row_reads n new next cs) (sym same)
        ∙ (is.2 cs ∙ (ap (λ n. reads false (placed n s.marks.items) cs) same ∙ moved cs)),
  )

  pub found_reads : other ≡ root → row ≤ length old → Extends old new
      → ((cs : List ℕ) → reads false (placed root s.marks.items) cs ≡ row_reads root old row (c ∷ cs)) → IsRowOf other new next s
      → (cs : List ℕ) → row_reads other new next cs ≡ row_reads other new row (c ∷ cs)
  found_reads same within longer moved is cs =
      is.2 cs ∙ (ap (λ n. reads false (placed n s.marks.items) cs) same ∙ (moved cs
      ∙ (sym (rows_stay root old longer.0 row (c ∷ cs) within)
      ∙ (ap (λ ss. row_reads root ss row (c ∷ cs)) (sym longer.1) ∙ ap (λ n. row_reads n new row (c ∷ cs)) (sym same)))))
