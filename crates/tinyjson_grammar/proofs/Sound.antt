-- What comes of a whole list: a text with its tree, or an error that says what it must.
use Rattle.std.proofs.Common.{suc, ◌≡◌, ℕ, Bool, true, false, List, [], ◌∷◌, ◌++◌, Option, refl, ap, sym, ◌∙◌, append_assoc, append-nil}
use Rattle.std.proofs.Common.{arith, subst, ◌⊎◌, inl, inr}
use Rattle.std.specs.Prelude.{All}
use Rattle.std.specs.Char.{IsScalar}
use Rattle.tinyjson_grammar.specs.Machine.{strictly, Rules, Frame, Phase, awaited, Next, next, stop, Outcome, accepted, refused, step, end}
use Rattle.tinyjson_grammar.specs.Machine.{run, go_on}
use Rattle.tinyjson_grammar.specs.Kind.{kind_of}
use Rattle.tinyjson_grammar.specs.Tree.{Tree}
use Rattle.tinyjson_grammar.specs.Syntax.{tree_of}
use Rattle.tinyjson_grammar.specs.Grammar.{IsLoose, IsText, IsAccepted}
use Rattle.tinyjson_grammar.specs.Prefix.{IsViable, IsErrorFree, IsCutOffText, IsLooselyViable}
use Rattle.tinyjson_grammar.specs.declared.error.JsonParseErrorKind.{JsonParseErrorKind}
use Rattle.tinyjson_grammar.specs.declared.error.JsonParseErrorKind.TheVariants.{KeyNotString}
use Rattle.tinyjson_grammar.specs.Refusal.{KindSays, IsNotTooLate, IsRefusal}
use Rattle.tinyjson_grammar.proofs.Trace.Paths.{outside}
use Rattle.tinyjson_grammar.proofs.Prefix.ErrorFree.{viable_before}
use Rattle.tinyjson_grammar.proofs.Trace.State.{Ranges, Spells, at_awaited, after_read}
use Rattle.tinyjson_grammar.proofs.Prefix.Viable.{read_viable}
use Rattle.tinyjson_grammar.proofs.Step.Statement.{loosely, NoQuoteFrom, Denies, IsUnviable, Follows}
use Rattle.tinyjson_grammar.proofs.Step.Character.{step_follows, end_follows, Ends}
use Rattle.tinyjson_grammar.proofs.Accepts.Text.{rules, text_accepted, no_text, loose_accepted}
use Rattle.tinyjson_grammar.proofs.Prefix.Unviable.{cut_off_end}
use Rattle.tinyjson_grammar.proofs.Prefix.Loose.{is_own, strict_next, strict_stop}

-- ---- one step of a run

pub run_next : (r : Rules) (fs gs : List Frame) (q p : Phase) (c : ℕ) (ys : List ℕ) → step r fs q c ≡ next gs p
    → run r fs q (c ∷ ys) ≡ run r gs p ys
unfolding run
run_next r fs gs q p c ys e = rw e

run_taken : (r : Rules) (fs : List Frame) (q : Phase) (c : ℕ) (k : JsonParseErrorKind) (ys : List ℕ) → step r fs q c ≡ stop k true
    → run r fs q (c ∷ ys) ≡ refused k ys
unfolding run
run_taken r fs q c k ys e = rw e

run_left : (r : Rules) (fs : List Frame) (q : Phase) (c : ℕ) (k : JsonParseErrorKind) (ys : List ℕ) → step r fs q c ≡ stop k false
    → run r fs q (c ∷ ys) ≡ refused k (c ∷ ys)
unfolding run
run_left r fs q c k ys e = rw e

-- both machines stand so after what was used
abbrev pub Reached : Option ℕ → List ℕ → List Frame → Phase → Type 0
Reached limit used fs q = (b : Bool) (ys : List ℕ) → run (rules b limit) [] awaited (used ++ ys) ≡ run (rules b limit) fs q ys

pub reached_next : (limit : Option ℕ) (used : List ℕ) (fs gs : List Frame) (q p : Phase) (c : ℕ) → Reached limit used fs q
    → step (strictly limit) fs q c ≡ next gs p → Reached limit (used ++ c ∷ []) gs p
reached_next limit used fs gs q p c h e true ys = ap (run (rules true limit) [] awaited) (append_assoc used (c ∷ []) ys)
    ∙ (h true (c ∷ ys) ∙ run_next (rules true limit) fs gs q p c ys e)
reached_next limit used fs gs q p c h e false ys = ap (run (rules false limit) [] awaited) (append_assoc used (c ∷ []) ys)
    ∙ (h false (c ∷ ys) ∙ run_next (rules false limit) fs gs q p c ys (strict_next limit fs gs q p c e))

-- ---- what is unviable

unviable : (limit : Option ℕ) (used : List ℕ) → ((ys : List ℕ) (t : Tree) → run (strictly limit) [] awaited (used ++ ys) ≡ accepted t → ⊥)
    → ¬ IsViable (IsAccepted limit) used
unviable limit used h a = h a.0 a.1.0 (text_accepted limit (used ++ a.0) a.1.0 a.1.1)

loosely_unviable : (limit : Option ℕ) (used : List ℕ)
    → ((ys : List ℕ) (t : Tree) → run (loosely limit) [] awaited (used ++ ys) ≡ accepted t → ⊥) → ¬ IsLooselyViable limit used
loosely_unviable limit used h a = h a.0 (tree_of a.1.value) (loose_accepted limit (used ++ a.0) a.1)

no_quote_follows : (limit : Option ℕ) (used : List ℕ) (fs : List Frame) (q : Phase) → Reached limit used fs q → NoQuoteFrom limit fs q
    → ¬ IsLooselyViable limit (used ++ 34 ∷ [])
no_quote_follows limit used fs q h n = loosely_unviable limit (used ++ 34 ∷ [])
    (λ ys t e. n ys t (sym (ap (run (loosely limit) [] awaited) (append_assoc used (34 ∷ []) ys) ∙ h false (34 ∷ ys)) ∙ e))

taken_run : (b : Bool) (limit : Option ℕ) (used : List ℕ) (fs : List Frame) (q : Phase) (c : ℕ) (k : JsonParseErrorKind)
    → Reached limit used fs q → step (rules b limit) fs q c ≡ stop k true → (ys : List ℕ)
    → run (rules b limit) [] awaited ((used ++ c ∷ []) ++ ys) ≡ refused k ys
taken_run b limit used fs q c k h e ys = ap (run (rules b limit) [] awaited) (append_assoc used (c ∷ []) ys)
    ∙ (h b (c ∷ ys) ∙ run_taken (rules b limit) fs q c k ys e)

taken_unviable : (limit : Option ℕ) (used : List ℕ) (fs : List Frame) (q : Phase) (c : ℕ) (k : JsonParseErrorKind)
    → Reached limit used fs q → step (strictly limit) fs q c ≡ stop k true → ¬ IsViable (IsAccepted limit) (used ++ c ∷ [])
taken_unviable limit used fs q c k h e = unviable limit (used ++ c ∷ [])
    (λ ys t g. no_text k ys t (sym (taken_run true limit used fs q c k h e ys) ∙ g))

turns_unviable : (limit : Option ℕ) (used : List ℕ) (fs : List Frame) (q : Phase) (c : ℕ) (k : JsonParseErrorKind)
    → Reached limit used fs q → is_own k ≡ false → step (strictly limit) fs q c ≡ stop k true → ¬ IsLooselyViable limit (used ++ c ∷ [])
turns_unviable limit used fs q c k h o e = loosely_unviable limit (used ++ c ∷ [])
    (λ ys t g. no_text k ys t (sym (taken_run false limit used fs q c k h (strict_stop limit fs q c k true o e) ys) ∙ g))

-- what is denied where the machine stands so
pub denies : (limit : Option ℕ) (used : List ℕ) (fs : List Frame) (q : Phase) → Reached limit used fs q → Denies limit used fs q
denies limit used fs q h = record {
  no_quote = no_quote_follows limit used fs q h;
  unviable = λ n. unviable limit used (λ ys t e. n ys t (sym (h true ys) ∙ e));
}

pub is_unviable : (limit : Option ℕ) (used : List ℕ) (fs : List Frame) (q : Phase) (c : ℕ) (k : JsonParseErrorKind)
    → Reached limit used fs q → step (strictly limit) fs q c ≡ stop k true → IsUnviable limit (used ++ c ∷ []) k
is_unviable limit used fs q c k h e = record {
  unviable = taken_unviable limit used fs q c k h e;
  loosely = λ o. turns_unviable limit used fs q c k h o e;
}

-- the next character is too many: not even the first key that is not a string is still to come
not_completed : (limit : Option ℕ) (u : List ℕ) (d : ℕ) (k : JsonParseErrorKind)
    → ((ys : List ℕ) → run (strictly limit) [] awaited (u ++ d ∷ ys) ≡ refused k (d ∷ ys)) → (ys : List ℕ) →
    (IsAccepted limit ((u ++ d ∷ []) ++ ys) ⊎ IsCutOffText limit ((u ++ d ∷ []) ++ ys)) → ⊥
not_completed limit u d k h ys (inl a) =
    no_text k (d ∷ ys) a.0 (sym (h ys) ∙ (sym (ap (run (strictly limit) [] awaited) (append_assoc u (d ∷ []) ys))
    ∙ text_accepted limit ((u ++ d ∷ []) ++ ys) a.0 a.1))
not_completed limit u d k h ys (inr b) =
    let i = cut_off_end limit ((u ++ d ∷ []) ++ ys) b in
    let e : refused k (d ∷ ys) ≡ refused (KeyNotString (kind_of i.0)) [] = sym (h ys)
    ∙ (sym (ap (run (strictly limit) [] awaited) (append_assoc u (d ∷ []) ys)) ∙ i.1) in
    absurd cc

pub not_error_free : (limit : Option ℕ) (u : List ℕ) (d : ℕ) (k : JsonParseErrorKind)
    → ((ys : List ℕ) → run (strictly limit) [] awaited (u ++ d ∷ ys) ≡ refused k (d ∷ ys)) → ¬ IsErrorFree limit (u ++ d ∷ [])
not_error_free limit u d k h a = not_completed limit u d k h a.0 a.1

-- ---- without its last character it is viable in the loose grammar

abbrev init : List ℕ → List ℕ
init [] = []
init (x ∷ []) = []
init (x ∷ y ∷ ys) = x ∷ init (y ∷ ys)

init_push : (xs : List ℕ) (c : ℕ) → init (xs ++ c ∷ []) ≡ xs
init_push [] c = refl
init_push (x ∷ []) c = refl
init_push (x ∷ y ∷ ys) c = ap (λ zs. x ∷ zs) (init_push (y ∷ ys) c)

same_front : (prefix other : List ℕ) (c d : ℕ) → prefix ++ c ∷ [] ≡ other ++ d ∷ [] → prefix ≡ other
same_front prefix other c d e = sym (init_push prefix c) ∙ (ap init e ∙ init_push other d)

pub late_one : (limit : Option ℕ) (used : List ℕ) (c : ℕ) → IsLooselyViable limit used → IsNotTooLate limit (used ++ c ∷ [])
late_one limit used c h prefix d e = subst (IsLooselyViable limit) (same_front used prefix c d e) h

pub late_none : (limit : Option ℕ) (used : List ℕ) → IsLooselyViable limit used → IsNotTooLate limit used
late_none limit used h prefix d e = viable_before (IsLoose limit) prefix (d ∷ []) (subst (IsLooselyViable limit) e h)

-- ---- the error

refuses : (limit : Option ℕ) (xs rest : List ℕ) (k : JsonParseErrorKind) → run (strictly limit) [] awaited xs ≡ refused k rest
    → ¬ IsAccepted limit xs
refuses limit xs rest k e a = no_text k rest a.0 (sym e ∙ text_accepted limit xs a.0 a.1)

refusal_taken : (limit : Option ℕ) (used : List ℕ) (fs : List Frame) (q : Phase) (c : ℕ) (k : JsonParseErrorKind) (rest : List ℕ)
    → Reached limit used fs q → IsLooselyViable limit used → step (strictly limit) fs q c ≡ stop k true
    → Follows limit used fs q c (stop k true) → IsRefusal limit k (used ++ c ∷ []) rest
refusal_taken limit used fs q c k rest h a e f = record {
  says = f rest (denies limit used fs q h) (is_unviable limit used fs q c k h e);
  refused = refuses limit ((used ++ c ∷ []) ++ rest) rest k (taken_run true limit used fs q c k h e rest);
  not_too_soon = λ d more g. not_error_free limit (used ++ c ∷ []) d k (λ ys. taken_run true limit used fs q c k h e (d ∷ ys));
  not_too_late = late_one limit used c a;
}

refusal_left : (limit : Option ℕ) (used : List ℕ) (fs : List Frame) (q : Phase) (c : ℕ) (k : JsonParseErrorKind) (cs : List ℕ)
    → Reached limit used fs q → IsLooselyViable limit used → step (strictly limit) fs q c ≡ stop k false
    → Follows limit used fs q c (stop k false) → IsRefusal limit k used (c ∷ cs)
refusal_left limit used fs q c k cs h a e f = record {
  says = f cs (denies limit used fs q h);
  refused = refuses limit (used ++ c ∷ cs) (c ∷ cs) k (h true (c ∷ cs) ∙ run_left (strictly limit) fs q c k cs e);
  not_too_soon = λ d more g. subst (λ x. ¬ IsErrorFree limit (used ++ x ∷ [])) (same_head c d cs more g)
      (not_error_free limit used c k (λ ys. h true (c ∷ ys) ∙ run_left (strictly limit) fs q c k ys e));
  not_too_late = late_none limit used a;
}
  where
    same_head : (x y : ℕ) (xs ys : List ℕ) → x ∷ xs ≡ y ∷ ys → x ≡ y
    same_head x y xs ys g = cc

refusal_end : (limit : Option ℕ) (used : List ℕ) (fs : List Frame) (q : Phase) (k : JsonParseErrorKind) → Reached limit used fs q
    → IsLooselyViable limit used → run (strictly limit) fs q [] ≡ refused k [] → (Denies limit used fs q → KindSays limit k used [])
    → IsRefusal limit k used []
refusal_end limit used fs q k h a e f = record {
  says = f (denies limit used fs q h);
  refused = refuses limit (used ++ []) [] k (h true [] ∙ e);
  not_too_soon = λ d more g. absurd (no_more d more g);
  not_too_late = late_none limit used a;
}
  where
    no_more : (d : ℕ) (more : List ℕ) → [] ≡ d ∷ more → ⊥
    no_more d more g = cc

-- What comes of the characters after what was used.
abbrev pub Results : Option ℕ → List ℕ → List ℕ → Outcome → Type 0
Results limit used xs (accepted t) = IsText limit (used ++ xs) t
Results limit used xs (refused k rest) = (taken : List ℕ) × (xs ≡ taken ++ rest) × IsRefusal limit k (used ++ taken) rest

results_shift : (limit : Option ℕ) (used : List ℕ) (c : ℕ) (cs : List ℕ) (o : Outcome) → Results limit (used ++ c ∷ []) cs o
    → Results limit used (c ∷ cs) o
results_shift limit used c cs (accepted t) h = subst (λ xs. IsText limit xs t) (append_assoc used (c ∷ []) cs) h
results_shift limit used c cs (refused k rest) h =
    (c ∷ h.0, ap (λ xs. c ∷ xs) h.1, subst (λ xs. IsRefusal limit k xs rest) (append_assoc used (c ∷ []) h.0) h.2)

go_results : (limit : Option ℕ) (used : List ℕ) (fs : List Frame) (q : Phase) (c : ℕ) (cs : List ℕ) (more : List Frame → Phase
    → Outcome) (n : Next) → step (strictly limit) fs q c ≡ n → Reached limit used fs q → Follows limit used fs q c n
    → IsLooselyViable limit used → ((gs : List Frame) (p : Phase) → Spells limit (used ++ c ∷ []) gs p → Reached limit (used ++ c ∷ []) gs p
    → Results limit (used ++ c ∷ []) cs (more gs p)) → Results limit used (c ∷ cs) (go_on more n (c ∷ cs) cs)
go_results limit used fs q c cs more (next gs p) e r h a on =
    results_shift limit used c cs (more gs p) (on gs p h (reached_next limit used fs gs q p c r e))
go_results limit used fs q c cs more (stop k true) e r h a on = (c ∷ [], refl, refusal_taken limit used fs q c k cs r a e h)
go_results limit used fs q c cs more (stop k false) e r h a on =
    ([], refl, subst (λ xs. IsRefusal limit k xs (c ∷ cs)) (sym (append-nil used)) (refusal_left limit used fs q c k cs r a e h))

end_results : (limit : Option ℕ) (used : List ℕ) (fs : List Frame) (q : Phase) (o : Outcome) → run (strictly limit) fs q [] ≡ o
    → Reached limit used fs q → Ends limit used fs q o → IsLooselyViable limit used → Results limit used [] o
end_results limit used fs q (accepted t) e r h a = subst (λ xs. IsText limit xs t) (sym (append-nil used)) h
end_results limit used fs q (refused k rest) e r h a = (
  [],
  sym h.0,
  rw h.0 (subst (λ xs. IsRefusal limit k xs []) (sym (append-nil used)) (refusal_end limit used fs q k r a (e ∙ ap (refused k) h.0) h.1)),
)

pub step_spells : Ranges → (limit : Option ℕ) (used : List ℕ) (fs : List Frame) (q : Phase) → Spells limit used fs q → (c : ℕ) → IsScalar c
    → Follows limit used fs q c (step (strictly limit) fs q c)
step_spells ranges limit used fs q s c hc = rw (s.whole, s.frames, s.phase) (step_follows ranges limit s.read s.is c hc)

end_spells : Ranges → (limit : Option ℕ) (used : List ℕ) (fs : List Frame) (q : Phase) → Spells limit used fs q
    → Ends limit used fs q (end (strictly limit) fs q)
end_spells ranges limit used fs q s = rw (s.whole, s.frames, s.phase) (end_follows ranges limit s.read s.is)

pub spells_viable : (limit : Option ℕ) (used : List ℕ) (fs : List Frame) (q : Phase) → Spells limit used fs q → IsLooselyViable limit used
spells_viable limit used fs q s = rw s.whole (read_viable limit s.read s.is)

pub run_results : Ranges → (limit : Option ℕ) (xs : List ℕ) → All IsScalar xs → (used : List ℕ) (fs : List Frame) (q : Phase)
    → Spells limit used fs q → Reached limit used fs q → Results limit used xs (run (strictly limit) fs q xs)
unfolding run
run_results ranges limit [] h used fs q s r = end_results limit used fs q (end (strictly limit) fs q) refl r
    (end_spells ranges limit used fs q s) (spells_viable limit used fs q s)
run_results ranges limit (c ∷ cs) h used fs q s r =
    go_results limit used fs q c cs (λ gs p. run (strictly limit) gs p cs) (step (strictly limit) fs q c) refl r
    (step_spells ranges limit used fs q s c (h 0 0 (omega arith))) (spells_viable limit used fs q s)
    (λ gs p i j. run_results ranges limit cs (λ k d l. h (suc k) d (omega arith)) (used ++ c ∷ []) gs p i j)

-- ---- from the start

pub start_spells : (limit : Option ℕ) → Spells limit [] [] awaited
start_spells limit = after_read (at_awaited (outside [])) tt refl

pub run_sound : Ranges → (limit : Option ℕ) (xs : List ℕ) → All IsScalar xs → Results limit [] xs (run (strictly limit) [] awaited xs)
run_sound ranges limit xs h = run_results ranges limit xs h [] [] awaited (start_spells limit) (λ b ys. refl)

pub accepted_text : Ranges → (limit : Option ℕ) (xs : List ℕ) → All IsScalar xs → (t : Tree)
    → run (strictly limit) [] awaited xs ≡ accepted t → IsText limit xs t
accepted_text ranges limit xs h t e = subst (Results limit [] xs) e (run_sound ranges limit xs h)

pub refused_so : Ranges → (limit : Option ℕ) (xs : List ℕ) → All IsScalar xs → (k : JsonParseErrorKind) (rest : List ℕ)
    → run (strictly limit) [] awaited xs ≡ refused k rest → (used : List ℕ) × (xs ≡ used ++ rest) × IsRefusal limit k used rest
refused_so ranges limit xs h k rest e = subst (Results limit [] xs) e (run_sound ranges limit xs h)
