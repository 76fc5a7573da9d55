-- Memory runs out: wherever the machine stands, and after the character that ends a run with an unpaired surrogate.
use Rattle.std.proofs.Common.{◌≡◌, ℕ, suc, true, List, [], ◌∷◌, ◌++◌, Option, Some, refl, sym, subst, append_assoc, append-nil, inl, inr}
use Rattle.std.proofs.Common.{arith}
use Rattle.std.specs.Prelude.{All}
use Rattle.std.specs.Char.{IsScalar}
use Rattle.tinyjson_grammar.specs.Machine.{strictly, Frame, Phase, State, Next, next, stop, awaited, step, reach, reach_on}
use Rattle.tinyjson_grammar.specs.Refusal.{IsPromptly, IsInterrupted}
use Rattle.tinyjson_grammar.specs.declared.error.JsonParseErrorKind.TheVariants.{InvalidUtf16}
use Rattle.tinyjson_grammar.proofs.Trace.State.{Ranges, Spells}
use Rattle.tinyjson_grammar.proofs.Prefix.Viable.{read_prompt}
use Rattle.tinyjson_grammar.proofs.Step.Statement.{Follows}
use Rattle.tinyjson_grammar.proofs.Sound.{Reached, reached_next, denies, is_unviable, step_spells, start_spells, spells_viable}

pub spells_prompt : Ranges → (limit : Option ℕ) (used : List ℕ) (fs : List Frame) (q : Phase) → Spells limit used fs q
    → IsPromptly limit used []
spells_prompt ranges limit used fs q s = rw s.whole (read_prompt ranges limit s.read s.is)

go_reach : (limit : Option ℕ) (used : List ℕ) (fs : List Frame) (q : Phase) (c : ℕ) (cs : List ℕ) (n : Next) (more : List Frame → Phase
    → Option State) (s : State) → Follows limit used fs q c n → reach_on more n ≡ Some s →
    ((gs : List Frame) (p : Phase) → Spells limit (used ++ c ∷ []) gs p → more gs p ≡ Some s
    → Spells limit ((used ++ c ∷ []) ++ cs) s.frames s.phase) → Spells limit (used ++ c ∷ cs) s.frames s.phase
go_reach limit used fs q c cs (next gs p) more s h e on =
    subst (λ xs. Spells limit xs s.frames s.phase) (append_assoc used (c ∷ []) cs) (on gs p h e)
go_reach limit used fs q c cs (stop k b) more s h e on = absurd cc

-- The machine stands where what was read says.
pub reach_spells : Ranges → (limit : Option ℕ) (xs : List ℕ) → All IsScalar xs → (used : List ℕ) (fs : List Frame) (q : Phase)
    → Spells limit used fs q → (s : State) → reach (strictly limit) fs q xs ≡ Some s → Spells limit (used ++ xs) s.frames s.phase
unfolding reach
reach_spells ranges limit [] h used fs q i s e =
    let same : record { frames = fs; phase = q } ≡ s = cc in
    subst (λ (x : State). Spells limit (used ++ []) x.frames x.phase) same (subst (λ xs. Spells limit xs fs q) (sym (append-nil used)) i)
reach_spells ranges limit (c ∷ cs) h used fs q i s e =
    go_reach limit used fs q c cs (step (strictly limit) fs q c) (λ gs p. reach (strictly limit) gs p cs) s
    (step_spells ranges limit used fs q i c (h 0 0 (omega arith))) e
    (λ gs p j d. reach_spells ranges limit cs (λ k x l. h (suc k) x (omega arith)) (used ++ c ∷ []) gs p j s d)

go_reached : (limit : Option ℕ) (used : List ℕ) (fs : List Frame) (q : Phase) (c : ℕ) (cs : List ℕ) (n : Next) (more : List Frame → Phase
    → Option State) (s : State) → Reached limit used fs q → step (strictly limit) fs q c ≡ n → reach_on more n ≡ Some s →
    ((gs : List Frame) (p : Phase) → Reached limit (used ++ c ∷ []) gs p → more gs p ≡ Some s
    → Reached limit ((used ++ c ∷ []) ++ cs) s.frames s.phase) → Reached limit (used ++ c ∷ cs) s.frames s.phase
go_reached limit used fs q c cs (next gs p) more s h i e on =
    subst (λ xs. Reached limit xs s.frames s.phase) (append_assoc used (c ∷ []) cs) (on gs p (reached_next limit used fs gs q p c h i) e)
go_reached limit used fs q c cs (stop k b) more s h i e on = absurd cc

reach_reached : (limit : Option ℕ) (xs used : List ℕ) (fs : List Frame) (q : Phase) → Reached limit used fs q → (s : State)
    → reach (strictly limit) fs q xs ≡ Some s → Reached limit (used ++ xs) s.frames s.phase
unfolding reach
reach_reached limit [] used fs q h s e =
    let same : record { frames = fs; phase = q } ≡ s = cc in
    subst (λ (x : State). Reached limit (used ++ []) x.frames x.phase) same (subst (λ xs. Reached limit xs fs q) (sym (append-nil used)) h)
reach_reached limit (c ∷ cs) used fs q h s e =
    go_reached limit used fs q c cs (step (strictly limit) fs q c) (λ gs p. reach (strictly limit) gs p cs) s h refl e
    (λ gs p j d. reach_reached limit cs (used ++ c ∷ []) gs p j s d)

pub interrupted : Ranges → (limit : Option ℕ) (used : List ℕ) → All IsScalar used → (s : State)
    → reach (strictly limit) [] awaited used ≡ Some s → IsInterrupted limit used
interrupted ranges limit used h s e =
    let i : Spells limit used s.frames s.phase = reach_spells ranges limit used h [] [] awaited (start_spells limit) s e in
    record { place = inl (spells_prompt ranges limit used s.frames s.phase i); viable = spells_viable limit used s.frames s.phase i }

pub interrupted_late : Ranges → (limit : Option ℕ) (used : List ℕ) → All IsScalar used → (s : State)
    → reach (strictly limit) [] awaited used ≡ Some s
    → (c : ℕ) → IsScalar c → step (strictly limit) s.frames s.phase c ≡ stop InvalidUtf16 true → IsInterrupted limit (used ++ c ∷ [])
interrupted_late ranges limit used h s e c hc k =
    let i : Spells limit used s.frames s.phase = reach_spells ranges limit used h [] [] awaited (start_spells limit) s e in
    let r : Reached limit used s.frames s.phase = reach_reached limit used [] [] awaited (λ b ys. refl) s e in
    let f : Follows limit used s.frames s.phase c (stop InvalidUtf16 true) =
    subst (Follows limit used s.frames s.phase c) k (step_spells ranges limit used s.frames s.phase i c hc) in
    let says = f [] (denies limit used s.frames s.phase r) (is_unviable limit used s.frames s.phase c InvalidUtf16 r k) in
    record { place = inr says; viable = says.1.1 }
