-- Loops that go over a text.
use Rattle.std.proofs.Common.{◌≡◌, ℕ, zero, suc, ◌<◌, List, [], ◌∷◌, ◌++◌, length, Option, Some, None, option_map, option_and_then}
use Rattle.std.proofs.Common.{refl, sym, ap, ◌∙◌, arith, append_assoc, append-nil}
use Rattle.tinyjson_path_query.specs.Fronts.{Turn, end, last, more, with_first, then_turn, turns, all_turns}
use Rattle.tinyjson_path_query.proofs.Finds.{Finds}

-- what is left after a turn is shorter
abbrev pub Falls : {A : Type 0} → List ℕ → Turn A → Type 0
Falls xs (end ys) = Unit {0}
Falls xs (last a ys) = Unit {0}
Falls xs (more a ys) = length ys < length xs

abbrev pub Shortens : {A : Type 0} → (List ℕ → Option (Turn A)) → Type 0
Shortens turn = (xs : List ℕ) → Finds (turn xs) (Falls xs)

enough : {A : Type 0} (turn : List ℕ → Option (Turn A)) → Shortens turn → (n m : ℕ) (xs : List ℕ) → length xs < n → length xs < m
    → turns turn n xs ≡ turns turn m xs
enough turn s zero m xs h k = absurd (omega arith)
enough turn s (suc n) zero xs h k = absurd (omega arith)
enough {A = A} turn s (suc n) (suc m) xs h k = by (turn xs) refl (enough turn s n m)
  where
    by : (o : Option (Turn A)) → turn xs ≡ o
        → ((ys : List ℕ) → length ys < n → length ys < m → turns turn n ys ≡ turns turn m ys)
        → option_and_then (then_turn (turns turn n)) o ≡ option_and_then (then_turn (turns turn m)) o
    by None e rec = refl
    by (Some (end ys)) e rec = refl
    by (Some (last a ys)) e rec = refl
    by (Some (more a ys)) e rec =
        let f : length ys < length xs = (s xs).at (more a ys) e in
        ap (option_map (with_first a)) (rec ys (omega arith) (omega arith))

pub unroll : {A : Type 0} (turn : List ℕ → Option (Turn A)) → Shortens turn → (xs : List ℕ)
    → all_turns turn xs ≡ option_and_then (then_turn (all_turns turn)) (turn xs)
unroll {A = A} turn s xs = by (turn xs) refl
  where
    by : (o : Option (Turn A)) → turn xs ≡ o
        → option_and_then (then_turn (turns turn (length xs))) o ≡ option_and_then (then_turn (all_turns turn)) o
    by None e = refl
    by (Some (end ys)) e = refl
    by (Some (last a ys)) e = refl
    by (Some (more a ys)) e =
        let f : length ys < length xs = (s xs).at (more a ys) e in
        ap (option_map (with_first a)) (enough turn s (length xs) (suc (length ys)) ys (omega arith) (omega arith))

pub turns_at : {A : Type 0} (turn : List ℕ → Option (Turn A)) → Shortens turn → (xs : List ℕ) (t : Turn A) → turn xs ≡ Some t
    → all_turns turn xs ≡ then_turn (all_turns turn) t
turns_at turn s xs t e = unroll turn s xs ∙ ap (option_and_then (then_turn (all_turns turn))) e

-- ---- the loop of the code

abbrev pub with_front : {A : Type 0} → List A → List A × List ℕ → List A × List ℕ
with_front vs r = (vs ++ r.0, r.1)

-- vs are read, and xs is left
abbrev pub Goes : {A : Type 0} → (List ℕ → Option (Turn A)) → List ℕ → List A → List ℕ → Type 0
Goes turn start vs xs = all_turns turn start ≡ option_map (with_front vs) (all_turns turn xs)

pub goes_init : {A : Type 0} (turn : List ℕ → Option (Turn A)) (xs : List ℕ) → Goes turn xs [] xs
goes_init {A = A} turn xs = by (all_turns turn xs)
  where
    by : (o : Option (List A × List ℕ)) → o ≡ option_map (with_front []) o
    by None = refl
    by (Some r) = refl

pub goes_more : {A : Type 0} (turn : List ℕ → Option (Turn A)) → Shortens turn → (start : List ℕ) (vs : List A) (xs : List ℕ) (a : A)
    (ys : List ℕ) → Goes turn start vs xs → turn xs ≡ Some (more a ys) → Goes turn start (vs ++ a ∷ []) ys
goes_more {A = A} turn s start vs xs a ys g e =
    g ∙ (ap (option_map (with_front vs)) (turns_at turn s xs (more a ys) e) ∙ by (all_turns turn ys))
  where
    by : (o : Option (List A × List ℕ))
        → option_map (with_front vs) (option_map (with_first a) o) ≡ option_map (with_front (vs ++ a ∷ [])) o
    by None = refl
    by (Some r) = ap (λ us. Some (us, r.1)) (sym (append_assoc vs (a ∷ []) r.0))

pub goes_last : {A : Type 0} (turn : List ℕ → Option (Turn A)) → Shortens turn → (start : List ℕ) (vs : List A) (xs : List ℕ) (a : A)
    (ys : List ℕ) → Goes turn start vs xs → turn xs ≡ Some (last a ys) → all_turns turn start ≡ Some (vs ++ a ∷ [], ys)
goes_last turn s start vs xs a ys g e = g ∙ ap (option_map (with_front vs)) (turns_at turn s xs (last a ys) e)

pub goes_end : {A : Type 0} (turn : List ℕ → Option (Turn A)) → Shortens turn → (start : List ℕ) (vs : List A) (xs ys : List ℕ)
    → Goes turn start vs xs → turn xs ≡ Some (end ys) → all_turns turn start ≡ Some (vs, ys)
goes_end turn s start vs xs ys g e =
    g ∙ (ap (option_map (with_front vs)) (turns_at turn s xs (end ys) e) ∙ ap (λ us. Some (us, ys)) (append-nil vs))

pub goes_none : {A : Type 0} (turn : List ℕ → Option (Turn A)) → Shortens turn → (start : List ℕ) (vs : List A) (xs : List ℕ)
    → Goes turn start vs xs → turn xs ≡ None → all_turns turn start ≡ None
goes_none turn s start vs xs g e =
    g ∙ ap (option_map (with_front vs)) (unroll turn s xs ∙ ap (option_and_then (then_turn (all_turns turn))) e)
