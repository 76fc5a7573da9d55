-- One turn of a loop over a list, and its end.
use Rattle.std.proofs.Common.{◌≡◌, ◌∷◌, [], ℕ, zero, suc, ◌<◌, ◌≤◌, ◌+◌, List, Some, length, get_or}
use Rattle.std.proofs.Common.{drop, refl, sym, ap, ◌∙◌, arith, add-one}
use Rattle.tinyjson.specs.Index.{nth}
use Rattle.tinyjson.specs.View.{view, items_view}
use Rattle.tinyjson.specs.declared.value.JsonValue.{JsonValue}

pub drop_suc : {X : Type 0} (xs : List X) (i : ℕ) (x : X) → i < length xs → x ≡ get_or xs i x → drop i xs ≡ x ∷ drop (suc i) xs
drop_suc [] i x h e = absurd (omega arith)
drop_suc (y ∷ xs) zero x h e = ap (λ z. z ∷ xs) (sym e)
drop_suc (y ∷ xs) (suc i) x h e = drop_suc xs i x (omega arith) e

pub drop_item : {X : Type 0} (xs : List X) (i : ℕ) (x : X) → i < length xs → x ≡ get_or xs i x → drop i xs ≡ x ∷ drop (i + 1) xs
drop_item xs i x h e = rw add-one (drop_suc xs i x h e)

pub drop_end : {X : Type 0} (xs : List X) (i : ℕ) → length xs ≤ i → drop i xs ≡ []
drop_end [] zero h = refl
drop_end [] (suc i) h = refl
drop_end (x ∷ xs) zero h = absurd (omega arith)
drop_end (x ∷ xs) (suc i) h = drop_end xs i (omega arith)

-- what F gives for what is left is what it gives for all
module _ {X B : Type 0} (F : List X → B) (xs : List X) (i : ℕ) where
  pub turn_next : (x : X) → i < length xs → x ≡ get_or xs i x → F (x ∷ drop (i + 1) xs) ≡ F (drop (i + 1) xs) → F (drop i xs) ≡ F xs
      → F (drop (i + 1) xs) ≡ F xs
  turn_next x h e pass left = sym pass ∙ (sym (ap F (drop_item xs i x h e)) ∙ left)

  -- it is told by the one that comes next
  pub turn_stop : (b : B) (x : X) → i < length xs → x ≡ get_or xs i x → F (x ∷ drop (i + 1) xs) ≡ b → F (drop i xs) ≡ F xs → b ≡ F xs
  turn_stop b x h e stop left = sym stop ∙ (sym (ap F (drop_item xs i x h e)) ∙ left)

  pub turn_end : (b : B) → length xs ≤ i → F [] ≡ b → F (drop i xs) ≡ F xs → F xs ≡ b
  turn_end b h e left = sym left ∙ (ap F (drop_end xs i h) ∙ e)

-- n and what F counts in what is left are what it counts in all
module _ {X : Type 0} (F : List X → ℕ) (xs : List X) (i n : ℕ) where
  pub count_next : (x : X) (m k : ℕ) → i < length xs → x ≡ get_or xs i x → F (x ∷ drop (i + 1) xs) ≡ m + F (drop (i + 1) xs) → k ≡ n + m
      → n + F (drop i xs) ≡ F xs → k + F (drop (i + 1) xs) ≡ F xs
  count_next x m k h e one sum left =
      let next : F (drop i xs) ≡ m + F (drop (i + 1) xs) = ap F (drop_item xs i x h e) ∙ one in
      omega (arith, next, sum, left)

  pub count_end : length xs ≤ i → F [] ≡ 0 → n + F (drop i xs) ≡ F xs → n ≡ F xs
  count_end h e left =
      let none : F (drop i xs) ≡ 0 = ap F (drop_end xs i h) ∙ e in
      omega (arith, none, left)

pub nth_item : (vs : List JsonValue) (i : ℕ) (x : JsonValue) → i < length vs → x ≡ get_or vs i x → nth (items_view vs) i ≡ Some (view x)
nth_item [] i x h e = absurd (omega arith)
nth_item (v ∷ vs) zero x h e = ap (λ y. Some (view y)) (sym e)
nth_item (v ∷ vs) (suc i) x h e = nth_item vs i x (omega arith) e
