-- A loop over the items of a vector that is taken by value.
use Rattle.std.proofs.Common.{◌≡◌, ◌+◌, ℕ, List, [], ◌∷◌, ◌++◌, length, append_assoc, append-nil, Global, sym, ap, ◌∙◌, arith}
use Rattle.std.proofs.lemmas.List.{nil_from_length}
use Rattle.std.specs.Vec.Iter.{into_iter_items, into_iter_len}
use Rattle.std.specs.declared.vec.IntoIter.{IntoIter}
use Rattle.tinyjson.specs.declared.value.JsonValue.{JsonValue}

-- A loop over the items `vs` has those of the iterator left.
pub record IsLeft (vs : List JsonValue) (it : IntoIter JsonValue Global) : Type 0 where
  pub done : List JsonValue
  pub split : vs ≡ done ++ into_iter_items it
  pub count : into_iter_len it ≡ length (into_iter_items it)

-- at the start, nothing is done
abbrev pub left_begins : (vs : List JsonValue) (it : IntoIter JsonValue Global) → into_iter_items it ≡ vs → into_iter_len it ≡ length vs
    → IsLeft vs it
left_begins vs it items count = record { done = []; split = sym items; count = count ∙ ap length (sym items) }

-- what is left is counted right after a turn, too
pub one_less : (n : ℕ) (it : IntoIter JsonValue Global) (v : JsonValue) (rest : List JsonValue) → n + 1 ≡ into_iter_len it
    → into_iter_len it ≡ length (into_iter_items it) → into_iter_items it ≡ v ∷ rest → n ≡ length rest
one_less n it v rest steps count items = let whole = ap length items in omega (arith, steps, count, whole)

-- after a turn, its item is done too
abbrev pub left_next : (vs : List JsonValue) (it more : IntoIter JsonValue Global) (v : JsonValue) → IsLeft vs it
    → into_iter_items it ≡ v ∷ into_iter_items more → into_iter_len more + 1 ≡ into_iter_len it → IsLeft vs more
left_next vs it more v r items steps = record {
  done = r.done ++ v ∷ [];
  split = r.split ∙ (ap (λ x. r.done ++ x) items ∙ sym (append_assoc r.done (v ∷ []) (into_iter_items more)));
  count = one_less (into_iter_len more) it v (into_iter_items more) steps r.count items;
}

-- at the end, nothing is left
pub none_left : (vs : List JsonValue) (it : IntoIter JsonValue Global) → IsLeft vs it → into_iter_len it ≡ 0 → into_iter_items it ≡ []
none_left vs it r none = nil_from_length (into_iter_items it) (sym r.count ∙ none)

-- and all is done
pub left_ends : (vs : List JsonValue) (it : IntoIter JsonValue Global) (r : IsLeft vs it) → into_iter_len it ≡ 0 → vs ≡ r.done
left_ends vs it r none = r.split ∙ (ap (λ x. r.done ++ x) (none_left vs it r none) ∙ append-nil r.done)
