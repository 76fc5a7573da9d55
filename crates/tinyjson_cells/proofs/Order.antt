-- Members that are paired, sorted, and of equal keys the last: they are what `put` in turn gives.
use Rattle.std.proofs.Common.{◌≡◌, ℕ, ◌+◌, ◌≤◌, ◌<◌, min, suc, zero, Bool, true, false, cond, List, [], ◌∷◌}
use Rattle.std.proofs.Common.{◌++◌, length, take, get_or, refl, sym, ◌∙◌, ap, append_assoc, append-nil, length-take, arith}
use Rattle.std.proofs.lemmas.List.{take_more, nil_from_length}
use Rattle.tinyjson_cells.specs.Order.{paired, comes_again, lasts}
use Rattle.tinyjson_cells.specs.declared.store.Span.{Span}
use Rattle.tinyjson_cells.specs.declared.store.Cell.{Cell}
use Rattle.tinyjson_cells.specs.declared.store.Member.{Member}
use Rattle.tinyjson_cells.specs.declared.texts.Texts.{Texts}

-- ---- pairs

paired_push : (ks : List Span) (vs : List Cell) (k : Span) (v : Cell) → length ks ≡ length vs
    → paired (ks ++ k ∷ []) (vs ++ v ∷ []) ≡ paired ks vs ++ record { key = k; value = v } ∷ []
paired_push [] [] k v e = refl
paired_push [] (w ∷ vs) k v e = absurd (omega (arith, e))
paired_push (l ∷ ks) [] k v e = absurd (omega (arith, e))
paired_push (l ∷ ks) (w ∷ vs) k v e = ap (λ z. record { key = l; value = w } ∷ z) (paired_push ks vs k v (omega (arith, e)))

pub paired_more : (ks : List Span) (vs : List Cell) (i : ℕ) (k : Span) (v : Cell) → i < length ks → i < length vs
    → paired (take i ks) (take i vs) ++ record {
      key = get_or ks i k;
      value =
          get_or vs i v;
    } ∷ [] ≡ paired (take (i + 1) ks) (take (i + 1) vs)
paired_more ks vs i k v a b =
    let long : length (take i ks) ≡ length (take i vs) = omega (arith, length-take i ks, length-take i vs) in
    sym (paired_push (take i ks) (take i vs) (get_or ks i k) (get_or vs i v) long)
    ∙ ap (λ z. paired z (take i vs ++ get_or vs i v ∷ [])) (sym (take_more ks i k a))
    ∙ ap (paired (take (i + 1) ks)) (sym (take_more vs i v b))

pub paired_all : (ks : List Span) (vs : List Cell) (i : ℕ) → min (length ks) (length vs) ≤ i
    → paired (take i ks) (take i vs) ≡ paired ks vs
paired_all [] vs zero h = refl
paired_all [] vs (suc i) h = refl
paired_all (k ∷ ks) [] zero h = refl
paired_all (k ∷ ks) [] (suc i) h = refl
paired_all (k ∷ ks) (v ∷ vs) zero h = absurd (omega arith)
paired_all (k ∷ ks) (v ∷ vs) (suc i) h = ap (λ z. record { key = k; value = v } ∷ z) (paired_all ks vs i (omega arith))

-- ---- the loop that keeps the last

either : (b : Bool) (ms ns : List Member) (m : Member) → (ms ++ cond b [] (m ∷ [])) ++ ns ≡ ms ++ cond b ns (m ∷ ns)
either true ms ns m = ap (λ z. z ++ ns) (append-nil ms)
either false ms ns m = append_assoc ms (m ∷ []) ns

pub lasts_next : (xs : Texts) (old ms new : List Member) (m : Member) (rest others : List Member) → rest ≡ m ∷ others
    → new ≡ ms ++ cond (comes_again xs m others) [] (m ∷ []) → ms ++ lasts xs rest ≡ old → new ++ lasts xs others ≡ old
lasts_next xs old ms new m rest others e n h =
    ap (λ z. z ++ lasts xs others) n ∙ either (comes_again xs m others) ms (lasts xs others) m ∙ ap (λ z. ms ++ lasts xs z) (sym e) ∙ h

pub lasts_end : (xs : Texts) (old ms rest : List Member) → length rest ≡ 0 → ms ++ lasts xs rest ≡ old → ms ≡ old
lasts_end xs old ms rest n h = sym (append-nil ms) ∙ ap (λ z. ms ++ lasts xs z) (sym (nil_from_length rest n)) ∙ h
