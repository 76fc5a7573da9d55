-- Runs that rise: which one a code point is in.
use Rattle.std.proofs.Common.{◌≡◌, ℕ, zero, suc, ◌+◌, ◌/◌, ◌%◌, ◌<◌, ◌≤◌, true, nat_lt, List, [], ◌∷◌, length, drop}
use Rattle.std.proofs.Common.{slice_index, refl, sym, ap, ◌∙◌, arith, lt-ltb, le-ltb, ltb-true, add-one, le_of_suc-le-suc, not-suc-le-zero}
use Rattle.std.proofs.lemmas.Bool.{cond-true, cond-false, and_parts}
use Rattle.std.proofs.lemmas.List.{drop_more}
use Rattle.text_categories.specs.Runs.{run_category, ends_rise}

pub category_here : (run : ℕ) (runs : List ℕ) (c : ℕ) → c < run / 32 → run_category (run ∷ runs) c ≡ run % 32
unfolding run_category
category_here run runs c h = cond-true _ _ _ (lt-ltb c (run / 32) h)

category_later : (run : ℕ) (runs : List ℕ) (c : ℕ) → run / 32 ≤ c → run_category (run ∷ runs) c ≡ run_category runs c
unfolding run_category
category_later run runs c h = cond-false _ _ _ (le-ltb c (run / 32) h)

pub category_nothing : (c : ℕ) → run_category [] c ≡ 27
unfolding run_category
category_nothing c = refl

rise_parts : (n run : ℕ) (runs : List ℕ) → ends_rise n (run ∷ runs) ≡ true → (n < run / 32) × (ends_rise (run / 32) runs ≡ true)
unfolding ends_rise
rise_parts n run runs h =
    let parts = and_parts (nat_lt n (run / 32)) (ends_rise (run / 32) runs) h in
    (ltb-true n (run / 32) parts.0, parts.1)

rise_at : (n : ℕ) (runs : List ℕ) (k : ℕ) → ends_rise n runs ≡ true → k < length runs → n < slice_index runs k / 32
rise_at n [] k h l = absurd (not-suc-le-zero l)
rise_at n (run ∷ runs) zero h l = (rise_parts n run runs h).0
rise_at n (run ∷ runs) (suc k) h l =
    let parts = rise_parts n run runs h in
    let head = parts.0 in
    let rest = rise_at (run / 32) runs k parts.1 (le_of_suc-le-suc l) in
    omega arith

category_past : (n : ℕ) (runs : List ℕ) (k c : ℕ) → ends_rise n runs ≡ true → k < length runs → slice_index runs k / 32 ≤ c
    → run_category runs c ≡ run_category (drop (suc k) runs) c
category_past n [] k c h l e = absurd (not-suc-le-zero l)
category_past n (run ∷ runs) zero c h l e = category_later run runs c e
category_past n (run ∷ runs) (suc k) c h l e =
    let parts = rise_parts n run runs h in
    let rest = rise_at (run / 32) runs k parts.1 (le_of_suc-le-suc l) in
    let after : slice_index runs k / 32 ≤ c = e in
    category_later run runs c (omega arith) ∙ category_past (run / 32) runs k c parts.1 (le_of_suc-le-suc l) e

-- behind the end of a run, the runs up to it say nothing
pub category_after : (runs : List ℕ) (k c : ℕ) → ends_rise 0 runs ≡ true → k < length runs → slice_index runs k / 32 ≤ c
    → run_category runs c ≡ run_category (drop (k + 1) runs) c
category_after runs k c h l e = category_past 0 runs k c h l e ∙ ap (λ m. run_category (drop m runs) c) (sym (add-one k))

-- the runs from a place on begin with the run at that place
pub category_drop : (runs : List ℕ) (i c : ℕ) → i < length runs
    → run_category (drop i runs) c ≡ run_category (slice_index runs i ∷ drop (i + 1) runs) c
category_drop runs i c h = ap (λ l. run_category l c) (drop_more runs i 0 h)
