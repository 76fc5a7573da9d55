-- Single turns over a string, and single selectors.
use Rattle.std.proofs.Common.{◌≡◌, ◌≢◌, ℕ, true, ◌==◌, List, [], ◌∷◌, length, Option, Some, None}
use Rattle.std.proofs.Common.{option_map, option_and_then, refl, sym, ap, ◌∙◌, subst, arith}
use Rattle.std.proofs.lemmas.Bool.{cond-true, cond-false, ne_eqb, eq-eqb}
use Rattle.std.specs.Prelude.{ℤ}
use Rattle.tinyjson_path_query.specs.Forms as form
use Rattle.tinyjson_path_query.specs.Grammar.{after_blanks, name_chars, is_name_first}
use Rattle.tinyjson_path_query.specs.Fronts.{Turn, end, more, more_of, string_turn, character_front, plain_front}
use Rattle.tinyjson_path_query.specs.Fronts.{bound_front, step_front, slice_end, whole_slice, slice_front, int_front, int_end, index_end}
use Rattle.tinyjson_path_query.specs.Fronts.{int_selector_front, is_quote, named, quoted_front, shorthand_front}
use Rattle.tinyjson_path_query.proofs.Turns.{Goes, goes_init}

pub goes_from : {A : Type 0} (turn : List ℕ → Option (Turn A)) (xs : List ℕ) (vs : List A) → vs ≡ [] → Goes turn xs vs xs
goes_from turn xs vs e = subst (λ us. Goes turn xs us xs) (sym e) (goes_init turn xs)

pub goes_at : {A : Type 0} (turn : List ℕ → Option (Turn A)) (start xs : List ℕ) (vs us : List A) → us ≡ vs → Goes turn start vs xs
    → Goes turn start us xs
goes_at turn start xs vs us e g = subst (λ ws. Goes turn start ws xs) (sym e) g

-- ---- strings

pub string_nothing : (quote : ℕ) (xs : List ℕ) → length xs ≡ 0 → string_turn quote xs ≡ None
string_nothing quote [] e = refl
string_nothing quote (c ∷ cs) e = absurd (omega arith)

pub string_closes : (quote : ℕ) (xs cs : List ℕ) (c : ℕ) → xs ≡ c ∷ cs → c ≡ quote → string_turn quote xs ≡ Some (end cs)
string_closes quote xs cs c e f = ap (string_turn quote) e ∙ cond-true (c == quote) _ _ (eq-eqb c quote f)

pub string_goes_on : (quote : ℕ) (xs cs : List ℕ) (c : ℕ) → xs ≡ c ∷ cs → c ≢ quote
    → string_turn quote xs ≡ option_map more_of (character_front quote xs)
string_goes_on quote xs cs c e f =
    ap (string_turn quote) e
    ∙ (cond-false (c == quote) _ _ (ne_eqb c quote f) ∙ ap (λ ys. option_map more_of (character_front quote ys)) (sym e))

pub string_more : (quote : ℕ) (xs cs : List ℕ) (c d : ℕ) (ys : List ℕ) → xs ≡ c ∷ cs → c ≢ quote → character_front quote xs ≡ Some (d, ys)
    → string_turn quote xs ≡ Some (more d ys)
string_more quote xs cs c d ys e f h = string_goes_on quote xs cs c e f ∙ ap (option_map more_of) h

pub string_none : (quote : ℕ) (xs cs : List ℕ) (c : ℕ) → xs ≡ c ∷ cs → c ≢ quote → character_front quote xs ≡ None
    → string_turn quote xs ≡ None
string_none quote xs cs c e f h = string_goes_on quote xs cs c e f ∙ ap (option_map more_of) h

-- ---- single selectors

pub slice_at : (start stop step : Option ℤ) (xs zs ys us : List ℕ) → zs ≡ after_blanks xs → bound_front zs ≡ Some (stop, ys)
    → step_front ys ≡ Some (step, us) → slice_front start xs ≡ Some (form.slice start stop step, us)
slice_at start stop step xs zs ys us e f g =
    ap (λ ws. option_and_then (slice_end start) (bound_front ws)) (sym e)
    ∙ (ap (option_and_then (slice_end start)) f ∙ ap (option_map (whole_slice start stop)) g)

pub index_at : (xs ys zs : List ℕ) (i : ℤ) → int_front xs ≡ Some (i, ys) → zs ≡ after_blanks ys
    → int_selector_front xs ≡ index_end i zs
index_at xs ys zs i e f = ap (option_and_then int_end) e ∙ ap (index_end i) (sym f)

pub index_nothing : (i : ℤ) (zs : List ℕ) → length zs ≡ 0 → index_end i zs ≡ Some (form.index i, zs)
index_nothing i [] e = refl
index_nothing i (c ∷ cs) e = absurd (omega arith)

pub index_other : (i : ℤ) (zs cs : List ℕ) (c : ℕ) → zs ≡ c ∷ cs → c ≢ 58 → index_end i zs ≡ Some (form.index i, zs)
index_other i zs cs c e f =
    ap (index_end i) e ∙ (cond-false (c == 58) _ _ (ne_eqb c 58 f) ∙ ap (λ us. Some (form.index i, us)) (sym e))

pub index_colon : (i j : ℤ) (zs cs : List ℕ) (c : ℕ) → zs ≡ c ∷ cs → c ≡ 58 → j ≡ i → index_end i zs ≡ slice_front (Some j) cs
index_colon i j zs cs c e f g = ap (index_end i) (e ∙ ap (λ d. d ∷ cs) f) ∙ ap (λ k. slice_front (Some k) cs) (sym g)

pub quoted_at : (xs cs : List ℕ) (c : ℕ) (ds ys zs : List ℕ) → xs ≡ c ∷ cs → is_quote c ≡ true → quoted_front c cs ≡ Some (ds, ys)
    → zs ≡ after_blanks ys → plain_front xs ≡ Some (form.name ds, zs)
quoted_at xs cs c ds ys zs e q h f =
    ap plain_front e ∙ (cond-true (is_quote c) _ _ q ∙ (ap (option_map named) h ∙ ap (λ us. Some (form.name ds, us)) (sym f)))

pub quoted_none : (xs cs : List ℕ) (c : ℕ) → xs ≡ c ∷ cs → is_quote c ≡ true → quoted_front c cs ≡ None → plain_front xs ≡ None
quoted_none xs cs c e q h = ap plain_front e ∙ (cond-true (is_quote c) _ _ q ∙ ap (option_map named) h)

pub wildcard_at : (xs cs zs : List ℕ) (c : ℕ) → xs ≡ c ∷ cs → c ≡ 42 → zs ≡ after_blanks cs → plain_front xs ≡ Some (form.wildcard, zs)
wildcard_at xs cs zs c e f z = ap plain_front (e ∙ ap (λ d. d ∷ cs) f) ∙ ap (λ ys. Some (form.wildcard, ys)) (sym z)

pub colon_at : (xs cs : List ℕ) (c : ℕ) → xs ≡ c ∷ cs → c ≡ 58 → plain_front xs ≡ slice_front None cs
colon_at xs cs c e f = ap plain_front (e ∙ ap (λ d. d ∷ cs) f)

pub shorthand_at : (xs cs : List ℕ) (c : ℕ) (ds ys : List ℕ) → xs ≡ c ∷ cs → c ≢ 42 → is_name_first c ≡ true
    → ds ≡ c ∷ (name_chars cs).0 → ys ≡ (name_chars cs).1 → shorthand_front xs ≡ Some (form.name ds, ys)
shorthand_at xs cs c ds ys e n h f g =
    ap shorthand_front e
    ∙ (cond-false (c == 42) _ _ (ne_eqb c 42 n)
    ∙ (cond-true (is_name_first c) _ _ h
    ∙ (ap (λ us. Some (form.name us, (name_chars cs).1)) (sym f) ∙ ap (λ us. Some (form.name ds, us)) (sym g))))
