-- The steps that take the dots out of a path.
use Rattle.std.proofs.Common.{◌≡◌, ◌∷◌, [], ◌++◌, ℕ, suc, zero, ◌<◌, ◌≤◌, Bool, true, false, List, cond, length, codes}
use Rattle.std.proofs.Common.{Option, Some, None, refl, sym, ap, ◌∙◌, arith, append-nil, length-append}
use Rattle.std.specs.Option.{option_map_or}
use Rattle.text_uri.specs.Dots.{Buffers, slash_for, after_segment, is_dots, first_segment, after_first_segment}
use Rattle.text_uri.specs.Dots.{step, steps, without_dots}
use Rattle.text_uri.specs.Letters.{is_slash, after, before_last_slash}
use Rattle.text_uri.proofs.Fronts.{after_splits}
use Rattle.text_uri.proofs.Cuts.{from_at_most}

-- ---- the steps, from the last one

module _ (out input : List ℕ) where
  abbrev kept : List ℕ → Buffers
  kept rest = (out, rest)

  abbrev back : List ℕ → Buffers
  back rest = (before_last_slash out, rest)

  abbrev step_d : Buffers
  step_d = cond (is_dots input) (out, []) (out ++ first_segment input, after_first_segment input)

  abbrev step_c : Buffers
  step_c = option_map_or {U = Buffers} back (after_segment (codes "/..") input) step_d

  abbrev step_b : Buffers
  step_b = option_map_or {U = Buffers} kept (after_segment (codes "/.") input) step_c

  abbrev step_a : Buffers
  step_a = option_map_or {U = Buffers} kept (after (codes "./") input) step_b

-- ---- each step takes one byte at least

abbrev Falls : List ℕ → Buffers → Type 0
Falls input b = length b.1 < length input

either : (input : List ℕ) (f : List ℕ → Buffers) (o : Option (List ℕ)) (d : Buffers) → ((r : List ℕ) → o ≡ Some r → Falls input (f r))
    → Falls input d → Falls input (option_map_or f o d)
either input f None d h g = g
either input f (Some r) d h g = h r refl

front_falls : (front input r : List ℕ) → 0 < length front → after front input ≡ Some r → length r < length input
front_falls front input r l e = omega (arith, ap length (after_splits front input r e), length-append front r)

-- where `/` stands for two bytes or more
segment_falls : (front input r : List ℕ) → 1 < length front → after_segment front input ≡ Some r → length r < length input
segment_falls front input r l e = by (after front input) refl e
  where
    by : (o : Option (List ℕ)) → after front input ≡ o → slash_for o ≡ Some r → length r < length input
    by None a e = cc
    by (Some []) a e =
        let one : codes "/" ≡ r = cc in
        omega (arith, ap length (after_splits front input [] a), length-append front [], ap length one)
    by (Some (c ∷ cs)) a e = tested (is_slash c) e
      where
        tested : (b : Bool) → cond b (Some (c ∷ cs)) None ≡ Some r → length r < length input
        tested true e =
            let same : c ∷ cs ≡ r = cc in
            omega (arith, ap length (after_splits front input (c ∷ cs) a), length-append front (c ∷ cs), ap length same)
        tested false e = cc

pub step_falls : (out input : List ℕ) → 0 < length input → length (step out input).1 < length input
step_falls out [] l = absurd (omega (arith, l))
step_falls out (c ∷ cs) l =
    either (c ∷ cs) (kept out (c ∷ cs)) (after (codes "../") (c ∷ cs)) (step_a out (c ∷ cs))
    (λ r e. front_falls (codes "../") (c ∷ cs) r (omega arith) e)
    (either (c ∷ cs) (kept out (c ∷ cs)) (after (codes "./") (c ∷ cs)) (step_b out (c ∷ cs))
    (λ r e. front_falls (codes "./") (c ∷ cs) r (omega arith) e)
    (either (c ∷ cs) (kept out (c ∷ cs)) (after_segment (codes "/.") (c ∷ cs)) (step_c out (c ∷ cs))
    (λ r e. segment_falls (codes "/.") (c ∷ cs) r (omega arith) e)
    (either (c ∷ cs) (back out (c ∷ cs)) (after_segment (codes "/..") (c ∷ cs)) (step_d out (c ∷ cs))
    (λ r e. segment_falls (codes "/..") (c ∷ cs) r (omega arith) e)
    (by (is_dots (c ∷ cs))))))
  where
    by : (b : Bool) → Falls (c ∷ cs) (cond b (out, []) (out ++ first_segment (c ∷ cs), after_first_segment (c ∷ cs)))
    by true = omega arith
    by false = omega (arith, from_at_most is_slash cs)

-- ---- the loop

pub record Leads (path out input : List ℕ) : Type 0 where
  pub count : ℕ
  pub enough : length input ≤ count
  pub same : (steps count (out, input)).0 ≡ without_dots path

pub leads_first : (path out : List ℕ) → out ≡ [] → Leads path out path
leads_first path out e = record {
  count = length path;
  enough = omega arith;
  same = ap (λ xs. (steps (length path) (xs, path)).0) e;
}

pub leads_on : (path out input out' input' : List ℕ) → 0 < length input → out' ≡ (step out input).0 → input' ≡ (step out input).1
    → Leads path out input → Leads path out' input'
leads_on path out input out' input' l a b h = by h.count h.enough h.same
  where
    by : (n : ℕ) → length input ≤ n → (steps n (out, input)).0 ≡ without_dots path → Leads path out' input'
    by zero m e = absurd (omega (arith, l, m))
    by (suc n) m e = record {
      count = n;
      enough = omega (arith, ap length b, step_falls out input l);
      same = ap (λ xs. (steps n (xs, input')).0) a ∙ (ap (λ xs. (steps n ((step out input).0, xs)).0) b ∙ e);
    }

idle : (n : ℕ) (out : List ℕ) → (steps n (out, [])).0 ≡ out
idle zero out = refl
idle (suc n) out = ap (λ xs. (steps n (xs, [])).0) (append-nil out) ∙ idle n out

pub leads_last : (path out input : List ℕ) → length input ≡ 0 → Leads path out input → out ≡ without_dots path
leads_last path out [] e h = sym (idle h.count out) ∙ h.same
leads_last path out (c ∷ cs) e h = absurd (omega (arith, e))
