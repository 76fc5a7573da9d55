-- How a cursor over an iterator goes on.
use Rattle.std.proofs.Common.{◌≡◌, ℕ, Bool, true, false, not, is_some, List, [], ◌∷◌, ◌++◌}
use Rattle.std.proofs.Common.{Option, Some, None, refl, sym, ap, ◌∙◌, ◌<◌, ◌≢◌}
use Rattle.std.proofs.Common.{◌+◌, ◌≤◌, arith, length, true≢false, append_assoc, subst, Result, Ok, Err, OnOk}
use Rattle.std.specs.Option.{option_to_list}
use Rattle.std.specs.Iterator.{Count, MakesProgress}
use Rattle.std.proofs.lemmas.Bool.Decides.{nat_tests}
use Rattle.std.proofs.lemmas.List.{length-append}
use Rattle.tinyjson_tokens.specs.declared.cursor.Cursor.{Cursor}
use Rattle.tinyjson_tokens.specs.Cursor.{Ready, Gives, Begins, Shows, Goes, place}
use Rattle.tinyjson_grammar.specs.Position.{advance, capped, position_at}
use Rattle.tinyjson_grammar.proofs.Callers.{advance_nil, advance_append}

-- what a call of the iterator leaves may be called, and ends
pub Ready_filled : {S : Type 0} (can : S → Type 0) (remaining : S → Count) (p : Cursor S) (r : Option ℕ) (t : S) (d : Bool)
    → Ready can remaining p → p.done ≡ false → d ≡ not (is_some r)
    → MakesProgress can remaining p.it r t → Ready can remaining (record { it = t; peeked = r; done = d; line = p.line; column = p.column })
Ready_filled can remaining p None t d a f e m = λ h. absurd (true≢false (sym e ∙ h))
Ready_filled can remaining p (Some x) t d a f e m = λ h. let k = m.on (a f).1 in (k.0, k.1)

pub none_from : (o : Option ℕ) → is_some o ≡ false → o ≡ None
none_from None h = refl
none_from (Some x) h = absurd (true≢false h)

pub none_shown : {S : Type 0} (p : Cursor S) (o : Option ℕ) → p.peeked ≡ None → p.done ≡ false → Shows p o → ⊥
none_shown p None n f s = true≢false (sym s.ended ∙ f)
none_shown p (Some x) n f s = true≢false (ap is_some (sym s.peeked ∙ n))

module _ {S : Type 0} (steps : S → Option ℕ → S → Type 0) where
  -- what the iterator returns goes into the one place that is looked at
  pub filled : (p : Cursor S) (r : Option ℕ) (t : S) (d : Bool) (zs : List ℕ) → p.peeked ≡ None → p.done ≡ false → steps p.it r t
      → d ≡ not (is_some r) → Gives steps p zs → Gives steps (record { it = t; peeked = r; done = d; line = p.line; column = p.column }) zs
  filled p None t d zs n f s e g =
      let k : zs ≡ g.later = g.is ∙ ap (λ o. option_to_list o ++ g.later) n in
      let last : (l : List ℕ) → Begins steps p.it l → l ≡ [] = elim [ [] ↦ λ b. refl | y ∷ ys ↦ λ b. absurd (b.0 t s) ] in
      record { later = []; is = k ∙ last g.later (g.source f); source = λ h. absurd (true≢false (sym e ∙ h)); ended = λ h. refl }
  filled p (Some x) t d zs n f s e g =
      let k : zs ≡ g.later = g.is ∙ ap (λ o. option_to_list o ++ g.later) n in
      let more : (l : List ℕ) → Begins steps p.it l → (m : List ℕ) × (l ≡ x ∷ m) × Begins steps t m =
      elim [ [] ↦ λ b. absurd (b x t s) | y ∷ ys ↦ λ b. let w = b.1 x t s in (ys, ap (λ c. c ∷ ys) (sym w.0), w.1) ] in
      let w = more g.later (g.source f) in
      record { later = w.0; is = k ∙ w.1; source = λ h. w.2; ended = λ h. absurd (true≢false (sym h ∙ e)) }

  -- the character that is looked at is taken
  pub taken : (p : Cursor S) (c l k : ℕ) (zs : List ℕ) → p.peeked ≡ Some c → Gives steps p zs → (rest : List ℕ) × (zs ≡ c ∷ rest)
      × Gives steps (record { it = p.it; peeked = None; done = p.done; line = l; column = k }) rest
  taken p c l k zs e g = (
    g.later,
    g.is ∙ ap (λ o. option_to_list o ++ g.later) e,
    record { later = g.later; is = refl; source = g.source; ended = g.ended },
  )

  -- where nothing was looked at and the end did not come, nothing is known
  pub not_shown : (p : Cursor S) (o r : Option ℕ) → p.peeked ≡ None → p.done ≡ false → Shows p o → r ≡ o
  not_shown p o r n f s = absurd (none_shown p o n f s)

-- ---- what calls took

-- in a class without the line feed each character takes one column
pub run_column : (test : ℕ → Bool) (l k c n : ℕ) → l < 18446744073709551616 → test 10 ≡ false → test c ≡ true → n ≡ capped (k + 1)
    → position_at l n ≡ advance (position_at l k) (c ∷ [])
unfolding advance
run_column test l k c n h line p e =
    let other : c ≢ 10 = λ is. true≢false (sym p ∙ ap test is ∙ line) in
    grind (arith, nat_tests)

-- what was added to a text that grew before
pub OnOk_append : {E : Type 0} (r : Result (Unit {0}) E) (new ys old xs mid : List ℕ) → mid ≡ old ++ xs → OnOk r (new ≡ mid ++ ys)
    → OnOk r (new ≡ old ++ (xs ++ ys))
OnOk_append (Ok u) new ys old xs mid m h = h ∙ ap (λ t. t ++ ys) m ∙ append_assoc old xs ys
OnOk_append (Err e) new ys old xs mid m h = tt

-- a text that grew is another one
pub OnOk_grown : {E : Type 0} (r : Result (Unit {0}) E) (P : Type 0) (new old xs : List ℕ) (x : ℕ) → OnOk r (new ≡ old ++ (x ∷ xs))
    → OnOk r (new ≡ old → P)
OnOk_grown (Ok u) P new old xs x h = λ e. absurd (omega (arith, ap length (sym e ∙ h), length-append old (x ∷ xs)))
OnOk_grown (Err e) P new old xs x h = tt

-- one more character was added, and one fewer is left
pub OnOk_fewer : {E : Type 0} (r : Result (Unit {0}) E) (a b k : ℕ) (new mid old : List ℕ) (x : ℕ) → mid ≡ old ++ x ∷ [] → b < k
    → OnOk r (a + length new ≤ b + length mid) → OnOk r (a + length new ≤ k + length old)
OnOk_fewer (Ok u) a b k new mid old x m h w = omega (arith, ap length m, length-append old (x ∷ []), h, w)
OnOk_fewer (Err e) a b k new mid old x m h w = tt

module _ {S : Type 0} (steps : S → Option ℕ → S → Type 0) where
  pub Goes_nil : (p : Cursor S) → p.line < 18446744073709551616 → p.column < 18446744073709551616 → Goes steps p [] p
  Goes_nil p l k = record { gives = λ zs g. (zs, refl, g); moves = sym (advance_nil p.line p.column l k) }

  pub Goes_append : (p q r : Cursor S) (xs ys : List ℕ) → Goes steps p xs q → Goes steps q ys r → Goes steps p (xs ++ ys) r
  Goes_append p q r xs ys a b = record {
    gives = λ zs g.
        let x = a.gives zs g in
        let y = b.gives x.0 x.2 in
        (y.0, x.1 ∙ ap (λ t. xs ++ t) y.1 ∙ sym (append_assoc xs ys y.0), y.2);
    moves = b.moves ∙ ap (λ t. advance t ys) a.moves ∙ advance_append (place p) xs ys;
  }

  -- the iterator's next character is looked at
  pub Goes_filled : (p q : Cursor S) (xs : List ℕ) (r : Option ℕ) (t : S) (d : Bool) → Goes steps p xs q → q.peeked ≡ None → q.done ≡ false
      → steps q.it r t → d ≡ not (is_some r) → Goes steps p xs (record { it = t; peeked = r; done = d; line = q.line; column = q.column })
  Goes_filled p q xs r t d a n f s e = record {
    gives = λ zs g. let x = a.gives zs g in
        (x.0, x.1, filled steps q r t d x.0 n f s e x.2);
    moves = a.moves;
  }

  -- the iterator's next character is taken at once
  pub Goes_drawn : (p q : Cursor S) (xs : List ℕ) (c : ℕ) (t : S) (l k : ℕ) → Goes steps p xs q → q.peeked ≡ None → q.done ≡ false
      → steps q.it (Some c) t → position_at l k ≡ advance (place q) (c ∷ [])
      → Goes steps p (xs ++ c ∷ []) (record { it = t; peeked = q.peeked; done = q.done; line = l; column = k })
  Goes_drawn p q xs c t l k a n f s m =
      let r : Cursor S = record { it = t; peeked = Some c; done = q.done; line = q.line; column = q.column } in
      let after : Option ℕ → Cursor S = λ o. record { it = t; peeked = o; done = q.done; line = l; column = k } in
      subst (λ o. Goes steps p (xs ++ c ∷ []) (after o)) (sym n)
      (Goes_append p r (after None) xs (c ∷ []) (Goes_filled p q xs (Some c) t q.done a n f s f)
      (record { gives = λ zs g. taken steps r c l k zs refl g; moves = m }))
