-- What a source of characters still gives, and what a call took from it. For private contracts.
use Rattle.std.specs.Prelude.{◌≡◌, ℕ, ◌<◌, Bool, true, false, List, [], ◌∷◌, ◌++◌}
use Rattle.std.specs.Prelude.{Option, Some, None, Result, Ok, Err, OnOk, IfSome}
use Rattle.std.specs.List.{AllByRecursion}
use Rattle.tinyjson_grammar.specs.Characters.{is_white, quotation_mark}
use Rattle.tinyjson_grammar.specs.Position.{Position, advance}
use Rattle.tinyjson_tokens.specs.declared.source.Lent.{Lent}
use Rattle.tinyjson_tokens.specs.declared.source.Lent.TheVariants.{All, Nothing}

-- How a source is seen: the list that it still gives, the first character of that list, or none, and its position.
pub record Sight (S : Type 0) : Type 1 where
  pub gives : S → List ℕ → Type 0
  pub shows : S → Option ℕ → Type 0
  pub place : S → Position
  pub line_fits : (p : S) → (place p).line < 18446744073709551616
  pub column_fits : (p : S) → (place p).column < 18446744073709551616
  pub one : (p : S) (o u : Option ℕ) → shows p o → shows p u → o ≡ u
  pub first : (p : S) (zs : List ℕ) (c : ℕ) → shows p (Some c) → gives p zs → (cs : List ℕ) × (zs ≡ c ∷ cs)
  pub none : (p : S) (zs : List ℕ) → shows p None → gives p zs → zs ≡ []

-- the characters of a string: those that are lent, or those in the buffer
abbrev pub characters : Lent → List ℕ → List ℕ → List ℕ
characters All lent held = lent
characters Nothing lent held = held

-- what was shown is still shown
abbrev pub Still : {S : Type 0} → Sight S → S → S → Type 0
Still sight p q = (o : Option ℕ) → sight.shows p o → sight.shows q o

module _ {S : Type 0} (sight : Sight S) where
  -- a call took xs from p and left q: any list that p gave begins with xs, and q gives the rest
  pub record Takes (p : S) (xs : List ℕ) (q : S) : Type 0 where
    pub gives : (zs : List ℕ) → sight.gives p zs → (rest : List ℕ) × (zs ≡ xs ++ rest) × sight.gives q rest
    pub moves : sight.place q ≡ advance (sight.place p) xs

  -- a call took white space
  pub record Whites (p q : S) : Type 0 where
    pub taken : List ℕ
    pub white : AllByRecursion (λ c. is_white c ≡ true) taken
    pub takes : Takes p taken q

  -- A call took characters that pass a test, a run, and added them to a text; or there was no memory for all of them.
  pub record TakesRun (test : ℕ → Bool) {E : Type 0} (p : S) (old : List ℕ) (r : Result (Unit {0}) E) (new : List ℕ) (q : S) : Type 0 where
    pub taken : List ℕ
    pub pass : AllByRecursion (λ c. test c ≡ true) taken
    pub takes : Takes p taken q
    pub added : OnOk r (new ≡ old ++ taken)

  -- the next character does not pass, or there is none
  abbrev pub Stops : (ℕ → Bool) → S → Type 0
  Stops test q = (o : Option ℕ) × sight.shows q o × IfSome o (λ c. test c ≡ false)

  -- A call took a run, which it lends, and the quote after it; or it took a run alone, as above.
  abbrev pub TakesQuoted : (test : ℕ → Bool) → (S → List ℕ) → {E : Type 0} → S → List ℕ → Result Lent E → List ℕ → S → Type 0
  TakesQuoted test lent p old (Ok All) new q = AllByRecursion (λ c. test c ≡ true) (lent q)
      × Takes p (lent q ++ quotation_mark ∷ []) q
  TakesQuoted test lent p old (Ok Nothing) new q = TakesRun test {E = Unit {0}} p old (Ok tt) new q
  TakesQuoted test lent p old (Err e) new q = TakesRun test p old (Err e) new q
