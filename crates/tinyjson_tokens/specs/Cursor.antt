-- What a cursor over an iterator still gives. For private contracts.
use Rattle.std.specs.Prelude.{◌≡◌, ℕ, ◌+◌, ◌<◌, Bool, true, false, cond, List, [], ◌++◌, Option, IfNone, IfSome, Result, OnOk}
use Rattle.std.specs.List.{AllByRecursion}
use Rattle.std.specs.Option.{option_len, option_to_list}
use Rattle.std.specs.Iterator.{AlwaysYields, Count, IsFinite, size}
use Rattle.tinyjson_tokens.specs.declared.cursor.Cursor.{Cursor}
use Rattle.tinyjson_grammar.specs.Position.{Position, position_at, advance}
pub mod Laws

-- until its end came, the iterator may be called, and ends
abbrev pub Ready : {S : Type 0} → (S → Type 0) → (S → Count) → Cursor S → Type 0
Ready can remaining p = p.done ≡ false → can p.it × IsFinite (remaining p.it)

-- a number that goes down with each character
abbrev pub left : {S : Type 0} → (S → Count) → Cursor S → ℕ
left remaining p = option_len p.peeked + cond p.done 0 (size (remaining p.it))

-- the position of the cursor
abbrev pub place : {S : Type 0} → Cursor S → Position
place p = position_at p.line p.column

-- both numbers of the place are a `usize`
abbrev pub HasPlace : {S : Type 0} → Cursor S → Type 0
HasPlace p = (p.line < 18446744073709551616) × (p.column < 18446744073709551616)

-- the first character that is left, or none
pub record Shows {S : Type 0} (p : Cursor S) (c : Option ℕ) : Type 0 where
  pub peeked : p.peeked ≡ c
  pub ended : IfNone c (p.done ≡ true)

-- the first character that is left does not pass a test, or there is none
abbrev pub EndsRun : {S : Type 0} → (ℕ → Bool) → Cursor S → Type 0
EndsRun test p = (o : Option ℕ) × Shows p o × IfSome o (λ c. test c ≡ false)

module _ {S : Type 0} (steps : S → Option ℕ → S → Type 0) where
  -- whichever way the calls on an iterator go, they give this list, and then the end
  abbrev pub Begins : S → List ℕ → Type 0
  Begins s xs = AlwaysYields steps (λ x. x) s xs

  -- the list that the cursor still gives
  pub record Gives (p : Cursor S) (xs : List ℕ) : Type 0 where
    pub later : List ℕ
    pub is : xs ≡ option_to_list p.peeked ++ later
    pub source : p.done ≡ false → Begins p.it later
    pub ended : p.done ≡ true → later ≡ []

  -- calls took xs from p and left q: any list that p gave begins with xs, and q gives the rest
  pub record Goes (p : Cursor S) (xs : List ℕ) (q : Cursor S) : Type 0 where
    pub gives : (zs : List ℕ) → Gives p zs → (rest : List ℕ) × (zs ≡ xs ++ rest) × Gives q rest
    pub moves : place q ≡ advance (place p) xs

  -- calls took characters that pass a test
  pub record Skips (test : ℕ → Bool) (p q : Cursor S) : Type 0 where
    pub taken : List ℕ
    pub pass : AllByRecursion (λ c. test c ≡ true) taken
    pub goes : Goes p taken q

  -- Calls took such characters, and added them to a text; or there was no memory for all of them.
  pub record Runs (test : ℕ → Bool) {E : Type 0} (p : Cursor S) (old : List ℕ) (r : Result (Unit {0}) E)
      (new : List ℕ) (q : Cursor S) : Type 0 where
    pub skips : Skips test p q
    pub added : OnOk r (new ≡ old ++ skips.taken)
