-- What a part of the parser did, in the words of the machine. For contracts inside the parser.
use Rattle.std.specs.Prelude.{◌≡◌, ℕ, Bool, true, false, List, [], ◌∷◌, ◌++◌, Option, Result}
use Rattle.std.specs.Prelude.{IfErr, MatchResult, IfSome, String, cond, ◌⊎◌, ⊤}
use Rattle.std.specs.Char.{is_ascii_digit}
use Rattle.std.specs.declared.alloc.Global.{Global}
use Rattle.tinyjson_grammar.specs.Tree.{Tree, string}
use Rattle.tinyjson_grammar.specs.Characters.{text}
use Rattle.tinyjson_grammar.specs.Position.{advance}
use Rattle.tinyjson_tokens.specs.Source.{Sight}
use Rattle.tinyjson_grammar.specs.Machine.{Frame, literal, plain, quoted, Next, next, stop, Outcome}
use Rattle.tinyjson_grammar.specs.Machine.{refused, complete, step, end, run, strictly}
use Rattle.tinyjson_grammar.specs.declared.error.JsonParseErrorKind.{JsonParseErrorKind}
use Rattle.tinyjson_grammar.specs.declared.error.JsonParseErrorKind.TheVariants.{InvalidUtf16, OutOfMemory}

-- these letters, and then the value is complete
abbrev pub letters_left : List Frame → List ℕ → Tree → Next
letters_left fs [] t = complete true fs t true
letters_left fs (l ∷ ls) t = next fs (literal (l ∷ ls) t)

-- within a string, and after it where it is done
abbrev pub within : List Frame → String Global → List ℕ → Bool → Next
within fs s us done = cond done (complete true fs (string (text s)) true) (next fs (quoted plain (text s) us))

-- why characters could not be added to a string: a unit had no partner, or there was no memory
abbrev pub Fails : Bool → JsonParseErrorKind → Type 0
Fails whole k = ((whole ≡ false) × (k ≡ InvalidUtf16)) ⊎ (k ≡ OutOfMemory)

-- no digit comes
abbrev pub Ends : {S : Type 0} → Sight S → S → Type 0
Ends sight q = (o : Option ℕ) × sight.shows q o × IfSome o (λ c. is_ascii_digit c ≡ false)

-- ---- an error is a state that stays

abbrev pub IsNext : Next → Type 0
IsNext (next fs p) = ⊤
IsNext (stop k b) = ⊥

-- the character that led here was taken
abbrev pub IsTaken : Next → Type 0
IsTaken (next fs p) = ⊤
IsTaken (stop k true) = ⊤
IsTaken (stop k false) = ⊥

module _ (limit : Option ℕ) where
  abbrev pub onward : Next → ℕ → Next
  onward (next fs p) c = step (strictly limit) fs p c
  onward (stop k b) c = stop k false

  abbrev pub ending : Next → Outcome
  ending (next fs p) = end (strictly limit) fs p
  ending (stop k b) = refused k []

  abbrev pub outcome : Next → List ℕ → Outcome
  outcome (next fs p) xs = run (strictly limit) fs p xs
  outcome (stop k b) xs = refused k xs

  abbrev pub after_all : Next → List ℕ → Next
  after_all n [] = n
  after_all n (c ∷ cs) = after_all (onward n c) cs

  -- They do the same with what comes: the next character leads them to one state, or to two that go on so.
  abbrev pub Same : Next → Next → List ℕ → Type 0
  Same n m [] = ending n ≡ ending m
  Same n m (c ∷ cs) = (onward n c ≡ onward m c) ⊎ ((IsNext (onward n c) × IsNext (onward m c)) × Same (onward n c) (onward m c) cs)

  -- From n the machine takes xs, and then does at rest what m does.
  abbrev pub Comes : Next → List ℕ → Next → List ℕ → Type 0
  Comes n [] m rest = Same n m rest × (IsNext m → IsNext n)
  Comes n (c ∷ cs) m rest = IsNext n × IsTaken (onward n c) × Comes (onward n c) cs m rest

  -- nothing, or the character that ends a run with an unpaired surrogate
  abbrev pub IsLate : Next → List ℕ → Type 0
  IsLate n [] = ⊤
  IsLate n (c ∷ []) = onward n c ≡ stop InvalidUtf16 true
  IsLate n (c ∷ d ∷ ds) = ⊥

  -- All of xs leads to no error, or its last character alone does, for an unpaired surrogate.
  pub record IsHeld (n : Next) (xs : List ℕ) : Type 0 where
    pub front : List ℕ
    pub late : List ℕ
    pub whole : xs ≡ front ++ late
    pub goes : IsNext (after_all n front)
    pub ends : IsLate (after_all n front) late

module _ {S : Type 0} (sight : Sight S) (limit : Option ℕ) where
  -- A call took some characters from p and left q: the machine went from n to m.
  pub record Leads (p : S) (n : Next) (q : S) (m : Next) : Type 0 where
    pub taken : List ℕ
    pub gives : (zs : List ℕ) → sight.gives p zs → (rest : List ℕ) × (zs ≡ taken ++ rest) × sight.gives q rest × Comes limit n taken m rest
    pub moves : sight.place q ≡ advance (sight.place p) taken

  -- A call took some characters and found no memory.
  pub record Halts (p : S) (n : Next) (q : S) : Type 0 where
    pub taken : List ℕ
    pub gives : (zs : List ℕ) → sight.gives p zs → (rest : List ℕ) × (zs ≡ taken ++ rest) × sight.gives q rest × IsHeld limit n taken
    pub moves : sight.place q ≡ advance (sight.place p) taken

  -- the machine refuses, or there was no memory
  abbrev pub Refuses : S → Next → JsonParseErrorKind → S → Type 0
  Refuses p n k q = Leads p n q (stop k true) ⊎ ((k ≡ OutOfMemory) × Halts p n q)

  -- a part of the parser, in which the machine went from n to the state of the result
  abbrev pub Reads : {T : Type 0} → S → Next → Result T JsonParseErrorKind → (T → Next) → S → Type 0
  Reads p n r m q = MatchResult r (λ v. Leads p n q (m v)) (λ k. Refuses p n k q)

-- no out of memory
abbrev pub NeedsNone : {T : Type 0} → Result T JsonParseErrorKind → Type 0
NeedsNone r = IfErr r (λ k. k ≡ OutOfMemory → ⊥)
