-- The result of parsing a pointer.
use Rattle.std.specs.Prelude.{◌≡◌, ◌≢◌, ◌↔◌, ◌⊎◌, ℕ, List, [], ◌∷◌, ◌++◌, Result, Ok, Err, MatchResult, String, Vec, map, codes}
use Rattle.std.specs.declared.alloc.Global.{Global}
use Rattle.tinyjson.specs.Characters.{digit_zero, solidus, tilde}
use Rattle.tinyjson.specs.View.{text}
use Rattle.tinyjson_pointer.specs.Text.{digit_one, escape_char, pointer_text}
use Rattle.tinyjson_pointer.specs.Tokens.{tokens_of}
use Rattle.tinyjson_pointer.specs.declared.pointer.Pointer.{Pointer}
use Rattle.tinyjson_pointer.specs.declared.pointer.PointerError.{PointerError}
use Rattle.tinyjson_pointer.specs.declared.pointer.PointerError.TheVariants.{NoSlash, BadEscape, OutOfMemory}

-- The characters are the text of no pointer.
abbrev pub IsNoPointer : List ℕ → Type 0
IsNoPointer cs = (ts : List (List ℕ)) → cs ≢ pointer_text ts

abbrev pub BeginsWithOther : List ℕ → Type 0
BeginsWithOther [] = ⊥
BeginsWithOther (c ∷ cs) = c ≢ solidus

-- the text begins with `0` or `1`
abbrev pub BeginsEscape : List ℕ → Type 0
BeginsEscape [] = ⊥
BeginsEscape (c ∷ cs) = (c ≡ digit_zero) ⊎ (c ≡ digit_one)

-- A `~` without `0` or `1` after it.
pub record HasBadEscape (cs : List ℕ) : Type 0 where
  pub front : List ℕ
  pub rest : List ℕ
  pub split : cs ≡ front ++ tilde ∷ rest
  pub bad : ¬ BeginsEscape rest

abbrev pub BeginsWithSlash : List ℕ → Type 0
BeginsWithSlash [] = ⊥
BeginsWithSlash (c ∷ cs) = c ≡ solidus

-- A pointer has the tokens whose text this is. An error has the right reason, and the text is that of no
-- pointer.
abbrev pub Reads : List ℕ → Result Pointer PointerError → Type 0
Reads cs (Ok p) = (ts : List (List ℕ)) → (cs ≡ pointer_text ts) ↔ (ts ≡ tokens_of p)
Reads cs (Err NoSlash) = BeginsWithOther cs × IsNoPointer cs
Reads cs (Err BadEscape) = BeginsWithSlash cs × HasBadEscape cs × IsNoPointer cs
Reads cs (Err OutOfMemory) = Unit {0}

-- The same for the text after the first slash.
abbrev pub ReadsTokens : List ℕ → Result (Vec (String Global) Global) PointerError → Type 0
ReadsTokens cs (Ok v) = solidus ∷ cs ≡ pointer_text (map text v.items)
ReadsTokens cs (Err NoSlash) = ⊥
ReadsTokens cs (Err BadEscape) = HasBadEscape (solidus ∷ cs)
ReadsTokens cs (Err OutOfMemory) = Unit {0}

-- The character for `~` and c, or an error if there is none.
abbrev pub Unescapes : ℕ → Result ℕ PointerError → Type 0
Unescapes c result = MatchResult result (λ d. escape_char d ≡ tilde ∷ c ∷ []) (λ e. (e ≡ BadEscape) × ¬ BeginsEscape (c ∷ []))

-- the message of an error
abbrev pub pointer_error_message : PointerError → List ℕ
pointer_error_message NoSlash = codes "the pointer begins with no '/'"
pointer_error_message BadEscape = codes "a '~' is followed by neither '0' nor '1'"
pointer_error_message OutOfMemory = codes "out of memory"
