-- Texts that are parsed as patterns.
use Rattle.std.specs.Prelude.{◌≡◌, ℕ, Bool, false, ◌⊎◌, List, Option, Some, None}
use Rattle.text_iregexp.specs.Deciding.{matches}
use Rattle.text_iregexp.specs.PatternReading.{IsRefused, texts_of}
use Rattle.text_iregexp.specs.declared.pattern.SchemaPattern.{SchemaPattern}
use Rattle.text_iregexp.specs.declared.pattern_error.SchemaPatternError.{SchemaPatternError}
use Rattle.text_iregexp.specs.declared.pattern_error.SchemaPatternErrorKind.TheVariants.{TooDeep, TooLarge}
use Rattle.tinyjson_schema_keywords.specs.declared.pattern.PatternError.{PatternError}
use Rattle.tinyjson_schema_keywords.specs.declared.pattern.PatternError.TheVariants.{AboveLimits, OutOfMemory}

-- The text is too deep or too large to be parsed as a pattern.
pub record IsAboveLimits (cs : List ℕ) : Type 0 where
  pub error : SchemaPatternError
  pub refused : IsRefused cs error
  pub limit : (error.kind ≡ TooDeep) ⊎ (error.kind ≡ TooLarge)

-- ---- for private contracts

-- the pattern matches somewhere in the text; no pattern matches nothing
abbrev pub answer_of : Option SchemaPattern → List ℕ → Bool
answer_of None cs = false
answer_of (Some x) cs = matches (texts_of x) cs

-- what an error means for the text that was parsed
abbrev pub IsPatternError : List ℕ → PatternError → Type 0
IsPatternError cs AboveLimits = IsAboveLimits cs
IsPatternError cs OutOfMemory = Unit {0}
