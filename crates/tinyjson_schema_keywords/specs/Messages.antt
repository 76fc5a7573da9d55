-- The messages of errors.
use Rattle.std.specs.Prelude.{ℕ, List, codes}
use Rattle.tinyjson_schema_keywords.specs.declared.pattern.PatternError.{PatternError}
use Rattle.tinyjson_schema_keywords.specs.declared.pattern.PatternError.TheVariants as pattern
use Rattle.tinyjson_schema_keywords.specs.declared.walk.CheckError.{CheckError}
use Rattle.tinyjson_schema_keywords.specs.declared.walk.CheckError.TheVariants as checking
use Rattle.tinyjson_schema_keywords.specs.declared.walk.SearchError.{SearchError}
use Rattle.tinyjson_schema_keywords.specs.declared.walk.SearchError.TheVariants as searching

abbrev pub check_error_message : CheckError → List ℕ
check_error_message checking.TooDeep = codes "schemas are nested too deep"
check_error_message checking.TooMuch = codes "the check takes too many steps"
check_error_message checking.OutOfMemory = codes "out of memory"

abbrev pub search_error_message : SearchError → List ℕ
search_error_message searching.TooMuch = codes "the check takes too many steps"
search_error_message searching.OutOfMemory = codes "out of memory"

abbrev pub pattern_error_message : PatternError → List ℕ
pattern_error_message pattern.AboveLimits = codes "a pattern is too deep or too large"
pattern_error_message pattern.OutOfMemory = codes "out of memory"
