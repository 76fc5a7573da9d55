-- The messages of errors.
use Rattle.std.specs.Prelude.{ℕ, List, codes}
use Rattle.tinyjson_path.specs.declared.patterns.FindError.{FindError}
use Rattle.tinyjson_path.specs.declared.patterns.FindError.TheVariants as finding
use Rattle.tinyjson_path.specs.declared.patterns.PatternLimit.{PatternLimit}
use Rattle.tinyjson_path.specs.declared.patterns.PatternLimit.TheVariants.{TooDeep, TooLarge}

abbrev pub limit_message : PatternLimit → List ℕ
limit_message TooDeep = codes "the groups of a regular expression are too deep"
limit_message TooLarge = codes "a regular expression is too large"

abbrev pub find_error_message : FindError → List ℕ
find_error_message (finding.Pattern l) = limit_message l
find_error_message finding.OutOfMemory = codes "out of memory"
