-- The messages of errors in patterns.
use Rattle.std.specs.Prelude.{ℕ, List, ◌++◌, codes}
use Rattle.std.specs.Fmt.{decimal}
use Rattle.text_iregexp.specs.declared.pattern_error.SchemaPatternError.{SchemaPatternError}
use Rattle.text_iregexp.specs.declared.pattern_error.SchemaPatternErrorKind.{SchemaPatternErrorKind}
use Rattle.text_iregexp.specs.declared.pattern_error.SchemaPatternErrorKind.TheVariants.{Invalid, Outside, TooDeep, TooLarge, OutOfMemory}

-- the message of a kind
abbrev pub reason_message : SchemaPatternErrorKind → List ℕ
reason_message Invalid = codes "no pattern"
reason_message Outside = codes "not supported in a pattern"
reason_message TooDeep = codes "the groups are too deep"
reason_message TooLarge = codes "the pattern is too large"
reason_message OutOfMemory = codes "out of memory"

-- the message of an error: that of its kind, and its place
abbrev pub refusal_message : SchemaPatternError → List ℕ
refusal_message e = reason_message e.kind ++ (codes " at character " ++ decimal e.place)
