-- The messages of errors.
use Rattle.std.specs.Prelude.{ℕ, List, ◌++◌, codes}
use Rattle.std.specs.Fmt.{decimal}
use Rattle.text_iregexp.specs.declared.error.IRegexpError.{IRegexpError}
use Rattle.text_iregexp.specs.declared.error.IRegexpErrorKind.{IRegexpErrorKind}
use Rattle.text_iregexp.specs.declared.error.IRegexpErrorKind.TheVariants.{Invalid, TooDeep, TooLarge, OutOfMemory}

-- the message of a kind
abbrev pub kind_message : IRegexpErrorKind → List ℕ
kind_message Invalid = codes "no regular expression of RFC 9485"
kind_message TooDeep = codes "the groups are too deep"
kind_message TooLarge = codes "the regular expression is too large"
kind_message OutOfMemory = codes "out of memory"

-- the message of an error: that of its kind, and its place
abbrev pub error_message : IRegexpError → List ℕ
error_message e = kind_message e.kind ++ (codes " at character " ++ decimal e.place)
