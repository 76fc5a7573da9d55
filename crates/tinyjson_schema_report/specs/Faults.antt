-- Why a text is no pattern that can be applied, in words.
use Rattle.std.specs.Fmt.{decimal}
use Rattle.std.specs.List.{starts_with}
use Rattle.std.specs.Prelude.{◌≡◌, ℕ, zero, suc, Bool, false, ◌&&◌, ◌||◌, ◌==◌, eqb, nat_le, List, [], ◌∷◌, ◌++◌}
use Rattle.std.specs.Prelude.{Option, Some, None, cond, codes}
use Rattle.std.specs.Prelude.{encode_utf8, length}
use Rattle.text_iregexp.specs.PatternReading.{IsReading, IsRefused}
use Rattle.text_iregexp.specs.declared.pattern.SchemaPattern.{SchemaPattern}
use Rattle.text_iregexp.specs.declared.pattern_error.SchemaPatternError.{SchemaPatternError}
use Rattle.text_iregexp.specs.declared.pattern_error.SchemaPatternErrorKind.{SchemaPatternErrorKind}
use Rattle.text_iregexp.specs.declared.pattern_error.SchemaPatternErrorKind.TheVariants.{Invalid, Outside, TooDeep, TooLarge, OutOfMemory}
use Rattle.tinyjson.specs.Tree.{string}
use Rattle.tinyjson_schema_report.specs.Brief.{brief}

-- the text in UTF-8 behind its first n characters
abbrev pub after : ℕ → List ℕ → List ℕ
after n [] = []
after zero (c ∷ cs) = encode_utf8 c ++ after zero cs
after (suc n) (c ∷ cs) = after n cs

abbrev pub begins : List ℕ → List ℕ → Bool
begins start bs = starts_with eqb bs start

-- a digit but 0, or `k`, follows the first byte
abbrev pub is_back_reference : List ℕ → Bool
is_back_reference (b ∷ c ∷ bs) = (nat_le 49 c && nat_le c 57) || (c == 107)
is_back_reference _ = false

-- a group that is not supported
abbrev pub in_group : List ℕ → List ℕ
in_group bs =
    cond (begins (codes "(?=") bs || begins (codes "(?!") bs) (codes "a look-ahead")
    (cond (begins (codes "(?<=") bs || begins (codes "(?<!") bs) (codes "a look-behind")
    (cond (begins (codes "(?<") bs || begins (codes "(?P<") bs) (codes "a named group")
    (cond (begins (codes "(?i") bs || begins (codes "(?-") bs) (codes "a flag") (codes "an unknown group"))))

abbrev pub in_escape : List ℕ → List ℕ
in_escape bs =
    cond (begins (codes "\\A") bs) (codes "\\A")
    (cond (begins (codes "\\Z") bs) (codes "\\Z")
    (cond (begins (codes "\\p") bs || begins (codes "\\P") bs) (codes "a property of characters")
    (cond (is_back_reference bs) (codes "a back-reference") (codes "an unknown escape"))))

-- what neither a `(?` nor a backslash begins
abbrev pub in_sign : List ℕ → List ℕ
in_sign bs =
    cond (length bs == 0) (codes "the end of the text in a group")
    (cond (begins (codes "[") bs) (codes "a wrong class")
    (cond (begins (codes ")") bs) (codes "a ) without its (") (codes "a wrong sign")))

-- what is wrong where the text goes on so
abbrev pub construct : List ℕ → List ℕ
construct bs = cond (begins (codes "(?") bs) (in_group bs) (cond (begins (codes "\\") bs) (in_escape bs) (in_sign bs))

abbrev pub construct_of : SchemaPatternErrorKind → List ℕ → List ℕ
construct_of TooDeep bs = codes "more than 200 nested groups"
construct_of TooLarge bs = codes "more than 10,100 parts"
construct_of _ bs = construct bs

-- `must be a pattern, is "a(?=b)": a look-ahead at character 1`
abbrev pub pattern_words : List ℕ → SchemaPatternError → List ℕ
pattern_words cs e = codes "must be a pattern, is " ++ (brief (string cs) ++ (codes ": " ++ (construct_of e.kind (after e.place cs)
    ++ (codes " at character " ++ decimal e.place))))

-- The text is a pattern; or it is refused at a place, and the words are about what is there.
abbrev pub IsFault : List ℕ → Option (List ℕ) → Type 0
IsFault cs None = (x : SchemaPattern) × IsReading cs x
IsFault cs (Some bs) = (e : SchemaPatternError) × IsRefused cs e × (bs ≡ pattern_words cs e)
