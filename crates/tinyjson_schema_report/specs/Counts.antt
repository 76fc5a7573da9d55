-- What is counted of a value, and how many are wanted.
use Rattle.std.specs.Fmt.{decimal}
use Rattle.std.specs.Option.{option_map_or}
use Rattle.std.specs.Prelude.{ℕ, List, [], ◌++◌, Option, Some, None, cond, codes, length}
use Rattle.std.specs.Str.{bytes_eq}
use Rattle.tinyjson.specs.Tree.{Tree, string}
use Rattle.tinyjson_schema_report.specs.Brief.{brief}

-- the characters of a string
abbrev pub length_of : Tree → Option ℕ
length_of (string cs) = Some (length cs)
length_of _ = None

-- the end of a noun after this number
abbrev pub plural : List ℕ → List ℕ
plural n = cond (bytes_eq n (codes "1")) [] (codes "s")

-- `must have at least 2 items, has 1`
abbrev pub counted : List ℕ → Tree → List ℕ → ℕ → List ℕ
counted wanted w what n = wanted ++ (brief w ++ (what ++ (plural (brief w) ++ (codes ", has " ++ decimal n))))

abbrev pub count_words : List ℕ → Tree → List ℕ → Option ℕ → List ℕ
count_words wanted w what found = option_map_or (counted wanted w what) found []

-- `must have at least 2 items that the schema accepts`
abbrev pub contained_words : List ℕ → Tree → List ℕ
contained_words wanted w = wanted ++ (brief w ++ (codes " item" ++ (plural (brief w) ++ codes " that the schema accepts")))
