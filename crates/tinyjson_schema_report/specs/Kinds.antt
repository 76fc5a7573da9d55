-- The kinds of values, as a sentence names them.
use Rattle.std.specs.Prelude.{ℕ, Bool, ◌||◌, List, [], ◌++◌, cond, codes, encode_utf8_all}
use Rattle.std.specs.Str.{bytes_eq}
use Rattle.tinyjson.specs.Kind.{kind_of, kind_name}
use Rattle.tinyjson.specs.Tree.{Tree, string, array, Items}
use Rattle.tinyjson_schema_report.specs.Brief.{joined}

-- a name of a type or of a format that takes `an`
abbrev pub takes_an : List ℕ → Bool
takes_an n = bytes_eq n (codes "array") || (bytes_eq n (codes "email") || (bytes_eq n (codes "integer")
    || (bytes_eq n (codes "ipv4") || (bytes_eq n (codes "ipv6") || bytes_eq n (codes "object")))))

abbrev pub article : List ℕ → List ℕ
article n = cond (bytes_eq n (codes "null")) [] (cond (takes_an n) (codes "an ") (codes "a "))

-- `a string`, `an array`, `null`
abbrev pub with_article : List ℕ → List ℕ
with_article n = article n ++ n

-- the kind of a value
abbrev pub kind_words : Tree → List ℕ
kind_words t = with_article (kind_name (kind_of t))

-- a type that `type` names, or a format
abbrev pub type_name : Tree → List ℕ
type_name (string cs) = with_article (encode_utf8_all cs)
type_name _ = []

abbrev pub type_list : Items → List ℕ
type_list ts = joined (codes " or ") type_name ts

abbrev pub types : Tree → List ℕ
types (array ts) = type_list ts
types t = type_name t

abbrev pub type_words : Tree → Tree → List ℕ
type_words w t = codes "must be " ++ (types w ++ (codes ", is " ++ kind_words t))
