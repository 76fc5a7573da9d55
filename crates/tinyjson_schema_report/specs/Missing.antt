-- The names that an object lacks.
use Rattle.std.specs.Option.{option_map_or}
use Rattle.std.specs.Prelude.{ℕ, Bool, true, List, [], ◌++◌, Option, Some, None, cond, codes, is_some}
use Rattle.tinyjson.specs.Index.{tree_at_key}
use Rattle.tinyjson.specs.Tree.{Tree, string, Items, no_items, item, Members, no_members, member}
use Rattle.tinyjson_schema_keywords.specs.Applied.{items_in, members_in}
use Rattle.tinyjson_schema_report.specs.Brief.{brief}

abbrev pub is_there : Tree → Tree → Bool
is_there (string k) t = is_some (tree_at_key t k)
is_there _ t = true

-- the first of the names that is no key of the value
abbrev pub missing : Items → Tree → Option Tree
missing no_items t = None
missing (item k ks) t = cond (is_there k t) (missing ks t) (Some k)

-- `"a" is required`
abbrev pub required_words : Tree → Tree → List ℕ
required_words w t = option_map_or (λ k. brief k ++ codes " is required") (missing (items_in w) t) []

-- the first of the names that the key requires and the value lacks, where it has the key
abbrev pub required_by : List ℕ → Tree → Tree → Option Tree
required_by k w t = cond (is_some (tree_at_key t k)) (missing (items_in w) t) None

-- `"a" is required by "b"`
abbrev pub words_among : Members → Tree → List ℕ
words_among no_members t = []
words_among (member k w more) t =
    option_map_or (λ n. brief n ++ (codes " is required by " ++ brief (string k))) (required_by k w t) (words_among more t)

abbrev pub dependent_words : Tree → Tree → List ℕ
dependent_words w t = words_among (members_in w) t
