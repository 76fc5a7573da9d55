-- What a value lacks that violates a schema, in words.
use Rattle.std.specs.Prelude.{ℕ, List, ◌++◌, Option, Some, None, codes}
use Rattle.tinyjson.specs.Tree.{Tree}
use Rattle.tinyjson_pointer.specs.Walk.{part_at}
use Rattle.tinyjson_schema_keywords.specs.Applied.{items_in}
use Rattle.tinyjson_schema_keywords.specs.declared.keyword.Keyword.{Keyword}
use Rattle.tinyjson_schema_keywords.specs.declared.keyword.Keyword.TheVariants as kw
use Rattle.tinyjson_schema_report.specs.Brief.{brief, brief_list}
use Rattle.tinyjson_schema_assertions.specs.Assertions.{items_count_of, members_count_of}
use Rattle.tinyjson_schema_report.specs.Counts.{count_words, contained_words, length_of}
use Rattle.tinyjson_schema_report.specs.Ends.{At, ends_from}
use Rattle.tinyjson_schema_report.specs.Kinds.{type_name, type_words}
use Rattle.tinyjson_schema_report.specs.Missing.{required_words, dependent_words}

-- `must be at most 10, is 12`
abbrev pub compared : List ℕ → Tree → Tree → List ℕ
compared wanted w t = wanted ++ (brief w ++ (codes ", is " ++ brief t))

abbrev pub one_of : Tree → List ℕ
one_of w = codes "must be one of " ++ brief_list (items_in w)

-- `must have at most 1 item, has 2`
abbrev pub at_most : Tree → List ℕ → Option ℕ → List ℕ
at_most w what found = count_words (codes "must have at most ") w what found

abbrev pub at_least : Tree → List ℕ → Option ℕ → List ℕ
at_least w what found = count_words (codes "must have at least ") w what found

-- `must be a date, is "2024-02-30"`
abbrev pub format_words : Tree → Tree → List ℕ
format_words w t = codes "must be " ++ (type_name w ++ (codes ", is " ++ brief t))

-- the words of a keyword that compares nothing; a keyword with a schema leads to the schema `false`
abbrev pub fixed : Keyword → List ℕ
fixed kw.UniqueItems = codes "must have no two equal items"
fixed kw.AnyOf = codes "must be accepted by a schema of the list"
fixed kw.OneOf = codes "must be accepted by exactly one schema of the list"
fixed kw.Not = codes "must not be accepted by the schema"
fixed kw.PropertyNames = codes "must have names that the schema accepts"
fixed kw.Contains = codes "must have an item that the schema accepts"
fixed _ = codes "is not allowed"

-- what the value t lacks, which does not meet the keyword with the value w
abbrev pub keyword_words : Keyword → Tree → Tree → List ℕ
keyword_words kw.Type w t = type_words w t
keyword_words kw.Enum w t = one_of w
keyword_words kw.Const w t = compared (codes "must be ") w t
keyword_words kw.MultipleOf w t = compared (codes "must be a multiple of ") w t
keyword_words kw.Maximum w t = compared (codes "must be at most ") w t
keyword_words kw.ExclusiveMaximum w t = compared (codes "must be less than ") w t
keyword_words kw.Minimum w t = compared (codes "must be at least ") w t
keyword_words kw.ExclusiveMinimum w t = compared (codes "must be greater than ") w t
keyword_words kw.MaxLength w t = at_most w (codes " character") (length_of t)
keyword_words kw.MinLength w t = at_least w (codes " character") (length_of t)
keyword_words kw.Pattern w t = compared (codes "must match the pattern ") w t
keyword_words kw.MaxItems w t = at_most w (codes " item") (items_count_of t)
keyword_words kw.MinItems w t = at_least w (codes " item") (items_count_of t)
keyword_words kw.MaxContains w t = contained_words (codes "must have at most ") w
keyword_words kw.MinContains w t = contained_words (codes "must have at least ") w
keyword_words kw.MaxProperties w t = at_most w (codes " member") (members_count_of t)
keyword_words kw.MinProperties w t = at_least w (codes " member") (members_count_of t)
keyword_words kw.Required w t = required_words w t
keyword_words kw.DependentRequired w t = dependent_words w t
keyword_words kw.Format w t = format_words w t
keyword_words k w t = fixed k

-- the words for the place in the schema and the part of the value
abbrev pub words_of : Option At → Option Tree → List ℕ
words_of (Some (Some k, w)) (Some t) = keyword_words k w t
words_of (Some (None, w)) (Some t) = codes "is not allowed"
words_of _ _ = codes "does not meet the schema"

-- what the value t lacks at the place js by the schema s at the place ks
abbrev pub words : Tree → Tree → List (List ℕ) → List (List ℕ) → List ℕ
words s t ks js = words_of (ends_from s ks) (part_at t js)
