-- The strings of a value and of a query: those from which an error of a regular expression can come.
use Rattle.std.specs.Prelude.{◌≡◌, ℕ, Bool, true, ◌&&◌, List, [], ◌∷◌, ◌++◌, map, Option, Some, None, Err, flat_map, Any, Contains}
use Rattle.std.specs.List.{list_any}
use Rattle.std.specs.Str.{bytes_eq}
use Rattle.text_iregexp.specs.Regexps.{ReadsRegexp}
use Rattle.text_iregexp.specs.declared.error.IRegexpError.{IRegexpError}
use Rattle.text_iregexp.specs.declared.error.IRegexpErrorKind.{IRegexpErrorKind}
use Rattle.text_iregexp.specs.declared.error.IRegexpErrorKind.TheVariants as kind
use Rattle.tinyjson.specs.Tree.{Tree, null, boolean, number, string, array, object, Items, no_items, item, Members, no_members, member}
use Rattle.tinyjson.specs.View.{text}
use Rattle.tinyjson_path.specs.Nodes.{Part}
use Rattle.tinyjson_path.specs.declared.patterns.FindError.{FindError}
use Rattle.tinyjson_path.specs.declared.patterns.FindError.TheVariants.{Pattern, OutOfMemory}
use Rattle.tinyjson_path.specs.declared.patterns.PatternLimit.{PatternLimit}
use Rattle.tinyjson_path.specs.declared.patterns.PatternLimit.TheVariants.{TooDeep, TooLarge}
use Rattle.tinyjson_path_query.specs.declared.query.Comparable.{Comparable, fold-Comparable, Comparable-F}
use Rattle.tinyjson_path_query.specs.declared.query.Expression.{Expression, fold-Expression, Expression-F}
use Rattle.tinyjson_path_query.specs.declared.query.FilterQuery.{FilterQuery, fold-FilterQuery, FilterQuery-F}
use Rattle.tinyjson_path_query.specs.declared.query.FunctionExpression.{FunctionExpression-F}
use Rattle.tinyjson_path_query.specs.declared.query.Literal.{Literal}
use Rattle.tinyjson_path_query.specs.declared.query.Literal.TheVariants as literal
use Rattle.tinyjson_path_query.specs.declared.query.Query.{Query}
use Rattle.tinyjson_path_query.specs.declared.query.Segment.{Segment, fold-Segment, Segment-F}
use Rattle.tinyjson_path_query.specs.declared.query.Selector.{Selector, fold-Selector, Selector-F}

abbrev pub Texts : Type 0
Texts = List (List ℕ)

-- one after the other
abbrev pub joined : List Texts → Texts
joined tss = flat_map (λ ts. ts) tss

-- ---- of a value: its strings, without keys

abbrev mutual
  pub strings_in : Tree → Texts
  strings_in null = []
  strings_in (boolean b) = []
  strings_in (number d) = []
  strings_in (string cs) = cs ∷ []
  strings_in (array ts) = strings_in_items ts
  strings_in (object ms) = strings_in_members ms

  pub strings_in_items : Items → Texts
  strings_in_items no_items = []
  strings_in_items (item t ts) = strings_in t ++ strings_in_items ts

  pub strings_in_members : Members → Texts
  strings_in_members no_members = []
  strings_in_members (member k t ms) = strings_in t ++ strings_in_members ms

-- ---- of a query: the literals of its filters

abbrev pub literal_strings : Literal → Texts
literal_strings (literal.String s) = text s ∷ []
literal_strings _ = []

abbrev pub segment_texts : Segment-F Texts Texts Texts Texts Texts Texts → Texts
segment_texts (Segment-F.Child ss) = joined ss.items
segment_texts (Segment-F.Descendant ss) = joined ss.items

abbrev pub selector_texts : Selector-F Texts Texts Texts Texts Texts Texts → Texts
selector_texts (Selector-F.Filter e) = e
selector_texts _ = []

abbrev pub expression_texts : Expression-F Texts Texts Texts Texts Texts Texts → Texts
expression_texts (Expression-F.Or es) = joined es.items
expression_texts (Expression-F.And es) = joined es.items
expression_texts (Expression-F.Not e) = e.value
expression_texts (Expression-F.Comparison operator l r) = l.value ++ r.value
expression_texts (Expression-F.Test q) = q
expression_texts (Expression-F.Pattern f v p) = v.value ++ p.value

abbrev pub comparable_texts : Comparable-F Texts Texts Texts Texts Texts Texts → Texts
comparable_texts (Comparable-F.Literal l) = literal_strings l
comparable_texts (Comparable-F.SingularQuery q) = []
comparable_texts (Comparable-F.Function f) = f

abbrev pub function_texts : FunctionExpression-F Texts Texts Texts Texts Texts Texts → Texts
function_texts (FunctionExpression-F.Length c) = c.value
function_texts (FunctionExpression-F.Count q) = q
function_texts (FunctionExpression-F.Value q) = q

abbrev pub filter_query_texts : FilterQuery-F Texts Texts Texts Texts Texts Texts → Texts
filter_query_texts q = joined q.segments.items

abbrev pub segment_strings : Segment → Texts
segment_strings =
    fold-Segment Texts Texts Texts Texts Texts Texts comparable_texts expression_texts function_texts segment_texts selector_texts
    filter_query_texts

abbrev pub query_strings : Query → Texts
query_strings q = joined (map segment_strings q.segments.items)

-- ---- errors

abbrev pub kind_of : PatternLimit → IRegexpErrorKind
kind_of TooDeep = kind.TooDeep
kind_of TooLarge = kind.TooLarge

-- The text exceeds the limit, when it is parsed as a regular expression of RFC 9485.
pub record Exceeds (l : PatternLimit) (cs : List ℕ) : Type 0 where
  pub error : IRegexpError
  pub refused : ReadsRegexp cs (Err error)
  pub kind : error.kind ≡ kind_of l

-- The error is out of memory, or one of the texts exceeds its limit.
abbrev pub IsFrom : Texts → FindError → Type 0
IsFrom ts (Pattern l) = Any (Exceeds l) ts
IsFrom ts OutOfMemory = Unit {0}

-- ---- for each part of a query; for private contracts

abbrev pub selector_strings : Selector → Texts
selector_strings =
    fold-Selector Texts Texts Texts Texts Texts Texts comparable_texts expression_texts function_texts segment_texts selector_texts
    filter_query_texts

abbrev pub expression_strings : Expression → Texts
expression_strings =
    fold-Expression Texts Texts Texts Texts Texts Texts comparable_texts expression_texts function_texts segment_texts selector_texts
    filter_query_texts

abbrev pub comparable_strings : Comparable → Texts
comparable_strings =
    fold-Comparable Texts Texts Texts Texts Texts Texts comparable_texts expression_texts function_texts segment_texts selector_texts
    filter_query_texts

abbrev pub filter_strings : FilterQuery → Texts
filter_strings =
    fold-FilterQuery Texts Texts Texts Texts Texts Texts comparable_texts expression_texts function_texts segment_texts selector_texts
    filter_query_texts

abbrev pub segments_strings : List Segment → Texts
segments_strings ss = joined (map segment_strings ss)

abbrev pub selectors_strings : List Selector → Texts
selectors_strings ss = joined (map selector_strings ss)

abbrev pub strings_at : Option Tree → Texts
strings_at None = []
strings_at (Some t) = strings_in t

abbrev pub strings_of : List Part → Texts
strings_of ps = flat_map (λ p. strings_in p.tree) ps

-- of a part of the query, of the root, and of the nodes below which it selects
abbrev pub IsFromAny : Texts → Tree → Texts → FindError → Type 0
IsFromAny query root here = IsFrom (query ++ (strings_in root ++ here))

-- each of the first is one of the second
abbrev pub Within : Texts → Texts → Type 0
Within xs ys = (x : List ℕ) → Contains xs x → Contains ys x

-- whether that is so
abbrev pub are_among : Texts → Texts → Bool
are_among [] ys = true
are_among (x ∷ xs) ys = list_any (bytes_eq x) ys && are_among xs ys
