-- Whether a query asks for a regular expression, by `match` or `search`.
use Rattle.std.specs.Prelude.{Bool, true, false, ◌||◌, List, [], ◌∷◌, map}
use Rattle.tinyjson_path_query.specs.declared.query.Comparable.{Comparable, fold-Comparable, Comparable-F}
use Rattle.tinyjson_path_query.specs.declared.query.Expression.{Expression, fold-Expression, Expression-F}
use Rattle.tinyjson_path_query.specs.declared.query.FilterQuery.{FilterQuery, fold-FilterQuery, FilterQuery-F}
use Rattle.tinyjson_path_query.specs.declared.query.FunctionExpression.{FunctionExpression, fold-FunctionExpression, FunctionExpression-F}
use Rattle.tinyjson_path_query.specs.declared.query.Query.{Query}
use Rattle.tinyjson_path_query.specs.declared.query.Segment.{Segment, fold-Segment, Segment-F}
use Rattle.tinyjson_path_query.specs.declared.query.Selector.{Selector, fold-Selector, Selector-F}

abbrev pub any_true : List Bool → Bool
any_true [] = false
any_true (b ∷ bs) = b || any_true bs

abbrev pub segment_asks : Segment-F Bool Bool Bool Bool Bool Bool → Bool
segment_asks (Segment-F.Child ss) = any_true ss.items
segment_asks (Segment-F.Descendant ss) = any_true ss.items

abbrev pub selector_asks : Selector-F Bool Bool Bool Bool Bool Bool → Bool
selector_asks (Selector-F.Filter e) = e
selector_asks _ = false

abbrev pub expression_asks : Expression-F Bool Bool Bool Bool Bool Bool → Bool
expression_asks (Expression-F.Or es) = any_true es.items
expression_asks (Expression-F.And es) = any_true es.items
expression_asks (Expression-F.Not e) = e.value
expression_asks (Expression-F.Comparison operator l r) = l.value || r.value
expression_asks (Expression-F.Test q) = q
expression_asks (Expression-F.Pattern f v p) = true

abbrev pub comparable_asks : Comparable-F Bool Bool Bool Bool Bool Bool → Bool
comparable_asks (Comparable-F.Literal l) = false
comparable_asks (Comparable-F.SingularQuery q) = false
comparable_asks (Comparable-F.Function f) = f

abbrev pub function_asks : FunctionExpression-F Bool Bool Bool Bool Bool Bool → Bool
function_asks (FunctionExpression-F.Length c) = c.value
function_asks (FunctionExpression-F.Count q) = q
function_asks (FunctionExpression-F.Value q) = q

abbrev pub filter_query_asks : FilterQuery-F Bool Bool Bool Bool Bool Bool → Bool
filter_query_asks q = any_true q.segments.items

abbrev pub in_segment : Segment → Bool
in_segment =
    fold-Segment Bool Bool Bool Bool Bool Bool comparable_asks expression_asks function_asks segment_asks selector_asks filter_query_asks

abbrev pub has_pattern : Query → Bool
has_pattern q = any_true (map in_segment q.segments.items)

-- ---- for each part of a query; for private contracts

abbrev pub in_selector : Selector → Bool
in_selector =
    fold-Selector Bool Bool Bool Bool Bool Bool comparable_asks expression_asks function_asks segment_asks selector_asks filter_query_asks

abbrev pub in_expression : Expression → Bool
in_expression =
    fold-Expression Bool Bool Bool Bool Bool Bool comparable_asks expression_asks function_asks segment_asks selector_asks
    filter_query_asks

abbrev pub in_comparable : Comparable → Bool
in_comparable =
    fold-Comparable Bool Bool Bool Bool Bool Bool comparable_asks expression_asks function_asks segment_asks selector_asks
    filter_query_asks

abbrev pub in_function : FunctionExpression → Bool
in_function =
    fold-FunctionExpression Bool Bool Bool Bool Bool Bool comparable_asks expression_asks function_asks segment_asks selector_asks
    filter_query_asks

abbrev pub in_query : FilterQuery → Bool
in_query =
    fold-FilterQuery Bool Bool Bool Bool Bool Bool comparable_asks expression_asks function_asks segment_asks selector_asks
    filter_query_asks
