-- The parts that a query selects (RFC 9535, 2.1 to 2.5), defined part by part of the query.
use Rattle.std.specs.Prelude.{Bool, true, false, ◌||◌, ◌&&◌, not, List, [], ◌∷◌, map, cond, Option, Some}
use Rattle.tinyjson.specs.Tree.{Tree}
use Rattle.tinyjson.specs.View.{text}
use Rattle.tinyjson_path.specs.Comparing.{compares, literal_tree, origin_tree, one_tree, length_of, count_of, value_of}
use Rattle.tinyjson_path.specs.Nodes.{Part, root_part, children, visited}
use Rattle.tinyjson_path.specs.Patterns.{Judge, pattern_holds, judged}
use Rattle.tinyjson_path.specs.Selecting.{from_each, by_name, by_index, by_slice}
use Rattle.tinyjson_path_query.specs.declared.query.Query.{Query}
use Rattle.tinyjson_path_query.specs.declared.query.Comparable.{Comparable, fold-Comparable, Comparable-F}
use Rattle.tinyjson_path_query.specs.declared.query.Expression.{Expression, fold-Expression, Expression-F}
use Rattle.tinyjson_path_query.specs.declared.query.FilterQuery.{FilterQuery, fold-FilterQuery, FilterQuery-F}
use Rattle.tinyjson_path_query.specs.declared.query.FunctionExpression.{FunctionExpression-F}
use Rattle.tinyjson_path_query.specs.declared.query.Segment.{Segment, fold-Segment, Segment-F}
use Rattle.tinyjson_path_query.specs.declared.query.Selector.{Selector, fold-Selector, Selector-F}

-- the parts that a segment or a selector selects from a part, in a value with this root
abbrev pub Selects : Type 0
Selects = Tree → Part → List Part

-- the parts that a query in a filter selects, from the root and the node that is tested
abbrev pub Finds : Type 0
Finds = Tree → Tree → List Part

-- the value of what is compared there, or nothing
abbrev pub Yields : Type 0
Yields = Tree → Tree → Option Tree

-- whether an expression holds of the node
abbrev pub Holds : Type 0
Holds = Tree → Tree → Bool

-- each selector's parts, in the order of the selectors
abbrev pub union : List Selects → Selects
union ss root p = from_each (λ s. s root p) ss

-- each segment selects from what the one before selected
abbrev pub one_by_one : Tree → List Selects → List Part → List Part
one_by_one root [] ps = ps
one_by_one root (s ∷ ss) ps = one_by_one root ss (from_each (s root) ps)

-- the parts of which the test holds
abbrev pub kept : (Tree → Bool) → List Part → List Part
kept f [] = []
kept f (p ∷ ps) = cond (f p.tree) (p ∷ kept f ps) (kept f ps)

abbrev pub some_hold : List Holds → Holds
some_hold [] root here = false
some_hold (h ∷ hs) root here = h root here || some_hold hs root here

abbrev pub all_hold : List Holds → Holds
all_hold [] root here = true
all_hold (h ∷ hs) root here = h root here && all_hold hs root here

abbrev pub is_some_part : List Part → Bool
is_some_part [] = false
is_some_part (p ∷ ps) = true

abbrev pub segment_step : Segment-F Yields Holds Yields Selects Selects Finds → Selects
segment_step (Segment-F.Child ss) root p = union ss.items root p
segment_step (Segment-F.Descendant ss) root p = from_each (union ss.items root) (visited p.path p.tree)

abbrev pub selector_step : Selector-F Yields Holds Yields Selects Selects Finds → Selects
selector_step (Selector-F.Name k) root p = by_name p.path (text k) p.tree
selector_step Selector-F.Wildcard root p = children p.path p.tree
selector_step (Selector-F.Index z) root p = by_index p.path z p.tree
selector_step (Selector-F.Slice start end step) root p = by_slice p.path start end step p.tree
selector_step (Selector-F.Filter holds) root p = kept (holds root) (children p.path p.tree)

abbrev pub expression_step : Judge → Expression-F Yields Holds Yields Selects Selects Finds → Holds
expression_step judge (Expression-F.Or hs) root here = some_hold hs.items root here
expression_step judge (Expression-F.And hs) root here = all_hold hs.items root here
expression_step judge (Expression-F.Not h) root here = not (h.value root here)
expression_step judge (Expression-F.Comparison operator l r) root here = compares operator (l.value root here) (r.value root here)
expression_step judge (Expression-F.Test q) root here = is_some_part (q root here)
expression_step judge (Expression-F.Pattern f v p) root here = pattern_holds judge f (v.value root here) (p.value root here)

abbrev pub comparable_step : Comparable-F Yields Holds Yields Selects Selects Finds → Yields
comparable_step (Comparable-F.Literal l) root here = Some (literal_tree l)
comparable_step (Comparable-F.SingularQuery q) root here = one_tree q root here
comparable_step (Comparable-F.Function f) root here = f root here

abbrev pub function_step : FunctionExpression-F Yields Holds Yields Selects Selects Finds → Yields
function_step (FunctionExpression-F.Length c) root here = length_of (c.value root here)
function_step (FunctionExpression-F.Count q) root here = count_of (q root here)
function_step (FunctionExpression-F.Value q) root here = value_of (q root here)

abbrev pub filter_query_step : FilterQuery-F Yields Holds Yields Selects Selects Finds → Finds
filter_query_step q root here = one_by_one root q.segments.items (root_part (origin_tree q.origin root here) ∷ [])

abbrev pub segment_parts_by : Judge → Segment → Selects
segment_parts_by judge =
    fold-Segment Yields Holds Yields Selects Selects Finds comparable_step (expression_step judge) function_step segment_step selector_step
    filter_query_step

-- the parts that a query selects in a tree, in order; `judge` decides `match` and `search`
abbrev pub query_parts : Judge → Query → Tree → List Part
query_parts judge q t = one_by_one t (map (segment_parts_by judge) q.segments.items) (root_part t ∷ [])

-- ---- the same with the code's decision, for each part of a query; for private contracts

abbrev pub segment_parts : Segment → Selects
segment_parts = segment_parts_by judged

abbrev pub selector_parts : Selector → Selects
selector_parts =
    fold-Selector Yields Holds Yields Selects Selects Finds comparable_step (expression_step judged) function_step segment_step
    selector_step filter_query_step

abbrev pub holds_of : Expression → Holds
holds_of =
    fold-Expression Yields Holds Yields Selects Selects Finds comparable_step (expression_step judged) function_step segment_step
    selector_step filter_query_step

abbrev pub comparable_value : Comparable → Yields
comparable_value =
    fold-Comparable Yields Holds Yields Selects Selects Finds comparable_step (expression_step judged) function_step segment_step
    selector_step filter_query_step

abbrev pub filter_parts : FilterQuery → Finds
filter_parts =
    fold-FilterQuery Yields Holds Yields Selects Selects Finds comparable_step (expression_step judged) function_step segment_step
    selector_step filter_query_step

abbrev pub selected_by : List Selector → Selects
selected_by ss = union (map selector_parts ss)

-- the parts that segments select, one after the other, from a tree in a value with this root
abbrev pub found_by : List Segment → Tree → Tree → List Part
found_by ss root t = one_by_one root (map segment_parts ss) (root_part t ∷ [])
