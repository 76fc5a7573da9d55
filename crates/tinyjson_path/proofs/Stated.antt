-- The strings of a query, by what it is made of, and what they have of what it selects and compares.
use Rattle.std.proofs.Common.{◌≡◌, rules, Vec, Global, Bool, List, [], ◌∷◌, ◌++◌, map, sym, ap, ◌∙◌, subst}
use Rattle.std.specs.Box.{box_value}
use Rattle.std.specs.Global.{Box}
use Rattle.tinyjson.specs.Tree.{Tree}
use Rattle.tinyjson.specs.View.{text}
use Rattle.tinyjson_path.specs.Comparing.{literal_tree, origin_tree}
use Rattle.tinyjson_path.specs.Nodes.{Part, root_part, children, visited}
use Rattle.tinyjson_path.specs.Patterns.{judged}
use Rattle.tinyjson_path.specs.Queries.{Selects, Finds, Yields, Holds, union, one_by_one, kept, segment_step, selector_step}
use Rattle.tinyjson_path.specs.Queries.{expression_step, comparable_step, function_step, filter_query_step, segment_parts, selector_parts}
use Rattle.tinyjson_path.specs.Queries.{holds_of, comparable_value, filter_parts}
use Rattle.tinyjson_path.specs.Selecting.{from_each}
use Rattle.tinyjson_path.specs.Strings.{Texts, joined, literal_strings, segment_strings, selector_strings, expression_strings}
use Rattle.tinyjson_path.specs.Strings.{comparable_strings, filter_strings, segments_strings, selectors_strings, strings_in, strings_at}
use Rattle.tinyjson_path.specs.Strings.{segment_texts, selector_texts, expression_texts, comparable_texts}
use Rattle.tinyjson_path.specs.Strings.{function_texts, filter_query_texts}
use Rattle.tinyjson_path.proofs.Selected.{AreWithin, are_both, are_each, are_chosen, are_children, are_visited, are_by_name, are_by_index}
use Rattle.tinyjson_path.proofs.Selected.{are_by_slice, is_origin, is_one_tree, is_length, is_value}
use Rattle.tinyjson_path.proofs.Within.{Within, within_self, within_none, within_left, within_right, within_trans}
use Rattle.tinyjson_path_query.specs.declared.query.Comparable.{Comparable, Comparable-F, fold_out-Comparable}
use Rattle.tinyjson_path_query.specs.declared.query.Comparable.{map-Comparable, out-Comparable}
use Rattle.tinyjson_path_query.specs.declared.query.Comparable.TheVariants as comparable
use Rattle.tinyjson_path_query.specs.declared.query.ComparisonOperator.{ComparisonOperator}
use Rattle.tinyjson_path_query.specs.declared.query.Expression.{Expression}
use Rattle.tinyjson_path_query.specs.declared.query.Expression.TheVariants as expression
use Rattle.tinyjson_path_query.specs.declared.query.FilterQuery.{FilterQuery, FilterQuery-F, fold_out-FilterQuery, map-FilterQuery}
use Rattle.tinyjson_path_query.specs.declared.query.FilterQuery.{out-FilterQuery}
use Rattle.tinyjson_path_query.specs.declared.query.FunctionExpression.{FunctionExpression, FunctionExpression-F, fold-FunctionExpression}
use Rattle.tinyjson_path_query.specs.declared.query.FunctionExpression.{fold_out-FunctionExpression, map-FunctionExpression}
use Rattle.tinyjson_path_query.specs.declared.query.FunctionExpression.{out-FunctionExpression}
use Rattle.tinyjson_path_query.specs.declared.query.FunctionExpression.TheVariants as function
use Rattle.tinyjson_path_query.specs.declared.query.Literal.{Literal}
use Rattle.tinyjson_path_query.specs.declared.query.Literal.TheVariants as literal
use Rattle.tinyjson_path_query.specs.declared.query.PatternFunction.{PatternFunction}
use Rattle.tinyjson_path_query.specs.declared.query.Segment.{Segment, Segment-F, fold_out-Segment, map-Segment, out-Segment, the_lemmas}
use Rattle.tinyjson_path_query.specs.declared.query.Segment.TheVariants as segment
use Rattle.tinyjson_path_query.specs.declared.query.Selector.{Selector, Selector-F, fold_out-Selector}
use Rattle.tinyjson_path_query.specs.declared.query.Selector.TheVariants as selector

-- ---- the strings of each variant

pub child_strings : (s : Segment) (ss : Vec Selector Global) → s ≡ segment.Child ss → segment_strings s ≡ selectors_strings ss.items
child_strings s ss e = ap segment_strings e ∙ search (rules, the_lemmas)

pub descendant_strings : (s : Segment) (ss : Vec Selector Global) → s ≡ segment.Descendant ss
    → segment_strings s ≡ selectors_strings ss.items
descendant_strings s ss e = ap segment_strings e ∙ search (rules, the_lemmas)

pub filter_strings_are : (s : Selector) (x : Expression) → s ≡ selector.Filter x → selector_strings s ≡ expression_strings x
filter_strings_are s x e = ap selector_strings e ∙ search (rules, the_lemmas)

pub or_strings : (x : Expression) (xs : Vec Expression Global) → x ≡ expression.Or xs
    → expression_strings x ≡ joined (map expression_strings xs.items)
or_strings x xs e = ap expression_strings e ∙ search (rules, the_lemmas)

pub and_strings : (x : Expression) (xs : Vec Expression Global) → x ≡ expression.And xs
    → expression_strings x ≡ joined (map expression_strings xs.items)
and_strings x xs e = ap expression_strings e ∙ search (rules, the_lemmas)

pub not_strings : (x : Expression) (b : Box Expression) → x ≡ expression.Not b → expression_strings x ≡ expression_strings (box_value b)
not_strings x b e = ap expression_strings e ∙ search (rules, the_lemmas)

pub comparison_strings : (x : Expression) (o : ComparisonOperator) (l r : Box Comparable) → x ≡ expression.Comparison o l r
    → expression_strings x ≡ comparable_strings (box_value l) ++ comparable_strings (box_value r)
comparison_strings x o l r e = ap expression_strings e ∙ search (rules, the_lemmas)

pub test_strings : (x : Expression) (q : FilterQuery) → x ≡ expression.Test q → expression_strings x ≡ filter_strings q
test_strings x q e = ap expression_strings e ∙ search (rules, the_lemmas)

pub pattern_strings : (x : Expression) (f : PatternFunction) (v p : Box Comparable) → x ≡ expression.Pattern f v p
    → expression_strings x ≡ comparable_strings (box_value v) ++ comparable_strings (box_value p)
pattern_strings x f v p e = ap expression_strings e ∙ search (rules, the_lemmas)

pub length_strings : (x : Comparable) (f : FunctionExpression) (b : Box Comparable) → x ≡ comparable.Function f → f ≡ function.Length b
    → comparable_strings x ≡ comparable_strings (box_value b)
length_strings x f b e g = ap comparable_strings (e ∙ ap comparable.Function g) ∙ search (rules, the_lemmas)

pub count_strings : (x : Comparable) (f : FunctionExpression) (q : FilterQuery) → x ≡ comparable.Function f → f ≡ function.Count q
    → comparable_strings x ≡ filter_strings q
count_strings x f q e g = ap comparable_strings (e ∙ ap comparable.Function g) ∙ search (rules, the_lemmas)

pub value_strings : (x : Comparable) (f : FunctionExpression) (q : FilterQuery) → x ≡ comparable.Function f → f ≡ function.Value q
    → comparable_strings x ≡ filter_strings q
value_strings x f q e g = ap comparable_strings (e ∙ ap comparable.Function g) ∙ search (rules, the_lemmas)

pub segments_of_query : (q : FilterQuery) → filter_strings q ≡ segments_strings q.segments.items
segments_of_query q = search (rules, the_lemmas)

-- ---- what is selected from a part is within it

abbrev pub Keeps : Selects → Type 0
Keeps f = (root : Tree) (p : Part) → AreWithin (strings_in p.tree) (f root p)

are_union : {A : Type 0} (g : A → Selects) → ((x : A) → Keeps (g x)) → (xs : List A) (root : Tree) (p : Part)
    → AreWithin (strings_in p.tree) (union (map g xs) root p)
are_union g k [] root p = tt
are_union g k (x ∷ xs) root p = are_both (strings_in p.tree) (g x root p) (union (map g xs) root p) (k x root p) (are_union g k xs root p)

are_one_by_one : {A : Type 0} (g : A → Selects) → ((x : A) → Keeps (g x)) → (xs : List A) (root : Tree) (zs : Texts) (ps : List Part)
    → AreWithin zs ps → AreWithin zs (one_by_one root (map g xs) ps)
are_one_by_one g k [] root zs ps h = h
are_one_by_one g k (x ∷ xs) root zs ps h =
    are_one_by_one g k xs root zs (from_each (g x root) ps) (are_each zs (g x root) ps (k x root) h)

pub are_kept : (zs : Texts) (f : Tree → Bool) (ps : List Part) → AreWithin zs ps → AreWithin zs (kept f ps)
are_kept zs f [] h = tt
are_kept zs f (p ∷ ps) h =
    are_chosen zs (f p.tree) (p ∷ kept f ps) (kept f ps) (h.0, are_kept zs f ps h.1) (are_kept zs f ps h.1)

selector_layer : (y : Selector-F Yields Holds Yields Selects Selects Finds) → Keeps (selector_step y)
selector_layer (Selector-F.Name k) root p = are_by_name p.path _ p.tree
selector_layer Selector-F.Wildcard root p = are_children p.path p.tree
selector_layer (Selector-F.Index z) root p = are_by_index p.path z p.tree
selector_layer (Selector-F.Slice start end step) root p = are_by_slice p.path start end step p.tree
selector_layer (Selector-F.Filter holds) root p =
    are_kept (strings_in p.tree) (holds root) (children p.path p.tree) (are_children p.path p.tree)

selector_keeps : (s : Selector) → Keeps (selector_parts s)
selector_keeps s =
    subst Keeps
    (sym (fold_out-Selector Yields Holds Yields Selects Selects Finds comparable_step (expression_step judged) function_step segment_step
    selector_step filter_query_step s))
    (selector_layer _)

abbrev function_value : FunctionExpression → Yields
function_value =
    fold-FunctionExpression Yields Holds Yields Selects Selects Finds comparable_step (expression_step judged) function_step segment_step
    selector_step filter_query_step

segment_layer : (o : Segment-F Comparable Expression FunctionExpression Segment Selector FilterQuery)
    → Keeps (segment_step (map-Segment Comparable Expression FunctionExpression Segment Selector FilterQuery
    Yields Holds Yields Selects Selects Finds comparable_value holds_of function_value segment_parts selector_parts filter_parts o))
segment_layer (Segment-F.Child ss) root p = are_union selector_parts selector_keeps ss.items root p
segment_layer (Segment-F.Descendant ss) root p =
    are_each (strings_in p.tree) (union (map selector_parts ss.items) root) (visited p.path p.tree)
    (are_union selector_parts selector_keeps ss.items root) (are_visited p.path p.tree)

pub segment_keeps : (s : Segment) → Keeps (segment_parts s)
segment_keeps s =
    subst Keeps
    (sym (fold_out-Segment Yields Holds Yields Selects Selects Finds comparable_step (expression_step judged) function_step segment_step
    selector_step filter_query_step s))
    (segment_layer (out-Segment s))

-- ---- what is compared

filter_layer : (root here : Tree) (o : FilterQuery-F Comparable Expression FunctionExpression Segment Selector FilterQuery)
    → AreWithin (strings_in root ++ strings_in here)
    (filter_query_step (map-FilterQuery Comparable Expression FunctionExpression Segment Selector FilterQuery
    Yields Holds Yields Selects Selects Finds comparable_value holds_of function_value segment_parts selector_parts filter_parts o)
    root here)
filter_layer root here o =
    are_one_by_one segment_parts segment_keeps o.segments.items root (strings_in root ++ strings_in here)
    (root_part (origin_tree o.origin root here) ∷ []) (is_origin o.origin root here, tt)

filter_keeps : (root here : Tree) (q : FilterQuery) → AreWithin (strings_in root ++ strings_in here) (filter_parts q root here)
filter_keeps root here q =
    subst (λ (f : Finds). AreWithin (strings_in root ++ strings_in here) (f root here))
    (sym (fold_out-FilterQuery Yields Holds Yields Selects Selects Finds comparable_step (expression_step judged) function_step
    segment_step selector_step filter_query_step q))
    (filter_layer root here (out-FilterQuery q))

function_layer : (root here : Tree) (o : FunctionExpression-F Comparable Expression FunctionExpression Segment Selector FilterQuery)
    → Within (strings_at (function_step (map-FunctionExpression Comparable Expression FunctionExpression Segment Selector FilterQuery
    Yields Holds Yields Selects Selects Finds comparable_value holds_of function_value segment_parts selector_parts filter_parts o)
    root here)) (strings_in root ++ strings_in here)
function_layer root here (FunctionExpression-F.Length c) = is_length (strings_in root ++ strings_in here) _
function_layer root here (FunctionExpression-F.Count q) = within_none (strings_in root ++ strings_in here)
function_layer root here (FunctionExpression-F.Value q) =
    is_value (strings_in root ++ strings_in here) (filter_parts q root here) (filter_keeps root here q)

function_keeps : (root here : Tree) (f : FunctionExpression)
    → Within (strings_at (function_value f root here)) (strings_in root ++ strings_in here)
function_keeps root here f =
    subst (λ (y : Yields). Within (strings_at (y root here)) (strings_in root ++ strings_in here))
    (sym (fold_out-FunctionExpression Yields Holds Yields Selects Selects Finds comparable_step (expression_step judged) function_step
    segment_step selector_step filter_query_step f))
    (function_layer root here (out-FunctionExpression f))

literal_keeps : (l : Literal) → Within (strings_in (literal_tree l)) (literal_strings l)
literal_keeps literal.Null = within_none []
literal_keeps (literal.Boolean b) = within_none []
literal_keeps (literal.Number n) = within_none []
literal_keeps (literal.String s) = within_self (text s ∷ [])

abbrev function_strings : FunctionExpression → Texts
function_strings =
    fold-FunctionExpression Texts Texts Texts Texts Texts Texts comparable_texts expression_texts function_texts segment_texts
    selector_texts filter_query_texts

abbrev strings_seen : Comparable-F Comparable Expression FunctionExpression Segment Selector FilterQuery → Texts
strings_seen o =
    comparable_texts (map-Comparable Comparable Expression FunctionExpression Segment Selector FilterQuery Texts Texts Texts Texts Texts
    Texts comparable_strings expression_strings function_strings segment_strings selector_strings filter_strings o)

comparable_layer : (root here : Tree) (o : Comparable-F Comparable Expression FunctionExpression Segment Selector FilterQuery)
    → Within (strings_at (comparable_step (map-Comparable Comparable Expression FunctionExpression Segment Selector FilterQuery
    Yields Holds Yields Selects Selects Finds comparable_value holds_of function_value segment_parts selector_parts filter_parts o)
    root here)) (strings_seen o ++ (strings_in root ++ strings_in here))
comparable_layer root here (Comparable-F.Literal l) =
    within_trans (strings_in (literal_tree l)) (literal_strings l) (literal_strings l ++ (strings_in root ++ strings_in here))
    (literal_keeps l) (within_left (literal_strings l) (strings_in root ++ strings_in here))
comparable_layer root here (Comparable-F.SingularQuery q) = is_one_tree q root here
comparable_layer root here (Comparable-F.Function f) =
    within_trans (strings_at (function_value f root here)) (strings_in root ++ strings_in here)
    (function_strings f ++ (strings_in root ++ strings_in here)) (function_keeps root here f)
    (within_right (function_strings f) (strings_in root ++ strings_in here))

-- a value that is compared has strings of the query, of the root, or of the node that is tested
pub comparable_keeps : (root here : Tree) (c : Comparable)
    → Within (strings_at (comparable_value c root here)) (comparable_strings c ++ (strings_in root ++ strings_in here))
comparable_keeps root here c =
    subst (λ (ts : Texts). Within (strings_at (comparable_value c root here)) (ts ++ (strings_in root ++ strings_in here)))
    (sym (fold_out-Comparable Texts Texts Texts Texts Texts Texts comparable_texts expression_texts function_texts segment_texts
    selector_texts filter_query_texts c))
    (subst (λ (y : Yields). Within (strings_at (y root here))
    (strings_seen (out-Comparable c) ++ (strings_in root ++ strings_in here)))
    (sym (fold_out-Comparable Yields Holds Yields Selects Selects Finds comparable_step (expression_step judged) function_step
    segment_step selector_step filter_query_step c))
    (comparable_layer root here (out-Comparable c)))
