-- What an error of a part of a query says of the whole.
use Rattle.std.proofs.Common.{◌≡◌, ℕ, ◌<◌, List, [], ◌∷◌, ◌++◌, map, length, get_or, refl, sym, ap}
use Rattle.std.proofs.Common.{◌∙◌, subst}
use Rattle.std.proofs.Common.{rules, Result, Ok, Err, Option, Bool}
use Rattle.std.specs.Prelude.{IsErrAnd, IfErr, IfOk}
use Rattle.tinyjson.specs.Tree.{Tree}
use Rattle.tinyjson_path.specs.Answers.{answer_of, found_view}
use Rattle.tinyjson_path.specs.Comparing.{origin_tree}
use Rattle.tinyjson_path.specs.Nodes.{Part, part_view, parts_view}
use Rattle.tinyjson_view.specs.Views.{tree_of}
use Rattle.tinyjson_path.specs.Queries.{found_by, filter_parts, comparable_value, is_some_part}
use Rattle.tinyjson_path.specs.Strings.{Texts, joined, strings_in, strings_at, strings_of, comparable_strings, IsFrom, IsFromAny}
use Rattle.tinyjson_path.specs.declared.answers.Found.{Found}
use Rattle.tinyjson_path.specs.declared.node.Located.{Located}
use Rattle.tinyjson_view.specs.declared.view.ValueView.{ValueView}
use Rattle.tinyjson_path.specs.declared.patterns.FindError.{FindError}
use Rattle.tinyjson_path.proofs.Stated.{comparable_keeps}
use Rattle.tinyjson_path.proofs.Selected.{AreWithin, are_within, is_origin}
use Rattle.tinyjson_path.proofs.Within.{Within, within_same, within_left, within_right, within_trans, within_each, within_both}
use Rattle.tinyjson_path.proofs.Within.{from_within, from_error, from_result, of_query, of_here, of_all}
use Rattle.tinyjson_path_query.specs.declared.query.Comparable.{Comparable}
use Rattle.tinyjson_path_query.specs.declared.query.Expression.{the_lemmas}
use Rattle.tinyjson_path_query.specs.declared.query.FilterQuery.{FilterQuery}
use Rattle.tinyjson_path_query.specs.declared.query.Origin.{Origin}

-- ---- of the query

-- a part that is the whole, the left or the right of it, or one of a list
pub is_whole : (whole part here : Texts) (root : Tree) → whole ≡ part → Within part (whole ++ (strings_in root ++ here))
is_whole whole part here root e =
    within_trans part whole (whole ++ (strings_in root ++ here)) (within_same part whole (sym e)) (of_query whole here root)

pub is_left : (whole l r here : Texts) (root : Tree) → whole ≡ l ++ r → Within l (whole ++ (strings_in root ++ here))
is_left whole l r here root e =
    within_trans l (l ++ r) (whole ++ (strings_in root ++ here)) (within_left l r) (is_whole whole (l ++ r) here root e)

pub is_right : (whole l r here : Texts) (root : Tree) → whole ≡ l ++ r → Within r (whole ++ (strings_in root ++ here))
is_right whole l r here root e =
    within_trans r (l ++ r) (whole ++ (strings_in root ++ here)) (within_right l r) (is_whole whole (l ++ r) here root e)

pub is_one : {A : Type 0} (f : A → Texts) (xs ys : List A) (i : ℕ) (x : A) (whole here : Texts) (root : Tree)
    → whole ≡ joined (map f ys) → xs ≡ ys → i < length xs → x ≡ get_or xs i x → Within (f x) (whole ++ (strings_in root ++ here))
is_one f xs ys i x whole here root e s l g =
    within_trans (f x) (joined (map f xs)) (whole ++ (strings_in root ++ here)) (within_each (λ ts. ts) f xs i x l g)
    (is_whole whole (joined (map f xs)) here root (e ∙ ap (λ zs. joined (map f zs)) (sym s)))

-- ---- of what is looked at

-- one of the nodes
pub node_in : (ns : List Located) (i : ℕ) (n : Located) → i < length ns → n ≡ get_or ns i n
    → Within (strings_in (part_view n).tree) (strings_of (parts_view ns))
node_in ns i n l e = within_each (λ (p : Part). strings_in p.tree) part_view ns i n l e

-- one of the nodes of parts that are within others
pub node_within : (ns ms : List Located) (ps : List Part) (i : ℕ) (n : Located) (zs : Texts) → ns ≡ ms → parts_view ms ≡ ps
    → AreWithin zs ps → i < length ns → n ≡ get_or ns i n → Within (strings_in (part_view n).tree) zs
node_within ns ms ps i n zs s e h l g =
    within_trans (strings_in (part_view n).tree) (strings_of (parts_view ns)) zs (node_in ns i n l g)
    (are_within zs (parts_view ns) (subst (AreWithin zs) (sym (ap parts_view s ∙ e)) h))

-- ---- errors

pub error_of : {T : Type 0} (whole part here below : Texts) (root : Tree) (d : FindError) (r : Result T FindError)
    → IsErrAnd r (λ e. e ≡ d) → Within part (whole ++ (strings_in root ++ here)) → Within below here → IsFromAny part root below d
    → IfErr r (IsFromAny whole root here)
error_of whole part here below root d r h w v k =
    from_error (part ++ (strings_in root ++ below)) (whole ++ (strings_in root ++ here)) d r h
    (of_all whole here root part below w (within_trans below here (whole ++ (strings_in root ++ here)) v (of_here whole here root))) k

-- of a query in a filter
pub error_from : {T : Type 0} (whole part : Texts) (o : Origin) (root here start : Tree) (r : Result T FindError) → whole ≡ part
    → start ≡ origin_tree o root here → IfErr r (IsFromAny part root (strings_in start)) → IfErr r (IsFromAny whole root (strings_in here))
error_from whole part o root here start r e s k =
    from_result (part ++ (strings_in root ++ strings_in start)) (whole ++ (strings_in root ++ strings_in here)) r
    (of_all whole (strings_in here) root part (strings_in start) (is_whole whole part (strings_in here) root e)
    (within_trans (strings_in start) (strings_in root ++ strings_in here) (whole ++ (strings_in root ++ strings_in here))
    (subst (λ t. Within (strings_in t) (strings_in root ++ strings_in here)) (sym s) (is_origin o root here))
    (within_right whole (strings_in root ++ strings_in here))))
    k

-- of the pattern, whose text may come from a value
pub error_of_pattern : {T : Type 0} (whole : Texts) (root here : Tree) (p : Comparable) (o : Option Tree) (d : FindError)
    (r : Result T FindError) → IsErrAnd r (λ e. e ≡ d)
    → Within (comparable_strings p) (whole ++ (strings_in root ++ strings_in here)) → o ≡ comparable_value p root here
    → IsFrom (strings_at o) d → IfErr r (IsFromAny whole root (strings_in here))
error_of_pattern whole root here p o d r h w e k =
    from_error (strings_at o) (whole ++ (strings_in root ++ strings_in here)) d r h
    (within_trans (strings_at o) (comparable_strings p ++ (strings_in root ++ strings_in here))
    (whole ++ (strings_in root ++ strings_in here))
    (subst (λ t. Within (strings_at t) (comparable_strings p ++ (strings_in root ++ strings_in here))) (sym e)
    (comparable_keeps root here p))
    (of_all whole (strings_in here) root (comparable_strings p) (strings_in here) w (of_here whole (strings_in here) root)))
    k

pub same_error : (whole part here : Texts) (root : Tree) (d : FindError) → Within part (whole ++ (strings_in root ++ here))
    → IsFromAny part root here d → IsFromAny whole root here d
same_error whole part here root d w k =
    from_within (part ++ (strings_in root ++ here)) (whole ++ (strings_in root ++ here)) d
    (of_all whole here root part here w (of_here whole here root)) k

pub same_result : {T : Type 0} (whole part here : Texts) (root : Tree) (r : Result T FindError) → whole ≡ part
    → IfErr r (IsFromAny part root here) → IfErr r (IsFromAny whole root here)
same_result whole part here root r e k =
    from_result (part ++ (strings_in root ++ here)) (whole ++ (strings_in root ++ here)) r
    (of_all whole here root part here (is_whole whole part here root e) (of_here whole here root)) k

pub part_result : {T : Type 0} (whole part here : Texts) (root : Tree) (r : Result T FindError)
    → Within part (whole ++ (strings_in root ++ here)) → IfErr r (IsFromAny part root here) → IfErr r (IsFromAny whole root here)
part_result whole part here root r w k =
    from_result (part ++ (strings_in root ++ here)) (whole ++ (strings_in root ++ here)) r
    (of_all whole here root part here w (of_here whole here root)) k

-- of nodes that wait, whose strings are the root's
pub error_of_rest : {T : Type 0} (part waits : Texts) (root : Tree) (d : FindError) (r : Result T FindError) → IsErrAnd r (λ e. e ≡ d)
    → Within waits (strings_in root) → IsFromAny part root waits d → IfErr r (IsFrom (part ++ strings_in root))
error_of_rest part waits root d r h w k =
    let zs = strings_in root in
    from_error (part ++ (zs ++ waits)) (part ++ zs) d r h
    (within_both part (zs ++ waits) (part ++ zs) (within_left part zs)
    (within_both zs waits (part ++ zs) (within_right part zs) (within_trans waits zs (part ++ zs) w (within_right part zs))))
    k

-- of a root that is the same
pub error_at : (part below : Texts) (d : FindError) {r s : ValueView} → r ≡ s → IsFromAny part (tree_of r) below d
    → IsFromAny part (tree_of s) below d
error_at part below d e k = subst (λ x. IsFromAny part (tree_of x) below d) e k

-- ---- a query in a filter

pub finds_by : (q : FilterQuery) (root here start : Tree) → start ≡ origin_tree q.origin root here
    → found_by q.segments.items root start ≡ filter_parts q root here
finds_by q root here start s = ap (found_by q.segments.items root) s ∙ search (rules, the_lemmas)

-- ---- what filters ask of what it selects

pub answered : (q : FilterQuery) (root here start : Tree) (r : Result Found FindError) → start ≡ origin_tree q.origin root here
    → IfOk r (λ f. found_view f ≡ answer_of (found_by q.segments.items root start))
    → IfOk r (λ f. found_view f ≡ answer_of (filter_parts q root here))
answered q root here start (Ok f) s h = h ∙ ap answer_of (finds_by q root here start s)
answered q root here start (Err e) s h = tt

pub some_answered : (q : FilterQuery) (root here start : Tree) (r : Result Bool FindError) → start ≡ origin_tree q.origin root here
    → IfOk r (λ b. b ≡ is_some_part (found_by q.segments.items root start)) → IfOk r (λ b. b ≡ is_some_part (filter_parts q root here))
some_answered q root here start (Ok b) s h = h ∙ ap is_some_part (finds_by q root here start s)
some_answered q root here start (Err e) s h = tt
