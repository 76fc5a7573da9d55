-- What filters compare (RFC 9535, 2.3.5.2.2), and what their functions return (2.4): a value, or nothing.
use Rattle.std.specs.Prelude.{ℕ, pos, Bool, true, false, ◌||◌, not}
use Rattle.std.specs.Prelude.{List, [], ◌∷◌, length, Option, Some, None, option_and_then, option_map}
use Rattle.std.specs.Ordering.{is_lt}
use Rattle.tinyjson_number.specs.Order.{is_less}
use Rattle.tinyjson.specs.Equality.{tree_eq}
use Rattle.tinyjson.specs.Index.{item_count, tree_at_key}
use Rattle.tinyjson.specs.Number.{integer_decimal}
use Rattle.tinyjson.specs.Tree.{Tree, null, boolean, number, string, array, object, key_cmp}
use Rattle.tinyjson.specs.View.{text}
use Rattle.tinyjson_document.specs.Parts.{member_count}
use Rattle.tinyjson_path.specs.Nodes.{Part}
use Rattle.tinyjson_path.specs.Selecting.{items_in, tree_at_place}
use Rattle.tinyjson_path.specs.Slices.{place_of}
use Rattle.tinyjson_path_query.specs.declared.query.ComparisonOperator.{ComparisonOperator}
use Rattle.tinyjson_path_query.specs.declared.query.ComparisonOperator.TheVariants.{Equal, NotEqual, Less, LessOrEqual}
use Rattle.tinyjson_path_query.specs.declared.query.ComparisonOperator.TheVariants.{Greater, GreaterOrEqual}
use Rattle.tinyjson_path_query.specs.declared.query.Literal.{Literal}
use Rattle.tinyjson_path_query.specs.declared.query.Literal.TheVariants as literal
use Rattle.tinyjson_path_query.specs.declared.query.Origin.{Origin}
use Rattle.tinyjson_path_query.specs.declared.query.Origin.TheVariants.{Root, CurrentNode}
use Rattle.tinyjson_path_query.specs.declared.query.SingularQuery.{SingularQuery}
use Rattle.tinyjson_path_query.specs.declared.query.SingularSegment.{SingularSegment}
use Rattle.tinyjson_path_query.specs.declared.query.SingularSegment.TheVariants.{Name, Index}

-- ---- comparisons

-- nothing equals nothing; nothing equals no value
abbrev pub is_same : Option Tree → Option Tree → Bool
is_same None None = true
is_same (Some t) (Some u) = tree_eq t u
is_same _ _ = false

-- numbers are ordered as exact decimals; strings by their bytes in UTF-8, which is the order by characters
abbrev pub is_tree_less : Tree → Tree → Bool
is_tree_less (number d) (number e) = is_less d e
is_tree_less (string k) (string l) = is_lt (key_cmp k l)
is_tree_less _ _ = false

abbrev pub is_below : Option Tree → Option Tree → Bool
is_below (Some t) (Some u) = is_tree_less t u
is_below _ _ = false

abbrev pub compares : ComparisonOperator → Option Tree → Option Tree → Bool
compares Equal l r = is_same l r
compares NotEqual l r = not (is_same l r)
compares Less l r = is_below l r
compares LessOrEqual l r = is_below l r || is_same l r
compares Greater l r = is_below r l
compares GreaterOrEqual l r = is_below r l || is_same l r

-- ---- values

abbrev pub literal_tree : Literal → Tree
literal_tree literal.Null = null
literal_tree (literal.Boolean b) = boolean b
literal_tree (literal.Number n) = number n.decimal
literal_tree (literal.String s) = string (text s)

-- the root of the value, or the node that the filter tests
abbrev pub origin_tree : Origin → Tree → Tree → Tree
origin_tree Root root here = root
origin_tree CurrentNode root here = here

abbrev pub one_child : SingularSegment → Tree → Option Tree
one_child (Name k) t = tree_at_key t (text k)
one_child (Index z) t = tree_at_place t (place_of z (items_in t))

abbrev pub one_at : List SingularSegment → Tree → Option Tree
one_at [] t = Some t
one_at (s ∷ ss) t = option_and_then (one_at ss) (one_child s t)

-- the value of the one node that a singular query selects
abbrev pub one_tree : SingularQuery → Tree → Tree → Option Tree
one_tree q root here = one_at q.segments.items (origin_tree q.origin root here)

-- ---- functions

abbrev pub whole : ℕ → Tree
whole n = number (integer_decimal (pos n))

-- the number of characters of a string, of items of an array, or of members of an object
abbrev pub size_of : Tree → Option ℕ
size_of (string cs) = Some (length cs)
size_of (array ts) = Some (item_count ts)
size_of (object ms) = Some (member_count ms)
size_of _ = None

-- `length` (2.4.4)
abbrev pub length_of : Option Tree → Option Tree
length_of o = option_map whole (option_and_then size_of o)

-- `count` (2.4.5)
abbrev pub count_of : List Part → Option Tree
count_of ps = Some (whole (length ps))

-- `value` (2.4.8): that of the only node; nothing for none or for several
abbrev pub value_of : List Part → Option Tree
value_of (p ∷ []) = Some p.tree
value_of _ = None
