-- A schema of draft 4, 6, 7 or 2019-09 in the words of 2020-12.
use Rattle.std.specs.Prelude.{ℕ, Bool, true, false, not, ◌&&◌, List, Option, Some, None, cond, codes, is_some, encode_utf8_all}
use Rattle.std.specs.Option.{option_map_or}
use Rattle.std.specs.Str.{chars}
use Rattle.tinyjson.specs.Access.{is_array}
use Rattle.tinyjson.specs.Index.{tree_at_key}
use Rattle.tinyjson.specs.Tree.{Tree, null, string, array, object, Items, no_items, item, Members, no_members, member, put, find}
use Rattle.text_uri.specs.Resolving.{is_empty, without_fragment, fragment_of}
use Rattle.tinyjson_schema_keywords.specs.Applied.{schema_at}
use Rattle.tinyjson_schema_keywords.specs.Names.{name}
use Rattle.tinyjson_schema_keywords.specs.declared.keyword.Keyword.{Keyword}
use Rattle.tinyjson_schema_keywords.specs.declared.keyword.Keyword.TheVariants as kw
use Rattle.tinyjson_schema_drafts.specs.Pointers.{reference_in_words}
use Rattle.tinyjson_schema_drafts.specs.Recursion.{recursive_in_words, anchor_in_words}
use Rattle.tinyjson_schema_drafts.specs.Rules.{is_hidden, traits_of, rule_of}
use Rattle.tinyjson_schema_drafts.specs.declared.draft.Draft.{Draft}
use Rattle.tinyjson_schema_drafts.specs.declared.draft.Draft.TheVariants.{Draft4}
use Rattle.tinyjson_schema_drafts.specs.declared.rule.Rule.{Rule}
use Rattle.tinyjson_schema_drafts.specs.declared.rule.Rule.TheVariants as rule
use Rattle.tinyjson_schema_drafts.specs.declared.rule.Traits.{Traits}

-- ---- `$id`

abbrev pub is_uri : List ℕ → Bool
is_uri bs = not (is_empty (without_fragment bs))

abbrev pub has_uri : Tree → Bool
has_uri (string cs) = is_uri (encode_utf8_all cs)
has_uri _ = false

-- in draft 4 `id` (Core, 7.2)
abbrev pub id_of : Draft → Tree → Option Tree
id_of Draft4 s = tree_at_key s (codes "id")
id_of _ s = schema_at s kw.Id

-- a schema with a URI, which `$ref` does not hide
abbrev pub is_resource : Draft → Tree → Bool
is_resource d s = cond (is_hidden d s) false (option_map_or has_uri (id_of d s) false)

abbrev pub resource_in : Draft → Tree → Tree → Tree
resource_in d r s = cond (is_resource d s) s r

-- without an empty fragment
abbrev pub has_empty_fragment : List ℕ → Bool
has_empty_fragment bs = option_map_or is_empty (fragment_of bs) false

abbrev pub id_by : List ℕ → Tree → Tree
id_by bs w = cond (has_empty_fragment bs) (string (chars (without_fragment bs))) w

abbrev pub id_in_words : Tree → Tree
id_in_words (string cs) = id_by (encode_utf8_all cs) (string cs)
id_in_words w = w

-- the fragment, as a name
abbrev pub name_by : List ℕ → Tree → Tree
name_by bs w = option_map_or (λ f. string (chars f)) (fragment_of bs) w

abbrev pub name_in_words : Tree → Tree
name_in_words (string cs) = name_by (encode_utf8_all cs) (string cs)
name_in_words w = w

-- ---- members

-- what stays at a keyword that has it already
abbrev pub put_new : Keyword → Tree → Members → Members
put_new k w ms = cond (is_some (find (name k) ms)) ms (put (name k) w ms)

-- the keyword of 2020-12, where its name is another one
abbrev pub word_of : Rule → Option Keyword
word_of rule.Rest = Some kw.Items
word_of rule.RestFlag = Some kw.Items
word_of rule.Below = Some kw.ExclusiveMaximum
word_of rule.Above = Some kw.ExclusiveMinimum
word_of rule.Id = Some kw.Id
word_of rule.Prefix = Some kw.PrefixItems
word_of rule.Dependencies = Some kw.DependentSchemas
word_of rule.Name = Some kw.Anchor
word_of rule.Recursive = Some kw.DynamicRef
word_of rule.RecursiveAnchor = Some kw.DynamicAnchor
word_of _ = None

abbrev pub put_at_word : Option Keyword → List ℕ → Tree → Members → Members
put_at_word None k w ms = put k w ms
put_at_word (Some word) k w ms = put_new word w ms

-- a member with the key k, if there is a value
abbrev pub put_by : Rule → List ℕ → Option Tree → Members → Members
put_by x k None ms = ms
put_by x k (Some w) ms = put_at_word (word_of x) k w ms

-- the arrays among the members
abbrev pub lists_among : Members → Members
lists_among no_members = no_members
lists_among (member k w ms) = cond (is_array w) (put k w (lists_among ms)) (lists_among ms)

abbrev pub key_lists : Tree → Tree
key_lists (object ms) = object (lists_among ms)
key_lists w = w

-- of `dependencies`, the arrays of keys
abbrev pub put_lists : Rule → Tree → Members → Members
put_lists rule.Dependencies w ms = put_new kw.DependentRequired (key_lists w) ms
put_lists _ w ms = ms

-- ---- values, in the resource r

abbrev pub value_alone : Rule → Tree → Tree → Option Tree
value_alone rule.Drop r w = None
value_alone rule.Reject r w = Some null
value_alone rule.Id r w = Some (id_in_words w)
value_alone rule.Name r w = Some (name_in_words w)
value_alone rule.Reference r w = Some (reference_in_words r w)
value_alone rule.Recursive r w = Some (recursive_in_words r w)
value_alone rule.RecursiveAnchor r w = Some (anchor_in_words r w)
value_alone _ r w = Some w

-- where it is known what it is as a schema, as an array and as an object of schemas, and as an object of schemas and arrays
abbrev pub value_by : Rule → Tree → Tree → Tree → Tree → Tree → Tree → Option Tree
value_by rule.Schema r w one list entries mixed = Some one
value_by rule.Rest r w one list entries mixed = Some one
value_by rule.Schemas r w one list entries mixed = Some list
value_by rule.Prefix r w one list entries mixed = Some list
value_by rule.Map r w one list entries mixed = Some entries
value_by rule.Dependencies r w one list entries mixed = Some mixed
value_by x r w one list entries mixed = value_alone x r w

-- a schema that is no object, of which draft 4 has none (Core, 4)
abbrev pub other_in_words : Draft → Tree → Tree
other_in_words Draft4 w = null
other_in_words _ w = w

-- `const` came with draft 6, and accepts null: a schema of draft 4 with it becomes null itself.
abbrev pub has_later_const : Draft → Tree → Bool
has_later_const Draft4 s = not (is_some (schema_at s kw.Ref)) && is_some (schema_at s kw.Const)
has_later_const _ s = false

abbrev mutual
  -- a schema of the draft d in the resource r
  pub in_words : Draft → Tree → Tree → Tree
  in_words d r (object ms) =
      cond (has_later_const d (object ms)) null (object (words_among (traits_of d (object ms)) d (resource_in d r (object ms)) ms))
  in_words d r w = other_in_words d w

  pub words_among : Traits → Draft → Tree → Members → Members
  words_among x d r no_members = no_members
  words_among x d r (member k w ms) = put_by (rule_of x (encode_utf8_all k) w) k (value_by (rule_of x (encode_utf8_all k) w) r w
      (in_words d r w) (list_in_words d r w) (map_in_words false d r w) (map_in_words true d r w))
      (put_lists (rule_of x (encode_utf8_all k) w) w (words_among x d r ms))

  pub list_in_words : Draft → Tree → Tree → Tree
  list_in_words d r (array ts) = array (items_in_words d r ts)
  list_in_words d r w = w

  pub items_in_words : Draft → Tree → Items → Items
  items_in_words d r no_items = no_items
  items_in_words d r (item t ts) = item (in_words d r t) (items_in_words d r ts)

  -- an object of schemas, without the arrays among them if there may be some
  pub map_in_words : Bool → Draft → Tree → Tree → Tree
  map_in_words lists d r (object ms) = object (members_in_words lists d r ms)
  map_in_words lists d r w = w

  pub members_in_words : Bool → Draft → Tree → Members → Members
  members_in_words lists d r no_members = no_members
  members_in_words lists d r (member k w ms) =
      cond (lists && is_array w) (members_in_words lists d r ms) (put k (in_words d r w) (members_in_words lists d r ms))

-- the whole schema
abbrev pub translated : Draft → Tree → Tree
translated d t = in_words d t t

-- ---- words of private contracts

abbrev pub value_of : Rule → Draft → Tree → Tree → Option Tree
value_of x d r w = value_by x r w (in_words d r w) (list_in_words d r w) (map_in_words false d r w) (map_in_words true d r w)
