-- What becomes of the members of a schema of draft 4, 6, 7 or 2019-09 in the words of 2020-12. Sections are of
-- draft 7: Core (draft-handrews-json-schema-01) and Validation (draft-handrews-json-schema-validation-01); where they are named, of
-- draft 4 (draft-zyp-json-schema-04 and draft-fge-json-schema-validation-00) and of 2019-09 (draft-handrews-json-schema-02).
use Rattle.std.specs.Prelude.{ℕ, Bool, true, false, not, ◌&&◌, ◌==◌, List, [], ◌∷◌, Option, Some, None, cond, codes, is_some}
use Rattle.std.specs.Prelude.{encode_utf8_all}
use Rattle.std.specs.Option.{option_map_or}
use Rattle.std.specs.Str.{bytes_eq}
use Rattle.tinyjson.specs.Access.{is_array, is_boolean}
use Rattle.tinyjson.specs.Characters.{solidus}
use Rattle.tinyjson.specs.Index.{tree_at_key}
use Rattle.tinyjson.specs.Tree.{Tree, boolean, string}
use Rattle.text_uri.specs.Resolving.{is_empty, without_fragment, fragment_of}
use Rattle.tinyjson_schema_keywords.specs.Applied.{schema_at}
use Rattle.tinyjson_schema_keywords.specs.Names.{keywords, keyword_among}
use Rattle.tinyjson_schema_keywords.specs.declared.keyword.Keyword.{Keyword}
use Rattle.tinyjson_schema_keywords.specs.declared.keyword.Keyword.TheVariants as kw
use Rattle.tinyjson_schema_drafts.specs.Dialects.{dialect_named}
use Rattle.tinyjson_schema_drafts.specs.declared.draft.Dialect.{Dialect}
use Rattle.tinyjson_schema_drafts.specs.declared.draft.Dialect.TheVariants.{Known}
use Rattle.tinyjson_schema_drafts.specs.declared.draft.Draft.{Draft}
use Rattle.tinyjson_schema_drafts.specs.declared.draft.Draft.TheVariants.{Draft4, Draft6, Draft7, Draft201909, Draft202012}
use Rattle.tinyjson_schema_drafts.specs.declared.rule.Limit.{Limit}
use Rattle.tinyjson_schema_drafts.specs.declared.rule.Limit.TheVariants.{Missing, Inclusive, Exclusive}
use Rattle.tinyjson_schema_drafts.specs.declared.rule.Rule.{Rule}
use Rattle.tinyjson_schema_drafts.specs.declared.rule.Rule.TheVariants as rule
use Rattle.tinyjson_schema_drafts.specs.declared.rule.Traits.{Traits}

-- `items` is an array (Validation, 6.4.1)
abbrev pub has_list : Tree → Bool
has_list s = option_map_or is_array (schema_at s kw.Items) false

abbrev pub is_true : Tree → Bool
is_true (boolean b) = b
is_true _ = false

abbrev pub has_true : Tree → Keyword → Bool
has_true s k = option_map_or is_true (schema_at s k) false

-- the limit at the keyword k, which is excluded if that at e is true (draft 4: Validation, 5.1.2.2 and 5.1.3.2)
abbrev pub limit_of : Tree → Keyword → Keyword → Limit
limit_of s k e = cond (is_some (schema_at s k)) (cond (has_true s e) Exclusive Inclusive) Missing

-- from 2019-09 on what is beside `$ref` applies, too (2019-09: Core, 8.2.4.1)
abbrev pub hides : Draft → Bool
hides Draft201909 = false
hides Draft202012 = false
hides _ = true

abbrev pub is_hidden : Draft → Tree → Bool
is_hidden d s = hides d && is_some (schema_at s kw.Ref)

abbrev pub has_dependencies : Tree → Bool
has_dependencies s = is_some (tree_at_key s (codes "dependencies"))

abbrev pub traits_of : Draft → Tree → Traits
traits_of d s = record {
  draft = d;
  is_hidden = is_hidden d s;
  has_list = has_list s;
  has_dependencies = has_dependencies s;
  maximum = limit_of s kw.Maximum kw.ExclusiveMaximum;
  minimum = limit_of s kw.Minimum kw.ExclusiveMinimum;
}

-- In a schema inside, the draft's own name is left out (Core, 7).
abbrev pub dialect_rule_by : Draft → Dialect → Rule
dialect_rule_by Draft4 (Known Draft4) = rule.Drop
dialect_rule_by Draft6 (Known Draft6) = rule.Drop
dialect_rule_by Draft7 (Known Draft7) = rule.Drop
dialect_rule_by Draft201909 (Known Draft201909) = rule.Drop
dialect_rule_by _ _ = rule.Reject

abbrev pub dialect_rule : Draft → Tree → Rule
dialect_rule d w = dialect_rule_by d (dialect_named w)

-- An `$id` that is a fragment is a name (Core, 8.2.3); one that is a pointer, or empty, is left out.
abbrev pub fragment_rule : List ℕ → Rule
fragment_rule [] = rule.Drop
fragment_rule (b ∷ bs) = cond (b == solidus) rule.Drop rule.Name

abbrev pub id_rule_by : List ℕ → Rule
id_rule_by bs = cond (is_empty (without_fragment bs)) (option_map_or fragment_rule (fragment_of bs) rule.Drop) rule.Id

abbrev pub id_rule : Tree → Rule
id_rule (string cs) = id_rule_by (encode_utf8_all cs)
id_rule _ = rule.Id

-- In 2019-09 `$id` is a URI (Core, 8.2.2), and in draft 4 no keyword.
abbrev pub named_id_rule : Draft → Tree → Rule
named_id_rule Draft4 w = rule.Reject
named_id_rule Draft201909 w = rule.Id
named_id_rule _ w = id_rule w

-- `if`, `then` and `else` came with draft 7 (Validation, 6.6).
abbrev pub if_rule : Draft → Rule
if_rule Draft4 = rule.Reject
if_rule Draft6 = rule.Reject
if_rule _ = rule.Schema

-- An array at `items` is for the first items (Validation, 6.4.1).
abbrev pub items_rule : Bool → Rule
items_rule list = cond list rule.Prefix rule.Schema

-- `contains` and `propertyNames` came with draft 6.
abbrev pub later_rule : Draft → Rule → Rule
later_rule Draft4 x = rule.Reject
later_rule _ x = x

-- A boolean is a schema there in draft 4, too (Validation, 5.4.4).
abbrev pub additional_rule : Tree → Rule
additional_rule w = cond (is_boolean w) rule.Keep rule.Schema

-- A limit that draft 4 excludes becomes x (Validation, 5.1.2.2 and 5.1.3.2).
abbrev pub limit_rule : Draft → Limit → Rule → Rule
limit_rule Draft4 Exclusive x = x
limit_rule _ _ x = rule.Keep

abbrev pub is_limit : Limit → Bool
is_limit Missing = false
is_limit _ = true

-- In draft 4 it is a boolean, and the limit is beside it (5.1.2.1 and 5.1.3.1).
abbrev pub flag_rule : Draft → Limit → Tree → Rule
flag_rule Draft4 l w = cond (is_boolean w && is_limit l) rule.Drop rule.Reject
flag_rule _ l w = rule.Keep

-- what came with 2019-09
abbrev pub newer_rule : Draft → Rule → Rule
newer_rule Draft201909 x = x
newer_rule _ x = rule.Reject

-- `dependencies` beside them becomes both.
abbrev pub dependent_rule : Traits → Rule → Rule
dependent_rule x u = cond x.has_dependencies rule.Reject (newer_rule x.draft u)

-- A keyword that came later and would apply is rejected. So is `unevaluatedItems` of 2019-09, which does not look at `contains`.
abbrev pub rule_by : Traits → Keyword → Tree → Rule
rule_by x kw.Schema w = dialect_rule x.draft w
rule_by x kw.Id w = named_id_rule x.draft w
rule_by x kw.Ref w = rule.Reference
rule_by x kw.Defs w = rule.Map
rule_by x kw.Definitions w = rule.Map
rule_by x kw.Properties w = rule.Map
rule_by x kw.PatternProperties w = rule.Map
rule_by x kw.AllOf w = rule.Schemas
rule_by x kw.AnyOf w = rule.Schemas
rule_by x kw.OneOf w = rule.Schemas
rule_by x kw.Not w = rule.Schema
rule_by x kw.Contains w = later_rule x.draft rule.Schema
rule_by x kw.AdditionalProperties w = additional_rule w
rule_by x kw.PropertyNames w = later_rule x.draft rule.Schema
rule_by x kw.Maximum w = limit_rule x.draft x.maximum rule.Below
rule_by x kw.Minimum w = limit_rule x.draft x.minimum rule.Above
rule_by x kw.ExclusiveMaximum w = flag_rule x.draft x.maximum w
rule_by x kw.ExclusiveMinimum w = flag_rule x.draft x.minimum w
rule_by x kw.If w = if_rule x.draft
rule_by x kw.Then w = if_rule x.draft
rule_by x kw.Else w = if_rule x.draft
rule_by x kw.Items w = items_rule x.has_list
rule_by x kw.Anchor w = newer_rule x.draft rule.Keep
rule_by x kw.DynamicRef w = rule.Reject
rule_by x kw.DynamicAnchor w = rule.Reject
rule_by x kw.DependentSchemas w = dependent_rule x rule.Map
rule_by x kw.DependentRequired w = dependent_rule x rule.Keep
rule_by x kw.PrefixItems w = rule.Reject
rule_by x kw.UnevaluatedItems w = rule.Reject
rule_by x kw.UnevaluatedProperties w = newer_rule x.draft rule.Schema
rule_by x kw.MaxContains w = newer_rule x.draft rule.Keep
rule_by x kw.MinContains w = newer_rule x.draft rule.Keep
rule_by x kw.ContentSchema w = newer_rule x.draft rule.Schema
rule_by x _ w = rule.Keep

-- A boolean is a schema there in draft 4, too (Validation, 5.3.1).
abbrev pub rest_rule : Tree → Rule
rest_rule w = cond (is_boolean w) rule.RestFlag rule.Rest

-- Draft 4 has `id` in place of `$id` (Core, 7.2).
abbrev pub own_id_rule : Draft → Tree → Rule
own_id_rule Draft4 w = id_rule w
own_id_rule _ w = rule.Keep

-- 2019-09: Core, 8.2.4.2.1
abbrev pub recursive_rule : Draft → Rule
recursive_rule Draft201909 = rule.Recursive
recursive_rule _ = rule.Keep

abbrev pub is_false : Tree → Bool
is_false (boolean b) = not b
is_false _ = false

-- One that is false marks nothing (2019-09: Core, 8.2.4.2.2).
abbrev pub mark_rule : Tree → Rule
mark_rule w = cond (is_false w) rule.Drop rule.RecursiveAnchor

abbrev pub anchor_rule : Draft → Tree → Rule
anchor_rule Draft201909 w = mark_rule w
anchor_rule _ w = rule.Keep

-- `additionalItems` is for the items that an array at `items` leaves (Validation, 6.4.2), and is left out without one; of
-- `dependencies` see Validation, 6.5.7.
abbrev pub other_rule : Traits → List ℕ → Tree → Rule
other_rule x key w = cond (bytes_eq key (codes "additionalItems")) (cond x.has_list (rest_rule w) rule.Drop)
    (cond (bytes_eq key (codes "dependencies")) rule.Dependencies (cond (bytes_eq key (codes "id")) (own_id_rule x.draft w)
    (cond (bytes_eq key (codes "$recursiveRef")) (recursive_rule x.draft)
    (cond (bytes_eq key (codes "$recursiveAnchor")) (anchor_rule x.draft w) rule.Keep))))

abbrev pub rule_at : Traits → List ℕ → Tree → Option Keyword → Rule
rule_at x key w None = other_rule x key w
rule_at x key w (Some k) = rule_by x k w

-- `$ref` hides what is beside it (Core, 8.3), but not the schemas that references lead to.
abbrev pub is_kept_beside : Option Keyword → Bool
is_kept_beside (Some kw.Ref) = true
is_kept_beside (Some kw.Defs) = true
is_kept_beside (Some kw.Definitions) = true
is_kept_beside _ = false

abbrev pub rule_for : Traits → List ℕ → Tree → Option Keyword → Rule
rule_for x key w k = cond (x.is_hidden && not (is_kept_beside k)) rule.Drop (rule_at x key w k)

abbrev pub rule_of : Traits → List ℕ → Tree → Rule
rule_of x key w = rule_for x key w (keyword_among keywords key)
