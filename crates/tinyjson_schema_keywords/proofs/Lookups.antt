-- Keywords and names, as bytes and as characters.
use Rattle.std.proofs.Common.{◌≡◌, ℕ, true, List, Option, option_map, String}
use Rattle.std.proofs.Common.{string_bytes, Global, Bor, encode_utf8_all, refl, sym, ap, ◌∙◌}
use Rattle.std.proofs.lemmas.Str.{encodes-chars, IsUtf8-string_bytes}
use Rattle.std.specs.HashMap.{get_by_text}
use Rattle.std.specs.Str.{IsUtf8, chars}
use Rattle.tinyjson.proofs.Callers.{view_Object, view_ref, find_get, chars_literal, are_ascii}
use Rattle.tinyjson.specs.Access.{JsonMap}
use Rattle.tinyjson.specs.Index.{tree_at_key}
use Rattle.tinyjson.specs.Tree.{Tree}
use Rattle.tinyjson.specs.View.{view, text}
use Rattle.tinyjson.specs.declared.value.JsonValue.{JsonValue}
use Rattle.tinyjson.specs.declared.value.JsonValue.TheVariants as is
use Rattle.tinyjson_schema_keywords.specs.Names.{name}
use Rattle.tinyjson_schema_keywords.specs.declared.keyword.Keyword.{Keyword}
use Rattle.tinyjson_schema_keywords.specs.declared.keyword.Keyword.TheVariants as kw

pub keyword_found : (v : JsonValue) (m : JsonMap) (bs : List ℕ) (r : Option (Bor JsonValue)) → v ≡ is.Object m → IsUtf8 bs
    → option_map (λ x. x.now) r ≡ get_by_text m bs
    → option_map (λ x. view x.now) r ≡ tree_at_key (view v) (chars bs)
keyword_found v m bs r e u g =
    view_ref r ∙ (ap (option_map view) g ∙ (sym (find_get m bs u) ∙ ap (λ t. tree_at_key t (chars bs)) (sym (ap view e ∙ view_Object m))))

pub at_literal : (o : Option Tree) (t : Tree) (name : List ℕ) → are_ascii name ≡ true → o ≡ tree_at_key t (chars name)
    → o ≡ tree_at_key t name
at_literal o t name a h = h ∙ ap (tree_at_key t) (chars_literal name a)

pub name_ascii : (k : Keyword) → are_ascii (name k) ≡ true
name_ascii kw.Schema = refl
name_ascii kw.Id = refl
name_ascii kw.Comment = refl
name_ascii kw.Defs = refl
name_ascii kw.Definitions = refl
name_ascii kw.Ref = refl
name_ascii kw.Anchor = refl
name_ascii kw.DynamicRef = refl
name_ascii kw.DynamicAnchor = refl
name_ascii kw.Vocabulary = refl
name_ascii kw.AllOf = refl
name_ascii kw.AnyOf = refl
name_ascii kw.OneOf = refl
name_ascii kw.Not = refl
name_ascii kw.If = refl
name_ascii kw.Then = refl
name_ascii kw.Else = refl
name_ascii kw.DependentSchemas = refl
name_ascii kw.PrefixItems = refl
name_ascii kw.Items = refl
name_ascii kw.Contains = refl
name_ascii kw.Properties = refl
name_ascii kw.PatternProperties = refl
name_ascii kw.AdditionalProperties = refl
name_ascii kw.PropertyNames = refl
name_ascii kw.UnevaluatedItems = refl
name_ascii kw.UnevaluatedProperties = refl
name_ascii kw.Type = refl
name_ascii kw.Enum = refl
name_ascii kw.Const = refl
name_ascii kw.MultipleOf = refl
name_ascii kw.Maximum = refl
name_ascii kw.ExclusiveMaximum = refl
name_ascii kw.Minimum = refl
name_ascii kw.ExclusiveMinimum = refl
name_ascii kw.MaxLength = refl
name_ascii kw.MinLength = refl
name_ascii kw.Pattern = refl
name_ascii kw.MaxItems = refl
name_ascii kw.MinItems = refl
name_ascii kw.UniqueItems = refl
name_ascii kw.MaxContains = refl
name_ascii kw.MinContains = refl
name_ascii kw.MaxProperties = refl
name_ascii kw.MinProperties = refl
name_ascii kw.Required = refl
name_ascii kw.DependentRequired = refl
name_ascii kw.Format = refl
name_ascii kw.ContentEncoding = refl
name_ascii kw.ContentMediaType = refl
name_ascii kw.ContentSchema = refl
name_ascii kw.Title = refl
name_ascii kw.Description = refl
name_ascii kw.Default = refl
name_ascii kw.Deprecated = refl
name_ascii kw.ReadOnly = refl
name_ascii kw.WriteOnly = refl
name_ascii kw.Examples = refl

pub at_name : (o : Option Tree) (s : Tree) (k : Keyword) (bs : List ℕ) → o ≡ tree_at_key s (chars bs) → bs ≡ name k
    → tree_at_key s (name k) ≡ o
at_name o s k bs h e = sym (h ∙ (ap (λ x. tree_at_key s (chars x)) e ∙ ap (tree_at_key s) (chars_literal (name k) (name_ascii k))))

pub name_chars : (k : Keyword) (bs : List ℕ) → bs ≡ name k → chars bs ≡ name k
name_chars k bs e = ap chars e ∙ chars_literal (name k) (name_ascii k)

pub text_bytes : (s : String Global) (bs : List ℕ) → bs ≡ string_bytes s → bs ≡ encode_utf8_all (text s)
text_bytes s bs e = e ∙ sym (encodes-chars (string_bytes s) (IsUtf8-string_bytes s))
