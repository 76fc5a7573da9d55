-- What patterns and formats answer is right.
use Rattle.std.proofs.Common.{◌≡◌, ℕ, List, Global, String, Some, string_bytes, sym, ap, ap₂, ◌∙◌}
use Rattle.std.specs.Str.{chars}
use Rattle.text_iregexp.specs.PatternDeciding.{is_found}
use Rattle.tinyjson.proofs.Callers.{view_String}
use Rattle.tinyjson.specs.Tree.{Tree, string}
use Rattle.tinyjson.specs.View.{view, text}
use Rattle.tinyjson.specs.declared.value.JsonValue.{JsonValue}
use Rattle.tinyjson.specs.declared.value.JsonValue.TheVariants as is
use Rattle.tinyjson_document.specs.Parts.{string_in}
use Rattle.tinyjson_view.proofs.Callers.{string_is}
use Rattle.tinyjson_schema_assertions.specs.Assertions.{has_pattern, has_format}

-- of two strings
pub strings_found : (v : JsonValue) (t : Tree) (s : String Global) (a b : List ℕ) → v ≡ is.String s → Some (chars b) ≡ string_in t
    → a ≡ string_bytes s → is_found (chars a) (chars b) ≡ has_pattern (view v) t
strings_found v t s a b e k h =
    ap (λ x. is_found (chars x) (chars b)) h ∙ ap₂ has_pattern (sym (ap view e ∙ view_String s)) (string_is t (chars b) k)

pub strings_formatted : (v : JsonValue) (t : Tree) (s : String Global) (b : List ℕ) → v ≡ is.String s → Some (chars b) ≡ string_in t
    → has_format (string (text s)) (string (chars b)) ≡ has_format (view v) t
strings_formatted v t s b e k = ap₂ has_format (sym (ap view e ∙ view_String s)) (string_is t (chars b) k)
