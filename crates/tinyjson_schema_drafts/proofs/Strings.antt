-- A value that is a string, and its bytes.
use Rattle.std.proofs.Common.{◌≡◌, ◌∙◌, ℕ, List, String, Global, encode_utf8_all, string_bytes, sym, ap}
use Rattle.tinyjson.proofs.Callers.{view_String}
use Rattle.tinyjson.specs.Tree.{Tree, string}
use Rattle.tinyjson.specs.View.{view, text}
use Rattle.tinyjson.specs.declared.value.JsonValue.{JsonValue}
use Rattle.tinyjson.specs.declared.value.JsonValue.TheVariants as made
use Rattle.tinyjson_schema_keywords.proofs.Callers.{text_bytes}

-- what f says of the bytes is what g says of the value
pub said : {A : Type 0} (v : JsonValue) (s : String Global) (bs : List ℕ) → v ≡ made.String s → bs ≡ string_bytes s → (f : List ℕ → A)
    → (g : Tree → A) → ((cs : List ℕ) → f (encode_utf8_all cs) ≡ g (string cs)) → f bs ≡ g (view v)
said v s bs e h f g k = ap f (text_bytes s bs h) ∙ (k (text s) ∙ ap g (sym (ap view e ∙ view_String s)))
