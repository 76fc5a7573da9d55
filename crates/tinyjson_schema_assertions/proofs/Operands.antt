-- What `type` says of a value, by the bytes of its texts.
use Rattle.std.proofs.Common.{◌≡◌, ◌≢◌, ℕ, Bool, true, false, List, ◌&&◌, ◌||◌}
use Rattle.std.proofs.Common.{String, string_bytes, Global, bytes_eq, codes, refl, sym, ap, ◌∙◌}
use Rattle.std.proofs.lemmas.Bool.{false_from_ne_true}
use Rattle.std.proofs.lemmas.Slice.Eq.{bytes_eq-Decides}
use Rattle.std.specs.Bool.{MatchBool}
use Rattle.std.proofs.lemmas.Str.{IsUtf8-string_bytes}
use Rattle.tinyjson.proofs.Callers.{view_String, is_key, are_ascii}
use Rattle.tinyjson.specs.Kind.{kind_of, kind_name}
use Rattle.tinyjson.specs.Tree.{Tree}
use Rattle.tinyjson.specs.View.{view, text}
use Rattle.tinyjson.specs.JsonKind.{JsonKind}
use Rattle.tinyjson.specs.JsonKind.TheVariants as kind
use Rattle.tinyjson.specs.declared.value.JsonValue.{JsonValue}
use Rattle.tinyjson.specs.declared.value.JsonValue.TheVariants as is
use Rattle.tinyjson_schema_assertions.specs.Assertions.{is_whole, is_type}

pub kind_name_ascii : (k : JsonKind) → are_ascii (kind_name k) ≡ true
kind_name_ascii kind.Null = refl
kind_name_ascii kind.Boolean = refl
kind_name_ascii kind.Number = refl
kind_name_ascii kind.String = refl
kind_name_ascii kind.Array = refl
kind_name_ascii kind.Object = refl

is_type_name : (v : JsonValue) (s : String Global) (t : Tree) → v ≡ is.String s
    → is_type (view v) t ≡ (bytes_eq (string_bytes s) (kind_name (kind_of t)) ||
    (bytes_eq (string_bytes s) (codes "integer") && is_whole t))
is_type_name v s t e =
    ap (λ x. is_type x t) (ap view e ∙ view_String s)
    ∙ (ap (λ b. b || (bytes_eq (text s) (codes "integer") && is_whole t))
    (sym (is_key (string_bytes s) (kind_name (kind_of t)) (IsUtf8-string_bytes s) (kind_name_ascii (kind_of t))))
    ∙ ap (λ b. bytes_eq (string_bytes s) (kind_name (kind_of t)) || (b && is_whole t))
    (sym (is_key (string_bytes s) (codes "integer") (IsUtf8-string_bytes s) refl)))

-- bytes that were compared as they are
pub compared_bytes : (b : Bool) (xs ys s n : List ℕ) → MatchBool b (xs ≡ ys) (xs ≢ ys) → xs ≡ s → ys ≡ n → b ≡ bytes_eq s n
compared_bytes true xs ys s n h f g = sym ((bytes_eq-Decides s n).1 (sym f ∙ (h ∙ g)))
compared_bytes false xs ys s n h f g = sym (false_from_ne_true (bytes_eq s n) (λ e. h (f ∙ ((bytes_eq-Decides s n).0 e ∙ sym g))))

-- a value's type is determined by two comparisons and the fraction
pub type_determined : (v : JsonValue) (s : String Global) (t : Tree) (a b c : Bool) → v ≡ is.String s
    → a ≡ bytes_eq (string_bytes s) (kind_name (kind_of t)) → b ≡ bytes_eq (string_bytes s) (codes "integer") → c ≡ is_whole t
    → (a || (b && c)) ≡ is_type (view v) t
type_determined v s t a b c e f g h =
    ap (λ x. x || (b && c)) f ∙ (ap (λ x. bytes_eq (string_bytes s) (kind_name (kind_of t)) || (x && c)) g
    ∙ (ap (λ x. bytes_eq (string_bytes s) (kind_name (kind_of t)) || (bytes_eq (string_bytes s) (codes "integer") && x)) h
    ∙ sym (is_type_name v s t e)))

-- each value of the kind with this name has the type
pub named_kind : (v : JsonValue) (s : String Global) (xs : List ℕ) (k : JsonKind) → v ≡ is.String s → xs ≡ string_bytes s
    → xs ≡ kind_name k → (t : Tree) → kind_of t ≡ k → is_type (view v) t ≡ true
named_kind v s xs k e f g t h =
    is_type_name v s t e
    ∙ ap (λ b. b || (bytes_eq (string_bytes s) (codes "integer") && is_whole t))
    ((bytes_eq-Decides (string_bytes s) (kind_name (kind_of t))).1 (sym f ∙ (g ∙ sym (ap kind_name h))))
