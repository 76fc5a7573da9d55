-- Where references lead (JSON Schema 2020-12, Core, sections 8.2.2, 8.2.3 and 9.2).
use Rattle.std.specs.Char.{digit_value}
use Rattle.std.specs.Prelude.{ℕ, Bool, true, false, ◌&&◌, ◌==◌, ◌+◌, ◌*◌, List, [], ◌∷◌, Option, Some, None, cond, option_map}
use Rattle.std.specs.Prelude.{option_and_then, encode_utf8_all}
use Rattle.std.specs.Str.{chars, is_utf8}
use Rattle.tinyjson.specs.Characters.{is_hex}
use Rattle.tinyjson.specs.Tree.{Tree, string}
use Rattle.tinyjson_pointer.specs.Text.{pointer_tokens}
use Rattle.tinyjson_pointer.specs.Walk.{part_at}
use Rattle.tinyjson_schema_keywords.specs.Anchors.{anchors_in, anchored, is_plain_name}
use Rattle.tinyjson_schema_keywords.specs.Applied.{schema_at}
use Rattle.tinyjson_schema_keywords.specs.Forms.{form_at}
use Rattle.tinyjson_schema_keywords.specs.declared.keyword.Form.{Form}
use Rattle.tinyjson_schema_keywords.specs.declared.keyword.Form.TheVariants as form
use Rattle.tinyjson_schema_keywords.specs.declared.keyword.Keyword.{Keyword}

-- `%` and `#`
abbrev pub percent : ℕ
percent = 37

abbrev pub number_sign : ℕ
number_sign = 35

-- the byte of two hexadecimal digits
abbrev pub hex_byte : ℕ → ℕ → Option ℕ
hex_byte a b = cond (is_hex a && is_hex b) (Some (digit_value a * 16 + digit_value b)) None

-- the first decoded byte, and what follows: a `%` takes two digits
abbrev pub escape_front : List ℕ → Option (ℕ × List ℕ)
escape_front (a ∷ b ∷ bs) = option_map (λ d. (d, bs)) (hex_byte a b)
escape_front _ = None

abbrev pub byte_front : ℕ → List ℕ → Option (ℕ × List ℕ)
byte_front b bs = cond (b == percent) (escape_front bs) (Some (b, bs))

-- decodes percent-encoded bytes (RFC 3986, section 2.1)
abbrev mutual
  pub percent_decoded : List ℕ → Option (List ℕ)
  percent_decoded [] = Some []
  percent_decoded (b ∷ bs) = cond (b == percent) (after_percent bs) (option_map (λ ds. b ∷ ds) (percent_decoded bs))

  pub after_percent : List ℕ → Option (List ℕ)
  after_percent (a ∷ b ∷ bs) = option_and_then (λ d. option_map (λ ds. d ∷ ds) (percent_decoded bs)) (hex_byte a b)
  after_percent _ = None

-- the bytes of a reference that is only a fragment
abbrev pub reference_bytes : List ℕ → Option (List ℕ)
reference_bytes [] = None
reference_bytes (b ∷ bs) = cond (b == number_sign) (percent_decoded bs) None

-- the form of what is at a token: in a schema, in a list of schemas or in an object of schemas
abbrev pub form_in : Form → List ℕ → Form
form_in form.Schema k = form_at (encode_utf8_all k)
form_in form.Schemas k = form.Schema
form_in form.SchemaMap k = form.Schema
form_in form.PatternMap k = form.Schema
form_in _ k = form.Anything

-- the form of what the tokens lead to
abbrev pub form_after : Form → List (List ℕ) → Form
form_after f [] = f
form_after f (k ∷ ks) = form_after (form_in f k) ks

abbrev pub is_schema_form : Form → Bool
is_schema_form form.Schema = true
is_schema_form _ = false

-- the schema to which the tokens lead; they may go through keywords that hold schemas, not through data
abbrev pub schema_from : Tree → List (List ℕ) → Option Tree
schema_from root ks = cond (is_schema_form (form_after form.Schema ks)) (part_at root ks) None

-- the schema to which a JSON pointer leads (RFC 6901, section 6)
abbrev pub at_pointer : Tree → List ℕ → Option Tree
at_pointer root cs = option_and_then (schema_from root) (pointer_tokens cs)

-- the schema to which bytes in UTF-8 lead: by a plain name (8.2.2), or else by a pointer
abbrev pub at_text : Tree → List ℕ → Option Tree
at_text root bs = cond (is_plain_name bs) (anchored (anchors_in root) bs) (at_pointer root (chars bs))

abbrev pub at_fragment : Tree → List ℕ → Option Tree
at_fragment root bs = cond (is_utf8 bs) (at_text root bs) None

-- the schema to which a reference leads, if it is in the whole schema
abbrev pub target : Tree → Tree → Option Tree
target root (string cs) = option_and_then (at_fragment root) (reference_bytes (encode_utf8_all cs))
target root _ = None

-- the schema to which the keyword, `$ref` or `$dynamicRef`, of the schema s leads
abbrev pub referenced : Tree → Keyword → Tree → Option Tree
referenced root k s = option_and_then (target root) (schema_at s k)
