-- Texts by the formats of their schemas, and names of formats that are gathered.
use Rattle.std.proofs.Common.{◌≡◌, ◌∷◌, [], ◌++◌, ℕ, ◌<◌, ◌≤◌, ◌+◌, Bool, true, false, ◌||◌, List, Option, String, Global}
use Rattle.std.proofs.Common.{length, get_or, bytes_eq, drop, string_bytes, refl, sym, ap, ◌∙◌}
use Rattle.std.specs.BTreeSet as sorted
use Rattle.std.specs.BTreeSet.{BTreeSet}
use Rattle.std.specs.Option.{option_map_or}
use Rattle.std.proofs.lemmas.Str.{encodes-chars}
use Rattle.std.specs.Prelude.{encode_utf8_all}
use Rattle.std.specs.Str.{IsUtf8, chars}
use Rattle.text_formats.specs.Format as format
use Rattle.text_formats.specs.declared.format.Format.{Format}
use Rattle.tinyjson.proofs.Callers.{view_String}
use Rattle.tinyjson.specs.Tree.{string}
use Rattle.tinyjson.specs.View.{view, text}
use Rattle.tinyjson.specs.declared.value.JsonValue.{JsonValue}
use Rattle.tinyjson.specs.declared.value.JsonValue.TheVariants as is
use Rattle.tinyjson_schema_keywords.proofs.Callers.{text_bytes, drop_item, drop_end}
use Rattle.tinyjson_schema_keywords.specs.Subschemas.{seen, all_seen}
use Rattle.tinyjson_schema_keywords.specs.Unknown.{AreWords, Gathers, is_one_of}
use Rattle.tinyjson_schema_keywords.specs.declared.subschemas.SchemaMember.{SchemaMember}
use Rattle.tinyjson_schema_assertions.specs.Assertions.{has_format}
use Rattle.tinyjson_schema_assertions.specs.Formats.{unknown_name, unknown_in, format_of, formats_among}

-- ---- texts

-- the bytes of a text have the format that the bytes of its name name
pub formatted : (name : String Global) (bs cs : List ℕ) (o : Option Format) → bs ≡ string_bytes name → IsUtf8 cs
    → o ≡ format.format_named bs
    → option_map_or (λ f. format.accepts f cs) o true ≡ has_format (string (text name)) (string (chars cs))
formatted name bs cs o b u h =
    ap (λ x. option_map_or (λ f. format.accepts f cs) x true) (h ∙ ap format.format_named (text_bytes name bs b))
    ∙ ap (λ xs. option_map_or (λ f. format.accepts f xs) (format.format_named (encode_utf8_all (text name))) true)
    (sym (encodes-chars cs u))

-- ---- names

pub value_unknown : (v : JsonValue) (s : String Global) (bs : List ℕ) → v ≡ is.String s → bs ≡ string_bytes s
    → unknown_name bs ≡ unknown_in (view v)
value_unknown v s bs e b = ap unknown_name (text_bytes s bs b) ∙ ap unknown_in (sym (ap view e ∙ view_String s))

or_assoc : (a b c : Bool) → ((a || b) || c) ≡ (a || (b || c))
or_assoc true b c = refl
or_assoc false b c = refl

or_false : (a : Bool) → (a || false) ≡ a
or_false true = refl
or_false false = refl

regrouped : (a b c : Bool) → (b || (a || c)) ≡ ((a || b) || c)
regrouped true true c = refl
regrouped true false c = refl
regrouped false b c = refl

one_of_both : (ks ls : List (List ℕ)) (k : List ℕ) → is_one_of (ks ++ ls) k ≡ (is_one_of ks k || is_one_of ls k)
one_of_both [] ls k = refl
one_of_both (l ∷ ks) ls k = ap (λ b. bytes_eq l k || b) (one_of_both ks ls k)
    ∙ sym (or_assoc (bytes_eq l k) (is_one_of ks k) (is_one_of ls k))

-- The names are in the set, or among those of the members from the index on.
abbrev pub AreLeft : List SchemaMember → ℕ → BTreeSet (String Global) → Type 0
AreLeft ms i s = (k : List ℕ) → (is_one_of (formats_among (all_seen (drop i ms))) k || sorted.contains_text s k)
    ≡ is_one_of (formats_among (all_seen ms)) k

pub names_begun : (ms : List SchemaMember) (s : BTreeSet (String Global)) → s.keys ≡ [] → AreLeft ms 0 s
names_begun ms s e k = ap (λ x. is_one_of (formats_among (all_seen ms)) k || sorted.contains_text x k) is
    ∙ or_false (is_one_of (formats_among (all_seen ms)) k)
  where
    is : s ≡ record { keys = [] }
    is = ap (λ ks. record { keys = ks }) e

pub names_turn : (ms : List SchemaMember) (i : ℕ) (a b : BTreeSet (String Global)) (m : SchemaMember) → i < length ms
    → m ≡ get_or ms i m → Gathers (format_of (seen m)) a b → AreLeft ms i a → AreLeft ms (i + 1) b
names_turn ms i a b m l e h left k =
    let rest = is_one_of (formats_among (all_seen (drop (i + 1) ms))) k in
    let own = is_one_of (format_of (seen m)) k in
    let held = sorted.contains_text a k in
    let split : is_one_of (formats_among (all_seen (drop i ms))) k ≡ (own || rest)
    = ap (λ xs. is_one_of (formats_among (all_seen xs)) k) (drop_item ms i m l e)
    ∙ one_of_both (format_of (seen m)) (formats_among (all_seen (drop (i + 1) ms))) k in
    ap (λ x. rest || x) (h k) ∙ (regrouped own rest held ∙ (sym (ap (λ x. x || held) split) ∙ left k))

pub names_ended : (ms : List SchemaMember) (i : ℕ) (s : BTreeSet (String Global)) → length ms ≤ i → AreLeft ms i s
    → AreWords (formats_among (all_seen ms)) s
names_ended ms i s l left k =
    sym (ap (λ xs. is_one_of (formats_among (all_seen xs)) k || sorted.contains_text s k) (drop_end ms i l)) ∙ left k
