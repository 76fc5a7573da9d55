-- For proofs of callers: values, parts, maps and texts beside the trees and the grammar that contracts speak of.
pub mod Laws
pub use Rattle.std.proofs.lemmas.Str.{scalars-chars, IsUtf8-string_bytes}
pub use Rattle.tinyjson.proofs.Reading.Parse.{all_are_scalars, parses_text}
pub use Rattle.tinyjson.proofs.Reading.Becoming.{told_text, told_error}
pub use Rattle.tinyjson_grammar.proofs.Callers.Laws.{only_tree}
pub use Rattle.tinyjson.proofs.Values.Entries.{same_text, text_eq}
pub use Rattle.tinyjson.proofs.Values.Depths.{item_less_deep, member_less_deep, item_count_view, nth_past}
pub use Rattle.tinyjson.proofs.Values.Loops.{members_view_IsSorted, find_done, find_more, IsRest, rest_begins, rest_next, rest_distinct}
pub use Rattle.tinyjson.proofs.Values.Loops.{rest_ends}
pub use Rattle.tinyjson.proofs.Values.Items.{IsLeft, left_begins, left_next, left_ends, none_left}
pub use Rattle.tinyjson.specs.Access.Laws.{put_of_array, put_of_object}
pub use Rattle.tinyjson.proofs.Values.Index.{items_view_set, tree_with_item, tree_with_member}
pub use Rattle.tinyjson_grammar.proofs.Callers.{find_below, find_put, find_remove, found_first, key_same, sorted_put, sorted_remove}
pub use Rattle.tinyjson_grammar.proofs.Callers.{members_from_find, one_compact, some_none}
pub use Rattle.tinyjson_grammar.proofs.Callers.{code_point_text}
pub use Rattle.tinyjson.proofs.Writing.Scalars.{encoded_chars, encoded_utf8, text_of_scalars}
pub use Rattle.tinyjson.proofs.Values.Trees.{view_IsTree, text_scalars}
pub use Rattle.tinyjson.proofs.Values.View.{view_Null, view_Boolean, view_Number, view_String, view_Array, view_Object, Entry}
pub use Rattle.tinyjson.proofs.Values.View.{find_members_view, members_view_last, view_ref}
pub use Rattle.tinyjson.proofs.Values.WholeNumbers.{integers_differ, naturals_differ}
pub use Rattle.tinyjson_tokens.proofs.Callers.{text_push}
pub use Rattle.tinyjson_output.proofs.Callers.{Appends-trans, Appends_nothing, Appends_keeps, written_none, written_all, begins, goes, ends}
pub use Rattle.tinyjson_output.proofs.Callers.{written_take, written_same, written_then, stop, stops, stops_then, fails}
use Rattle.std.proofs.Common.{◌≡◌, ◌≢◌, ℕ, zero, suc, Bool, true, false, ◌&&◌, cond, bytes_eq, nat_lt, List, [], ◌∷◌, ◌++◌, Option, Some}
use Rattle.std.proofs.Common.{None, option_map, unwrap_or, is_some, Ok, Err, String, string_bytes, Vec, Global, refl, sym, ap, ◌∙◌, subst}
use Rattle.std.proofs.Common.{Bor, ◌⊎◌, inl, inr}
use Rattle.std.proofs.Common.{rules, arith, append-nil}
use Rattle.std.proofs.lemmas.Bool.{and_parts}
use Rattle.std.proofs.lemmas.Bool.Decides.{nat_tests, same_from_decides}
use Rattle.std.proofs.lemmas.Slice.Eq.{bytes_eq-Decides}
use Rattle.std.proofs.lemmas.Str.{chars-IsAscii, IsUtf8-from_ascii, encodes-chars, encodes-IsAscii}
use Rattle.std.specs.HashMap.{get, get_by_text, Updates, UpdatesBy}
use Rattle.std.specs.Io.KnownBytes.{Appends}
use Rattle.std.specs.List.{AllByRecursion, IsDistinct}
use Rattle.std.specs.Map.{lookup, keys_of}
use Rattle.std.specs.Prelude.{IsSome, slice_get, option_and_then}
use Rattle.std.specs.Str.{IsAscii, IsUtf8, chars, encode_utf8_all}
use Rattle.std.specs.String.{string_eq, string_eq_equiv}
use Rattle.tinyjson.proofs.Values.Entries.{find_members_of}
use Rattle.tinyjson.specs.Access.Laws.{put_of_boolean, put_of_number, put_of_string}
use Rattle.tinyjson.proofs.Values.View.{view_lookup, members_view_updates, members_view_removes, members_view_writes}
use Rattle.tinyjson.specs.Access.{JsonMap, number_in, boolean_in, string_in, null_in, array_in, object_in, number_part, boolean_part}
use Rattle.tinyjson.specs.Access.{string_part, null_part, array_part, object_part, is_null, is_boolean, is_number, is_string, is_array}
use Rattle.tinyjson.specs.Access.{is_object}
use Rattle.tinyjson_grammar.proofs.Callers.{compact_text}
use Rattle.tinyjson.specs.Equality.{same_tree, tree_eq_Decides}
use Rattle.tinyjson.specs.Error.{error_kind}
use Rattle.tinyjson_grammar.specs.Grammar.{IsText, IsAccepted}
use Rattle.tinyjson.specs.Index.{item_at, member_at, nth, tree_at, tree_at_key, with_nth, with_last, with_tree_at, with_tree_at_key}
use Rattle.tinyjson.specs.Parser.{ParsesText}
use Rattle.tinyjson_grammar.specs.Soundness.{IsTree, IsSorted}
use Rattle.tinyjson_grammar.specs.Text.{compact}
use Rattle.tinyjson_grammar.specs.Tree.{Tree, null, boolean, number, string, array, object, Items, no_items, item, Members, put, find}
use Rattle.tinyjson_grammar.specs.Tree.{remove}
use Rattle.tinyjson.specs.View.{text, view, view_step, items_view, members_view, seen_entries}
use Rattle.tinyjson_output.specs.Written.{Written}
use Rattle.tinyjson.specs.declared.parser.error.JsonParseError.{JsonParseError}
use Rattle.tinyjson_grammar.specs.declared.error.JsonParseErrorKind.TheVariants as refusal
use Rattle.tinyjson.specs.declared.value.JsonValue.{JsonValue, JsonValue-F, out-JsonValue, map-JsonValue, fold_out-JsonValue, the_lemmas}
use Rattle.tinyjson.specs.declared.value.JsonValue.{roll-JsonValue, roll-out-JsonValue}
use Rattle.tinyjson.specs.declared.value.JsonValue.TheVariants.{rolls-Null}
use Rattle.tinyjson.specs.declared.value.JsonValue.TheVariants as made
use Rattle.tinyjson_number.specs.Decimal.{Decimal}
use Rattle.tinyjson_number.specs.declared.number.JsonNumber.{JsonNumber}

-- ---- from a part to the tree

-- the tree of one level of a value
abbrev seen : JsonValue-F JsonValue → Tree
seen o = view_step (map-JsonValue JsonValue Tree view o)

view_seen : (v : JsonValue) → view v ≡ seen (out-JsonValue v)
view_seen v = fold_out-JsonValue Tree view_step v

null_seen : (o : JsonValue-F JsonValue) → null_in o ≡ Some tt → seen o ≡ null
null_seen JsonValue-F.Null h = refl
null_seen _ h = cc

boolean_seen : (o : JsonValue-F JsonValue) (b : Bool) → boolean_in o ≡ Some b → seen o ≡ boolean b
boolean_seen (JsonValue-F.Boolean c) b h = cc
boolean_seen _ b h = cc

number_seen : (o : JsonValue-F JsonValue) (n : JsonNumber) → number_in o ≡ Some n → seen o ≡ number n.decimal
number_seen (JsonValue-F.Number m) n h = cc
number_seen _ n h = cc

string_seen : (o : JsonValue-F JsonValue) (s : String Global) → string_in o ≡ Some s → seen o ≡ string (text s)
string_seen (JsonValue-F.String t) s h = cc
string_seen _ s h = cc

array_seen : (o : JsonValue-F JsonValue) (l : Vec JsonValue Global) → array_in o ≡ Some l → seen o ≡ array (items_view l.items)
array_seen (JsonValue-F.Array m) l h = cc
array_seen _ l h = cc

object_seen : (o : JsonValue-F JsonValue) (m : JsonMap) → object_in o ≡ Some m → seen o ≡ object (members_view m.entries)
object_seen (JsonValue-F.Object n) m h = cc
object_seen _ m h = cc

-- a value that is null
pub null_tree : (v : JsonValue) → null_part v ≡ Some tt → view v ≡ null
null_tree v h = view_seen v ∙ null_seen (out-JsonValue v) h

-- a value that holds a truth value
pub boolean_tree : (v : JsonValue) (b : Bool) → boolean_part v ≡ Some b → view v ≡ boolean b
boolean_tree v b h = view_seen v ∙ boolean_seen (out-JsonValue v) b h

-- a value that holds a number
pub number_tree : (v : JsonValue) (n : JsonNumber) → number_part v ≡ Some n → view v ≡ number n.decimal
number_tree v n h = view_seen v ∙ number_seen (out-JsonValue v) n h

-- a value that holds a text
pub string_tree : (v : JsonValue) (s : String Global) → string_part v ≡ Some s → view v ≡ string (text s)
string_tree v s h = view_seen v ∙ string_seen (out-JsonValue v) s h

-- a value that holds items
pub array_tree : (v : JsonValue) (l : Vec JsonValue Global) → array_part v ≡ Some l → view v ≡ array (items_view l.items)
array_tree v l h = view_seen v ∙ array_seen (out-JsonValue v) l h

-- a value that holds members
pub object_tree : (v : JsonValue) (m : JsonMap) → object_part v ≡ Some m → view v ≡ object (members_view m.entries)
object_tree v m h = view_seen v ∙ object_seen (out-JsonValue v) m h

-- ---- from the tree to the part

null_held : (o : JsonValue-F JsonValue) → seen o ≡ null → null_in o ≡ Some tt
null_held JsonValue-F.Null h = refl
null_held _ h = cc

boolean_held : (o : JsonValue-F JsonValue) (b : Bool) → seen o ≡ boolean b → boolean_in o ≡ Some b
boolean_held (JsonValue-F.Boolean c) b h = cc
boolean_held _ b h = cc

number_held : (o : JsonValue-F JsonValue) (d : Decimal) → seen o ≡ number d → (n : JsonNumber) × (number_in o ≡ Some n) × (n.decimal ≡ d)
number_held (JsonValue-F.Number n) d h = (n, refl, cc)
number_held _ d h = cc

string_held : (o : JsonValue-F JsonValue) (cs : List ℕ) → seen o ≡ string cs → (s : String Global) × (string_in o ≡ Some s) × (text s ≡ cs)
string_held (JsonValue-F.String s) cs h = (s, refl, cc)
string_held _ cs h = cc

array_held : (o : JsonValue-F JsonValue) (ts : Items) → seen o ≡ array ts → (l : Vec JsonValue Global) × (array_in o ≡ Some l)
    × (items_view l.items ≡ ts)
array_held (JsonValue-F.Array l) ts h = (l, refl, cc)
array_held _ ts h = cc

object_held : (o : JsonValue-F JsonValue) (ms : Members) → seen o ≡ object ms → (m : JsonMap) × (object_in o ≡ Some m)
    × (members_view m.entries ≡ ms)
object_held (JsonValue-F.Object m) ms h = (m, refl, cc)
object_held _ ms h = cc

null_level : (o : JsonValue-F JsonValue) → null_in o ≡ Some tt → o ≡ JsonValue-F.Null
null_level JsonValue-F.Null h = refl
null_level _ h = cc

null_made : (v : JsonValue) → null_part v ≡ Some tt → v ≡ made.Null
null_made v h = sym (roll-out-JsonValue v) ∙ (ap roll-JsonValue (null_level (out-JsonValue v) h) ∙ rolls-Null)

-- a value whose tree is null
pub null_from_tree : (v : JsonValue) → view v ≡ null → null_part v ≡ Some tt
null_from_tree v h = null_held (out-JsonValue v) (sym (view_seen v) ∙ h)

-- a value whose tree is a truth value
pub boolean_from_tree : (v : JsonValue) (b : Bool) → view v ≡ boolean b → boolean_part v ≡ Some b
boolean_from_tree v b h = boolean_held (out-JsonValue v) b (sym (view_seen v) ∙ h)

-- a value whose tree is a number
pub number_from_tree : (v : JsonValue) (d : Decimal) → view v ≡ number d → (n : JsonNumber) × (number_part v ≡ Some n) × (n.decimal ≡ d)
number_from_tree v d h = number_held (out-JsonValue v) d (sym (view_seen v) ∙ h)

-- a value whose tree is a string
pub string_from_tree : (v : JsonValue) (cs : List ℕ) → view v ≡ string cs → (s : String Global) × (string_part v ≡ Some s) × (text s ≡ cs)
string_from_tree v cs h = string_held (out-JsonValue v) cs (sym (view_seen v) ∙ h)

-- a value whose tree is an array
pub array_from_tree : (v : JsonValue) (ts : Items) → view v ≡ array ts → (l : Vec JsonValue Global) × (array_part v ≡ Some l)
    × (items_view l.items ≡ ts)
array_from_tree v ts h = array_held (out-JsonValue v) ts (sym (view_seen v) ∙ h)

-- a value whose tree is an object
pub object_from_tree : (v : JsonValue) (ms : Members) → view v ≡ object ms → (m : JsonMap) × (object_part v ≡ Some m)
    × (members_view m.entries ≡ ms)
object_from_tree v ms h = object_held (out-JsonValue v) ms (sym (view_seen v) ∙ h)

-- a value that is not of a variant has the tree of none
pub no_null : (v : JsonValue) → (v ≡ made.Null → ⊥) → view v ≡ null → ⊥
no_null v other h = other (null_made v (null_from_tree v h))

pub no_boolean : (v : JsonValue) → ((b : Bool) → v ≡ made.Boolean b → ⊥) → (b : Bool) → view v ≡ boolean b → ⊥
no_boolean v other b h = other b (sym (put_of_boolean v b (boolean_from_tree v b h)))

pub no_number : (v : JsonValue) → ((n : JsonNumber) → v ≡ made.Number n → ⊥) → (d : Decimal) → view v ≡ number d → ⊥
no_number v other d h = let f = number_from_tree v d h in other f.0 (sym (put_of_number v f.0 f.1))

pub no_string : (v : JsonValue) → ((s : String Global) → v ≡ made.String s → ⊥) → (cs : List ℕ) → view v ≡ string cs → ⊥
no_string v other cs h = let f = string_from_tree v cs h in other f.0 (sym (put_of_string v f.0 f.1))

pub no_object : (v : JsonValue) → ((m : JsonMap) → v ≡ made.Object m → ⊥) → (ms : Members) → view v ≡ object ms → ⊥
no_object v other ms h = let f = object_from_tree v ms h in other f.0 (sym (put_of_object v f.0 f.1))

pub no_array : (v : JsonValue) → ((l : Vec JsonValue Global) → v ≡ made.Array l → ⊥) → (ts : Items) → view v ≡ array ts → ⊥
no_array v other ts h = let f = array_from_tree v ts h in other f.0 (sym (put_of_array v f.0 f.1))

-- ---- whether a part is there, by the tree

null_told : (o : JsonValue-F JsonValue) → is_some (null_in o) ≡ is_null (seen o)
null_told JsonValue-F.Null = refl
null_told _ = refl

boolean_told : (o : JsonValue-F JsonValue) → is_some (boolean_in o) ≡ is_boolean (seen o)
boolean_told (JsonValue-F.Boolean b) = refl
boolean_told _ = refl

number_told : (o : JsonValue-F JsonValue) → is_some (number_in o) ≡ is_number (seen o)
number_told (JsonValue-F.Number n) = refl
number_told _ = refl

string_told : (o : JsonValue-F JsonValue) → is_some (string_in o) ≡ is_string (seen o)
string_told (JsonValue-F.String s) = refl
string_told _ = refl

array_told : (o : JsonValue-F JsonValue) → is_some (array_in o) ≡ is_array (seen o)
array_told (JsonValue-F.Array l) = refl
array_told _ = refl

object_told : (o : JsonValue-F JsonValue) → is_some (object_in o) ≡ is_object (seen o)
object_told (JsonValue-F.Object m) = refl
object_told _ = refl

pub is_null_view : (v : JsonValue) → is_some (null_part v) ≡ is_null (view v)
is_null_view v = null_told (out-JsonValue v) ∙ ap is_null (sym (view_seen v))

pub is_boolean_view : (v : JsonValue) → is_some (boolean_part v) ≡ is_boolean (view v)
is_boolean_view v = boolean_told (out-JsonValue v) ∙ ap is_boolean (sym (view_seen v))

pub is_number_view : (v : JsonValue) → is_some (number_part v) ≡ is_number (view v)
is_number_view v = number_told (out-JsonValue v) ∙ ap is_number (sym (view_seen v))

pub is_string_view : (v : JsonValue) → is_some (string_part v) ≡ is_string (view v)
is_string_view v = string_told (out-JsonValue v) ∙ ap is_string (sym (view_seen v))

pub is_array_view : (v : JsonValue) → is_some (array_part v) ≡ is_array (view v)
is_array_view v = array_told (out-JsonValue v) ∙ ap is_array (sym (view_seen v))

pub is_object_view : (v : JsonValue) → is_some (object_part v) ≡ is_object (view v)
is_object_view v = object_told (out-JsonValue v) ∙ ap is_object (sym (view_seen v))

-- ---- keys of ASCII characters

abbrev pub are_ascii : List ℕ → Bool
are_ascii [] = true
are_ascii (c ∷ cs) = nat_lt c 128 && are_ascii cs

-- a literal key, as `IsAscii_literal (codes "port") refl`
pub IsAscii_literal : (bs : List ℕ) → are_ascii bs ≡ true → IsAscii bs
IsAscii_literal [] h i = omega arith
IsAscii_literal (c ∷ cs) h zero = let p = and_parts (nat_lt c 128) (are_ascii cs) h in grind (arith, nat_tests)
IsAscii_literal (c ∷ cs) h (suc i) = IsAscii_literal cs (and_parts (nat_lt c 128) (are_ascii cs) h).1 i

-- its characters are its bytes
pub chars_literal : (bs : List ℕ) → are_ascii bs ≡ true → chars bs ≡ bs
chars_literal bs h = chars-IsAscii bs (IsAscii_literal bs h)

-- a key that is compared with a literal by its bytes, as `is_key (string_bytes k) (codes "port") (IsUtf8-string_bytes k) refl`
pub is_key : (bs name : List ℕ) → IsUtf8 bs → are_ascii name ≡ true → bytes_eq bs name ≡ bytes_eq (chars bs) name
is_key bs name u a = by (bytes_eq bs name) (bytes_eq (chars bs) name) refl refl
  where
    by : (x y : Bool) → bytes_eq bs name ≡ x → bytes_eq (chars bs) name ≡ y → x ≡ y
    by true y e f = sym ((bytes_eq-Decides (chars bs) name).1 (ap chars ((bytes_eq-Decides bs name).0 e) ∙ chars_literal name a)) ∙ f
    by false true e f =
        let same : bs ≡ name = sym (encodes-chars bs u)
        ∙ (ap encode_utf8_all ((bytes_eq-Decides (chars bs) name).0 f) ∙ encodes-IsAscii name (IsAscii_literal name a)) in
        sym e ∙ (bytes_eq-Decides bs name).1 same
    by false false e f = refl

-- two keys that compare as unequal, as `keys_apart (codes "host") (codes "port") refl`
pub keys_apart : (k l : List ℕ) → bytes_eq k l ≡ false → k ≢ l
keys_apart k l e h = let same = (bytes_eq-Decides k l).1 h in cc

-- ---- an item by its index, a member by its key

-- among the items of a vector: there or not
pub nth_items_view : (vs : List JsonValue) (i : ℕ) → nth (items_view vs) i ≡ option_map view (slice_get vs i)
nth_items_view [] i = refl
nth_items_view (v ∷ vs) zero = refl
nth_items_view (v ∷ vs) (suc i) = nth_items_view vs i

item_seen : (o : JsonValue-F JsonValue) (i : ℕ) → tree_at (seen o) i ≡ option_map view
    (option_and_then (λ l. slice_get l.items i) (array_in o))
item_seen (JsonValue-F.Array l) i = nth_items_view l.items i
item_seen _ i = refl

-- in any value
pub tree_at_view : (v : JsonValue) (i : ℕ) → tree_at (view v) i ≡ option_map view (item_at v i)
tree_at_view v i = ap (λ t. tree_at t i) (view_seen v) ∙ item_seen (out-JsonValue v) i

member_seen : (o : JsonValue-F JsonValue) (bs : List ℕ) → IsUtf8 bs → tree_at_key (seen o) (chars bs) ≡ option_map view
    (option_and_then (λ m. get_by_text m bs) (object_in o))
member_seen (JsonValue-F.Object m) bs u = find_members_view bs u m.entries
member_seen _ bs u = refl

-- in any value, by the bytes of a key
pub tree_at_key_view : (v : JsonValue) (bs : List ℕ) → IsUtf8 bs → tree_at_key (view v) (chars bs) ≡ option_map view (member_at v bs)
tree_at_key_view v bs u = ap (λ t. tree_at_key t (chars bs)) (view_seen v) ∙ member_seen (out-JsonValue v) bs u

-- the same at a literal key, as `tree_at_literal v (codes "port") refl`
pub tree_at_literal : (v : JsonValue) (bs : List ℕ) → are_ascii bs ≡ true → tree_at_key (view v) bs ≡ option_map view (member_at v bs)
tree_at_literal v bs h = ap (tree_at_key (view v)) (sym (chars_literal bs h))
    ∙ tree_at_key_view v bs (IsUtf8-from_ascii bs (IsAscii_literal bs h))

-- among the members of a map, by the bytes of a key
pub find_get : (m : JsonMap) (bs : List ℕ) → IsUtf8 bs → find (chars bs) (members_view m.entries) ≡ option_map view (get_by_text m bs)
find_get m bs u = find_members_view bs u m.entries

-- by a key that is a `String`
pub find_get_text : (m : JsonMap) (k : String Global) → find (text k) (members_view m.entries) ≡ option_map view (get string_eq m k)
find_get_text m k = find_members_of k (seen_entries m.entries) ∙ view_lookup k m.entries

-- at a literal key
pub find_get_literal : (m : JsonMap) (bs : List ℕ) → are_ascii bs ≡ true
    → find bs (members_view m.entries) ≡ option_map view (get_by_text m bs)
find_get_literal m bs h = ap (λ k. find k (members_view m.entries)) (sym (chars_literal bs h))
    ∙ find_get m bs (IsUtf8-from_ascii bs (IsAscii_literal bs h))

-- what an array lends at an index
pub lent_item : (v : JsonValue) (l : Vec JsonValue Global) (i : ℕ) → array_part v ≡ Some l
    → (r : Option (Bor JsonValue)) → option_map (λ x. x.now) r ≡ slice_get l.items i
    → option_map (λ x. view x.now) r ≡ tree_at (view v) i
lent_item v l i held r got = view_ref r ∙ (ap (option_map view) got ∙ (sym (nth_items_view l.items i)
    ∙ ap (λ t. tree_at t i) (sym (array_tree v l held))))

-- what an object lends at a key
pub lent_member : (v : JsonValue) (m : JsonMap) (bs : List ℕ) → IsUtf8 bs → object_part v ≡ Some m
    → (r : Option (Bor JsonValue)) → option_map (λ x. x.now) r ≡ get_by_text m bs
    → option_map (λ x. view x.now) r ≡ tree_at_key (view v) (chars bs)
lent_member v m bs u held r got = view_ref r ∙ (ap (option_map view) got ∙ (sym (find_get m bs u)
    ∙ ap (λ t. tree_at_key t (chars bs)) (sym (object_tree v m held))))

-- at a literal key
pub lent_literal : (v : JsonValue) (m : JsonMap) (bs : List ℕ) → are_ascii bs ≡ true → object_part v ≡ Some m
    → (r : Option (Bor JsonValue)) → option_map (λ x. x.now) r ≡ get_by_text m bs
    → option_map (λ x. view x.now) r ≡ tree_at_key (view v) bs
lent_literal v m bs h held r got = lent_member v m bs (IsUtf8-from_ascii bs (IsAscii_literal bs h)) held r got
    ∙ ap (tree_at_key (view v)) (chars_literal bs h)

-- a tree that is there is one of a value
pub value_from_tree : (o : Option JsonValue) (t : Tree) → option_map view o ≡ Some t → (v : JsonValue) × (o ≡ Some v) × (view v ≡ t)
value_from_tree (Some v) t h = (v, refl, cc)
value_from_tree None t h = cc

-- where there is no tree, there is no value
pub none_from_tree : (o : Option JsonValue) → option_map view o ≡ None → o ≡ None
none_from_tree None h = refl
none_from_tree (Some v) h = cc

-- null in the place of no value
pub view_or_null : (o : Option JsonValue) → view (unwrap_or o made.Null) ≡ unwrap_or (option_map view o) null
view_or_null (Some v) = refl
view_or_null None = view_Null

-- ---- the entries of a map

lookup_at : (done more : List Entry) (e : Entry) → IsDistinct string_eq (keys_of (done ++ e ∷ more))
    → lookup (string_eq e.0) (done ++ e ∷ more) ≡ Some e.1
unfolding IsDistinct
lookup_at [] more e h = ap (λ b. cond b (Some e.1) (lookup (string_eq e.0) more)) (string_eq_equiv.refl e.0)
lookup_at (d ∷ done) more e h = ap (λ b. cond b (Some d.1) (lookup (string_eq e.0) (done ++ e ∷ more)))
    (string_eq_equiv.symm e.0 d.0 ∙ apart done h.0) ∙ lookup_at done more e h.1
  where
    apart : (es : List Entry) → AllByRecursion (λ y. string_eq d.0 y ≡ false) (keys_of (es ++ e ∷ more)) → string_eq d.0 e.0 ≡ false
    apart [] a = a.0
    apart (x ∷ es) a = apart es a.1

-- each entry is found at its key
pub find_entry : (done more : List Entry) (e : Entry) → IsDistinct string_eq (keys_of (done ++ e ∷ more))
    → find (text e.0) (members_view (done ++ e ∷ more)) ≡ Some (view e.1)
find_entry done more e h =
    find_members_of e.0 (seen_entries (done ++ e ∷ more)) ∙ (view_lookup e.0 (done ++ e ∷ more)
    ∙ ap (λ o. option_map view o) (lookup_at done more e h))

-- An entry with this key and this tree stands among the entries.
pub record HasEntry (es : List Entry) (k : List ℕ) (t : Tree) : Type 0 where
  pub done : List Entry
  pub entry : Entry
  pub more : List Entry
  pub split : es ≡ done ++ entry ∷ more
  pub key : k ≡ text entry.0
  pub tree : view entry.1 ≡ t

-- whatever is found is an entry
pub entry_from_find : (es : List Entry) (k : List ℕ) (t : Tree) → find k (members_view es) ≡ Some t → HasEntry es k t
entry_from_find [] k t h = cc
entry_from_find (e ∷ es) k t h = by (bytes_eq k (text e.0)) refl (sym (find_put k (text e.0) (view e.1) (members_view es)) ∙ h)
    (entry_from_find es k t)
  where
    by : (b : Bool) → bytes_eq k (text e.0) ≡ b → cond b (Some (view e.1)) (find k (members_view es)) ≡ Some t
        → (find k (members_view es) ≡ Some t → HasEntry es k t) → HasEntry (e ∷ es) k t
    by true is g later = record { done = []; entry = e; more = es; split = refl; key = (bytes_eq-Decides k (text e.0)).0 is; tree = cc }
    by false is g later = let r = later g in record {
      done = e ∷ r.done;
      entry = r.entry;
      more = r.more;
      split =
          ap (λ fs. e ∷ fs) r.split;
      key = r.key;
      tree = r.tree;
    }

-- ---- after a change

-- `insert` of a value at a key
pub members_view_insert : (m n : JsonMap) (k : String Global) (v : JsonValue) → Updates string_eq m n k (Some v)
    → members_view n.entries ≡ put (text k) (view v) (members_view m.entries)
members_view_insert m n k v h = members_view_updates m.entries n.entries k v h.0

-- `remove` of a key
pub members_view_remove : (m n : JsonMap) (bs : List ℕ) → IsUtf8 bs → UpdatesBy string_eq (λ k. bytes_eq bs (string_bytes k)) m n None
    → members_view n.entries ≡ remove (chars bs) (members_view m.entries)
members_view_remove m n bs u h = members_view_removes m.entries n.entries bs u h.0

-- a write through what `get_mut` of a map lent
pub members_view_write : (m n : JsonMap) (bs : List ℕ) (w : JsonValue) → IsUtf8 bs → IsSome (get_by_text m bs)
    → UpdatesBy string_eq (λ k. bytes_eq bs (string_bytes k)) m n (Some w)
    → members_view n.entries ≡ put (chars bs) (view w) (members_view m.entries)
members_view_write m n bs w u there h = members_view_writes m.entries n.entries bs w u there h.0

-- the object that a value is, after a member was written through two calls of `get_mut`
pub tree_write : (v : JsonValue) (m n : JsonMap) (bs : List ℕ) (w : JsonValue) → IsUtf8 bs → object_part v ≡ Some m
    → IsSome (get_by_text m bs) → UpdatesBy string_eq (λ k. bytes_eq bs (string_bytes k)) m n (Some w)
    → view (made.Object n) ≡ with_tree_at_key (view v) (chars bs) (view w)
tree_write v m n bs w u held there h = tree_with_member v m n bs w u held there h.0

-- `push` of a value
pub items_view_push : (vs : List JsonValue) (v : JsonValue) → items_view (vs ++ v ∷ []) ≡ with_last (items_view vs) (view v)
items_view_push [] v = refl
items_view_push (w ∷ vs) v = ap (item (view w)) (items_view_push vs v)

-- ---- what is found after a change of a tree

-- the item that was set
pub nth_with_nth : (ts : Items) (i : ℕ) (u t : Tree) → nth ts i ≡ Some t → nth (with_nth ts i u) i ≡ Some u
nth_with_nth no_items i u t h = cc
nth_with_nth (item t ts) zero u x h = refl
nth_with_nth (item t ts) (suc i) u x h = nth_with_nth ts i u x h

-- another item
pub nth_with_nth_other : (ts : Items) (i j : ℕ) (u : Tree) → i ≢ j → nth (with_nth ts i u) j ≡ nth ts j
nth_with_nth_other no_items i j u h = refl
nth_with_nth_other (item t ts) zero zero u h = absurd (h refl)
nth_with_nth_other (item t ts) zero (suc j) u h = refl
nth_with_nth_other (item t ts) (suc i) zero u h = refl
nth_with_nth_other (item t ts) (suc i) (suc j) u h = nth_with_nth_other ts i j u (λ e. h (ap suc e))

-- the member that was put
pub find_put_same : (k : List ℕ) (t : Tree) (ms : Members) → find k (put k t ms) ≡ Some t
find_put_same k t ms = find_put k k t ms ∙ ap (λ b. cond b (Some t) (find k ms)) ((bytes_eq-Decides k k).1 refl)

bytes_differ : (k l : List ℕ) (b : Bool) → bytes_eq k l ≡ b → k ≢ l → b ≡ false
bytes_differ k l true e h = absurd (h ((bytes_eq-Decides k l).0 e))
bytes_differ k l false e h = refl

-- another member after `put`
pub find_put_other : (q k : List ℕ) (t : Tree) (ms : Members) → q ≢ k → find q (put k t ms) ≡ find q ms
find_put_other q k t ms h = find_put q k t ms ∙ ap (λ b. cond b (Some t) (find q ms)) (bytes_differ q k (bytes_eq q k) refl h)

-- the member that was removed
pub find_remove_same : (k : List ℕ) (ms : Members) → find k (remove k ms) ≡ None
find_remove_same k ms = find_remove k k ms ∙ ap (λ b. cond b None (find k ms)) ((bytes_eq-Decides k k).1 refl)

-- another member after `remove`
pub find_remove_other : (q k : List ℕ) (ms : Members) → q ≢ k → find q (remove k ms) ≡ find q ms
find_remove_other q k ms h = find_remove q k ms ∙ ap (λ b. cond b None (find q ms)) (bytes_differ q k (bytes_eq q k) refl h)

-- what is found after `remove` was there, at another key
pub found_before_remove : (q k : List ℕ) (ms : Members) (t : Tree) → find q (remove k ms) ≡ Some t → (q ≢ k) × (find q ms ≡ Some t)
found_before_remove q k ms t h = by (bytes_eq q k) refl (sym (find_remove q k ms) ∙ h)
  where
    by : (b : Bool) → bytes_eq q k ≡ b → cond b None (find q ms) ≡ Some t → (q ≢ k) × (find q ms ≡ Some t)
    by true e g = cc
    by false e g = (keys_apart q k e, g)

-- what was there is found after `remove`, but at its key
pub found_after_remove : (q k : List ℕ) (ms : Members) (t : Tree) → find q ms ≡ Some t → (q ≡ k) ⊎ (find q (remove k ms) ≡ Some t)
found_after_remove q k ms t h = by (bytes_eq q k) refl
  where
    by : (b : Bool) → bytes_eq q k ≡ b → (q ≡ k) ⊎ (find q (remove k ms) ≡ Some t)
    by true e = inl ((bytes_eq-Decides q k).0 e)
    by false e = inr (find_remove q k ms ∙ ap (λ b. cond b None (find q ms)) e ∙ h)

-- ---- a part that is put back where it was found

pub with_nth_back : (ts : Items) (i : ℕ) (u : Tree) → nth ts i ≡ Some u → with_nth ts i u ≡ ts
with_nth_back no_items i u h = refl
with_nth_back (item t ts) zero u h = let e : t ≡ u = cc in ap (λ x. item x ts) (sym e)
with_nth_back (item t ts) (suc i) u h = ap (item t) (with_nth_back ts i u h)

pub put_back : (k : List ℕ) (u : Tree) (ms : Members) → IsSorted ms → find k ms ≡ Some u → put k u ms ≡ ms
put_back k u ms s h = members_from_find (put k u ms) ms (sorted_put k u ms s) s (λ q. find_put q k u ms ∙ by q (bytes_eq q k) refl)
  where
    by : (q : List ℕ) (b : Bool) → bytes_eq q k ≡ b → cond b (Some u) (find q ms) ≡ find q ms
    by q true e = sym (ap (λ x. find x ms) ((bytes_eq-Decides q k).0 e) ∙ h)
    by q false e = refl

pub with_tree_at_back : (t : Tree) (i : ℕ) (u : Tree) → tree_at t i ≡ Some u → with_tree_at t i u ≡ t
with_tree_at_back (array ts) i u h = ap array (with_nth_back ts i u h)
with_tree_at_back _ i u h = refl

pub with_tree_at_key_back : (t : Tree) (k : List ℕ) (u : Tree) → IsTree t → tree_at_key t k ≡ Some u → with_tree_at_key t k u ≡ t
with_tree_at_key_back (object ms) k u s h = ap object (put_back k u ms s.1 h)
with_tree_at_key_back _ k u s h = refl

-- ---- texts that are read and written

-- a text that gave a value is accepted, with the value's tree
pub accepted_text : (limit : Option ℕ) (xs : List ℕ) (v : JsonValue) → ParsesText limit xs (Ok v) → IsText limit xs (view v)
accepted_text limit xs v p = p.answer.1

-- a text that was refused, and not because memory ran out, is not accepted
pub refused_text : (limit : Option ℕ) (xs : List ℕ) (e : JsonParseError) → ParsesText limit xs (Err e)
    → ¬ (error_kind e ≡ refusal.OutOfMemory) → ¬ IsAccepted limit xs
refused_text limit xs e p n = p.refused n

-- the compact text of a value is a text of its tree
pub compact_read_back : (v : JsonValue) → IsText None (compact (view v)) (view v)
compact_read_back v = compact_text (view v) (view_IsTree v)

-- its bytes in UTF-8 have the text's characters
pub chars_compact : (v : JsonValue) → chars (encode_utf8_all (compact (view v))) ≡ compact (view v)
chars_compact v = encoded_chars (compact (view v)) (text_of_scalars None tt 0 (view v) (view_IsTree v))

-- a string with the characters of the compact text has its bytes
pub bytes_compact : (s : String Global) (v : JsonValue) → text s ≡ compact (view v) → string_bytes s ≡ encode_utf8_all (compact (view v))
bytes_compact s v h = sym (encodes-chars (string_bytes s) (IsUtf8-string_bytes s)) ∙ ap encode_utf8_all h

-- two values are equal (`==`) exactly if the bytes of their compact texts are
pub equal_compact : (v w : JsonValue) → bytes_eq (encode_utf8_all (compact (view v))) (encode_utf8_all (compact (view w))) ≡ same_tree v w
equal_compact v w =
    let trees = tree_eq_Decides (view v) (view w) in
    let bytes = bytes_eq-Decides (encode_utf8_all (compact (view v))) (encode_utf8_all (compact (view w))) in
    sym (same_from_decides _ _ trees (
      λ e. one_compact (view v) (view w) (view_IsTree v) (view_IsTree w) (sym (chars_compact v) ∙ (ap chars (bytes.0 e) ∙ chars_compact w)),
      λ e. bytes.1 (ap (λ t. encode_utf8_all (compact t)) e),
    ))

-- a text that is written as a whole is appended
pub Appends_written : (old new : Option (List ℕ)) (bytes : List ℕ) → Written old new bytes [] → Appends old new bytes
Appends_written old new bytes h = subst (Appends old new) (sym (h.split ∙ append-nil h.done)) h.appended

-- two texts, one after the other
pub Appends_both : (old mid new : Option (List ℕ)) (a b : List ℕ) → Written old mid a [] → Written mid new b [] → Appends old new (a ++ b)
Appends_both old mid new a b h k = Appends-trans old mid new a b (Appends_written old mid a h) (Appends_written mid new b k)
