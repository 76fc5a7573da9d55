-- The parts of a value, as a view gives them.
use Rattle.std.proofs.Common.{◌≡◌, ℕ, Bool, true, zero, suc, List, [], ◌∷◌, Option, Some}
use Rattle.std.proofs.Common.{None, option_map, slice_get, length, String, Vec, Global}
use Rattle.std.proofs.Common.{Ordering, Less, Equal, Greater, bytes_eq, cond, false}
use Rattle.std.specs.Ordering.{match_ordering}
use Rattle.std.proofs.lemmas.Slice.Eq.{bytes_eq-Decides}
use Rattle.std.proofs.lemmas.Option.{none-some}
use Rattle.std.proofs.Common.{Bor, string_bytes, refl, sym, ◌∙◌, ap}
use Rattle.std.specs.HashMap.{get_by_text}
use Rattle.std.specs.List.{IsDistinct}
use Rattle.std.specs.Map.{keys_of}
use Rattle.std.specs.Str.{IsUtf8, chars}
use Rattle.std.specs.String.{string_eq, string_eq_equiv}
use Rattle.std.proofs.lemmas.Map.{lookup-none}
use Rattle.std.proofs.lemmas.Map.Entries.{none_past_head}
use Rattle.tinyjson.proofs.Callers.{view_Number, view_Boolean, view_String, view_Array, view_Object}
use Rattle.tinyjson.proofs.Callers.{find_members_view, key_same, IsUtf8-string_bytes}
use Rattle.tinyjson.proofs.Callers.{no_array, no_boolean, no_number, no_object, no_string, view_ref, Entry}
use Rattle.tinyjson.specs.Access.{JsonMap}
use Rattle.tinyjson.specs.Index.{item_count, nth, tree_at, tree_at_key}
use Rattle.tinyjson.specs.View.{text, view, items_view, members_view}
use Rattle.tinyjson.specs.declared.value.JsonValue.{JsonValue}
use Rattle.tinyjson.specs.declared.value.JsonValue.TheVariants as made
use Rattle.tinyjson_number.specs.Decimal.{Decimal}
use Rattle.tinyjson_number.specs.declared.number.JsonNumber.{JsonNumber}
use Rattle.tinyjson_grammar.specs.Tree.{Tree, boolean, number, string, array, object, put}
use Rattle.tinyjson_grammar.specs.Tree.{Items, Members, no_members, member, find, key_cmp}
use Rattle.tinyjson_document.specs.Parts.{boolean_in, number_in, string_in, member_count, size}

-- ---- a tree of another variant

boolean_none : (t : Tree) → ((b : Bool) → t ≡ boolean b → ⊥) → boolean_in t ≡ None
boolean_none (boolean b) h = absurd (h b refl)
boolean_none _ h = refl

number_none : (t : Tree) → ((d : Decimal) → t ≡ number d → ⊥) → number_in t ≡ None
number_none (number d) h = absurd (h d refl)
number_none _ h = refl

string_none : (t : Tree) → ((cs : List ℕ) → t ≡ string cs → ⊥) → string_in t ≡ None
string_none (string cs) h = absurd (h cs refl)
string_none _ h = refl

size_none : (t : Tree) → ((ts : Items) → t ≡ array ts → ⊥) → ((ms : Members) → t ≡ object ms → ⊥) → size t ≡ 0
size_none (array ts) h k = absurd (h ts refl)
size_none (object ms) h k = absurd (k ms refl)
size_none _ h k = refl

item_none : (t : Tree) (i : ℕ) → ((ts : Items) → t ≡ array ts → ⊥) → tree_at t i ≡ None
item_none (array ts) i h = absurd (h ts refl)
item_none _ i h = refl

member_none : (t : Tree) (k : List ℕ) → ((ms : Members) → t ≡ object ms → ⊥) → tree_at_key t k ≡ None
member_none (object ms) k h = absurd (h ms refl)
member_none _ k h = refl

nth_viewed : (vs : List JsonValue) (i : ℕ) → nth (items_view vs) i ≡ option_map view (slice_get vs i)
nth_viewed [] i = refl
nth_viewed (v ∷ vs) zero = refl
nth_viewed (v ∷ vs) (suc i) = nth_viewed vs i

items_counted : (vs : List JsonValue) → length vs ≡ item_count (items_view vs)
items_counted [] = refl
items_counted (v ∷ vs) = ap suc (items_counted vs)

-- ---- how many members there are

count_put_new : (k : List ℕ) (t : Tree) (ms : Members) → find k ms ≡ None → member_count (put k t ms) ≡ suc (member_count ms)
count_put_new k t no_members h = refl
count_put_new k t (member l u ms) h = by (key_cmp k l) refl (bytes_eq k l) refl (count_put_new k t ms)
  where
    by : (o : Ordering) → key_cmp k l ≡ o → (b : Bool) → bytes_eq k l ≡ b
        → (find k ms ≡ None → member_count (put k t ms) ≡ suc (member_count ms))
        → member_count (match_ordering o (member k t (member l u ms)) (member k t ms) (member l u (put k t ms)))
        ≡ suc (suc (member_count ms))
    by Less e b f more = refl
    by Equal e b f more =
        let same = (bytes_eq-Decides k l).1 (key_same k l e) in
        absurd (none-some _ (sym h ∙ ap (λ c. cond c (Some u) (find k ms)) same))
    by Greater e true f more = absurd (none-some _ (sym h ∙ ap (λ c. cond c (Some u) (find k ms)) f))
    by Greater e false f more = ap suc (more (sym (ap (λ c. cond c (Some u) (find k ms)) f) ∙ h))

-- the key of an entry is not among the later ones
fresh : (e : Entry) (es : List Entry) → IsDistinct string_eq (keys_of (e ∷ es)) → find (text e.0) (members_view es) ≡ None
fresh e es h =
    find_members_view (string_bytes e.0) (IsUtf8-string_bytes e.0) es ∙ ap (option_map view)
    (lookup-none (string_eq e.0) es (none_past_head string_eq_equiv e.0 e es h (string_eq_equiv.refl e.0)))

members_counted : (es : List Entry) → IsDistinct string_eq (keys_of es) → length es ≡ member_count (members_view es)
unfolding IsDistinct
members_counted [] h = refl
members_counted (e ∷ es) h = ap suc (members_counted es h.1)
    ∙ sym (count_put_new (text e.0) (view e.1) (members_view es) (fresh e es h))

module _ (v : JsonValue) where
  pub boolean_viewed : (b : Bool) → v ≡ made.Boolean b → Some b ≡ boolean_in (view v)
  boolean_viewed b e = sym (ap boolean_in (ap view e ∙ view_Boolean b))

  pub no_boolean_viewed : ((b : Bool) → v ≡ made.Boolean b → ⊥) → None ≡ boolean_in (view v)
  no_boolean_viewed h = sym (boolean_none (view v) (no_boolean v h))

  pub number_viewed : (n : JsonNumber) → v ≡ made.Number n → Some n.decimal ≡ number_in (view v)
  number_viewed n e = sym (ap number_in (ap view e ∙ view_Number n))

  pub no_number_viewed : ((n : JsonNumber) → v ≡ made.Number n → ⊥) → None ≡ number_in (view v)
  no_number_viewed h = sym (number_none (view v) (no_number v h))

  pub string_viewed : (s : String Global) → v ≡ made.String s → Some (text s) ≡ string_in (view v)
  string_viewed s e = sym (ap string_in (ap view e ∙ view_String s))

  pub no_string_viewed : ((s : String Global) → v ≡ made.String s → ⊥) → None ≡ string_in (view v)
  no_string_viewed h = sym (string_none (view v) (no_string v h))

  pub no_size_viewed : ((l : Vec JsonValue Global) → v ≡ made.Array l → ⊥) → ((m : JsonMap) → v ≡ made.Object m → ⊥) → 0 ≡ size (view v)
  no_size_viewed h k = sym (size_none (view v) (no_array v h) (no_object v k))

  pub no_item_viewed : (i : ℕ) → ((l : Vec JsonValue Global) → v ≡ made.Array l → ⊥) → None ≡ tree_at (view v) i
  no_item_viewed i h = sym (item_none (view v) i (no_array v h))

  pub no_member_viewed : (k : List ℕ) → ((m : JsonMap) → v ≡ made.Object m → ⊥) → None ≡ tree_at_key (view v) k
  no_member_viewed k h = sym (member_none (view v) k (no_object v h))

  pub item_viewed : (l : Vec JsonValue Global) (i : ℕ) (r : Option (Bor JsonValue)) → v ≡ made.Array l
      → option_map (λ x. x.now) r ≡ slice_get l.items i → option_map (λ x. view x.now) r ≡ tree_at (view v) i
  item_viewed l i r e g = view_ref r ∙ ap (option_map view) g ∙ sym (nth_viewed l.items i)
      ∙ sym (ap (λ t. tree_at t i) (ap view e ∙ view_Array l))

  pub member_viewed : (m : JsonMap) (bs : List ℕ) (r : Option (Bor JsonValue)) → v ≡ made.Object m → IsUtf8 bs
      → option_map (λ x. x.now) r ≡ get_by_text m bs → option_map (λ x. view x.now) r ≡ tree_at_key (view v) (chars bs)
  member_viewed m bs r e u g = view_ref r ∙ ap (option_map view) g ∙ sym (find_members_view bs u m.entries)
      ∙ sym (ap (λ t. tree_at_key t (chars bs)) (ap view e ∙ view_Object m))

  pub items_size : (l : Vec JsonValue Global) → v ≡ made.Array l → length l.items ≡ size (view v)
  items_size l e = items_counted l.items ∙ sym (ap size (ap view e ∙ view_Array l))

  pub members_size : (m : JsonMap) → v ≡ made.Object m → IsDistinct string_eq (keys_of m.entries) → length m.entries ≡ size (view v)
  members_size m e d = members_counted m.entries d ∙ sym (ap size (ap view e ∙ view_Object m))
