-- A small use of each lemma of `Rattle.tinyjson.proofs.Callers` that no program of this repository needs.
use Rattle.std.proofs.Common.{◌≡◌, ◌≢◌, ℕ, Bool, true, false, cond, bytes_eq, List, [], ◌∷◌, ◌++◌, Option, Some, None, IsSome, option_map}
use Rattle.std.proofs.Common.{codes, All, String, string_bytes, Vec, Global, Bor, ◌+◌, ◌⊎◌, refl, sym, ap, ◌∙◌}
use Rattle.std.proofs.lemmas.Slice.Eq.{bytes_eq-Decides}
use Rattle.std.specs.Char.{IsScalar}
use Rattle.std.specs.HashMap.{get, get_by_text, Updates, UpdatesBy}
use Rattle.std.specs.Io.KnownBytes.{Appends}
use Rattle.std.specs.List.{IsDistinct}
use Rattle.std.specs.Map.{lookup, keys_of}
use Rattle.std.specs.Str.{IsUtf8, chars, encode_utf8_all}
use Rattle.std.specs.String.{string_eq}
use Rattle.std.specs.Prelude.{slice_get}
use Rattle.std.specs.Vec.{with_item}
use Rattle.std.specs.Vec.Iter.{into_iter_items, into_iter_len}
use Rattle.std.specs.declared.vec.IntoIter.{IntoIter}
use Rattle.tinyjson.proofs.Callers as callers
use Rattle.tinyjson.proofs.Callers.{Entry, begins}
use Rattle.tinyjson.specs.Access.{JsonMap, number_part, boolean_part, string_part, null_part, array_part, object_part}
use Rattle.tinyjson_grammar.specs.Grammar.{IsAccepted}
use Rattle.tinyjson.specs.Equality.{same_tree}
use Rattle.tinyjson.specs.Index.{item_at, member_at, tree_at, tree_at_key, with_last, with_tree_at, with_tree_at_key}
use Rattle.tinyjson.specs.Number.{JsonNumber, zero_decimal}
use Rattle.tinyjson_grammar.specs.Soundness.{IsSorted}
use Rattle.tinyjson_grammar.specs.Text.{compact}
use Rattle.tinyjson_grammar.specs.Tree.{Tree, null, boolean, number, string, array, Members, put, find, remove}
use Rattle.tinyjson.specs.View.{view, text, items_view, members_view}
use Rattle.tinyjson_output.specs.Written.{Written, WrittenPart}
use Rattle.tinyjson.specs.declared.value.JsonValue.{JsonValue}
use Rattle.tinyjson.specs.declared.value.JsonValue.TheVariants as made

-- ---- the tree of a variant

pub null_has_no_item : (i : ℕ) → tree_at (view made.Null) i ≡ None
null_has_no_item i = ap (λ t. tree_at t i) callers.view_Null

pub true_is_seen : view (made.Boolean true) ≡ boolean true
true_is_seen = callers.view_Boolean true

-- ---- the tree of a value that is not of a variant

module _ (v : JsonValue) where
  pub other_than_null : (v ≡ made.Null → ⊥) → view v ≢ null
  other_than_null other h = callers.no_null v other h

  pub other_than_true : ((b : Bool) → v ≡ made.Boolean b → ⊥) → view v ≢ boolean true
  other_than_true other h = callers.no_boolean v other true h

  pub other_than_zero : ((n : JsonNumber) → v ≡ made.Number n → ⊥) → view v ≢ number zero_decimal
  other_than_zero other h = callers.no_number v other zero_decimal h

  pub other_than_error : ((s : String Global) → v ≡ made.String s → ⊥) → view v ≢ string (codes "error")
  other_than_error other h = callers.no_string v other (codes "error") h

-- ---- of two values with one tree the other has the same part

module _ (v w : JsonValue) (one : view w ≡ view v) where
  pub null_kept : null_part v ≡ Some tt → null_part w ≡ Some tt
  null_kept h = callers.null_from_tree w (one ∙ callers.null_tree v h)

  pub truth_kept : (b : Bool) → boolean_part v ≡ Some b → boolean_part w ≡ Some b
  truth_kept b h = callers.boolean_from_tree w b (one ∙ callers.boolean_tree v b h)

  pub number_kept : (n : JsonNumber) → number_part v ≡ Some n → (m : JsonNumber) × (number_part w ≡ Some m) × (m.decimal ≡ n.decimal)
  number_kept n h = callers.number_from_tree w n.decimal (one ∙ callers.number_tree v n h)

  pub string_kept : (s : String Global) → string_part v ≡ Some s
      → (t : String Global) × (string_part w ≡ Some t) × (string_bytes t ≡ string_bytes s)
  string_kept s h =
      let found = callers.string_from_tree w (text s) (one ∙ callers.string_tree v s h) in
      (found.0, found.1, callers.same_text found.0 s found.2)

-- ---- a member by its key, an item by its index

pub port_is_there : (v x : JsonValue) → member_at v (codes "port") ≡ Some x → tree_at_key (view v) (codes "port") ≡ Some (view x)
port_is_there v x h = callers.tree_at_literal v (codes "port") refl ∙ ap (option_map view) h

pub member_is_there : (v x : JsonValue) (k : String Global) → member_at v (string_bytes k) ≡ Some x
    → tree_at_key (view v) (text k) ≡ Some (view x)
member_is_there v x k h = callers.tree_at_key_view v (string_bytes k) (callers.IsUtf8-string_bytes k) ∙ ap (option_map view) h

pub got_is_there : (m : JsonMap) (x : JsonValue) (k : String Global) → get string_eq m k ≡ Some x
    → find (text k) (members_view m.entries) ≡ Some (view x)
got_is_there m x k h = callers.find_get_text m k ∙ ap (option_map view) h

pub none_is_found : (es : List Entry) (k : String Global) → lookup (λ q. bytes_eq (string_bytes k) (string_bytes q)) es ≡ None
    → find (text k) (members_view es) ≡ None
none_is_found es k h = callers.find_members_view (string_bytes k) (callers.IsUtf8-string_bytes k) es ∙ ap (option_map view) h

pub no_item : (v : JsonValue) (i : ℕ) → tree_at (view v) i ≡ None → item_at v i ≡ None
no_item v i h = callers.none_from_tree (item_at v i) (sym (callers.tree_at_view v i) ∙ h)

pub one_more_entry : (done : List Entry) (e : Entry) → IsDistinct string_eq (keys_of (done ++ e ∷ []))
    → members_view (done ++ e ∷ []) ≡ put (text e.0) (view e.1) (members_view done)
one_more_entry done e h = callers.members_view_last done e [] h

pub entry_at : (es : List Entry) (k : List ℕ) (t : Tree) → find k (members_view es) ≡ Some t → callers.HasEntry es k t
entry_at es k t h = callers.entry_from_find es k t h

-- ---- what is lent

module _ (v : JsonValue) (r : Option (Bor JsonValue)) where
  pub lent_first : (l : Vec JsonValue Global) → array_part v ≡ Some l → option_map (λ x. x.now) r ≡ slice_get l.items 0
      → option_map (λ x. view x.now) r ≡ tree_at (view v) 0
  lent_first l held got = callers.lent_item v l 0 held r got

  pub lent_at : (m : JsonMap) (k : String Global) → object_part v ≡ Some m → option_map (λ x. x.now) r ≡ get_by_text m (string_bytes k)
      → option_map (λ x. view x.now) r ≡ tree_at_key (view v) (text k)
  lent_at m k held got = callers.lent_member v m (string_bytes k) (callers.IsUtf8-string_bytes k) held r got

  pub lent_port : (m : JsonMap) → object_part v ≡ Some m → option_map (λ x. x.now) r ≡ get_by_text m (codes "port")
      → option_map (λ x. view x.now) r ≡ tree_at_key (view v) (codes "port")
  lent_port m held got = callers.lent_literal v m (codes "port") refl held r got

-- ---- keys

pub port_compared : (k : String Global) → bytes_eq (string_bytes k) (codes "port") ≡ bytes_eq (text k) (codes "port")
port_compared k = callers.is_key (string_bytes k) (codes "port") (callers.IsUtf8-string_bytes k) refl

pub host_is_no_port : codes "host" ≢ codes "port"
host_is_no_port = callers.keys_apart (codes "host") (codes "port") refl

-- ---- a loop over a vector that is taken by value

pub one_turn : (v : JsonValue) (it more : IntoIter JsonValue Global) → into_iter_items it ≡ v ∷ [] → into_iter_len it ≡ 1
    → into_iter_items it ≡ v ∷ into_iter_items more → into_iter_len more + 1 ≡ into_iter_len it → callers.IsLeft (v ∷ []) more
one_turn v it more items count step less =
    callers.left_next (v ∷ []) it more v (callers.left_begins (v ∷ []) it items count) step less

module _ (vs : List JsonValue) (it : IntoIter JsonValue Global) (left : callers.IsLeft vs it) (end : into_iter_len it ≡ 0) where
  pub nothing_left : into_iter_items it ≡ []
  nothing_left = callers.none_left vs it left end

  pub all_is_done : vs ≡ left.done
  all_is_done = callers.left_ends vs it left end

-- ---- after a change

pub inserted_is_found : (m n : JsonMap) (k : String Global) (v : JsonValue) → Updates string_eq m n k (Some v)
    → find (text k) (members_view n.entries) ≡ Some (view v)
inserted_is_found m n k v h = ap (find (text k)) (callers.members_view_insert m n k v h)
    ∙ callers.find_put_same (text k) (view v) (members_view m.entries)

module _ (m n : JsonMap) (k : String Global) (change : UpdatesBy string_eq (λ q. bytes_eq (string_bytes k) (string_bytes q)) m n None) where
  left : members_view n.entries ≡ remove (text k) (members_view m.entries)
  left = callers.members_view_remove m n (string_bytes k) (callers.IsUtf8-string_bytes k) change

  pub removed_is_gone : find (text k) (members_view n.entries) ≡ None
  removed_is_gone = ap (find (text k)) left ∙ callers.find_remove_same (text k) (members_view m.entries)

  pub others_stay : (q : List ℕ) → q ≢ text k → find q (members_view n.entries) ≡ find q (members_view m.entries)
  others_stay q apart = ap (find q) left ∙ callers.find_remove_other q (text k) (members_view m.entries) apart

pub still_there : (q : List ℕ) (ms : Members) (t : Tree) → find q (remove (codes "port") ms) ≡ Some t
    → (q ≢ codes "port") × (find q ms ≡ Some t)
still_there q ms t h = callers.found_before_remove q (codes "port") ms t h

pub port_or_there : (q : List ℕ) (ms : Members) (t : Tree) → find q ms ≡ Some t
    → (q ≡ codes "port") ⊎ (find q (remove (codes "port") ms) ≡ Some t)
port_or_there q ms t h = callers.found_after_remove q (codes "port") ms t h

-- a member that is removed and put again
pub put_again : (k : List ℕ) (u : Tree) (ms : Members) → IsSorted ms → find k ms ≡ Some u → put k u (remove k ms) ≡ ms
put_again k u ms s h =
    callers.members_from_find (put k u (remove k ms)) ms (callers.sorted_put k u (remove k ms) (callers.sorted_remove k ms s)) s
    (λ q. callers.find_put q k u (remove k ms) ∙ by q (bytes_eq q k) refl)
  where
    by : (q : List ℕ) (b : Bool) → bytes_eq q k ≡ b → cond b (Some u) (find q (remove k ms)) ≡ find q ms
    by q true e = sym (ap (λ x. find x ms) ((bytes_eq-Decides q k).0 e) ∙ h)
    by q false e = callers.find_remove q k ms ∙ ap (λ b. cond b None (find q ms)) e

pub pushed_is_last : (vs : List JsonValue) (v : JsonValue) → array (items_view (vs ++ v ∷ [])) ≡ array (with_last (items_view vs) (view v))
pushed_is_last vs v = ap array (callers.items_view_push vs v)

pub item_written : (v : JsonValue) (l : Vec JsonValue Global) (i j : ℕ) (w : JsonValue) → array_part v ≡ Some l
    → tree_at (view (made.Array (with_item l i w))) j ≡ tree_at (with_tree_at (view v) i (view w)) j
item_written v l i j w held = ap (λ t. tree_at t j) (callers.tree_with_item v l i w held)

pub member_written : (v : JsonValue) (m n : JsonMap) (k : String Global) (w : JsonValue) → object_part v ≡ Some m
    → IsSome (get_by_text m (string_bytes k))
    → UpdatesBy string_eq (λ q. bytes_eq (string_bytes k) (string_bytes q)) m n (Some w)
    → view (made.Object n) ≡ with_tree_at_key (view v) (text k) (view w)
member_written v m n k w held there h = callers.tree_with_member v m n (string_bytes k) w (callers.IsUtf8-string_bytes k) held there h.0

-- ---- a found part put back

pub item_put_back : (v x : JsonValue) (i : ℕ) → item_at v i ≡ Some x → with_tree_at (view v) i (view x) ≡ view v
item_put_back v x i h = callers.with_tree_at_back (view v) i (view x) (callers.tree_at_view v i ∙ ap (option_map view) h)

pub member_put_back : (v x : JsonValue) (k : String Global) → member_at v (string_bytes k) ≡ Some x
    → with_tree_at_key (view v) (text k) (view x) ≡ view v
member_put_back v x k h = callers.with_tree_at_key_back (view v) (text k) (view x) (callers.view_IsTree v) (member_is_there v x k h)

-- ---- texts

pub compact_is_accepted : (v : JsonValue) → IsAccepted None (compact (view v))
compact_is_accepted v = (view v, callers.compact_read_back v)

pub one_compact : (v w : JsonValue) → encode_utf8_all (compact (view v)) ≡ encode_utf8_all (compact (view w))
    → compact (view v) ≡ compact (view w)
one_compact v w h = sym (callers.chars_compact v) ∙ (ap chars h ∙ callers.chars_compact w)

-- a string that was written from a value has the value's bytes
pub written_bytes : (s : String Global) (v : JsonValue) → text s ≡ compact (view v) → string_bytes s ≡ encode_utf8_all (compact (view v))
written_bytes s v h = callers.bytes_compact s v h

-- values with one text are equal
pub same_if_text : (v w : JsonValue) → bytes_eq (encode_utf8_all (compact (view v))) (encode_utf8_all (compact (view w))) ≡ true
    → same_tree v w ≡ true
same_if_text v w h = sym (callers.equal_compact v w) ∙ h

-- three texts, one after the other
pub three_appended : (old mid late new : Option (List ℕ)) (a b c : List ℕ) → Written old mid a [] → Written mid late b []
    → Written late new c [] → Appends old new ((a ++ b) ++ c)
three_appended old mid late new a b c h k l = callers.Appends-trans old late new (a ++ b) c (callers.Appends_both old mid late a b h k)
    (callers.Appends_written late new c l)

-- nothing after a text
pub nothing_more : (old new : Option (List ℕ)) (a : List ℕ) → Written old new a [] → Appends old new (a ++ [])
nothing_more old new a h = callers.Appends-trans old new new a [] (callers.Appends_written old new a h) (callers.Appends_nothing new)

-- a text of which nothing is written
pub not_begun : (old : Option (List ℕ)) (a b : List ℕ) → a ≡ b → Written old old a b
not_begun old a b e = callers.written_none old a b e

-- a text that ends in its first piece
pub part_of_the_first : (old new : Option (List ℕ)) (piece rest : List ℕ) → WrittenPart old new piece → WrittenPart old new (piece ++ rest)
part_of_the_first old new piece rest k = callers.stops rest k begins

-- a text in two steps
pub in_two_steps : (old mid new : Option (List ℕ)) (bytes rest : List ℕ) → Written old mid bytes rest → Written mid new rest []
    → Written old new bytes []
in_two_steps old mid new bytes rest h k = callers.written_then rest [] h k

pub string_is_scalars : (s : String Global) → All IsScalar (text s)
string_is_scalars s = callers.all_are_scalars (text s) (callers.text_scalars s)

pub slice_is_scalars : (bs : List ℕ) → IsUtf8 bs → All IsScalar (chars bs)
slice_is_scalars bs u = callers.all_are_scalars (chars bs) (callers.scalars-chars bs u)
