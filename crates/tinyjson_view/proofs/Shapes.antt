-- Trees by their kinds and their parts, and trees of values.
use Rattle.std.proofs.Common.{◌≡◌, ◌∷◌, ℕ, List, Bool, true, false, Option, Some, None, is_some, option_map, String, Global, bytes_eq}
use Rattle.std.proofs.Common.{encode_utf8_all, string_bytes, Ordering, Less, Equal, Greater, Result, Ok, Err, Vec, IfOk, refl, sym, ap, ◌∙◌, subst}
use Rattle.std.specs.declared.alloc.AllocError.{AllocError}
use Rattle.std.proofs.lemmas.Bool.Decides.{same_from_decides}
use Rattle.std.proofs.lemmas.Slice.Eq.{bytes_eq-Decides}
use Rattle.std.proofs.lemmas.Str.{encodes-chars, IsUtf8-string_bytes}
use Rattle.std.specs.Str.{chars}
use mathlib.Core.Bool.{Bool-set}
use mathlib.Core.HLevel.{⊥_prop}
use mathlib.Core.Logic.{∥∥₁_elim, ∥∥₁_map}
use Rattle.tinyjson.proofs.Callers.{encoded_chars, text_of_scalars, one_compact, view_IsTree, members_view_IsSorted}
use Rattle.tinyjson.specs.Access.{JsonMap}
use Rattle.tinyjson.specs.Equality.{tree_eq, tree_eq_Decides}
use Rattle.tinyjson.specs.Index.{tree_at_key}
use Rattle.tinyjson.specs.Text.{compact}
use Rattle.tinyjson.specs.View.{text, members_view}
use Rattle.tinyjson_document.proofs.Callers.{node_sound}
use Rattle.tinyjson_document.specs.Parts.{items_in, members_in, number_in, string_in}
use Rattle.tinyjson_grammar.specs.Kind.{kind_of}
use Rattle.tinyjson_grammar.specs.Soundness.{IsTree, IsSorted, IsBelow}
use Rattle.tinyjson_grammar.specs.Tree.{Tree, number, string, array, object, find, key_cmp, Members, no_members, member}
use Rattle.tinyjson_grammar.specs.declared.kind.JsonKind.TheVariants as kind
use Rattle.tinyjson.specs.Number.{Decimal}
use Rattle.tinyjson_view.specs.Views.{tree_of, members_of}
use Rattle.tinyjson_view.specs.declared.view.MemberView.{MemberView}
use Rattle.tinyjson_view.specs.declared.view.ValueView.{ValueView}
use Rattle.tinyjson_view.specs.declared.view.ValueView.TheVariants.{InDocument, InValue}

pub array_is : (t : Tree) → kind.Array ≡ kind_of t → array (items_in t) ≡ t
array_is (array ts) k = refl
array_is _ k = absurd cc

pub object_is : (t : Tree) → kind.Object ≡ kind_of t → object (members_in t) ≡ t
object_is (object ms) k = refl
object_is _ k = absurd cc

pub number_is : (t : Tree) (d : Decimal) → Some d ≡ number_in t → number d ≡ t
number_is (number e) d h = let same : d ≡ e = cc in ap number same
number_is _ d h = absurd cc

pub string_is : (t : Tree) (cs : List ℕ) → Some cs ≡ string_in t → string cs ≡ t
string_is (string ds) cs h = let same : cs ≡ ds = cc in ap string same
string_is _ cs h = absurd cc

pub key_at : (t : Tree) (k : List ℕ) → tree_at_key t k ≡ find k (members_in t)
key_at (object ms) k = refl
key_at _ k = refl

-- ---- equality

pub tree_eq_sym : (t u : Tree) → tree_eq t u ≡ tree_eq u t
tree_eq_sym t u = by (tree_eq t u) (tree_eq u t) refl refl
  where
    by : (a b : Bool) → tree_eq t u ≡ a → tree_eq u t ≡ b → a ≡ b
    by true true e h = refl
    by false false e h = refl
    by true false e h = sym ((tree_eq_Decides u t).1 (sym ((tree_eq_Decides t u).0 e))) ∙ h
    by false true e h = sym e ∙ (tree_eq_Decides t u).1 (sym ((tree_eq_Decides u t).0 h))

-- ---- a part that there may be

pub some_mapped : {A B : Type 0} (f : A → B) (o : Option A) → is_some o ≡ is_some (option_map f o)
some_mapped f None = refl
some_mapped f (Some x) = refl

-- ---- trees of values

pub value_sound : (v : ValueView) → ∥ IsTree (tree_of v) ∥₁
value_sound (InDocument n) = node_sound n
value_sound (InValue v) = ∣ view_IsTree v.now ∣₁

-- a string with the characters of the compact text has its bytes
pub view_compact : (s : String Global) (v : ValueView) → text s ≡ compact (tree_of v) → string_bytes s ≡ encode_utf8_all (compact (tree_of v))
view_compact s v h = sym (encodes-chars (string_bytes s) (IsUtf8-string_bytes s)) ∙ ap encode_utf8_all h

chars_compact : (t : Tree) → IsTree t → chars (encode_utf8_all (compact t)) ≡ compact t
chars_compact t g = encoded_chars (compact t) (text_of_scalars None tt 0 t g)

trees_compact : (t u : Tree) → IsTree t → IsTree u → bytes_eq (encode_utf8_all (compact t)) (encode_utf8_all (compact u)) ≡ tree_eq t u
trees_compact t u g h =
    let trees = tree_eq_Decides t u in
    let bytes = bytes_eq-Decides (encode_utf8_all (compact t)) (encode_utf8_all (compact u)) in
    sym (same_from_decides _ _ trees (
      λ e. one_compact t u g h (sym (chars_compact t g) ∙ (ap chars (bytes.0 e) ∙ chars_compact u h)),
      λ e. bytes.1 (ap (λ x. encode_utf8_all (compact x)) e),
    ))

-- two values are equal exactly if the bytes of their compact texts are
pub views_compact : (v w : ValueView)
    → bytes_eq (encode_utf8_all (compact (tree_of v))) (encode_utf8_all (compact (tree_of w))) ≡ tree_eq (tree_of v) (tree_of w)
views_compact v w = ∥∥₁_elim (value_sound v) (Bool-set _ _) (λ g. ∥∥₁_elim (value_sound w) (Bool-set _ _) (λ h.
    trees_compact (tree_of v) (tree_of w) g h))

-- ---- members in the order of their keys

less_had : (o : Ordering) → ∥ o ≡ Less ∥₁ → o ≡ Less
less_had Less h = refl
less_had Equal h = absurd (∥∥₁_elim h ⊥_prop (λ g. absurd cc))
less_had Greater h = absurd (∥∥₁_elim h ⊥_prop (λ g. absurd cc))

below_had : (k : List ℕ) (ms : Members) → ∥ IsBelow k ms ∥₁ → IsBelow k ms
below_had k no_members h = tt
below_had k (member l u ms) h = less_had (key_cmp k l) h

sorted_had : (ms : Members) → ∥ IsSorted ms ∥₁ → IsSorted ms
sorted_had no_members h = tt
sorted_had (member k t ms) h = (below_had k ms (∥∥₁_map h (λ g. g.0)), sorted_had ms (∥∥₁_map h (λ g. g.1)))

pub sorted_in : (t : Tree) → ∥ IsTree t ∥₁ → IsSorted (members_in t)
sorted_in (object ms) h = sorted_had ms (∥∥₁_map h (λ g. g.1))
sorted_in _ h = tt

pub listed_sorted : (x : Result (Vec MemberView Global) AllocError) (v : ValueView)
    → IfOk x (λ l. members_of l.items ≡ members_in (tree_of v)) → IfOk x (λ l. IsSorted (members_of l.items))
listed_sorted (Ok l) v h = subst IsSorted (sym h) (sorted_in (tree_of v) (value_sound v))
listed_sorted (Err e) v h = tt

pub map_sorted : (x : Result (Vec MemberView Global) AllocError) (m : JsonMap)
    → IfOk x (λ l. members_of l.items ≡ members_view m.entries) → IfOk x (λ l. IsSorted (members_of l.items))
map_sorted (Ok l) m h = subst IsSorted (sym h) (members_view_IsSorted m.entries)
map_sorted (Err e) m h = tt
