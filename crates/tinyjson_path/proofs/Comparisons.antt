-- What is known of a tree by its kind, and by its number or its string.
use Rattle.std.proofs.Common.{◌≡◌, ◌≢◌, ℕ, Bool, true, false, List, [], Option, Some, None, length, refl, sym, ap, ap₂, ◌∙◌}
use Rattle.std.proofs.lemmas.Str.{encodes-chars}
use Rattle.std.specs.Cmp.Lexicographic.{slice_cmp}
use Rattle.std.specs.Ordering.{nat_cmp, is_lt}
use Rattle.std.specs.Str.{IsUtf8, chars}
use Rattle.tinyjson.specs.Tree.{Tree, null, boolean, number, string, array, object, key_cmp, Items, no_items, Members, no_members}
use Rattle.tinyjson.specs.View.{view}
use Rattle.tinyjson.specs.declared.value.JsonValue.{JsonValue}
use Rattle.tinyjson.specs.declared.value.JsonValue.TheVariants as is
use Rattle.tinyjson.specs.Kind.{kind_of}
use Rattle.tinyjson.specs.JsonKind.TheVariants as kind
use Rattle.tinyjson_document.specs.Parts.{number_in, string_in, members_in, items_in as listed_items, size}
use Rattle.tinyjson_path.specs.Comparing.{size_of, is_tree_less}
use Rattle.tinyjson_path.specs.Nodes.{Step, Part, items_from, members_at, children}
use Rattle.tinyjson_path.specs.Seen.{numbers_less, texts_less}
use Rattle.tinyjson_path.specs.Selecting.{items_in}

-- ---- the order

pub by_numbers : (t u : Tree) → kind.Number ≡ kind_of t → numbers_less (number_in t) (number_in u) ≡ is_tree_less t u
by_numbers (number d) (number e) h = refl
by_numbers (number d) _ h = refl
by_numbers _ u h = absurd cc

pub by_strings : (t u : Tree) → kind.String ≡ kind_of t → texts_less (string_in t) (string_in u) ≡ is_tree_less t u
by_strings (string k) (string l) h = refl
by_strings (string k) _ h = refl
by_strings _ u h = absurd cc

pub by_neither : (t u : Tree) → kind.Number ≢ kind_of t → kind.String ≢ kind_of t → false ≡ is_tree_less t u
by_neither (number d) u n s = absurd (n refl)
by_neither (string k) u n s = absurd (s refl)
by_neither _ u n s = refl

-- strings are ordered by their bytes
pub strings_less : (a b : List ℕ) → IsUtf8 a → IsUtf8 b → is_lt (slice_cmp nat_cmp a b) ≡ is_lt (key_cmp (chars a) (chars b))
strings_less a b u w = ap₂ (λ x y. is_lt (slice_cmp nat_cmp x y)) (sym (encodes-chars a u)) (sym (encodes-chars b w))

-- ---- sizes

pub characters_counted : (t : Tree) (cs : List ℕ) (n : ℕ) → Some cs ≡ string_in t → n ≡ length cs → Some n ≡ size_of t
characters_counted (string ds) cs n e h = let same : cs ≡ ds = cc in ap Some (h ∙ ap length same)
characters_counted _ cs n e h = absurd cc

pub string_there : {A : Type 0} (t : Tree) → kind.String ≡ kind_of t → None ≡ string_in t → A
string_there (string ds) k e = absurd cc
string_there _ k e = absurd cc

pub array_size : (t : Tree) → kind.Array ≡ kind_of t → Some (size t) ≡ size_of t
array_size (array ts) k = refl
array_size _ k = absurd cc

pub object_size : (t : Tree) → kind.Object ≡ kind_of t → Some (size t) ≡ size_of t
object_size (object ms) k = refl
object_size _ k = absurd cc

pub no_size : (t : Tree) → kind.String ≢ kind_of t → kind.Array ≢ kind_of t → kind.Object ≢ kind_of t → None ≡ size_of t
no_size (string cs) s a o = absurd (s refl)
no_size (array ts) s a o = absurd (a refl)
no_size (object ms) s a o = absurd (o refl)
no_size _ s a o = refl

pub array_items : (t : Tree) → kind.Array ≡ kind_of t → size t ≡ items_in t
array_items (array ts) k = refl
array_items _ k = absurd cc

pub no_array : (t : Tree) → kind.Array ≢ kind_of t → 0 ≡ items_in t
no_array (array ts) k = absurd (k refl)
no_array _ k = refl

-- ---- children

pub array_children : (path : List Step) (t : Tree) → kind.Array ≡ kind_of t → items_from path 0 (listed_items t) ≡ children path t
array_children path (array ts) k = refl
array_children path _ k = absurd cc

pub object_children : (path : List Step) (t : Tree) → kind.Object ≡ kind_of t → members_at path (members_in t) ≡ children path t
object_children path (object ms) k = refl
object_children path _ k = absurd cc

pub no_children : (path : List Step) (t : Tree) → kind.Array ≢ kind_of t → kind.Object ≢ kind_of t → [] ≡ children path t
no_children path (array ts) a o = absurd (a refl)
no_children path (object ms) a o = absurd (o refl)
no_children path _ a o = refl
