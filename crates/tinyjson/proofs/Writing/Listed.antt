-- The members of a map in a list of references to keys and values, sorted by the keys' bytes.
use Rattle.std.proofs.Common.{◌≡◌, ℕ, ◌+◌, List, [], ◌∷◌, map, length, get_or, refl, sym, ◌∙◌, ap, subst, string_bytes, String, Global}
use Rattle.std.proofs.Common.{arith}
use Rattle.std.specs.Borrow.{Bor}
use Rattle.std.specs.List.{IsDistinct}
use Rattle.std.specs.List.Sorted.{IsPermutation, IsSortedBy}
use Rattle.std.specs.Map.{keys_of}
use Rattle.std.specs.Ordering.{is_lt}
use Rattle.std.specs.String.{string_eq}
use Rattle.std.proofs.lemmas.List.{get_or-map, length-map}
use Rattle.std.proofs.lemmas.List.Sorted.{IsPermutation-map}
use Rattle.tinyjson.specs.View.{view, text, members_view, members_listed}
use Rattle.tinyjson.specs.private.Sorted.{sorted_view, bytes_pair, now_pair, listed_pair}
use Rattle.tinyjson.specs.declared.value.JsonValue.{JsonValue}
use Rattle.tinyjson_grammar.specs.Tree.{member}
use Rattle.tinyjson.proofs.Writing.Sorted.{Entry, Pair, bytes_cmp, key, sorted_members_view}

abbrev pub Lent : Type 0
Lent = Bor (String Global) × Bor JsonValue

abbrev pub key_bytes : Lent → List ℕ
key_bytes e = string_bytes e.0.now

-- with the key's bytes in place of the key
abbrev as_pair : Lent → Pair
as_pair e = (record { ref_ptr = e.0.ref_ptr; now = string_bytes e.0.now }, e.1)

listed_pairs : (es : List Lent) → sorted_view (map as_pair es) ≡ members_listed es
listed_pairs [] = refl
listed_pairs (e ∷ es) = ap (member (text e.0.now) (view e.1.now)) (listed_pairs es)

now_pairs : (es : List Lent) → map now_pair (map as_pair es) ≡ map listed_pair es
now_pairs [] = refl
now_pairs (e ∷ es) = ap (λ w. listed_pair e ∷ w) (now_pairs es)

sorted_pairs : (es : List Lent) → IsSortedBy (λ a b. is_lt (bytes_cmp (key_bytes a) (key_bytes b))) es
    → IsSortedBy (λ a b. is_lt (bytes_cmp (key a) (key b))) (map as_pair es)
sorted_pairs [] s k d low h = absurd (omega arith)
sorted_pairs (e ∷ es) s k d low h =
    let n : length (map as_pair (e ∷ es)) ≡ length (e ∷ es) = length-map (e ∷ es) as_pair in
    let there : get_or (map as_pair (e ∷ es)) (k + 1) d ≡ as_pair (get_or (e ∷ es) (k + 1) e) =
    get_or-map as_pair (e ∷ es) (k + 1) e d (omega arith) in
    let here : get_or (map as_pair (e ∷ es)) k d ≡ as_pair (get_or (e ∷ es) k e) = get_or-map as_pair (e ∷ es) k e d (omega arith) in
    ap (λ p. is_lt (bytes_cmp (key p) (key (get_or (map as_pair (e ∷ es)) k d)))) there
    ∙ (ap (λ p. is_lt (bytes_cmp (key_bytes (get_or (e ∷ es) (k + 1) e)) (key p))) here ∙ s k e (omega arith) (omega arith))

-- the sorted list has the map's members
pub members_listed_sorted : (es : List Entry) (xs ys : List Lent)
    → IsDistinct string_eq (keys_of es) → map listed_pair xs ≡ map bytes_pair es → IsPermutation xs ys
    → IsSortedBy (λ a b. is_lt (bytes_cmp (key_bytes a) (key_bytes b))) ys → members_listed ys ≡ members_view es
members_listed_sorted es xs ys d same p s =
    let q : IsPermutation (map bytes_pair es) (map now_pair (map as_pair ys))
    = subst (λ w. IsPermutation w (map now_pair (map as_pair ys))) same
    (subst (IsPermutation (map listed_pair xs)) (sym (now_pairs ys)) (IsPermutation-map listed_pair xs ys p)) in
    sym (listed_pairs ys) ∙ sorted_members_view es (map as_pair ys) d q (sorted_pairs ys s)
