-- The members of a map, and a list of them that was sorted by the keys' bytes.
use Rattle.std.proofs.Common.{◌≡◌, ℕ, ◌+◌, ◌-◌, ◌≤◌, ◌++◌, reverse, take, drop, append-nil, length-append, length-take, length-drop, Bool}
use Rattle.std.proofs.Common.{false, cond, Option, Some, None, List, [], ◌∷◌, map, length, get_or, bytes_eq, refl, sym, ◌∙◌, ap, subst}
use Rattle.std.proofs.Common.{String, string_bytes, arith}
use borrow.Rule.Slice.PartMut.{put_mid, post_of}
use Rattle.std.specs.Borrow.{Bor}
use Rattle.std.proofs.Math.Seq.{take-append_seam, drop-append_seam}
use Rattle.std.specs.declared.alloc.Global.{Global}
use Rattle.std.specs.declared.cmp.Ordering.{Ordering}
use Rattle.std.specs.declared.cmp.Ordering.TheVariants.{Less, Equal, Greater}
use Rattle.std.specs.Ordering.{nat_cmp, match_ordering, is_lt, is_eq, eq_by_cmp, ordering_reverse}
use Rattle.std.specs.Cmp.Lexicographic.{slice_cmp, nat_list_eq_equiv}
use Rattle.std.specs.Str.{IsUtf8, chars}
use Rattle.std.specs.List.{All, IsDistinct, AllByRecursion}
use Rattle.std.specs.List.Sorted.{IsPermutation, IsStrictlySortedBy, IsSortedBy}
use Rattle.std.specs.Map.{keys_of, lookup}
use Rattle.std.specs.String.{string_eq}
use Rattle.std.proofs.lemmas.Cmp.{nat_list_cmp_total, eq_by_cmp_equiv}
use Rattle.std.proofs.lemmas.List.{length-map, length-reverse, get_or-reverse, reverse-append, drop_all, take_all}
use Rattle.std.proofs.lemmas.List.Elements.{All-nil, All-cons, All-head, All-tail}
use Rattle.std.proofs.lemmas.List.Sorted.{All-permutation, IsPermutation-map, IsPermutation-sym, IsPermutation-trans, IsPermutation-reverse}
use Rattle.std.proofs.lemmas.List.Sorted.{Contains-permutation, length_permutation}
use Rattle.std.proofs.lemmas.Map.Keys.{apart_from_distinct, IsDistinct-cons, IsDistinct-head, IsDistinct-tail, IsDistinct-IsPermutation}
use Rattle.std.proofs.lemmas.Map.Keys.{sorted_from_all_adjacent, sorted_head, sorted_tail}
use Rattle.std.proofs.lemmas.Map.Text.{is_eq-slice_cmp}
use Rattle.std.proofs.lemmas.Map.Views.{Contains-from_lookup, lookup-from_Contains}
use Rattle.std.proofs.lemmas.Slice.Eq.{bytes_eq-Decides}
use Rattle.std.proofs.lemmas.Str.{encodes-chars, IsUtf8-string_bytes}
use Rattle.std.proofs.Math.ListN.{get_or-map}
use Rattle.tinyjson_grammar.specs.Tree.{Tree, Members, member, no_members, put, find}
use Rattle.tinyjson_grammar.specs.Soundness.{IsBelow, IsSorted}
use Rattle.tinyjson.specs.View.{text, view, members_view}
use Rattle.tinyjson.specs.private.Sorted.{sorted_view, bytes_pair, now_pair}
use Rattle.tinyjson.specs.declared.value.JsonValue.{JsonValue}
use Rattle.tinyjson_grammar.proofs.Callers.{find_put, sorted_put, members_from_find}
use Rattle.tinyjson.proofs.Values.Entries.{text_eq}

abbrev pub Entry : Type 0
Entry = String Global × JsonValue

abbrev pub Pair : Type 0
Pair = Bor (List ℕ) × Bor JsonValue

abbrev pub bytes_cmp : List ℕ → List ℕ → Ordering
bytes_cmp = slice_cmp nat_cmp

-- the entries' keys differ however they are read
module _ {X : Type 0} (eq : List ℕ → List ℕ → Bool) (f : String Global → List ℕ) (v : JsonValue → X)
    (same : (s t : String Global) → eq (f s) (f t) ≡ string_eq s t) where
  abbrev read : List Entry → List (List ℕ × X)
  read es = map (λ (e : Entry). (f e.0, v e.1)) es

  apart_read : (k : String Global) (es : List Entry) → AllByRecursion (λ y. string_eq k y ≡ false) (keys_of es)
      → AllByRecursion (λ y. eq (f k) y ≡ false) (keys_of (read es))
  apart_read k [] h = tt
  apart_read k (e ∷ es) h = (same k e.0 ∙ h.0, apart_read k es h.1)

  distinct_read : (es : List Entry) → IsDistinct string_eq (keys_of es) → IsDistinct eq (keys_of (read es))
  unfolding IsDistinct
  distinct_read [] d = tt
  distinct_read (e ∷ es) d =
      IsDistinct-cons eq (f e.0) (keys_of (read es)) (apart_read e.0 es (IsDistinct-head string_eq e.0 (keys_of es) d))
      (distinct_read es (IsDistinct-tail string_eq e.0 (keys_of es) d))

-- ---- members as a list of keys and trees

abbrev Seen : Type 0
Seen = List ℕ × Tree

abbrev put_all : List Seen → Members
put_all [] = no_members
put_all (e ∷ es) = put e.0 e.1 (put_all es)

sorted_put_all : (es : List Seen) → IsSorted (put_all es)
sorted_put_all [] = tt
sorted_put_all (e ∷ es) = sorted_put e.0 e.1 (put_all es) (sorted_put_all es)

find_put_all : (q : List ℕ) (es : List Seen) → find q (put_all es) ≡ lookup (bytes_eq q) es
find_put_all q [] = refl
find_put_all q (e ∷ es) = find_put q e.0 e.1 (put_all es) ∙ ap (cond (bytes_eq q e.0) (Some e.1)) (find_put_all q es)

same_option : {X : Type 0} (a b : Option X) → ((x : X) → a ≡ Some x → b ≡ Some x) → ((x : X) → b ≡ Some x → a ≡ Some x) → a ≡ b
same_option None None f g = refl
same_option None (Some y) f g = g y refl
same_option (Some x) b f g = sym (f x refl)

carried : (es fs : List Seen) → IsDistinct bytes_eq (keys_of fs) → IsPermutation es fs → (q : List ℕ) (t : Tree)
    → lookup (bytes_eq q) es ≡ Some t → lookup (bytes_eq q) fs ≡ Some t
carried es fs d p q t h = lookup-from_Contains nat_list_eq_equiv q t fs d (Contains-permutation es fs (q, t) p
    (Contains-from_lookup (λ x y. (bytes_eq-Decides x y).0) q t es h))

-- members whose keys differ may be put in any order
put_all_permutation : (es fs : List Seen) → IsDistinct bytes_eq (keys_of es) → IsPermutation es fs → put_all es ≡ put_all fs
put_all_permutation es fs d p =
    let c = IsDistinct-IsPermutation bytes_eq nat_list_eq_equiv.symm (keys_of es) (keys_of fs) (IsPermutation-map (λ e. e.0) es fs p) d in
    members_from_find (put_all es) (put_all fs) (sorted_put_all es) (sorted_put_all fs) (λ q.
    find_put_all q es ∙ same_option _ _ (carried es fs c p q) (carried fs es d (IsPermutation-sym es fs p) q) ∙ sym (find_put_all q fs))

put_below : (k : List ℕ) (t : Tree) (ms : Members) → IsBelow k ms → put k t ms ≡ member k t ms
put_below k t no_members h = refl
put_below k t (member l u ms) h = ap (λ o. match_ordering o (member k t (member l u ms)) (member k t ms) (member l u (put k t ms))) h

-- ---- the pairs that were sorted

abbrev seen : List ℕ × JsonValue → Seen
seen p = (chars p.0, view p.1)

seen_bytes : (es : List Entry) → map seen (map bytes_pair es) ≡ map (λ (e : Entry). (text e.0, view e.1)) es
seen_bytes [] = refl
seen_bytes (e ∷ es) = ap (λ w. (text e.0, view e.1) ∷ w) (seen_bytes es)

put_all_entries : (es : List Entry) → put_all (map seen (map bytes_pair es)) ≡ members_view es
put_all_entries [] = refl
put_all_entries (e ∷ es) = ap (put (text e.0) (view e.1)) (put_all_entries es)

put_all_pairs : (ps : List Pair) → IsSorted (sorted_view ps) → put_all (map seen (map now_pair ps)) ≡ sorted_view ps
put_all_pairs [] s = refl
put_all_pairs (p ∷ ps) s = ap (put (chars p.0.now) (view p.1.now)) (put_all_pairs ps s.1)
    ∙ put_below (chars p.0.now) (view p.1.now) (sorted_view ps) s.0

abbrev pub key : Pair → List ℕ
key p = p.0.now

keys_now : (ps : List Pair) → keys_of (map now_pair ps) ≡ map key ps
keys_now [] = refl
keys_now (p ∷ ps) = ap (λ w. p.0.now ∷ w) (keys_now ps)

less_from : (o p : Ordering) → p ≡ ordering_reverse o → is_lt p ≡ false → is_eq o ≡ false → o ≡ Less
less_from Less p e h k = refl
less_from Equal p e h k = absurd (cc)
less_from Greater p e h k = absurd (let g = ap is_lt e in cc)

-- what a sort gives rises strictly where the keys differ
rises : (ps : List Pair) → IsDistinct (eq_by_cmp bytes_cmp) (map key ps) → IsSortedBy (λ a b. is_lt (bytes_cmp (key a) (key b))) ps
    → IsStrictlySortedBy bytes_cmp (map key ps)
rises [] d s = sorted_from_all_adjacent nat_list_cmp_total [] [] (λ k l. absurd (omega arith))
rises (p ∷ ps) d s =
    let ks = map key (p ∷ ps) in
    sorted_from_all_adjacent nat_list_cmp_total ks (key p) (λ k l.
    let len : length ks ≡ length (p ∷ ps) = length-map (p ∷ ps) key in
    let here = get_or-map key (p ∷ ps) k p in
    let there = get_or-map key (p ∷ ps) (k + 1) p in
    let apart = apart_from_distinct (eq_by_cmp bytes_cmp) ks k (k + 1) (key p) d (omega arith) l in
    let down = s k p (omega arith) (omega arith) in
    less_from _ (bytes_cmp (get_or ks (k + 1) (key p)) (get_or ks k (key p)))
    (nat_list_cmp_total.antisymm (get_or ks (k + 1) (key p)) (get_or ks k (key p))) (rw (here, there) down) apart)

below_next : (p : Pair) (ps : List Pair) → IsUtf8 (key p) → All IsUtf8 (map key ps)
    → AllByRecursion (λ y. bytes_cmp (key p) y ≡ Less) (map key ps) → IsBelow (chars (key p)) (sorted_view ps)
below_next p [] u us h = tt
below_next p (q ∷ ps) u us h = (λ i. bytes_cmp (encodes-chars (key p) u i)
    (encodes-chars (key q) (All-head IsUtf8 (key q) (map key ps) us) i)) ∙ h.0

in_order : (ps : List Pair) → All IsUtf8 (map key ps) → IsStrictlySortedBy bytes_cmp (map key ps) → IsSorted (sorted_view ps)
in_order [] us s = tt
in_order (p ∷ ps) us s =
    let others = All-tail IsUtf8 (key p) (map key ps) us in (
      below_next p ps (All-head IsUtf8 (key p) (map key ps) us) others (sorted_head bytes_cmp (key p) (map key ps) s),
      in_order ps others (sorted_tail bytes_cmp (key p) (map key ps) s),
    )

keys_utf8 : (es : List Entry) → All IsUtf8 (keys_of (map bytes_pair es))
keys_utf8 [] = All-nil IsUtf8
keys_utf8 (e ∷ es) = All-cons IsUtf8 (string_bytes e.0) (keys_of (map bytes_pair es)) (IsUtf8-string_bytes e.0) (keys_utf8 es)

-- a list that falls, from its end on
pub sorted_back : (ps : List Pair) → IsSortedBy (λ a b. is_lt (bytes_cmp (key b) (key a))) ps
    → IsSortedBy (λ a b. is_lt (bytes_cmp (key a) (key b))) (reverse ps)
sorted_back ps s k d low h =
    let n : length (reverse ps) ≡ length ps = length-reverse ps in
    let j = length ps - 1 - (k + 1) in
    let here : length ps - 1 - k ≡ j + 1 = omega arith in
    rw (get_or-reverse ps (k + 1) d (omega arith), get_or-reverse ps k d (omega arith), here) (s j d (omega arith) (omega arith))

-- the sorted pairs are the map's members
pub sorted_members_view : (es : List Entry) (ps : List Pair)
    → IsDistinct string_eq (keys_of es) → IsPermutation (map bytes_pair es) (map now_pair ps)
    → IsSortedBy (λ a b. is_lt (bytes_cmp (key a) (key b))) ps → sorted_view ps ≡ members_view es
sorted_members_view es ps d p s =
    let q : IsPermutation (keys_of (map bytes_pair es)) (map key ps) = subst (IsPermutation (keys_of (map bytes_pair es))) (keys_now ps)
    (IsPermutation-map (λ e. e.0) (map bytes_pair es) (map now_pair ps) p) in
    let bytes = distinct_read (eq_by_cmp bytes_cmp) string_bytes (λ v. v) (λ s t. is_eq-slice_cmp (string_bytes s) (string_bytes t)) es d in
    let distinct = IsDistinct-IsPermutation (eq_by_cmp bytes_cmp) (eq_by_cmp_equiv nat_list_cmp_total).symm (keys_of (map bytes_pair es))
    (map key ps) q bytes in
    let utf8 = All-permutation IsUtf8 (keys_of (map bytes_pair es)) (map key ps) q (keys_utf8 es) in
    let seen_distinct = subst (λ w. IsDistinct bytes_eq (keys_of w)) (sym (seen_bytes es))
    (distinct_read bytes_eq text view text_eq es d) in
    sym (put_all_pairs ps (in_order ps utf8 (rises ps distinct s)))
    ∙ sym (put_all_permutation (map seen (map bytes_pair es)) (map seen (map now_pair ps)) seen_distinct
    (IsPermutation-map seen (map bytes_pair es) (map now_pair ps) p))
    ∙ put_all_entries es

-- ---- members gathered after others

-- a list whose end was rewritten
rebuilt : {X : Type 0} (len s : ℕ) (xs ys : List X) → len ≡ length xs → s ≤ length xs → length ys ≡ length xs - s
    → take len (put_mid s (length xs - s) xs ys ++ drop (length (put_mid s (length xs - s) xs ys)) xs) ≡ take s xs ++ ys
rebuilt len s xs ys l h n =
    let none : post_of s (length xs - s) xs ≡ [] = drop_all (length xs - s) (drop s xs) (omega (arith, length-drop s xs)) in
    let joined : put_mid s (length xs - s) xs ys ≡ take s xs ++ ys = ap (λ w. take s xs ++ (ys ++ w)) none
    ∙ ap (λ w. take s xs ++ w) (append-nil ys) in
    let size : len ≡ length (take s xs ++ ys) = omega (arith, length-append (take s xs) ys, length-take s xs) in
    ap (λ w. take len (w ++ drop (length w) xs)) joined ∙ ap (λ m. take m ((take s xs ++ ys) ++ drop (length (take s xs ++ ys)) xs)) size
    ∙ take-append_seam (take s xs ++ ys) (drop (length (take s xs ++ ys)) xs)

pub regathered : (len s : ℕ) (old xs ds ys : List Pair) → ds ≡ xs → s ≡ length old → len ≡ length xs → take (length old) xs ≡ old
    → length ys ≡ length (take (length ds - s) (drop s ds))
    → take len (put_mid s (length ds - s) ds ys ++ drop (length (put_mid s (length ds - s) ds ys)) xs) ≡ old ++ ys
regathered len s old xs ds ys e f l b n =
    let size = ap length e in
    let fits : s ≤ length xs = omega (arith, ap length b, length-take (length old) xs) in
    let m : length ys ≡ length xs - s = omega (arith, n, length-take (length ds - s) (drop s ds), length-drop s ds, size) in
    subst (λ z. take len (put_mid s (length z - s) z ys ++ drop (length (put_mid s (length z - s) z ys)) xs) ≡ old ++ ys) (sym e)
    (rebuilt len s xs ys l fits m ∙ ap (λ w. w ++ ys) (ap (λ k. take k xs) f ∙ b))

pub regathered_IsPermutation : (s : ℕ) (old xs ds ys : List Pair) → ds ≡ xs → s ≡ length old
    → IsPermutation (take (length ds - s) (drop s ds)) ys → IsPermutation (drop (length old) xs) ys
regathered_IsPermutation s old xs ds ys e f p =
    subst (λ w. IsPermutation w ys) (take_all (length ds - s) (drop s ds) (omega (arith, length-drop s ds)) ∙ ap (λ z. drop s z) e
    ∙ ap (λ k. drop k xs) f) p

module _ (es : List Entry) (old added ys : List Pair) (same : map now_pair added ≡ map bytes_pair es) (p : IsPermutation added ys) where
  counted : length es ≡ length (reverse ys)
  counted = sym (length-map es bytes_pair) ∙ ap length (sym same) ∙ length-map added now_pair ∙ sym (length_permutation added ys p)
      ∙ sym (length-reverse ys)

  pub gathered_members : IsDistinct string_eq (keys_of es) → IsSortedBy (λ a b. is_lt (bytes_cmp (key b) (key a))) ys
      → sorted_view (take (length es) (reverse (old ++ ys))) ≡ members_view es
  gathered_members d s =
      let q = IsPermutation-map now_pair added (reverse ys) (IsPermutation-trans added ys (reverse ys) p (IsPermutation-reverse ys)) in
      ap (λ w. sorted_view (take (length es) w)) (reverse-append old ys)
      ∙ ap (λ n. sorted_view (take n (reverse ys ++ reverse old))) counted
      ∙ ap sorted_view (take-append_seam (reverse ys) (reverse old))
      ∙ sorted_members_view es (reverse ys) d (subst (λ w. IsPermutation w (map now_pair (reverse ys))) same q) (sorted_back ys s)

  pub gathered_others : drop (length es) (reverse (old ++ ys)) ≡ reverse old
  gathered_others = ap (drop (length es)) (reverse-append old ys) ∙ ap (λ n. drop n (reverse ys ++ reverse old)) counted
      ∙ drop-append_seam (reverse ys) (reverse old)
