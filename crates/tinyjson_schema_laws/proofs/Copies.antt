-- What is found in the `$defs` of a bundled document with copies: each copy at its own key, and else what was there.
use Rattle.std.proofs.Common.{◌≡◌, ◌≢◌, ℕ, zero, suc, ◌+◌, ◌<◌, ◌≤◌, ◌^◌, Bool, true, false, ◌&&◌, List, [], ◌∷◌, Option, Some, None}
use Rattle.std.proofs.Common.{cond, refl, sym, ap, ◌∙◌, bytes_eq, length, replicate, encode_utf8_all, chars, arith}
use Rattle.std.proofs.Common.{nat_lt, length-append, ltb-true, ltb-false}
use Rattle.std.proofs.lemmas.Fmt.{decimal_injective, IsAscii-decimal}
use Rattle.std.proofs.lemmas.List.{append_cancel_left, length-replicate}
use Rattle.std.proofs.lemmas.Slice.Eq.{bytes_eq-Decides}
use Rattle.std.proofs.lemmas.Str.{length-le-encodes, chars-IsAscii, IsAscii-append, IsUtf8-from_ascii}
use Rattle.std.specs.Fmt.{decimal}
use Rattle.std.specs.Prelude.{option_and_then}
use Rattle.std.specs.Str.{IsAscii, IsUtf8}
use Rattle.tinyjson.proofs.Callers.{find_put_other, find_put_same}
use Rattle.tinyjson.specs.Tree.{Tree, Members, no_members, member, find}
use Rattle.tinyjson_schema_bundle.specs.Bundles.{put_some}
use Rattle.tinyjson_schema_bundle.specs.Scopes.{Reached, is_same, place_in_list, longer, longest, letters_above, copy_key, put_copies}

-- ---- keys that are longer than the others

pub longer_most : (n l : ℕ) (b : Bool) → nat_lt n l ≡ b → (n ≤ cond b l n) × (l ≤ cond b l n)
longer_most n l true e = (omega (arith, ltb-true n l e), omega arith)
longer_most n l false e = (omega arith, omega (arith, ltb-false n l e))

longest_from : (ms : Members) (n : ℕ) → n ≤ longest ms n
longest_from no_members n = omega arith
longest_from (member k w ms) n = let l : ℕ = length (encode_utf8_all k) in
    omega (arith, (longer_most n l (nat_lt n l) refl).0, longest_from ms (longer n l))

-- the key of a member
pub found_short : (k : List ℕ) (v : Tree) (ms : Members) (n : ℕ) → find k ms ≡ Some v → length (encode_utf8_all k) ≤ longest ms n
found_short k v no_members n e = absurd (let none : None ≡ Some v = e in cc)
found_short k v (member l u ms) n e = by (found_short k v ms (longer n (length (encode_utf8_all l)))) (bytes_eq k l) refl e
  where
    by : (find k ms ≡ Some v → length (encode_utf8_all k) ≤ longest ms (longer n (length (encode_utf8_all l)))) → (b : Bool) → bytes_eq k l
        ≡ b → cond b (Some u) (find k ms) ≡ Some v
        → length (encode_utf8_all k) ≤ longest ms (longer n (length (encode_utf8_all l)))
    by later true g h =
        let same : k ≡ l = (bytes_eq-Decides k l).0 g in
        let i : ℕ = length (encode_utf8_all l) in
        omega (arith, ap (λ x. length (encode_utf8_all x)) same, (longer_most n i (nat_lt n i) refl).1, longest_from ms (longer n i))
    by later false g h = later h

-- the first state in the list that is the same
abbrev pub listed : List Reached → Reached → Option Reached
listed [] s = None
listed (t ∷ ts) s = cond (is_same t.0 s.0 && bytes_eq t.1 s.1) (Some t) (listed ts s)

replicate_ascii : (n : ℕ) → IsAscii (replicate n 122)
replicate_ascii zero i = omega arith
replicate_ascii (suc n) zero = omega arith
replicate_ascii (suc n) (suc i) = replicate_ascii n i

module _ (most : ℕ) where
  abbrev z : List ℕ
  z = letters_above most

  pub key_utf8 : (i : ℕ) → i < 2 ^ 64 → IsUtf8 (copy_key z i)
  key_utf8 i h = IsUtf8-from_ascii (copy_key z i) (IsAscii-append z (decimal i) (replicate_ascii (suc most)) (IsAscii-decimal i h))

  -- the key of a copy
  pub key_text : (i : ℕ) → i < 2 ^ 64 → chars (copy_key z i) ≡ copy_key z i
  key_text i h = chars-IsAscii (copy_key z i) (IsAscii-append z (decimal i) (replicate_ascii (suc most)) (IsAscii-decimal i h))

  pub key_one : (i j : ℕ) → i < 2 ^ 64 → j < 2 ^ 64 → chars (copy_key z i) ≡ chars (copy_key z j) → i ≡ j
  key_one i j h g e = decimal_injective i j h g (append_cancel_left z (decimal i) (decimal j) (sym (key_text i h) ∙ (e ∙ key_text j g)))

  pub key_long : (i : ℕ) → i < 2 ^ 64 → most < length (encode_utf8_all (chars (copy_key z i)))
  key_long i h = omega (
    arith,
    ap length (key_text i h),
    length-le-encodes (chars (copy_key z i)),
    length-append z (decimal i),
    length-replicate {A = ℕ} (suc most) 122,
  )

  -- no key that has at most as many bytes
  pub key_new : (k : List ℕ) (i : ℕ) → i < 2 ^ 64 → length (encode_utf8_all k) ≤ most → k ≢ chars (copy_key z i)
  key_new k i h l e = omega (arith, key_long i h, ap (λ x. length (encode_utf8_all x)) e)

  module _ (copy : Reached → Option Tree) where
    some_other : (k l : List ℕ) (o : Option Tree) (ms : Members) → k ≢ l → find k (put_some l o ms) ≡ find k ms
    some_other k l None ms h = refl
    some_other k l (Some v) ms h = find_put_other k l v ms h

    -- what is at another key than those of the copies
    pub other_found : (ss : List Reached) (i : ℕ) (k : List ℕ) (ms : Members) → ((j : ℕ) → i ≤ j → j < i + length ss
        → k ≢ chars (copy_key z j))
        → find k (put_copies copy z i ss ms) ≡ find k ms
    other_found [] i k ms h = refl
    other_found (s ∷ ss) i k ms h =
        other_found ss (suc i) k (put_some (chars (copy_key z i)) (copy s) ms) (λ j a b. h j (omega (arith, a)) (omega (arith, b)))
        ∙ some_other k (chars (copy_key z i)) (copy s) ms (h i (omega arith) (omega arith))

    pub short_found : (ss : List Reached) (k : List ℕ) (ms : Members) → length ss < 2 ^ 64 → length (encode_utf8_all k) ≤ most
        → find k (put_copies copy z 0 ss ms) ≡ find k ms
    short_found ss k ms l h = other_found ss 0 k ms (λ j a b. key_new k j (omega (arith, b, l)) h)

    pub some_here : (k : List ℕ) (o : Option Tree) (ms : Members) → find k ms ≡ None → find k (put_some k o ms) ≡ o
    some_here k None ms h = h
    some_here k (Some v) ms h = find_put_same k v ms

    -- what is at the key of a copy
    copy_from : (ss : List Reached) (i : ℕ) (s : Reached) (ms : Members) → i + length ss < 2 ^ 64
        → ((j : ℕ) → i ≤ j → j < 2 ^ 64 → find (chars (copy_key z j)) ms ≡ None)
        → find (chars (copy_key z (i + place_in_list ss s))) (put_copies copy z i ss ms) ≡ option_and_then copy (listed ss s)
    copy_from [] i s ms l h = h (i + 0) (omega arith) (omega (arith, l))
    copy_from (t ∷ ss) i s ms l h = by (copy_from ss (suc i) s (put_some (chars (copy_key z i)) (copy t) ms) (omega (arith, l)))
        (is_same t.0 s.0 && bytes_eq t.1 s.1) refl
      where
        more : Members
        more = put_some (chars (copy_key z i)) (copy t) ms

        next : (j : ℕ) → suc i ≤ j → j < 2 ^ 64 → find (chars (copy_key z j)) more ≡ None
        next j a b = some_other (chars (copy_key z j)) (chars (copy_key z i)) (copy t) ms
            (λ e. omega (arith, a, key_one j i b (omega (arith, l)) e)) ∙ h j (omega (arith, a)) b

        by : (((j : ℕ) → suc i ≤ j → j < 2 ^ 64 → find (chars (copy_key z j)) more ≡ None)
            → find (chars (copy_key z (suc i + place_in_list ss s))) (put_copies copy z (suc i) ss more)
            ≡ option_and_then copy (listed ss s))
            → (b : Bool) → (is_same t.0 s.0 && bytes_eq t.1 s.1) ≡ b
            → find (chars (copy_key z (i + cond b 0 (suc (place_in_list ss s))))) (put_copies copy z (suc i) ss more)
            ≡ option_and_then copy (cond b (Some t) (listed ss s))
        by later true e =
            let at : i + 0 ≡ i = omega arith in
            ap (λ n. find (chars (copy_key z n)) (put_copies copy z (suc i) ss more)) at
            ∙ (other_found ss (suc i) (chars (copy_key z i)) more
            (λ j a b f. omega (arith, a, key_one i j (omega (arith, l)) (omega (arith, b, l)) f))
            ∙ some_here (chars (copy_key z i)) (copy t) ms (h i (omega arith) (omega (arith, l))))
        by later false e =
            let at : i + suc (place_in_list ss s) ≡ suc i + place_in_list ss s = omega arith in
            ap (λ n. find (chars (copy_key z n)) (put_copies copy z (suc i) ss more)) at
            ∙ later next

    pub copy_found : (ss : List Reached) (s : Reached) (ms : Members) → length ss < 2 ^ 64
        → ((j : ℕ) → j < 2 ^ 64 → find (chars (copy_key z j)) ms ≡ None)
        → find (chars (copy_key z (place_in_list ss s))) (put_copies copy z 0 ss ms) ≡ option_and_then copy (listed ss s)
    copy_found ss s ms l h =
        let at : place_in_list ss s ≡ 0 + place_in_list ss s = omega arith in
        ap (λ n. find (chars (copy_key z n)) (put_copies copy z 0 ss ms)) at ∙ copy_from ss 0 s ms (omega (arith, l)) (λ j a b. h j b)
