-- How many characters and how many bytes a string has.
use Rattle.std.proofs.Common.{◌≡◌, ℕ, ◌≤◌, ◌*◌, List, [], ◌∷◌, length, length-append, arith, subst, encode_utf8_all}
use Rattle.std.proofs.lemmas.Str.{encodes-chars, length-encode, length-le-encodes, len_utf8_bounds}
use Rattle.std.specs.Prelude.{encode_utf8}
use Rattle.std.specs.Str.{IsUtf8, chars}

pub characters_at_most : (bs : List ℕ) → IsUtf8 bs → length (chars bs) ≤ length bs
characters_at_most bs h = subst (λ x. length (chars bs) ≤ length x) (encodes-chars bs h) (length-le-encodes (chars bs))

bytes_of : (cs : List ℕ) → length (encode_utf8_all cs) ≤ 4 * length cs
bytes_of [] = omega arith
bytes_of (c ∷ cs) =
    omega (arith, bytes_of cs, length-append (encode_utf8 c) (encode_utf8_all cs), length-encode c, (len_utf8_bounds c).1)

pub characters_at_least : (bs : List ℕ) → IsUtf8 bs → length bs ≤ 4 * length (chars bs)
characters_at_least bs h = subst (λ x. length x ≤ 4 * length (chars bs)) (encodes-chars bs h) (bytes_of (chars bs))
