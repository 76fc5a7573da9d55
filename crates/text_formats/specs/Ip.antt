-- Addresses of the Internet Protocol: those of RFC 3986, section 3.2.2, and those of mail (RFC 5321, section 4.1.3).
use Rattle.std.specs.Prelude.{ℕ, zero, suc, ◌+◌, ◌*◌, ◌-◌, Bool, true, false, ◌&&◌, ◌||◌, ◌==◌, nat_le, not, List, [], ◌∷◌, cond, length}
use Rattle.std.specs.Char.{is_ascii_digit, is_ascii_hexdigit}
use Rattle.std.specs.List.{list_all, slice_split}
use Rattle.text_formats.specs.declared.ip.Rules.{Rules}
use Rattle.text_formats.specs.declared.ip.Rules.TheVariants as by
use Rattle.text_formats.specs.Letters.{each, begins, is_empty, is_colon}
use Rattle.text_uri.specs.Letters.{before, from}

-- numbers of an address of version 4 may have leading zeros
abbrev pub takes_zeros : Rules → Bool
takes_zeros by.Uri = false
takes_zeros by.Mail = true

-- the number that one to three digits write: `dec-octet` (RFC 3986), or `Snum` (RFC 5321)
abbrev pub is_octet : Rules → List ℕ → Bool
is_octet rules [] = false
is_octet rules (a ∷ []) = is_ascii_digit a
is_octet rules (a ∷ b ∷ []) = (is_ascii_digit a && is_ascii_digit b) && (takes_zeros rules || not (a == 48))
is_octet rules (a ∷ b ∷ c ∷ []) = (is_ascii_digit a && (is_ascii_digit b && is_ascii_digit c))
    && ((takes_zeros rules || not (a == 48)) && nat_le (100 * (a - 48) + (10 * (b - 48) + (c - 48))) 255)
is_octet rules (a ∷ b ∷ c ∷ d ∷ cs) = false

-- version 4: four numbers between dots
abbrev pub dotted : List ℕ → List (List ℕ)
dotted text = slice_split (λ c. c == 46) text

abbrev pub are_octets : Rules → List ℕ → Bool
are_octets rules text = list_all (is_octet rules) (dotted text)

abbrev pub is_quad : Rules → List ℕ → Bool
is_quad rules text = (length (dotted text) == 4) && are_octets rules text

abbrev pub is_ipv4 : List ℕ → Bool
is_ipv4 text = is_quad by.Uri text

-- a piece of 16 bits: one to four hexadecimal digits
abbrev pub is_piece : List ℕ → Bool
is_piece text = each (λ c cs. is_ascii_hexdigit c) text && (nat_le 1 (length text) && nat_le (length text) 4)

-- the text after the colon at its front
abbrev pub after_colon : List ℕ → List ℕ
after_colon [] = []
after_colon (c ∷ cs) = cs

-- Version 6 (RFC 4291, section 2.2): pieces between colons. An empty one is of `::`, which is there at most once, and
-- stands for one piece or more, in mail for two or more. The last may be an address of version 4, in place of two.
abbrev pub least : Rules → ℕ
least by.Uri = 1
least by.Mail = 2

-- as many pieces could follow the last; `::` stands for these and one more
abbrev pub is_whole : Rules → Bool → ℕ → Bool
is_whole rules gap left = cond gap (nat_le (least rules) (left + 1)) (left == 0)

abbrev pub is_last : Rules → ℕ → Bool → List ℕ → Bool
is_last rules left gap text = (is_piece text && is_whole rules gap left)
    || (is_quad rules text && (nat_le 1 left && is_whole rules gap (left - 1)))

abbrev pub are_pieces : Rules → ℕ → Bool → List ℕ → Bool
are_pieces rules zero gap text = false
are_pieces rules (suc n) gap text =
    let front = before is_colon text in
    let more = after_colon (from is_colon text) in
    cond (is_empty (from is_colon text)) (is_last rules n gap front)
    (cond (is_empty front) (not gap && ((is_empty more && is_whole rules true n) || are_pieces rules n true more))
    (is_piece front && are_pieces rules n gap more))

-- before a piece that is not the first there is a colon, so a text that begins with a colon begins with `::`
abbrev pub is_address : Rules → List ℕ → Bool
is_address rules [] = false
is_address rules (c ∷ cs) = cond (c == 58) (begins is_colon cs && are_pieces rules 8 false cs) (are_pieces rules 8 false (c ∷ cs))

abbrev pub is_ipv6 : List ℕ → Bool
is_ipv6 text = is_address by.Uri text
