-- URIs and references (RFC 3986, section 3), by the parts that `text_uri` defines.
use Rattle.std.specs.Prelude.{ℕ, Bool, true, false, ◌&&◌, ◌||◌, ◌==◌, not, List, [], ◌∷◌, Option, is_some, cond, codes}
use Rattle.std.specs.Option.{option_map_or}
use Rattle.std.specs.Char.{is_ascii_digit, is_ascii_hexdigit}
use Rattle.text_formats.specs.Ip.{is_ipv6}
use Rattle.text_formats.specs.Letters.{each, is_empty, is_colon, is_at_sign, is_bracket_end, is_dot}
use Rattle.text_formats.specs.Letters.{is_uri_letter, is_unreserved, is_sub_delimiter}
use Rattle.text_uri.specs.Letters.{before, from}
use Rattle.text_uri.specs.Parts.{Parts, split}

-- letters of a part, and those others (section 2)
abbrev pub are_letters : List ℕ → List ℕ → Bool
are_letters others text = each (is_uri_letter others) text

abbrev pub are_letters_if : List ℕ → Option (List ℕ) → Bool
are_letters_if others part = option_map_or (are_letters others) part true

-- a colon and `port`, or nothing (section 3.2.3)
abbrev pub is_port : List ℕ → Bool
is_port [] = true
is_port (c ∷ cs) = (c == 58) && each (λ d ds. is_ascii_digit d) cs

-- `IPvFuture`: `v`, hexadecimal digits, a dot and letters
abbrev pub is_future_letter : ℕ → List ℕ → Bool
is_future_letter c cs = is_unreserved c || (is_sub_delimiter c || (c == 58))

abbrev pub is_dot_and_letters : List ℕ → Bool
is_dot_and_letters [] = false
is_dot_and_letters (c ∷ cs) = not (is_empty cs) && each is_future_letter cs

abbrev pub is_future : List ℕ → Bool
is_future [] = false
is_future (c ∷ cs) = ((c == 118) || (c == 86))
    && ((not (is_empty (before is_dot cs)) && each (λ d ds. is_ascii_hexdigit d) (before is_dot cs))
    && is_dot_and_letters (from is_dot cs))

-- what is in brackets
abbrev pub is_ip_literal : List ℕ → Bool
is_ip_literal text = is_ipv6 text || is_future text

-- a bracket, and a port
abbrev pub is_bracket_and_port : List ℕ → Bool
is_bracket_and_port [] = false
is_bracket_and_port (c ∷ cs) = is_port cs

-- a name, or such an address in brackets, and a port (section 3.2.2)
abbrev pub is_host_and_port : List ℕ → Bool
is_host_and_port [] = true
is_host_and_port (c ∷ cs) = cond (c == 91)
    (is_ip_literal (before is_bracket_end cs) && is_bracket_and_port (from is_bracket_end cs))
    (are_letters (codes "") (before is_colon (c ∷ cs)) && is_port (from is_colon (c ∷ cs)))

-- `authority`: what is before `@` is about a user
abbrev pub is_user_and_host : List ℕ → List ℕ → Bool
is_user_and_host front [] = is_host_and_port front
is_user_and_host front (c ∷ cs) = are_letters (codes ":") front && is_host_and_port cs

abbrev pub is_authority : List ℕ → Bool
is_authority text = is_user_and_host (before is_at_sign text) (from is_at_sign text)

abbrev pub is_authority_if : Option (List ℕ) → Bool
is_authority_if part = option_map_or is_authority part true

-- the parts are of their letters
abbrev pub are_parts : Parts → Bool
are_parts p = (is_authority_if p.authority && are_letters (codes ":@/") p.path)
    && (are_letters_if (codes ":@/?") p.query && are_letters_if (codes ":@/?") p.fragment)

-- a path that is first of all has no colon before its first `/` (`path-noscheme`, section 4.2)
abbrev pub has_colon_first : List ℕ → Bool
has_colon_first [] = false
has_colon_first (c ∷ cs) = not (c == 47) && ((c == 58) || has_colon_first cs)

abbrev pub is_uri : List ℕ → Bool
is_uri text = is_some (split text).scheme && are_parts (split text)

abbrev pub is_reference : List ℕ → Bool
is_reference text = are_parts (split text)
    && (is_some (split text).scheme || (is_some (split text).authority || not (has_colon_first (split text).path)))
