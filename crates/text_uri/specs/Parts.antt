-- The parts of a URI reference (RFC 3986, section 3 and appendix B), and the text of the parts (section 5.3).
use Rattle.std.specs.Prelude.{ℕ, Bool, false, ◌&&◌, ◌||◌, ◌==◌, nat_le, List, [], ◌∷◌, ◌++◌, Option, Some, None, cond, codes}
use Rattle.std.specs.Option.{option_map_or}
use Rattle.text_uri.specs.Letters.{colon, slash, question_mark, number_sign, is_number_sign, before, from, after}

-- A part that is absent differs from an empty one.
pub record Parts : Type 0 where
  pub scheme : Option (List ℕ)
  pub authority : Option (List ℕ)
  pub path : List ℕ
  pub query : Option (List ℕ)
  pub fragment : Option (List ℕ)

-- where a path, an authority and a scheme end
abbrev pub ends_path : ℕ → Bool
ends_path c = (c == question_mark) || (c == number_sign)

abbrev pub ends_authority : ℕ → Bool
ends_authority c = (c == slash) || ends_path c

abbrev pub ends_scheme : ℕ → Bool
ends_scheme c = (c == colon) || ends_authority c

-- an ASCII letter; a letter, a digit, `+`, `-` or `.` (section 3.1)
abbrev pub is_letter : ℕ → Bool
is_letter c = (nat_le 65 c && nat_le c 90) || (nat_le 97 c && nat_le c 122)

abbrev pub is_scheme_letter : ℕ → Bool
is_scheme_letter c = is_letter c || ((nat_le 48 c && nat_le c 57) || ((c == 43) || ((c == 45) || (c == 46))))

abbrev pub are_scheme_letters : List ℕ → Bool
are_scheme_letters [] = Bool.true
are_scheme_letters (c ∷ cs) = is_scheme_letter c && are_scheme_letters cs

abbrev pub is_scheme : List ℕ → Bool
is_scheme [] = false
is_scheme (c ∷ cs) = is_letter c && are_scheme_letters cs

-- a part, if it is present, and the rest
abbrev pub Cut : Type 0
Cut = Option (List ℕ) × List ℕ

-- a scheme is before a `:`
abbrev pub cut_at_colon : List ℕ → List ℕ → Option (List ℕ) → Cut
cut_at_colon text front None = (None, text)
cut_at_colon text front (Some rest) = cond (is_scheme front) (Some front, rest) (None, text)

abbrev pub cut_scheme : List ℕ → Cut
cut_scheme text = cut_at_colon text (before ends_scheme text) (after (codes ":") (from ends_scheme text))

-- a part after a mark ends before the first byte that passes the test
abbrev pub cut_marked : List ℕ → (ℕ → Bool) → List ℕ → Cut
cut_marked mark ends text = option_map_or {U = Cut} (λ rest. (Some (before ends rest), from ends rest)) (after mark text) (None, text)

abbrev pub cut_authority : List ℕ → Cut
cut_authority text = cut_marked (codes "//") ends_authority text

abbrev pub cut_query : List ℕ → Cut
cut_query text = cut_marked (codes "?") is_number_sign text

-- the parts of a text
abbrev pub split : List ℕ → Parts
split text =
    let scheme = cut_scheme text in
    let authority = cut_authority scheme.1 in
    let query = cut_query (from ends_path authority.1) in
    record {
      scheme = scheme.0;
      authority = authority.0;
      path = before ends_path authority.1;
      query = query.0;
      fragment = after (codes "#") query.1;
    }

-- a part after its mark, if it is present
abbrev pub marked : List ℕ → Option (List ℕ) → List ℕ
marked mark None = []
marked mark (Some part) = mark ++ part

abbrev pub scheme_text : Option (List ℕ) → List ℕ
scheme_text None = []
scheme_text (Some scheme) = scheme ++ codes ":"

-- the text of the parts
abbrev pub composed : Parts → List ℕ
composed p = scheme_text p.scheme
    ++ (marked (codes "//") p.authority ++ (p.path ++ (marked (codes "?") p.query ++ marked (codes "#") p.fragment)))
