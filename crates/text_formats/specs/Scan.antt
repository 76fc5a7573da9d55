-- For private contracts.
use Rattle.std.specs.Prelude.{ℕ, Bool, ◌||◌, ◌==◌, List, codes}
use Rattle.std.specs.Char.{is_ascii_digit, is_ascii_hexdigit}
use Rattle.text_formats.specs.Letters.{is_not_digit, is_at_sign, is_colon, is_dot, is_bracket_end, is_brace, is_brace_end, is_modifier}
use Rattle.text_formats.specs.Letters.{is_uri_letter, is_label_letter, is_atom_letter, is_pointer_letter, is_unreserved, is_sub_delimiter}
use Rattle.text_formats.specs.Template.{is_literal, is_name_letter}
use Rattle.text_uri.specs.Parts.{ends_path, ends_authority, ends_scheme, is_scheme_letter}
use Rattle.text_uri.specs.Letters.{is_number_sign}
use Rattle.text_formats.specs.declared.letters.End.{End}
use Rattle.text_formats.specs.declared.letters.End.TheVariants as at
use Rattle.text_formats.specs.declared.letters.Letters.{Letters}
use Rattle.text_formats.specs.declared.letters.Letters.TheVariants as of

-- the part ends at the byte
abbrev pub ends : End → ℕ → Bool
ends at.Digits = is_not_digit
ends at.User = is_at_sign
ends at.Host = is_colon
ends at.Literal = is_bracket_end
ends at.Version = is_dot
ends at.Scheme = ends_scheme
ends at.Authority = ends_authority
ends at.Path = ends_path
ends at.Query = is_number_sign
ends at.Brace = is_brace
ends at.Expression = is_brace_end
ends at.Name = is_modifier

-- the letters of the kind
abbrev pub passes : Letters → ℕ → List ℕ → Bool
passes of.Digit c cs = is_ascii_digit c
passes of.Hex c cs = is_ascii_hexdigit c
passes of.Label c cs = is_label_letter c
passes of.Atom c cs = is_atom_letter c
passes of.Pointer c cs = is_pointer_letter c cs
passes of.Scheme c cs = is_scheme_letter c
passes of.Host c cs = is_uri_letter (codes "") c cs
passes of.User c cs = is_uri_letter (codes ":") c cs
passes of.Path c cs = is_uri_letter (codes ":@/") c cs
passes of.Query c cs = is_uri_letter (codes ":@/?") c cs
passes of.Future c cs = is_unreserved c || (is_sub_delimiter c || (c == 58))
passes of.Literal c cs = is_literal c cs
passes of.Name c cs = is_name_letter c cs
