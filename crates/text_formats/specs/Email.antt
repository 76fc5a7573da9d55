-- Mailboxes (`Mailbox` of RFC 5321, section 4.1.2), with a local part of at most 64 octets (section 4.5.3.1.1).
use Rattle.std.specs.Prelude.{ℕ, ◌-◌, Bool, false, ◌&&◌, ◌||◌, ◌==◌, nat_le, not, List, [], ◌∷◌, length, Option, Some, None, cond, codes}
use Rattle.std.specs.List.{list_all, slice_split}
use Rattle.text_formats.specs.declared.ip.Rules.TheVariants as by
use Rattle.text_formats.specs.Host.{is_name}
use Rattle.text_formats.specs.Ip.{is_quad, is_address}
use Rattle.text_formats.specs.Letters.{each, after_word, is_empty, is_at_sign, is_bracket_end, is_atom_letter}
use Rattle.text_uri.specs.Letters.{before, from}

abbrev pub is_atom : List ℕ → Bool
is_atom text = not (is_empty text) && each (λ c cs. is_atom_letter c) text

-- `Dot-string`
abbrev pub is_dot_string : List ℕ → Bool
is_dot_string text = list_all is_atom (slice_split (λ c. c == 46) text)

-- `qtextSMTP`, and what may be after a backslash
abbrev pub is_printable : ℕ → Bool
is_printable c = nat_le 32 c && nat_le c 126

abbrev pub is_quoted_letter : ℕ → Bool
is_quoted_letter c = is_printable c && not ((c == 34) || (c == 92))

-- what follows the quotation mark that ends a quoted string
abbrev pub after_quoted : List ℕ → Option (List ℕ)
after_quoted [] = None
after_quoted (c ∷ []) = cond (c == 34) (Some []) None
after_quoted (c ∷ d ∷ cs) = cond (c == 34) (Some (d ∷ cs))
    (cond (c == 92) (cond (is_printable d) (after_quoted cs) None) (cond (is_quoted_letter c) (after_quoted (d ∷ cs)) None))

-- what is in brackets: an address of IPv4, or of IPv6 after `IPv6:`
abbrev pub is_tagged : List ℕ → Option (List ℕ) → Bool
is_tagged text None = is_quad by.Mail text
is_tagged text (Some rest) = is_address by.Mail rest

abbrev pub is_literal : List ℕ → Bool
is_literal text = is_tagged text (after_word (codes "IPv6:") text)

abbrev pub is_only_end : List ℕ → Bool
is_only_end [] = false
is_only_end (c ∷ cs) = is_empty cs

abbrev pub is_bracketed : List ℕ → Bool
is_bracketed text = is_literal (before is_bracket_end text) && is_only_end (from is_bracket_end text)

abbrev pub is_domain : List ℕ → Bool
is_domain [] = false
is_domain (c ∷ cs) = cond (c == 91) (is_bracketed cs) (is_name (c ∷ cs))

-- a domain, or such brackets, after `@`
abbrev pub is_at_domain : List ℕ → Bool
is_at_domain [] = false
is_at_domain (c ∷ cs) = (c == 64) && is_domain cs

-- what follows the local part, which is in front of it in the text
abbrev pub is_after_local : List ℕ → List ℕ → Bool
is_after_local text rest = nat_le (length text - length rest) 64 && is_at_domain rest

abbrev pub is_after_quoted : List ℕ → Option (List ℕ) → Bool
is_after_quoted text None = false
is_after_quoted text (Some rest) = is_after_local text rest

abbrev pub is_email : List ℕ → Bool
is_email [] = false
is_email (c ∷ cs) = cond (c == 34) (is_after_quoted (c ∷ cs) (after_quoted cs))
    (is_dot_string (before is_at_sign (c ∷ cs)) && is_after_local (c ∷ cs) (from is_at_sign (c ∷ cs)))
