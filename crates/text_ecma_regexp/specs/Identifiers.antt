-- `ID_Start` and `ID_Continue` of Unicode 17.0.0 (Unicode Standard Annex 31, section 2), as general categories and lists.
use Rattle.std.specs.Prelude.{ℕ, Bool, ◌&&◌, ◌||◌, ◌==◌, nat_le, not}
use lib.Utf8.{scalar}
use Rattle.std.specs.List.{list_any}
use Rattle.text_categories.specs.Categories.{is_in}
use Rattle.text_ecma_regexp.specs.declared.newer.TheConstants.{NEWER_STARTS, NEWER_PARTS}

-- the first and the last character of a range
abbrev pub is_within : ℕ → (ℕ × ℕ) → Bool
is_within c range = nat_le range.0 c && nat_le c range.1

-- letters and letter numbers (L, Nl); nonspacing and spacing marks, digits and connectors (Mn, Mc, Nd, Pc)
abbrev pub is_letter : ℕ → Bool
is_letter c = scalar c && (is_in 0 4 c || is_in 9 9 c)

abbrev pub is_mark : ℕ → Bool
is_mark c = scalar c && (is_in 5 5 c || (is_in 6 6 c || (is_in 8 8 c || is_in 11 11 c)))

-- `Other_ID_Start` and `Other_ID_Continue` of PropList.txt
abbrev pub is_other_start : ℕ → Bool
is_other_start c = (nat_le 0x1885 c && nat_le c 0x1886) || ((c == 0x2118) || ((c == 0x212E) || (nat_le 0x309B c && nat_le c 0x309C)))

abbrev pub is_other_part : ℕ → Bool
is_other_part c = ((c == 0xB7) || ((c == 0x387) || (nat_le 0x1369 c && nat_le c 0x1371)))
    || ((c == 0x19DA) || ((nat_le 0x200C c && nat_le c 0x200D) || ((c == 0x30FB) || (c == 0xFF65))))

-- U+2E2F is the one such character that has `Pattern_Syntax`; none has `Pattern_White_Space`. The categories are those of Unicode
-- 14.0.0, so characters that came later are listed.
unfoldable pub is_id_start : ℕ → Bool
is_id_start c = (is_letter c && not (c == 0x2E2F)) || (is_other_start c || list_any (is_within c) NEWER_STARTS)

unfoldable pub is_id_part : ℕ → Bool
is_id_part c = is_id_start c || (is_mark c || (is_other_part c || list_any (is_within c) NEWER_PARTS))
