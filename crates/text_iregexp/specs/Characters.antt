-- The codes of the characters that have a meaning in I-Regexp (RFC 9485, section 3).
use Rattle.std.specs.Prelude.{ℕ}

-- around a group, and between branches
abbrev pub left_parenthesis : ℕ
left_parenthesis = 40

abbrev pub right_parenthesis : ℕ
right_parenthesis = 41

abbrev pub vertical_bar : ℕ
vertical_bar = 124

-- quantifiers
abbrev pub asterisk : ℕ
asterisk = 42

abbrev pub plus_sign : ℕ
plus_sign = 43

abbrev pub question_mark : ℕ
question_mark = 63

abbrev pub left_brace : ℕ
left_brace = 123

abbrev pub comma : ℕ
comma = 44

abbrev pub right_brace : ℕ
right_brace = 125

abbrev pub digit_zero : ℕ
digit_zero = 48

abbrev pub digit_nine : ℕ
digit_nine = 57

-- classes
abbrev pub full_stop : ℕ
full_stop = 46

abbrev pub left_bracket : ℕ
left_bracket = 91

abbrev pub circumflex : ℕ
circumflex = 94

abbrev pub hyphen : ℕ
hyphen = 45

abbrev pub right_bracket : ℕ
right_bracket = 93

-- the beginning of an escape, and the letters of those that mean another character
abbrev pub reverse_solidus : ℕ
reverse_solidus = 92

abbrev pub letter_n : ℕ
letter_n = 110

abbrev pub letter_r : ℕ
letter_r = 114

abbrev pub letter_t : ℕ
letter_t = 116

-- the letters of a category after a backslash
abbrev pub letter_p : ℕ
letter_p = 112

abbrev pub capital_p : ℕ
capital_p = 80

-- characters that an escape stands for
abbrev pub line_feed : ℕ
line_feed = 10

abbrev pub carriage_return : ℕ
carriage_return = 13

abbrev pub horizontal_tab : ℕ
horizontal_tab = 9
