-- The characters that end a run, and those of white space, by their codes.
use Rattle.std.specs.Prelude.{ℕ, Bool, ◌||◌, ◌==◌}

-- white space (RFC 8259, section 2)
abbrev pub space : ℕ
space = 32

abbrev pub horizontal_tab : ℕ
horizontal_tab = 9

abbrev pub line_feed : ℕ
line_feed = 10

abbrev pub carriage_return : ℕ
carriage_return = 13

abbrev pub is_white : ℕ → Bool
is_white c = (c == space) || ((c == line_feed) || ((c == carriage_return) || (c == horizontal_tab)))

-- what ends a string, and what begins an escape in it (section 7)
abbrev pub quotation_mark : ℕ
quotation_mark = 34

abbrev pub reverse_solidus : ℕ
reverse_solidus = 92
