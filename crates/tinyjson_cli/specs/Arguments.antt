-- How the words after a program's name are read into options and operands.
use Rattle.std.specs.Prelude.{◌≡◌, ℕ, ◌+◌, ◌*◌, ◌==◌, nat_lt, Bool, true, ◌&&◌, ◌||◌, cond, List, [], ◌∷◌, ◌++◌, length, take, drop}
use Rattle.std.specs.Prelude.{map, Option, None, Some, Result, Ok, Err, ⊤}
use Rattle.std.specs.List.{list_any}
use Rattle.std.specs.Char.{digit_value, is_ascii_digit}
use Rattle.std.specs.Option.{option_map_or}
use Rattle.std.specs.Str.{bytes_eq, is_utf8}
use Rattle.tinyjson_cli.specs.declared.arguments.Arguments.{Arguments}
use Rattle.tinyjson_cli.specs.declared.arguments.Known.{Known}
use Rattle.tinyjson_cli.specs.declared.arguments.Misuse.{Misuse}
use Rattle.tinyjson_cli.specs.declared.arguments.Misuse.TheVariants as misuse
use Rattle.tinyjson_cli.specs.declared.arguments.Next.{Next}
use Rattle.tinyjson_cli.specs.declared.arguments.Next.TheVariants.{Any, Value, Operand}
use Rattle.tinyjson_cli.specs.declared.arguments.Number.{Number}
use Rattle.tinyjson_cli.specs.declared.arguments.Taken.{Taken}
use Rattle.tinyjson_cli.specs.declared.arguments.Taken.TheVariants as taken
use Rattle.tinyjson_cli.specs.declared.arguments.Text.{Text}

-- What words give: letters of options, options with their numbers or texts, and operands.
pub record Given : Type 0 where
  pub flags : List ℕ
  pub numbers : List Number
  pub texts : List (ℕ × List ℕ)
  pub operands : List (List ℕ)

-- Why words are not understood: one is no option, or an option's number or text is missing.
pub data Fault : Type 0 where
  unknown : List ℕ → Fault
  no_number : ℕ → Fault
  no_text : ℕ → Fault

abbrev pub nothing : Given
nothing = record { flags = []; numbers = []; texts = []; operands = [] }

abbrev pub flag : ℕ → Given
flag c = record { flags = c ∷ []; numbers = []; texts = []; operands = [] }

abbrev pub with_number : ℕ → ℕ → Given
with_number c n = record { flags = []; numbers = record { letter = c; value = n } ∷ []; texts = []; operands = [] }

abbrev pub with_text : ℕ → List ℕ → Given
with_text c bs = record { flags = []; numbers = []; texts = (c, bs) ∷ []; operands = [] }

abbrev pub operand : List ℕ → Given
operand w = record { flags = []; numbers = []; texts = []; operands = w ∷ [] }

-- what some words give, and then others
abbrev pub join : Given → Given → Given
join a b = record {
  flags = a.flags ++ b.flags;
  numbers = a.numbers ++ b.numbers;
  texts = a.texts ++ b.texts;
  operands = a.operands ++ b.operands;
}

-- ---- numbers

abbrev pub digits_from : ℕ → List ℕ → Option ℕ
digits_from n [] = Some n
digits_from n (c ∷ cs) = cond (is_ascii_digit c) (digits_from (n * 10 + digit_value c) cs) None

-- the number that 1 to 9 decimal digits write
abbrev pub number_of : List ℕ → Option ℕ
number_of ds = cond (length ds == 0 || nat_lt 9 (length ds)) None (digits_from 0 ds)

-- ---- a word

-- what a word gives, and what the next one is
abbrev pub Word : Type 0
Word = Result (Given × Next) Fault

abbrev pub number_or : ℕ → Option ℕ → Word
number_or c None = Err (no_number c)
number_or c (Some n) = Ok (with_number c n, Any)

abbrev pub text_or : ℕ → List ℕ → Word
text_or c bs = cond (is_utf8 bs) (Ok (with_text c bs, Any)) (Err (no_text c))

-- the number or the text of an option
abbrev pub taken_gives : Taken → ℕ → List ℕ → Word
taken_gives taken.Number c bs = number_or c (number_of bs)
taken_gives taken.Text c bs = text_or c bs

abbrev pub and_word : Given → Word → Word
and_word a (Ok w) = Ok (join a w.0, w.1)
and_word a (Err f) = Err f

-- What follows an option that takes something: that, or nothing where it is the next word.
abbrev pub value_gives : Taken → ℕ → List ℕ → Word
value_gives t c [] = Ok (nothing, Value t c)
value_gives t c (d ∷ ds) = taken_gives t c (d ∷ ds)

-- the option with this letter
abbrev pub by_letter : List Known → ℕ → Option Known
by_letter [] c = None
by_letter (k ∷ ks) c = cond (k.letter == c) (Some k) (by_letter ks c)

-- A letter after one dash, with the letters behind it, which are what the option takes, if it does.
abbrev pub letter_gives : List ℕ → Option Known → List ℕ → Word → Word
letter_gives w None cs others = Err (unknown w)
letter_gives w (Some k) cs others = option_map_or (λ t. value_gives t k.letter cs) k.takes (and_word (flag k.letter) others)

abbrev pub letters_give : List Known → List ℕ → List ℕ → Word
letters_give known w [] = Ok (nothing, Any)
letters_give known w (c ∷ cs) = letter_gives w (by_letter known c) cs (letters_give known w cs)

-- nothing follows the name, or an equals sign
abbrev pub ends_name : List ℕ → Bool
ends_name [] = true
ends_name (c ∷ cs) = c == 61

-- the option whose name begins the text, and what follows its name
abbrev pub by_name : List Known → List ℕ → Option (Known × List ℕ)
by_name [] t = None
by_name (k ∷ ks) t =
    let rest : List ℕ = drop (length k.name.now) t in
    cond (bytes_eq (take (length k.name.now) t) k.name.now && ends_name rest) (Some (k, rest)) (by_name ks t)

-- A name after two dashes.
abbrev pub name_gives : List ℕ → Option (Known × List ℕ) → Word
name_gives w None = Err (unknown w)
name_gives w (Some (k, [])) = option_map_or (λ t. Ok (nothing, Value t k.letter)) k.takes (Ok (flag k.letter, Any))
name_gives w (Some (k, c ∷ cs)) = option_map_or (λ t. taken_gives t k.letter cs) k.takes (Err (unknown w))

-- A word that begins with two dashes: after them alone all are operands.
abbrev pub dashes_give : List Known → List ℕ → List ℕ → Word
dashes_give known w [] = Ok (nothing, Operand)
dashes_give known w (c ∷ cs) = name_gives w (by_name known (c ∷ cs))

-- A word that may be an option: one dash and letters, or two and a name.
abbrev pub option_gives : List Known → List ℕ → Word
option_gives known [] = Ok (operand [], Any)
option_gives known (a ∷ []) = Ok (operand (a ∷ []), Any)
option_gives known (a ∷ b ∷ cs) =
    let w : List ℕ = a ∷ b ∷ cs in
    cond (a == 45) (cond (b == 45) (dashes_give known w cs) (letters_give known w (b ∷ cs))) (Ok (operand w, Any))

abbrev pub word_gives : List Known → Next → List ℕ → Word
word_gives known Any w = option_gives known w
word_gives known (Value t c) w = taken_gives t c w
word_gives known Operand w = Ok (operand w, Operand)

-- ---- all words

abbrev pub and_words : Given → Result Given Fault → Result Given Fault
and_words a (Ok b) = Ok (join a b)
and_words a (Err f) = Err f

-- what a word gives, and what the rest gives after it
abbrev pub and_rest : Word → (Next → Result Given Fault) → Result Given Fault
and_rest (Err f) rest = Err f
and_rest (Ok w) rest = and_words w.0 (rest w.1)

-- what all words give, where the first is the one that is awaited
abbrev pub words_give : List Known → Next → List (List ℕ) → Result Given Fault
words_give known (Value taken.Number c) [] = Err (no_number c)
words_give known (Value taken.Text c) [] = Err (no_text c)
words_give known Any [] = Ok nothing
words_give known Operand [] = Ok nothing
words_give known next (w ∷ ws) = and_rest (word_gives known next w) (λ n. words_give known n ws)

-- ---- what the code's values are seen as

abbrev pub text_of : Text → ℕ × List ℕ
text_of t = (t.letter, t.value.now)

abbrev pub given_of : Arguments → Given
given_of a = record {
  flags = a.flags.items;
  numbers = a.numbers.items;
  texts = map text_of a.texts.items;
  operands = map (λ r. r.now) a.operands.items;
}

-- The error is this fault; of memory that runs out nothing is said here.
abbrev pub IsFault : Fault → Misuse → Type 0
IsFault f (misuse.Unknown w) = f ≡ unknown w.now
IsFault f (misuse.NoNumber c) = f ≡ no_number c
IsFault f (misuse.NoText c) = f ≡ no_text c
IsFault f misuse.OutOfMemory = ⊤
IsFault f (misuse.Missing w) = ⊥
IsFault f misuse.NotUtf8 = ⊥

-- What a word gives is added.
abbrev pub Takes : Word → Given → Given → Result Next Misuse → Type 0
Takes word old new (Ok next) = (a : Given) × (word ≡ Ok (a, next)) × (new ≡ join old a)
Takes word old new (Err misuse.OutOfMemory) = ⊤
Takes word old new (Err m) = (f : Fault) × (word ≡ Err f) × IsFault f m

-- The words give these arguments, or have this fault.
abbrev pub Reads : List Known → List (List ℕ) → Result Arguments Misuse → Type 0
Reads known words (Ok a) = words_give known Any words ≡ Ok (given_of a)
Reads known words (Err misuse.OutOfMemory) = ⊤
Reads known words (Err m) = (f : Fault) × (words_give known Any words ≡ Err f) × IsFault f m

-- ---- what a program asks of them

abbrev pub is_given : ℕ → Given → Bool
is_given c a = list_any (λ f. f == c) a.flags

-- the number of the option with this letter, or the one before
abbrev pub newer : ℕ → Number → Option ℕ → Option ℕ
newer c n last = cond (n.letter == c) (Some n.value) last

-- the last number of the option with this letter, or else this one
abbrev pub last_number : ℕ → Option ℕ → List Number → Option ℕ
last_number c last [] = last
last_number c last (n ∷ ns) = last_number c (newer c n last) ns

abbrev pub first_operand : List (List ℕ) → Option (List ℕ × List (List ℕ))
first_operand [] = None
first_operand (w ∷ ws) = Some (w, ws)
