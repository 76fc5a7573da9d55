-- A part in the spelling of a value: an item, or the last member with a key.
use Rattle.std.specs.Prelude.{ℕ, zero, suc, List, [], ◌∷◌, ◌++◌, Option, Some, None, cond, option_map}
use Rattle.std.specs.Str.{bytes_eq}
use Rattle.tinyjson_grammar.specs.Characters.{name_separator, value_separator}
use Rattle.tinyjson_grammar.specs.Syntax.{Syntax, Elements, last_element, element, Pairs, last_pair, pair}
use Rattle.tinyjson_grammar.specs.Syntax.{text, elements_text, pairs_text, tree_of}
use Rattle.tinyjson_grammar.specs.Tree.{key_of}

-- A part of a spelled value: the characters before it, the part, and the characters behind it.
pub record Spot : Type 0 where
  pub before : List ℕ
  pub part : Syntax
  pub behind : List ℕ

abbrev pub spot : List ℕ → Syntax → List ℕ → Spot
spot b s a = record { before = b; part = s; behind = a }

-- the spot with more characters before it, and in a container with its brackets around it
abbrev pub further : List ℕ → Spot → Spot
further b p = spot (b ++ p.before) p.part p.behind

abbrev pub within : List ℕ → List ℕ → Spot → Spot
within b a p = spot (b ++ p.before) p.part (p.behind ++ a)

abbrev pub nth_spot : Elements → ℕ → Option Spot
nth_spot (last_element v s w) zero = Some (spot v s w)
nth_spot (last_element v s w) (suc i) = None
nth_spot (element v s w es) zero = Some (spot v s (w ++ value_separator ∷ elements_text es))
nth_spot (element v s w es) (suc i) = option_map (further (v ++ (text s ++ (w ++ value_separator ∷ [])))) (nth_spot es i)

abbrev pub item_spot : Elements → Option ℕ → Option Spot
item_spot es None = None
item_spot es (Some i) = nth_spot es i

abbrev pub or_else : {A : Type 0} → Option A → Option A → Option A
or_else (Some p) o = Some p
or_else None o = o

abbrev pub if_key : {A : Type 0} → List ℕ → Syntax → A → Option A
if_key key k p = cond (bytes_eq key (key_of (tree_of k))) (Some p) None

-- up to the value of a member
abbrev pub key_front : List ℕ → Syntax → List ℕ → List ℕ → List ℕ
key_front a k b c = a ++ (text k ++ (b ++ name_separator ∷ c))

-- the value of the last member with the key
abbrev pub last_member : List ℕ → Pairs → Option Spot
last_member key (last_pair a k b c s d) = if_key key k (spot (key_front a k b c) s d)
last_member key (pair a k b c s d ps) = or_else
    (option_map (further (key_front a k b c ++ (text s ++ (d ++ value_separator ∷ [])))) (last_member key ps))
    (if_key key k (spot (key_front a k b c) s (d ++ value_separator ∷ pairs_text ps)))

-- A member of a spelled object: the characters before it, its key, the white space before its colon and before its
-- value, the value, and the characters behind it.
pub record MemberSpot : Type 0 where
  pub before : List ℕ
  pub key : Syntax
  pub before_colon : List ℕ
  pub before_value : List ℕ
  pub value : Syntax
  pub behind : List ℕ

abbrev pub member_spot : List ℕ → Syntax → List ℕ → List ℕ → Syntax → List ℕ → MemberSpot
member_spot a k b c s d = record { before = a; key = k; before_colon = b; before_value = c; value = s; behind = d }

-- the spot of its value
abbrev pub value_spot : MemberSpot → Spot
value_spot m = spot (key_front m.before m.key m.before_colon m.before_value) m.value m.behind

-- what begins with its key, where r is behind all
abbrev pub from_key : List ℕ → MemberSpot → List ℕ
from_key r m = text m.key ++ (m.before_colon ++ name_separator ∷ (m.before_value ++ (text m.value ++ (m.behind ++ r))))
