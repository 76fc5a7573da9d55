-- Texts of values, cut where they are long. All are bytes in UTF-8.
use Rattle.std.specs.Prelude.{ℕ, zero, suc, List, [], ◌∷◌, ◌++◌, codes, encode_utf8, encode_utf8_all}
use Rattle.std.specs.Str.{chars}
use Rattle.tinyjson.specs.Text.{compact}
use Rattle.tinyjson.specs.Tree.{Tree, Items, no_items, item}

-- the first n characters, and `...` if there are more
abbrev pub cut : ℕ → List ℕ → List ℕ
cut n [] = []
cut zero (c ∷ cs) = codes "..."
cut (suc n) (c ∷ cs) = encode_utf8 c ++ cut n cs

-- up to 60 characters of the value's text
abbrev pub brief : Tree → List ℕ
brief t = cut 60 (compact t)

-- the text that f has for each of the trees, with words between them
abbrev pub more_joined : List ℕ → (Tree → List ℕ) → Items → List ℕ
more_joined between f no_items = []
more_joined between f (item t ts) = between ++ (f t ++ more_joined between f ts)

abbrev pub joined : List ℕ → (Tree → List ℕ) → Items → List ℕ
joined between f no_items = []
joined between f (item t ts) = f t ++ more_joined between f ts

abbrev pub written : Tree → List ℕ
written t = encode_utf8_all (compact t)

-- up to 60 characters of the values' texts, with commas between them
abbrev pub listed : Items → List ℕ
listed ts = joined (codes ", ") written ts

abbrev pub brief_list : Items → List ℕ
brief_list ts = cut 60 (chars (listed ts))
