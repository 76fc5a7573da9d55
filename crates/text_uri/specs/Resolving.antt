-- Resolving a reference against a base (RFC 3986, section 5.2, strict).
use Rattle.std.specs.Prelude.{ℕ, Bool, ◌&&◌, List, [], ◌∷◌, ◌++◌, Option, is_some, cond, codes}
use Rattle.std.specs.Option.{option_or}
use Rattle.text_uri.specs.Dots.{without_dots}
use Rattle.text_uri.specs.Letters.{is_number_sign, before, from, after, through_last_slash}
use Rattle.text_uri.specs.Parts.{Parts, split, composed}

-- the text is empty, or begins with `/`
abbrev pub is_empty : List ℕ → Bool
is_empty [] = Bool.true
is_empty (c ∷ cs) = Bool.false

abbrev pub begins_with_slash : List ℕ → Bool
begins_with_slash text = is_some (after (codes "/") text)

-- a path after the base's, which is cut after its last `/` (5.2.3)
abbrev pub merged : Parts → List ℕ → List ℕ
merged base path = cond (is_some base.authority && is_empty base.path) (codes "/" ++ path) (through_last_slash base.path ++ path)

-- the path of the target, if the reference has a path, but neither scheme nor authority
abbrev pub path_from : Parts → List ℕ → List ℕ
path_from base path = without_dots (cond (begins_with_slash path) path (merged base path))

-- the target of a reference without scheme and authority; the base's fragment is never part of it
abbrev pub target_by_path : Parts → Parts → Parts
target_by_path base r = cond (is_empty r.path)
    (record base { query = option_or r.query base.query; fragment = r.fragment })
    (record r { scheme = base.scheme; authority = base.authority; path = path_from base r.path })

-- the target of a reference (5.2.2)
abbrev pub target : Parts → Parts → Parts
target base r = cond (is_some r.scheme) (record r { path = without_dots r.path })
    (cond (is_some r.authority) (record r { scheme = base.scheme; path = without_dots r.path }) (target_by_path base r))

-- the target's text, with its fragment if it has one
abbrev pub resolved : List ℕ → List ℕ → List ℕ
resolved base reference = composed (target (split base) (split reference))

-- the text before the first `#`, and the text after it
abbrev pub without_fragment : List ℕ → List ℕ
without_fragment text = before is_number_sign text

abbrev pub fragment_of : List ℕ → Option (List ℕ)
fragment_of text = after (codes "#") (from is_number_sign text)
