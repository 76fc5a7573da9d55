-- Which members of the outermost object are picked, and the state meanwhile.
use Rattle.std.specs.Prelude.{◌≡◌, ℕ, List, [], ◌∷◌, length, Bool, true, false, cond, Option, Some, None, ⊤}
use Rattle.tinyjson.specs.Events.{Open, in_array, at_key, at_value}
use Rattle.tinyjson.specs.Tree.{Tree, Members, null, boolean, number, string, array, object, no_items, no_members}
use Rattle.tinyjson.specs.Tree.{find, put, remove}

-- a scalar
abbrev pub is_scalar : Tree → Bool
is_scalar null = true
is_scalar (boolean b) = true
is_scalar (number d) = true
is_scalar (string cs) = true
is_scalar (array ts) = false
is_scalar (object ms) = false

abbrev pub scalar_of : Option Tree → Option Tree
scalar_of None = None
scalar_of (Some t) = cond (is_scalar t) (Some t) None

-- the members of an object; none for another value
abbrev pub members_of : Tree → Members
members_of (object ms) = ms
members_of null = no_members
members_of (boolean b) = no_members
members_of (number d) = no_members
members_of (string cs) = no_members
members_of (array ts) = no_members

module _ (wants : List ℕ → Bool) where
  -- what is picked at a key: its value, if the key is wanted and the value is a scalar
  abbrev pub picked_at : Members → List ℕ → Option Tree
  picked_at ms k = cond (wants k) (scalar_of (find k ms)) None

  -- the members have at each key what is picked there
  abbrev pub Picks : Members → Members → Type 0
  Picks ms ps = (k : List ℕ) → find k ps ≡ picked_at ms k

  -- ---- while a text is parsed

  -- another container is open within the outermost one, which is the last in the list
  abbrev pub Within : List Open → Open → Members → Type 0
  Within [] (in_array ts) ps = Picks no_members ps
  Within [] (at_key ms) ps = ⊤
  Within [] (at_value ms k) ps = Picks (put k (array no_items) ms) ps
  Within (o ∷ os) p ps = Within os o ps

  abbrev pub Around : List Open → Open → Option (List ℕ) → Members → Type 0
  Around [] (in_array ts) key ps = (key ≡ None) × Picks no_members ps
  Around [] (at_key ms) key ps = (key ≡ None) × Picks ms ps
  Around [] (at_value ms k) key ps = (key ≡ Some k) × Picks ms ps
  Around (o ∷ os) p key ps = (key ≡ None) × Within os o ps

  abbrev pub At : List Open → Option (List ℕ) → Members → Type 0
  At [] key ps = (key ≡ None) × Picks no_members ps
  At (o ∷ os) key ps = Around os o key ps

  -- how many containers are open, the key of the outermost object whose value comes next, and what was picked
  abbrev pub Holds : ℕ → Option (List ℕ) → Members → List Open → Type 0
  Holds depth key ps os = (depth ≡ length os) × At os key ps

  -- the value is kept at the key, if the key is wanted
  abbrev pub stored : Option (List ℕ) → Tree → Members → Members
  stored None t ps = ps
  stored (Some k) t ps = cond (wants k) (put k t ps) ps

-- nothing is kept at the key
abbrev pub without : Option (List ℕ) → Members → Members
without None ps = ps
without (Some k) ps = remove k ps
