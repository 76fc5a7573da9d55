-- Lists of parts, one after the other.
use Rattle.std.proofs.Common.{◌≡◌, ℕ, ◌+◌, List, [], ◌∷◌, ◌++◌, map, refl, sym, ap, ◌∙◌, append_assoc, append-nil}
use Rattle.tinyjson.specs.Tree.{Tree, array, object, Items, no_items, item, Members, no_members, member}
use Rattle.tinyjson_path.specs.Nodes.{Step, at_key, at_index, Part, items_from, members_at, children, visited, visited_items}
use Rattle.tinyjson_path.specs.Nodes.{visited_members}
use Rattle.tinyjson_path.specs.Selecting.{from_each}

-- ---- a loop over a list, by what is left to do

pub step_each : {A : Type 0} (f : A → List Part) (acc more goal : List Part) (x : A) (rest next : List A) → rest ≡ x ∷ next
    → more ≡ acc ++ f x → acc ++ from_each f rest ≡ goal → more ++ from_each f next ≡ goal
step_each f acc more goal x rest next e m h =
    ap (λ z. z ++ from_each f next) m ∙ (append_assoc acc (f x) (from_each f next) ∙ (ap (λ z. acc ++ from_each f z) (sym e) ∙ h))

pub last_each : {A : Type 0} (f : A → List Part) (acc goal : List Part) (rest : List A) → rest ≡ [] → acc ++ from_each f rest ≡ goal
    → acc ≡ goal
last_each f acc goal rest e h = sym (append-nil acc) ∙ (ap (λ z. acc ++ from_each f z) (sym e) ∙ h)

pub each_append : {A : Type 0} (f : A → List Part) (xs ys : List A) → from_each f (xs ++ ys) ≡ from_each f xs ++ from_each f ys
each_append f [] ys = refl
each_append f (x ∷ xs) ys = ap (λ z. f x ++ z) (each_append f xs ys) ∙ sym (append_assoc (f x) (from_each f xs) (from_each f ys))

pub each_of_each : {A : Type 0} (f : Part → List Part) (g : A → List Part) (xs : List A)
    → from_each f (from_each g xs) ≡ from_each (λ x. from_each f (g x)) xs
each_of_each f g [] = refl
each_of_each f g (x ∷ xs) = each_append f (g x) (from_each g xs) ∙ ap (λ z. from_each f (g x) ++ z) (each_of_each f g xs)

pub each_map : {A B : Type 0} (f : B → List Part) (g : A → B) (xs : List A) → from_each f (map g xs) ≡ from_each (λ x. f (g x)) xs
each_map f g [] = refl
each_map f g (x ∷ xs) = ap (λ z. f (g x) ++ z) (each_map f g xs)

-- ---- descendants

abbrev pub visited_of : Part → List Part
visited_of p = visited p.path p.tree

items_visited : (path : List Step) (i : ℕ) (ts : Items) → visited_items path i ts ≡ from_each visited_of (items_from path i ts)
items_visited path i no_items = refl
items_visited path i (item t ts) = ap (λ z. visited (path ++ at_index i ∷ []) t ++ z) (items_visited path (i + 1) ts)

members_visited : (path : List Step) (ms : Members) → visited_members path ms ≡ from_each visited_of (members_at path ms)
members_visited path no_members = refl
members_visited path (member k t ms) = ap (λ z. visited (path ++ at_key k ∷ []) t ++ z) (members_visited path ms)

pub visited_is : (path : List Step) (t : Tree) → visited path t ≡ record { path = path; tree = t } ∷ from_each visited_of (children path t)
visited_is path (array ts) = ap (λ z. record { path = path; tree = array ts } ∷ z) (items_visited path 0 ts)
visited_is path (object ms) = ap (λ z. record { path = path; tree = object ms } ∷ z) (members_visited path ms)
visited_is path _ = refl
