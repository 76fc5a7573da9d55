-- Scopes of dynamic references: a resource that is reached in several scopes has a copy for each (JSON Schema
-- 2020-12, Core, 7.1 and 8.2.3.2).
use Rattle.std.specs.Fmt.{decimal}
use Rattle.std.specs.Prelude.{◌≡◌, ◌≤◌, ◌==◌, ◌⊎◌, ⊤, ℕ, suc, Bool, true, false, ◌&&◌, ◌||◌, List, [], ◌∷◌, ◌++◌, Option, Some, None}
use Rattle.std.specs.Prelude.{cond, take, drop, length, nat_lt, replicate, codes, is_some, is_none, map, option_map, option_and_then}
use Rattle.std.specs.Prelude.{unwrap_or, encode_utf8_all, string_bytes}
use Rattle.std.specs.Option.{option_map_or, option_or}
use Rattle.std.specs.Str.{bytes_eq, chars, is_utf8}
use Rattle.tinyjson.specs.Tree.{Tree, object, Members, no_members, member, put}
use Rattle.text_uri.specs.Resolving.{without_fragment, fragment_of}
use Rattle.tinyjson_schema_keywords.specs.Applied.{schema_at, schema_map_at}
use Rattle.tinyjson_schema_keywords.specs.Names.{name}
use Rattle.tinyjson_schema_keywords.specs.References.{percent, at_pointer, percent_decoded}
use Rattle.tinyjson_schema_keywords.specs.declared.keyword.Keyword.TheVariants as kw
use Rattle.tinyjson_schema_bundle.specs.Bundles.{Marked, Places, Leads, marks_of, place_of, dynamic_place, is_named, outermost, is_bundle}
use Rattle.tinyjson_schema_bundle.specs.Bundles.{with_name, base_in, begins_pointer, pointed, pointed_among, pointed_members, put_some}
use Rattle.tinyjson_schema_bundle.specs.Bundles.{is_place, is_dynamic_name, all_marked, places_in}
use Rattle.tinyjson_schema_bundle.specs.declared.copies.Gathered.{Gathered}
use Rattle.tinyjson_schema_bundle.specs.declared.guide.Guide.{Guide}
use Rattle.tinyjson_schema_bundle.specs.declared.mark.Kind.{Kind}
use Rattle.tinyjson_schema_bundle.specs.declared.mark.Kind.TheVariants as kind
use Rattle.tinyjson_schema_bundle.specs.declared.scope.State.{State}

-- the rest of the place q after p, which is the same or contains it
abbrev pub below : List ℕ → List ℕ → Option (List ℕ)
below p q = cond (bytes_eq (take (length p) q) p && begins_pointer (drop (length p) q)) (Some (drop (length p) q)) None

abbrev pub is_within : List ℕ → List ℕ → Bool
is_within p q = is_some (below p q)

-- A dynamic scope, as far as it decides where references lead. For contested names it has the outermost schema with
-- the name. A name is contested if several resources have it by `$dynamicAnchor`, and the root resource has not.
abbrev pub Scope : Type 0
Scope = List Marked

abbrev pub settled : Scope → List ℕ → Option (List ℕ)
settled [] n = None
settled (m ∷ c) n = cond (is_named m n) (Some m.2) (settled c n)

abbrev pub is_same : Scope → Scope → Bool
is_same [] [] = true
is_same (m ∷ c) (n ∷ d) = bytes_eq m.2 n.2 && is_same c d
is_same _ _ = false

-- a scope, and the place of the resource that was reached in it
abbrev pub Reached : Type 0
Reached = Scope × List ℕ

-- the root, where each scope begins
abbrev pub from_root : Reached
from_root = ([], [])

abbrev pub place_in_list : List Reached → Reached → ℕ
place_in_list [] s = 0
place_in_list (t ∷ ts) s = cond (is_same t.0 s.0 && bytes_eq t.1 s.1) 0 (suc (place_in_list ts s))

abbrev pub is_resource_mark : Kind → Bool
is_resource_mark kind.Resource = true
is_resource_mark _ = false

-- the mark is a resource within the one at e, and contains p
abbrev pub is_between : List ℕ → List ℕ → Marked → Bool
is_between e p m = is_resource_mark m.0 && is_within e m.2 && is_within m.2 p

-- the name of a mark
abbrev pub name_in : Marked → List ℕ
name_in m = unwrap_or (fragment_of m.1) []

-- m is one of the marks
abbrev pub IsOneOf : List Marked → Marked → Type 0
IsOneOf [] m = ⊥
IsOneOf (n ∷ ns) m = (m ≡ n) ⊎ IsOneOf ns m

-- given the marks of a document, and the URI of its root
module _ (all : List Marked) (r : List ℕ) where
  -- Other resources have the mark's name, and the root resource has not.
  abbrev pub is_contested : Marked → Bool
  is_contested m = is_dynamic_name m.0 && is_none (outermost all r (name_in m) m.2)

  abbrev pub some_contested : List Marked → Bool
  some_contested [] = false
  some_contested (m ∷ ms) = is_contested m || some_contested ms

  -- when the resource u is entered, its contested names are added, unless the scope has them
  abbrev pub is_entering : Scope → List ℕ → Marked → Bool
  is_entering c u m = is_contested m && bytes_eq (without_fragment m.1) u && is_none (settled c (name_in m))

  abbrev pub entered_by : List Marked → List ℕ → Scope → Scope
  entered_by [] u c = c
  entered_by (m ∷ ms) u c = entered_by ms u (cond (is_entering c u m) (c ++ m ∷ []) c)

  -- the scope c after the resource u is entered
  abbrev pub entered : List ℕ → Scope → Scope
  entered u c = entered_by all u c

  -- the scope at p: those resources are entered that are in the one at e and contain p
  abbrev pub scope_by : List Marked → List ℕ → List ℕ → Scope → Scope
  scope_by [] e p c = c
  scope_by (m ∷ ms) e p c = scope_by ms e p (cond (is_between e p m) (entered m.1 c) c)

  abbrev pub scope_at : Reached → List ℕ → Scope
  scope_at s p = scope_by all s.1 p s.0

  -- the innermost resource that contains p
  abbrev pub innermost : List Marked → List ℕ → List ℕ × List ℕ → List ℕ × List ℕ
  innermost [] p h = h
  innermost (m ∷ ms) p h = innermost ms p (cond (is_between [] p m) (m.1, m.2) h)

  -- its URI and its place
  abbrev pub home : List ℕ → List ℕ × List ℕ
  home p = innermost all p (r, [])

  -- the final place of a dynamic reference at p that first leads to a schema at q with its name n by
  -- `$dynamicAnchor`
  abbrev pub leads_over : Reached → List ℕ → List ℕ → List ℕ → List ℕ
  leads_over s p n q = unwrap_or (option_or (outermost all r n q) (settled (scope_at s p) n)) q

  -- the state that is reached at q from the scope c
  abbrev pub reached : Scope → List ℕ → Reached
  reached c q = (entered (home q).0 c, (home q).1)

  -- Each mark of the scope is one of the document's, and contested.
  abbrev pub IsScope : Scope → Type 0
  IsScope [] = ⊤
  IsScope (m ∷ c) = IsOneOf all m × (is_contested m ≡ true) × IsScope c

  abbrev pub HaveScopes : List Reached → Type 0
  HaveScopes [] = ⊤
  HaveScopes (s ∷ ss) = IsScope s.0 × HaveScopes ss

-- ---- copies

-- The copies are in `$defs`, at keys that begin with letters `z`: more than each key there has bytes, and than each
-- reference has bytes of `z` and of `%`, which may encode one. So no reference names a copy.
abbrev pub longer : ℕ → ℕ → ℕ
longer n l = cond (nat_lt n l) l n

abbrev pub longest : Members → ℕ → ℕ
longest no_members n = n
longest (member k w ms) n = longest ms (longer n (length (encode_utf8_all k)))

abbrev pub letters_above : ℕ → List ℕ
letters_above n = replicate (suc n) 122

abbrev pub may_be_letter : ℕ → Bool
may_be_letter b = b == 122 || b == percent

abbrev pub letters_in : List ℕ → ℕ
letters_in [] = 0
letters_in (b ∷ bs) = cond (may_be_letter b) (suc (letters_in bs)) (letters_in bs)

-- the most letters in a reference, or n if that is more
abbrev pub most_letters : List Marked → ℕ → ℕ
most_letters [] n = n
most_letters (m ∷ ms) n = most_letters ms (cond (is_place m.0) n (longer n (letters_in m.1)))

abbrev pub letters : Tree → List ℕ
letters t = letters_above (most_letters (marks_of t) (longest (schema_map_at t kw.Defs) 0))

-- The key of the copy i, and a place in this copy.
abbrev pub copy_key : List ℕ → ℕ → List ℕ
copy_key z i = z ++ decimal i

abbrev pub copy_place : List ℕ → ℕ → List ℕ → List ℕ
copy_place z i rest = codes "/$defs/" ++ (z ++ (decimal i ++ rest))

-- where references lead from a schema in the state s, given the states with copies
module _ (at : Places) (all : List Marked) (r z : List ℕ) (some : Bool) (copies : List Reached) (s : Reached) where
  -- In the document itself, or in a copy. A copy that is missing leads nowhere.
  abbrev pub placed : List ℕ → Reached → List ℕ
  placed q t = cond (is_same t.0 (scope_at all r from_root q)) q (copy_place z (place_in_list copies t) (unwrap_or (below t.1 q) []))

  abbrev pub moved : List ℕ → List ℕ → List ℕ
  moved p q = cond some (placed q (reached all r (scope_at all r s p) q)) q

  -- A name by `$anchor` leads to its schema in the resource u.
  abbrev pub leads_on : List ℕ → List ℕ → List ℕ → Option (List ℕ)
  leads_on p u n = option_map_or (λ q. Some (leads_over all r s p n q)) (dynamic_place all (with_name u n)) (at (with_name u n))

  abbrev pub leads_of : Leads
  leads_of = (at, (λ b. leads_on (unwrap_or (at b) [])), (λ b. moved (unwrap_or (at b) [])))

-- ---- the document with its copies

-- the schema at a place
abbrev pub schema_there : Tree → List ℕ → Option Tree
schema_there t p = option_and_then (λ bs. cond (is_utf8 bs) (at_pointer t (chars bs)) None) (percent_decoded p)

-- the bundled copy of the resource u, which is at p
abbrev pub copy_by : Leads → List ℕ → List ℕ → Option Tree → Option Tree
copy_by to u p (Some (object ms)) = Some (object (pointed_among to u p ms))
copy_by to u p _ = None

abbrev pub put_copies : (Reached → Option Tree) → List ℕ → ℕ → List Reached → Members → Members
put_copies copy z i [] ms = ms
put_copies copy z i (s ∷ ss) ms = put_copies copy z (suc i) ss (put_some (chars (copy_key z i)) (copy s) ms)

-- the members of `$defs`, if it may have members
abbrev pub defs_in : Leads → List ℕ → Option Tree → Option Members
defs_in to b None = Some no_members
defs_in to b (Some (object ms)) = Some (pointed_members to b (codes "/$defs") ms)
defs_in to b (Some t) = None

abbrev pub with_defs : Option Members → Tree → Tree
with_defs (Some ds) (object ms) = object (put (name kw.Defs) (object ds) ms)
with_defs _ t = t

module _ (at : Places) (all : List Marked) (r z : List ℕ) (some : Bool) (copies : List Reached) (t : Tree) where
  abbrev pub leads_from : Reached → Leads
  leads_from s = leads_of at all r z some copies s

  abbrev pub copy_of : Reached → Option Tree
  copy_of s = copy_by (leads_from s) (home all r s.1).0 s.1 (schema_there t s.1)

  abbrev pub main_part : Tree
  main_part = pointed (leads_from from_root) [] [] t

  abbrev pub with_copies : List Reached → Tree
  with_copies [] = main_part
  with_copies (s ∷ ss) = with_defs (option_map (put_copies copy_of z 0 (s ∷ ss)) (defs_in (leads_from from_root) r (schema_at t kw.Defs)))
      main_part

-- The bundled document: each reference to a schema in it is a pointer from the root, and each of these states has a
-- copy.
abbrev pub bundled : List Reached → Tree → Tree
bundled copies t = cond (is_bundle (marks_of t)) (with_copies (place_of (marks_of t)) (marks_of t) (base_in [] t) (letters t)
    (some_contested (marks_of t) (base_in [] t) (marks_of t)) copies t copies) t

-- The states for which a bundled document has copies. Their scopes have contested names of the document.
pub record AreCopies (t : Tree) (copies : List Reached) : Type 0 where
  pub few : length copies ≤ 1000
  pub scopes : HaveScopes (marks_of t) (base_in [] t) copies

-- ---- for private contracts

abbrev pub reached_of : State → Reached
reached_of s = (all_marked s.scope.items, string_bytes s.entry)

abbrev pub guided : Guide → Leads
guided g = leads_of (places_in g.places.now) (all_marked g.marks.now) g.root.now g.letters.now g.contested
    (map reached_of g.copies.now) (reached_of g.from.now)

abbrev pub states_in : Gathered → List Reached
states_in g = map reached_of g.states.items

-- the scope from which a reference is followed
abbrev pub IsFrom : Guide → Type 0
IsFrom g = IsScope (all_marked g.marks.now) g.root.now (reached_of g.from.now).0

abbrev pub AreStates : Guide → List Reached → Type 0
AreStates g ss = (length ss ≤ 1000) × HaveScopes (all_marked g.marks.now) g.root.now ss

-- The state is appended, or it is not.
abbrev pub MayAppend : Reached → List Reached → List Reached → Type 0
MayAppend s old new = (new ≡ old) ⊎ (new ≡ old ++ s ∷ [])
