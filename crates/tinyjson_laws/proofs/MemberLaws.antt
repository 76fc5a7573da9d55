-- The last pair with a key counts.
use Rattle.std.proofs.Common.{◌≡◌, ◌≢◌, ℕ, Bool, true, false, cond, List, [], ◌∷◌, ◌++◌, Option, Some, None, refl, sym, ap, ◌∙◌}
use Rattle.std.specs.Str.{bytes_eq}
use Rattle.std.specs.Option.{option_or}
use Rattle.std.specs.Prelude.{◌↔◌}
use Rattle.std.proofs.lemmas.Option.{same_Some}
use Rattle.std.proofs.lemmas.Slice.Eq.{bytes_eq-Decides}
use Rattle.tinyjson_grammar.specs.Tree as tree
use Rattle.tinyjson_grammar.specs.Tree.{Tree, Members, key_of, find}
use Rattle.tinyjson_grammar.specs.Syntax.{Pairs, last_pair, pair, tree_of, pairs_members}
use Rattle.tinyjson.proofs.Callers.{find_put}
use Rattle.tinyjson_laws.specs.Members.{entries_of, HasNone, IsLast, LastPairStays}

abbrev Entry : Type 0
Entry = List ℕ × Tree

-- the tree of an entry that has the key
abbrev value_at : List ℕ → Entry → Option Tree
value_at k e = cond (bytes_eq k e.0) (Some e.1) None

-- the tree of the last entry that has the key
abbrev last_value : List ℕ → List Entry → Option Tree
last_value k [] = None
last_value k (e ∷ es) = option_or (last_value k es) (value_at k e)

-- ---- what is found is the last

first : (b : Bool) (t : Tree) (o : Option Tree) → cond b (Some t) o ≡ option_or (cond b (Some t) None) o
first true t o = refl
first false t o = refl

option_or_assoc : (a b c : Option Tree) → option_or a (option_or b c) ≡ option_or (option_or a b) c
option_or_assoc None b c = refl
option_or_assoc (Some t) b c = refl

option_or_none : (o : Option Tree) → option_or o None ≡ o
option_or_none None = refl
option_or_none (Some t) = refl

found_put : (k l : List ℕ) (t : Tree) (ms : Members) → find k (tree.put l t ms) ≡ option_or (value_at k (l, t)) (find k ms)
found_put k l t ms = find_put k l t ms ∙ first (bytes_eq k l) t (find k ms)

found : (k : List ℕ) (ps : Pairs) (ms : Members) → find k (pairs_members ms ps) ≡ option_or (last_value k (entries_of ps)) (find k ms)
found k (last_pair a l b c s d) ms = found_put k (key_of (tree_of l)) (tree_of s) ms
found k (pair a l b c s d ps) ms = found k ps (tree.put (key_of (tree_of l)) (tree_of s) ms)
    ∙ ap (option_or (last_value k (entries_of ps))) (found_put k (key_of (tree_of l)) (tree_of s) ms)
    ∙ option_or_assoc (last_value k (entries_of ps)) (value_at k (key_of (tree_of l), tree_of s)) (find k ms)

found_last : (k : List ℕ) (ps : Pairs) → find k (pairs_members tree.no_members ps) ≡ last_value k (entries_of ps)
found_last k ps = found k ps tree.no_members ∙ option_or_none (last_value k (entries_of ps))

-- ---- what the last is

some≢none : (t : Tree) → Some t ≡ None → ⊥
some≢none t h = cc

here : (k : List ℕ) (e : Entry) (b : Bool) → bytes_eq k e.0 ≡ b
    → ((t : Tree) → (cond b (Some e.1) None ≡ Some t) → (e.0 ≡ k) × (e.1 ≡ t)) × ((cond b (Some e.1) None ≡ None) → e.0 ≢ k)
here k e true h = (λ t i. (sym ((bytes_eq-Decides k e.0).0 h), same_Some e.1 t i), λ i. absurd (some≢none e.1 i))
here k e false h = (
  λ t i. absurd (some≢none t (sym i)),
  λ i j. let r : bytes_eq k e.0 ≡ true = (bytes_eq-Decides k e.0).1 (sym j) in let f : true ≡ false = sym r ∙ h in cc,
)

none_by : (k : List ℕ) (e : Entry) (es : List Entry) (o : Option Tree) → last_value k es ≡ o → option_or o (value_at k e) ≡ None
    → (last_value k es ≡ None → HasNone k es) → HasNone k (e ∷ es)
none_by k e es None i h rest = ((here k e (bytes_eq k e.0) refl).1 h, rest i)
none_by k e es (Some t) i h rest = absurd (some≢none t h)

none_has : (k : List ℕ) (es : List Entry) → last_value k es ≡ None → HasNone k es
none_has k [] h = tt
none_has k (e ∷ es) h = none_by k e es (last_value k es) refl h (none_has k es)

apart : (k : List ℕ) (e : Entry) → e.0 ≢ k → (b : Bool) → bytes_eq k e.0 ≡ b → cond b (Some e.1) None ≡ None
apart k e h true i = absurd (h (sym ((bytes_eq-Decides k e.0).0 i)))
apart k e h false i = refl

has_none : (k : List ℕ) (es : List Entry) → HasNone k es → last_value k es ≡ None
has_none k [] h = refl
has_none k (e ∷ es) h = ap (λ o. option_or o (value_at k e)) (has_none k es h.1) ∙ apart k e h.0 (bytes_eq k e.0) refl

some_by : (k : List ℕ) (t : Tree) (e : Entry) (es : List Entry) (o : Option Tree) → last_value k es ≡ o
    → option_or o (value_at k e) ≡ Some t → (last_value k es ≡ Some t → IsLast k t es) → IsLast k t (e ∷ es)
some_by k t e es None i h rest = let p = (here k e (bytes_eq k e.0) refl).0 t h in ([], es, (λ j. (p.0 j, p.1 j) ∷ es), none_has k es i)
some_by k t e es (Some u) i h rest = let r = rest (i ∙ h) in (e ∷ r.0, r.1, ap (λ xs. e ∷ xs) r.2, r.3)

some_last : (k : List ℕ) (t : Tree) (es : List Entry) → last_value k es ≡ Some t → IsLast k t es
some_last k t [] h = absurd (some≢none t (sym h))
some_last k t (e ∷ es) h = some_by k t e es (last_value k es) refl h (some_last k t es)

same_key : (k : List ℕ) (t : Tree) → value_at k (k, t) ≡ Some t
same_key k t = ap (λ b. cond b (Some t) None) ((bytes_eq-Decides k k).1 refl)

last_of : (k : List ℕ) (t : Tree) (front back : List Entry) → HasNone k back → last_value k (front ++ (k, t) ∷ back) ≡ Some t
last_of k t [] back h = ap (λ o. option_or o (value_at k (k, t))) (has_none k back h) ∙ same_key k t
last_of k t (e ∷ es) back h = ap (λ o. option_or o (value_at k e)) (last_of k t es back h)

-- the members that the pairs give
module _ (ps : Pairs) (ms : Members) (e : tree.object (pairs_members tree.no_members ps) ≡ tree.object ms) (k : List ℕ) where
  found_in : find k ms ≡ last_value k (entries_of ps)
  found_in = let same : ms ≡ pairs_members tree.no_members ps = cc in ap (find k) same ∙ found_last k ps

  last_in : (t : Tree) → (find k ms ≡ Some t) ↔ IsLast k t (entries_of ps)
  last_in t = (λ h. some_last k t (entries_of ps) (sym found_in ∙ h), λ r. found_in ∙ (ap (last_value k) r.2 ∙ last_of k t r.0 r.1 r.3))

  none_in : (find k ms ≡ None) ↔ HasNone k (entries_of ps)
  none_in = (λ h. none_has k (entries_of ps) (sym found_in ∙ h), λ h. found_in ∙ has_none k (entries_of ps) h)

pub last_pair_stays : LastPairStays
last_pair_stays ps ms e k = (last_in ps ms e k, none_in ps ms e k)
