-- The parts of a value, one after the other, and the members of the schemas in them.
use Rattle.std.proofs.Common.{◌≡◌, ◌∷◌, [], ◌++◌, ℕ, zero, suc, ◌<◌, ◌≤◌, ◌+◌, List, length, get_or, drop, encode_utf8_all}
use Rattle.std.proofs.Common.{Option, Some, None, Bool, true, false, cond, bytes_eq, Bor, String, Global, string_bytes}
use Rattle.std.proofs.Common.{refl, sym, ap, ◌∙◌, subst, append_assoc, append-nil, arith}
use Rattle.std.proofs.lemmas.List.{map-append}
use Rattle.std.proofs.lemmas.Slice.Eq.{bytes_eq-Decides}
use Rattle.tinyjson.proofs.Callers.{view_IsTree, find_below, found_first, some_none}
use Rattle.tinyjson.specs.Index.{nth}
use Rattle.tinyjson.specs.Soundness.{IsTree, IsSorted}
use Rattle.tinyjson.specs.Tree.{Tree, array, object, Items, no_items, item, Members, no_members, member, find}
use Rattle.tinyjson.specs.Tree.{tree_depth, items_depth, members_depth}
use Rattle.tinyjson.specs.View.{view, text}
use Rattle.tinyjson.specs.declared.value.JsonValue.{JsonValue}
use Rattle.tinyjson_pointer.specs.Index.{index_of}
use Rattle.tinyjson_pointer.specs.Walk.{item_of, step}
use Rattle.tinyjson_schema_keywords.specs.Forms.{form_at}
use Rattle.tinyjson_schema_keywords.specs.References.{form_in}
use Rattle.tinyjson_schema_keywords.specs.Subschemas.{InForm, Way, by_key, by_index, keyword_parts, item_parts, entry_parts, parts_of}
use Rattle.tinyjson_schema_keywords.specs.Subschemas.{way_of, part_seen, all_parts, InSchema, in_schema, schema_members, members_among}
use Rattle.tinyjson_schema_keywords.specs.Subschemas.{members_of_items, members_of_entries, members_by_form, own_member}
use Rattle.tinyjson_schema_keywords.specs.Subschemas.{seen, all_seen, Gathers}
use Rattle.tinyjson_schema_keywords.specs.declared.keyword.Form.{Form}
use Rattle.tinyjson_schema_keywords.specs.declared.keyword.Form.TheVariants as form
use Rattle.tinyjson_schema_keywords.specs.declared.subschemas.Part.{Part}
use Rattle.tinyjson_schema_keywords.specs.declared.subschemas.SchemaMember.{SchemaMember}
use Rattle.tinyjson_schema_keywords.specs.declared.subschemas.Token.TheVariants as token
use Rattle.tinyjson_schema_keywords.proofs.Lookups.{text_bytes}
use Rattle.tinyjson_schema_keywords.proofs.Turns.{drop_item, drop_end}

-- ---- parts that are listed; F i gives those of what is left from the index i on

module _ {X : Type 0} (F : ℕ → List X → List InForm) (xs : List X) (i : ℕ) (a : List Part)
    (g : all_parts a ++ F i (drop i xs) ≡ F 0 xs) where
  pub part_listed : (x : X) (p : Part) (b : List Part) → i < length xs → x ≡ get_or xs i x → b ≡ a ++ p ∷ []
      → F i (x ∷ drop (i + 1) xs) ≡ part_seen p ∷ F (i + 1) (drop (i + 1) xs) → all_parts b ++ F (i + 1) (drop (i + 1) xs) ≡ F 0 xs
  part_listed x p b l e put one =
      let rest = F (i + 1) (drop (i + 1) xs) in
      ap (λ ys. all_parts ys ++ rest) put ∙ (ap (λ ys. ys ++ rest) (map-append part_seen a (p ∷ []))
      ∙ (append_assoc (all_parts a) (part_seen p ∷ []) rest
      ∙ (ap (λ ys. all_parts a ++ ys) (sym one ∙ sym (ap (F i) (drop_item xs i x l e))) ∙ g)))

  pub parts_listed : length xs ≤ i → F i [] ≡ [] → all_parts a ≡ F 0 xs
  parts_listed l none = sym (append-nil (all_parts a)) ∙ (ap (λ ys. all_parts a ++ ys) (sym (ap (F i) (drop_end xs i l) ∙ none)) ∙ g)

-- ---- each part is less deep

abbrev AreBelow : ℕ → List InForm → Type 0
AreBelow n [] = Unit {0}
AreBelow n (x ∷ xs) = (tree_depth x.3 < n) × AreBelow n xs

keywords_below : (n : ℕ) (ms : Members) → members_depth ms < n → AreBelow n (keyword_parts ms)
keywords_below n no_members l = tt
keywords_below n (member k w ms) l = (omega (arith, l), keywords_below n ms (omega (arith, l)))

items_below : (n i : ℕ) (ts : Items) → items_depth ts < n → AreBelow n (item_parts i ts)
items_below n i no_items l = tt
items_below n i (item t ts) l = (omega (arith, l), items_below n (suc i) ts (omega (arith, l)))

entries_below : (n : ℕ) (ms : Members) → members_depth ms < n → AreBelow n (entry_parts ms)
entries_below n no_members l = tt
entries_below n (member k w ms) l = (omega (arith, l), entries_below n ms (omega (arith, l)))

parts_below : (f : Form) (w : Tree) → AreBelow (tree_depth w) (parts_of f w)
parts_below form.Schema (object ms) = keywords_below (tree_depth (object ms)) ms (omega arith)
parts_below form.Schema _ = tt
parts_below form.Schemas (array ts) = items_below (tree_depth (array ts)) 0 ts (omega arith)
parts_below form.Schemas _ = tt
parts_below form.SchemaMap (object ms) = entries_below (tree_depth (object ms)) ms (omega arith)
parts_below form.SchemaMap _ = tt
parts_below form.PatternMap (object ms) = entries_below (tree_depth (object ms)) ms (omega arith)
parts_below form.PatternMap _ = tt
parts_below _ w = tt

below_at : (n : ℕ) (ps : List Part) (i : ℕ) (p : Part) → AreBelow n (all_parts ps) → i < length ps → p ≡ get_or ps i p
    → tree_depth (view p.value.now) < n
below_at n [] i p h l e = absurd (omega arith)
below_at n (q ∷ ps) zero p h l e = subst (λ x. tree_depth (view x.value.now) < n) (sym e) h.0
below_at n (q ∷ ps) (suc i) p h l e = below_at n ps i p h.1 (omega arith) e

pub part_depth : (f : Form) (v : JsonValue) (ps : List Part) (i : ℕ) (p : Part) → all_parts ps ≡ parts_of f (view v) → i < length ps
    → p ≡ get_or ps i p → tree_depth (view p.value.now) < tree_depth (view v)
part_depth f v ps i p h l e = below_at _ ps i p (subst (AreBelow (tree_depth (view v))) (sym h) (parts_below f (view v))) l e

-- ---- each part is there, and has the form that it needs there

-- the token is that of the way
abbrev pub IsWay : Way → List ℕ → Type 0
IsWay (by_key l) k = k ≡ l
IsWay (by_index i) k = index_of k ≡ Some i

-- each key has its tree
abbrev AreFound : (List ℕ → Option Tree) → Members → Type 0
AreFound look no_members = Unit {0}
AreFound look (member k w ms) = (look k ≡ Some w) × AreFound look ms

still_found : (q : List ℕ) (t : Tree) (all ms : Members) → find q all ≡ None → AreFound (λ k. find k all) ms
    → AreFound (λ k. find k (member q t all)) ms
still_found q t all no_members none h = tt
still_found q t all (member k w ms) none h = (by (bytes_eq k q) refl, still_found q t all ms none h.1)
  where
    by : (b : Bool) → bytes_eq k q ≡ b → find k (member q t all) ≡ Some w
    by true d = absurd (some_none w (sym h.0 ∙ (ap (λ l. find l all) ((bytes_eq-Decides k q).0 d) ∙ none)))
    by false d = ap (λ b. cond b (Some t) (find k all)) d ∙ h.0

all_found : (ms : Members) → IsSorted ms → AreFound (λ k. find k ms) ms
all_found no_members s = tt
all_found (member q t ms) s = (found_first q t ms, still_found q t ms ms (find_below q ms s.0 s.1) (all_found ms s.1))

-- a part of w, which needs the form f
abbrev IsPart : Form → Tree → InForm → Type 0
IsPart f w x = (k : List ℕ) → IsWay x.0 k → (step w k ≡ Some x.3) × (form_in f k ≡ x.2)

abbrev ArePartsOf : Form → Tree → List InForm → Type 0
ArePartsOf f w [] = Unit {0}
ArePartsOf f w (x ∷ xs) = IsPart f w x × ArePartsOf f w xs

keywords_there : (all ms : Members) → AreFound (λ k. find k all) ms → ArePartsOf form.Schema (object all) (keyword_parts ms)
keywords_there all no_members h = tt
keywords_there all (member k w ms) h =
    (λ l e. (ap (λ x. find x all) e ∙ h.0, ap (λ x. form_at (encode_utf8_all x)) e), keywords_there all ms h.1)

entries_there : (all ms : Members) → AreFound (λ k. find k all) ms → ArePartsOf form.SchemaMap (object all) (entry_parts ms)
entries_there all no_members h = tt
entries_there all (member k w ms) h = (λ l e. (ap (λ x. find x all) e ∙ h.0, refl), entries_there all ms h.1)

patterns_there : (all ms : Members) → AreFound (λ k. find k all) ms → ArePartsOf form.PatternMap (object all) (entry_parts ms)
patterns_there all no_members h = tt
patterns_there all (member k w ms) h = (λ l e. (ap (λ x. find x all) e ∙ h.0, refl), patterns_there all ms h.1)

-- those from the index i on are the items of the rest
abbrev AreItems : Items → ℕ → Items → Type 0
AreItems all i no_items = Unit {0}
AreItems all i (item t ts) = (nth all i ≡ Some t) × AreItems all (suc i) ts

later_items : (u : Tree) (all : Items) (i : ℕ) (ts : Items) → AreItems all i ts → AreItems (item u all) (suc i) ts
later_items u all i no_items h = tt
later_items u all i (item t ts) h = (h.0, later_items u all (suc i) ts h.1)

all_items : (ts : Items) → AreItems ts 0 ts
all_items no_items = tt
all_items (item t ts) = (refl, later_items t ts 0 ts (all_items ts))

items_there : (all : Items) (i : ℕ) (ts : Items) → AreItems all i ts → ArePartsOf form.Schemas (array all) (item_parts i ts)
items_there all i no_items h = tt
items_there all i (item t ts) h = (λ l e. (ap (item_of all) e ∙ h.0, refl), items_there all (suc i) ts h.1)

parts_there : (f : Form) (w : Tree) → IsTree w → ArePartsOf f w (parts_of f w)
parts_there form.Schema (object ms) h = keywords_there ms ms (all_found ms h.1)
parts_there form.Schema _ h = tt
parts_there form.Schemas (array ts) h = items_there ts 0 ts (all_items ts)
parts_there form.Schemas _ h = tt
parts_there form.SchemaMap (object ms) h = entries_there ms ms (all_found ms h.1)
parts_there form.SchemaMap _ h = tt
parts_there form.PatternMap (object ms) h = patterns_there ms ms (all_found ms h.1)
parts_there form.PatternMap _ h = tt
parts_there _ w h = tt

there_at : (f : Form) (w : Tree) (ps : List Part) (i : ℕ) (p : Part) → ArePartsOf f w (all_parts ps) → i < length ps → p ≡ get_or ps i p
    → IsPart f w (part_seen p)
there_at f w [] i p h l e = absurd (omega arith)
there_at f w (q ∷ ps) zero p h l e = subst (λ x. IsPart f w (part_seen x)) (sym e) h.0
there_at f w (q ∷ ps) (suc i) p h l e = there_at f w ps i p h.1 (omega arith) e

pub part_step : (f : Form) (v : JsonValue) (ps : List Part) (i : ℕ) (p : Part) → all_parts ps ≡ parts_of f (view v) → i < length ps
    → p ≡ get_or ps i p → (k : List ℕ) → IsWay (way_of p.token) k → (step (view v) k ≡ Some (view p.value.now)) × (form_in f k ≡ p.form)
part_step f v ps i p h l e = there_at f (view v) ps i p (subst (ArePartsOf f (view v)) (sym h) (parts_there f (view v) (view_IsTree v))) l e

-- ---- the members of the schemas in the parts of a value s of the form f

abbrev pub members_of_parts : Form → Tree → List InForm → List InSchema
members_of_parts f s [] = []
members_of_parts f s (x ∷ xs) = own_member f s x ++ (members_by_form x.2 x.3 ++ members_of_parts f s xs)

among_keywords : (s : Tree) (ms : Members) → members_of_parts form.Schema s (keyword_parts ms) ≡ members_among s ms
among_keywords s no_members = refl
among_keywords s (member k w ms) = ap (λ l. in_schema s (encode_utf8_all k) w ∷ (members_by_form (form_at (encode_utf8_all k)) w ++ l))
    (among_keywords s ms)

among_items : (s : Tree) (i : ℕ) (ts : Items) → members_of_parts form.Schemas s (item_parts i ts) ≡ members_of_items ts
among_items s i no_items = refl
among_items s i (item t ts) = ap (λ l. schema_members t ++ l) (among_items s (suc i) ts)

among_entries : (s : Tree) (ms : Members) → members_of_parts form.SchemaMap s (entry_parts ms) ≡ members_of_entries ms
among_entries s no_members = refl
among_entries s (member k w ms) = ap (λ l. schema_members w ++ l) (among_entries s ms)

among_patterns : (s : Tree) (ms : Members) → members_of_parts form.PatternMap s (entry_parts ms) ≡ members_of_entries ms
among_patterns s no_members = refl
among_patterns s (member k w ms) = ap (λ l. schema_members w ++ l) (among_patterns s ms)

pub among_parts : (f : Form) (s : Tree) → members_of_parts f s (parts_of f s) ≡ members_by_form f s
among_parts form.Schema (object ms) = among_keywords (object ms) ms
among_parts form.Schema _ = refl
among_parts form.Schemas (array ts) = among_items (array ts) 0 ts
among_parts form.Schemas _ = refl
among_parts form.SchemaMap (object ms) = among_entries (object ms) ms
among_parts form.SchemaMap _ = refl
among_parts form.PatternMap (object ms) = among_patterns (object ms) ms
among_parts form.PatternMap _ = refl
among_parts _ s = refl

-- a part that is a member of a schema
pub own_gathered : (f : Form) (s : Tree) (p : Part) (n : Bor (String Global)) (m : SchemaMember) (a b : List SchemaMember)
    → f ≡ form.Schema → p.token ≡ token.Key n → seen m ≡ (s, string_bytes n.now, p.keyword, view p.value.now) → b ≡ a ++ m ∷ []
    → Gathers (own_member f s (part_seen p)) a b
own_gathered f s p n m a b e h same put =
    let own : seen m ≡ (s, encode_utf8_all (text n.now), p.keyword, view p.value.now)
    = same ∙ ap (λ k. (s, k, p.keyword, view p.value.now)) (text_bytes n.now (string_bytes n.now) refl) in
    ap all_seen put ∙ (map-append seen a (m ∷ []) ∙ ap (λ x. all_seen a ++ x) (ap (λ x. x ∷ []) own
    ∙ sym (ap (λ g. own_member g s (part_seen p)) e
    ∙ ap (λ y. own_member form.Schema s (way_of y, p.keyword, p.form, view p.value.now)) h)))

-- ---- the loop

-- Of all these the rest is left.
abbrev pub IsLeft : List InSchema → List InSchema → List SchemaMember → List SchemaMember → Type 0
IsLeft all rest old now = all_seen now ++ rest ≡ all_seen old ++ all

turn : (all ks rest : List InSchema) (s a b : List SchemaMember) → IsLeft all (ks ++ rest) s a → Gathers ks a b → IsLeft all rest s b
turn all ks rest s a b g h = ap (λ l. l ++ rest) h ∙ (append_assoc (all_seen a) ks rest ∙ g)

ended : (all rest : List InSchema) (s a : List SchemaMember) → IsLeft all rest s a → rest ≡ [] → Gathers all s a
ended all rest s a g e = sym (append-nil (all_seen a)) ∙ (ap (λ l. all_seen a ++ l) (sym e) ∙ g)

module _ (f : Form) (w : Tree) (ps : List Part) (i : ℕ) (s a : List SchemaMember)
    (g : IsLeft (members_of_parts f w (all_parts ps)) (members_of_parts f w (all_parts (drop i ps))) s a) where
  pub part_gathered : (p : Part) (b c : List SchemaMember) → i < length ps → p ≡ get_or ps i p
      → Gathers (own_member f w (part_seen p)) a b → Gathers (members_by_form p.form (view p.value.now)) b c
      → IsLeft (members_of_parts f w (all_parts ps)) (members_of_parts f w (all_parts (drop (i + 1) ps))) s c
  part_gathered p b c l e own inner =
      let all = members_of_parts f w (all_parts ps) in
      let rest = members_of_parts f w (all_parts (drop (i + 1) ps)) in
      turn all (members_by_form p.form (view p.value.now)) rest s b c
      (turn all (own_member f w (part_seen p)) (members_by_form p.form (view p.value.now) ++ rest) s a b
      (subst (λ xs. IsLeft all (members_of_parts f w (all_parts xs)) s a) (drop_item ps i p l e) g) own) inner

  pub parts_gathered : (qs : List Part) → length ps ≤ i → ps ≡ qs → all_parts qs ≡ parts_of f w → Gathers (members_by_form f w) s a
  parts_gathered qs l same all = subst (λ ks. Gathers ks s a)
      (ap (λ xs. members_of_parts f w (all_parts xs)) same ∙ (ap (members_of_parts f w) all ∙ among_parts f w))
      (ended _ _ s a g (ap (λ xs. members_of_parts f w (all_parts xs)) (drop_end ps i l)))
