-- Anchors that are gathered, one after the other, and their names.
use Rattle.std.proofs.Common.{◌≡◌, ◌∷◌, [], ◌++◌, ℕ, suc, ◌<◌, ◌≤◌, ◌+◌, ◌-◌, Bool, true, false, not, ◌&&◌, cond, List, Option, Some}
use Rattle.std.proofs.Common.{String, Global, length, get_or, bytes_eq, drop, is_some, string_bytes}
use Rattle.std.proofs.Common.{refl, sym, ap, ◌∙◌, subst, append_assoc, append-nil, arith}
use Rattle.std.proofs.lemmas.Bool.{and_parts}
use Rattle.std.proofs.lemmas.List.{map-append}
use Rattle.std.proofs.lemmas.Map.Text.{btree_set_updates_text}
use Rattle.std.proofs.lemmas.Slice.Eq.{bytes_eq-Decides}
use Rattle.std.specs.BTreeSet as sorted
use Rattle.std.specs.BTreeSet.{BTreeSet}
use Rattle.std.specs.String.{string_cmp}
use Rattle.tinyjson.proofs.Callers.{view_String}
use Rattle.tinyjson.specs.Equality.{tree_eq_Decides}
use Rattle.tinyjson.specs.Tree.{Tree}
use Rattle.tinyjson.specs.View.{view}
use Rattle.tinyjson.specs.declared.value.JsonValue.{JsonValue}
use Rattle.tinyjson.specs.declared.value.JsonValue.TheVariants as is
use Rattle.tinyjson_schema_keywords.specs.Anchors.{Named, anchors_in, anchors_among, anchors_of}
use Rattle.tinyjson_schema_keywords.specs.Anchors.{own_anchors, is_plain_name, is_name, is_own_name, anchored, repeated, named, all_named}
use Rattle.tinyjson_schema_keywords.specs.Anchors.{are_same, has_anchors, Gathers}
use Rattle.tinyjson_schema_keywords.specs.Subschemas.{seen, all_seen}
use Rattle.tinyjson_schema_keywords.specs.declared.anchor.Anchor.{Anchor}
use Rattle.tinyjson_schema_keywords.specs.declared.subschemas.SchemaMember.{SchemaMember}
use Rattle.tinyjson_schema_keywords.proofs.Lookups.{text_bytes}
use Rattle.tinyjson_schema_keywords.proofs.Turns.{drop_item, drop_suc, drop_end}

-- ---- what is known of a list

same_refl : (ns : List Named) → are_same ns ns ≡ true
same_refl [] = refl
same_refl (n ∷ ns) =
    λ i. (bytes_eq-Decides n.0 n.0).1 refl i && ((tree_eq_Decides n.1 n.1).1 refl i && same_refl ns i)

same_path : (ns ms : List Named) → are_same ns ms ≡ true → ns ≡ ms
same_path [] [] h = refl
same_path [] (m ∷ ms) h = cc
same_path (n ∷ ns) [] h = cc
same_path (n ∷ ns) (m ∷ ms) h =
    let a = and_parts _ _ h in
    let b = and_parts _ _ a.1 in
    let name : n.0 ≡ m.0 = (bytes_eq-Decides n.0 m.0).0 a.0 in
    let schema : n.1 ≡ m.1 = (tree_eq_Decides n.1 m.1).0 b.0 in
    let rest : ns ≡ ms = same_path ns ms b.1 in
    λ i. (name i, schema i) ∷ rest i

pub anchors_known : (root : Tree) (xs : List Anchor) → has_anchors root xs ≡ true → all_named xs ≡ anchors_in root
anchors_known root xs h = same_path (all_named xs) (anchors_in root) h

pub anchors_had : (root : Tree) (xs : List Anchor) → all_named xs ≡ anchors_in root → has_anchors root xs ≡ true
anchors_had root xs e = ap (λ ns. are_same ns (anchors_in root)) e ∙ same_refl (anchors_in root)

-- one that was put to the others
pub own_gathered : (v : JsonValue) (name : String Global) (a : Anchor) (s : Tree) (old : List Anchor) → v ≡ is.String name
    → named a ≡ (string_bytes name, s) → Gathers (own_anchors s (view v)) old (old ++ a ∷ [])
own_gathered v name a s old e h =
    map-append named old (a ∷ [])
    ∙ ap (λ ns. all_named old ++ ns) (ap (λ n. n ∷ []) (h ∙ ap (λ bs. (bs, s)) (text_bytes name (string_bytes name) refl))
    ∙ ap (own_anchors s) (sym (ap view e ∙ view_String name)))

-- ---- the loops

-- Of all these the rest is left.
abbrev pub IsLeft : List Named → List Named → List Anchor → List Anchor → Type 0
IsLeft all rest old now = all_named now ++ rest ≡ all_named old ++ all

turn : (all ks rest : List Named) (s a b : List Anchor) → IsLeft all (ks ++ rest) s a → Gathers ks a b → IsLeft all rest s b
turn all ks rest s a b g h = ap (λ l. l ++ rest) h ∙ (append_assoc (all_named a) ks rest ∙ g)

ended : (all rest : List Named) (s a : List Anchor) → IsLeft all rest s a → rest ≡ [] → Gathers all s a
ended all rest s a g e = sym (append-nil (all_named a)) ∙ (ap (λ l. all_named a ++ l) (sym e) ∙ g)

module _ (ms : List SchemaMember) (i : ℕ) (s a : List Anchor)
    (g : IsLeft (anchors_among (all_seen ms)) (anchors_among (all_seen (drop i ms))) s a) where
  pub member_gathered : (m : SchemaMember) (b : List Anchor) → i < length ms → m ≡ get_or ms i m → Gathers (anchors_of (seen m)) a b
      → IsLeft (anchors_among (all_seen ms)) (anchors_among (all_seen (drop (i + 1) ms))) s b
  member_gathered m b l e h = turn _ (anchors_of (seen m)) (anchors_among (all_seen (drop (i + 1) ms))) s a b
      (subst (λ xs. IsLeft (anchors_among (all_seen ms)) (anchors_among (all_seen xs)) s a) (drop_item ms i m l e) g) h

  pub members_gathered : length ms ≤ i → Gathers (anchors_among (all_seen ms)) s a
  members_gathered l = ended _ _ s a g (ap (λ xs. anchors_among (all_seen xs)) (drop_end ms i l))

-- ---- names, from the last one on

-- The set has exactly the names of these.
abbrev pub HasNames : List Named → BTreeSet (String Global) → Type 0
HasNames ns names = (k : List ℕ) → sorted.contains_text names k ≡ is_some (anchored ns k)

pub no_names : (names : BTreeSet (String Global)) → names.keys ≡ [] → HasNames [] names
no_names names e k = ap (λ s. sorted.contains_text s k) (is e)
  where
    is : names.keys ≡ [] → names ≡ record { keys = [] }
    is e = ap (λ ks. record { keys = ks }) e

some_cond : (b : Bool) (t : Tree) (o : Option Tree) → cond b true (is_some o) ≡ is_some (cond b (Some t) o)
some_cond true t o = refl
some_cond false t o = refl

pub name_put : (n : Named) (ns : List Named) (key : String Global) (s new : BTreeSet (String Global)) → string_bytes key ≡ n.0
    → sorted.Updates string_cmp s new key true → HasNames ns s → HasNames (n ∷ ns) new
name_put n ns key s new e u h k =
    btree_set_updates_text (string_bytes key) s new true u k
    ∙ (ap (λ bs. cond (bytes_eq bs k) true (sorted.contains_text s k)) e
    ∙ (ap (λ b. cond (bytes_eq n.0 k) true b) (h k) ∙ some_cond (bytes_eq n.0 k) n.1 (anchored ns k)))

-- one that is there already
pub name_kept : (n : Named) (ns : List Named) (s : BTreeSet (String Global)) → sorted.contains_text s n.0 ≡ true → HasNames ns s
    → HasNames (n ∷ ns) s
name_kept n ns s c h k = by (bytes_eq n.0 k) refl
  where
    by : (b : Bool) → bytes_eq n.0 k ≡ b → sorted.contains_text s k ≡ is_some (cond b (Some n.1) (anchored ns k))
    by true e = ap (sorted.contains_text s) (sym ((bytes_eq-Decides n.0 k).0 e)) ∙ c
    by false e = h k

pub repeated_here : (n : Named) (ns : List Named) (s : BTreeSet (String Global)) → HasNames ns s → sorted.contains_text s n.0 ≡ true
    → Some n.0 ≡ repeated (n ∷ ns)
repeated_here n ns s h c = sym (ap (λ b. cond b (Some n.0) (repeated ns)) (sym (h n.0) ∙ c))

pub repeated_later : (n : Named) (ns : List Named) (s : BTreeSet (String Global)) → HasNames ns s → sorted.contains_text s n.0 ≡ false
    → repeated ns ≡ repeated (n ∷ ns)
repeated_later n ns s h c = sym (ap (λ b. cond b (Some n.0) (repeated ns)) (sym (h n.0) ∙ c))

-- one step back, to the anchor before those that are left
module _ (xs : List Anchor) (n : ℕ) (a : Anchor) (more : 0 < n) (among : n ≤ length xs) (is : a ≡ get_or xs (n - 1) a)
    (s : BTreeSet (String Global)) (h : HasNames (all_named (drop n xs)) s)
  where
    front : all_named (drop (n - 1) xs) ≡ named a ∷ all_named (drop n xs)
    front =
        let here : n - 1 < length xs = omega (arith, more, among) in
        let next : suc (n - 1) ≡ n = omega (arith, more) in
        ap all_named (drop_suc xs (n - 1) a here is) ∙ ap (λ m. named a ∷ all_named (drop m xs)) next

    pub kept_back : sorted.contains_text s (string_bytes a.name.now) ≡ true → HasNames (all_named (drop (n - 1) xs)) s
    kept_back c = subst (λ ns. HasNames ns s) (sym front) (name_kept (named a) (all_named (drop n xs)) s c h)

    pub found_back : sorted.contains_text s (string_bytes a.name.now) ≡ true
        → Some (string_bytes a.name.now) ≡ repeated (all_named (drop (n - 1) xs))
    found_back c = repeated_here (named a) (all_named (drop n xs)) s h c ∙ ap repeated (sym front)

    pub put_back : (key : String Global) (new : BTreeSet (String Global)) → string_bytes key ≡ string_bytes a.name.now
        → sorted.Updates string_cmp s new key true → HasNames (all_named (drop (n - 1) xs)) new
    put_back key new e u = subst (λ ns. HasNames ns new) (sym front) (name_put (named a) (all_named (drop n xs)) key s new e u h)

    pub later_back : (o : Option (List ℕ)) → sorted.contains_text s (string_bytes a.name.now) ≡ false
        → o ≡ repeated (all_named (drop n xs)) → o ≡ repeated (all_named (drop (n - 1) xs))
    later_back o c e = e ∙ (repeated_later (named a) (all_named (drop n xs)) s h c ∙ ap repeated (sym front))

-- ---- a name that is taken

module _ (root : Tree) (v : JsonValue) (s : String Global) (e : v ≡ is.String s) where
  own_name : (bs : List ℕ) → bs ≡ string_bytes s
      → (is_plain_name bs && not (is_name (repeated (anchors_in root)) bs)) ≡ is_own_name root (view v)
  own_name bs h = ap (λ xs. is_plain_name xs && not (is_name (repeated (anchors_in root)) xs)) (text_bytes s bs h)
      ∙ ap (is_own_name root) (sym (ap view e ∙ view_String s))

  pub no_plain_name : (bs : List ℕ) → bs ≡ string_bytes s → is_plain_name bs ≡ false → false ≡ is_own_name root (view v)
  no_plain_name bs h f = sym (ap (λ b. b && not (is_name (repeated (anchors_in root)) bs)) f) ∙ own_name bs h

  pub plain_name : (bs cs : List ℕ) (o : Option (List ℕ)) (b : Bool) → bs ≡ string_bytes s → cs ≡ string_bytes s
      → is_plain_name bs ≡ true → o ≡ repeated (anchors_in root) → b ≡ is_name o cs → not b ≡ is_own_name root (view v)
  plain_name bs cs o b h k f r g =
      ap not (g ∙ (ap (λ x. is_name x cs) r ∙ ap (is_name (repeated (anchors_in root))) (k ∙ sym h)))
      ∙ (sym (ap (λ x. x && not (is_name (repeated (anchors_in root)) bs)) f) ∙ own_name bs h)
