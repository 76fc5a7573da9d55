-- Relations of subschemas that follow from others.
use Rattle.std.proofs.Common.{◌≡◌, ℕ, ◌≤◌, Bool, true, Option, Some, None, refl, arith}
use Rattle.std.proofs.lemmas.Bool.{and_parts}
use Rattle.std.specs.Option.{option_map_or}
use Rattle.std.specs.Prelude.{⊤}
use Rattle.tinyjson.specs.Tree.{Tree, array, object, Items, no_items, item, Members, no_members, member}
use Rattle.tinyjson_schema_keywords.specs.declared.keyword.Form.{Form}
use Rattle.tinyjson_schema_keywords.specs.declared.keyword.Form.TheVariants as form
use Rattle.tinyjson_schema.specs.Circles.{all_pass, map_passes}
use Rattle.tinyjson_schema_laws.specs.Scoped.{Scope}
use Rattle.tinyjson_schema_laws.proofs.Bisimilar.{OptRel, AllRel, MapRel, ValueRel, LedRel, listed, mapped}
use Rattle.tinyjson_schema_laws.proofs.Sizes.{size, items_size, members_size, opt_size}

-- ---- R yields S, for schemas that are no larger than what they are in

module _ (R S : Tree → Tree → Type 0) where
  opt_map : (o p : Option Tree) → ((q v : Tree) → size v ≤ opt_size p → R q v → S q v) → OptRel R o p → OptRel S o p
  opt_map None None f h = tt
  opt_map None (Some v) f h = absurd h
  opt_map (Some q) None f h = absurd h
  opt_map (Some q) (Some v) f h = f q v (omega arith) h

  all_map : (n : ℕ) → ((q v : Tree) → size v ≤ n → R q v → S q v) → (qs vs : Items) → items_size vs ≤ n → AllRel R qs vs → AllRel S qs vs
  all_map n f no_items no_items l h = tt
  all_map n f no_items (item v vs) l h = absurd h
  all_map n f (item q qs) no_items l h = absurd h
  all_map n f (item q qs) (item v vs) l h = (f q v (omega arith) h.0, all_map n f qs vs (omega arith) h.1)

  map_map : (n : ℕ) → ((q v : Tree) → size v ≤ n → R q v → S q v) → (qs vs : Members) → members_size vs ≤ n → MapRel R qs vs
      → MapRel S qs vs
  map_map n f no_members no_members l h = tt
  map_map n f no_members (member k v vs) l h = absurd h
  map_map n f (member k q qs) no_members l h = absurd h
  map_map n f (member k q qs) (member j v vs) l h = (h.0, f q v (omega arith) h.1, map_map n f qs vs (omega arith) h.2)

  listed_size : (p : Option Tree) → items_size (listed p) ≤ opt_size p
  listed_size None = omega arith
  listed_size (Some (array ts)) = omega arith
  listed_size (Some _) = omega arith

  mapped_size : (p : Option Tree) → members_size (mapped p) ≤ opt_size p
  mapped_size None = omega arith
  mapped_size (Some (object ms)) = omega arith
  mapped_size (Some _) = omega arith

  pub value_map : (f : Form) (o p : Option Tree) → ((q v : Tree) → size v ≤ opt_size p → R q v → S q v) → ValueRel R f o p
      → ValueRel S f o p
  value_map form.Base o p g h = tt
  value_map form.Anchor o p g h = tt
  value_map form.Reference o p g h = tt
  value_map form.Schema o p g h = opt_map o p g h
  value_map form.Schemas o p g h = all_map (opt_size p) g (listed o) (listed p) (listed_size p) h
  value_map form.SchemaMap o p g h = map_map (opt_size p) g (mapped o) (mapped p) (mapped_size p) h
  value_map form.PatternMap o p g h = map_map (opt_size p) g (mapped o) (mapped p) (mapped_size p) h
  value_map _ o p g h = h

pub led_map : (B C : Scope → Tree → Tree → Type 0) (o : Option Tree) (d : Option (Scope × Tree))
    → ((c : Scope) (s r : Tree) → o ≡ Some r → B c s r → C c s r) → LedRel B o d → LedRel C o d
led_map B C None None f h = tt
led_map B C None (Some d) f h = absurd h
led_map B C (Some r) None f h = absurd h
led_map B C (Some r) (Some d) f h = f d.0 d.1 r refl h

-- ---- schemas that pass a test

module _ (p : Tree → Bool) where
  -- the schemas in the value of a keyword pass it
  abbrev pub Passes : Form → Option Tree → Type 0
  Passes form.Schema x = option_map_or p x true ≡ true
  Passes form.Schemas x = all_pass p (listed x) ≡ true
  Passes form.SchemaMap x = map_passes p (mapped x) ≡ true
  Passes form.PatternMap x = map_passes p (mapped x) ≡ true
  Passes _ x = ⊤

module _ (R : Tree → Tree → Type 0) (p : Tree → Bool) where
  abbrev And : Tree → Tree → Type 0
  And q v = R q v × (p v ≡ true)

  opt_and : (o x : Option Tree) → OptRel R o x → option_map_or p x true ≡ true → OptRel And o x
  opt_and None None h e = tt
  opt_and None (Some v) h e = absurd h
  opt_and (Some q) None h e = absurd h
  opt_and (Some q) (Some v) h e = (h, e)

  all_and : (qs vs : Items) → AllRel R qs vs → all_pass p vs ≡ true → AllRel And qs vs
  all_and no_items no_items h e = tt
  all_and no_items (item v vs) h e = absurd h
  all_and (item q qs) no_items h e = absurd h
  all_and (item q qs) (item v vs) h e =
      let both = and_parts (p v) (all_pass p vs) e in ((h.0, both.0), all_and qs vs h.1 both.1)

  map_and : (qs vs : Members) → MapRel R qs vs → map_passes p vs ≡ true → MapRel And qs vs
  map_and no_members no_members h e = tt
  map_and no_members (member k v vs) h e = absurd h
  map_and (member k q qs) no_members h e = absurd h
  map_and (member k q qs) (member l v vs) h e =
      let both = and_parts (p v) (map_passes p vs) e in (h.0, (h.1, both.0), map_and qs vs h.2 both.1)

  pub value_and : (f : Form) (o x : Option Tree) → ValueRel R f o x → Passes p f x → ValueRel And f o x
  value_and form.Base o x h e = tt
  value_and form.Anchor o x h e = tt
  value_and form.Reference o x h e = tt
  value_and form.Schema o x h e = opt_and o x h e
  value_and form.Schemas o x h e = all_and (listed o) (listed x) h e
  value_and form.SchemaMap o x h e = map_and (mapped o) (mapped x) h e
  value_and form.PatternMap o x h e = map_and (mapped o) (mapped x) h e
  value_and _ o x h e = h
