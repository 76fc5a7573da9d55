-- The schemas that there are for parts, and where they stand.
use Rattle.std.proofs.Common.{◌≡◌, ◌∷◌, [], ℕ, Bool, true, false, cond, List, Option, Some, None, codes, refl, ap, ◌∙◌}
use Rattle.std.specs.Prelude.{option_and_then}
use Rattle.tinyjson.specs.Index.{tree_at, tree_at_key}
use Rattle.tinyjson.specs.Tree.{Tree, array, object}
use Rattle.tinyjson_pointer.specs.Index.{index_of}
use Rattle.tinyjson_pointer.specs.Walk.{step, part_at, item_of}
use Rattle.tinyjson_schema_keywords.specs.declared.keyword.Keyword.TheVariants as kw
use Rattle.tinyjson_schema.specs.Parts.{property, prefix_item, is_patterned, additional, member_schema, item_schema, or_else}
use Rattle.tinyjson_schema.specs.Places.{place}

some_before : (o : Option Tree) (f : Tree → Option Tree) (r : Tree) → option_and_then f o ≡ Some r
    → (p : Tree) × (o ≡ Some p) × (f p ≡ Some r)
some_before None f r h = cc
some_before (Some p) f r h = (p, refl, h)

key_step : (t : Tree) (k : List ℕ) (r : Tree) → tree_at_key t k ≡ Some r → step t k ≡ Some r
key_step (object ms) k r h = h
key_step _ k r h = cc

index_step : (t : Tree) (i : ℕ) (k : List ℕ) (r : Tree) → tree_at t i ≡ Some r → index_of k ≡ Some i → step t k ≡ Some r
index_step (array ts) i k r h n = ap (item_of ts) n ∙ h
index_step _ i k r h n = cc

one_step : (s r : Tree) (k : List ℕ) → tree_at_key s k ≡ Some r → part_at s (k ∷ []) ≡ Some r
one_step s r k h = ap (option_and_then (λ u. Some u)) (key_step s k r h)

two_steps : (s p r : Tree) (k l : List ℕ) → tree_at_key s k ≡ Some p → step p l ≡ Some r → part_at s (k ∷ l ∷ []) ≡ Some r
two_steps s p r k l h g = ap (option_and_then (λ u. option_and_then (λ v. Some v) (step u l))) (key_step s k p h)
    ∙ ap (option_and_then (λ v. Some v)) g

module _ (s : Tree) (k : List ℕ) where
  pub by_property : (r : Tree) → property s k ≡ Some r → (member_schema s k ≡ Some r) × (part_at s (place kw.Properties k) ≡ Some r)
  by_property r h =
      let f = some_before (tree_at_key s (codes "properties")) (λ p. tree_at_key p k) r h in (
        ap (λ o. or_else o (additional s k)) h,
        two_steps s f.0 r (codes "properties") k f.1 (key_step f.0 k r f.2),
      )

  -- what `additionalProperties` has for the key is all that it has
  additional_some : (r : Tree) (b : Bool) → cond b None (tree_at_key s (codes "additionalProperties")) ≡ Some r
      → tree_at_key s (codes "additionalProperties") ≡ Some r
  additional_some r true h = cc
  additional_some r false h = h

  pub by_additional : (r : Tree) → property s k ≡ None → additional s k ≡ Some r
      → (member_schema s k ≡ Some r) × (part_at s (place kw.AdditionalProperties k) ≡ Some r)
  by_additional r h g = (
    ap (λ o. or_else o (additional s k)) h ∙ g,
    one_step s r (codes "additionalProperties") (additional_some r (is_patterned s k) g),
  )

  pub no_member : property s k ≡ None → additional s k ≡ None → member_schema s k ≡ None
  no_member h g = ap (λ o. or_else o (additional s k)) h ∙ g

  none_left : (o : Option Tree) (b : Bool) → None ≡ o → None ≡ cond b None o
  none_left o true h = refl
  none_left o false h = h

  pub no_additional : None ≡ tree_at_key s (codes "additionalProperties") → None ≡ additional s k
  no_additional h = none_left (tree_at_key s (codes "additionalProperties")) (is_patterned s k) h

  -- whether a pattern is found in the key decides
  pub by_patterned : (o : Option Tree) (b : Bool) → b ≡ is_patterned s k → o ≡ tree_at_key s (codes "additionalProperties")
      → cond b None o ≡ additional s k
  by_patterned o b h g = ap (λ x. cond x None o) h ∙ ap (cond (is_patterned s k) None) g

module _ (s : Tree) (i : ℕ) where
  pub by_prefix : (r : Tree) → prefix_item s i ≡ Some r
      → (item_schema s i ≡ Some r) × ((k : List ℕ) → index_of k ≡ Some i → part_at s (place kw.PrefixItems k) ≡ Some r)
  by_prefix r h =
      let f = some_before (tree_at_key s (codes "prefixItems")) (λ p. tree_at p i) r h in (
        ap (λ o. or_else o (tree_at_key s (codes "items"))) h,
        λ k n. two_steps s f.0 r (codes "prefixItems") k f.1 (index_step f.0 i k r f.2 n),
      )

  pub by_items : (r : Tree) → prefix_item s i ≡ None → tree_at_key s (codes "items") ≡ Some r
      → (item_schema s i ≡ Some r) × ((k : List ℕ) → index_of k ≡ Some i → part_at s (place kw.Items k) ≡ Some r)
  by_items r h g = (ap (λ o. or_else o (tree_at_key s (codes "items"))) h ∙ g, λ k n. one_step s r (codes "items") g)

  pub no_item : prefix_item s i ≡ None → tree_at_key s (codes "items") ≡ None → item_schema s i ≡ None
  no_item h g = ap (λ o. or_else o (tree_at_key s (codes "items"))) h ∙ g
