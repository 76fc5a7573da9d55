-- The values of a bundled schema's keywords, by a relation that holds for the schemas in them.
use Rattle.std.proofs.Common.{◌≡◌, ℕ, Bool, true, false, List, Option, Some, None}
use Rattle.std.proofs.Common.{refl, sym, ap, ◌∙◌, true≢false, subst, option_map, encode_utf8_all}
use Rattle.std.proofs.lemmas.Bool.{and_parts}
use Rattle.std.proofs.lemmas.Option.{same_Some}
use Rattle.tinyjson.specs.Index.{nth}
use Rattle.tinyjson.specs.Tree.{Tree, array, object, Members, find}
use Rattle.tinyjson_grammar.specs.Soundness.{IsTree}
use Rattle.tinyjson_schema_keywords.specs.Applied.{items_in, members_in}
use Rattle.tinyjson_schema_keywords.specs.Forms.{form_of, form_at, is_some_item}
use Rattle.tinyjson_schema_keywords.specs.Names.{name}
use Rattle.tinyjson_schema_keywords.specs.declared.keyword.Form.{Form}
use Rattle.tinyjson_schema_keywords.specs.declared.keyword.Form.TheVariants as form
use Rattle.tinyjson_schema_keywords.specs.declared.keyword.Keyword.{Keyword}
use Rattle.tinyjson_schema_bundle.specs.Bundles.{Leads, pointed, pointed_among, pointed_list, pointed_map, pointed_items, pointed_members}
use Rattle.tinyjson_schema_bundle.specs.Bundles.{pointing, is_dynamic, at_key}
use Rattle.tinyjson_schema_laws.proofs.Leading.{lead_in, lead_among}
use Rattle.tinyjson_schema_laws.proofs.Bisimilar.{ValueRel}
use Rattle.tinyjson_schema_laws.proofs.Pointed.{is_kept, picked, changed, found_pointed, form_named, AreParts, keyword_same}
use Rattle.tinyjson_schema_laws.proofs.Walk.{Fit, Lead, fit_item, fit_entry, lead_member, lead_item, lead_entry}
use Rattle.tinyjson_schema_laws.proofs.Walk.{found_sound, nth_sound, nth_pointed, find_pointed}

-- v is a schema in the value w of a keyword with the form
abbrev pub IsIn : Form → Tree → Tree → Type 0
IsIn form.Schema w v = w ≡ v
IsIn form.Schemas w v = (i : ℕ) × (nth (items_in w) i ≡ Some v)
IsIn form.SchemaMap w v = (l : List ℕ) × (find l (members_in w) ≡ Some v)
IsIn form.PatternMap w v = (l : List ℕ) × (find l (members_in w) ≡ Some v)
IsIn _ w v = ⊥

module _ (whole : Tree) (on : List ℕ → Bool → Tree → Bool) (to : Leads) (b p : List ℕ) (ns : Members)
    (lead : lead_among on b ns ≡ true) (sound : IsTree (object ns)) (P : Tree → Tree → Type 0) where
  -- P holds for a schema in the value of the keyword, and the bundled one
  abbrev pub Holds : Keyword → Type 0
  Holds k = (w v : Tree) → find (name k) ns ≡ Some w → IsIn (form_of k) w v → (q : List ℕ) (r : Tree) → r ≡ pointed to b q v → IsTree v
      → lead_in on b v ≡ true → Fit whole form.Schema r → P v r

  abbrev HoldsIn : Form → Tree → Type 0
  HoldsIn f w = (v : Tree) → IsIn f w v → (q : List ℕ) (r : Tree) → r ≡ pointed to b q v → IsTree v → lead_in on b v ≡ true
      → Fit whole form.Schema r → P v r

  abbrev made : Form → List ℕ → Tree → Tree → Tree
  made f q x w = picked f w x (pointed to b q w) (pointed_list to b q w) (pointed_map to b q w)

  abbrev AreIn : Form → Tree → Tree → Type 0
  AreIn = AreParts P to b

  some_made : (f : Tree → Tree) (o r : Option Tree) (w v : Tree) → r ≡ option_map f o → o ≡ Some w → r ≡ Some v → v ≡ f w
  some_made f o r w v e g i = same_Some v (f w) (sym i ∙ (e ∙ ap (option_map f) g))

  no_tree : (x : Tree) → None ≡ Some x → ⊥
  no_tree x e = cc

  list_parts : (q : List ℕ) (w : Tree) → HoldsIn form.Schemas w → IsTree w → Lead on form.Schemas b w
      → Fit whole form.Schemas (pointed_list to b q w) → AreIn form.Schemas w (pointed_list to b q w)
  list_parts q (array ts) h s l f = λ j x v e g.
      let n = nth_pointed whole on to b q 0 ts j in
      h x (j, e) n.0 v (some_made (pointed to b n.0) (nth ts j) _ x v n.1 e g) (nth_sound ts j x s e) (lead_item on b ts j x l e)
      (fit_item whole (pointed_items to b q 0 ts) j v (and_parts (is_some_item (pointed_items to b q 0 ts)) _ f).1 g)
  list_parts q _ h s l f = λ j x v e g. absurd (no_tree x e)

  map_parts : (q : List ℕ) (w : Tree) → HoldsIn form.SchemaMap w → IsTree w → Lead on form.SchemaMap b w
      → Fit whole form.SchemaMap (pointed_map to b q w) → AreIn form.SchemaMap w (pointed_map to b q w)
  map_parts q (object es) h s l f = (
    s.1,
    λ k x v e g. h x (k, e) (at_key q k) v (some_made (pointed to b (at_key q k)) (find k es) _ x v (find_pointed whole on to b q k es) e g)
        (found_sound k es x s.0 e) (lead_entry on b k es x l e) (fit_entry whole k (pointed_members to b q es) v f g),
  )
  map_parts q _ h s l f = (tt, λ k x v e g. absurd (no_tree x e))

  parts_ready : (f : Form) (q : List ℕ) (w x : Tree) → HoldsIn f w → IsTree w → Lead on f b w → Fit whole f (made f q x w)
      → AreIn f w (made f q x w)
  parts_ready form.Schema q w x h s l f = h w refl q (pointed to b q w) refl s l f
  parts_ready form.Schemas q w x h s l f = list_parts q w h s l f
  parts_ready form.SchemaMap q w x h s l f = map_parts q w h s l f
  parts_ready form.PatternMap q w x h s l f = map_parts q w h s l f
  parts_ready _ q w x h s l f = tt

  dead_parts : (f : Form) (w x : Tree) → is_kept f ≡ false → AreIn f w x
  dead_parts form.Base w x e = tt
  dead_parts form.Anchor w x e = tt
  dead_parts _ w x e = absurd (true≢false e)

  abbrev referring : Keyword → Tree → Tree
  referring k w = pointing to (is_dynamic (encode_utf8_all (name k))) b w

  module _ (k : Keyword) (holds : Holds k) (fits : (v : Tree) → find (name k) (pointed_among to b p ns) ≡ Some v
      → Fit whole (form_at (encode_utf8_all (name k))) v) where
    keyword_parts : (w : Tree) → find (name k) ns ≡ Some w → AreIn (form_of k) w (made (form_of k) (at_key p (name k)) (referring k w) w)
    keyword_parts w e = by (is_kept (form_of k)) refl
      where
        by : (x : Bool) → is_kept (form_of k) ≡ x → AreIn (form_of k) w (made (form_of k) (at_key p (name k)) (referring k w) w)
        by false g = dead_parts (form_of k) w _ g
        by true g = parts_ready (form_of k) (at_key p (name k)) w (referring k w) (λ v. holds w v e) (found_sound (name k) ns w sound.0 e)
            (subst (λ f. Lead on f b w) (form_named k) (lead_member on b (name k) ns w lead e))
            (subst (λ f. Fit whole f (made f (at_key p (name k)) (referring k w) w)) (form_named k)
            (fits _ (found_pointed to b p (name k) ns (ap is_kept (form_named k) ∙ g) ∙ ap (option_map (changed to b p (name k))) e)))

    -- the keyword's values, of the schema and of the bundled one
    pub keyword_related : ValueRel P (form_of k) (find (name k) ns) (find (name k) (pointed_among to b p ns))
    keyword_related = keyword_same P to b p ns k keyword_parts
