-- No schema of a bundled document with copies has a plain name.
use Rattle.std.proofs.Common.{◌≡◌, ℕ, suc, Bool, true, false, ◌&&◌, List, [], ◌∷◌, ◌++◌, Option, Some, None}
use Rattle.std.proofs.Common.{cond, refl, sym, ◌∙◌, true≢false, subst, option_map, encode_utf8_all, bytes_eq, chars, codes}
use Rattle.std.proofs.lemmas.Bool.{and_parts}
use Rattle.std.proofs.lemmas.Option.{same_Some}
use Rattle.std.proofs.lemmas.Str.{IsUtf8-nil}
use Rattle.std.specs.Prelude.{⊤, option_and_then}
use Rattle.std.specs.Str.{IsUtf8, is_utf8}
use Rattle.tinyjson.specs.Tree.{Tree, string, array, object, Items, no_items, item, Members, no_members, member, find, put}
use Rattle.tinyjson_number.specs.Numeral.{power_width}
use Rattle.tinyjson_grammar.specs.Soundness.{IsTree, AreItemsAt, AreMembersAt}
use Rattle.tinyjson_pointer.specs.Index.{index_of}
use Rattle.tinyjson_pointer.specs.Text.{pointer_tokens}
use Rattle.tinyjson_pointer.specs.Walk.{step, part_at, item_of}
use Rattle.tinyjson_schema_keywords.specs.Anchors.{anchors_in, anchored, is_plain_name}
use Rattle.tinyjson_schema_keywords.specs.Forms.{form_at}
use Rattle.tinyjson_schema_keywords.specs.Names.{name}
use Rattle.tinyjson_schema_keywords.specs.References.{percent_decoded, schema_from, form_after, is_schema_form, at_pointer}
use Rattle.tinyjson_schema_keywords.specs.Subschemas.{schema_members, members_among, members_of_entries}
use Rattle.tinyjson_schema_keywords.specs.declared.keyword.Form.{Form}
use Rattle.tinyjson_schema_keywords.specs.declared.keyword.Form.TheVariants as form
use Rattle.tinyjson_schema_keywords.specs.declared.keyword.Keyword.TheVariants as kw
use Rattle.tinyjson_schema_bundle.specs.Bundles.{Marked, marks_of, base_in, at_key, at_index, is_resource}
use Rattle.tinyjson_schema_bundle.specs.Bundles.{resource_marks, name_kind, name_marks, reference_marks, is_fragment, marks_by}
use Rattle.tinyjson_schema_bundle.specs.Bundles.{marks_in, marks_among, marks_in_list, marks_in_map, marks_of_items, marks_of_members}
use Rattle.tinyjson_schema_bundle.specs.Bundles.{pointed_among, pointed_members, put_some}
use Rattle.tinyjson_schema_bundle.specs.Scopes.{Reached, from_root, is_resource_mark, is_within, is_between, innermost, home, letters}
use Rattle.tinyjson_schema_bundle.specs.Scopes.{schema_there, copy_by, copy_key, put_copies, defs_in, with_defs}
use Rattle.tinyjson_schema_bundle.specs.declared.mark.Kind.TheVariants as kind
use Rattle.tinyjson_schema_laws.proofs.Pointed.{form_named}
use Rattle.tinyjson_schema_laws.proofs.Unnamed.{Unnamed, Inner, none_anchored, put_unnamed, entry_unnamed, text_in, in_schema, among}
use Rattle.tinyjson_schema_laws.proofs.Unnamed.{of_members}
use Rattle.tinyjson_schema_laws.proofs.Walk.{found_sound, nth_sound}
use Rattle.tinyjson_schema_laws.proofs.Whole.{defs, leading, copy, whole}

no_some : {A B : Type 0} (v : A) → None ≡ Some v → B
no_some v e = absurd (let none : None ≡ Some v = e in cc)

-- ---- the URIs of resources are texts

abbrev AreTexts : List Marked → Type 0
AreTexts [] = ⊤
AreTexts (m ∷ ms) = (is_resource_mark m.0 ≡ true → IsUtf8 m.1) × AreTexts ms

both : (ms ns : List Marked) → AreTexts ms → AreTexts ns → AreTexts (ms ++ ns)
both [] ns g h = h
both (m ∷ ms) ns g h = (g.0, both ms ns g.1 h)

resources : (b p : List ℕ) (s : Tree) → IsUtf8 b → AreTexts (resource_marks b p s)
resources b p s u = by (is_resource p s)
  where
    by : (x : Bool) → AreTexts (cond x ((kind.Resource, b, p) ∷ []) [])
    by true = (λ h. u, tt)
    by false = tt

names : (key b p : List ℕ) (w : Tree) → AreTexts (name_marks (name_kind key) b p w)
names key b p (string cs) = (λ h. absurd (true≢false (sym h ∙ by (bytes_eq key (name kw.DynamicAnchor)))), tt)
  where
    by : (x : Bool) → is_resource_mark (cond x kind.DynamicName kind.Name) ≡ false
    by true = refl
    by false = refl
names key b p _ = tt

references : (p : List ℕ) (w : Tree) → AreTexts (reference_marks p w)
references p (string cs) = (λ h. absurd (true≢false (sym h ∙ by (is_fragment (encode_utf8_all cs)))), tt)
  where
    by : (x : Bool) → is_resource_mark (cond x kind.Inside kind.Outside) ≡ false
    by true = refl
    by false = refl
references p _ = tt

by_form : (f : Form) (ns rs one list entries : List Marked) → AreTexts ns → AreTexts rs → AreTexts one → AreTexts list → AreTexts entries
    → AreTexts (marks_by f ns rs one list entries)
by_form form.Anchor ns rs one list entries n r o l e = n
by_form form.Reference ns rs one list entries n r o l e = r
by_form form.Schema ns rs one list entries n r o l e = o
by_form form.Schemas ns rs one list entries n r o l e = l
by_form form.SchemaMap ns rs one list entries n r o l e = e
by_form form.PatternMap ns rs one list entries n r o l e = e
by_form _ ns rs one list entries n r o l e = tt

mutual
  texts_in : (b p : List ℕ) (w : Tree) → IsUtf8 b → IsTree w → AreTexts (marks_in b p w)
  texts_in b p (object ns) u h = both (resource_marks (base_in b (object ns)) p (object ns)) (marks_among (base_in b (object ns)) p ns)
      (resources (base_in b (object ns)) p (object ns) (text_in b ns u h.0)) (texts_among (base_in b (object ns)) p ns (text_in b ns u h.0)
      h.0)
  texts_in b p _ u h = tt

  texts_among : (b p : List ℕ) (ms : Members) → IsUtf8 b → AreMembersAt power_width ms → AreTexts (marks_among b p ms)
  texts_among b p no_members u h = tt
  texts_among b p (member k w ms) u h = both _ (marks_among b p ms)
      (by_form (form_at (encode_utf8_all k)) _ _ _ _ _ (names (encode_utf8_all k) b p w) (references p w)
      (texts_in b (at_key p k) w u h.1) (texts_in_list b (at_key p k) w u h.1) (texts_in_map b (at_key p k) w u h.1))
      (texts_among b p ms u h.2)

  texts_in_list : (b p : List ℕ) (w : Tree) → IsUtf8 b → IsTree w → AreTexts (marks_in_list b p w)
  texts_in_list b p (array ts) u h = texts_of_items b p 0 ts u h
  texts_in_list b p _ u h = tt

  texts_in_map : (b p : List ℕ) (w : Tree) → IsUtf8 b → IsTree w → AreTexts (marks_in_map b p w)
  texts_in_map b p (object ms) u h = texts_of_members b p ms u h.0
  texts_in_map b p _ u h = tt

  texts_of_items : (b p : List ℕ) (i : ℕ) (ts : Items) → IsUtf8 b → AreItemsAt power_width ts → AreTexts (marks_of_items b p i ts)
  texts_of_items b p i no_items u h = tt
  texts_of_items b p i (item v ts) u h = both (marks_in b (at_index p i) v) (marks_of_items b p (suc i) ts)
      (texts_in b (at_index p i) v u h.0) (texts_of_items b p (suc i) ts u h.1)

  texts_of_members : (b p : List ℕ) (ms : Members) → IsUtf8 b → AreMembersAt power_width ms → AreTexts (marks_of_members b p ms)
  texts_of_members b p no_members u h = tt
  texts_of_members b p (member k w ms) u h = both (marks_in b (at_key p k) w) (marks_of_members b p ms)
      (texts_in b (at_key p k) w u h.1) (texts_of_members b p ms u h.2)

home_text : (all : List Marked) (r : List ℕ) (ms : List Marked) (p : List ℕ) (h : List ℕ × List ℕ) → AreTexts ms → IsUtf8 h.0
    → IsUtf8 (innermost all r ms p h).0
home_text all r [] p h a u = u
home_text all r (m ∷ ms) p h a u = home_text all r ms p (cond (is_between [] p m) (m.1, m.2) h) a.1 (by (is_between [] p m) refl)
  where
    by : (b : Bool) → is_between [] p m ≡ b → IsUtf8 (cond b (m.1, m.2) h).0
    by true e = a.0 (and_parts (is_resource_mark m.0) (is_within [] m.2)
        (and_parts (is_resource_mark m.0 && is_within [] m.2) (is_within m.2 p) e).0).0
    by false e = u

-- ---- what is at a place is a tree

step_sound : (t v : Tree) (k : List ℕ) → IsTree t → step t k ≡ Some v → IsTree v
step_sound (object ms) v k h e = found_sound k ms v h.0 e
step_sound (array ts) v k h e = by (index_of k) e
  where
    by : (o : Option ℕ) → item_of ts o ≡ Some v → IsTree v
    by None f = no_some v f
    by (Some i) f = nth_sound ts i v h f
step_sound _ v k h e = no_some v e

part_sound : (ks : List (List ℕ)) (t v : Tree) → IsTree t → part_at t ks ≡ Some v → IsTree v
part_sound [] t v h e = subst IsTree (same_Some t v e) h
part_sound (k ∷ ks) t v h e = by (λ u. part_sound ks u v) (step t k) refl e
  where
    by : ((u : Tree) → IsTree u → part_at u ks ≡ Some v → IsTree v) → (o : Option Tree) → step t k ≡ o
        → option_and_then (λ u. part_at u ks) o ≡ Some v → IsTree v
    by later None f g = no_some v g
    by later (Some u) f g = later u (step_sound t u k h f) g

there_sound : (t v : Tree) (p : List ℕ) → IsTree t → schema_there t p ≡ Some v → IsTree v
there_sound t v p h e = by (percent_decoded p) e
  where
    tokens : (ks : List (List ℕ)) (x : Bool) → cond x (part_at t ks) None ≡ Some v → IsTree v
    tokens ks true f = part_sound ks t v h f
    tokens ks false f = no_some v f

    pointer : (o : Option (List (List ℕ))) → option_and_then (schema_from t) o ≡ Some v → IsTree v
    pointer None f = no_some v f
    pointer (Some ks) f = tokens ks (is_schema_form (form_after form.Schema ks)) f

    text : (bs : List ℕ) (x : Bool) → cond x (at_pointer t (chars bs)) None ≡ Some v → IsTree v
    text bs true f = pointer (pointer_tokens (chars bs)) f
    text bs false f = no_some v f

    by : (o : Option (List ℕ)) → option_and_then (λ bs. cond (is_utf8 bs) (at_pointer t (chars bs)) None) o ≡ Some v → IsTree v
    by None f = no_some v f
    by (Some bs) f = text bs (is_utf8 bs) f

-- ---- the bundled document

module _ (ms : Members) (copies : List Reached) (sound : IsTree (object ms)) where
  abbrev t : Tree
  t = object ms

  abbrev r : List ℕ
  r = base_in [] t

  abbrev at_home : Reached → List ℕ
  at_home s = (home (marks_of t) r s.1).0

  root_text : IsUtf8 r
  root_text = text_in [] ms IsUtf8-nil sound.0

  copy_unnamed : (s : Reached) (w : Tree) → copy t copies s ≡ Some w → Unnamed (schema_members w)
  copy_unnamed s w e = by (schema_there t s.1) (λ v. there_sound t v s.1 sound) e
    where
      by : (o : Option Tree) → ((v : Tree) → o ≡ Some v → IsTree v) → copy_by (leading t copies s) (at_home s) s.1 o ≡ Some w
          → Unnamed (schema_members w)
      by (Some (object ns)) h f = subst (λ x. Unnamed (schema_members x))
          (same_Some (object (pointed_among (leading t copies s) (at_home s) s.1 ns)) w f)
          (among (leading t copies s) (object (pointed_among (leading t copies s) (at_home s) s.1 ns)) (at_home s) s.1 ns
          (home_text (marks_of t) r (marks_of t) s.1 (r, []) (texts_in [] [] t IsUtf8-nil sound) root_text) (h (object ns) refl).0)
      by None h f = no_some w f
      by (Some _) h f = no_some w f

  some_copy : (k : List ℕ) (o : Option Tree) (ds : Members) → ((w : Tree) → o ≡ Some w → Unnamed (schema_members w))
      → Unnamed (members_of_entries ds) → Unnamed (members_of_entries (put_some k o ds))
  some_copy k None ds h g = g
  some_copy k (Some w) ds h g = entry_unnamed k w ds (h w refl) g

  copies_unnamed : (ss : List Reached) (i : ℕ) (ds : Members) → Unnamed (members_of_entries ds)
      → Unnamed (members_of_entries (put_copies (copy t copies) (letters t) i ss ds))
  copies_unnamed [] i ds g = g
  copies_unnamed (s ∷ ss) i ds g = copies_unnamed ss (suc i) (put_some (chars (copy_key (letters t) i)) (copy t copies s) ds)
      (some_copy (chars (copy_key (letters t) i)) (copy t copies s) ds (copy_unnamed s) g)

  main_unnamed : (s : Tree) → Unnamed (members_among s (pointed_among (leading t copies from_root) r [] ms))
  main_unnamed s = among (leading t copies from_root) s r [] ms root_text sound.0

  defs_unnamed : (ds : Members) → Unnamed (members_of_entries ds)
      → Unnamed (schema_members (object (put defs (object ds) (pointed_among (leading t copies from_root) r [] ms))))
  defs_unnamed ds g = put_unnamed (object (put defs (object ds) (pointed_among (leading t copies from_root) r [] ms))) defs (object ds)
      (pointed_among (leading t copies from_root) r [] ms)
      (subst (λ f. Inner f (object ds)) (sym (form_named kw.Defs)) (tt, g))
      (main_unnamed (object (put defs (object ds) (pointed_among (leading t copies from_root) r [] ms))))

  with_unnamed : (ss : List Reached) (o : Option Tree) → ((v : Tree) → o ≡ Some v → IsTree v)
      → Unnamed (schema_members (with_defs (option_map (put_copies (copy t copies) (letters t) 0 ss)
      (defs_in (leading t copies from_root) r o)) (object (pointed_among (leading t copies from_root) r [] ms))))
  with_unnamed ss None h = defs_unnamed (put_copies (copy t copies) (letters t) 0 ss no_members) (copies_unnamed ss 0 no_members tt)
  with_unnamed ss (Some (object ds)) h =
      defs_unnamed (put_copies (copy t copies) (letters t) 0 ss (pointed_members (leading t copies from_root) r (codes "/$defs") ds))
      (copies_unnamed ss 0 (pointed_members (leading t copies from_root) r (codes "/$defs") ds)
      (of_members (leading t copies from_root) r (codes "/$defs") ds root_text (h (object ds) refl).0))
  with_unnamed ss (Some _) h = main_unnamed (object (pointed_among (leading t copies from_root) r [] ms))

whole_members : (ms : Members) (copies : List Reached) → IsTree (object ms) → Unnamed (schema_members (whole (object ms) copies))
whole_members ms [] sound = in_schema (leading (object ms) [] from_root) [] [] (object ms) IsUtf8-nil sound
whole_members ms (s ∷ ss) sound = with_unnamed ms (s ∷ ss) sound (s ∷ ss) (find defs ms) (λ v. found_sound defs ms v sound.0)

-- no reference leads to a plain name in a bundled document
pub whole_unnamed : (ms : Members) (copies : List Reached) → IsTree (object ms) → (ds : List ℕ) → is_plain_name ds ≡ true
    → anchored (anchors_in (whole (object ms) copies)) ds ≡ None
whole_unnamed ms copies sound ds e = none_anchored (schema_members (whole (object ms) copies)) ds (whole_members ms copies sound) e
