-- The tree of a value that is being changed.
use Rattle.std.proofs.Common.{◌≡◌, List, [], ◌∷◌, String, Global, map, refl, sym, ap, ◌∙◌, subst, rules}
use Rattle.std.specs.BTreeMap.{BTreeMap}
use Rattle.std.specs.Box.{box_value}
use Rattle.std.specs.declared.boxed.Box.{Box}
use Rattle.std.specs.declared.collections.VecDeque.{VecDeque}
use mathlib.Core.Logic.{∥∥₁_elim, ∥∥₁_map, ∥∥₁_prop}
use Rattle.tinyjson.proofs.Callers.{text_scalars}
use Rattle.tinyjson_grammar.proofs.Callers.{are_put}
use Rattle.tinyjson_grammar.specs.Soundness.{IsTree, AreItemsAt, AreMembersAt}
use Rattle.tinyjson_grammar.specs.Tree.{Tree, array, object, item, items_of}
use Rattle.tinyjson_number.specs.Numeral.{power_width}
use Rattle.tinyjson_view.proofs.Callers.{value_sound}
use Rattle.tinyjson_view.specs.Views.{tree_of}
use Rattle.tinyjson_view.specs.declared.view.ValueView.{ValueView}
use Rattle.tinyjson.specs.View.{text}
use Rattle.tinyjson_patch.specs.private.Edited.{tree, tree_step, Item, item_tree, items_tree, members_tree}
use Rattle.tinyjson_patch.specs.declared.edit.edited.Edited.{Edited, roll-Edited, map-Edited, fold-roll-Edited, ind-Edited, the_lemmas}
use Rattle.tinyjson_patch.specs.declared.edit.edited.Edited.TheOpen.{Edited-F}
use Rattle.tinyjson_patch.specs.declared.edit.edited.Edited.TheVariants as is
use Rattle.tinyjson_patch.proofs.Editing.Listed.{members_sorted}

pub tree_Kept : (v : ValueView) → tree (is.Kept v) ≡ tree_of v
tree_Kept v = search (rules, the_lemmas)

boxes_seen : (g : Item → Box Tree Global) (bs : List Item) → ((b : Item) → box_value (g b) ≡ item_tree b)
    → items_of (map box_value (map g bs)) ≡ items_tree bs
boxes_seen g [] e = refl
boxes_seen g (b ∷ bs) e =
    ap (λ t. item t (items_of (map box_value (map g bs)))) (e b) ∙ ap (item (item_tree b)) (boxes_seen g bs e)

seen_Array : (v : VecDeque Item Global) → tree (is.Array v) ≡ tree_step (map-Edited Edited Tree tree (Edited-F.Array v))
seen_Array v = search (rules, the_lemmas)

pub tree_Array : (v : VecDeque Item Global) → tree (is.Array v) ≡ array (items_tree v.items)
tree_Array v = seen_Array v ∙ ap array (boxes_seen _ v.items (λ b. refl))

pub tree_Object : (m : BTreeMap (String Global) Edited) → tree (is.Object m) ≡ object (members_tree m.entries)
tree_Object m = search (rules, the_lemmas)

-- ---- it is sound

abbrev Seen : Edited → Type 0
Seen e = ∥ IsTree (tree e) ∥₁

abbrev Sound : Type 0
Sound = (e : Edited) × Seen e

abbrev held : Edited-F Sound → Edited-F Edited
held = map-Edited Sound Edited (λ t. t.0)

module _ (g : Box Sound Global → Item) (h : Item → Box Tree Global)
    (e : (b : Box Sound Global) → box_value (h (g b)) ≡ tree (box_value {X = Sound} b).0) where
  items_sound : (bs : List (Box Sound Global)) → ∥ AreItemsAt power_width (items_of (map box_value (map h (map g bs)))) ∥₁
  items_sound [] = ∣ tt ∣₁
  items_sound (b ∷ bs) =
      ∥∥₁_elim (box_value {X = Sound} b).1 ∥∥₁_prop (λ s. ∥∥₁_map (items_sound bs) (λ more. (subst IsTree (sym (e b)) s, more)))

abbrev plain : List (String Global × Sound) → List (String Global × Edited)
plain es = map (λ (e : String Global × Sound). (e.0, e.1.0)) es

members_sound : (es : List (String Global × Sound)) → ∥ AreMembersAt power_width (members_tree (plain es)) ∥₁
members_sound [] = ∣ tt ∣₁
members_sound (e ∷ es) = ∥∥₁_elim e.1.1 ∥∥₁_prop (λ s. ∥∥₁_map (members_sound es) (λ more.
    are_put power_width (text e.0) (tree e.1.0) (members_tree (plain es)) (text_scalars e.0) s more))

layer_sound : (y : Edited-F Sound) → ∥ IsTree (tree_step (map-Edited Edited Tree tree (held y))) ∥₁
layer_sound (Edited-F.Kept v) = value_sound v
layer_sound (Edited-F.Array v) = items_sound _ _ (λ b. refl) v.items
layer_sound (Edited-F.Object m) = ∥∥₁_map (members_sound m.entries) (λ are. (are, members_sorted (plain m.entries)))

-- the tree of every value is sound
pub tree_sound : (e : Edited) → ∥ IsTree (tree e) ∥₁
tree_sound = ind-Edited Seen (λ x y e. subst (λ z. Seen (roll-Edited z)) e
    (subst (λ t. ∥ IsTree t ∥₁) (sym (fold-roll-Edited Tree tree_step (held y))) (layer_sound y)))
