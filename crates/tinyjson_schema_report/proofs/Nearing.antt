-- The first of several that has something, and the nearest of a list.
use Rattle.std.proofs.Common.{◌≡◌, ◌∷◌, [], ℕ, suc, List, ◌+◌, ◌<◌, ◌≤◌, Option, Some, None, drop, get_or, length, refl, sym, ap, ◌∙◌}
use Rattle.std.proofs.lemmas.List.{get_or_default}
use Rattle.std.specs.Prelude.{option_and_then}
use Rattle.tinyjson.specs.Tree.{Tree}
use Rattle.tinyjson.specs.View.{view, items_view}
use Rattle.tinyjson.specs.declared.value.JsonValue.{JsonValue}
use Rattle.tinyjson_document.specs.Parts.{members_in}
use Rattle.tinyjson_schema_keywords.proofs.Callers.{drop_item, drop_end, turn_next, turn_stop}
use Rattle.tinyjson_schema_report.specs.Nearest.{Gap, or_else, kinds, others, own_gap, member_gap, tag_gap, gap_by, gap, led}
use Rattle.tinyjson_schema_report.specs.Nearest.{further, nearest, nearest_after}

-- F gives what f has for the first that f has something for
module _ {X B : Type 0} (f : X → Option B) (F : List X → Option B) (xs : List X) (i : ℕ) where
  pub first_stop : (x : X) (b : B) → F (x ∷ drop (i + 1) xs) ≡ or_else (f x) (F (drop (i + 1) xs)) → i < length xs → x ≡ get_or xs i x
      → Some b ≡ f x → F (drop i xs) ≡ F xs → Some b ≡ F xs
  first_stop x b one h e has left =
      turn_stop F xs i (Some b) x h e (one ∙ ap (λ o. or_else o (F (drop (i + 1) xs))) (sym has)) left

  pub stop_at : (d : X) (b : B) → ((x : X) → F (x ∷ drop (i + 1) xs) ≡ or_else (f x) (F (drop (i + 1) xs))) → i < length xs
      → Some b ≡ f (get_or xs i d) → F (drop i xs) ≡ F xs → Some b ≡ F xs
  stop_at d b one h has left = first_stop (get_or xs i d) b (one (get_or xs i d)) h (get_or_default xs i d (get_or xs i d) h) has left

  pub first_next : (x : X) → F (x ∷ drop (i + 1) xs) ≡ or_else (f x) (F (drop (i + 1) xs)) → i < length xs → x ≡ get_or xs i x
      → None ≡ f x → F (drop i xs) ≡ F xs → F (drop (i + 1) xs) ≡ F xs
  first_next x one h e none left =
      turn_next F xs i x h e (one ∙ ap (λ o. or_else o (F (drop (i + 1) xs))) (sym none)) left

  pub next_at : (d : X) → ((x : X) → F (x ∷ drop (i + 1) xs) ≡ or_else (f x) (F (drop (i + 1) xs))) → i < length xs
      → None ≡ f (get_or xs i d) → F (drop i xs) ≡ F xs → F (drop (i + 1) xs) ≡ F xs
  next_at d one h none left = first_next (get_or xs i d) (one (get_or xs i d)) h (get_or_default xs i d (get_or xs i d) h) none left

-- ---- what a value lacks of one schema

module _ (root : Tree) (f : Tree → Tree → Option Gap) (s t : Tree) where
  abbrev tagged : Option Gap
  tagged = member_gap 1 (tag_gap root) s (members_in t)

  abbrev parted : Option Gap
  parted = member_gap 3 f s (members_in t)

  pub by_kind : (g : Gap) → Some g ≡ own_gap 0 kinds s t → Some g ≡ gap_by root f s t
  by_kind g h = ap (λ o. or_else o (or_else tagged (or_else (own_gap 2 others s t) parted))) h

  no_kind : None ≡ own_gap 0 kinds s t → or_else tagged (or_else (own_gap 2 others s t) parted) ≡ gap_by root f s t
  no_kind h = ap (λ o. or_else o (or_else tagged (or_else (own_gap 2 others s t) parted))) h

  pub by_tag : (g : Gap) → None ≡ own_gap 0 kinds s t → Some g ≡ member_gap 1 (tag_gap root) s (members_in t) → Some g ≡ gap_by root f s t
  by_tag g h e = ap (λ o. or_else o (or_else (own_gap 2 others s t) parted)) e ∙ no_kind h

  no_tag : None ≡ own_gap 0 kinds s t → None ≡ member_gap 1 (tag_gap root) s (members_in t)
      → or_else (own_gap 2 others s t) parted ≡ gap_by root f s t
  no_tag h e = ap (λ o. or_else o (or_else (own_gap 2 others s t) parted)) e ∙ no_kind h

  pub by_other : (g : Gap) → None ≡ own_gap 0 kinds s t → None ≡ member_gap 1 (tag_gap root) s (members_in t)
      → Some g ≡ own_gap 2 others s t → Some g ≡ gap_by root f s t
  by_other g h e k = ap (λ o. or_else o parted) k ∙ no_tag h e

  pub by_part : (o : Option Gap) → None ≡ own_gap 0 kinds s t → None ≡ member_gap 1 (tag_gap root) s (members_in t)
      → None ≡ own_gap 2 others s t → o ≡ member_gap 3 f s (members_in t) → o ≡ gap_by root f s t
  by_part o h e k m = m ∙ (ap (λ x. or_else x parted) k ∙ no_tag h e)

-- the schema r to which s leads, with one member less to go down
pub gap_before : (root s r t : Tree) (w n : ℕ) (o : Option Gap) → w ≡ suc n → r ≡ led root s → o ≡ gap_by root (gap root n) r t
    → o ≡ gap root w s t
gap_before root s r t w n o e h g = g ∙ (ap (λ x. gap_by root (gap root n) x t) h ∙ ap (λ x. gap root x s t) (sym e))

-- ---- the nearest of a list

drop_none : {X : Type 0} (xs : List X) → drop 0 xs ≡ xs
drop_none [] = refl
drop_none (x ∷ xs) = refl

module _ (f : Tree → Option Gap) where
  pub near_begins : (vs more : List JsonValue) (v : JsonValue) (a : Gap) → vs ≡ v ∷ more → Some a ≡ f (view v)
      → nearest_after f a (items_view (drop 0 more)) ≡ nearest f (items_view vs)
  near_begins vs more v a e h =
      ap (λ xs. nearest_after f a (items_view xs)) (drop_none more)
      ∙ (ap (option_and_then (λ b. nearest_after f b (items_view more))) h ∙ ap (λ xs. nearest f (items_view xs)) (sym e))

  module _ (more : List JsonValue) (i : ℕ) (a : Gap) (whole : Option Gap) where
    split : (x : JsonValue) → i < length more → x ≡ get_or more i x → nearest_after f a (items_view (drop i more))
        ≡ option_and_then (λ b. nearest_after f (further a b) (items_view (drop (i + 1) more))) (f (view x))
    split x h e = ap (λ xs. nearest_after f a (items_view xs)) (drop_item more i x h e)

    pub near_next : (x : JsonValue) (b new : Gap) → i < length more → x ≡ get_or more i x → Some b ≡ f (view x) → new ≡ further a b
        → nearest_after f a (items_view (drop i more)) ≡ whole → nearest_after f new (items_view (drop (i + 1) more)) ≡ whole
    near_next x b new h e g n left =
        ap (λ y. nearest_after f y (items_view (drop (i + 1) more))) n
        ∙ (ap (option_and_then (λ y. nearest_after f (further a y) (items_view (drop (i + 1) more)))) g ∙ (sym (split x h e) ∙ left))

    pub near_nowhere : (x : JsonValue) → i < length more → x ≡ get_or more i x → None ≡ f (view x)
        → nearest_after f a (items_view (drop i more)) ≡ whole → None ≡ whole
    near_nowhere x h e g left =
        ap (option_and_then (λ y. nearest_after f (further a y) (items_view (drop (i + 1) more)))) g ∙ (sym (split x h e) ∙ left)

    pub near_end : length more ≤ i → nearest_after f a (items_view (drop i more)) ≡ whole → Some a ≡ whole
    near_end h left = ap (λ xs. nearest_after f a (items_view xs)) (sym (drop_end more i h)) ∙ left
