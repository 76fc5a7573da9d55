-- The written texts are laid out as the two definitions say.
use Rattle.std.proofs.Common.{◌≡◌, ℕ, ◌+◌, List, [], ◌∷◌, ◌++◌, Some, None, false, refl, sym, ap, ◌∙◌, append_assoc, append-nil}
use Rattle.tinyjson_grammar.specs.Tree as tree
use Rattle.tinyjson_grammar.specs.Tree.{Tree, Items, Members}
use Rattle.tinyjson_grammar.specs.Text.{text, items_text, members_text, quoted}
use Rattle.tinyjson_laws.specs.Layout.{with_commas, compact_text, compact_items, compact_members, line, indented_text, indented_items}
use Rattle.tinyjson_laws.specs.Layout.{indented_members, CompactLayout, IndentedLayout}

-- each with a comma before it
abbrev commas : List (List ℕ) → List ℕ
commas [] = []
commas (x ∷ xs) = 44 ∷ (x ++ commas xs)

commas_first : (x : List ℕ) (xs : List (List ℕ)) → with_commas (x ∷ xs) ≡ x ++ commas xs
commas_first x [] = sym (append-nil x)
commas_first x (y ∷ ys) = ap (λ z. x ++ 44 ∷ z) (commas_first y ys)

-- an item's own text, and the rest after commas
abbrev CompactItems : ℕ → Items → Type 0
CompactItems k ts = items_text None k false ts ≡ commas (compact_items ts)

abbrev CompactMembers : ℕ → Members → Type 0
CompactMembers k ms = members_text None k false ms ≡ commas (compact_members ms)

compact_array : (k : ℕ) (t : Tree) (ts : Items) → text None (k + 1) t ≡ compact_text t → CompactItems (k + 1) ts
    → text None k (tree.array (tree.item t ts)) ≡ compact_text (tree.array (tree.item t ts))
compact_array k t ts h hs = (λ i. 91 ∷ ((h i ++ hs i) ++ 93 ∷ []))
    ∙ ap (λ z. 91 ∷ (z ++ 93 ∷ [])) (sym (commas_first (compact_text t) (compact_items ts)))

compact_object : (k : ℕ) (l : List ℕ) (t : Tree) (ms : Members) → text None (k + 1) t ≡ compact_text t → CompactMembers (k + 1) ms
    → text None k (tree.object (tree.member l t ms)) ≡ compact_text (tree.object (tree.member l t ms))
compact_object k l t ms h hs = (λ i. 123 ∷ (((quoted l ++ 58 ∷ h i) ++ hs i) ++ 125 ∷ []))
    ∙ ap (λ z. 123 ∷ (z ++ 125 ∷ [])) (sym (commas_first (quoted l ++ 58 ∷ compact_text t) (compact_members ms)))

mutual
  compact_is : (t : Tree) (k : ℕ) → text None k t ≡ compact_text t
  compact_is tree.null k = refl
  compact_is (tree.array (tree.item t ts)) k = compact_array k t ts (compact_is t (k + 1)) (items_compact ts (k + 1))
  compact_is (tree.object (tree.member l t ms)) k = compact_object k l t ms (compact_is t (k + 1)) (members_compact ms (k + 1))
  compact_is _ k = refl

  items_compact : (ts : Items) (k : ℕ) → CompactItems k ts
  items_compact tree.no_items k = refl
  items_compact (tree.item t ts) k = λ i. 44 ∷ (compact_is t k i ++ items_compact ts k i)

  members_compact : (ms : Members) (k : ℕ) → CompactMembers k ms
  members_compact tree.no_members k = refl
  members_compact (tree.member l t ms) k = λ i. 44 ∷ ((quoted l ++ 58 ∷ compact_is t k i) ++ members_compact ms k i)

-- ---- with an indent

module _ (indent : List ℕ) where
  abbrev IndentedItems : ℕ → Items → Type 0
  IndentedItems k ts = items_text (Some indent) k false ts ≡ commas (indented_items indent k ts)

  abbrev IndentedMembers : ℕ → Members → Type 0
  IndentedMembers k ms = members_text (Some indent) k false ms ≡ commas (indented_members indent k ms)

  regroup : (a n t c w : List ℕ) (b : ℕ) → (n ++ (t ++ c)) ++ (w ++ b ∷ []) ≡ (((n ++ t) ++ c) ++ w) ++ b ∷ []
  regroup a n t c w b = simp append_assoc

  indented_array : (k : ℕ) (t : Tree) (ts : Items) → text (Some indent) (k + 1) t ≡ indented_text indent (k + 1) t
      → IndentedItems (k + 1) ts → text (Some indent) k (tree.array (tree.item t ts)) ≡ indented_text indent k (tree.array (tree.item t ts))
  indented_array k t ts h hs = (λ i. 91 ∷ ((line indent (k + 1) ++ (h i ++ hs i)) ++ (line indent k ++ 93 ∷ [])))
      ∙ ap (λ z. 91 ∷ z) (regroup [] (line indent (k + 1)) (indented_text indent (k + 1) t) (commas (indented_items indent (k + 1) ts))
      (line indent k) 93)
      ∙ ap (λ z. 91 ∷ ((z ++ line indent k) ++ 93 ∷ []))
      (sym (commas_first (line indent (k + 1) ++ indented_text indent (k + 1) t) (indented_items indent (k + 1) ts)))

  indented_object : (k : ℕ) (l : List ℕ) (t : Tree) (ms : Members) → text (Some indent) (k + 1) t ≡ indented_text indent (k + 1) t
      → IndentedMembers (k + 1) ms → text (Some indent) k (tree.object (tree.member l t ms))
      ≡ indented_text indent k (tree.object (tree.member l t ms))
  indented_object k l t ms h hs =
      (λ i. 123 ∷ ((line indent (k + 1) ++ ((quoted l ++ 58 ∷ 32 ∷ h i) ++ hs i)) ++ (line indent k ++ 125 ∷ [])))
      ∙ ap (λ z. 123 ∷ z) (regroup [] (line indent (k + 1)) (quoted l ++ 58 ∷ 32 ∷ indented_text indent (k + 1) t)
      (commas (indented_members indent (k + 1) ms)) (line indent k) 125)
      ∙ ap (λ z. 123 ∷ ((z ++ line indent k) ++ 125 ∷ []))
      (sym (commas_first (line indent (k + 1) ++ (quoted l ++ 58 ∷ 32 ∷ indented_text indent (k + 1) t))
      (indented_members indent (k + 1) ms)))

  item_after : (k : ℕ) (t c : List ℕ) → ((44 ∷ []) ++ line indent k) ++ (t ++ c) ≡ 44 ∷ ((line indent k ++ t) ++ c)
  item_after k t c = simp append_assoc

  mutual
    indented_is : (t : Tree) (k : ℕ) → text (Some indent) k t ≡ indented_text indent k t
    indented_is tree.null k = refl
    indented_is (tree.array (tree.item t ts)) k = indented_array k t ts (indented_is t (k + 1)) (items_indented ts (k + 1))
    indented_is (tree.object (tree.member l t ms)) k = indented_object k l t ms (indented_is t (k + 1)) (members_indented ms (k + 1))
    indented_is _ k = refl

    items_indented : (ts : Items) (k : ℕ) → IndentedItems k ts
    items_indented tree.no_items k = refl
    items_indented (tree.item t ts) k = (λ i. ((44 ∷ []) ++ line indent k) ++ (indented_is t k i ++ items_indented ts k i))
        ∙ item_after k (indented_text indent k t) (commas (indented_items indent k ts))

    members_indented : (ms : Members) (k : ℕ) → IndentedMembers k ms
    members_indented tree.no_members k = refl
    members_indented (tree.member l t ms) k =
        (λ i. ((44 ∷ []) ++ line indent k) ++ ((quoted l ++ 58 ∷ 32 ∷ indented_is t k i) ++ members_indented ms k i))
        ∙ item_after k (quoted l ++ 58 ∷ 32 ∷ indented_text indent k t) (commas (indented_members indent k ms))

pub compact_layout : CompactLayout
compact_layout t = compact_is t 0

pub indented_layout : IndentedLayout
indented_layout t indent level = indented_is indent t level
