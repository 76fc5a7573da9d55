-- The normal texts of the values that came before.
use Rattle.std.proofs.Common.{◌≡◌, ◌∷◌, [], ℕ, ◌<◌, ◌+◌, Bool, true, false, not, ◌&&◌, ◌||◌, cond, List, String, Global, string_bytes}
use Rattle.std.proofs.Common.{bytes_eq}
use Rattle.std.proofs.Common.{encode_utf8_all, drop, get_or, length, refl, sym, ap, ◌∙◌}
use Rattle.std.proofs.lemmas.Map.Text.{btree_set_updates_text}
use Rattle.std.specs.BTreeSet as sorted
use Rattle.std.specs.BTreeSet.{BTreeSet}
use Rattle.std.specs.String.{string_cmp}
use Rattle.tinyjson.specs.Equality.{tree_eq}
use Rattle.tinyjson.specs.Text.{compact}
use Rattle.tinyjson_schema_assertions.specs.Distinct.{is_among, are_distinct}
use Rattle.tinyjson_schema_keywords.proofs.Callers.{drop_item}
use Rattle.tinyjson_view.proofs.Callers.{views_compact}
use Rattle.tinyjson_view.specs.Views.{tree_of, trees_of}
use Rattle.tinyjson_view.specs.declared.view.ValueView.{ValueView}

abbrev pub key_of : ValueView → List ℕ
key_of v = encode_utf8_all (compact (tree_of v))

abbrev pub seen : BTreeSet (String Global) → ValueView → Bool
seen s v = sorted.contains_text s (key_of v)

abbrev pub unseen : BTreeSet (String Global) → List ValueView → Bool
unseen s [] = true
unseen s (v ∷ vs) = not (seen s v) && unseen s vs

-- those that are left are none of those before, and distinct
abbrev pub left_distinct : BTreeSet (String Global) → List ValueView → Bool
left_distinct s vs = unseen s vs && are_distinct (trees_of vs)

unseen_first : (s : BTreeSet (String Global)) (vs : List ValueView) → s.keys ≡ [] → unseen s vs ≡ true
unseen_first s [] e = refl
unseen_first s (v ∷ vs) e =
    let none : seen s v ≡ false = ap (λ ks. sorted.contains_text (record { keys = ks }) (key_of v)) e in
    (λ i. not (none i) && unseen_first s vs e i)

pub first_distinct : (s : BTreeSet (String Global)) (vs : List ValueView) → s.keys ≡ [] → left_distinct s vs ≡ are_distinct (trees_of vs)
first_distinct s vs e = ap (λ b. b && are_distinct (trees_of vs)) (unseen_first s vs e)

either : (b c : Bool) → cond b true c ≡ (b || c)
either true c = refl
either false c = refl

regrouped : (e a u m : Bool) → (not (e || a) && (u && not m)) ≡ ((not a && u) && not (e || m))
regrouped true true u m = refl
regrouped true false true m = refl
regrouped true false false m = refl
regrouped false true u m = refl
regrouped false false u m = refl

and_assoc : (a b c : Bool) → ((a && b) && c) ≡ (a && (b && c))
and_assoc true b c = refl
and_assoc false b c = refl

module _ (s n : BTreeSet (String Global)) (key : String Global) (v : ValueView) (is : string_bytes key ≡ key_of v)
    (updates : sorted.Updates string_cmp s n key true) where
  seen_after : (w : ValueView) → seen n w ≡ (tree_eq (tree_of v) (tree_of w) || seen s w)
  seen_after w =
      btree_set_updates_text (string_bytes key) s n true updates (key_of w)
      ∙ (either (bytes_eq (string_bytes key) (key_of w)) (seen s w)
      ∙ ap (λ b. b || seen s w) (ap (λ bs. bytes_eq bs (key_of w)) is ∙ views_compact v w))

  unseen_after : (vs : List ValueView) → unseen n vs ≡ (unseen s vs && not (is_among (trees_of vs) (tree_of v)))
  unseen_after [] = refl
  unseen_after (w ∷ ws) =
      (λ i. not (seen_after w i) && unseen_after ws i)
      ∙ regrouped (tree_eq (tree_of v) (tree_of w)) (seen s w) (unseen s ws) (is_among (trees_of ws) (tree_of v))

  next_distinct : (vs : List ValueView) → seen s v ≡ false → left_distinct n vs ≡ left_distinct s (v ∷ vs)
  next_distinct vs new =
      (λ i. unseen_after vs i && are_distinct (trees_of vs))
      ∙ (and_assoc (unseen s vs) (not (is_among (trees_of vs) (tree_of v))) (are_distinct (trees_of vs))
      ∙ (λ i. (not (sym new i) && unseen s vs) && (not (is_among (trees_of vs) (tree_of v)) && are_distinct (trees_of vs))))

  pub next_left : (vs : List ValueView) (i : ℕ) (all : Bool) → i < length vs → v ≡ get_or vs i v → seen s v ≡ false
      → left_distinct s (drop i vs) ≡ all → left_distinct n (drop (i + 1) vs) ≡ all
  next_left vs i all h e new left =
      next_distinct (drop (i + 1) vs) new ∙ (ap (left_distinct s) (sym (drop_item vs i v h e)) ∙ left)

not_distinct : (s : BTreeSet (String Global)) (v : ValueView) (vs : List ValueView) → seen s v ≡ true → left_distinct s (v ∷ vs) ≡ false
not_distinct s v vs old = λ i. (not (old i) && unseen s vs) && are_distinct (trees_of (v ∷ vs))

pub old_left : (s : BTreeSet (String Global)) (vs : List ValueView) (i : ℕ) (v : ValueView) (all : Bool) → i < length vs → v ≡ get_or vs i v
    → seen s v ≡ true → left_distinct s (drop i vs) ≡ all → all ≡ false
old_left s vs i v all h e old left = sym left ∙ (ap (left_distinct s) (drop_item vs i v h e) ∙ not_distinct s v (drop (i + 1) vs) old)

pub none_left : (s : BTreeSet (String Global)) (vs rest : List ValueView) (all : Bool) → rest ≡ [] → left_distinct s rest ≡ all → true ≡ all
none_left s vs rest all e left = sym (ap (left_distinct s) e) ∙ left
