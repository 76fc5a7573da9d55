-- Lists that are gathered one after the other, whole or up to a limit.
use Rattle.std.proofs.Common.{◌≡◌, ℕ, zero, suc, ◌<◌, ◌≤◌, ◌+◌, Bool, true, false, List, [], ◌∷◌, ◌++◌, Some}
use Rattle.std.proofs.Common.{length, get_or, drop, take, map, cond, refl, sym, ap, ◌∙◌, arith, add-one}
use Rattle.std.proofs.Common.{append-nil, append_assoc}
use Rattle.std.proofs.lemmas.List.{map-append, length-map, take-append-le, get_or_default}
use Rattle.std.specs.Option.{option_map_or}
use Rattle.tinyjson.specs.Tree.{Tree, array}
use Rattle.tinyjson_document.specs.Parts as part
use Rattle.tinyjson_pointer.specs.Index.{index_of}
use Rattle.tinyjson_schema_keywords.specs.Applied.{items_in}
use Rattle.tinyjson_schema_keywords.specs.declared.keyword.Keyword.{Keyword}
use Rattle.tinyjson_schema_keywords.proofs.Callers.{drop_suc, drop_item, drop_end}
use Rattle.tinyjson_schema.specs.Evaluated.{Answers}
use Rattle.tinyjson_schema.specs.Every.{index, key, token, word, Spot, spot_of, Use, failing, every}
use Rattle.tinyjson_schema.specs.Parts.{is_by_part}
use Rattle.tinyjson_schema.specs.Places.{IsAt, place}
use Rattle.tinyjson_schema.specs.Steps.{AddsFirst, AddsUses, use_of, place_of, placed, stepped}
use Rattle.tinyjson_schema.specs.Valid.{root_of}
use Rattle.tinyjson_schema.specs.Walks.{IsDeeper}
use Rattle.tinyjson_schema.specs.declared.validate.pending.Pending.{Pending}
use Rattle.tinyjson_schema.specs.declared.validate.pending.Step.{Step}
use Rattle.tinyjson_schema.specs.declared.violation.Violation.{Violation}
use Rattle.tinyjson_schema.specs.declared.walk.Walk.{Walk}
use Rattle.tinyjson_schema.proofs.Validity.{same_root}

-- ---- a and what F gives for what is left are what was to be gathered

module _ {X D : Type 0} (F : List X → List D) (xs : List X) (i : ℕ) (ws : List D) where
  pub gather_next : (x : X) (a b e : List D) → i < length xs → x ≡ get_or xs i x → F (x ∷ drop (i + 1) xs) ≡ e ++ F (drop (i + 1) xs)
      → b ≡ a ++ e → a ++ F (drop i xs) ≡ ws → b ++ F (drop (i + 1) xs) ≡ ws
  gather_next x a b e h p one more left =
      ap (λ l. l ++ F (drop (i + 1) xs)) more
      ∙ (append_assoc a e (F (drop (i + 1) xs))
      ∙ (ap (λ l. a ++ l) (sym one) ∙ (ap (λ l. a ++ F l) (sym (drop_item xs i x h p)) ∙ left)))

  pub gather_end : (a : List D) → length xs ≤ i → F [] ≡ [] → a ++ F (drop i xs) ≡ ws → a ≡ ws
  gather_end a h n left =
      sym (append-nil a) ∙ (ap (λ l. a ++ l) (sym n) ∙ (ap (λ l. a ++ F l) (sym (drop_end xs i h)) ∙ left))

-- the same where F is told the index
module _ {X D : Type 0} (F : ℕ → List X → List D) (xs : List X) (i : ℕ) (ws : List D) where
  pub indexed_next : (x : X) (a b e : List D) → i < length xs → x ≡ get_or xs i x
      → F i (x ∷ drop (suc i) xs) ≡ e ++ F (suc i) (drop (suc i) xs) → b ≡ a ++ e → a ++ F i (drop i xs) ≡ ws
      → b ++ F (i + 1) (drop (i + 1) xs) ≡ ws
  indexed_next x a b e h p one more left = rw add-one (
      ap (λ l. l ++ F (suc i) (drop (suc i) xs)) more
      ∙ (append_assoc a e (F (suc i) (drop (suc i) xs))
      ∙ (ap (λ l. a ++ l) (sym one) ∙ (ap (λ l. a ++ F i l) (sym (drop_suc xs i x h p)) ∙ left))))

  pub indexed_end : (a : List D) → length xs ≤ i → F i [] ≡ [] → a ++ F i (drop i xs) ≡ ws → a ≡ ws
  indexed_end a h n left =
      sym (append-nil a) ∙ (ap (λ l. a ++ l) (sym n) ∙ (ap (λ l. a ++ F i l) (sym (drop_end xs i h)) ∙ left))

-- ---- up to a limit

cut_front : {X : Type 0} (n : ℕ) (a r : List X) → take n (take n a ++ r) ≡ take n (a ++ r)
cut_front zero a r = refl
cut_front (suc n) [] r = refl
cut_front (suc n) (x ∷ a) r = ap (λ xs. x ∷ xs) (cut_front n a r)

pub same_cut : {X : Type 0} (n : ℕ) (a b r : List X) → take n a ≡ take n b → take n (a ++ r) ≡ take n (b ++ r)
same_cut n a b r e = sym (cut_front n a r) ∙ (ap (λ xs. take n (xs ++ r)) e ∙ cut_front n b r)

module _ (n : ℕ) where
  pub first_none : (vs : List Violation) → AddsFirst n [] vs vs
  first_none vs = ap (take n) (sym (append-nil (map spot_of vs)))

  pub first_both : (xs ys : List Spot) (a b c : List Violation) → AddsFirst n xs a b → AddsFirst n ys b c → AddsFirst n (xs ++ ys) a c
  first_both xs ys a b c h k = k ∙ (same_cut n (map spot_of b) (map spot_of a ++ xs) ys h
      ∙ ap (take n) (append_assoc (map spot_of a) xs ys))

  pub first_pushed : (x : Spot) (v : Violation) (a b : List Violation) → spot_of v ≡ x → b ≡ a ++ v ∷ [] → AddsFirst n (x ∷ []) a b
  first_pushed x v a b e h = ap (take n) (ap (map spot_of) h ∙ (map-append spot_of a (v ∷ []) ∙ ap (λ y. map spot_of a ++ y ∷ []) e))

  -- there are enough
  pub first_full : (xs : List Spot) (vs : List Violation) → n ≤ length vs → AddsFirst n xs vs vs
  first_full xs vs h = sym (take-append-le n (map spot_of vs) xs (omega (arith, h, length-map vs spot_of)))

  pub first_as : (xs ys : List Spot) (a b : List Violation) → xs ≡ ys → AddsFirst n xs a b → AddsFirst n ys a b
  first_as xs ys a b e h = h ∙ ap (λ l. take n (map spot_of a ++ l)) e

-- what is left adds the same, up to the limit, as all
module _ {X : Type 0} (n : ℕ) (F : List X → List Spot) (xs : List X) (i : ℕ) (ws : List Spot) where
  pub first_next : (x : X) (a b : List Violation) (e : List Spot) → i < length xs → x ≡ get_or xs i x
      → F (x ∷ drop (i + 1) xs) ≡ e ++ F (drop (i + 1) xs) → AddsFirst n e a b → take n (map spot_of a ++ F (drop i xs)) ≡ ws
      → take n (map spot_of b ++ F (drop (i + 1) xs)) ≡ ws
  first_next x a b e h p one more left =
      let r = F (drop (i + 1) xs) in
      same_cut n (map spot_of b) (map spot_of a ++ e) r more
      ∙ (ap (take n) (append_assoc (map spot_of a) e r)
      ∙ (ap (λ l. take n (map spot_of a ++ l)) (sym one)
      ∙ (ap (λ l. take n (map spot_of a ++ F l)) (sym (drop_item xs i x h p)) ∙ left)))

  pub first_end : (a : List Violation) → length xs ≤ i → F [] ≡ [] → take n (map spot_of a ++ F (drop i xs)) ≡ ws
      → take n (map spot_of a) ≡ ws
  first_end a h e left =
      ap (take n) (sym (append-nil (map spot_of a)))
      ∙ (ap (λ l. take n (map spot_of a ++ l)) (sym e)
      ∙ (ap (λ l. take n (map spot_of a ++ F l)) (sym (drop_end xs i h)) ∙ left))

  pub first_enough : (a : List Violation) → n ≤ length a → take n (map spot_of a ++ F (drop i xs)) ≡ ws → take n (map spot_of a) ≡ ws
  first_enough a h left = first_full n (F (drop i xs)) a h ∙ left

-- ---- schemas that are applied

pub uses_none : (ps : List Pending) → AddsUses [] ps ps
uses_none ps = sym (append-nil (map use_of ps))

pub uses_both : (us vs : List Use) (a b c : List Pending) → AddsUses us a b → AddsUses vs b c → AddsUses (us ++ vs) a c
uses_both us vs a b c h k = k ∙ (ap (λ l. l ++ vs) h ∙ append_assoc (map use_of a) us vs)

pub uses_as : (us vs : List Use) (a b : List Pending) → us ≡ vs → AddsUses us a b → AddsUses vs a b
uses_as us vs a b e h = h ∙ ap (λ l. map use_of a ++ l) e

pub uses_pushed : (p : Pending) (a b : List Pending) → b ≡ a ++ p ∷ [] → AddsUses (use_of p ∷ []) a b
uses_pushed p a b h = ap (map use_of) h ∙ map-append use_of a (p ∷ [])

-- ---- keywords that are not met

pub failing_next : (q : Keyword → Bool) (k : Keyword) (ks : List Keyword) (b : Bool) (xs ys zs : List Keyword) → b ≡ q k
    → ys ≡ xs ++ cond b [] (k ∷ []) → zs ≡ ys ++ failing q ks → zs ≡ xs ++ failing q (k ∷ ks)
failing_next q k ks b xs ys zs e h l = l ∙ (ap (λ l. l ++ failing q ks) h
    ∙ (append_assoc xs (cond b [] (k ∷ [])) (failing q ks) ∙ ap (λ c. xs ++ (cond c [] (k ∷ []) ++ failing q ks)) e))

pub failing_end : (q : Keyword → Bool) (xs : List Keyword) → xs ≡ xs ++ failing q []
failing_end q xs = sym (append-nil xs)

-- one keyword more of those that a loop asks
pub failing_turn : (q : Keyword → Bool) (ks : List Keyword) (i : ℕ) (d : Keyword) (b : Bool) (old new ws : List Keyword) → i < length ks
    → b ≡ q (get_or ks i d) → new ≡ old ++ cond b [] (get_or ks i d ∷ []) → old ++ failing q (drop i ks) ≡ ws
    → new ++ failing q (drop (i + 1) ks) ≡ ws
failing_turn q ks i d b old new ws h e more left =
    let k = get_or ks i d in
    gather_next (failing q) ks i ws k old new (cond b [] (k ∷ [])) h (get_or_default ks i d k h)
    (ap (λ c. cond c [] (k ∷ []) ++ failing q (drop (i + 1) ks)) (sym e)) more left

-- ---- places

-- one step more of a path
pub placed_turn : (ps : List Step) (i : ℕ) (d : Step) (old new end : Spot) → i < length ps → new ≡ stepped (get_or ps i d) old
    → placed (drop i ps) old ≡ end → placed (drop (i + 1) ps) new ≡ end
placed_turn ps i d old new end h e left =
    ap (placed (drop (i + 1) ps)) e
    ∙ (sym (ap (λ xs. placed xs old) (drop_item ps i (get_or ps i d) h (get_or_default ps i d (get_or ps i d) h))) ∙ left)

pub spot_at_tokens : (ks js : List (List ℕ)) (v : Violation) → IsAt ks js v
    → spot_of v ≡ record { in_schema = map token ks; in_value = map token js }
spot_at_tokens ks js v h = λ i. record { in_schema = map token (h.0 i); in_value = map token (h.1 i) }

pub index_token : (k : List ℕ) (i : ℕ) → index_of k ≡ Some i → token k ≡ index i
index_token k i h = ap (λ o. option_map_or index o (key k)) h

part_tokens : (b : Bool) (k : List ℕ) (ks : List (List ℕ)) → map token (cond b (k ∷ []) [] ++ ks) ≡ cond b (token k ∷ []) [] ++ map token ks
part_tokens true k ks = refl
part_tokens false k ks = refl

pub place_tokens : (a : Keyword) (k : List ℕ) (ks : List (List ℕ)) → map token (place a k ++ ks) ≡ place_of a (token k) ++ map token ks
place_tokens a k ks = ap (λ xs. word a ∷ xs) (part_tokens (is_by_part a) k ks)

pub map_map : {A B C : Type 0} (f : B → C) (g : A → B) (xs : List A) → map f (map g xs) ≡ map (λ x. f (g x)) xs
map_map f g [] = refl
map_map f g (x ∷ xs) = ap (λ ys. f (g x) ∷ ys) (map_map f g xs)

-- ---- one step before

pub every_before : (w inner : Walk) → IsDeeper w inner → (g : Answers) (s t : Tree)
    → every (root_of inner) (suc inner.steps) g s t ≡ every (root_of w) w.steps g s t
every_before w inner d g s t = λ i. every (same_root w inner d i) (sym d.1 i) g s t

-- ---- what is left for the schema for the rest

pub same_items : (t : Tree) → part.items_in t ≡ items_in t
same_items (array ts) = refl
same_items _ = refl

pub first_rest : (n : ℕ) (xs rest : List Spot) (a b : List Violation) → AddsFirst n xs a b
    → take n (map spot_of b ++ rest) ≡ take n (map spot_of a ++ (xs ++ rest))
first_rest n xs rest a b h = same_cut n (map spot_of b) (map spot_of a ++ xs) rest h ∙ ap (take n) (append_assoc (map spot_of a) xs rest)

pub joined : {D : Type 0} (us vs x y z : List D) → y ≡ x ++ us → z ≡ y ++ vs → z ≡ x ++ (us ++ vs)
joined us vs x y z h k = k ∙ (ap (λ l. l ++ vs) h ∙ append_assoc x us vs)

-- `first_next` for the item at the index, whatever the default is
pub first_at : {X : Type 0} (n : ℕ) (F : List X → List Spot) (xs : List X) (i : ℕ) (ws : List Spot) (d : X) (a b : List Violation)
    (e : X → List Spot) → i < length xs → ((x : X) → F (x ∷ drop (i + 1) xs) ≡ e x ++ F (drop (i + 1) xs))
    → AddsFirst n (e (get_or xs i d)) a b → take n (map spot_of a ++ F (drop i xs)) ≡ ws
    → take n (map spot_of b ++ F (drop (i + 1) xs)) ≡ ws
first_at n F xs i ws d a b e h one more left =
    let x = get_or xs i d in
    first_next n F xs i ws x a b (e x) h (get_or_default xs i d x h) (one x) more left
