-- What is written of a value that was changed, piece by piece.
use Rattle.std.proofs.Common.{◌≡◌, ℕ, ◌+◌, ◌<◌, Bool, true, false, List, [], ◌∷◌, ◌++◌, Option, None, Result, Ok, Err, ◌∙◌}
use Rattle.std.proofs.Common.{refl, sym, ap, ap₂, arith, append_assoc, append-nil}
use Rattle.std.proofs.lemmas.Result.{MatchResult-from_err}
use Rattle.std.proofs.lemmas.Str.{encodes-append}
use Rattle.std.specs.Result.{IsErr, OnOk}
use Rattle.tinyjson.proofs.Callers.{begins, goes, stop, stops, stops_then, written_then}
use Rattle.tinyjson.specs.Text.{text, items_text, members_text, compact, before, closing, quoted, separator, has_no_items, has_no_members}
use Rattle.tinyjson.specs.Tree.{Tree, null, boolean, number, string, array, object, Items, no_items, item, Members, no_members, member}
use Rattle.tinyjson.specs.Written.{Written, WritesPrefix}
use Rattle.tinyjson_document.specs.Comparing.{weight}
use Rattle.tinyjson_patch.specs.private.Text.{Goes, items_bytes, members_bytes, rest_bytes, rest_weight, stack_bytes, stack_weight}
use Rattle.tinyjson_patch.specs.declared.edit.text.Rest.{Rest}
use Rattle.tinyjson_output.proofs.Callers.{closed, enc, enc_cons, three}

-- ---- the level of a compact text does not matter

mutual
  one_level : (j k : ℕ) (t : Tree) → text None j t ≡ text None k t
  one_level j k null = refl
  one_level j k (boolean b) = refl
  one_level j k (number d) = refl
  one_level j k (string cs) = refl
  one_level j k (array ts) = ap (λ z. 91 ∷ (z ++ closing None k (has_no_items ts) 93)) (one_items (j + 1) (k + 1) true ts)
  one_level j k (object ms) = ap (λ z. 123 ∷ (z ++ closing None k (has_no_members ms) 125)) (one_members (j + 1) (k + 1) true ms)

  one_items : (j k : ℕ) (first : Bool) (ts : Items) → items_text None j first ts ≡ items_text None k first ts
  one_items j k first no_items = refl
  one_items j k first (item t ts) = ap₂ (λ a b. before None k first ++ (a ++ b)) (one_level j k t) (one_items j k false ts)

  one_members : (j k : ℕ) (first : Bool) (ms : Members) → members_text None j first ms ≡ members_text None k first ms
  one_members j k first no_members = refl
  one_members j k first (member key t ms) =
      ap₂ (λ a b. before None k first ++ ((quoted key ++ (58 ∷ a)) ++ b)) (one_level j k t) (one_members j k false ms)

closes : (b : Bool) (c : ℕ) → closing None 0 b c ≡ c ∷ []
closes true c = refl
closes false c = refl

-- ---- a container

pub array_opens : (ts : Items) (t : Tree) → t ≡ array ts → enc (compact t) ≡ 91 ∷ items_bytes true ts
array_opens ts t is =
    ap (λ u. enc (compact u)) is
    ∙ ap (λ z. enc (91 ∷ (items_text None 1 true ts ++ z))) (closes (has_no_items ts) 93)
    ∙ enc_cons 91 (items_text None 1 true ts ++ 93 ∷ []) (omega arith)

pub object_opens : (ms : Members) (t : Tree) → t ≡ object ms → enc (compact t) ≡ 123 ∷ members_bytes true ms
object_opens ms t is =
    ap (λ u. enc (compact u)) is
    ∙ ap (λ z. enc (123 ∷ (members_text None 1 true ms ++ z))) (closes (has_no_members ms) 125)
    ∙ enc_cons 123 (members_text None 1 true ms ++ 125 ∷ []) (omega arith)

pub items_end : (first : Bool) (ts : Items) → ts ≡ no_items → items_bytes first ts ≡ 93 ∷ []
items_end first ts e = ap (items_bytes first) e ∙ enc_cons 93 [] (omega arith)

pub item_next : (first : Bool) (t : Tree) (ts all : Items) → all ≡ item t ts
    → items_bytes first all ≡ enc (separator first) ++ (enc (compact t) ++ items_bytes false ts)
item_next first t ts all e =
    ap (items_bytes first) e
    ∙ ap enc (next_item (separator first) (text None 1 t) (items_text None 1 false ts))
    ∙ three (separator first) (text None 1 t) (items_text None 1 false ts ++ 93 ∷ [])
    ∙ ap (λ z. enc (separator first) ++ (enc z ++ items_bytes false ts)) (one_level 1 0 t)
  where
    next_item : (a b c : List ℕ) → ((a ++ []) ++ (b ++ c)) ++ 93 ∷ [] ≡ a ++ (b ++ (c ++ 93 ∷ []))
    next_item a b c = simp (append_assoc, append-nil)

pub members_end : (first : Bool) (ms : Members) → ms ≡ no_members → members_bytes first ms ≡ 125 ∷ []
members_end first ms e = ap (members_bytes first) e ∙ enc_cons 125 [] (omega arith)

pub member_next : (first : Bool) (k : List ℕ) (t : Tree) (ms all : Members) → all ≡ member k t ms
    → members_bytes first all
    ≡ enc (separator first) ++ ((enc (quoted k) ++ 58 ∷ []) ++ (enc (compact t) ++ members_bytes false ms))
member_next first k t ms all e =
    ap (members_bytes first) e
    ∙ ap enc (next_member (separator first) (quoted k) (text None 1 t) (members_text None 1 false ms))
    ∙ three (separator first) (quoted k ++ 58 ∷ []) (text None 1 t ++ (members_text None 1 false ms ++ 125 ∷ []))
    ∙ ap₂ (λ a b. enc (separator first) ++ (a ++ b)) (closed (quoted k) 58 (omega arith))
    (encodes-append (text None 1 t) (members_text None 1 false ms ++ 125 ∷ []))
    ∙ ap (λ z. enc (separator first) ++ ((enc (quoted k) ++ 58 ∷ []) ++ (enc z ++ members_bytes false ms))) (one_level 1 0 t)
  where
    next_member : (a q b c : List ℕ)
        → ((a ++ []) ++ ((q ++ (58 ∷ b)) ++ c)) ++ 125 ∷ [] ≡ a ++ ((q ++ 58 ∷ []) ++ (b ++ (c ++ 125 ∷ [])))
    next_member a q b c = simp (append_assoc, append-nil)

-- ---- the stack

pub stack_last : (rs all : List Rest) (r : Rest) → all ≡ rs ++ r ∷ [] → stack_bytes all ≡ rest_bytes r ++ stack_bytes rs
stack_last rs all r e = ap stack_bytes e ∙ by rs
  where
    by : (rs : List Rest) → stack_bytes (rs ++ r ∷ []) ≡ rest_bytes r ++ stack_bytes rs
    by [] = sym (append-nil (rest_bytes r))
    by (q ∷ rs) = ap (λ z. z ++ rest_bytes q) (by rs) ∙ append_assoc (rest_bytes r) (stack_bytes rs) (rest_bytes q)

pub weight_last : (rs all : List Rest) (r : Rest) → all ≡ rs ++ r ∷ [] → stack_weight all ≡ rest_weight r + stack_weight rs
weight_last rs all r e = ap stack_weight e ∙ by rs
  where
    by : (rs : List Rest) → stack_weight (rs ++ r ∷ []) ≡ rest_weight r + stack_weight rs
    by [] = refl
    by (q ∷ rs) = let h = by rs in omega (arith, h)

pub some_weight : (t : Tree) → 0 < weight t
some_weight null = omega arith
some_weight (boolean b) = omega arith
some_weight (number d) = omega arith
some_weight (string cs) = omega arith
some_weight (array ts) = omega arith
some_weight (object ms) = omega arith

-- ---- one write after another

pub last_piece : {T E : Type 0} (old mid new : Option (List ℕ)) (bytes piece rest : List ℕ) (r : Result T E) → WritesPrefix mid new piece r
    → Written old mid bytes (piece ++ rest) → Goes old new bytes rest r
last_piece old mid new bytes piece rest (Ok x) k h = goes rest k h
last_piece old mid new bytes piece rest (Err e) k h = stops rest k h

pub then_goes : {T E : Type 0} (old mid new : Option (List ℕ)) (bytes piece rest : List ℕ) (r : Result T E) → Goes mid new piece rest r
    → Written old mid bytes piece → Goes old new bytes rest r
then_goes old mid new bytes piece rest (Ok x) k h = written_then piece rest h k
then_goes old mid new bytes piece rest (Err e) k h = stops_then piece h k

pub nothing_yet : {T E : Type 0} (old : Option (List ℕ)) (bytes rest : List ℕ) (r : Result T E) → IsErr r → Goes old old bytes rest r
nothing_yet old bytes rest r e = MatchResult-from_err r _ _ e (λ _. stop begins)

pub ok_always : {T E A : Type 0} (r : Result T E) → A → OnOk r A
ok_always (Ok x) a = a
ok_always (Err e) a = tt

pub ok_map : {T E A B : Type 0} (r : Result T E) → (A → B) → OnOk r A → OnOk r B
ok_map (Ok x) f a = f a
ok_map (Err e) f a = tt

pub regrouped_one : (a b c s : List ℕ) → (a ++ (b ++ c)) ++ s ≡ a ++ (b ++ (c ++ s))
regrouped_one a b c s = simp append_assoc

pub regrouped_two : (a b c d s : List ℕ) → (a ++ (b ++ (c ++ d))) ++ s ≡ a ++ (b ++ (c ++ (d ++ s)))
regrouped_two a b c d s =
    append_assoc a (b ++ (c ++ d)) s ∙ ap (λ z. a ++ z) (append_assoc b (c ++ d) s ∙ ap (λ z. b ++ z) (append_assoc c d s))
