-- What callers need of the text of a pointer, of parts that are replaced again, and of the container of a place, apart
-- from the tree that holds it.
use Rattle.std.proofs.Common.{◌≡◌, ◌==◌, ◌&&◌, ℕ, zero, suc, Bool, true, false, cond, bytes_eq, codes, List, [], ◌∷◌, ◌++◌, map}
use Rattle.std.proofs.Common.{Option, Some, None, IsSome, IsTrue, String, Global}
use Rattle.std.proofs.Common.{encode_utf8_all, string_bytes, option_map, refl, sym, ap, ◌∙◌}
use Rattle.std.proofs.lemmas.Bool.{and_parts, and_from}
use Rattle.std.proofs.lemmas.Slice.Eq.{bytes_eq-Decides}
use Rattle.std.specs.Prelude.{option_and_then}
use Rattle.std.specs.Str.{all_scalars, chars}
use Rattle.tinyjson.proofs.Callers.{encoded_chars, text_scalars}
use Rattle.tinyjson.specs.Characters.{solidus, tilde}
use Rattle.tinyjson.specs.Soundness.{IsTree}
use Rattle.tinyjson.specs.Index.{nth, with_nth, item_count}
use Rattle.tinyjson.specs.Tree.{Tree, null, array, Items, no_items, item}
use Rattle.tinyjson.specs.View.{text}
use Rattle.tinyjson_pointer.proofs.Changing.{part_put, part_again, part_back, with_last, is_back}
pub use Rattle.tinyjson_pointer.proofs.Changing.{new_part_at, part_last, put_again, with_nth_again, without_part_at}
use Rattle.tinyjson_pointer.proofs.Tokens.{split_pointer}
use Rattle.tinyjson_pointer.specs.Change.{with_item_before, without_nth, with_child, without_child, without_item, without_step}
use Rattle.tinyjson_pointer.specs.Change.{changed_at, all_but_last, last_of, with_new_part, without_part}
use Rattle.tinyjson_pointer.specs.Index.{index_of}
use Rattle.tinyjson_pointer.specs.Reading.{IsNoPointer}
use Rattle.tinyjson_pointer.specs.Siblings.{container_at, with_container, child_name, are_beside}
use Rattle.tinyjson_pointer.specs.Text.{escape, escape_char, pointer_text, split, pointer_tokens}
use Rattle.tinyjson_pointer.specs.Tokens.{begins_with, tokens_of}
use Rattle.tinyjson_pointer.specs.declared.pointer.Pointer.{Pointer}
use Rattle.tinyjson_pointer.specs.Walk.{step, item_of, with_item_of, with_step, part_at, with_part}

-- ---- the text of a pointer

-- reading gives the tokens whose text it is
pub tokens_read : (cs : List ℕ) (ts : List (List ℕ)) → cs ≡ pointer_text ts → pointer_tokens cs ≡ Some ts
tokens_read cs ts h =
    let same : (split false cs).1 ≡ ts = ap (λ s. s.1) (ap (split false) h ∙ split_pointer ts) in
    let text : pointer_text (split false cs).1 ≡ cs = ap pointer_text same ∙ sym h in
    ap (λ b. cond b (Some (split false cs).1) None) ((bytes_eq-Decides (pointer_text (split false cs).1) cs).1 text)
    ∙ ap (λ us. Some us) same

pub no_tokens_read : (cs : List ℕ) → IsNoPointer cs → pointer_tokens cs ≡ None
no_tokens_read cs h = by (bytes_eq (pointer_text (split false cs).1) cs) refl
  where
    by : (b : Bool) → bytes_eq (pointer_text (split false cs).1) cs ≡ b → cond b (Some (split false cs).1) None ≡ None
    by true e = absurd (h (split false cs).1 (sym ((bytes_eq-Decides (pointer_text (split false cs).1) cs).0 e)))
    by false e = refl

-- ---- the characters of the text of a pointer

both_scalars : (xs ys : List ℕ) → IsTrue (all_scalars xs) → IsTrue (all_scalars ys) → IsTrue (all_scalars (xs ++ ys))
both_scalars [] ys h k = k
both_scalars (x ∷ xs) ys h k = let p = and_parts _ (all_scalars xs) h in and_from _ _ p.0 (both_scalars xs ys p.1 k)

escaped_char : (c : ℕ) → IsTrue (all_scalars (c ∷ [])) → IsTrue (all_scalars (escape_char c))
escaped_char c h = by (c == tilde) (c == solidus)
  where
    by : (a b : Bool) → IsTrue (all_scalars (cond a (codes "~0") (cond b (codes "~1") (c ∷ []))))
    by true b = refl
    by false true = refl
    by false false = h

escaped : (cs : List ℕ) → IsTrue (all_scalars cs) → IsTrue (all_scalars (escape cs))
escaped [] h = refl
escaped (c ∷ cs) h = let p = and_parts _ (all_scalars cs) h in
    both_scalars (escape_char c) (escape cs) (escaped_char c (and_from _ _ p.0 refl)) (escaped cs p.1)

of_tokens : (ss : List (String Global)) → IsTrue (all_scalars (pointer_text (map text ss)))
of_tokens [] = refl
of_tokens (s ∷ ss) = both_scalars (escape (text s)) (pointer_text (map text ss)) (escaped (text s) (text_scalars s)) (of_tokens ss)

-- a text that was made of a pointer's has its characters
pub place_text : (p : Pointer) (s : String Global) → string_bytes s ≡ encode_utf8_all (pointer_text (tokens_of p))
    → text s ≡ pointer_text (tokens_of p)
place_text p s e = ap chars e ∙ encoded_chars (pointer_text (tokens_of p)) (of_tokens p.tokens.items)

-- ---- a container that is taken out, and another one that is put in its place

pub container_back : (t c : Tree) (ks : List (List ℕ)) → IsTree t → container_at t ks ≡ Some c → with_container t ks c ≡ t
container_back t c [] s h = refl
container_back t c (k ∷ ks) s h = part_back (all_but_last k ks) t c s h

pub container_put : (t c d t1 t2 : Tree) (ks : List (List ℕ)) → IsTree t → container_at t ks ≡ Some c → t1 ≡ with_container t ks null
    → (IsSome (container_at t1 ks) → t2 ≡ with_container t1 ks d) → t2 ≡ with_container t ks d
container_put t c d t1 t2 [] s there out back = cc
container_put t c d t1 t2 (k ∷ ks) s there out back = is_back t c d t1 t2 (all_but_last k ks) s there out back

-- ---- a change of one child, where the container is another one

both_true : (a b : Bool) → (a && b) ≡ true → (a ≡ true) × (b ≡ true)
both_true true b h = (refl, h)
both_true false b h = cc

same_tokens : (xs ys : List (List ℕ)) → begins_with xs ys ≡ true → begins_with ys xs ≡ true → xs ≡ ys
same_tokens [] [] g h = refl
same_tokens [] (y ∷ ys) g h = cc
same_tokens (x ∷ xs) [] g h = cc
same_tokens (x ∷ xs) (y ∷ ys) g h =
    let front = both_true (bytes_eq y x) (begins_with xs ys) g in
    let back = both_true (bytes_eq x y) (begins_with ys xs) h in
    ap (λ z. z ∷ xs) ((bytes_eq-Decides x y).0 back.0) ∙ ap (λ zs. y ∷ zs) (same_tokens xs ys front.1 back.1)

again : (js : List (List ℕ)) (t d x : Tree) (o : Option Tree) → IsTree t → part_at t js ≡ Some x
    → option_map (with_part (with_part t js d) js) o ≡ option_map (with_part t js) o
again js t d x None s h = refl
again js t d x (Some w) s h = ap Some (part_again js t d w x s h)

changed_in : (f : Tree → Option Tree) (js is : List (List ℕ)) (t d x : Tree) → is ≡ js → IsTree t → part_at t js ≡ Some x
    → changed_at f (with_part t js d) is ≡ option_map (with_part t js) (f d)
changed_in f js is t d x same s h =
    ap (changed_at f (with_part t js d)) same
    ∙ (ap (option_and_then (λ part. option_map (with_part (with_part t js d) js) (f part))) (part_put js t d x h)
    ∙ again js t d x (f d) s h)

fronts_same : (k l : List ℕ) (ks ls : List (List ℕ)) → are_beside (l ∷ ls) (k ∷ ks) ≡ true → all_but_last l ls ≡ all_but_last k ks
fronts_same k l ks ls h =
    let both = both_true (begins_with (all_but_last l ls) (all_but_last k ks)) (begins_with (all_but_last k ks) (all_but_last l ls)) h in
    same_tokens (all_but_last l ls) (all_but_last k ks) both.0 both.1

-- putting in a part beside the place that the tokens name changes its container alone
pub inserted_beside : (t d u : Tree) (ks ls : List (List ℕ)) → IsTree t → IsSome (container_at t ks) → are_beside ls ks ≡ true
    → with_new_part (with_container t ks d) ls u ≡ option_map (with_container t ks) (with_child d (child_name ls) u)
inserted_beside t d u ks [] s there h = cc
inserted_beside t d u [] (l ∷ ls) s there h = cc
inserted_beside t d u (k ∷ ks) (l ∷ ls) s there h = by (part_at t (all_but_last k ks)) refl there
  where
    by : (o : Option Tree) → part_at t (all_but_last k ks) ≡ o → IsSome o
        → with_new_part (with_container t (k ∷ ks) d) (l ∷ ls) u ≡ option_map (with_container t (k ∷ ks)) (with_child d (last_of l ls) u)
    by None e g = cc
    by (Some x) e g =
        changed_in (λ part. with_child part (last_of l ls) u) (all_but_last k ks) (all_but_last l ls) t d x (fronts_same k l ks ls h) s e

-- so does taking one out
pub removed_beside : (t d : Tree) (ks ls : List (List ℕ)) → IsTree t → IsSome (container_at t ks) → are_beside ls ks ≡ true
    → without_part (with_container t ks d) ls ≡ option_map (with_container t ks) (without_child d (child_name ls))
removed_beside t d ks [] s there h = cc
removed_beside t d [] (l ∷ ls) s there h = cc
removed_beside t d (k ∷ ks) (l ∷ ls) s there h = by (part_at t (all_but_last k ks)) refl there
  where
    by : (o : Option Tree) → part_at t (all_but_last k ks) ≡ o → IsSome o
        → without_part (with_container t (k ∷ ks) d) (l ∷ ls) ≡ option_map (with_container t (k ∷ ks)) (without_child d (last_of l ls))
    by None e g = cc
    by (Some x) e g =
        changed_in (λ part. without_child part (last_of l ls)) (all_but_last k ks) (all_but_last l ls) t d x (fronts_same k l ks ls h) s e

-- ---- the part beside the place, and another one in its stead

last_apart : (l : List ℕ) (ls : List (List ℕ)) → l ∷ ls ≡ all_but_last l ls ++ last_of l ls ∷ []
last_apart l [] = refl
last_apart l (m ∷ ls) = ap (λ xs. l ∷ xs) (last_apart m ls)

pub found_beside : (t d : Tree) (ks ls : List (List ℕ)) → IsSome (container_at t ks) → are_beside ls ks ≡ true
    → part_at (with_container t ks d) ls ≡ step d (child_name ls)
found_beside t d ks [] there h = cc
found_beside t d [] (l ∷ ls) there h = cc
found_beside t d (k ∷ ks) (l ∷ ls) there h = by (part_at t (all_but_last k ks)) refl there
  where
    by : (o : Option Tree) → part_at t (all_but_last k ks) ≡ o → IsSome o
        → part_at (with_container t (k ∷ ks) d) (l ∷ ls) ≡ step d (last_of l ls)
    by None e g = cc
    by (Some x) e g =
        let u : Tree = with_container t (k ∷ ks) d in
        ap (part_at u) (last_apart l ls)
        ∙ (part_last (all_but_last l ls) u (last_of l ls)
        ∙ (ap (λ js. option_and_then (λ c. step c (last_of l ls)) (part_at u js)) (fronts_same k l ks ls h)
        ∙ ap (option_and_then (λ c. step c (last_of l ls))) (part_put (all_but_last k ks) t d x e)))

pub replaced_beside : (t d old u : Tree) (ks ls : List (List ℕ)) → IsTree t → IsSome (container_at t ks) → are_beside ls ks ≡ true
    → step d (child_name ls) ≡ Some old → with_part (with_container t ks d) ls u ≡ with_container t ks (with_step d (child_name ls) u)
replaced_beside t d old u ks [] s there h at = cc
replaced_beside t d old u [] (l ∷ ls) s there h at = cc
replaced_beside t d old u (k ∷ ks) (l ∷ ls) s there h at = by (part_at t (all_but_last k ks)) refl there
  where
    by : (o : Option Tree) → part_at t (all_but_last k ks) ≡ o → IsSome o
        → with_part (with_container t (k ∷ ks) d) (l ∷ ls) u ≡ with_container t (k ∷ ks) (with_step d (last_of l ls) u)
    by None e g = cc
    by (Some x) e g =
        let js : List (List ℕ) = all_but_last k ks in
        let v : Tree = with_part t js d in
        ap (λ is. with_part v is u) (last_apart l ls ∙ ap (λ is. is ++ last_of l ls ∷ []) (fronts_same k l ks ls h))
        ∙ (with_last js v d old u (last_of l ls) (part_put js t d x e) at
        ∙ part_again js t d (with_step d (last_of l ls) u) x s e)

-- ---- an item that is taken out, and one that is put in where it was

nth_back : (ts : Items) (i : ℕ) (old u : Tree) → nth ts i ≡ Some old → with_item_before (without_nth ts i) i u ≡ Some (with_nth ts i u)
nth_back no_items i old u h = cc
nth_back (item t ts) zero old u h = refl
nth_back (item t ts) (suc i) old u h = ap (option_map (item t)) (nth_back ts i old u h)

pub item_in_its_place : (ts : Items) (k : List ℕ) (old u : Tree) → step (array ts) k ≡ Some old
    → with_child (without_step (array ts) k) k u ≡ Some (with_step (array ts) k u)
item_in_its_place ts k old u h = by (index_of k) refl h (bytes_eq k (codes "-")) refl
  where
    count : ℕ
    count = item_count (without_item ts (index_of k))

    by : (o : Option ℕ) → index_of k ≡ o → item_of ts o ≡ Some old → (b : Bool) → bytes_eq k (codes "-") ≡ b
        → with_child (without_step (array ts) k) k u ≡ Some (with_step (array ts) k u)
    by None at g b e = cc
    by (Some i) at g true e =
        let none : index_of k ≡ None = ap index_of ((bytes_eq-Decides k (codes "-")).0 e) in cc
    by (Some i) at g false e =
        ap (λ b. option_map array (option_and_then (λ j. with_item_before (without_item ts (index_of k)) j u)
        (cond b (Some count) (index_of k)))) e
        ∙ (ap (λ o. option_map array (option_and_then (λ j. with_item_before (without_item ts o) j u) o)) at
        ∙ (ap (option_map array) (nth_back ts i old u g) ∙ ap (λ o. Some (array (with_item_of ts o u))) (sym at)))
