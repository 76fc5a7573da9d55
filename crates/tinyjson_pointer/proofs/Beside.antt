-- The container of a place that tokens name, and the items of an array apart from its value.
use Rattle.std.proofs.Common.{◌≡◌, ◌<◌, ◌≤◌, ◌&&◌, ℕ, zero, suc, Bool, List, [], ◌∷◌, ◌++◌, length, map, Option, Some, None}
use Rattle.std.proofs.Common.{IsSome, IfSome, IfNone, OnSome, Bor, String, Vec, Global, option_map, get_or, refl, sym, ap, ◌∙◌, subst}
use Rattle.std.proofs.Common.{arith}
use Rattle.std.proofs.lemmas.List.{map-append, length-map}
use Rattle.std.specs.Box.{box_value}
use Rattle.std.specs.List.{insert, remove, starts_with}
use Rattle.std.specs.declared.boxed.Box.{Box}
use Rattle.std.specs.declared.collections.VecDeque.{VecDeque}
use Rattle.std.specs.String.{string_eq}
use Rattle.tinyjson.proofs.Callers.{view_Array, nth_items_view}
use Rattle.tinyjson.specs.Tree.{Tree, null, array}
use Rattle.tinyjson.specs.View.{view, text, items_view}
use Rattle.tinyjson.specs.declared.value.JsonValue.{JsonValue}
use Rattle.tinyjson.specs.declared.value.JsonValue.TheVariants as is
use Rattle.tinyjson_pointer.proofs.Changing.{last_is, rest_is}
use Rattle.tinyjson_pointer.proofs.Children.{begins, removal, at_index}
use Rattle.tinyjson_pointer.proofs.Steps.{nth_past}
use Rattle.tinyjson_pointer.specs.Change.{all_but_last, without_child, without_step, Removes}
use Rattle.tinyjson_pointer.specs.Index.{index_of}
use Rattle.tinyjson_pointer.specs.Siblings.{container_at, with_container, child_name, are_beside, IsTaken, boxes_view}
use Rattle.tinyjson_pointer.specs.Tokens.{begins_with}
use Rattle.tinyjson_pointer.specs.Walk.{step, item_of, part_at, with_part}

-- ---- of all tokens but the last, and the last

pub container_is : (t : Tree) (js : List (List ℕ)) (k : List ℕ) → container_at t (js ++ k ∷ []) ≡ part_at t js
container_is t [] k = refl
container_is t (j ∷ js) k = ap (part_at t) (rest_is j js k)

pub with_is : (t c : Tree) (js : List (List ℕ)) (k : List ℕ) → with_container t (js ++ k ∷ []) c ≡ with_part t js c
with_is t c [] k = refl
with_is t c (j ∷ js) k = ap (λ x. with_part t x c) (rest_is j js k)

pub name_is : (js : List (List ℕ)) (k : List ℕ) → child_name (js ++ k ∷ []) ≡ k
name_is [] k = refl
name_is (j ∷ js) k = last_is j js k

abbrev both_begin : List (List ℕ) → List (List ℕ) → Bool
both_begin js is = begins_with js is && begins_with is js

beside_is : (js is : List (List ℕ)) (k l : List ℕ) → are_beside (js ++ k ∷ []) (is ++ l ∷ []) ≡ both_begin js is
beside_is [] [] k l = refl
beside_is [] (i ∷ is) k l = ap (both_begin []) (rest_is i is l)
beside_is (j ∷ js) [] k l = ap (λ x. both_begin x []) (rest_is j js k)
beside_is (j ∷ js) (i ∷ is) k l =
    ap (λ x. both_begin x (all_but_last i (is ++ l ∷ []))) (rest_is j js k) ∙ ap (both_begin (j ∷ js)) (rest_is i is l)

pub split_tokens : (xs fs : List (String Global)) (l : String Global) → xs ≡ fs ++ l ∷ [] → map text xs ≡ map text fs ++ text l ∷ []
split_tokens xs fs l e = ap (map text) e ∙ map-append text fs (l ∷ [])

pub beside_both : (xs ys fs gs : List (String Global)) (k l : String Global) → xs ≡ fs ++ k ∷ [] → ys ≡ gs ++ l ∷ []
    → are_beside (map text xs) (map text ys) ≡ (starts_with string_eq fs gs && starts_with string_eq gs fs)
beside_both xs ys fs gs k l e f =
    ap (λ ks. are_beside ks (map text ys)) (split_tokens xs fs k e)
    ∙ (ap (are_beside (map text fs ++ text k ∷ [])) (split_tokens ys gs l f)
    ∙ (beside_is (map text fs) (map text gs) (text k) (text l)
    ∙ (ap (λ b. b && begins_with (map text gs) (map text fs)) (sym (begins fs gs))
    ∙ ap (λ b. starts_with string_eq fs gs && b) (sym (begins gs fs)))))

-- ---- the container is taken out, or another one put in its place

pub taken : (t t' : Tree) (ks js : List (List ℕ)) (k : List ℕ) (v : JsonValue) (l : Vec JsonValue Global) (vs : List JsonValue)
    → ks ≡ js ++ k ∷ [] → v ≡ is.Array l → vs ≡ l.items → part_at t js ≡ Some (view v) → t' ≡ with_part t js null
    → IsTaken t ks (array (items_view vs)) t'
taken t t' ks js k v l vs split e same there out = (
  ap (container_at t) split ∙ (container_is t js k ∙ (there
      ∙ ap Some (ap view e ∙ (view_Array l ∙ ap (λ xs. array (items_view xs)) (sym same))))),
  out ∙ sym (ap (λ x. with_container t x null) split ∙ with_is t null js k),
)

pub put_in : (t t' c : Tree) (ks js : List (List ℕ)) (k : List ℕ) → ks ≡ js ++ k ∷ []
    → (IsSome (part_at t js) → t' ≡ with_part t js c) → IsSome (container_at t ks) → t' ≡ with_container t ks c
put_in t t' c ks js k split h there =
    h (subst IsSome (ap (container_at t) split ∙ container_is t js k) there)
    ∙ sym (ap (λ x. with_container t x c) split ∙ with_is t c js k)

-- ---- items

pub nothing_there : (vs : List JsonValue) (k : List ℕ) (o : Option ℕ) → index_of k ≡ o → ((i : ℕ) → o ≡ Some i → length vs ≤ i)
    → without_child (array (items_view vs)) k ≡ None
nothing_there vs k o at past =
    ap (option_map (λ u. without_step (array (items_view vs)) k)) (ap (item_of (items_view vs)) at ∙ by o past)
  where
    by : (p : Option ℕ) → ((i : ℕ) → p ≡ Some i → length vs ≤ i) → item_of (items_view vs) p ≡ None
    by None h = refl
    by (Some i) h = nth_past vs i (h i refl)

pub removes_at : (vs ws : List JsonValue) (k : List ℕ) (i : ℕ) (r : Option JsonValue) → index_of k ≡ Some i
    → (IsSome r → i < length vs) → (i < length vs → IsSome r) → IfNone r (ws ≡ vs) → IfSome r (λ x. x ≡ get_or vs i x)
    → OnSome r (ws ≡ remove vs i)
    → Removes (step (array (items_view vs)) k) (without_child (array (items_view vs)) k) (array (items_view vs)) r
    (array (items_view ws))
removes_at vs ws k i None at within there same is out =
    (nothing_there vs k (Some i) at (λ j e. let one : i ≡ j = cc in past j one), ap (λ xs. array (items_view xs)) same)
  where
    past : (j : ℕ) → i ≡ j → length vs ≤ j
    past j e = grind (arith, there)
removes_at vs ws k i (Some x) at within there same is out = removal vs ws k i x at (within refl) is out

pub same_items : (p q : VecDeque (Box JsonValue Global) Global) (r : Option (Box JsonValue Global)) → IfNone r (q ≡ p)
    → IfNone (option_map box_value r) (map box_value q.items ≡ map box_value p.items)
same_items p q None h = ap (λ x. map box_value x.items) h
same_items p q (Some x) h = tt

-- ---- items in boxes

pub boxes_inserted : (bs cs : List (Box JsonValue Global)) (i : ℕ) (b : Box JsonValue Global) → cs ≡ insert bs i b
    → map box_value cs ≡ insert (map box_value bs) i (box_value b)
boxes_inserted bs cs i b e = ap (map box_value) e ∙ by bs i
  where
    by : (xs : List (Box JsonValue Global)) (j : ℕ) → map box_value (insert xs j b) ≡ insert (map box_value xs) j (box_value b)
    by [] zero = refl
    by [] (suc j) = refl
    by (x ∷ xs) zero = refl
    by (x ∷ xs) (suc j) = ap (λ ys. box_value x ∷ ys) (by xs j)

boxes_removed : (xs : List (Box JsonValue Global)) (j : ℕ) → map box_value (remove xs j) ≡ remove (map box_value xs) j
boxes_removed [] zero = refl
boxes_removed [] (suc j) = refl
boxes_removed (x ∷ xs) zero = refl
boxes_removed (x ∷ xs) (suc j) = ap (λ ys. box_value x ∷ ys) (boxes_removed xs j)

boxed_at : (xs : List (Box JsonValue Global)) (i : ℕ) (b : Box JsonValue Global) → b ≡ get_or xs i b
    → box_value b ≡ get_or (map box_value xs) i (box_value b)
boxed_at xs i b e = ap box_value e ∙ by xs i
  where
    by : (ys : List (Box JsonValue Global)) (j : ℕ) → box_value (get_or ys j b) ≡ get_or (map box_value ys) j (box_value b)
    by [] j = refl
    by (y ∷ ys) zero = refl
    by (y ∷ ys) (suc j) = by ys j

-- what `remove` says of boxes, of what they hold
pub box_none : (r : Option (Box JsonValue Global)) → r ≡ None → option_map box_value r ≡ None
box_none r e = ap (option_map box_value) e

pub held_in : (r : Option (Box JsonValue Global)) → IsSome (option_map box_value r) → IsSome r
held_in None h = h
held_in (Some b) h = refl

pub held_out : (r : Option (Box JsonValue Global)) → IsSome r → IsSome (option_map box_value r)
held_out None h = h
held_out (Some b) h = refl

pub held_at : (xs : List (Box JsonValue Global)) (i : ℕ) (r : Option (Box JsonValue Global)) → IfSome r (λ b. b ≡ get_or xs i b)
    → IfSome (option_map box_value r) (λ v. v ≡ get_or (map box_value xs) i v)
held_at xs i None h = tt
held_at xs i (Some b) h = boxed_at xs i b h

pub held_left : (xs ys : List (Box JsonValue Global)) (i : ℕ) (r : Option (Box JsonValue Global)) → OnSome r (ys ≡ remove xs i)
    → OnSome (option_map box_value r) (map box_value ys ≡ remove (map box_value xs) i)
held_left xs ys i None h = tt
held_left xs ys i (Some b) h = ap (map box_value) h ∙ boxes_removed xs i

item_missing : (bs : List (Box JsonValue Global)) (o : Option ℕ) → ((i : ℕ) → o ≡ Some i → length bs ≤ i) → item_of (boxes_view bs) o ≡ None
item_missing bs None h = refl
item_missing bs (Some i) h = nth_past (map box_value bs) i (omega (arith, length-map bs box_value, h i refl))

pub item_past : (bs : List (Box JsonValue Global)) (k : List ℕ) (r : Option (Bor JsonValue)) → r ≡ None
    → ((i : ℕ) → index_of k ≡ Some i → length bs ≤ i) → option_map (λ x. view x.now) r ≡ step (array (boxes_view bs)) k
item_past bs k r e h = ap (option_map (λ x. view x.now)) e ∙ sym (item_missing bs (index_of k) h)

pub item_gone : (bs : List (Box JsonValue Global)) (k : List ℕ) (i : ℕ) (r : Option (Bor JsonValue)) → r ≡ None → index_of k ≡ Some i
    → length bs ≤ i → option_map (λ x. view x.now) r ≡ step (array (boxes_view bs)) k
item_gone bs k i r e at h =
    ap (option_map (λ x. view x.now)) e
    ∙ sym (ap (item_of (boxes_view bs)) at ∙ nth_past (map box_value bs) i (omega (arith, length-map bs box_value, h)))

pub item_is : (bs : List (Box JsonValue Global)) (k : List ℕ) (i : ℕ) (b : Box JsonValue Global) → index_of k ≡ Some i → i < length bs
    → b ≡ get_or bs i b → Some (view (box_value b)) ≡ step (array (boxes_view bs)) k
item_is bs k i b at within e =
    let n : length (map box_value bs) ≡ length bs = length-map bs box_value in
    sym (ap (item_of (boxes_view bs)) at
    ∙ (nth_items_view (map box_value bs) i
    ∙ ap (option_map view) (at_index (map box_value bs) i (box_value b) (omega (arith, n, within)) (boxed_at bs i b e))))
