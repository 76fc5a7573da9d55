-- The stack: what is pushed, and what closes.
use Rattle.std.proofs.Common.{◌≡◌, ℕ, suc, ◌+◌, ◌-◌, ◌≤◌, List, [], ◌∷◌, ◌++◌, map, take, drop, reverse, length, String}
use Rattle.std.proofs.Common.{Global, refl, sym, ap, ap₂, ◌∙◌, subst, arith}
use Rattle.std.proofs.Math.Seq.{drop-length, take-length, take-append_seam, drop-append_seam}
use Rattle.std.proofs.lemmas.List.{reverse-append, reverse-reverse, map-append, length-drop, drop-append-le, take-append-le, length-take-le}
use Rattle.std.proofs.lemmas.List.{length-append, length-reverse, take-append-drop, drop_all}
use Rattle.tinyjson_grammar.specs.Tree.{Tree, Members, no_members, put}
use Rattle.tinyjson.specs.View.{view, text}
use Rattle.tinyjson.specs.Access.{JsonMap}
use Rattle.tinyjson_grammar.specs.Machine.{Frame, in_array, at_key, at_value}
use Rattle.tinyjson.specs.Events.{Puts}
use Rattle.tinyjson.specs.private.Stack.{gather, waiting, own_members, other_maps, Holds, maps_of, holds, is}
use Rattle.tinyjson.specs.declared.parser.stack.Place.{Place}
use Rattle.tinyjson.specs.declared.parser.stack.Stack.{Stack}
use Rattle.tinyjson.specs.declared.value.JsonValue.{JsonValue}

abbrev Keys : Type 0
Keys = List (String Global)

-- ---- gathered members

-- the value of the key that had none
pub gather_value : (ms : Members) (ks : Keys) (vs : List JsonValue) (v : JsonValue) → length ks ≡ suc (length vs)
    → gather ms ks (vs ++ v ∷ []) ≡ put (waiting ks vs) (view v) (gather ms ks vs)
gather_value ms [] vs v h = absurd (omega (arith, h))
gather_value ms (k ∷ ks) [] v h = none ks (omega (arith, h))
  where
    none : (js : Keys) → length js ≡ 0 → gather (put (text k) (view v) ms) js [] ≡ put (text k) (view v) ms
    none [] e = refl
    none (j ∷ js) e = absurd (omega (arith, e))
gather_value ms (k ∷ ks) (w ∷ vs) v h = gather_value (put (text k) (view w) ms) ks vs v (omega (arith, h))

-- a key that has no value yet counts for nothing, and waits
pub gather_key : (ms : Members) (ks : Keys) (vs : List JsonValue) (k : String Global) → length ks ≡ length vs
    → gather ms (ks ++ k ∷ []) vs ≡ gather ms ks vs
gather_key ms [] [] k h = refl
gather_key ms [] (v ∷ vs) k h = absurd (omega (arith, h))
gather_key ms (j ∷ ks) [] k h = refl
gather_key ms (j ∷ ks) (v ∷ vs) k h = gather_key (put (text j) (view v) ms) ks vs k (omega (arith, h))

pub waiting_key : (ks : Keys) (vs : List JsonValue) (k : String Global) → length ks ≡ length vs → waiting (ks ++ k ∷ []) vs ≡ text k
waiting_key [] [] k h = refl
waiting_key [] (v ∷ vs) k h = absurd (omega (arith, h))
waiting_key (j ∷ ks) [] k h = absurd (omega (arith, h))
waiting_key (j ∷ ks) (v ∷ vs) k h = waiting_key ks vs k (omega (arith, h))

-- no value is left, so no member is put
none_put : (ms : Members) (ks : Keys) → gather ms ks [] ≡ ms
none_put ms [] = refl
none_put ms (k ∷ ks) = refl

pub none_left : (ms : Members) (n : ℕ) (vs : List JsonValue) (ks : Keys) → length vs ≤ n → ms ≡ gather ms ks (reverse (drop n vs))
none_left ms n vs ks h = sym (none_put ms ks) ∙ ap (λ us. gather ms ks (reverse us)) (sym (drop_all n vs h))

-- a list whose elements from a place on were put in the opposite order
module _ {T : Type 0} (n : ℕ) (xs ys : List T) (h : n ≤ length xs) (e : ys ≡ take n xs ++ reverse (drop n xs)) where
  pub turned_front : take n ys ≡ take n xs
  turned_front = ap (take n) e ∙ ap (λ k. take k (take n xs ++ reverse (drop n xs))) (sym (length-take-le n xs h))
      ∙ take-append_seam (take n xs) (reverse (drop n xs))

  pub turned_back : reverse (drop n ys) ≡ drop n xs
  turned_back =
      ap (λ zs. reverse (drop n zs)) e
      ∙ ap reverse (ap (λ k. drop k (take n xs ++ reverse (drop n xs))) (sym (length-take-le n xs h))
      ∙ drop-append_seam (take n xs) (reverse (drop n xs)))
      ∙ reverse-reverse (drop n xs)

  pub turned_length : length ys ≡ length xs
  turned_length = ap length e ∙ length-append (take n xs) (reverse (drop n xs))
      ∙ ap (λ k. length (take n xs) + k) (length-reverse (drop n xs)) ∙ sym (length-append (take n xs) (drop n xs))
      ∙ ap length (take-append-drop n xs)

-- ---- the last of a list is the first of its reverse

pub pushed : {T : Type 0} (xs : List T) (o : T) → reverse (xs ++ o ∷ []) ≡ o ∷ reverse xs
pushed xs o = reverse-append xs (o ∷ [])

pub popped : {T : Type 0} (old new : List T) (o : T) (os : List T) → reverse old ≡ o ∷ os → new ≡ take (length old - 1) old
    → reverse new ≡ os
popped old new o os e h =
    let whole : old ≡ reverse os ++ o ∷ [] = sym (reverse-reverse old) ∙ ap reverse e ∙ reverse-append (o ∷ []) os in
    let size : length old ≡ length (reverse os) + 1 = ap length whole ∙ length-append (reverse os) (o ∷ []) in
    let n : length old - 1 ≡ length (reverse os) = omega (arith, size) in
    ap reverse (h ∙ ap₂ take n whole ∙ take-append_seam (reverse os) (o ∷ [])) ∙ reverse-reverse os

pub last_same : (xs ys : List JsonValue) (x y : JsonValue) → xs ++ x ∷ [] ≡ ys ++ y ∷ [] → x ≡ y
last_same xs ys x y e = sym (ap head (pushed xs x)) ∙ ap (λ zs. head (reverse zs)) e ∙ ap head (pushed ys y)
  where
    head : List JsonValue → JsonValue
    head [] = y
    head (z ∷ zs) = z

-- ---- what a stack stands for, by its parts

pub holds_by : (s : Stack) (os : List Place) (fs : List Frame) (vs : List JsonValue) (ks : Keys) (ms : List JsonMap) → Holds os fs vs ks ms
    → reverse s.places.items ≡ os → s.values.items ≡ vs → s.keys.items ≡ ks → maps_of s ≡ ms → holds s fs
holds_by s os fs vs ks ms h o e k m = subst (λ ps. Holds ps fs s.values.items s.keys.items (maps_of s)) (sym o)
    (subst (λ us. Holds os fs us s.keys.items (maps_of s)) (sym e)
    (subst (λ js. Holds os fs vs js (maps_of s)) (sym k) (subst (λ ns. Holds os fs vs ks ns) (sym m) h)))

pub holds_at : (s : Stack) (os : List Place) (fs : List Frame) → holds s fs → reverse s.places.items ≡ os
    → Holds os fs s.values.items s.keys.items (maps_of s)
holds_at s os fs h o = subst (λ ps. Holds ps fs s.values.items s.keys.items (maps_of s)) o h

-- ---- a container that begins

pub holds_array : (o : Place) (os : List Place) (fs : List Frame) (vs : List JsonValue) (ks : Keys) (ms : List JsonMap)
    → o.values ≡ length vs → Holds os fs vs ks ms → Holds (o ∷ os) (in_array [] ∷ fs) vs ks ms
holds_array o os fs vs ks ms e h = (
  omega (arith, e),
  sym (ap (λ n. map view (drop n vs)) e ∙ ap (map view) (drop-length vs)),
  subst (λ us. Holds os fs us ks ms) (sym (ap (λ n. take n vs) e ∙ take-length vs)) h,
)

pub holds_object : (o : Place) (os : List Place) (fs : List Frame) (vs : List JsonValue) (ks : Keys) (ms ns : List JsonMap)
    → o.values ≡ length vs → o.keys ≡ length ks → own_members ns ≡ no_members → other_maps ns ≡ ms
    → Holds os fs vs ks ms → Holds (o ∷ os) (at_key no_members ∷ fs) vs ks ns
holds_object o os fs vs ks ms ns e k own others h = (
  omega (arith, e),
  omega (arith, k),
  omega (arith, e, k),
  sym (ap₂ (λ ds us. gather (own_members ns) ds us) (ap (λ n. drop n ks) k ∙ drop-length ks)
      (ap (λ n. drop n vs) e ∙ drop-length vs) ∙ own),
  subst (λ us. Holds os fs us (take o.keys ks) (other_maps ns)) (sym (ap (λ n. take n vs) e ∙ take-length vs))
      (subst (λ js. Holds os fs vs js (other_maps ns)) (sym (ap (λ n. take n ks) k ∙ take-length ks))
      (subst (λ js. Holds os fs vs ks js) (sym others) h)),
)

-- ---- a key that is read

pub holds_key : (os : List Place) (fs : List Frame) (t : Members) (vs : List JsonValue) (ks : Keys) (ms : List JsonMap) (k : String Global)
    → Holds os (at_key t ∷ fs) vs ks ms → Holds os (at_value t (text k) ∷ fs) vs (ks ++ k ∷ []) ms
holds_key [] fs t vs ks ms k h = absurd h
holds_key (o ∷ os) fs t vs ks ms k h =
    let same : length (drop o.keys ks) ≡ length (drop o.values vs) = length-drop o.keys ks ∙ omega (arith, h.0, h.1, h.2)
    ∙ sym (length-drop o.values vs) in
    let size = length-append ks (k ∷ []) in
    let back = drop-append-le o.keys ks (k ∷ []) h.1 in (
      h.0,
      omega (arith, size, h.1),
      omega (arith, size, h.2),
      h.3 ∙ sym (ap (λ js. gather (own_members ms) js (drop o.values vs)) back
          ∙ gather_key (own_members ms) (drop o.keys ks) (drop o.values vs) k same),
      sym (ap (λ js. waiting js (drop o.values vs)) back ∙ waiting_key (drop o.keys ks) (drop o.values vs) k same),
      subst (λ js. Holds os fs (take o.values vs) js (other_maps ms)) (sym (take-append-le o.keys ks (k ∷ []) h.1)) h.4,
    )

-- ---- a value that is complete

module _ (vs : List JsonValue) (v : JsonValue) (ks : Keys) (ms : List JsonMap) where
  holds_item : (os : List Place) (fs : List Frame) (ts : List Tree) → Holds os (in_array ts ∷ fs) vs ks ms
      → Holds os (in_array (ts ++ view v ∷ []) ∷ fs) (vs ++ v ∷ []) ks ms
  holds_item [] fs ts h = absurd h
  holds_item (o ∷ os) fs ts h =
      let size = length-append vs (v ∷ []) in (
        omega (arith, size, h.0),
        ap (λ us. us ++ view v ∷ []) h.1 ∙ sym (ap (map view) (drop-append-le o.values vs (v ∷ []) h.0)
            ∙ map-append view (drop o.values vs) (v ∷ [])),
        subst (λ us. Holds os fs us ks ms) (sym (take-append-le o.values vs (v ∷ []) h.0)) h.2,
      )

  holds_member : (os : List Place) (fs : List Frame) (t : Members) (k : List ℕ) → Holds os (at_value t k ∷ fs) vs ks ms
      → Holds os (at_key (put k (view v) t) ∷ fs) (vs ++ v ∷ []) ks ms
  holds_member [] fs t k h = absurd h
  holds_member (o ∷ os) fs t k h =
      let size = length-append vs (v ∷ []) in
      let more : length (drop o.keys ks) ≡ suc (length (drop o.values vs)) = length-drop o.keys ks ∙ omega (arith, h.0, h.1, h.2)
      ∙ ap suc (sym (length-drop o.values vs)) in (
        omega (arith, size, h.0),
        h.1,
        omega (arith, size, h.2),
        ap₂ (λ j m. put j (view v) m) h.4 h.3
            ∙ sym (ap (gather (own_members ms) (drop o.keys ks)) (drop-append-le o.values vs (v ∷ []) h.0)
            ∙ gather_value (own_members ms) (drop o.keys ks) (drop o.values vs) v more),
        subst (λ us. Holds os fs us (take o.keys ks) (other_maps ms)) (sym (take-append-le o.values vs (v ∷ []) h.0)) h.5,
      )

  pub holds_value : (os : List Place) (fs : List Frame) (t : Tree) (s : Stack) → Holds os fs vs ks ms → view v ≡ t
      → reverse s.places.items ≡ os → s.values.items ≡ vs ++ v ∷ [] → s.keys.items ≡ ks → maps_of s ≡ ms → Puts holds is fs t s
  holds_value os [] t s h w o e k m = (vs, v, e, w)
  holds_value os (in_array ts ∷ fs) t s h w o e k m = subst (λ u. holds s (in_array (ts ++ u ∷ []) ∷ fs)) w
      (holds_by s os (in_array (ts ++ view v ∷ []) ∷ fs) (vs ++ v ∷ []) ks ms (holds_item os fs ts h) o e k m)
  holds_value os (at_key j ∷ fs) t s h w o e k m = tt
  holds_value os (at_value j i ∷ fs) t s h w o e k m = subst (λ u. holds s (at_key (put i u j) ∷ fs)) w
      (holds_by s os (at_key (put i (view v) j) ∷ fs) (vs ++ v ∷ []) ks ms (holds_member os fs j i h) o e k m)
