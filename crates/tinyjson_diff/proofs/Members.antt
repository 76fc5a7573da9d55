-- The actions from one object to another: the members of the old one are passed, and then those of the new one.
use Rattle.std.proofs.Common.{◌≡◌, ℕ, suc, Bool, true, false, cond, bytes_eq, List, [], ◌∷◌, ◌++◌, Option, Some, None, Ok}
use Rattle.std.proofs.Common.{option_map, is_some, refl, sym, ap, ◌∙◌, subst}
use Rattle.std.proofs.lemmas.Slice.Eq.{bytes_eq-Decides}
use Rattle.tinyjson.proofs.Callers.{find_below, find_put, find_put_same, find_remove, found_first, members_from_find, put_back, some_none}
use Rattle.tinyjson.proofs.Callers.{sorted_put, sorted_remove}
use Rattle.tinyjson.specs.Soundness.{IsSorted}
use Rattle.tinyjson.specs.Tree.{Tree, object, Members, no_members, member, find, put, remove}
use Rattle.tinyjson_patch.specs.Operation as op
use Rattle.tinyjson_patch.specs.Operation.{Action, applied, or_fail}
use Rattle.tinyjson_patch.specs.declared.operation.Reason.TheVariants.{NoTarget}
use Rattle.tinyjson_pointer.proofs.Callers.{put_again}
use Rattle.tinyjson_pointer.specs.Change.{without_step}
use Rattle.tinyjson_diff.specs.Steps.{AreBelow, Begun, Changes, kept, RemoveMembers}
use Rattle.tinyjson_diff.proofs.Leading.{add_more, alone_new, alone_old, begun_ends, begun_none, begun_same, part_more, remove_more}

-- Of all members these are left.
pub record IsLeft (all rest : Members) : Type 0 where
  pub sorted : IsSorted rest
  pub among : (q : List ℕ) (x : Tree) → find q rest ≡ Some x → find q all ≡ Some x

pub left_begins : (ms : Members) → IsSorted ms → IsLeft ms ms
left_begins ms s = record { sorted = s; among = λ q x e. e }

later : (k q : List ℕ) (v x : Tree) (rest : Members) → IsSorted (member k v rest) → find q rest ≡ Some x → find q (member k v rest) ≡ Some x
later k q v x rest s e = by (bytes_eq q k) refl
  where
    by : (b : Bool) → bytes_eq q k ≡ b → cond b (Some v) (find q rest) ≡ Some x
    by false at = e
    by true at =
        absurd (some_none x (sym e ∙ (ap (λ y. find y rest) ((bytes_eq-Decides q k).0 at) ∙ find_below k rest s.0 s.1)))

pub left_next : (all rest : Members) (k : List ℕ) (v : Tree) → IsLeft all (member k v rest) → IsLeft all rest
left_next all rest k v l = record { sorted = l.sorted.1; among = λ q x e. l.among q x (later k q v x rest l.sorted e) }

-- the first key, which is not left after its turn
module _ (all rest : Members) (k : List ℕ) (v : Tree) (l : IsLeft all (member k v rest)) where
  pub first_there : find k all ≡ Some v
  first_there = l.among k v (found_first k v rest)

  pub first_gone : (q : List ℕ) → bytes_eq q k ≡ true → find q rest ≡ None
  first_gone q e = ap (λ y. find y rest) ((bytes_eq-Decides q k).0 e) ∙ find_below k rest l.sorted.0 l.sorted.1

  gone_first : find k rest ≡ None
  gone_first = find_below k rest l.sorted.0 l.sorted.1

pub none_found : (o : Option Tree) → is_some o ≡ false → o ≡ None
none_found None h = refl
none_found (Some t) h = cc

pub some_found : (o : Option Tree) → is_some o ≡ true → (t : Tree) × (o ≡ Some t)
some_found (Some t) h = (t, refl)
some_found None h = cc

still_gone : (k q : List ℕ) (v : Tree) (rest : Members) → find q (member k v rest) ≡ None → find q rest ≡ None
still_gone k q v rest h = by (bytes_eq q k) h
  where
    by : (b : Bool) → cond b (Some v) (find q rest) ≡ None → find q rest ≡ None
    by true e = absurd (some_none v e)
    by false e = e

not_first : (k q : List ℕ) (v : Tree) (rest : Members) → find q (member k v rest) ≡ None → q ≡ k → ⊥
not_first k q v rest h e =
    some_none v (sym (found_first k v rest) ∙ (ap (λ y. find y (member k v rest)) (sym e) ∙ h))

-- what is found where a key is left, and where it is passed
abbrev pub turned : Option Tree → Option Tree → Option Tree → Option Tree
turned (Some x) o n = o
turned None o n = n

kept_none : (n : Option Tree) → kept None n ≡ None
kept_none None = refl
kept_none (Some t) = refl

-- ---- the members of the old object

abbrev pub IsPassed : Members → Members → List ℕ → Type 0
IsPassed ns rest k = (find k ns ≡ None) × (find k rest ≡ None)

-- what is found after the removals so far
abbrev pub IsRemoving : Members → Members → Members → Members → Type 0
IsRemoving os ns rest now = (q : List ℕ) → find q now ≡ turned (find q rest) (find q os) (kept (find q os) (find q ns))

-- The actions remove those members of the old object that are passed, and that the new object has not.
abbrev pub RemovesPassed : Members → Members → Members → List Action → Type 0
RemovesPassed os ns rest xs =
    IsLeft os rest
    × ((r : ℕ) → (now : Members) × Begun r (object os) (object ns) (object now) (IsPassed ns rest) xs × IsSorted now
    × IsRemoving os ns rest now)

pub removing_begins : (os ns : Members) → IsSorted os → RemovesPassed os ns os []
removing_begins os ns s =
    (left_begins os s, λ r. (os, begun_none (IsPassed ns os) r (object os) (object ns), s, λ q. by (find q os) (find q ns)))
  where
    by : (o n : Option Tree) → o ≡ turned o o (kept o n)
    by (Some x) n = refl
    by None n = sym (kept_none n)

module _ (os ns rest : Members) (k : List ℕ) (v : Tree) (xs : List Action) (h : RemovesPassed os ns (member k v rest) xs) where
  weaker : (q : List ℕ) → IsPassed ns (member k v rest) q → IsPassed ns rest q
  weaker q p = (p.0, still_gone k q v rest p.1)

  at_others : (now : Members) → IsRemoving os ns (member k v rest) now → (q : List ℕ) → bytes_eq q k ≡ false
      → find q now ≡ turned (find q rest) (find q os) (kept (find q os) (find q ns))
  at_others now g q apart =
      g q ∙ ap (λ b. turned (cond b (Some v) (find q rest)) (find q os) (kept (find q os) (find q ns))) apart

  at_first : (n : Option Tree) → find k ns ≡ n → (q : List ℕ) → bytes_eq q k ≡ true
      → turned (find q rest) (find q os) (kept (find q os) (find q ns)) ≡ kept (find q os) n
  at_first n here q same =
      ap (λ o. turned o (find q os) (kept (find q os) (find q ns))) (first_gone os rest k v h.0 q same)
      ∙ ap (kept (find q os)) (ap (λ y. find y ns) ((bytes_eq-Decides q k).0 same) ∙ here)

  -- a member that the new object has, too
  pub removing_keeps : (w : Tree) → find k ns ≡ Some w → RemovesPassed os ns rest xs
  removing_keeps w here = (
    left_next os rest k v h.0,
    λ r. let g = h.1 r in (
      g.0,
      begun_same (IsPassed ns (member k v rest)) (IsPassed ns rest) r (object os) (object ns) (object g.0) xs weaker g.1,
      g.2,
      λ q. by g.0 g.3 q (bytes_eq q k) refl,
    ),
  )
    where
      by : (now : Members) → IsRemoving os ns (member k v rest) now → (q : List ℕ) (b : Bool) → bytes_eq q k ≡ b
          → find q now ≡ turned (find q rest) (find q os) (kept (find q os) (find q ns))
      by now g q false e = at_others now g q e
      by now g q true e =
          g q ∙ (ap (λ b. turned (cond b (Some v) (find q rest)) (find q os) (kept (find q os) (find q ns))) e
          ∙ sym (at_first (Some w) here q e))

  -- one that it has not
  pub removing_removes : find k ns ≡ None → RemovesPassed os ns rest (xs ++ op.remove (k ∷ []) ∷ [])
  removing_removes here = (
    left_next os rest k v h.0,
    λ r. let g = h.1 r in (
      remove k g.0,
      remove_more (IsPassed ns (member k v rest)) (λ q. q ≡ k) (IsPassed ns rest) (λ q p e. not_first k q v rest p.1 e) weaker
          (λ q e. (ap (λ y. find y ns) e ∙ here, ap (λ y. find y rest) e ∙ gone_first os rest k v h.0)) r (object os) (object ns)
          (object g.0) (object (remove k g.0)) k refl xs g.1 (removed g.0 g.3)
          (alone_old r (object os) (object ns) v k (first_there os rest k v h.0) here),
      sorted_remove k g.0 g.2,
      λ q. find_remove q k g.0 ∙ by g.0 g.3 q (bytes_eq q k) refl,
    ),
  )
    where
      removed : (now : Members) → IsRemoving os ns (member k v rest) now
          → applied (op.remove (k ∷ [])) (object now) ≡ Ok (object (remove k now))
      removed now g =
          ap (λ o. or_fail (option_map (λ x. x) (option_map (λ x. without_step (object now) k) o)) NoTarget)
          (g k ∙ (ap (λ o. turned o (find k os) (kept (find k os) (find k ns))) (found_first k v rest) ∙ first_there os rest k v h.0))

      by : (now : Members) → IsRemoving os ns (member k v rest) now → (q : List ℕ) (b : Bool) → bytes_eq q k ≡ b
          → cond b None (find q now) ≡ turned (find q rest) (find q os) (kept (find q os) (find q ns))
      by now g q false e = at_others now g q e
      by now g q true e = sym (at_first None here q e)

pub removing_ends : (os ns rest : Members) (xs : List Action) → rest ≡ no_members → RemovesPassed os ns rest xs → RemoveMembers os ns xs
removing_ends os ns rest xs none h = λ r.
    let g = h.1 r in (
      g.0,
      begun_same (IsPassed ns rest) (λ k. find k ns ≡ None) r (object os) (object ns) (object g.0) xs (λ k p. p.0) g.1,
      g.2,
      λ q. g.3 q ∙ ap (λ ms. turned (find q ms) (find q os) (kept (find q os) (find q ns))) none,
    )

-- ---- the members of the new object

-- The actions lead to an object that has of the new members those that are passed, and of the others what the old object has.
abbrev pub AddsPassed : ℕ → Members → Members → Members → List Action → Type 0
AddsPassed r os ns rest xs =
    IsLeft ns rest
    × (now : Members) × Begun r (object os) (object ns) (object now) (λ k. find k rest ≡ None) xs × IsSorted now
    × ((q : List ℕ) → find q now ≡ turned (find q rest) (kept (find q os) (find q ns)) (find q ns))

pub adding_begins : (r : ℕ) (os ns : Members) (xs : List Action) → IsSorted ns → RemoveMembers os ns xs → AddsPassed r os ns ns xs
adding_begins r os ns xs s h =
    let g = h r in (left_begins ns s, g.0, g.1, g.2, λ q. g.3 q ∙ by (find q os) (find q ns))
  where
    by : (o n : Option Tree) → kept o n ≡ turned n (kept o n) n
    by o (Some t) = refl
    by o None = refl

-- the object with x at the key
abbrev set_member : Members → List ℕ → Tree → Tree
set_member ms k x = object (put k x ms)

module _ (r : ℕ) (os ns rest : Members) (k : List ℕ) (v : Tree) (xs : List Action) (h : AddsPassed r os ns (member k v rest) xs) where
  abbrev now : Members
  now = h.1

  no_other : (q : List ℕ) → find q (member k v rest) ≡ None → q ≡ k → ⊥
  no_other q g e = not_first k q v rest g e

  passed : (q : List ℕ) → q ≡ k → find q rest ≡ None
  passed q e = ap (λ y. find y rest) e ∙ gone_first ns rest k v h.0

  next : (ys : List Action) → Begun r (object os) (object ns) (object (put k v now)) (λ q. find q rest ≡ None) ys
      → AddsPassed r os ns rest ys
  next ys b =
      (left_next ns rest k v h.0, put k v now, b, sorted_put k v now h.3, λ q. find_put q k v now ∙ by q (bytes_eq q k) refl)
    where
      by : (q : List ℕ) (b : Bool) → bytes_eq q k ≡ b
          → cond b (Some v) (find q now) ≡ turned (find q rest) (kept (find q os) (find q ns)) (find q ns)
      by q false e = h.4 q ∙ ap (λ c. turned (cond c (Some v) (find q rest)) (kept (find q os) (find q ns)) (find q ns)) e
      by q true e =
          sym (ap (λ o. turned o (kept (find q os) (find q ns)) (find q ns)) (first_gone ns rest k v h.0 q e)
          ∙ (ap (λ y. find y ns) ((bytes_eq-Decides q k).0 e) ∙ first_there ns rest k v h.0))

  pub adding_adds : find k os ≡ None → AddsPassed r os ns rest (xs ++ op.add (k ∷ []) v ∷ [])
  adding_adds gone =
      next (xs ++ op.add (k ∷ []) v ∷ [])
      (add_more (λ q. find q (member k v rest) ≡ None) (λ q. q ≡ k) (λ q. find q rest ≡ None) no_other (λ q. still_gone k q v rest) passed
      r (object os) (object ns) (object now) (object (put k v now)) k refl v xs h.2 refl
      (alone_new r (object os) (object ns) v k gone (first_there ns rest k v h.0)))

  -- the member of both is changed
  pub adding_changes : (p : Tree) (inner ys : List Action) → find k os ≡ Some p → Changes r p v inner → AreBelow (λ q. q ≡ k) inner ys
      → AddsPassed r os ns rest (xs ++ ys)
  adding_changes p inner ys there c below =
      next (xs ++ ys)
      (part_more (λ q. q ≡ k) r (object os) (object ns) p v (λ q e. ap (λ y. find y os) e ∙ there)
      (λ q e. ap (λ y. find y ns) e ∙ first_there ns rest k v h.0) (set_member now k)
      (λ q x e. ap (λ y. find y (put k x now)) e ∙ find_put_same k x now)
      (λ q x y e. ap (λ z. object (put z y (put k x now))) e ∙ ap object (put_again k x y now h.3))
      (λ q. find q (member k v rest) ≡ None) (λ q. find q rest ≡ None) xs ys inner no_other (λ q. still_gone k q v rest) passed
      (subst (λ z. Begun r (object os) (object ns) z (λ q. find q (member k v rest) ≡ None) xs) (sym back) h.2) c below)
    where
      here : find k now ≡ Some p
      here =
          h.4 k ∙ (ap (λ o. turned o (kept (find k os) (find k ns)) (find k ns)) (found_first k v rest)
          ∙ (ap (λ n. kept (find k os) n) (first_there ns rest k v h.0) ∙ there))

      back : set_member now k p ≡ object now
      back = ap object (put_back k p now h.3 here)

pub adding_ends : (r : ℕ) (os ns rest : Members) (xs : List Action) → IsSorted ns → rest ≡ no_members → AddsPassed r os ns rest xs
    → Changes (suc r) (object os) (object ns) xs
adding_ends r os ns rest xs s none h =
    begun_ends (λ k. find k rest ≡ None) r (object os) (object ns) xs
    (subst (λ ms. Begun r (object os) (object ns) (object ms) (λ k. find k rest ≡ None) xs) all h.2)
  where
    all : h.1 ≡ ns
    all =
        members_from_find h.1 ns h.3 s
        (λ q. h.4 q ∙ ap (λ ms. turned (find q ms) (kept (find q os) (find q ns)) (find q ns)) none)
