-- What stands after each event.
use Rattle.std.proofs.Common.{◌≡◌, ℕ, suc, ◌+◌, ◌-◌, Bool, true, false, List, [], ◌∷◌, length, Option, Some, None, option_map}
use Rattle.std.proofs.Common.{Result, Ok, Err, OnOk, refl, sym, ap, ◌∙◌, subst, arith}
use Rattle.example_pick.specs.Picking.{Around, Holds, is_scalar, members_of, Picks, stored, without, Within}
use Rattle.example_pick.proofs.Picks.{other_picks, removed_picks, stored_picks}
use Rattle.example_pick.specs.declared.picking.Picking.{Picking}
use Rattle.tinyjson.specs.View.{members_view, text}
use Rattle.tinyjson.specs.Events.{Open, in_array, at_key, at_value, Puts}
use Rattle.tinyjson.specs.Tree.{Tree, Members, null, boolean, number, string, array, object, no_items, no_members, put}

scalar_members : (t : Tree) → is_scalar t ≡ true → members_of t ≡ no_members
scalar_members null s = refl
scalar_members (boolean b) s = refl
scalar_members (number d) s = refl
scalar_members (string cs) s = refl
scalar_members (array ts) s = refl
scalar_members (object ms) s = cc

module _ {W : Type 0} where
  abbrev pub depth_of : Picking W → ℕ
  depth_of e = e.depth

  abbrev pub key_of : Picking W → Option (List ℕ)
  key_of e = option_map text e.key

  abbrev pub picked_of : Picking W → Members
  picked_of e = members_view e.members.entries

module _ {E : Type 0} (wants : List ℕ → Bool) (depth : E → ℕ) (key : E → Option (List ℕ)) (ps : E → Members) where
  abbrev pub HoldsNow : E → List Open → Type 0
  HoldsNow e os = Holds wants (depth e) (key e) (ps e) os

  abbrev pub IsNow : E → Tree → Type 0
  IsNow e t = Picks wants (members_of t) (ps e)

  -- a value that holds no others is complete
  pub value_told : {X Y : Type 0} (r : Result X Y) (os : List Open) (t u : Tree) (old new : E) → u ≡ t → is_scalar t ≡ true
      → depth new ≡ depth old → key new ≡ None → OnOk r (ps new ≡ stored wants (key old) u (ps old)) → HoldsNow old os
      → OnOk r (Puts HoldsNow IsNow os t new)
  value_told (Err e) os t u old new v s d k m h = tt
  value_told (Ok x) os t u old new v s d k m h = by os h
    where
      stores : (q : Option (List ℕ)) → key old ≡ q → ps new ≡ stored wants q t (ps old)
      stores q n = m ∙ ap (λ w. stored wants (key old) w (ps old)) v ∙ ap (λ o. stored wants o t (ps old)) n

      by : (os : List Open) → HoldsNow old os → Puts HoldsNow IsNow os t new
      by [] h = subst (λ qs. Picks wants (members_of t) qs) (sym (stores None h.1.0))
          (subst (λ ms. Picks wants ms (ps old)) (sym (scalar_members t s)) h.1.1)
      by (in_array ts ∷ []) h = (d ∙ h.0, (k, subst (λ qs. Picks wants no_members qs) (sym (stores None h.1.0)) h.1.1))
      by (in_array ts ∷ o ∷ os) h = (d ∙ h.0, (k, subst (λ qs. Within wants os o qs) (sym (stores None h.1.0)) h.1.1))
      by (at_key ms ∷ os) h = tt
      by (at_value ms l ∷ []) h = (
        d ∙ h.0,
        (
          k,
          subst (λ qs. Picks wants (put l t ms) qs) (sym (stores (Some l) h.1.0))
              (stored_picks wants ms (ps old) l t s h.1.1),
        ),
      )
      by (at_value ms l ∷ o ∷ os) h = (d ∙ h.0, (k, subst (λ qs. Within wants os o qs) (sym (stores None h.1.0)) h.1.1))

  -- a container is closed
  pub closed : (o : Open) (os : List Open) (t : Tree) (old new : E) → is_scalar t ≡ false
      → ((q : Option (List ℕ)) (qs : Members) → Around wants [] o q qs → Picks wants (members_of t) qs)
      → depth new ≡ depth old - 1 → key new ≡ key old → ps new ≡ ps old → HoldsNow old (o ∷ os) → Puts HoldsNow IsNow os t new
  closed o os t old new s f d k m h = by os h
    where
      less : (n : ℕ) → depth old ≡ suc n → depth new ≡ n
      less n e = omega (arith, d, e)

      by : (os : List Open) → HoldsNow old (o ∷ os) → Puts HoldsNow IsNow os t new
      by [] h = subst (λ qs. Picks wants (members_of t) qs) (sym m) (f (key old) (ps old) h.1)
      by (in_array ts ∷ []) h = (less 1 h.0, (k ∙ h.1.0, subst (λ qs. Picks wants no_members qs) (sym m) h.1.1))
      by (in_array ts ∷ p ∷ os) h = (less (suc (suc (length os))) h.0, (k ∙ h.1.0, subst (λ qs. Within wants os p qs) (sym m) h.1.1))
      by (at_key ms ∷ os) h = tt
      by (at_value ms l ∷ []) h = (
        less 1 h.0,
        (
          k ∙ h.1.0,
          subst (λ qs. Picks wants (put l t ms) qs) (sym m)
              (other_picks wants ms (ps old) l t s h.1.1),
        ),
      )
      by (at_value ms l ∷ p ∷ os) h = (less (suc (suc (length os))) h.0, (k ∙ h.1.0, subst (λ qs. Within wants os p qs) (sym m) h.1.1))

  -- a container is opened
  pub opened : {X Y : Type 0} (r : Result X Y) (o : Open) (os : List Open) (old new : E)
      → ((q : Option (List ℕ)) (qs : Members) → q ≡ None → Picks wants no_members qs → Around wants [] o q qs)
      → OnOk r (depth new ≡ 1 + depth old) → key new ≡ None → ps new ≡ without (key old) (ps old) → HoldsNow old os
      → OnOk r (HoldsNow new (o ∷ os))
  opened (Err e) o os old new f d k m h = tt
  opened (Ok v) o os old new f d k m h = by os h
    where
      more : (n : ℕ) → depth old ≡ n → depth new ≡ suc n
      more n e = omega (arith, d, e)

      same : key old ≡ None → ps new ≡ ps old
      same n = m ∙ ap (λ q. without q (ps old)) n

      by : (os : List Open) → HoldsNow old os → HoldsNow new (o ∷ os)
      by [] h = (more _ h.0, f (key new) (ps new) k (subst (λ qs. Picks wants no_members qs) (sym (same h.1.0)) h.1.1))
      by (in_array ts ∷ []) h = (more _ h.0, (k, subst (λ qs. Picks wants no_members qs) (sym (same h.1.0)) h.1.1))
      by (at_key ms ∷ []) h = (more _ h.0, (k, tt))
      by (at_value ms l ∷ []) h = (
        more _ h.0,
        (
          k,
          subst (λ qs. Picks wants (put l (array no_items) ms) qs)
              (sym (m ∙ ap (λ q. without q (ps old)) h.1.0)) (removed_picks wants ms (ps old) l h.1.1),
        ),
      )
      by (p ∷ q ∷ os) h = (more _ h.0, (k, subst (λ qs. Within wants os q qs) (sym (same h.1.0)) h.1.1))
