-- Containers that are open, and a part that is put back.
use Rattle.std.proofs.Common.{◌≡◌, ℕ, List, [], ◌∷◌, ◌++◌, Some, None, Result, Ok, Err}
use Rattle.std.proofs.Common.{refl, sym, ap, ◌∙◌}
use Rattle.std.specs.Option.{option_map_or}
use Rattle.tinyjson.proofs.Callers.{find_put_same}
use Rattle.tinyjson.specs.Index.{with_nth}
use Rattle.tinyjson_grammar.specs.Soundness.{IsSorted}
use Rattle.tinyjson_grammar.specs.Tree.{Tree, object, Items, Members, find, put}
use Rattle.tinyjson_pointer.proofs.Callers.{put_again, with_nth_again}
use Rattle.tinyjson_pointer.specs.Walk.{part_at, with_step, with_part}
use Rattle.std.specs.Prelude.{option_and_then}
use Rattle.tinyjson_patch.specs.private.Edited.{tree}
use Rattle.tinyjson_patch.specs.private.Opening.{closed, closed_once, Descends, Opens, Pushes, StepsDown}
use Rattle.tinyjson_patch.specs.declared.edit.change.ChangeError.{ChangeError}
use Rattle.tinyjson_patch.specs.declared.edit.change.ChangeError.TheVariants.{NoPlace, OutOfMemory}
use Rattle.tinyjson_patch.specs.declared.edit.edited.Edited.{Edited}
use Rattle.tinyjson_patch.specs.declared.edit.opened.Opened.{Opened}

-- ---- a part that was put into the place of another

pub nth_again : (ts us : Items) (i : ℕ) (q w : Tree) → us ≡ with_nth ts i q → with_nth us i w ≡ with_nth ts i w
nth_again ts us i q w e = ap (λ xs. with_nth xs i w) e ∙ with_nth_again ts i q w

-- the member that has the key is replaced, if there is one
pub part_of_member : (ms : Members) (k : List ℕ) (q w : Tree) → find k ms ≡ Some q → with_part (object ms) (k ∷ []) w ≡ object (put k w ms)
part_of_member ms k q w e = ap (λ o. option_map_or (λ x. object (put k w ms)) o (object ms)) e

pub no_part_of_member : (ms : Members) (k : List ℕ) (w : Tree) → find k ms ≡ None → with_part (object ms) (k ∷ []) w ≡ object ms
no_part_of_member ms k w e = ap (λ o. option_map_or (λ x. object (put k w ms)) o (object ms)) e

pub member_again : (ms ns : Members) (k : List ℕ) (q w : Tree) → IsSorted ms → ns ≡ put k q ms
    → with_part (object ns) (k ∷ []) w ≡ object (put k w ms)
member_again ms ns k q w s e =
    ap (λ xs. with_part (object xs) (k ∷ []) w) e
    ∙ (part_of_member (put k q ms) k q w (find_put_same k q ms) ∙ ap object (put_again k q w ms s))

-- ---- one container more

pub closed_last : (os : List Opened) (o : Opened) (u : Tree) → closed (os ++ o ∷ []) u ≡ closed os (closed_once o u)
closed_last [] o u = refl
closed_last (p ∷ os) o u = ap (closed_once p) (closed_last os o u)

pub closed_none : (os : List Opened) {x : Tree} (u : Tree) → os ≡ [] → x ≡ closed os u → x ≡ u
closed_none os u none h = h ∙ ap (λ xs. closed xs u) none

pub stepped : (t : Tree) (k : List ℕ) (os os' : List Opened) (o : Opened) (e : Edited) (r : Result (Unit {0}) ChangeError)
    → Opens t k (Ok (o, e)) → Pushes os o r os' → StepsDown t k r os os' (tree e)
stepped t k os os' o e (Ok x) h q =
    (h.0, λ u. ap (λ xs. closed xs u) q ∙ (closed_last os o u ∙ ap (closed os) (h.1 u)))
stepped t k os os' o e (Err NoPlace) h q = absurd q
stepped t k os os' o e (Err OutOfMemory) h q = tt

pub not_opened : (t p : Tree) (k : List ℕ) (os os' : List Opened) (e : ChangeError) → Opens t k (Err e) → StepsDown t k (Err e) os os' p
not_opened t p k os os' NoPlace h = h
not_opened t p k os os' OutOfMemory h = tt

-- ---- going down by all tokens

-- The part p is on the way down by ks; what is left of them is rest.
abbrev pub IsOnWay : Tree → List (List ℕ) → List Opened → List Opened → Tree → List (List ℕ) → Type 0
IsOnWay t ks os os' p rest =
    (part_at t ks ≡ part_at p rest) × ((u : Tree) → closed os' (with_part p rest u) ≡ closed os (with_part t ks u))

module _ (t : Tree) (ks : List (List ℕ)) (os os' os'' : List Opened) (p q : Tree) (k : List ℕ) (rest : List (List ℕ))
    (way : IsOnWay t ks os os' p (k ∷ rest)) where
  pub next_on_way : StepsDown p k (Ok tt) os' os'' q → IsOnWay t ks os os'' q rest
  next_on_way h = (
    way.0 ∙ ap (option_and_then (λ x. part_at x rest)) h.0,
    λ u. h.1 (with_part q rest u)
        ∙ (ap (closed os') (sym (ap (λ o. option_map_or (λ r. with_step p k (with_part r rest u)) o p) h.0)) ∙ way.1 u),
  )

  pub way_ends : (e : ChangeError) → StepsDown p k (Err e) os' os'' q → Descends t ks (Err e) os os'' q
  way_ends NoPlace h = way.0 ∙ ap (option_and_then (λ x. part_at x rest)) h
  way_ends OutOfMemory h = tt
