-- The members of a map, in the order of their keys.
use Rattle.std.proofs.Common.{◌≡◌, ◌∷◌, [], ℕ, zero, suc, ◌<◌, Bool, true, false, List, Some, String, Global, Bor, cond, bytes_eq}
use Rattle.std.proofs.Common.{length, get_or, refl, sym, ap, ◌∙◌, subst, arith}
use Rattle.std.proofs.Common.{Result, Ok, Err, Vec}
use Rattle.std.proofs.lemmas.Slice.Eq.{bytes_eq-Decides}
use Rattle.std.specs.Prelude.{IfOk}
use Rattle.std.specs.declared.alloc.AllocError.{AllocError}
use Rattle.tinyjson.proofs.Callers.{members_view_IsSorted, find_below, found_first, some_none}
use Rattle.tinyjson.specs.Soundness.{IsSorted}
use Rattle.tinyjson.specs.Access.{JsonMap}
use Rattle.tinyjson.specs.Tree.{find}
use Rattle.tinyjson.specs.View.{view, text, members_view, members_listed}
use Rattle.tinyjson.specs.declared.value.JsonValue.{JsonValue}

abbrev pub Listed : Type 0
Listed = Bor (String Global) × Bor JsonValue

-- each is found at its key
pub listed_found : (ps : List Listed) (i : ℕ) (p : Listed) → IsSorted (members_listed ps) → i < length ps → p ≡ get_or ps i p
    → find (text p.0.now) (members_listed ps) ≡ Some (view p.1.now)
listed_found [] i p s h e = absurd (omega arith)
listed_found (q ∷ ps) zero p s h e =
    ap (λ (x : Listed). find (text x.0.now) (members_listed (q ∷ ps))) e
    ∙ (found_first (text q.0.now) (view q.1.now) (members_listed ps) ∙ ap (λ (x : Listed). Some (view x.1.now)) (sym e))
listed_found (q ∷ ps) (suc i) p s h e = by (bytes_eq (text p.0.now) (text q.0.now)) refl (listed_found ps i p s.1 (omega arith) e)
  where
    by : (b : Bool) → bytes_eq (text p.0.now) (text q.0.now) ≡ b → find (text p.0.now) (members_listed ps) ≡ Some (view p.1.now)
        → find (text p.0.now) (members_listed (q ∷ ps)) ≡ Some (view p.1.now)
    by true d later =
        let key : text p.0.now ≡ text q.0.now = (bytes_eq-Decides (text p.0.now) (text q.0.now)).0 d in
        absurd (some_none (view p.1.now) (sym later ∙ (ap (λ k. find k (members_listed ps)) key
        ∙ find_below (text q.0.now) (members_listed ps) s.0 s.1)))
    by false d later = ap (λ b. cond b (Some (view q.1.now)) (find (text p.0.now) (members_listed ps))) d ∙ later

pub listed_sorted : (ps : List Listed) (m : JsonMap) → members_listed ps ≡ members_view m.entries → IsSorted (members_listed ps)
listed_sorted ps m e = subst IsSorted (sym e) (members_view_IsSorted m.entries)

pub sorted_result : (x : Result (Vec Listed Global) AllocError) (m : JsonMap)
    → IfOk x (λ v. members_listed v.items ≡ members_view m.entries) → IfOk x (λ v. IsSorted (members_listed v.items))
sorted_result (Ok v) m h = listed_sorted v.items m h
sorted_result (Err e) m h = tt
