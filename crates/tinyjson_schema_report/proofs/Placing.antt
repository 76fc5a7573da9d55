-- A part that is there has a place.
use Rattle.std.proofs.Common.{ℕ, List, Option, None, Ok, subst, ap, ◌∙◌}
use Rattle.std.proofs.lemmas.Bool.{false≢true}
use Rattle.std.specs.Prelude.{IsSome}
use Rattle.tinyjson.specs.Grammar.{IsLoose, IsText, IsAccepted}
use Rattle.tinyjson.specs.Tree.{Tree}
use Rattle.tinyjson_pointer.specs.Places.{Locates}
use Rattle.tinyjson_pointer.specs.Walk.{part_at}

unlimited : (limit : Option ℕ) (xs : List ℕ) → IsLoose limit xs → IsLoose None xs
unlimited limit xs l = record {
  before = l.before;
  value = l.value;
  after = l.after;
  white_before = l.white_before;
  spelled = l.spelled;
  white_after = l.white_after;
  shallow = tt;
  whole = l.whole;
}

-- a text is accepted without a limit too
pub accepted : (limit : Option ℕ) (xs : List ℕ) (t : Tree) → IsText limit xs t → IsAccepted None xs
unfolding unlimited
accepted limit xs t h = (t, record { loose = unlimited limit xs h.loose; strict = h.strict; tree = h.tree })

pub never_missed : (limit : Option ℕ) (xs : List ℕ) (t : Tree) (ks : List (List ℕ)) → IsText limit xs t → IsSome (part_at t ks)
    → Locates xs ks (Ok None) → ⊥
unfolding unlimited
never_missed limit xs t ks h there found =
    let none = found.1 (unlimited limit xs h.loose) h.strict in
    false≢true (subst IsSome (ap (λ u. part_at u ks) h.tree ∙ none.1) there)
