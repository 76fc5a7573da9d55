-- A loop over the entries of a map, none of whose keys stands twice.
use Rattle.std.proofs.Common.{◌≡◌, ◌++◌, cond, false, List, [], ◌∷◌, Some, None, append_assoc, append-nil, refl, sym, ap, ◌∙◌, subst}
use Rattle.std.specs.List.{AllByRecursion, IsDistinct}
use Rattle.std.specs.Map.{keys_of}
use Rattle.std.specs.String.{string_eq, string_eq_equiv}
use Rattle.tinyjson.proofs.Values.Entries.{text_eq, members_of_sorted}
use Rattle.tinyjson.proofs.Values.View.{Entry, differs_later}
use Rattle.tinyjson.specs.View.{text, view, seen_entries, members_view}
use Rattle.tinyjson_grammar.proofs.Callers.{find_put}
use Rattle.tinyjson_grammar.specs.Soundness.{IsSorted}
use Rattle.tinyjson_grammar.specs.Tree.{find}

-- the members of any entries rise
pub members_view_IsSorted : (es : List Entry) → IsSorted (members_view es)
members_view_IsSorted es = members_of_sorted (seen_entries es)

-- an entry's key is found in none of those before it
pub find_done : (done more : List Entry) (e : Entry) → IsDistinct string_eq (keys_of (done ++ e ∷ more))
    → find (text e.0) (members_view done) ≡ None
unfolding IsDistinct
find_done [] more e h = refl
find_done (d ∷ done) more e h = find_put (text e.0) (text d.0) (view d.1) (members_view done)
    ∙ (ap (λ b. cond b (Some (view d.1)) (find (text e.0) (members_view done)))
    (text_eq e.0 d.0 ∙ (string_eq_equiv.symm e.0 d.0 ∙ differs_later d.0 done e more h.0)) ∙ find_done done more e h.1)

find_apart : (e : Entry) (es : List Entry) → AllByRecursion (λ y. string_eq e.0 y ≡ false) (keys_of es)
    → find (text e.0) (members_view es) ≡ None
find_apart e [] h = refl
find_apart e (d ∷ es) h = find_put (text e.0) (text d.0) (view d.1) (members_view es)
    ∙ (ap (λ b. cond b (Some (view d.1)) (find (text e.0) (members_view es))) (text_eq e.0 d.0 ∙ h.0) ∙ find_apart e es h.1)

-- nor in any after it
pub find_more : (done more : List Entry) (e : Entry) → IsDistinct string_eq (keys_of (done ++ e ∷ more))
    → find (text e.0) (members_view more) ≡ None
unfolding IsDistinct
find_more [] more e h = find_apart e more h.0
find_more (d ∷ done) more e h = find_more done more e h.1

-- A loop over the entries `es` of a map has `rest` left.
pub record IsRest (es rest : List Entry) : Type 0 where
  pub done : List Entry
  pub split : es ≡ done ++ rest
  pub distinct : IsDistinct string_eq (keys_of es)

-- at the start, nothing is done
abbrev pub rest_begins : (es rest : List Entry) → rest ≡ es → IsDistinct string_eq (keys_of es) → IsRest es rest
rest_begins es rest h d = record { done = []; split = sym h; distinct = d }

-- after a turn, its entry is done too
abbrev pub rest_next : (es rest more : List Entry) (e : Entry) → IsRest es rest → rest ≡ e ∷ more → IsRest es more
rest_next es rest more e r h = record {
  done = r.done ++ e ∷ [];
  split = r.split ∙ (ap (λ x. r.done ++ x) h ∙ sym (append_assoc r.done (e ∷ []) more));
  distinct = r.distinct;
}

-- the keys of what is done, of a turn's entry and of what is left then
pub rest_distinct : (es rest more : List Entry) (e : Entry) (r : IsRest es rest) → rest ≡ e ∷ more
    → IsDistinct string_eq (keys_of (r.done ++ e ∷ more))
rest_distinct es rest more e r h = subst (λ x. IsDistinct string_eq (keys_of x)) (r.split ∙ ap (λ x. r.done ++ x) h) r.distinct

-- with nothing left, all is done
pub rest_ends : (es rest : List Entry) (r : IsRest es rest) → rest ≡ [] → es ≡ r.done
rest_ends es rest r h = r.split ∙ (ap (λ x. r.done ++ x) h ∙ append-nil r.done)
