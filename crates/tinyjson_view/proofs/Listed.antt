-- Values and members, each at its place in a list.
use Rattle.std.proofs.Common.{◌≡◌, ◌∷◌, [], ℕ, zero, suc, ◌<◌, Bool, true, false, List, Some, cond, bytes_eq}
use Rattle.std.proofs.Common.{length, get_or, refl, sym, ap, ◌∙◌, arith}
use Rattle.std.proofs.lemmas.Slice.Eq.{bytes_eq-Decides}
use Rattle.std.specs.Str.{chars}
use Rattle.tinyjson.proofs.Callers.{find_below, found_first, some_none}
use Rattle.tinyjson.specs.Index.{nth}
use Rattle.tinyjson_grammar.specs.Soundness.{IsSorted}
use Rattle.tinyjson_grammar.specs.Tree.{find}
use Rattle.tinyjson_view.specs.Views.{tree_of, trees_of, members_of}
use Rattle.tinyjson_view.specs.declared.view.MemberView.{MemberView}
use Rattle.tinyjson_view.specs.declared.view.ValueView.{ValueView}

pub nth_tree : (vs : List ValueView) (i : ℕ) (x : ValueView) → i < length vs → x ≡ get_or vs i x → nth (trees_of vs) i ≡ Some (tree_of x)
nth_tree [] i x h e = absurd (omega arith)
nth_tree (v ∷ vs) zero x h e = ap (λ y. Some (tree_of y)) (sym e)
nth_tree (v ∷ vs) (suc i) x h e = nth_tree vs i x (omega arith) e

-- each is found at its key
pub member_found : (ps : List MemberView) (i : ℕ) (p : MemberView) → IsSorted (members_of ps) → i < length ps → p ≡ get_or ps i p
    → find (chars p.key.now) (members_of ps) ≡ Some (tree_of p.value)
member_found [] i p s h e = absurd (omega arith)
member_found (q ∷ ps) zero p s h e =
    ap (λ (x : MemberView). find (chars x.key.now) (members_of (q ∷ ps))) e
    ∙ (found_first (chars q.key.now) (tree_of q.value) (members_of ps) ∙ ap (λ (x : MemberView). Some (tree_of x.value)) (sym e))
member_found (q ∷ ps) (suc i) p s h e = by (bytes_eq (chars p.key.now) (chars q.key.now)) refl (member_found ps i p s.1 (omega arith) e)
  where
    by : (b : Bool) → bytes_eq (chars p.key.now) (chars q.key.now) ≡ b → find (chars p.key.now) (members_of ps) ≡ Some (tree_of p.value)
        → find (chars p.key.now) (members_of (q ∷ ps)) ≡ Some (tree_of p.value)
    by true d later =
        let key : chars p.key.now ≡ chars q.key.now = (bytes_eq-Decides (chars p.key.now) (chars q.key.now)).0 d in
        absurd (some_none (tree_of p.value) (sym later ∙ (ap (λ k. find k (members_of ps)) key
        ∙ find_below (chars q.key.now) (members_of ps) s.0 s.1)))
    by false d later = ap (λ b. cond b (Some (tree_of q.value)) (find (chars p.key.now) (members_of ps))) d ∙ later
