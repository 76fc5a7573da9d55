-- Lists that are filled, value by value, with items or with members.
use Rattle.std.proofs.Common.{◌≡◌, ◌∷◌, [], ◌++◌, ℕ, zero, suc, ◌<◌, ◌≤◌, ◌+◌, List, length, get_or, drop, refl, sym, ap, ◌∙◌, arith}
use Rattle.std.proofs.Math.Seq.{drop-cons}
use Rattle.std.specs.Str.{chars}
use Rattle.tinyjson_grammar.specs.Tree.{Tree, Items, no_items, item, Members, no_members, member}
use Rattle.tinyjson_view.specs.Views.{tree_of, trees_of, members_of}
use Rattle.tinyjson_view.specs.declared.view.MemberView.{MemberView}
use Rattle.tinyjson_view.specs.declared.view.ValueView.{ValueView}

-- the items of a list, and further ones
abbrev pub before : List ValueView → Items → Items
before [] ts = ts
before (v ∷ vs) ts = item (tree_of v) (before vs ts)

pub one_more : (vs : List ValueView) (v : ValueView) (ts : Items) → before (vs ++ v ∷ []) ts ≡ before vs (item (tree_of v) ts)
one_more [] v ts = refl
one_more (w ∷ vs) v ts = ap (item (tree_of w)) (one_more vs v ts)

pub no_more : (vs : List ValueView) → trees_of vs ≡ before vs no_items
no_more [] = refl
no_more (v ∷ vs) = ap (item (tree_of v)) (no_more vs)

-- the members of a list, and further ones
abbrev pub members_before : List MemberView → Members → Members
members_before [] ms = ms
members_before (e ∷ es) ms = member (chars e.key.now) (tree_of e.value) (members_before es ms)

pub one_more_member : (es : List MemberView) (e : MemberView) (ms : Members)
    → members_before (es ++ e ∷ []) ms ≡ members_before es (member (chars e.key.now) (tree_of e.value) ms)
one_more_member [] e ms = refl
one_more_member (f ∷ es) e ms = ap (member (chars f.key.now) (tree_of f.value)) (one_more_member es e ms)

pub no_more_members : (es : List MemberView) → members_of es ≡ members_before es no_members
no_more_members [] = refl
no_more_members (e ∷ es) = ap (member (chars e.key.now) (tree_of e.value)) (no_more_members es)

-- ---- the element that a loop is at

pub drop_at : {A : Type 0} (xs : List A) (i : ℕ) (x : A) → i < length xs → x ≡ get_or xs i x → drop i xs ≡ x ∷ drop (i + 1) xs
drop_at xs i x h e =
    drop-cons xs i x h
    ∙ (ap (λ z. z ∷ drop (suc i) xs) (sym e) ∙ (let more : suc i ≡ i + 1 = omega arith in ap (λ j. x ∷ drop j xs) more))

pub drop_past : {A : Type 0} (xs : List A) (i : ℕ) → length xs ≤ i → drop i xs ≡ []
drop_past [] zero h = refl
drop_past [] (suc i) h = refl
drop_past (y ∷ ys) zero h = absurd (omega arith)
drop_past (y ∷ ys) (suc i) h = drop_past ys i (omega arith)
