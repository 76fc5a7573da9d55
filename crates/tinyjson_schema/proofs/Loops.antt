-- Turns of the loops over members, items and schemas at keys.
use Rattle.std.proofs.Common.{◌≡◌, ◌≢◌, ℕ, suc, ◌<◌, ◌≤◌, ◌+◌, Bool, true, false, not, ◌&&◌, ◌||◌}
use Rattle.std.proofs.Common.{List, Some, None, length, get_or, drop, is_some}
use Rattle.std.proofs.Common.{refl, sym, ap, ◌∙◌, add-one}
use Rattle.std.proofs.lemmas.Bool.{or_left, or_right}
use Rattle.std.specs.Option.{option_map_or}
use Rattle.std.specs.Str.{chars}
use Rattle.tinyjson.specs.Index.{tree_at_key}
use Rattle.tinyjson.specs.JsonKind.TheVariants as kind
use Rattle.tinyjson.specs.Kind.{kind_of}
use Rattle.tinyjson.specs.Tree.{Tree, object, array}
use Rattle.tinyjson.specs.View.{view, text, members_listed}
use Rattle.tinyjson_document.specs.Parts as part
use Rattle.tinyjson_schema_keywords.specs.Applied.{members_in}
use Rattle.tinyjson_view.specs.Views.{tree_of, trees_of, members_of}
use Rattle.tinyjson_view.specs.declared.view.MemberView.{MemberView}
use Rattle.tinyjson_view.specs.declared.view.ValueView.{ValueView}
use Rattle.text_iregexp.specs.PatternDeciding.{is_found}
use Rattle.tinyjson_schema_keywords.proofs.Callers.{Listed, drop_suc, drop_end, turn_next}
use Rattle.tinyjson_schema.specs.Applicators.{Judge, dependents_accept, member_accepted, members_accepted, item_accepted, items_accepted}
use Rattle.tinyjson_schema.specs.Applicators.{parts_accepted, found_pass, items_passing}
use Rattle.tinyjson_schema.specs.Parts.{member_schema, item_schema}

pub member_passes : (f : Judge) (s : Tree) (k : List ℕ) (r u : Tree) → member_schema s k ≡ Some r → f r u ≡ true
    → member_accepted f s k u ≡ true
member_passes f s k r u e h = ap (λ o. option_map_or (λ q. f q u) o true) e ∙ h

pub member_free : (f : Judge) (s : Tree) (k : List ℕ) (u : Tree) → member_schema s k ≡ None → member_accepted f s k u ≡ true
member_free f s k u e = ap (λ o. option_map_or (λ q. f q u) o true) e

pub members_turn : (f : Judge) (s : Tree) (ps : List MemberView) (i : ℕ) (p : MemberView) → i < length ps → p ≡ get_or ps i p
    → member_accepted f s (chars p.key.now) (tree_of p.value) ≡ true
    → members_accepted f s (members_of (drop i ps)) ≡ members_accepted f s (members_of ps)
    → members_accepted f s (members_of (drop (i + 1) ps)) ≡ members_accepted f s (members_of ps)
members_turn f s ps i p h e good left = turn_next (λ xs. members_accepted f s (members_of xs)) ps i p h e
    (ap (λ b. b && members_accepted f s (members_of (drop (i + 1) ps))) good) left

pub item_passes : (f : Judge) (s : Tree) (i : ℕ) (r u : Tree) → item_schema s i ≡ Some r → f r u ≡ true → item_accepted f s i u ≡ true
item_passes f s i r u e h = ap (λ o. option_map_or (λ q. f q u) o true) e ∙ h

pub item_free : (f : Judge) (s : Tree) (i : ℕ) (u : Tree) → item_schema s i ≡ None → item_accepted f s i u ≡ true
item_free f s i u e = ap (λ o. option_map_or (λ q. f q u) o true) e

pub items_turn : (f : Judge) (s : Tree) (vs : List ValueView) (i : ℕ) (x : ValueView) → i < length vs → x ≡ get_or vs i x
    → item_accepted f s i (tree_of x) ≡ true
    → items_accepted f s i (trees_of (drop i vs)) ≡ items_accepted f s 0 (trees_of vs)
    → items_accepted f s (i + 1) (trees_of (drop (i + 1) vs)) ≡ items_accepted f s 0 (trees_of vs)
items_turn f s vs i x h e good left = rw add-one (sym (ap (λ b. b && items_accepted f s (suc i) (trees_of (drop (suc i) vs))) good)
    ∙ (sym (ap (λ xs. items_accepted f s i (trees_of xs)) (drop_suc vs i x h e)) ∙ left))

pub items_end : (f : Judge) (s : Tree) (vs : List ValueView) (i : ℕ) → length vs ≤ i
    → items_accepted f s i (trees_of (drop i vs)) ≡ items_accepted f s 0 (trees_of vs)
    → items_accepted f s 0 (trees_of vs) ≡ true
items_end f s vs i h left = sym left ∙ ap (λ xs. items_accepted f s i (trees_of xs)) (drop_end vs i h)

pub dependent_passes : (f : Judge) (t : Tree) (k : List ℕ) (r : Tree) → f r t ≡ true → (not (is_some (tree_at_key t k)) || f r t) ≡ true
dependent_passes f t k r h = or_right _ _ h

pub dependent_free : (f : Judge) (t : Tree) (k : List ℕ) (r : Tree) → is_some (tree_at_key t k) ≡ false
    → (not (is_some (tree_at_key t k)) || f r t) ≡ true
dependent_free f t k r h = or_left _ _ (ap not h)

pub dependents_turn : (f : Judge) (t : Tree) (ps : List Listed) (i : ℕ) (p : Listed) → i < length ps → p ≡ get_or ps i p
    → (not (is_some (tree_at_key t (text p.0.now))) || f (view p.1.now) t) ≡ true
    → dependents_accept f (members_listed (drop i ps)) t ≡ dependents_accept f (members_listed ps) t
    → dependents_accept f (members_listed (drop (i + 1) ps)) t ≡ dependents_accept f (members_listed ps) t
dependents_turn f t ps i p h e good left = turn_next (λ xs. dependents_accept f (members_listed xs) t) ps i p h e
    (ap (λ b. b && dependents_accept f (members_listed (drop (i + 1) ps)) t) good) left

-- ---- members in whose key a pattern is found

pub found_holds : (q : Tree → Bool) (p k : List ℕ) (u : Tree) → q u ≡ true → (not (is_found p k) || q u) ≡ true
found_holds q p k u h = or_right _ _ h

pub not_found : (q : Tree → Bool) (p k : List ℕ) (u : Tree) → is_found p k ≡ false → (not (is_found p k) || q u) ≡ true
not_found q p k u h = or_left _ _ (ap not h)

pub found_turn : (q : Tree → Bool) (p : List ℕ) (ps : List MemberView) (i : ℕ) (m : MemberView) → i < length ps → m ≡ get_or ps i m
    → (not (is_found p (chars m.key.now)) || q (tree_of m.value)) ≡ true
    → found_pass q p (members_of (drop i ps)) ≡ found_pass q p (members_of ps)
    → found_pass q p (members_of (drop (i + 1) ps)) ≡ found_pass q p (members_of ps)
found_turn q p ps i m h e good left = turn_next (λ xs. found_pass q p (members_of xs)) ps i m h e
    (ap (λ b. b && found_pass q p (members_of (drop (i + 1) ps))) good) left

-- ---- values by their kinds

pub same_members : (t : Tree) → part.members_in t ≡ members_in t
same_members (object ms) = refl
same_members _ = refl

pub no_array_passing : (q : Tree → Bool) (t : Tree) → kind.Array ≢ kind_of t → None ≡ items_passing q t
no_array_passing q (array ts) n = absurd (n refl)
no_array_passing q _ n = refl

pub no_parts : (f : Judge) (s t : Tree) → kind.Object ≢ kind_of t → kind.Array ≢ kind_of t → parts_accepted f s t ≡ true
no_parts f s (object ms) n o = absurd (n refl)
no_parts f s (array ts) n o = absurd (o refl)
no_parts f s _ n o = refl
