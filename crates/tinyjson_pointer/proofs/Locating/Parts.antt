-- What a named part is: spelled and strict, where its spot says, with the tree that the tokens name.
use Rattle.std.proofs.Common.{◌≡◌, ℕ, zero, suc, Bool, true, false, cond, bytes_eq, List, [], ◌∷◌, ◌++◌, Option, Some, None, option_map}
use Rattle.std.proofs.Common.{refl, sym, ap, ◌∙◌, subst, append_assoc, append-nil}
use Rattle.std.specs.Prelude.{IfSome, option_and_then}
use Rattle.tinyjson.specs.Index.{nth}
use Rattle.tinyjson_grammar.proofs.Callers.{find_put}
use Rattle.tinyjson_grammar.specs.Syntax.{Syntax, Elements, Pairs, null, boolean, number, string, empty_array, array, empty_object}
use Rattle.tinyjson_grammar.specs.Syntax.{object}
use Rattle.tinyjson_grammar.specs.Syntax.{last_element, element, last_pair, pair, text, elements_text, pairs_text, IsSpelled, IsStrict}
use Rattle.tinyjson_grammar.specs.Syntax.{AreElements, ArePairs, ElementsAreStrict, PairsAreStrict, tree_of, elements_trees}
use Rattle.tinyjson_grammar.specs.Syntax.{pairs_members}
use Rattle.tinyjson_grammar.specs.Tree as tree
use Rattle.tinyjson_pointer.specs.Index.{index_of}
use Rattle.tinyjson_pointer.specs.Walk.{item_of, step, part_at}
use Rattle.tinyjson_pointer.specs.Spots.{Spot, further, within, nth_spot, item_spot, or_else, if_key, key_front, last_member}
use Rattle.tinyjson_pointer.specs.Places.{child, named}

pub record IsPart (xs : List ℕ) (p : Spot) : Type 0 where
  pub spelled : IsSpelled p.part
  pub strict : IsStrict p.part
  pub whole : xs ≡ p.before ++ (text p.part ++ p.behind)

abbrev Has : List ℕ → Option Spot → Type 0
Has xs o = IfSome o (IsPart xs)

further_has : (b xs : List ℕ) (o : Option Spot) → Has xs o → Has (b ++ xs) (option_map (further b) o)
further_has b xs None h = tt
further_has b xs (Some p) h = record {
  spelled = h.spelled;
  strict = h.strict;
  whole = ap (λ ys. b ++ ys) h.whole ∙ sym (append_assoc b p.before (text p.part ++ p.behind));
}

within_whole : (b a x t y : List ℕ) → b ++ ((x ++ (t ++ y)) ++ a) ≡ (b ++ x) ++ (t ++ (y ++ a))
within_whole b a x t y = simp append_assoc

within_has : (b a xs : List ℕ) (o : Option Spot) → Has xs o → Has (b ++ (xs ++ a)) (option_map (within b a) o)
within_has b a xs None h = tt
within_has b a xs (Some p) h = record {
  spelled = h.spelled;
  strict = h.strict;
  whole = ap (λ ys. b ++ (ys ++ a)) h.whole ∙ within_whole b a p.before (text p.part) p.behind;
}

element_front : (v t w es : List ℕ) → (v ++ (t ++ (w ++ 44 ∷ []))) ++ es ≡ v ++ (t ++ (w ++ 44 ∷ es))
element_front v t w es = simp append_assoc

nth_has : (es : Elements) (i : ℕ) → AreElements es → ElementsAreStrict es → Has (elements_text es) (nth_spot es i)
nth_has (last_element v s w) zero h z = record { spelled = h.1; strict = z; whole = refl }
nth_has (last_element v s w) (suc i) h z = tt
nth_has (element v s w es) zero h z = record { spelled = h.1; strict = z.0; whole = refl }
nth_has (element v s w es) (suc i) h z =
    subst (λ xs. Has xs (nth_spot (element v s w es) (suc i))) (element_front v (text s) w (elements_text es))
    (further_has (v ++ (text s ++ (w ++ 44 ∷ []))) (elements_text es) (nth_spot es i) (nth_has es i h.3 z.1))

item_has : (es : Elements) (o : Option ℕ) → AreElements es → ElementsAreStrict es → Has (elements_text es) (item_spot es o)
item_has es None h z = tt
item_has es (Some i) h z = nth_has es i h z

or_has : (xs : List ℕ) (o q : Option Spot) → Has xs o → Has xs q → Has xs (or_else o q)
or_has xs None q h k = k
or_has xs (Some p) q h k = h

if_has : (xs key : List ℕ) (k : Syntax) (p : Spot) → IsPart xs p → Has xs (if_key key k p)
if_has xs key k p h = by (bytes_eq key (tree.key_of (tree_of k)))
  where
    by : (b : Bool) → Has xs (cond b (Some p) None)
    by true = h
    by false = tt

pub pair_whole : (a k b c t d : List ℕ) → a ++ (k ++ (b ++ 58 ∷ (c ++ (t ++ d)))) ≡ (a ++ (k ++ (b ++ 58 ∷ c))) ++ (t ++ d)
pair_whole a k b c t d = simp append_assoc

pub pair_front : (f t d ps : List ℕ) → (f ++ (t ++ (d ++ 44 ∷ []))) ++ ps ≡ f ++ (t ++ (d ++ 44 ∷ ps))
pair_front f t d ps = simp append_assoc

member_has : (key : List ℕ) (ps : Pairs) → ArePairs ps → PairsAreStrict ps → Has (pairs_text ps) (last_member key ps)
member_has key (last_pair a k b c s d) h z = if_has _ key k _ (record {
  spelled = h.4;
  strict = z.2;
  whole = pair_whole a (text k) b c (text s) d;
})
member_has key (pair a k b c s d ps) h z =
    let f = key_front a k b c in
    let more = further_has (f ++ (text s ++ (d ++ 44 ∷ []))) (pairs_text ps) (last_member key ps) (member_has key ps h.6 z.3) in
    or_has _ (option_map (further (f ++ (text s ++ (d ++ 44 ∷ [])))) (last_member key ps)) _
    (subst (λ xs. Has xs (option_map (further (f ++ (text s ++ (d ++ 44 ∷ [])))) (last_member key ps)))
    (pair_front f (text s) d (pairs_text ps) ∙ sym (pair_whole a (text k) b c (text s) (d ++ 44 ∷ pairs_text ps))) more)
    (if_has _ key k _ (record {
      spelled = h.4;
      strict = z.2;
      whole = pair_whole a (text k) b c (text s) (d ++ 44 ∷ pairs_text ps);
    }))

pub child_has : (s : Syntax) (k : List ℕ) → IsSpelled s → IsStrict s → IfSome (child s k) (IsPart (text s))
child_has (array es) k h z = within_has (91 ∷ []) (93 ∷ []) (elements_text es) (item_spot es (index_of k)) (item_has es (index_of k) h z)
child_has (object ps) k h z = within_has (123 ∷ []) (125 ∷ []) (pairs_text ps) (last_member k ps) (member_has k ps h z)
child_has null k h z = tt
child_has (boolean b) k h z = tt
child_has (number n) k h z = tt
child_has (string ps) k h z = tt
child_has (empty_array w) k h z = tt
child_has (empty_object w) k h z = tt

pub named_has : (ks : List (List ℕ)) (s : Syntax) → IsSpelled s → IsStrict s → IfSome (named s ks) (IsPart (text s))
named_has [] s h z = record { spelled = h; strict = z; whole = sym (append-nil (text s)) }
named_has (k ∷ ks) s h z = by (child s k) (child_has s k h z) (λ p x y. named_has ks p.part x y)
  where
    inner : (p : Spot) (o : Option Spot) → IsPart (text s) p → IfSome o (IsPart (text p.part))
        → IfSome (option_map (within p.before p.behind) o) (IsPart (text s))
    inner p None g x = tt
    inner p (Some q) g x = record {
      spelled = x.spelled;
      strict = x.strict;
      whole = g.whole ∙ (ap (λ ys. p.before ++ (ys ++ p.behind)) x.whole ∙ within_whole p.before p.behind q.before (text q.part) q.behind);
    }

    by : (o : Option Spot) → IfSome o (IsPart (text s))
        → ((p : Spot) → IsSpelled p.part → IsStrict p.part → IfSome (named p.part ks) (IsPart (text p.part)))
        → IfSome (option_and_then (λ p. option_map (within p.before p.behind) (named p.part ks)) o) (IsPart (text s))
    by None g later = tt
    by (Some p) g later = inner p (named p.part ks) g (later p g.spelled g.strict)

-- ---- trees

abbrev pub spot_tree : Spot → tree.Tree
spot_tree p = tree_of p.part

further_tree : (b : List ℕ) (o : Option Spot) → option_map spot_tree (option_map (further b) o) ≡ option_map spot_tree o
further_tree b None = refl
further_tree b (Some p) = refl

within_tree : (b a : List ℕ) (o : Option Spot) → option_map spot_tree (option_map (within b a) o) ≡ option_map spot_tree o
within_tree b a None = refl
within_tree b a (Some p) = refl

nth_tree : (es : Elements) (i : ℕ) → option_map spot_tree (nth_spot es i) ≡ nth (tree.items_of (elements_trees es)) i
nth_tree (last_element v s w) zero = refl
nth_tree (last_element v s w) (suc i) = refl
nth_tree (element v s w es) zero = refl
nth_tree (element v s w es) (suc i) = further_tree (v ++ (text s ++ (w ++ 44 ∷ []))) (nth_spot es i) ∙ nth_tree es i

item_tree : (es : Elements) (o : Option ℕ) → option_map spot_tree (item_spot es o) ≡ item_of (tree.items_of (elements_trees es)) o
item_tree es None = refl
item_tree es (Some i) = nth_tree es i

no_item_tree : (o : Option ℕ) → None ≡ item_of tree.no_items o
no_item_tree None = refl
no_item_tree (Some i) = refl

first_tree : Option tree.Tree → Option tree.Tree → Option tree.Tree
first_tree (Some t) o = Some t
first_tree None o = o

if_tree : (key : List ℕ) (k : Syntax) (p : Spot) (ms : tree.Members)
    → first_tree (option_map spot_tree (if_key key k p)) (tree.find key ms)
    ≡ tree.find key (tree.put (tree.key_of (tree_of k)) (spot_tree p) ms)
unfolding first_tree
if_tree key k p ms = by (bytes_eq key (tree.key_of (tree_of k))) ∙ sym (find_put key (tree.key_of (tree_of k)) (spot_tree p) ms)
  where
    by : (b : Bool) → first_tree (option_map spot_tree (cond b (Some p) None)) (tree.find key ms)
        ≡ cond b (Some (spot_tree p)) (tree.find key ms)
    by true = refl
    by false = refl

or_tree : (b : List ℕ) (o q : Option Spot) (t : Option tree.Tree)
    → first_tree (option_map spot_tree (or_else (option_map (further b) o) q)) t
    ≡ first_tree (option_map spot_tree o) (first_tree (option_map spot_tree q) t)
unfolding first_tree
or_tree b None q t = refl
or_tree b (Some p) q t = refl

member_tree : (key : List ℕ) (ps : Pairs) (ms : tree.Members)
    → first_tree (option_map spot_tree (last_member key ps)) (tree.find key ms) ≡ tree.find key (pairs_members ms ps)
member_tree key (last_pair a k b c s d) ms = if_tree key k _ ms
member_tree key (pair a k b c s d ps) ms =
    or_tree _ (last_member key ps) _ (tree.find key ms)
    ∙ (ap (first_tree (option_map spot_tree (last_member key ps))) (if_tree key k _ ms)
    ∙ member_tree key ps (tree.put (tree.key_of (tree_of k)) (tree_of s) ms))

first_last : (o : Option tree.Tree) → o ≡ first_tree o None
unfolding first_tree
first_last None = refl
first_last (Some t) = refl

pub child_tree : (s : Syntax) (k : List ℕ) → option_map spot_tree (child s k) ≡ step (tree_of s) k
child_tree (array es) k = within_tree (91 ∷ []) (93 ∷ []) (item_spot es (index_of k)) ∙ item_tree es (index_of k)
child_tree (object ps) k = within_tree (123 ∷ []) (125 ∷ []) (last_member k ps)
    ∙ (first_last (option_map spot_tree (last_member k ps)) ∙ member_tree k ps tree.no_members)
child_tree null k = refl
child_tree (boolean b) k = refl
child_tree (number n) k = refl
child_tree (string ps) k = refl
child_tree (empty_array w) k = no_item_tree (index_of k)
child_tree (empty_object w) k = refl

pub named_tree : (ks : List (List ℕ)) (s : Syntax) → option_map spot_tree (named s ks) ≡ part_at (tree_of s) ks
named_tree [] s = refl
named_tree (k ∷ ks) s = by (child s k) (λ p. named_tree ks p.part) ∙ ap (option_and_then (λ t. part_at t ks)) (child_tree s k)
  where
    by : (o : Option Spot) → ((p : Spot) → option_map spot_tree (named p.part ks) ≡ part_at (tree_of p.part) ks)
        → option_map spot_tree (option_and_then (λ p. option_map (within p.before p.behind) (named p.part ks)) o)
        ≡ option_and_then (λ t. part_at t ks) (option_map spot_tree o)
    by None later = refl
    by (Some p) later = within_tree p.before p.behind (named p.part ks) ∙ later p
