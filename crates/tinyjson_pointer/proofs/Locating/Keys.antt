-- The member that tokens name: its value is the part that they name, and its key is the last one.
use Rattle.std.proofs.Common.{◌≡◌, ℕ, Bool, true, false, cond, bytes_eq, List, [], ◌∷◌, ◌++◌, Option, Some, None, option_map}
use Rattle.std.proofs.Common.{refl, sym, ap, ◌∙◌, subst, append_assoc, append-nil}
use Rattle.std.proofs.lemmas.Slice.Eq.{bytes_eq-Decides}
use Rattle.std.specs.Prelude.{IfSome, option_and_then}
use Rattle.tinyjson_grammar.specs.Syntax.{Syntax, Pairs, null, boolean, number, string, empty_array, array, empty_object, object}
use Rattle.tinyjson_grammar.specs.Syntax.{last_pair, pair, text, pairs_text, AreWhite, IsSpelled, ArePairs, IsStrict, PairsAreStrict}
use Rattle.tinyjson_grammar.specs.Syntax.{tree_of}
use Rattle.tinyjson_grammar.specs.Tree as tree
use Rattle.tinyjson_pointer.specs.Change.{all_but_last, last_of}
use Rattle.tinyjson_pointer.specs.Siblings.{container_at, child_name}
use Rattle.tinyjson_pointer.specs.Walk.{step}
use Rattle.tinyjson_pointer.specs.Places.{child, named}
use Rattle.tinyjson_pointer.specs.Spots.{Spot, spot, further, within, or_else, if_key, key_front, last_member, MemberSpot, member_spot}
use Rattle.tinyjson_pointer.specs.Spots.{value_spot}
use Rattle.tinyjson_pointer.specs.private.Keys.{further_member, within_member, last_with, child_member, named_member}
use Rattle.tinyjson_pointer.proofs.Locating.Members.{key_tree}
use Rattle.tinyjson_pointer.proofs.Locating.Parts.{IsPart, pair_whole, pair_front, child_tree, spot_tree, named_has, named_tree}

-- ---- one token

abbrev front_of : MemberSpot → List ℕ
front_of m = text m.key ++ (m.before_colon ++ 58 ∷ m.before_value)

value_further : (b : List ℕ) (m : MemberSpot) → value_spot (further_member b m) ≡ further b (value_spot m)
value_further b m = ap (λ x. spot x m.value m.behind) (append_assoc b m.before (front_of m))

value_within : (b a : List ℕ) (m : MemberSpot) → within b a (value_spot m) ≡ value_spot (within_member b a m)
value_within b a m = ap (λ x. spot x m.value (m.behind ++ a)) (sym (append_assoc b m.before (front_of m)))

values_within : (b a : List ℕ) (o : Option MemberSpot)
    → option_map (within b a) (option_map value_spot o) ≡ option_map value_spot (option_map (within_member b a) o)
values_within b a None = refl
values_within b a (Some m) = ap (λ p. Some p) (value_within b a m)

if_value : (key : List ℕ) (k : Syntax) (m : MemberSpot) → option_map value_spot (if_key key k m) ≡ if_key key k (value_spot m)
if_value key k m = by (bytes_eq key (tree.key_of (tree_of k)))
  where
    by : (b : Bool) → option_map value_spot (cond b (Some m) None) ≡ cond b (Some (value_spot m)) None
    by true = refl
    by false = refl

or_value : (b : List ℕ) (o q : Option MemberSpot) → option_map value_spot (or_else (option_map (further_member b) o) q)
    ≡ or_else (option_map (further b) (option_map value_spot o)) (option_map value_spot q)
or_value b None q = refl
or_value b (Some m) q = ap (λ p. Some p) (value_further b m)

pub last_value : (key : List ℕ) (ps : Pairs) → option_map value_spot (last_with key ps) ≡ last_member key ps
last_value key (last_pair a k b c s d) = if_value key k (member_spot a k b c s d)
last_value key (pair a k b c s d ps) =
    let f = key_front a k b c ++ (text s ++ (d ++ 44 ∷ [])) in
    let m = member_spot a k b c s (d ++ 44 ∷ pairs_text ps) in
    or_value f (last_with key ps) (if_key key k m)
    ∙ (ap (λ o. or_else (option_map (further f) o) (option_map value_spot (if_key key k m))) (last_value key ps)
    ∙ ap (or_else (option_map (further f) (last_member key ps))) (if_value key k m))

pub object_value : (ps : Pairs) (k : List ℕ) → option_map value_spot (child_member (object ps) k) ≡ child (object ps) k
object_value ps k = sym (values_within (123 ∷ []) (125 ∷ []) (last_with k ps))
    ∙ ap (option_map (within (123 ∷ []) (125 ∷ []))) (last_value k ps)

child_value : (s : Syntax) (k : List ℕ) → IfSome (child_member s k) (λ m. child s k ≡ Some (value_spot m))
child_value (object ps) k = by (child_member (object ps) k) (object_value ps k)
  where
    by : (o : Option MemberSpot) → option_map value_spot o ≡ child (object ps) k → IfSome o (λ m. child (object ps) k ≡ Some (value_spot m))
    by None h = tt
    by (Some m) h = sym h
child_value null k = tt
child_value (boolean b) k = tt
child_value (number n) k = tt
child_value (string ps) k = tt
child_value (empty_array w) k = tt
child_value (array es) k = tt
child_value (empty_object w) k = tt

-- ---- the last token

abbrev part_in : List ℕ → Spot → Option Spot
part_in k p = option_map (within p.before p.behind) (child p.part k)

within_none : (o : Option Spot) → option_map (within [] []) o ≡ o
within_none None = refl
within_none (Some p) = ap (λ a. Some (spot p.before p.part a)) (append-nil p.behind)

within_all : (o : Option Spot) → option_and_then (λ p. option_map (within p.before p.behind) (Some (spot [] p.part []))) o ≡ o
within_all None = refl
within_all (Some p) = ap (λ b. Some (spot b p.part p.behind)) (append-nil p.before)

within_both : (b a : List ℕ) (p : Spot) (o : Option Spot) → option_map (within b a) (option_map (within p.before p.behind) o)
    ≡ option_map (within (b ++ p.before) (p.behind ++ a)) o
within_both b a p None = refl
within_both b a p (Some q) =
    ap (λ x. Some (spot x q.part ((q.behind ++ p.behind) ++ a))) (sym (append_assoc b p.before q.before))
    ∙ ap (λ y. Some (spot ((b ++ p.before) ++ q.before) q.part y)) (append_assoc q.behind p.behind a)

within_later : (b a k : List ℕ) (o : Option Spot) → option_map (within b a) (option_and_then (part_in k) o)
    ≡ option_and_then (part_in k) (option_map (within b a) o)
within_later b a k None = refl
within_later b a k (Some p) = within_both b a p (child p.part k)

named_last : (ks : List (List ℕ)) (k : List ℕ) (s : Syntax)
    → named s (k ∷ ks) ≡ option_and_then (part_in (last_of k ks)) (named s (all_but_last k ks))
named_last [] k s = within_all (child s k) ∙ sym (within_none (child s k))
named_last (l ∷ ks) k s = by (child s k) (λ p. named_last ks l p.part)
  where
    by : (o : Option Spot)
        → ((p : Spot) → named p.part (l ∷ ks) ≡ option_and_then (part_in (last_of l ks)) (named p.part (all_but_last l ks)))
        → option_and_then (λ p. option_map (within p.before p.behind) (named p.part (l ∷ ks))) o
        ≡ option_and_then (part_in (last_of l ks))
        (option_and_then (λ p. option_map (within p.before p.behind) (named p.part (all_but_last l ks))) o)
    by None later = refl
    by (Some p) later = ap (option_map (within p.before p.behind)) (later p)
        ∙ within_later p.before p.behind (last_of l ks) (named p.part (all_but_last l ks))

abbrev pub member_in : List ℕ → Spot → Option MemberSpot
member_in k p = option_map (within_member p.before p.behind) (child_member p.part k)

-- the value of the member is the part
pub named_value : (ks : List (List ℕ)) (s : Syntax) → IfSome (named_member s ks) (λ m. named s ks ≡ Some (value_spot m))
named_value [] s = tt
named_value (k ∷ ks) s = by (named s (all_but_last k ks)) (named_last ks k s)
  where
    inner : (p : Spot) (o : Option MemberSpot) → IfSome o (λ m. child p.part (last_of k ks) ≡ Some (value_spot m))
        → named s (k ∷ ks) ≡ part_in (last_of k ks) p
        → IfSome (option_map (within_member p.before p.behind) o) (λ m. named s (k ∷ ks) ≡ Some (value_spot m))
    inner p None g e = tt
    inner p (Some m) g e = e ∙ (ap (option_map (within p.before p.behind)) g ∙ ap (λ q. Some q) (value_within p.before p.behind m))

    by : (o : Option Spot) → named s (k ∷ ks) ≡ option_and_then (part_in (last_of k ks)) o
        → IfSome (option_and_then (member_in (last_of k ks)) o) (λ m. named s (k ∷ ks) ≡ Some (value_spot m))
    by None e = tt
    by (Some p) e = inner p (child_member p.part (last_of k ks)) (child_value p.part (last_of k ks)) e

-- ---- what the member is

pub record IsMember (xs key : List ℕ) (m : MemberSpot) : Type 0 where
  pub spelled : IsSpelled m.key
  pub content : tree_of m.key ≡ tree.string key
  pub white : AreWhite m.before_colon × AreWhite m.before_value
  pub whole : xs ≡ m.before ++ (text m.key ++ (m.before_colon ++ 58 ∷ (m.before_value ++ (text m.value ++ m.behind))))

further_is : (b xs key : List ℕ) (o : Option MemberSpot) → IfSome o (IsMember xs key)
    → IfSome (option_map (further_member b) o) (IsMember (b ++ xs) key)
further_is b xs key None h = tt
further_is b xs key (Some m) h = record {
  spelled = h.spelled;
  content = h.content;
  white = h.white;
  whole = ap (λ ys. b ++ ys) h.whole ∙ sym (append_assoc b m.before _);
}

member_within : (b a x k c v t d : List ℕ)
    → b ++ ((x ++ (k ++ (c ++ 58 ∷ (v ++ (t ++ d))))) ++ a) ≡ (b ++ x) ++ (k ++ (c ++ 58 ∷ (v ++ (t ++ (d ++ a)))))
member_within b a x k c v t d = simp append_assoc

within_is : (b a xs key : List ℕ) (o : Option MemberSpot) → IfSome o (IsMember xs key)
    → IfSome (option_map (within_member b a) o) (IsMember (b ++ (xs ++ a)) key)
within_is b a xs key None h = tt
within_is b a xs key (Some m) h = record {
  spelled = h.spelled;
  content = h.content;
  white = h.white;
  whole = ap (λ ys. b ++ (ys ++ a)) h.whole
      ∙ member_within b a m.before (text m.key) m.before_colon m.before_value (text m.value) m.behind;
}

if_is : (xs key : List ℕ) (k : Syntax) (m : MemberSpot) → (key ≡ tree.key_of (tree_of k) → IsMember xs key m)
    → IfSome (if_key key k m) (IsMember xs key)
if_is xs key k m h = by (bytes_eq key (tree.key_of (tree_of k))) refl
  where
    by : (b : Bool) → bytes_eq key (tree.key_of (tree_of k)) ≡ b → IfSome (cond b (Some m) None) (IsMember xs key)
    by true e = h ((bytes_eq-Decides key (tree.key_of (tree_of k))).0 e)
    by false e = tt

or_is : (xs key : List ℕ) (o q : Option MemberSpot) → IfSome o (IsMember xs key) → IfSome q (IsMember xs key)
    → IfSome (or_else o q) (IsMember xs key)
or_is xs key None q h k = k
or_is xs key (Some m) q h k = h

last_is : (key : List ℕ) (ps : Pairs) → ArePairs ps → PairsAreStrict ps → IfSome (last_with key ps) (IsMember (pairs_text ps) key)
last_is key (last_pair a k b c s d) h z = if_is _ key k _ (λ e. record {
  spelled = h.1;
  content = key_tree k z.0 ∙ ap (λ x. tree.string x) (sym e);
  white = (h.2, h.3);
  whole = refl;
})
last_is key (pair a k b c s d ps) h z =
    let f = key_front a k b c in
    let more = further_is (f ++ (text s ++ (d ++ 44 ∷ []))) (pairs_text ps) key (last_with key ps) (last_is key ps h.6 z.3) in
    or_is _ key (option_map (further_member (f ++ (text s ++ (d ++ 44 ∷ [])))) (last_with key ps)) _
    (subst (λ xs. IfSome (option_map (further_member (f ++ (text s ++ (d ++ 44 ∷ [])))) (last_with key ps)) (IsMember xs key))
    (pair_front f (text s) d (pairs_text ps) ∙ sym (pair_whole a (text k) b c (text s) (d ++ 44 ∷ pairs_text ps))) more)
    (if_is _ key k _ (λ e. record {
      spelled = h.1;
      content = key_tree k z.0 ∙ ap (λ x. tree.string x) (sym e);
      white = (h.2, h.3);
      whole = refl;
    }))

child_is : (s : Syntax) (k : List ℕ) → IsSpelled s → IsStrict s → IfSome (child_member s k) (IsMember (text s) k)
child_is (object ps) k h z = within_is (123 ∷ []) (125 ∷ []) (pairs_text ps) k (last_with k ps) (last_is k ps h z)
child_is null k h z = tt
child_is (boolean b) k h z = tt
child_is (number n) k h z = tt
child_is (string ps) k h z = tt
child_is (empty_array w) k h z = tt
child_is (array es) k h z = tt
child_is (empty_object w) k h z = tt

pub named_is : (ks : List (List ℕ)) (s : Syntax) → IsSpelled s → IsStrict s → IfSome (named_member s ks) (IsMember (text s) (child_name ks))
named_is [] s h z = tt
named_is (k ∷ ks) s h z = by (named s (all_but_last k ks)) (named_has (all_but_last k ks) s h z)
  where
    by : (o : Option Spot) → IfSome o (IsPart (text s))
        → IfSome (option_and_then (member_in (last_of k ks)) o) (IsMember (text s) (last_of k ks))
    by None g = tt
    by (Some p) g = subst (λ xs. IfSome (member_in (last_of k ks) p) (IsMember xs (last_of k ks))) (sym g.whole)
        (within_is p.before p.behind (text p.part) (last_of k ks) (child_member p.part (last_of k ks))
        (child_is p.part (last_of k ks) g.spelled g.strict))

-- ---- no member

no_key : (s : Syntax) (k : List ℕ) (ms : tree.Members) → tree_of s ≡ tree.object ms → child_member s k ≡ None → tree.find k ms ≡ None
no_key (object ps) k ms e h =
    ap (λ t. step t k) (sym e)
    ∙ (sym (child_tree (object ps) k) ∙ ap (option_map spot_tree) (sym (object_value ps k) ∙ ap (option_map value_spot) h))
no_key (empty_object w) k ms e h = ap (λ t. step t k) (sym e)
no_key null k ms e h = cc
no_key (boolean b) k ms e h = cc
no_key (number n) k ms e h = cc
no_key (string ps) k ms e h = cc
no_key (empty_array w) k ms e h = cc
no_key (array es) k ms e h = cc

pub no_member_named : (ks : List (List ℕ)) (s : Syntax) (ms : tree.Members) → named_member s ks ≡ None
    → container_at (tree_of s) ks ≡ Some (tree.object ms) → tree.find (child_name ks) ms ≡ None
no_member_named [] s ms h e = cc
no_member_named (k ∷ ks) s ms h e = by (named s (all_but_last k ks)) h (named_tree (all_but_last k ks) s ∙ e)
  where
    inner : (b a : List ℕ) (o : Option MemberSpot) → option_map (within_member b a) o ≡ None → o ≡ None
    inner b a None g = refl
    inner b a (Some m) g = cc

    same : (t u : tree.Tree) → Some t ≡ Some u → t ≡ u
    same t u g = cc

    by : (o : Option Spot) → option_and_then (member_in (last_of k ks)) o ≡ None → option_map spot_tree o ≡ Some (tree.object ms)
        → tree.find (last_of k ks) ms ≡ None
    by None g f = cc
    by (Some p) g f = no_key p.part (last_of k ks) ms (same _ _ f) (inner p.before p.behind (child_member p.part (last_of k ks)) g)
