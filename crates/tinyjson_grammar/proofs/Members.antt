-- Members in order: what `put` leaves to find, and that sorted members with the same finds are the same.
use Rattle.std.proofs.Common.{◌≡◌, ℕ, Bool, true, false, List, Some, None, Ordering, Less, Equal, Greater, cond, bytes_eq, true≢false, refl}
use Rattle.std.proofs.Common.{sym, ap, ◌∙◌, subst}
use Rattle.std.proofs.lemmas.Cmp.{on_total, nat_list_cmp_total}
use Rattle.std.proofs.lemmas.Map.Lookups.{exact_bytes}
use Rattle.std.proofs.lemmas.Slice.Eq.{bytes_eq-Decides}
use Rattle.std.proofs.lemmas.Str.{encodes_same}
use Rattle.std.specs.Cmp.{IsTotalOrder}
use Rattle.std.specs.Ordering.{match_ordering, ordering_reverse}
use Rattle.std.specs.Str.{encode_utf8_all}
use Rattle.tinyjson_grammar.specs.Tree.{Tree, Members, no_members, member, key_cmp, put, find, remove}
use Rattle.tinyjson_grammar.specs.Soundness.{IsBelow, IsSorted}

pub key_total : IsTotalOrder key_cmp
key_total = on_total encode_utf8_all nat_list_cmp_total

pub key_same : (k l : List ℕ) → key_cmp k l ≡ Equal → k ≡ l
key_same k l h = encodes_same k l (exact_bytes _ _ h)

pub same_key : (k : List ℕ) → bytes_eq k k ≡ true
same_key k = (bytes_eq-Decides k k).1 refl

itself : (k : List ℕ) → key_cmp k k ≡ Equal
itself k = by (key_cmp k k) refl
  where
    by : (o : Ordering) → key_cmp k k ≡ o → o ≡ Equal
    by Less e = let f : Less ≡ Greater = sym e ∙ (key_total.antisymm k k ∙ ap ordering_reverse e) in cc
    by Equal e = refl
    by Greater e = let f : Greater ≡ Less = sym e ∙ (key_total.antisymm k k ∙ ap ordering_reverse e) in cc

apart : (k l : List ℕ) (o : Ordering) → key_cmp k l ≡ o → (o ≡ Equal → ⊥) → bytes_eq k l ≡ false
apart k l o e differ = by (bytes_eq k l) refl
  where
    by : (b : Bool) → bytes_eq k l ≡ b → b ≡ false
    by false h = refl
    by true h = absurd (differ (sym e ∙ (ap (λ x. key_cmp k x) (sym ((bytes_eq-Decides k l).0 h)) ∙ itself k)))

pub flip : (k l : List ℕ) → key_cmp k l ≡ Greater → key_cmp l k ≡ Less
flip k l e = key_total.antisymm l k ∙ ap ordering_reverse e

cond_twice : {A : Type 0} (b : Bool) (x y z : A) → cond b x z ≡ cond b x (cond b y z)
cond_twice true x y z = refl
cond_twice false x y z = refl

pub cond_swap : {A : Type 0} (a b : Bool) (x y z : A) → (a ≡ true → b ≡ true → ⊥) → cond a x (cond b y z) ≡ cond b y (cond a x z)
cond_swap true true x y z h = absurd (h refl refl)
cond_swap true false x y z h = refl
cond_swap false b x y z h = refl

find_put_at : (o : Ordering) (q k l : List ℕ) (t u : Tree) (ms : Members) → key_cmp k l ≡ o
    → find q (put k t ms) ≡ cond (bytes_eq q k) (Some t) (find q ms)
    → find q (match_ordering o (member k t (member l u ms)) (member k t ms) (member l u (put k t ms)))
    ≡ cond (bytes_eq q k) (Some t) (cond (bytes_eq q l) (Some u) (find q ms))
find_put_at Less q k l t u ms e later = refl
find_put_at Equal q k l t u ms e later = cond_twice (bytes_eq q k) (Some t) (Some u) (find q ms)
    ∙ ap (λ x. cond (bytes_eq q k) (Some t) (cond (bytes_eq q x) (Some u) (find q ms))) (key_same k l e)
find_put_at Greater q k l t u ms e later =
    let clash : bytes_eq q l ≡ true → bytes_eq q k ≡ true → ⊥
    = λ a b. true≢false (sym (same_key k) ∙ (ap (λ x. bytes_eq k x) (sym ((bytes_eq-Decides q k).0 b) ∙ (bytes_eq-Decides q l).0 a)
    ∙ apart k l Greater e (λ h. cc))) in
    ap (cond (bytes_eq q l) (Some u)) later ∙ cond_swap (bytes_eq q l) (bytes_eq q k) (Some u) (Some t) (find q ms) clash

-- what was put at k is found there, and the rest as before
pub find_put : (q k : List ℕ) (t : Tree) (ms : Members) → find q (put k t ms) ≡ cond (bytes_eq q k) (Some t) (find q ms)
find_put q k t no_members = refl
find_put q k t (member l u ms) = find_put_at (key_cmp k l) q k l t u ms refl (find_put q k t ms)

below_trans : (k l : List ℕ) (ms : Members) → key_cmp k l ≡ Less → IsBelow l ms → IsBelow k ms
below_trans k l no_members e b = tt
below_trans k l (member m u ms) e b = key_total.trans k l m e b

-- a key below all of them is not found
pub find_below : (k : List ℕ) (ms : Members) → IsBelow k ms → IsSorted ms → find k ms ≡ None
find_below k no_members b s = refl
find_below k (member l u ms) b s =
    ap (λ x. cond x (Some u) (find k ms)) (apart k l Less b (λ h. cc)) ∙ find_below k ms (below_trans k l ms b s.0) s.1

below_put_at : (o : Ordering) (j k l : List ℕ) (t u : Tree) (ms : Members) → key_cmp j k ≡ Less → key_cmp j l ≡ Less
    → IsBelow j (match_ordering o (member k t (member l u ms)) (member k t ms) (member l u (put k t ms)))
below_put_at Greater j k l t u ms a b = b
below_put_at _ j k l t u ms a b = a

below_put : (j k : List ℕ) (t : Tree) (ms : Members) → key_cmp j k ≡ Less → IsBelow j ms → IsBelow j (put k t ms)
below_put j k t no_members a b = a
below_put j k t (member l u ms) a b = below_put_at (key_cmp k l) j k l t u ms a b

sorted_put_at : (o : Ordering) (k l : List ℕ) (t u : Tree) (ms : Members) → key_cmp k l ≡ o → IsSorted (member l u ms)
    → IsSorted (put k t ms) → IsSorted (match_ordering o (member k t (member l u ms)) (member k t ms) (member l u (put k t ms)))
sorted_put_at Less k l t u ms e s later = (e, s)
sorted_put_at Equal k l t u ms e s later = (subst (λ x. IsBelow x ms) (sym (key_same k l e)) s.0, s.1)
sorted_put_at Greater k l t u ms e s later = (below_put l k t ms (flip k l e) s.0, later)

pub sorted_put : (k : List ℕ) (t : Tree) (ms : Members) → IsSorted ms → IsSorted (put k t ms)
sorted_put k t no_members s = (tt, tt)
sorted_put k t (member l u ms) s = sorted_put_at (key_cmp k l) k l t u ms refl s (sorted_put k t ms s.1)

cond_itself : {A : Type 0} (b : Bool) (x : A) → x ≡ cond b x x
cond_itself true x = refl
cond_itself false x = refl

find_remove_at : (b : Bool) (q k l : List ℕ) (u : Tree) (ms : Members) → bytes_eq k l ≡ b
    → find q (remove k ms) ≡ cond (bytes_eq q k) None (find q ms)
    → find q (cond b (remove k ms) (member l u (remove k ms))) ≡ cond (bytes_eq q k) None (cond (bytes_eq q l) (Some u) (find q ms))
find_remove_at true q k l u ms e later = later ∙ (cond_twice (bytes_eq q k) None (Some u) (find q ms)
    ∙ ap (λ x. cond (bytes_eq q k) None (cond (bytes_eq q x) (Some u) (find q ms))) ((bytes_eq-Decides k l).0 e))
find_remove_at false q k l u ms e later =
    let clash : bytes_eq q l ≡ true → bytes_eq q k ≡ true → ⊥
    = λ a b. true≢false (sym (same_key k) ∙ (ap (λ x. bytes_eq k x) (sym ((bytes_eq-Decides q k).0 b) ∙ (bytes_eq-Decides q l).0 a) ∙ e)) in
    ap (cond (bytes_eq q l) (Some u)) later ∙ cond_swap (bytes_eq q l) (bytes_eq q k) (Some u) None (find q ms) clash

-- the removed key is not found, and the rest as before
pub find_remove : (q k : List ℕ) (ms : Members) → find q (remove k ms) ≡ cond (bytes_eq q k) None (find q ms)
find_remove q k no_members = cond_itself (bytes_eq q k) None
find_remove q k (member l u ms) = find_remove_at (bytes_eq k l) q k l u ms refl (find_remove q k ms)

below_remove : (j k : List ℕ) (ms : Members) → IsSorted ms → IsBelow j ms → IsBelow j (remove k ms)
below_remove j k no_members s h = tt
below_remove j k (member l u ms) s h = by (bytes_eq k l) (below_remove j k ms s.1 (below_trans j l ms h s.0))
  where
    by : (b : Bool) → IsBelow j (remove k ms) → IsBelow j (cond b (remove k ms) (member l u (remove k ms)))
    by true later = later
    by false later = h

pub sorted_remove : (k : List ℕ) (ms : Members) → IsSorted ms → IsSorted (remove k ms)
sorted_remove k no_members s = tt
sorted_remove k (member l u ms) s = by (bytes_eq k l) (sorted_remove k ms s.1)
  where
    by : (b : Bool) → IsSorted (remove k ms) → IsSorted (cond b (remove k ms) (member l u (remove k ms)))
    by true h = h
    by false h = (below_remove l k ms s.1 s.0, h)

pub found_first : (k : List ℕ) (t : Tree) (ms : Members) → find k (member k t ms) ≡ Some t
found_first k t ms = ap (λ b. cond b (Some t) (find k ms)) (same_key k)

pub some_none : {A : Type 0} (x : A) → Some x ≡ None → ⊥
some_none x h = cc

abbrev Same : Members → Members → Type 0
Same ms ns = (q : List ℕ) → find q ms ≡ find q ns

-- the rest of two lists with one first key
same_rest : (k : List ℕ) (t : Tree) (ms ns : Members) → IsSorted (member k t ms) → IsSorted (member k t ns)
    → Same (member k t ms) (member k t ns) → Same ms ns
same_rest k t ms ns s r h q = by (bytes_eq q k) refl
  where
    by : (b : Bool) → bytes_eq q k ≡ b → find q ms ≡ find q ns
    by true e =
        let is : q ≡ k = (bytes_eq-Decides q k).0 e in
        subst (λ x. find x ms ≡ find x ns) (sym is) (find_below k ms s.0 s.1 ∙ sym (find_below k ns r.0 r.1))
    by false e = sym (ap (λ b. cond b (Some t) (find q ms)) e) ∙ (h q ∙ ap (λ b. cond b (Some t) (find q ns)) e)

-- sorted members are determined by what is found in them
pub members_from_find : (ms ns : Members) → IsSorted ms → IsSorted ns → Same ms ns → ms ≡ ns
members_from_find no_members no_members s r h = refl
members_from_find no_members (member l u ns) s r h = absurd (some_none u (sym (found_first l u ns) ∙ sym (h l)))
members_from_find (member k t ms) no_members s r h = absurd (some_none t (sym (found_first k t ms) ∙ h k))
members_from_find (member k t ms) (member l u ns) s r h = by (key_cmp k l) refl (λ h'. members_from_find ms ns s.1 r.1 h')
  where
    by : (o : Ordering) → key_cmp k l ≡ o → (Same ms ns → ms ≡ ns) → member k t ms ≡ member l u ns
    by Less e tails = absurd (some_none t (sym (found_first k t ms) ∙ (h k ∙ find_below k (member l u ns) e r)))
    by Greater e tails = absurd (some_none u (sym (found_first l u ns) ∙ (sym (h l) ∙ find_below l (member k t ms) (flip k l e) s)))
    by Equal e tails =
        let is : k ≡ l = key_same k l e in
        let r' : IsSorted (member k u ns) = subst (λ x. IsSorted (member x u ns)) (sym is) r in
        let h' : Same (member k t ms) (member k u ns) = subst (λ x. Same (member k t ms) (member x u ns)) (sym is) h in
        let value : t ≡ u = (let f : Some t ≡ Some u = sym (found_first k t ms) ∙ (h' k ∙ found_first k u ns) in cc) in
        let h'' : Same (member k t ms) (member k t ns) = subst (λ x. Same (member k t ms) (member k x ns)) (sym value) h' in
        let rest : ms ≡ ns = tails (same_rest k t ms ns s (subst (λ x. IsSorted (member k x ns)) (sym value) r') h'') in
        λ i. member (is i) (value i) (rest i)
