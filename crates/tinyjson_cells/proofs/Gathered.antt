-- The members that a sorted object keeps are those that `put` in turn gives.
use Rattle.std.proofs.Common.{◌≡◌, ℕ, ◌+◌, suc, Bool, true, false, cond, not, ◌&&◌, Option, Some, None, List}
use Rattle.std.proofs.Common.{[], ◌∷◌, ◌++◌, get_or, bytes_eq, refl, sym, ◌∙◌, ap, subst, arith}
use Rattle.std.specs.Prelude.{⊤}
use Rattle.std.specs.List.{filter, All}
use Rattle.std.specs.List.Sorted.{IsStableBy, IsSortedBy, IsPermutation, ties}
use Rattle.std.specs.Ordering.{is_lt, nat_cmp, ordering_reverse}
use Rattle.std.specs.Str.{encode_utf8_all}
use Rattle.std.specs.declared.cmp.Ordering.{Ordering}
use Rattle.std.specs.declared.cmp.Ordering.TheVariants.{Less, Equal, Greater}
use Rattle.std.specs.Cmp.Lexicographic.{slice_cmp}
use Rattle.std.proofs.lemmas.Cmp.{nat_list_cmp_total}
use Rattle.std.proofs.lemmas.List.Elements.{filter_agree, All-nil, All-cons, All-head, All-tail}
use Rattle.std.proofs.lemmas.List.Sorted.{All-permutation}
use Rattle.std.proofs.lemmas.Map.Lookups.{exact_bytes}
use Rattle.std.proofs.lemmas.Slice.Eq.{bytes_eq-Decides}
use Rattle.std.proofs.lemmas.Str.{encodes_same, encodes-chars}
use Rattle.tinyjson_grammar.specs.Tree.{Tree, Members, no_members, member, put, find}
use Rattle.tinyjson_grammar.specs.Soundness.{IsBelow, IsSorted}
use Rattle.tinyjson_grammar.proofs.Callers.{find_put, find_below, sorted_put, members_from_find}
use Rattle.tinyjson_cells.specs.Cell.{IsText, Is, AreMembers}
use Rattle.tinyjson_cells.specs.Order.{AreMembersBy}
use Rattle.tinyjson_cells.specs.Entries.{Entry, put_all, AreEntries, AreEntriesBy}
use Rattle.tinyjson_cells.specs.Order.{key_in, key_lt, paired, comes_again, lasts}
use Rattle.tinyjson_cells.specs.declared.store.Span.{Span}
use Rattle.tinyjson_cells.specs.declared.store.Cell.{Cell}
use Rattle.tinyjson_cells.specs.declared.store.Member.{Member}
use Rattle.tinyjson_cells.specs.declared.store.Store.{Store}
use Rattle.tinyjson_cells.specs.declared.texts.Texts.{Texts}
use Rattle.tinyjson_cells.specs.Texts.{part_of}

abbrev enc : List ℕ → List ℕ
enc = encode_utf8_all

abbrev cmp : List ℕ → List ℕ → Ordering
cmp = slice_cmp nat_cmp

-- ---- bytes that are compared

itself : (k : List ℕ) → cmp k k ≡ Equal
itself k = by (cmp k k) refl
  where
    by : (o : Ordering) → cmp k k ≡ o → o ≡ Equal
    by Less e = let f : Less ≡ Greater = sym e ∙ (nat_list_cmp_total.antisymm k k ∙ ap ordering_reverse e) in cc
    by Equal e = refl
    by Greater e = let f : Greater ≡ Less = sym e ∙ (nat_list_cmp_total.antisymm k k ∙ ap ordering_reverse e) in cc

pub apart : (a b : List ℕ) (o : Ordering) → cmp a b ≡ o → (o ≡ Equal → ⊥) → bytes_eq a b ≡ false
apart a b o e differ = by (bytes_eq a b) refl
  where
    by : (c : Bool) → bytes_eq a b ≡ c → c ≡ false
    by false h = refl
    by true h = absurd (differ (sym e ∙ (ap (cmp a) (sym ((bytes_eq-Decides a b).0 h)) ∙ itself a)))

tie : (a b : List ℕ) → (not (is_lt (cmp a b)) && not (is_lt (cmp b a))) ≡ bytes_eq a b
tie a b = by (cmp a b) refl
  where
    by : (o : Ordering) → cmp a b ≡ o → (not (is_lt (cmp a b)) && not (is_lt (cmp b a))) ≡ bytes_eq a b
    by Less e = ap (λ z. not (is_lt z) && not (is_lt (cmp b a))) e ∙ sym (apart a b Less e (λ h. cc))
    by Equal e =
        ap (λ z. not (is_lt z) && not (is_lt (cmp b a))) e ∙ ap (λ z. not (is_lt z)) (nat_list_cmp_total.antisymm b a
        ∙ ap ordering_reverse e)
        ∙ sym ((bytes_eq-Decides a b).1 (exact_bytes a b e))
    by Greater e =
        ap (λ z. not (is_lt z) && not (is_lt (cmp b a))) e ∙ ap (λ z. not (is_lt z)) (nat_list_cmp_total.antisymm b a
        ∙ ap ordering_reverse e)
        ∙ sym (apart a b Greater e (λ h. cc))

-- what is not above, and differs, is below
below : (a b : List ℕ) → is_lt (cmp b a) ≡ false → bytes_eq a b ≡ false → cmp a b ≡ Less
below a b l d = by (cmp b a) refl
  where
    by : (o : Ordering) → cmp b a ≡ o → cmp a b ≡ Less
    by Less e = let f = ap is_lt (sym e) ∙ l in absurd cc
    by Equal e = let f = sym ((bytes_eq-Decides a b).1 (sym (exact_bytes b a e))) ∙ d in absurd cc
    by Greater e = nat_list_cmp_total.antisymm a b ∙ ap ordering_reverse e

same_bytes_eq : (q k : List ℕ) → bytes_eq (enc q) (enc k) ≡ bytes_eq q k
same_bytes_eq q k = by (bytes_eq q k) refl (bytes_eq (enc q) (enc k)) refl
  where
    by : (c : Bool) → bytes_eq q k ≡ c → (d : Bool) → bytes_eq (enc q) (enc k) ≡ d → d ≡ c
    by true e true f = refl
    by false e false f = refl
    by true e false f = let g = sym ((bytes_eq-Decides (enc q) (enc k)).1 (ap enc ((bytes_eq-Decides q k).0 e))) ∙ f in absurd cc
    by false e true f = let g = sym ((bytes_eq-Decides q k).1 (encodes_same q k ((bytes_eq-Decides (enc q) (enc k)).0 f)))
        ∙ e in absurd cc

-- ---- the last member with a key

abbrev or_some : {X : Type 0} → Option X → Option X → Option X
or_some (Some x) o = Some x
or_some None o = o

or_none : {X : Type 0} (o : Option X) → or_some o None ≡ o
or_none (Some x) = refl
or_none None = refl

abbrev last_of : List Member → Option Member
last_of [] = None
last_of (m ∷ ms) = or_some (last_of ms) (Some m)

last_one : (c : Bool) (m : Member) (fs : List Member) (o : Option Member) → o ≡ last_of fs
    → or_some o (cond c (Some m) None) ≡ last_of (cond c (m ∷ fs) fs)
last_one true m fs o e = ap (λ z. or_some z (Some m)) e
last_one false m fs o e = or_none o ∙ e

absorbs : (c : Bool) (o : Option Member) (y z : Member)
    → or_some (or_some o (cond c (Some y) None)) (cond c (Some z) None) ≡ or_some o (cond c (Some y) None)
absorbs false o y z = or_none (or_some o None)
absorbs true None y z = refl
absorbs true (Some x) y z = refl

module _ (xs : Texts) where
  abbrev last_at : List ℕ → List Member → Option Member
  last_at b [] = None
  last_at b (m ∷ ms) = or_some (last_at b ms) (cond (bytes_eq b (key_in xs m)) (Some m) None)

  last_filter : (b : List ℕ) (ms : List Member) → last_at b ms ≡ last_of (filter (λ m. bytes_eq b (key_in xs m)) ms)
  last_filter b [] = refl
  last_filter b (m ∷ ms) = last_one (bytes_eq b (key_in xs m)) m (filter (λ n. bytes_eq b (key_in xs n)) ms) (last_at b ms)
      (last_filter b ms)

  same_last_of : (ms ns : List Member) → IsStableBy (key_lt xs) ms ns → (x : Member)
      → last_at (key_in xs x) ns ≡ last_at (key_in xs x) ms
  same_last_of ms ns stable x =
      let k = key_in xs x in
      let p = λ (m : Member). bytes_eq k (key_in xs m) in
      let agree = filter_agree p (ties (key_lt xs) x) (λ m. sym (tie k (key_in xs m))) in
      last_filter k ns ∙ ap last_of (agree ns ∙ stable x ∙ sym (agree ms)) ∙ sym (last_filter k ms)

  last_key : (b : List ℕ) (ms : List Member) (m : Member) → last_at b ms ≡ Some m → b ≡ key_in xs m
  last_key b [] m e = absurd cc
  last_key b (n ∷ ms) m e = by (last_at b ms) refl (last_key b ms m) e
    where
      at : (c : Bool) → bytes_eq b (key_in xs n) ≡ c → cond c (Some n) None ≡ Some m → b ≡ key_in xs m
      at true f h = let g : n ≡ m = cc in (bytes_eq-Decides b (key_in xs n)).0 f ∙ ap (key_in xs) g
      at false f h = absurd cc

      by : (o : Option Member) → last_at b ms ≡ o → (last_at b ms ≡ Some m → b ≡ key_in xs m)
          → or_some o (cond (bytes_eq b (key_in xs n)) (Some n) None) ≡ Some m → b ≡ key_in xs m
      by (Some x) f ih h = ih (f ∙ h)
      by None f ih h = at (bytes_eq b (key_in xs n)) refl h

  same_last : (ms ns : List Member) → IsStableBy (key_lt xs) ms ns → (b : List ℕ) → last_at b ns ≡ last_at b ms
  same_last ms ns stable b = by (last_at b ms) refl (last_at b ns) refl
    where
      with_key : (m : Member) → b ≡ key_in xs m → last_at b ns ≡ last_at b ms
      with_key m e = subst (λ z. last_at z ns ≡ last_at z ms) (sym e) (same_last_of ms ns stable m)

      by : (o : Option Member) → last_at b ms ≡ o → (p : Option Member) → last_at b ns ≡ p → last_at b ns ≡ last_at b ms
      by (Some m) e p f = with_key m (last_key b ms m e)
      by None e (Some n) f = with_key n (last_key b ns n f)
      by None e None f = f ∙ sym e

  last_again : (b : List ℕ) (z y : Member) (ys : List Member) → key_in xs z ≡ key_in xs y → last_at b (z ∷ y ∷ ys) ≡ last_at b (y ∷ ys)
  last_again b z y ys e =
      ap (λ k. or_some (last_at b (y ∷ ys)) (cond (bytes_eq b k) (Some z) None)) e
      ∙ absorbs (bytes_eq b (key_in xs y)) (last_at b ys) y z

  -- no key falls
  abbrev Rises : List Member → Type 0
  Rises [] = ⊤
  Rises (m ∷ []) = ⊤
  Rises (m ∷ n ∷ ms) = (key_lt xs n m ≡ false) × Rises (n ∷ ms)

  further : (k : ℕ) → suc k + 1 ≡ suc (k + 1)
  further k = omega arith

  rises : (ms : List Member) → IsSortedBy (key_lt xs) ms → Rises ms
  rises [] s = tt
  rises (m ∷ []) s = tt
  rises (m ∷ n ∷ ms) s = (
    s 0 m (omega arith) (omega arith),
    rises (n ∷ ms) (λ k d a b.
        subst (λ j. key_lt xs (get_or (m ∷ n ∷ ms) j d) (get_or (n ∷ ms) k d) ≡ false) (further k) (s (suc k) d (omega arith)
        (omega arith))),
  )

  rises_tail : (m : Member) (ms : List Member) → Rises (m ∷ ms) → Rises ms
  rises_tail m [] r = tt
  rises_tail m (n ∷ ms) r = r.1

-- ---- the bytes of a key

text_bytes : (s : Store) (k : List ℕ) (p : Span) → IsText s k p → part_of s.texts p ≡ enc k
text_bytes s k p h = sym (encodes-chars (part_of s.texts p) h.utf8) ∙ ap enc (sym h.characters)

sorted_put_all : (ms : Members) (es : List Entry) → IsSorted ms → IsSorted (put_all ms es)
sorted_put_all ms [] h = h
sorted_put_all ms (e ∷ es) h = sorted_put_all (put e.0 e.1 ms) es (sorted_put e.0 e.1 ms h)

-- what a value stands for at its key
module _ (s : Store) (R : List ℕ → Tree → Cell → Type 0) where
  abbrev xs : Texts
  xs = s.texts

  -- what is found at a key is what the last member with it stands for
  abbrev Agrees : List ℕ → Option Tree → Option Member → Option Tree → Type 0
  Agrees q o None base = o ≡ base
  Agrees q o (Some m) base = (t : Tree) × (o ≡ Some t) × IsText s q m.key × R q t m.value

  agrees : (es : List Entry) (ks : List Span) (vs : List Cell) (ms : Members) → AreEntriesBy s R es ks vs → (q : List ℕ)
      → Agrees q (find q (put_all ms es)) (last_at xs (enc q) (paired ks vs)) (find q ms)
  agrees [] [] [] ms h q = refl
  agrees [] [] (v ∷ vs) ms h q = absurd h
  agrees [] (k ∷ ks) vs ms h q = absurd h
  agrees (e ∷ es) [] vs ms h q = absurd h
  agrees (e ∷ es) (k ∷ ks) [] ms h q = absurd h
  agrees (e ∷ es) (k ∷ ks) (v ∷ vs) ms h q = step (last_at xs (enc q) (paired ks vs)) (agrees es ks vs (put e.0 e.1 ms) h.2 q)
    where
      same : (c : Bool) → bytes_eq (enc q) (part_of xs k) ≡ c → bytes_eq q e.0 ≡ c
      same c g = sym (same_bytes_eq q e.0) ∙ ap (bytes_eq (enc q)) (sym (text_bytes s e.0 k h.0)) ∙ g

      at : (c : Bool) → bytes_eq (enc q) (part_of xs k) ≡ c → find q (put_all (put e.0 e.1 ms) es) ≡ find q (put e.0 e.1 ms)
          → Agrees q (find q (put_all (put e.0 e.1 ms) es)) (cond c (Some (record { key = k; value = v })) None) (find q ms)
      at true g a =
          let here = same true g in (
            e.1,
            a ∙ find_put q e.0 e.1 ms ∙ ap (λ z. cond z (Some e.1) (find q ms)) here,
            subst (λ z. IsText s z k) (sym
                ((bytes_eq-Decides q e.0).0 here)) h.0,
            subst (λ z. R z e.1 v) (sym ((bytes_eq-Decides q e.0).0 here)) h.1,
          )
      at false g a = a ∙ find_put q e.0 e.1 ms ∙ ap (λ z. cond z (Some e.1) (find q ms)) (same false g)

      step : (p : Option Member) → Agrees q (find q (put_all (put e.0 e.1 ms) es)) p (find q (put e.0 e.1 ms))
          → Agrees q (find q (put_all (put e.0 e.1 ms) es)) (or_some p (cond (bytes_eq (enc q) (part_of xs k)) (Some (record {
            key =
                k;
            value = v;
          })) None)) (find q ms)
      step (Some m) a = a
      step None a = at (bytes_eq (enc q) (part_of xs k)) refl a

  abbrev HasText : Member → Type 0
  HasText m = (k : List ℕ) × IsText s k m.key

  have_texts : (es : List Entry) (ks : List Span) (vs : List Cell) → AreEntriesBy s R es ks vs → All HasText (paired ks vs)
  have_texts [] [] [] h = All-nil HasText
  have_texts [] [] (v ∷ vs) h = absurd h
  have_texts [] (k ∷ ks) vs h = absurd h
  have_texts (e ∷ es) [] vs h = absurd h
  have_texts (e ∷ es) (k ∷ ks) [] h = absurd h
  have_texts (e ∷ es) (k ∷ ks) (v ∷ vs) h = All-cons HasText (record {
    key = k;
    value =
        v;
  }) (paired ks vs) (e.0, h.0) (have_texts es ks vs h.2)

  -- the first of the members has the key of the first of the list
  abbrev IsFirst : List Member → Members → Type 0
  IsFirst [] ms = ms ≡ no_members
  IsFirst (z ∷ zs) ms = (k : List ℕ) × (t : Tree) × (rest : Members) × (ms ≡ member k t rest) × (enc k ≡ key_in xs z)

  module _ (G : List ℕ → Option Tree) where
    abbrev Stands : List Member → Type 0
    Stands zs = (q : List ℕ) (m : Member) → last_at xs (enc q) zs ≡ Some m
        → (t : Tree) × (G q ≡ Some t) × IsText s q m.key × R q t m.value

    pub record Kept (zs : List Member) : Type 0 where
      pub members : Members
      pub are : AreMembersBy s R members (lasts xs zs)
      pub sorted : IsSorted members
      pub first : IsFirst zs members
      pub finds : (q : List ℕ) (m : Member) → last_at xs (enc q) zs ≡ Some m → find q members ≡ G q
      pub lacks : (q : List ℕ) → last_at xs (enc q) zs ≡ None → find q members ≡ None

    again_kept : (z : Member) (zs : List Member) → comes_again xs z zs ≡ true → Kept zs → Kept (z ∷ zs)
    again_kept z [] e k = absurd cc
    again_kept z (y ∷ ys) e k =
        let same = (bytes_eq-Decides (key_in xs z) (key_in xs y)).0 e in
        record {
          members = k.members;
          are = subst (AreMembersBy s R k.members) (sym (ap (λ b. cond b (lasts xs (y ∷ ys)) (z ∷ lasts xs (y ∷ ys))) e)) k.are;
          sorted = k.sorted;
          first = (k.first.0, k.first.1, k.first.2, k.first.3, k.first.4 ∙ sym same);
          finds = λ q m f. k.finds q m (sym (last_again xs (enc q) z y ys same) ∙ f);
          lacks = λ q f. k.lacks q (sym (last_again xs (enc q) z y ys same) ∙ f);
        }

    below_first : (z : Member) (zs : List Member) (k : List ℕ) (ms : Members) → Rises xs (z ∷ zs) → comes_again xs z zs ≡ false
        → enc k ≡ key_in xs z → IsFirst zs ms → IsBelow k ms
    below_first z [] k ms r e b f = subst (IsBelow k) (sym f) tt
    below_first z (y ∷ ys) k ms r e b f =
        let less = below (key_in xs z) (key_in xs y) r.0 e in
        subst (IsBelow k) (sym f.3) (ap (λ w. cmp w (enc f.0)) b ∙ ap (cmp (key_in xs z)) f.4 ∙ less)

    new_kept : (z : Member) (zs : List Member) → Rises xs (z ∷ zs) → comes_again xs z zs ≡ false → HasText z → Kept zs → Stands zs
        → Stands (z ∷ zs) → Kept (z ∷ zs)
    new_kept z zs r e text k h' h =
        let key = text.0 in
        let b : enc key ≡ key_in xs z = sym (text_bytes s key z.key text.1) in
        let under = below_first z zs key k.members r e b k.first in
        let none : last_at xs (enc key) zs ≡ None = nowhere (last_at xs (enc key) zs) refl (find_below key k.members under k.sorted) in
        let here : last_at xs (enc key) (z ∷ zs) ≡ Some z =
        ap (λ o. or_some o (cond (bytes_eq (enc key) (key_in xs z)) (Some z) None)) none
        ∙ ap (λ c. cond c (Some z) None) ((bytes_eq-Decides (enc key) (key_in xs z)).1 b) in
        let got = h key z here in
        record {
          members = member key got.0 k.members;
          are = subst (AreMembersBy s R (member key got.0 k.members)) (sym (ap (λ c. cond c (lasts xs zs) (z ∷ lasts xs zs)) e))
              (got.2, got.3, k.are);
          sorted = (under, k.sorted);
          first = (key, got.0, k.members, refl, b);
          finds = λ q m f. found got.0 got.1 q (bytes_eq q key) refl m f;
          lacks = λ q f. lacking here got.0 q (bytes_eq q key) refl f;
        }
      where
        nowhere : (o : Option Member) → last_at xs (enc text.0) zs ≡ o → find text.0 k.members ≡ None → o ≡ None
        nowhere None f g = refl
        nowhere (Some m) f g = let c = sym g ∙ k.finds text.0 m f ∙ (h' text.0 m f).1 in absurd cc

        skips : (q : List ℕ) → bytes_eq q text.0 ≡ false → last_at xs (enc q) (z ∷ zs) ≡ last_at xs (enc q) zs
        skips q g =
            let off : bytes_eq (enc q) (key_in xs z) ≡ false = ap (bytes_eq (enc q)) (text_bytes s text.0 z.key text.1)
            ∙ same_bytes_eq q text.0 ∙ g in
            ap (λ c. or_some (last_at xs (enc q) zs) (cond c (Some z) None)) off ∙ or_none (last_at xs (enc q) zs)

        found : (t : Tree) → G text.0 ≡ Some t → (q : List ℕ) (c : Bool) → bytes_eq q text.0 ≡ c → (m : Member)
            → last_at xs (enc q) (z ∷ zs) ≡ Some m
            → cond (bytes_eq q text.0) (Some t) (find q k.members) ≡ G q
        found t at q true g m f = ap (λ c. cond c (Some t) (find q k.members)) g ∙ sym at ∙ ap G (sym ((bytes_eq-Decides q text.0).0 g))
        found t at q false g m f = ap (λ c. cond c (Some t) (find q k.members)) g ∙ k.finds q m (sym (skips q g) ∙ f)

        lacking : last_at xs (enc text.0) (z ∷ zs) ≡ Some z → (t : Tree) (q : List ℕ) (c : Bool) → bytes_eq q text.0 ≡ c
            → last_at xs (enc q) (z ∷ zs) ≡ None
            → cond (bytes_eq q text.0) (Some t) (find q k.members) ≡ None
        lacking here t q true g f =
            let c = sym here ∙ ap (λ w. last_at xs (enc w) (z ∷ zs)) (sym ((bytes_eq-Decides q text.0).0 g)) ∙ f in absurd cc
        lacking here t q false g f = ap (λ c. cond c (Some t) (find q k.members)) g ∙ k.lacks q (sym (skips q g) ∙ f)

    kept : (zs : List Member) → Rises xs zs → All HasText zs → Stands zs → Kept zs
    kept [] r a h = record {
      members = no_members;
      are = tt;
      sorted = tt;
      first = refl;
      finds = λ q m e. absurd cc;
      lacks =
          λ q e. refl;
    }
    kept (z ∷ zs) r a h = by (comes_again xs z zs) refl (kept zs (rises_tail xs z zs r) (All-tail HasText z zs a) others)
      where
        others : Stands zs
        others q m e = h q m (ap (λ o. or_some o (cond (bytes_eq (enc q) (key_in xs z)) (Some z) None)) e)

        by : (c : Bool) → comes_again xs z zs ≡ c → Kept zs → Kept (z ∷ zs)
        by true e k = again_kept z zs e k
        by false e k = new_kept z zs r e (All-head HasText z zs a) k others h

  -- the members of the sorted list are those that were put in turn
  pub gathered_by : (es : List Entry) (ks : List Span) (vs : List Cell) (ns : List Member) → AreEntriesBy s R es ks vs
      → IsPermutation (paired ks vs) ns
      → IsSortedBy (key_lt xs) ns → IsStableBy (key_lt xs) (paired ks vs) ns → AreMembersBy s R (put_all no_members es) (lasts xs ns)
  gathered_by es ks vs ns h permuted sorted stable =
      let k = kept (λ q. find q (put_all no_members es)) ns (rises xs ns sorted) (All-permutation HasText (paired ks vs) ns permuted
      (have_texts es ks vs h)) stands in
      subst (λ m. AreMembersBy s R m (lasts xs ns)) (members_from_find k.members (put_all no_members es) k.sorted
      (sorted_put_all no_members es tt) (λ q. same k q (last_at xs (enc q) ns) refl)) k.are
    where
      now : (q : List ℕ) (o : Option Member) → last_at xs (enc q) ns ≡ o → Agrees q (find q (put_all no_members es)) o None
      now q o e = subst (λ p. Agrees q (find q (put_all no_members es)) p None) (sym (same_last xs (paired ks vs) ns stable
          (enc q)) ∙ e) (agrees es ks vs no_members h q)

      stands : Stands (λ q. find q (put_all no_members es)) ns
      stands q m e = now q (Some m) e

      same : (k : Kept (λ q. find q (put_all no_members es)) ns) (q : List ℕ) (o : Option Member) → last_at xs (enc q) ns ≡ o
          → find q k.members ≡ find q (put_all no_members es)
      same k q (Some m) e = k.finds q m e
      same k q None e = k.lacks q e ∙ sym (now q None e)

-- of values in an arena

are_members : (s : Store) (ms : Members) (es : List Member) → AreMembersBy s (λ k t n. Is s t n) ms es → AreMembers s ms es
are_members s no_members [] h = h
are_members s no_members (e ∷ es) h = h
are_members s (member k t ms) [] h = h
are_members s (member k t ms) (e ∷ es) h = (h.0, h.1, are_members s ms es h.2)

pub gathered : (s : Store) (es : List Entry) (ks : List Span) (vs : List Cell) (ns : List Member) → AreEntries s es ks vs
    → IsPermutation (paired ks vs) ns → IsSortedBy (key_lt s.texts) ns → IsStableBy (key_lt s.texts) (paired ks vs) ns
    → AreMembers s (put_all no_members es) (lasts s.texts ns)
gathered s es ks vs ns h permuted sorted stable =
    are_members s _ _ (gathered_by s (λ k t n. Is s t n) es ks vs ns h permuted sorted stable)

-- one more entry is one more put

pub put_last : (ms : Members) (es : List Entry) (k : List ℕ) (t : Tree) → put k t (put_all ms es) ≡ put_all ms (es ++ (k, t) ∷ [])
put_last ms [] k t = refl
put_last ms (e ∷ es) k t = put_last (put e.0 e.1 ms) es k t
