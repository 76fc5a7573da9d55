-- What waits, when a value comes or a container is closed.
use Rattle.std.proofs.Common.{◌≡◌, ℕ, List, [], ◌∷◌, ◌++◌, length, take, drop, refl, sym, ◌∙◌, ap, subst, append_assoc, append-nil}
use Rattle.std.proofs.lemmas.List.{take_at, drop_at, same_from_push}
use Rattle.tinyjson_grammar.specs.Tree.{Tree, array, object, items_of, Members, no_members, put}
use Rattle.tinyjson.specs.Events.{Open, in_array, at_key, at_value, Puts}
use Rattle.tinyjson_cells.specs.Cell.{IsRun, IsText, Is, Are, AreMembers, Extends, Grows}
use Rattle.tinyjson_cells.specs.Texts.{source_bytes}
use Rattle.tinyjson_document.specs.declared.arena.Built.{Built}
use Rattle.tinyjson_cells.specs.Entries.{Entry, put_all, AreEntries}
use Rattle.tinyjson_document.specs.Holding.{Gathers, IsOpen, Waiting, Splits, HoldsIn, waiting_in, Holds, IsTree, HoldsOver, IsBuilt, IsOver, IsTreeOver}
use Rattle.tinyjson_cells.specs.declared.store.Span.{Span}
use Rattle.tinyjson_cells.specs.declared.store.Cell.{Cell}
use Rattle.tinyjson_cells.specs.declared.store.Cell.TheVariants as node
use Rattle.tinyjson_cells.specs.declared.store.Store.{Store}
use Rattle.tinyjson_document.specs.declared.arena.Place.{Place}
use Rattle.tinyjson_document.specs.declared.arena.Arena.{Arena}
use Rattle.std.specs.List.Sorted.{IsPermutation, IsSortedBy, IsStableBy}
use Rattle.tinyjson_cells.specs.Order.{key_lt, paired, lasts}
use Rattle.tinyjson_cells.specs.declared.store.Member.{Member}
use Rattle.tinyjson_cells.proofs.Callers.{is_still, are_still, members_still, text_stays, grows_none}
use Rattle.tinyjson_cells.proofs.Callers.{gathered, put_last}

-- ---- one more item, one more entry

more_items : (s : Store) (ts : List Tree) (ns : List Cell) (t : Tree) (n : Cell) → Are s (items_of ts) ns → Is s t n
    → Are s (items_of (ts ++ t ∷ [])) (ns ++ n ∷ [])
more_items s [] [] t n h i = (i, tt)
more_items s [] (m ∷ ns) t n h i = absurd h
more_items s (u ∷ ts) [] t n h i = absurd h
more_items s (u ∷ ts) (m ∷ ns) t n h i = (h.0, more_items s ts ns t n h.1 i)

more_entries : (s : Store) (es : List Entry) (ks : List Span) (vs : List Cell) (k : List ℕ) (p : Span) (t : Tree) (n : Cell)
    → AreEntries s es ks vs → IsText s k p → Is s t n → AreEntries s (es ++ (k, t) ∷ []) (ks ++ p ∷ []) (vs ++ n ∷ [])
more_entries s [] [] [] k p t n h x i = (x, i, tt)
more_entries s [] [] (v ∷ vs) k p t n h x i = absurd h
more_entries s [] (q ∷ ks) vs k p t n h x i = absurd h
more_entries s (e ∷ es) [] vs k p t n h x i = absurd h
more_entries s (e ∷ es) (q ∷ ks) [] k p t n h x i = absurd h
more_entries s (e ∷ es) (q ∷ ks) (v ∷ vs) k p t n h x i = (h.0, h.1, more_entries s es ks vs k p t n h.2 x i)

-- ---- what waits stays while the store grows

entries_still : (s r : Store) (es : List Entry) (ks : List Span) (vs : List Cell) → Grows s r → AreEntries s es ks vs
    → AreEntries r es ks vs
entries_still s r [] [] [] g h = h
entries_still s r [] [] (v ∷ vs) g h = h
entries_still s r [] (k ∷ ks) vs g h = h
entries_still s r (e ∷ es) [] vs g h = h
entries_still s r (e ∷ es) (k ∷ ks) [] g h = h
entries_still s r (e ∷ es) (k ∷ ks) (v ∷ vs) g h = (
  text_stays s r e.0 k g h.0,
  is_still s r e.1 v g h.1,
  entries_still s r es ks vs g
      h.2,
)

gathers_still : (s r : Store) (ms : Members) (ks : List Span) (vs : List Cell) → Grows s r → Gathers s ms ks vs → Gathers r ms ks vs
gathers_still s r ms ks vs g h = record {
  entries = h.entries;
  members = h.members;
  waiting =
      entries_still s r h.entries ks vs g h.waiting;
}

frame_still : (s r : Store) (f : Open) (ks : List Span) (vs : List Cell) → Grows s r → IsOpen s f ks vs → IsOpen r f ks vs
frame_still s r (in_array ts) ks vs g h = (h.0, are_still s r (items_of ts) vs g h.1)
frame_still s r (at_key ms) ks vs g h = gathers_still s r ms ks vs g h
frame_still s r (at_value ms k) ks vs g h =
    record {
      before = h.before;
      key = h.key;
      keys = h.keys;
      text = text_stays s r k h.key g h.text;
      gathered =
          gathers_still s r ms h.before vs g h.gathered;
    }

pub holds_still : (s r : Store) (w : Waiting) (fs : List Open) → Grows s r → HoldsIn s w fs → HoldsIn r w fs
holds_still s r w [] g h = h
holds_still s r w (f ∷ fs) g h = (h.0, h.1, h.2, h.3, frame_still s r f h.1 h.2 g h.4, holds_still s r h.0 fs g h.5)

-- ---- a value is put

more_values : (w outer : Waiting) (ks : List Span) (vs : List Cell) (n : Cell) → Splits w outer ks vs
    → Splits (record { places = w.places; keys = w.keys; values = w.values ++ n ∷ [] }) outer ks (vs ++ n ∷ [])
more_values w outer ks vs n h =
    record {
      place = h.place;
      places = h.places;
      keys = h.keys;
      values = ap (λ x. x ++ n ∷ []) h.values
          ∙ append_assoc outer.values vs (n ∷ []);
      first_key = h.first_key;
      first_value = h.first_value;
    }

puts_in : (s : Store) (w : Waiting) (fs : List Open) (t : Tree) (n : Cell) (a : Arena) → HoldsIn s w fs → Is s t n → a.store ≡ s
    → waiting_in a ≡ record { places = w.places; keys = w.keys; values = w.values ++ n ∷ [] } → Puts Holds IsTree fs t a
puts_in s w [] t n a h i es ew = (n, ap (λ x. x.values) ew ∙ ap (λ x. x ++ n ∷ []) h.2, subst (λ x. Is x t n) (sym es) i)
puts_in s w (in_array ts ∷ fs) t n a h i es ew =
    let here : HoldsIn s (record { places = w.places; keys = w.keys; values = w.values ++ n ∷ [] }) (in_array (ts ++ t ∷ []) ∷ fs)
    = (h.0, h.1, h.2 ++ n ∷ [], more_values w h.0 h.1 h.2 n h.3, (h.4.0, more_items s ts h.2 t n h.4.1 i), h.5) in
    subst (λ x. HoldsIn x (waiting_in a) (in_array (ts ++ t ∷ []) ∷ fs)) (sym es) (subst (λ x. HoldsIn s x (in_array
    (ts ++ t ∷ []) ∷ fs)) (sym ew) here)
puts_in s w (at_key ms ∷ fs) t n a h i es ew = tt
puts_in s w (at_value ms k ∷ fs) t n a h i es ew =
    let old = h.4 in
    let es' = old.gathered.entries ++ (k, t) ∷ [] in
    let new : Gathers s (put k t ms) h.1 (h.2 ++ n ∷ []) = record {
      entries = es';
      members = ap (put k t) old.gathered.members ∙ put_last no_members old.gathered.entries k t;
      waiting = subst (λ x. AreEntries s es' x (h.2 ++ n ∷ [])) (sym old.keys)
          (more_entries s old.gathered.entries old.before h.2 k old.key t n old.gathered.waiting old.text i);
    } in
    let here : HoldsIn s (record { places = w.places; keys = w.keys; values = w.values ++ n ∷ [] }) (at_key (put k t ms) ∷ fs)
    = (h.0, h.1, h.2 ++ n ∷ [], more_values w h.0 h.1 h.2 n h.3, new, h.5) in
    subst (λ x. HoldsIn x (waiting_in a) (at_key (put k t ms) ∷ fs)) (sym es) (subst (λ x. HoldsIn s x (at_key (put k t ms) ∷ fs))
    (sym ew) here)

-- the node that was pushed stands for the tree
pub puts : (a b : Arena) (fs : List Open) (t : Tree) (n : Cell) → Holds a fs → Grows a.store b.store → Is b.store t n
    → b.open.items ≡ a.open.items → b.keys.items ≡ a.keys.items → b.values.items ≡ a.values.items ++ n ∷ [] → Puts Holds IsTree fs t b
puts a b fs t n h g i o k v =
    puts_in b.store (waiting_in a) fs t n b (holds_still a.store b.store (waiting_in a) fs g h) i refl
    (λ x. record { places = o x; keys = k x; values = v x })

pub puts_kept : (a b : Arena) (fs : List Open) (t : Tree) (n : Cell) → Holds a fs → b.store ≡ a.store → Is b.store t n
    → b.open.items ≡ a.open.items → b.keys.items ≡ a.keys.items → b.values.items ≡ a.values.items ++ n ∷ [] → Puts Holds IsTree fs t b
puts_kept a b fs t n h e i o k v = puts a b fs t n h (subst (λ x. Grows a.store x) (sym e) (grows_none a.store)) i o k v

-- ---- the innermost container is closed

-- what the innermost container has, and what the others have
pub record Innermost (w outer : Waiting) (ks : List Span) (vs : List Cell) (place : Place) (places : List Place) : Type 0 where
  pub others : outer.places ≡ places
  pub own_keys : drop place.keys w.keys ≡ ks
  pub own_values : drop place.values w.values ≡ vs
  pub outer_keys : take place.keys w.keys ≡ outer.keys
  pub outer_values : take place.values w.values ≡ outer.values

at_place : {A : Type 0} (xs front back : List A) (n m : ℕ) → xs ≡ front ++ back → m ≡ length front → m ≡ n
    → (drop n xs ≡ back) × (take n xs ≡ front)
at_place xs front back n m e l h =
    let k : length front ≡ n = sym l ∙ h in
    (ap (drop n) e ∙ drop_at front back n k, ap (take n) e ∙ take_at front back n k)

pub innermost : (w outer : Waiting) (ks : List Span) (vs : List Cell) (place : Place) (places : List Place) → Splits w outer ks vs
    → w.places ≡ places ++ place ∷ []
    → Innermost w outer ks vs place places
innermost w outer ks vs place places h e =
    let same = same_from_push outer.places places h.place place (sym h.places ∙ e) in
    let k = at_place w.keys outer.keys ks place.keys h.place.keys h.keys h.first_key (ap (λ p. p.keys) same.1) in
    let v = at_place w.values outer.values vs place.values h.place.values h.values h.first_value (ap (λ p. p.values) same.1) in
    record { others = same.0; own_keys = k.0; own_values = v.0; outer_keys = k.1; outer_values = v.1 }

-- an array is closed: what it had waits no more, and its items are in the store
pub closes_array : (a b : Arena) (ts : List Tree) (fs : List Open) (p : Span) (place : Place) (places : List Place)
    (ns kept : List Cell)
    → Holds a (in_array ts ∷ fs) → a.open.items ≡ places ++ place ∷ [] → ns ≡ drop place.values a.values.items
    → kept ≡ take place.values a.values.items
    → Grows a.store b.store → IsRun b.store.items.items p ns
    → b.open.items ≡ places → b.keys.items ≡ a.keys.items → b.values.items ≡ kept ++ node.Array p ∷ []
    → Puts Holds IsTree fs (array (items_of ts)) b
closes_array a b ts fs p place places ns kept h o e ekept g run eo ek ev =
    let inner = innermost (waiting_in a) h.0 h.1 h.2 place places h.3 o in
    let own : ns ≡ h.2 = e ∙ inner.own_values in
    let none : a.keys.items ≡ h.0.keys = h.3.keys ∙ ap (λ x. h.0.keys ++ x) h.4.0 ∙ append-nil h.0.keys in
    puts_in b.store h.0 fs (array (items_of ts)) (node.Array p) b (holds_still a.store b.store h.0 fs g h.5)
    (p, refl, h.2, subst (IsRun b.store.items.items p) own run, are_still a.store b.store (items_of ts) h.2 g h.4.1) refl
    (λ x. record {
      places = (eo ∙ sym inner.others) x;
      keys = (ek ∙ none) x;
      values = (ev ∙ ap (λ z. z ++ node.Array p ∷ []) (ekept
          ∙ inner.outer_values)) x;
    })

-- an object is closed: its members are in the store, in order
pub closes_object : (a b : Arena) (ms : Members) (fs : List Open) (p : Span) (place : Place) (places : List Place)
    (ks keys : List Span) (vs values : List Cell) (ns : List Member)
    → Holds a (at_key ms ∷ fs) → a.open.items ≡ places ++ place ∷ []
    → ks ≡ drop place.keys a.keys.items → keys ≡ take place.keys a.keys.items
    → vs ≡ drop place.values a.values.items → values ≡ take place.values a.values.items
    → IsPermutation (paired ks vs) ns → IsSortedBy (key_lt a.store.texts) ns
    → IsStableBy (key_lt a.store.texts) (paired ks vs) ns
    → Grows a.store b.store → IsRun b.store.members.items p (lasts a.store.texts ns)
    → b.open.items ≡ places → b.keys.items ≡ keys → b.values.items ≡ values ++ node.Object p ∷ []
    → Puts Holds IsTree fs (object ms) b
closes_object a b ms fs p place places ks keys vs values ns h o dk tk dv tv permuted sorted stable g run eo ek ev =
    let inner = innermost (waiting_in a) h.0 h.1 h.2 place places h.3 o in
    let waiting : AreEntries a.store h.4.entries ks vs =
    subst (λ z. AreEntries a.store h.4.entries z vs) (sym (dk
    ∙ inner.own_keys)) (subst (AreEntries a.store h.4.entries h.1) (sym (dv ∙ inner.own_values)) h.4.waiting) in
    let are = members_still a.store b.store (put_all no_members h.4.entries) (lasts a.store.texts ns) g
    (gathered a.store h.4.entries ks vs ns waiting permuted sorted stable) in
    puts_in b.store h.0 fs (object ms) (node.Object p) b (holds_still a.store b.store h.0 fs g h.5) (
      p,
      refl,
      lasts a.store.texts ns,
      run,
      subst (λ z. AreMembers b.store z (lasts a.store.texts ns))
          (sym h.4.members) are,
    ) refl
    (λ x. record {
      places = (eo ∙ sym inner.others) x;
      keys = (ek ∙ tk ∙ inner.outer_keys) x;
      values = (ev
          ∙ ap (λ z. z ++ node.Object p ∷ []) (tv ∙ inner.outer_values)) x;
    })

-- a key comes
pub awaits_value : (a b : Arena) (ms : Members) (fs : List Open) (k : List ℕ) (p : Span) → Holds a (at_key ms ∷ fs)
    → Grows a.store b.store → IsText b.store k p
    → b.open.items ≡ a.open.items → b.keys.items ≡ a.keys.items ++ p ∷ [] → b.values.items ≡ a.values.items
    → Holds b (at_value ms k ∷ fs)
awaits_value a b ms fs k p h g text eo ek ev =
    let split : Splits (waiting_in b) h.0 (h.1 ++ p ∷ []) h.2 = record {
      place = h.3.place;
      places = eo ∙ h.3.places;
      keys = ek ∙ ap (λ z. z ++ p ∷ []) h.3.keys ∙ append_assoc h.0.keys h.1 (p ∷ []);
      values = ev ∙ h.3.values;
      first_key = h.3.first_key;
      first_value = h.3.first_value;
    } in (
      h.0,
      h.1 ++ p ∷ [],
      h.2,
      split,
      record {
        before = h.1;
        key = p;
        keys = refl;
        text = text;
        gathered =
            gathers_still a.store b.store ms h.1 h.2 g h.4;
      },
      holds_still a.store b.store h.0 fs g h.5,
    )

-- the text that the arena is over stays
pub puts_over : (s a : Arena) (os : List Open) (t : Tree) → Puts Holds IsTree os t a → IsOver s a
    → Puts (HoldsOver s) (IsTreeOver s) os t a
puts_over s a [] t h o = (h, o)
puts_over s a (in_array ts ∷ os) t h o = (h, o)
puts_over s a (at_key ms ∷ os) t h o = tt
puts_over s a (at_value ms k ∷ os) t h o = (h, o)

-- what was built over a text that is kept
same_list : {A : Type 0} (xs ys : List A) → xs ≡ ys → Extends xs ys
same_list xs ys e = ([], sym e ∙ sym (append-nil xs))

pub built_over : (b : Built) (bytes : List ℕ) (s : Store) (t : Tree) → IsBuilt bytes b t → source_bytes s.texts.source ≡ bytes
    → s.texts.added.items ≡ b.store.texts.added.items → s.kept.items ≡ b.store.kept.items → s.items.items ≡ b.store.items.items
    → s.members.items ≡ b.store.members.items → Is s t b.root
built_over b bytes s t h source added kept items members = is_still h.store s t b.root (record {
  texts = record {
    source = h.text ∙ sym source;
    more = [];
    added = added ∙ sym h.added ∙ sym (append-nil h.store.texts.added.items);
  };
  kept = same_list _ _ (h.kept ∙ sym kept);
  items = same_list _ _ (h.items ∙ sym items);
  members = same_list _ _ (h.members ∙ sym members);
}) h.is
