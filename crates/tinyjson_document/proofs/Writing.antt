-- What a walk writes, piece by piece.
use Rattle.std.proofs.Common.{◌≡◌, ℕ, zero, suc, ◌+◌, ◌-◌, ◌<◌, ◌≤◌, Bool, true, false, ◌&&◌}
use Rattle.std.proofs.Common.{Option, Some, Result, Ok, Err, OnOk, cond, inl, inr, slice_get}
use Rattle.std.proofs.Common.{
  List,
  [],
  ◌∷◌,
  ◌++◌,
  length,
  reverse,
  refl,
  sym,
  ◌∙◌,
  ap,
  subst,
  append_assoc,
  append-nil,
  length-append,
  arith,
}
use Rattle.std.specs.Borrow.{Bor}
use Rattle.std.specs.List.{sum_by}
use Rattle.std.proofs.lemmas.List.{reverse-append, length-reverse}
use Rattle.std.proofs.lemmas.List.Sums.{sum_by-cons}
use Rattle.std.proofs.lemmas.Str.{encodes-append}
use Rattle.tinyjson_grammar.specs.Tree.{Tree, null, boolean, number, string, array, object}
use Rattle.tinyjson_grammar.specs.Tree.{Items, no_items, item, Members, no_members, member}
use Rattle.tinyjson.specs.Indent.{indent_of}
use Rattle.tinyjson_grammar.specs.Text.{text, items_text, members_text, quoted, before, after_colon, has_no_items, has_no_members, closing}
use Rattle.tinyjson_output.specs.Buffer.{Output, Sent, SentPart, Sends, SendsFrom, SendsText}
use Rattle.tinyjson_output.specs.declared.buffer.Buffer.{Buffer}
use Rattle.tinyjson_output.specs.Written.{WrittenPart, WritesPrefix}
use Rattle.tinyjson_output.proofs.Callers.{begins, sent_begins, sent_flushes as flushes, stops as part_stops}
use Rattle.tinyjson_output.proofs.Callers.{closed, enc, three, two_bytes, sent_goes as goes, sent_stops as stops, sent_stop as stop}
use Rattle.tinyjson_output.proofs.Callers.{
  sent_written_none as written_none,
  sent_written_then as written_then,
  sent_stops_then as stops_then,
}
use Rattle.tinyjson_cells.specs.Cell.{IsKeptAt, IsShort, Is, Are, AreMembers, IsBytes}
use Rattle.tinyjson_cells.specs.Order.{part}
use Rattle.tinyjson_document.specs.Walking.{head, IsRest, AreLeft, Advanced, AdvancesFrom, cost, rest_cost, left_cost}
use Rattle.tinyjson_cells.specs.declared.store.Span.{Span}
use Rattle.tinyjson_cells.specs.declared.store.Cell.{Cell}
use Rattle.tinyjson_cells.specs.declared.store.Cell.TheVariants as node
use Rattle.tinyjson_cells.specs.declared.store.Member.{Member}
use Rattle.tinyjson_cells.specs.declared.store.Store.{Store}
use Rattle.tinyjson_cells.specs.Texts.{part_of}
use Rattle.tinyjson_document.specs.declared.walk.Rest.{Rest}
use Rattle.tinyjson_document.specs.declared.walk.Rest.TheVariants as rest
use Rattle.tinyjson_cells.proofs.Callers.{part_empty, run_part, text_part}

-- ---- which trees a node may stand for

abbrev pub Seen : Store → Cell → Tree → Type 0
Seen s node.Null t = t ≡ null
Seen s (node.Boolean b) t = t ≡ boolean b
Seen s (node.Short p) t = (d : _) × (t ≡ number d) × IsShort s d p
Seen s (node.Kept i) t = (d : _) × (t ≡ number d) × IsKeptAt s d i
Seen s (node.String p) t = (cs : List ℕ) × (t ≡ string cs) × IsBytes cs (part_of s.texts p)
Seen s (node.Array p) t = (ts : Items) × (t ≡ array ts) × Are s ts (part s.items.items p)
Seen s (node.Object p) t = (ms : Members) × (t ≡ object ms) × AreMembers s ms (part s.members.items p)

pub seen : (s : Store) (t : Tree) (n : Cell) → Is s t n → Seen s n t
seen s null n h = subst (λ m. Seen s m null) (sym h) refl
seen s (boolean b) n h = subst (λ m. Seen s m (boolean b)) (sym h) refl
seen s (number d) n (inl h) = subst (λ m. Seen s m (number d)) (sym h.1) (d, refl, h.2)
seen s (number d) n (inr h) = subst (λ m. Seen s m (number d)) (sym h.1) (d, refl, h.2)
seen s (string cs) n h = subst (λ m. Seen s m (string cs)) (sym h.1) (cs, refl, text_part s cs h.0 h.2)
seen s (array ts) n h =
    subst (λ m. Seen s m (array ts)) (sym h.1) (ts, refl, subst (Are s ts) (sym (run_part s.items.items h.0 h.2 h.3)) h.4)
seen s (object ms) n h =
    subst (λ m. Seen s m (object ms)) (sym h.1) (ms, refl, subst (AreMembers s ms) (sym (run_part s.members.items h.0 h.2 h.3)) h.4)

-- the head of a tree that is known
pub head_sent : {W E : Type 0} (contents : W → Option (List ℕ)) (v w : W) (a b : Buffer) (bs : List ℕ) (t u : Tree) (r : Result (Unit {0}) E)
    → t ≡ u → enc (head u) ≡ bs → Sends contents v w a b bs r → SendsText contents v w a b (head t) r
head_sent contents v w a b bs t u r e f h = subst (λ z. Sends contents v w a b z r) (sym (ap (λ z. enc (head z)) e ∙ f)) h

no_items_there : (s : Store) (ts : Items) → Are s ts [] → ts ≡ no_items
no_items_there s no_items h = refl
no_items_there s (item t ts) h = absurd h

no_members_there : (s : Store) (ms : Members) → AreMembers s ms [] → ms ≡ no_members
no_members_there s no_members h = refl
no_members_there s (member k t ms) h = absurd h

-- ---- a text and its head

cut : (t h ys xs : List ℕ) → t ≡ h ++ ys → enc (t ++ xs) ≡ enc h ++ enc (ys ++ xs)
cut t h ys xs e = ap (λ z. enc (z ++ xs)) e ∙ ap enc (append_assoc h ys xs) ∙ encodes-append h (ys ++ xs)

module _ (w : Option (List ℕ)) where
  head_begins : (k : ℕ) (t : Tree) → (ys : List ℕ) × (text w k t ≡ head t ++ ys)
  head_begins k null = ([], sym (append-nil (head null)))
  head_begins k (boolean b) = ([], sym (append-nil (head (boolean b))))
  head_begins k (number d) = ([], sym (append-nil (head (number d))))
  head_begins k (string cs) = ([], sym (append-nil (head (string cs))))
  head_begins k (array ts) = (_, refl)
  head_begins k (object ms) = (_, refl)

  -- ---- a value is begun

  pub begin_fails : {old new : Output} (k : ℕ) (t : Tree) (xs : List ℕ) → SentPart old new (enc (head t))
      → SentPart old new (enc (text w k t ++ xs))
  begin_fails {old} k t xs h =
      let b = head_begins k t in stops {piece = enc (head t)} (enc (b.0 ++ xs)) h (written_none old _ _ (cut _ (head t) b.0 xs b.1))

  pub begin_stops : {old new : Output} (k : ℕ) (t : Tree) (xs : List ℕ) → Sent old new (enc (head t)) []
      → SentPart old new (enc (text w k t ++ xs))
  begin_stops {old} k t xs h =
      let b = head_begins k t in stop (goes {piece = enc (head t)} (enc (b.0 ++ xs)) h (written_none old _ _ (cut _ (head t) b.0 xs b.1)))

  pub begin_opens : (s : Store) (old new : Output) (k : ℕ) (t : Tree) (xs ys : List ℕ) (r : Rest) (opened now : List Rest)
      → length opened ≡ k → Sent old new (enc (head t)) [] → text w k t ≡ head t ++ ys → IsRest w k s r ys
      → AreLeft w s (reverse opened) xs → now ≡ opened ++ r ∷ [] → Advanced w s old new (text w k t ++ xs) (reverse now)
  begin_opens s old new k t xs ys r opened now d h e i l n =
      let last : reverse now ≡ r ∷ reverse opened = ap reverse n ∙ reverse-append opened (r ∷ []) in
      let here = subst (λ m. IsRest w m s r ys) (sym (length-reverse opened ∙ d)) i in
      subst (Advanced w s old new (text w k t ++ xs)) (sym last) (record {
        left = ys ++ xs;
        are_left = (ys, xs, refl, here, l);
        sent = goes {piece = enc (head t)} (enc (ys ++ xs)) h (written_none old _ _ (cut _ (head t) ys xs e));
      })

  pub begin_ends : (s : Store) (old new : Output) (k : ℕ) (t : Tree) (xs : List ℕ) (rs : List Rest)
      → Sent old new (enc (head t)) [] → text w k t ≡ head t → AreLeft w s rs xs → Advanced w s old new (text w k t ++ xs) rs
  begin_ends s old new k t xs rs h e l = record {
    left = xs;
    are_left = l;
    sent = goes {piece = enc (head t)} (enc xs) h (written_none old _ _ (ap (λ z. enc (z ++ xs)) e ∙ encodes-append (head t) xs));
  }

  -- a value of which all is written
  pub begin_whole : {T E : Type 0} (s : Store) (old new : Output) (k : ℕ) (t : Tree) (xs b : List ℕ) (rs : List Rest) (r : Result T E)
      → enc (text w k t) ≡ b → AreLeft w s rs xs → SendsFrom old new b r → AdvancesFrom w s old new (text w k t ++ xs) rs r
  begin_whole s old new k t xs b rs r e l h = by r h
    where
      split : enc (text w k t ++ xs) ≡ b ++ enc xs
      split = encodes-append (text w k t) xs ∙ ap (λ z. z ++ enc xs) e

      by : {T E : Type 0} (r : Result T E) → SendsFrom old new b r → AdvancesFrom w s old new (text w k t ++ xs) rs r
      by (Ok x) h = record { left = xs; are_left = l; sent = goes {piece = b} (enc xs) h (written_none old _ _ split) }
      by (Err x) h = stops {piece = b} (enc xs) h (written_none old _ _ split)

  pub empty_array : (s : Store) (k : ℕ) (t : Tree) (p : Span) → p.from ≡ p.to → Seen s (node.Array p) t
      → enc (text w k t) ≡ 91 ∷ 93 ∷ []
  empty_array s k t p e v = ap (λ z. enc (text w k z)) v.1 ∙ ap (λ z. enc (text w k (array z)))
      (no_items_there s v.0 (subst (Are s v.0) (part_empty s.items.items p e) v.2)) ∙ two_bytes 91 93 (omega arith) (omega arith)

  pub empty_object : (s : Store) (k : ℕ) (t : Tree) (p : Span) → p.from ≡ p.to → Seen s (node.Object p) t
      → enc (text w k t) ≡ 123 ∷ 125 ∷ []
  empty_object s k t p e v = ap (λ z. enc (text w k z)) v.1 ∙ ap (λ z. enc (text w k (object z)))
      (no_members_there s v.0 (subst (AreMembers s v.0) (part_empty s.members.items p e) v.2))
      ∙ two_bytes 123 125 (omega arith) (omega arith)

  -- ---- what is left after an opening bracket

  pub array_rest : (s : Store) (p : Span) (ns : List Cell) (k : ℕ) (t : Tree) → ns ≡ part s.items.items p → Seen s (node.Array p) t
      → (xs : List ℕ) × ((ts : Items) × Are s ts ns × (xs ≡ items_text w (k + 1) true ts ++ closing w k (true && has_no_items ts) 93))
      × (text w k t ≡ head t ++ xs)
  array_rest s p ns k t e v =
      let xs = items_text w (k + 1) true v.0 ++ closing w k (has_no_items v.0) 93 in
      (xs, (v.0, subst (Are s v.0) (sym e) v.2, refl), subst (λ z. text w k z ≡ head z ++ xs) (sym v.1) refl)

  pub object_rest : (s : Store) (p : Span) (es : List Member) (k : ℕ) (t : Tree) → es ≡ part s.members.items p
      → Seen s (node.Object p) t
      → (xs : List ℕ)
      × ((ms : Members) × AreMembers s ms es × (xs ≡ members_text w (k + 1) true ms ++ closing w k (true && has_no_members ms) 125))
      × (text w k t ≡ head t ++ xs)
  object_rest s p es k t e v =
      let xs = members_text w (k + 1) true v.0 ++ closing w k (has_no_members v.0) 125 in
      (xs, (v.0, subst (AreMembers s v.0) (sym e) v.2, refl), subst (λ z. text w k z ≡ head z ++ xs) (sym v.1) refl)

-- ---- how many steps are left

cost_some : (s : Store) (f : ℕ) (n : Cell) → 0 < cost s f n
cost_some s zero n = omega arith
cost_some s (suc f) node.Null = omega arith
cost_some s (suc f) (node.Boolean b) = omega arith
cost_some s (suc f) (node.Short p) = omega arith
cost_some s (suc f) (node.Kept i) = omega arith
cost_some s (suc f) (node.String p) = omega arith
cost_some s (suc f) (node.Array p) = omega arith
cost_some s (suc f) (node.Object p) = omega arith

pub less_leaf : (s : Store) (f most : ℕ) (n : Cell) (rs : List Rest) → left_cost s most rs < cost s f n + left_cost s most rs
less_leaf s f most n rs = omega (arith, cost_some s f n)

pub less_open : (s : Store) (most : ℕ) (n : Cell) (opened now : List Rest) (r : Rest) → now ≡ opened ++ r ∷ [] → length now ≤ most
    → ((f : ℕ) → suc (rest_cost s f r) ≡ cost s (suc f) n)
    → left_cost s most (reverse now) < cost s (most - length opened) n + left_cost s most (reverse opened)
less_open s most n opened now r e room c =
    let last : reverse now ≡ r ∷ reverse opened = ap reverse e ∙ reverse-append opened (r ∷ []) in
    let long = ap length e ∙ length-append opened (r ∷ []) in
    let same : suc (length (reverse opened)) ≡ suc (length opened) = ap suc (length-reverse opened) in
    let fuel : most - length opened ≡ suc (most - suc (length (reverse opened))) = omega (arith, long, room, same) in
    let whole : left_cost s most (reverse now) ≡ rest_cost s (most - suc (length (reverse opened))) r + left_cost s most
    (reverse opened)
    = ap (left_cost s most) last in
    let now_cost = c (most - suc (length (reverse opened))) ∙ ap (λ f. cost s f n) (sym fuel) in
    omega (arith, whole, now_cost)

-- ---- what follows a first piece

pub ok_map : {T E : Type 0} {A B : Type 0} (r : Result T E) → (A → B) → OnOk r A → OnOk r B
ok_map (Ok x) f a = f a
ok_map (Err e) f a = a

and_true : (b : Bool) → (b && true) ≡ b
and_true true = refl
and_true false = refl

and_false : (b : Bool) → (b && false) ≡ false
and_false true = refl
and_false false = refl

first_item : (b t i c o : List ℕ) → ((b ++ (t ++ i)) ++ c) ++ o ≡ b ++ (t ++ ((i ++ c) ++ o))
first_item b t i c o = simp append_assoc

first_member : (b q a t m c o : List ℕ)
    → ((b ++ ((q ++ (58 ∷ (a ++ t))) ++ m)) ++ c) ++ o ≡ b ++ ((q ++ (58 ∷ a)) ++ (t ++ ((m ++ c) ++ o)))
first_member b q a t m c o = simp append_assoc

module _ (w : Option (List ℕ)) where
  pub then_advances : {T E : Type 0} (s : Store) (old mid new : Output) (xs ys : List ℕ) (rs : List Rest) (r : Result T E)
      → AdvancesFrom w s mid new ys rs r → Sent old mid (enc xs) (enc ys) → AdvancesFrom w s old new xs rs r
  then_advances s old mid new xs ys rs (Ok x) a h = record {
    left = a.left;
    are_left = a.are_left;
    sent =
        written_then (enc ys) (enc a.left) h a.sent;
  }
  then_advances s old mid new xs ys rs (Err e) a h = stops_then (enc ys) h a

  pub closes : {T E : Type 0} (s : Store) (old new : Output) (xs own outer cs : List ℕ) (b : ℕ) (rs : List Rest) (r : Result T E)
      → b < 128 → xs ≡ own ++ outer → own ≡ cs ++ b ∷ [] → AreLeft w s rs outer → SendsFrom old new (enc cs ++ b ∷ []) r
      → AdvancesFrom w s old new xs rs r
  closes s old new xs own outer cs b rs r low e o l h = by r h
    where
      split : enc xs ≡ (enc cs ++ b ∷ []) ++ enc outer
      split = ap enc e ∙ ap (λ z. enc (z ++ outer)) o ∙ encodes-append (cs ++ b ∷ []) outer ∙ ap (λ z. z ++ enc outer) (closed cs b low)

      by : {T E : Type 0} (r : Result T E) → SendsFrom old new (enc cs ++ b ∷ []) r → AdvancesFrom w s old new xs rs r
      by (Ok x) h = record { left = outer; are_left = l; sent = goes {piece = enc cs ++ b ∷ []} (enc outer) h (written_none old _ _ split) }
      by (Err x) h = stops {piece = enc cs ++ b ∷ []} (enc outer) h (written_none old _ _ split)

  -- the items that are left, at the level k, have a first one
  pub record NextItem (s : Store) (n : Cell) (ns : List Cell) (first : Bool) (rs : List Rest) (k : ℕ) (xs : List ℕ) : Type 0 where
    pub tree : Tree
    pub is : Is s tree n
    pub own : List ℕ
    pub outer : List ℕ
    pub rest : (ts : Items) × Are s ts ns
        × (own ≡ items_text w (length rs + 1) false ts ++ closing w (length rs) (false && has_no_items ts) 93)
    pub left : AreLeft w s rs outer
    pub split : enc xs ≡ enc (before w k first) ++ enc (text w k tree ++ (own ++ outer))

  pub next_item : (s : Store) (n : Cell) (ns all : List Cell) (first : Bool) (rs : List Rest) (k : ℕ) (xs : List ℕ)
      → length rs + 1 ≡ k → all ≡ n ∷ ns
      → (own : List ℕ) × (outer : List ℕ) × (xs ≡ own ++ outer)
      × ((ts : Items) × Are s ts all × (own ≡ items_text w (length rs + 1) first ts ++ closing w (length rs) (first && has_no_items ts) 93))
      × AreLeft w s rs outer
      → NextItem s n ns first rs k xs
  next_item s n ns all first rs k xs d e g = by g.3.0 (subst (Are s g.3.0) e g.3.1) g.3.2
    where
      by : (ts : Items) → Are s ts (n ∷ ns)
          → g.0 ≡ items_text w (length rs + 1) first ts ++ closing w (length rs) (first && has_no_items ts) 93
          → NextItem s n ns first rs k xs
      by no_items h o = absurd h
      by (item t ts) h o =
          let own = items_text w (length rs + 1) false ts ++ closing w (length rs) false 93 in
          record {
            tree = t;
            is = h.0;
            own = own;
            outer = g.1;
            rest = (ts, h.1, refl);
            left = g.4;
            split = ap enc (g.2 ∙ ap (λ z. z ++ g.1) (o
                ∙ ap (λ b. items_text w (length rs + 1) first (item t ts) ++ closing w (length rs) b 93) (and_false first))
                ∙ first_item (before w (length rs + 1) first) (text w (length rs + 1) t) (items_text w (length rs + 1) false ts)
                (closing w (length rs) false 93) g.1)
                ∙ encodes-append (before w (length rs + 1) first) (text w (length rs + 1) t ++ (own ++ g.1))
                ∙ ap (λ m. enc (before w m first) ++ enc (text w m t ++ (own ++ g.1))) d;
          }

  pub last_item : (s : Store) (all : List Cell) (k l : ℕ) (first : Bool) (ts : Items) → k ≡ l → length all ≡ 0 → Are s ts all
      → items_text w (k + 1) first ts ++ closing w k (first && has_no_items ts) 93 ≡ closing w l first 93
  last_item s [] k l first no_items d e h = ap (λ b. closing w k b 93) (and_true first) ∙ ap (λ m. closing w m first 93) d
  last_item s [] k l first (item t ts) d e h = absurd h
  last_item s (n ∷ ns) k l first ts d e h = absurd (omega (arith, e))

  pub record NextMember (s : Store) (m : Member) (es : List Member) (first : Bool) (rs : List Rest) (k : ℕ) (xs : List ℕ) : Type 0 where
    pub key : List ℕ
    pub is_key : IsBytes key (part_of s.texts m.key)
    pub tree : Tree
    pub is : Is s tree m.value
    pub own : List ℕ
    pub outer : List ℕ
    pub rest : (ms : Members) × AreMembers s ms es
        × (own ≡ members_text w (length rs + 1) false ms ++ closing w (length rs) (false && has_no_members ms) 125)
    pub left : AreLeft w s rs outer
    pub split : enc xs ≡ enc (before w k first) ++ (enc (quoted key ++ (58 ∷ after_colon w)) ++ enc (text w k tree ++ (own ++ outer)))

  pub next_member : (s : Store) (m : Member) (es all : List Member) (first : Bool) (rs : List Rest) (k : ℕ) (xs : List ℕ)
      → length rs + 1 ≡ k → all ≡ m ∷ es
      → (own : List ℕ) × (outer : List ℕ) × (xs ≡ own ++ outer)
      × ((ms : Members) × AreMembers s ms all
      × (own ≡ members_text w (length rs + 1) first ms ++ closing w (length rs) (first && has_no_members ms) 125)) × AreLeft w s rs outer
      → NextMember s m es first rs k xs
  next_member s m es all first rs k xs d e g = by g.3.0 (subst (AreMembers s g.3.0) e g.3.1) g.3.2
    where
      by : (ms : Members) → AreMembers s ms (m ∷ es)
          → g.0 ≡ members_text w (length rs + 1) first ms ++ closing w (length rs) (first && has_no_members ms) 125
          → NextMember s m es first rs k xs
      by no_members h o = absurd h
      by (member key t ms) h o =
          let own = members_text w (length rs + 1) false ms ++ closing w (length rs) false 125 in
          record {
            key = key;
            is_key = text_part s key m.key h.0;
            tree = t;
            is = h.1;
            own = own;
            outer = g.1;
            rest = (ms, h.2, refl);
            left = g.4;
            split = ap enc (g.2 ∙ ap (λ z. z ++ g.1) (o
                ∙ ap (λ b. members_text w (length rs + 1) first (member key t ms) ++ closing w (length rs) b 125) (and_false first))
                ∙ first_member (before w (length rs + 1) first) (quoted key) (after_colon w) (text w (length rs + 1) t)
                (members_text w (length rs + 1) false ms) (closing w (length rs) false 125) g.1)
                ∙ three (before w (length rs + 1) first) (quoted key ++ (58 ∷ after_colon w)) (text w (length rs + 1) t ++ (own ++ g.1))
                ∙ ap (λ n. enc (before w n first) ++ (enc (quoted key ++ (58 ∷ after_colon w)) ++ enc (text w n t ++ (own ++ g.1)))) d;
          }

  pub last_member : (s : Store) (all : List Member) (k l : ℕ) (first : Bool) (ms : Members) → k ≡ l → length all ≡ 0
      → AreMembers s ms all
      → members_text w (k + 1) first ms ++ closing w k (first && has_no_members ms) 125 ≡ closing w l first 125
  last_member s [] k l first no_members d e h = ap (λ b. closing w k b 125) (and_true first) ∙ ap (λ m. closing w m first 125) d
  last_member s [] k l first (member key t ms) d e h = absurd h
  last_member s (m ∷ es) k l first ms d e h = absurd (omega (arith, e))

-- ---- one step less

pub ok_always : {T E A : Type 0} (r : Result T E) → A → OnOk r A
ok_always (Ok x) a = a
ok_always (Err e) a = tt

pub less_close : (s : Store) (most : ℕ) (r : Rest) (rs : List Rest) → left_cost s most rs < left_cost s most (r ∷ rs)
less_close s most (rest.Items ns first) rs = omega arith
less_close s most (rest.Members es first) rs = omega arith

last_first : (stack pushed : List Rest) (r : Rest) → pushed ≡ stack ++ r ∷ [] → reverse pushed ≡ r ∷ reverse stack
last_first stack pushed r e = ap reverse e ∙ reverse-append stack (r ∷ [])

-- what is left after a container was put on the stack
pub left_pushed : (w : Option (List ℕ)) (s : Store) (stack pushed : List Rest) (r : Rest) (own outer : List ℕ)
    → pushed ≡ stack ++ r ∷ [] → IsRest w (length (reverse stack)) s r own → AreLeft w s (reverse stack) outer
    → AreLeft w s (reverse pushed) (own ++ outer)
left_pushed w s stack pushed r own outer e i l =
    subst (λ z. AreLeft w s z (own ++ outer)) (sym (last_first stack pushed r e)) (own, outer, refl, i, l)

pub less_item : (s : Store) (most now : ℕ) (n : Cell) (ns all : Bor (List Cell)) (first : Bool) (stack pushed : List Rest)
    → all.now ≡ n ∷ ns.now
    → pushed ≡ stack ++ rest.Items ns false ∷ [] → now < cost s (most - length pushed) n + left_cost s most (reverse pushed)
    → now < left_cost s most (rest.Items all first ∷ reverse stack)
less_item s most now n ns all first stack pushed a e h =
    let fuel = most - suc (length (reverse stack)) in
    let long = ap length e ∙ length-append stack (rest.Items ns false ∷ []) in
    let same : most - length pushed ≡ fuel = omega (arith, long, length-reverse stack) in
    let here : cost s (most - length pushed) n ≡ cost s fuel n = ap (λ f. cost s f n) same in
    let whole : left_cost s most (reverse pushed) ≡ suc (sum_by (cost s fuel) ns.now) + left_cost s most (reverse stack)
    = ap (left_cost s most) (last_first stack pushed (rest.Items ns false) e) in
    let parts : sum_by (cost s fuel) all.now ≡ cost s fuel n + sum_by (cost s fuel) ns.now = ap (sum_by (cost s fuel)) a
    ∙ sum_by-cons (cost s fuel) n ns.now in
    omega (arith, h, here, whole, parts)

pub less_member : (s : Store) (most now : ℕ) (m : Member) (es all : Bor (List Member)) (first : Bool) (stack pushed : List Rest)
    → all.now ≡ m ∷ es.now
    → pushed ≡ stack ++ rest.Members es false ∷ [] → now < cost s (most - length pushed) m.value + left_cost s most (reverse pushed)
    → now < left_cost s most (rest.Members all first ∷ reverse stack)
less_member s most now m es all first stack pushed a e h =
    let fuel = most - suc (length (reverse stack)) in
    let long = ap length e ∙ length-append stack (rest.Members es false ∷ []) in
    let same : most - length pushed ≡ fuel = omega (arith, long, length-reverse stack) in
    let here : cost s (most - length pushed) m.value ≡ cost s fuel m.value = ap (λ f. cost s f m.value) same in
    let whole : left_cost s most (reverse pushed) ≡ suc (sum_by (λ (x : Member). cost s fuel x.value) es.now) + left_cost s most
    (reverse stack)
    = ap (left_cost s most) (last_first stack pushed (rest.Members es false) e) in
    let parts : sum_by (λ (x : Member). cost s fuel x.value) all.now ≡ cost s fuel m.value + sum_by (λ
    (x : Member). cost s fuel x.value) es.now
    = ap (sum_by (λ (x : Member). cost s fuel x.value)) a ∙ sum_by-cons (λ (x : Member). cost s fuel x.value) m es.now in
    omega (arith, h, here, whole, parts)

-- ---- the whole text

pub root_is : (values xs : List Cell) (n m : Cell) → Some m ≡ slice_get xs 0 → xs ≡ values → values ≡ n ∷ [] → n ≡ m
root_is values xs n m a b c = let e : Some m ≡ Some n = a ∙ ap (λ z. slice_get z 0) (b ∙ c) in cc

-- one more level than open containers
pub one_more : (rs : List Rest) (l : ℕ) → l ≡ length rs → length (reverse rs) + 1 ≡ l + 1
one_more rs l e = ap (λ k. k + 1) (length-reverse rs ∙ sym e)

-- a closing bracket and what stands before it
pub closing_line : (is_empty : Bool) (n b : List ℕ) → is_empty ≡ false → enc (cond is_empty [] n) ++ b ≡ enc n ++ b
closing_line is_empty n b e = ap (λ z. enc (cond z [] n) ++ b) e

pub closing_alone : (is_empty : Bool) (n b : List ℕ) → is_empty ≡ true → enc (cond is_empty [] n) ++ b ≡ b
closing_alone is_empty n b e = ap (λ z. enc (cond z [] n) ++ b) e

-- the same walk, said of another borrow
pub left_moved : (i j : Option (Bor (List ℕ))) (a b : Bor Store) (rs : List Rest) (xs : List ℕ) → i ≡ j → a ≡ b
    → AreLeft (indent_of i) a.now rs xs → AreLeft (indent_of j) b.now rs xs
left_moved i j a b rs xs e d h = subst (λ k. AreLeft (indent_of k) b.now rs xs) e (subst (λ c. AreLeft (indent_of i) c.now rs xs) d h)

-- all that is written and the bytes behind it, with nothing buffered before
sent_whole : (a b : Option (List ℕ)) (p q xs behind : List ℕ) → p ≡ [] → Sent (a, p) (b, q) (enc (xs ++ [])) []
    → Sent (a, []) (b, q) (enc xs ++ behind) behind
sent_whole a b p q xs behind e h =
    goes {piece = enc xs} behind (subst (λ z. Sent (a, z) (b, q) (enc xs) []) e
    (subst (λ z. Sent (a, p) (b, q) (enc z) []) (append-nil xs) h)) sent_begins

pub flushed : {T E : Type 0} (a b c d : Option (List ℕ)) (p q s xs behind : List ℕ) (r : Result T E) → p ≡ []
    → Sent (a, p) (b, q) (enc (xs ++ [])) [] → Sent (b, q) (c, s) behind [] → WritesPrefix c d s r
    → WritesPrefix a d (enc xs ++ behind) r
flushed a b c d p q s xs behind r e h l k =
    flushes a c d s (enc xs ++ behind) r (written_then behind [] (sent_whole a b p q xs behind e h) l) k

-- or a part of the bytes behind it
pub behind_flushed : (a b c : Option (List ℕ)) (p q s xs behind : List ℕ) → p ≡ [] → Sent (a, p) (b, q) (enc (xs ++ [])) []
    → SentPart (b, q) (c, s) behind → WrittenPart a c (enc xs ++ behind)
behind_flushed a b c p q s xs behind e h k = (stops_then behind (sent_whole a b p q xs behind e h) k).part

-- or a part of what stands before them
pub part_flushed : (a b : Option (List ℕ)) (p q xs behind : List ℕ) → p ≡ [] → SentPart (a, p) (b, q) (enc (xs ++ []))
    → WrittenPart a b (enc xs ++ behind)
part_flushed a b p q xs behind e h =
    part_stops {piece = enc xs} behind (subst (λ z. SentPart (a, z) (b, q) (enc xs)) e
    (subst (λ z. SentPart (a, p) (b, q) (enc z)) (append-nil xs) h)).part begins
