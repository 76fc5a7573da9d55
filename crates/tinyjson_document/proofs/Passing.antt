-- Values that hold no others, written one after the other.
use Rattle.std.proofs.Common.{◌≡◌, ℕ, ◌+◌, ◌≤◌, Bool, false, not, ◌&&◌, nat_eq, Option, Result, List, [], ◌∷◌, ◌++◌}
use Rattle.std.proofs.Common.{length, reverse, refl, sym, ap, subst, arith, ◌∙◌, append_assoc}
use Rattle.std.proofs.lemmas.Bool.Decides.{nat_tests}
use Rattle.std.specs.Borrow.{Bor}
use Rattle.std.specs.List.{sum_by}
use Rattle.std.proofs.lemmas.List.Sums.{sum_by-cons}
use Rattle.std.proofs.lemmas.Str.{encodes-append}
use Rattle.tinyjson_grammar.specs.Tree.{Tree, Items, Members}
use Rattle.tinyjson_grammar.specs.Text.{text, items_text, members_text, quoted, before, after_colon, has_no_items, has_no_members, closing}
use Rattle.tinyjson.specs.Indent.{indent_of}
use Rattle.tinyjson_output.specs.Buffer.{Output, Sent, SentPart, SendsFrom}
use Rattle.tinyjson_output.proofs.Callers.{enc, sent_goes as goes, sent_stops as stops}
use Rattle.tinyjson_output.proofs.Callers.{sent_written_none as written_none, sent_written_then as written_then}
use Rattle.tinyjson_output.proofs.Callers.{sent_stops_then as stops_then}
use Rattle.tinyjson_cells.specs.Cell.{Are, AreMembers}
use Rattle.tinyjson_document.specs.Walking.{holds_others, AreLeft, Advanced, AdvancesFrom, cost}
use Rattle.tinyjson_cells.specs.declared.store.Span.{Span}
use Rattle.tinyjson_cells.specs.declared.store.Cell.{Cell}
use Rattle.tinyjson_cells.specs.declared.store.Cell.TheVariants as node
use Rattle.tinyjson_cells.specs.declared.store.Member.{Member}
use Rattle.tinyjson_cells.specs.declared.store.Store.{Store}
use Rattle.tinyjson_document.specs.declared.walk.Rest.{Rest}
use Rattle.tinyjson_document.proofs.Writing.{Seen, empty_array, empty_object, NextItem, NextMember, left_moved, then_advances}

-- ---- an empty container

pub same_places : (a b : ℕ) → not (nat_eq a b) ≡ false → a ≡ b
same_places a b h = grind (arith, nat_tests)

pub leaf_array : {T E : Type 0} (w : Option (List ℕ)) (s : Store) (old new : Output) (k : ℕ) (t : Tree) (p : Span) (r : Result T E)
    → holds_others (node.Array p) ≡ false → Seen s (node.Array p) t → SendsFrom old new (91 ∷ 93 ∷ []) r
    → SendsFrom old new (enc (text w k t)) r
leaf_array w s old new k t p r e v h =
    subst (λ z. SendsFrom old new z r) (sym (empty_array w s k t p (same_places p.from p.to e) v)) h

pub leaf_object : {T E : Type 0} (w : Option (List ℕ)) (s : Store) (old new : Output) (k : ℕ) (t : Tree) (p : Span) (r : Result T E)
    → holds_others (node.Object p) ≡ false → Seen s (node.Object p) t → SendsFrom old new (123 ∷ 125 ∷ []) r
    → SendsFrom old new (enc (text w k t)) r
leaf_object w s old new k t p r e v h =
    subst (λ z. SendsFrom old new z r) (sym (empty_object w s k t p (same_places p.from p.to e) v)) h

-- ---- an item and a member

four : (a b c d : List ℕ) → a ++ (b ++ (c ++ d)) ≡ ((a ++ b) ++ c) ++ d
four a b c d = simp append_assoc

module _ (w : Option (List ℕ)) (s : Store) where
  -- what is left of an array, and of the containers around it
  abbrev pub ItemsLeft : List Cell → Bool → List Rest → List ℕ → Type 0
  ItemsLeft ns first rs xs =
      (own : List ℕ) × (outer : List ℕ) × (xs ≡ own ++ outer)
      × ((ts : Items) × Are s ts ns × (own ≡ items_text w (length rs + 1) first ts ++ closing w (length rs) (first && has_no_items ts) 93))
      × AreLeft w s rs outer

  -- all is sent but that
  pub record ItemsPassed (old new : Output) (xs : List ℕ) (ns : List Cell) (first : Bool) (rs : List Rest) : Type 0 where
    pub left : List ℕ
    pub are_left : ItemsLeft ns first rs left
    pub sent : Sent old new (enc xs) (enc left)

  abbrev pub MembersLeft : List Member → Bool → List Rest → List ℕ → Type 0
  MembersLeft es first rs xs =
      (own : List ℕ) × (outer : List ℕ) × (xs ≡ own ++ outer)
      × ((ms : Members) × AreMembers s ms es
      × (own ≡ members_text w (length rs + 1) first ms ++ closing w (length rs) (first && has_no_members ms) 125)) × AreLeft w s rs outer

  pub record MembersPassed (old new : Output) (xs : List ℕ) (es : List Member) (first : Bool) (rs : List Rest) : Type 0 where
    pub left : List ℕ
    pub are_left : MembersLeft es first rs left
    pub sent : Sent old new (enc xs) (enc left)

  -- the pieces of the first item, and what is left after it
  item_cut : (n : Cell) (ns : List Cell) (first : Bool) (rs : List Rest) (k : ℕ) (ys : List ℕ) (x : NextItem w s n ns first rs k ys)
      → enc ys ≡ (enc (before w k first) ++ enc (text w k x.tree)) ++ enc (x.own ++ x.outer)
  item_cut n ns first rs k ys x =
      x.split ∙ ap (λ z. enc (before w k first) ++ z) (encodes-append (text w k x.tree) (x.own ++ x.outer))
      ∙ sym (append_assoc (enc (before w k first)) (enc (text w k x.tree)) (enc (x.own ++ x.outer)))

  member_cut : (m : Member) (es : List Member) (first : Bool) (rs : List Rest) (k : ℕ) (ys : List ℕ)
      (x : NextMember w s m es first rs k ys)
      → enc ys ≡ ((enc (before w k first) ++ enc (quoted x.key ++ (58 ∷ after_colon w))) ++ enc (text w k x.tree))
      ++ enc (x.own ++ x.outer)
  member_cut m es first rs k ys x =
      x.split ∙ ap (λ z. enc (before w k first) ++ (enc (quoted x.key ++ (58 ∷ after_colon w)) ++ z))
      (encodes-append (text w k x.tree) (x.own ++ x.outer))
      ∙ four (enc (before w k first)) (enc (quoted x.key ++ (58 ∷ after_colon w))) (enc (text w k x.tree)) (enc (x.own ++ x.outer))

  module _ {old mid new : Output} (xs : List ℕ) where
    pub item_fails : (n : Cell) (ns all : List Cell) (first : Bool) (rs : List Rest) (k : ℕ) (p : ItemsPassed old mid xs all first rs)
        (x : NextItem w s n ns first rs k p.left) → SentPart mid new (enc (before w k first) ++ enc (text w k x.tree))
        → SentPart old new (enc xs)
    item_fails n ns all first rs k p x h = stops_then (enc p.left) p.sent
        (stops (enc (x.own ++ x.outer)) h (written_none _ _ _ (item_cut n ns first rs k p.left x)))

    pub item_passed : (n : Cell) (ns all : List Cell) (first : Bool) (rs : List Rest) (k : ℕ) (p : ItemsPassed old mid xs all first rs)
        (x : NextItem w s n ns first rs k p.left) → Sent mid new (enc (before w k first) ++ enc (text w k x.tree)) []
        → ItemsPassed old new xs ns false rs
    item_passed n ns all first rs k p x h =
        let rest = x.own ++ x.outer in
        record {
          left = rest;
          are_left = (x.own, x.outer, refl, x.rest, x.left);
          sent = written_then (enc p.left) (enc rest) p.sent
              (goes (enc rest) h (written_none _ _ _ (item_cut n ns first rs k p.left x)));
        }

    pub member_fails : (m : Member) (es all : List Member) (first : Bool) (rs : List Rest) (k : ℕ)
        (p : MembersPassed old mid xs all first rs) (x : NextMember w s m es first rs k p.left)
        → SentPart mid new ((enc (before w k first) ++ enc (quoted x.key ++ (58 ∷ after_colon w))) ++ enc (text w k x.tree))
        → SentPart old new (enc xs)
    member_fails m es all first rs k p x h = stops_then (enc p.left) p.sent
        (stops (enc (x.own ++ x.outer)) h (written_none _ _ _ (member_cut m es first rs k p.left x)))

    pub member_passed : (m : Member) (es all : List Member) (first : Bool) (rs : List Rest) (k : ℕ)
        (p : MembersPassed old mid xs all first rs) (x : NextMember w s m es first rs k p.left)
        → Sent mid new ((enc (before w k first) ++ enc (quoted x.key ++ (58 ∷ after_colon w))) ++ enc (text w k x.tree)) []
        → MembersPassed old new xs es false rs
    member_passed m es all first rs k p x h =
        let rest = x.own ++ x.outer in
        record {
          left = rest;
          are_left = (x.own, x.outer, refl, x.rest, x.left);
          sent = written_then (enc p.left) (enc rest) p.sent
              (goes (enc rest) h (written_none _ _ _ (member_cut m es first rs k p.left x)));
        }

-- ---- one value less

pub fewer_items : (s : Store) (n : Cell) (ns rest all : List Cell) → rest ≡ n ∷ ns
    → ((f : ℕ) → sum_by (cost s f) rest ≤ sum_by (cost s f) all) → (f : ℕ) → sum_by (cost s f) ns ≤ sum_by (cost s f) all
fewer_items s n ns rest all e h f =
    let parts : sum_by (cost s f) rest ≡ cost s f n + sum_by (cost s f) ns = ap (sum_by (cost s f)) e ∙ sum_by-cons (cost s f) n ns in
    omega (arith, h f, parts)

pub fewer_members : (s : Store) (m : Member) (es rest all : List Member) → rest ≡ m ∷ es
    → ((f : ℕ) → sum_by (λ e. cost s f e.value) rest ≤ sum_by (λ e. cost s f e.value) all)
    → (f : ℕ) → sum_by (λ e. cost s f e.value) es ≤ sum_by (λ e. cost s f e.value) all
fewer_members s m es rest all e h f =
    let parts : sum_by (λ (x : Member). cost s f x.value) rest ≡ cost s f m.value + sum_by (λ (x : Member). cost s f x.value) es
    = ap (sum_by (λ (x : Member). cost s f x.value)) e ∙ sum_by-cons (λ (x : Member). cost s f x.value) m es in
    omega (arith, h f, parts)

-- ---- what was passed, and then the rest

pub then_resumes : {T E : Type 0} (i j : Option (Bor (List ℕ))) (a b : Bor Store) (old mid new : Output) (xs : List ℕ) (r x : Rest)
    (stack now later : List Rest) (result : Result T E)
    → j ≡ i → b ≡ a → now ≡ stack → r ≡ x → Advanced (indent_of i) a.now old mid xs (r ∷ reverse stack)
    → ((ys : List ℕ) → AreLeft (indent_of j) b.now (x ∷ reverse now) ys → AdvancesFrom (indent_of j) b.now mid new ys later result)
    → AdvancesFrom (indent_of i) a.now old new xs later result
then_resumes i j a b old mid new xs r x stack now later result ei eb es er p f =
    let here = subst (λ z. AreLeft (indent_of i) a.now (z ∷ reverse stack) p.left) er p.are_left in
    let there = left_moved i j a b (x ∷ reverse now) p.left (sym ei) (sym eb)
    (subst (λ z. AreLeft (indent_of i) a.now (x ∷ reverse z) p.left) (sym es) here) in
    then_advances (indent_of i) a.now old mid new xs p.left later result
    (subst (λ k. AdvancesFrom (indent_of k) a.now mid new p.left later result) ei
    (subst (λ c. AdvancesFrom (indent_of j) c.now mid new p.left later result) eb (f p.left there))) p.sent
