-- The tree that a cell stands for: there is at most one.
use Rattle.std.specs.Prelude.{◌≡◌, ℕ, List, [], ◌∷◌, ◌++◌, length, take, drop}
use Rattle.std.proofs.Common.{Bool, true, false, inl, inr, true≢false, refl, sym, ◌∙◌, ap, subst, arith}
use Rattle.std.proofs.lemmas.List.{take_at, drop_at}
use mathlib.Core.HLevel.{Discrete, hedberg, is_prop→PathP}
use Rattle.tinyjson.specs.Equality.{tree_eq, tree_eq_Decides, items_eq, items_eq_Decides, members_eq, members_eq_Decides}
use Rattle.std.proofs.Math.Logic.{∥∥₁_elim}
use Rattle.tinyjson_number.specs.Decimal.{Decimal}
use Rattle.tinyjson_number.proofs.Callers.{one_decimal, text_is_number}
use Rattle.tinyjson_number.specs.Number.{decimal_eq, decimal_eq_Decides}
use Rattle.tinyjson_number.specs.NumberText.{IsNumberTextAt}
use Rattle.tinyjson_number.specs.Numeral.{power_width}
use Rattle.tinyjson_number.specs.Text.{decimal_text}
use Rattle.tinyjson_grammar.specs.Kind.{kind_of}
use Rattle.tinyjson_grammar.specs.declared.kind.JsonKind.{JsonKind}
use Rattle.tinyjson_grammar.specs.declared.kind.JsonKind.TheVariants as kind
use Rattle.tinyjson_grammar.specs.Tree.{Tree, null, boolean, number, string, array, object}
use Rattle.tinyjson_grammar.specs.Tree.{Items, no_items, item, Members, no_members, member}
use Rattle.tinyjson_grammar.specs.Soundness.{IsTree}
use Rattle.tinyjson_cells.specs.declared.store.Span.{Span}
use Rattle.tinyjson_cells.specs.declared.store.Cell.{Cell}
use Rattle.tinyjson_cells.specs.declared.store.Cell.TheVariants as node
use Rattle.tinyjson_cells.specs.declared.store.Member.{Member}
use Rattle.tinyjson_cells.specs.declared.store.Store.{Store}
use Rattle.tinyjson_cells.specs.Cell.{IsRun, IsText, IsKeptAt, IsShort, IsNumber, Is, Are, AreMembers}

-- the cell stands for a tree that a value may have
pub record Known (s : Store) (n : Cell) : Type 0 where
  pub tree : Tree
  pub is : ∥ Is s tree n ∥₁
  pub sound : ∥ IsTree tree ∥₁

-- the cells stand for the items of an array
pub record KnownItems (s : Store) (ns : List Cell) : Type 0 where
  pub items : Items
  pub are : ∥ Are s items ns ∥₁
  pub sound : ∥ IsTree (array items) ∥₁

-- the entries stand for the members of an object
pub record KnownMembers (s : Store) (es : List Member) : Type 0 where
  pub members : Members
  pub are : ∥ AreMembers s members es ∥₁
  pub sound : ∥ IsTree (object members) ∥₁

abbrev pub kind_in : Cell → JsonKind
kind_in node.Null = kind.Null
kind_in (node.Boolean b) = kind.Boolean
kind_in (node.Short p) = kind.Number
kind_in (node.Kept i) = kind.Number
kind_in (node.String p) = kind.String
kind_in (node.Array p) = kind.Array
kind_in (node.Object p) = kind.Object

pub run_one : {A : Type 0} (xs : List A) (p : Span) (ys zs : List A) → IsRun xs p ys → IsRun xs p zs → ys ≡ zs
run_one xs p ys zs h k =
    sym (take_at ys h.back (length ys) refl)
    ∙ ap (take (length ys)) (sym (drop_at h.front (ys ++ h.back) (length h.front) refl) ∙ ap (drop (length h.front)) (sym h.whole ∙ k.whole)
    ∙ drop_at k.front (zs ++ k.back) (length h.front) (sym k.from ∙ h.from))
    ∙ take_at zs k.back (length ys) (omega (arith, h.to, k.to, h.from, k.from))

pub text_one : (s : Store) (a b : List ℕ) (p : Span) → IsText s a p → IsText s b p → a ≡ b
text_one s a b p h k = h.characters ∙ sym k.characters

kept_one : (s : Store) (a b : Decimal) (i : ℕ) → IsKeptAt s a i → IsKeptAt s b i → a ≡ b
kept_one s a b i h k =
    let rest = sym (drop_at h.front (h.here ∷ h.back) (length h.front) refl) ∙ ap (drop (length h.front)) (sym h.whole ∙ k.whole)
    ∙ drop_at k.front (k.here ∷ k.back) (length h.front) (sym k.place ∙ h.place) in
    let here : h.here ≡ k.here = cc in
    sym h.decimal ∙ ap (λ c. c.decimal) here ∙ k.decimal

short_one : (s : Store) (a b : Decimal) (p : Span) → IsShort s a p → IsShort s b p → a ≡ b
short_one s a b p h k =
    let same = sym h.text ∙ k.text in
    one_decimal power_width power_width (decimal_text b) a b
    (subst (λ t. IsNumberTextAt power_width t a) same (text_is_number power_width a h.canonical)) (text_is_number power_width b k.canonical)

number_one : (s : Store) (a b : Decimal) (n : Cell) → IsNumber s a n → IsNumber s b n → a ≡ b
number_one s a b n (inl h) (inl k) =
    let e = sym h.1 ∙ k.1 in
    let p : h.0 ≡ k.0 = cc in
    short_one s a b k.0 (subst (IsShort s a) p h.2) k.2
number_one s a b n (inr h) (inr k) =
    let e = sym h.1 ∙ k.1 in
    let i : h.0 ≡ k.0 = cc in
    kept_one s a b k.0 (subst (IsKeptAt s a) i h.2) k.2
number_one s a b n (inl h) (inr k) = let e = sym h.1 ∙ k.1 in absurd cc
number_one s a b n (inr h) (inl k) = let e = sym h.1 ∙ k.1 in absurd cc

pub kind_is : (s : Store) (t : Tree) (n : Cell) → Is s t n → kind_in n ≡ kind_of t
kind_is s null n h = ap kind_in h
kind_is s (boolean b) n h = ap kind_in h
kind_is s (number d) n (inl h) = ap kind_in h.1
kind_is s (number d) n (inr h) = ap kind_in h.1
kind_is s (string cs) n h = ap kind_in h.1
kind_is s (array ts) n h = ap kind_in h.1
kind_is s (object ms) n h = ap kind_in h.1

mutual
  pub is_one : (s : Store) (t u : Tree) (n : Cell) → Is s t n → Is s u n → t ≡ u
  is_one s null null n h k = refl
  is_one s (boolean a) (boolean b) n h k = let e = sym h ∙ k in cc
  is_one s (number a) (number b) n h k = ap number (number_one s a b n h k)
  is_one s (string a) (string b) n h k =
      let e = sym h.1 ∙ k.1 in
      let p : h.0 ≡ k.0 = cc in
      ap string (text_one s a b k.0 (subst (IsText s a) p h.2) k.2)
  is_one s (array ts) (array us) n h k =
      let e = sym h.1 ∙ k.1 in
      let p : h.0 ≡ k.0 = cc in
      let run = run_one s.items.items k.0 h.2 k.2 (subst (λ q. IsRun s.items.items q h.2) p h.3) k.3 in
      ap array (are_one s ts us k.2 (subst (Are s ts) run h.4) k.4)
  is_one s (object ms) (object ns) n h k =
      let e = sym h.1 ∙ k.1 in
      let p : h.0 ≡ k.0 = cc in
      let run = run_one s.members.items k.0 h.2 k.2 (subst (λ q. IsRun s.members.items q h.2) p h.3) k.3 in
      ap object (members_one s ms ns k.2 (subst (AreMembers s ms) run h.4) k.4)
  is_one s t u n h k = let e : kind_of t ≡ kind_of u = sym (kind_is s t n h) ∙ kind_is s u n k in absurd cc

  pub are_one : (s : Store) (ts us : Items) (ns : List Cell) → Are s ts ns → Are s us ns → ts ≡ us
  are_one s no_items no_items ns h k = refl
  are_one s no_items (item u us) [] h k = absurd k
  are_one s no_items (item u us) (n ∷ ns) h k = absurd h
  are_one s (item t ts) no_items [] h k = absurd h
  are_one s (item t ts) no_items (n ∷ ns) h k = absurd k
  are_one s (item t ts) (item u us) [] h k = absurd h
  are_one s (item t ts) (item u us) (n ∷ ns) h k =
      (λ i. item (is_one s t u n h.0 k.0 i) (are_one s ts us ns h.1 k.1 i))

  pub members_one : (s : Store) (ms ns : Members) (es : List Member) → AreMembers s ms es → AreMembers s ns es → ms ≡ ns
  members_one s no_members no_members es h k = refl
  members_one s no_members (member l u ns) [] h k = absurd k
  members_one s no_members (member l u ns) (e ∷ es) h k = absurd h
  members_one s (member k t ms) no_members [] h j = absurd h
  members_one s (member k t ms) no_members (e ∷ es) h j = absurd j
  members_one s (member k t ms) (member l u ns) [] h j = absurd h
  members_one s (member k t ms) (member l u ns) (e ∷ es) h j = (λ i. member (text_one s k l e.key h.0 j.0 i)
      (is_one s t u e.value h.1 j.1 i) (members_one s ms ns es h.2 j.2 i))

tree_discrete : Discrete Tree
tree_discrete t u = by (tree_eq t u) refl
  where
    by : (b : Bool) → tree_eq t u ≡ b → Dec (t ≡ u)
    by true e = yes ((tree_eq_Decides t u).0 e)
    by false e = no (λ h. true≢false (sym ((tree_eq_Decides t u).1 h) ∙ e))

pub Tree_set : IsSet Tree
Tree_set = hedberg tree_discrete

pub Decimal_set : IsSet Decimal
Decimal_set = hedberg decimal_discrete
  where
    decimal_discrete : Discrete Decimal
    decimal_discrete a b = by (decimal_eq a b) refl
      where
        by : (c : Bool) → decimal_eq a b ≡ c → Dec (a ≡ b)
        by true e = yes ((decimal_eq_Decides a b).0 e)
        by false e = no (λ h. true≢false (sym ((decimal_eq_Decides a b).1 h) ∙ e))

Items_set : IsSet Items
Items_set = hedberg items_discrete
  where
    items_discrete : Discrete Items
    items_discrete t u = by (items_eq t u) refl
      where
        by : (b : Bool) → items_eq t u ≡ b → Dec (t ≡ u)
        by true e = yes ((items_eq_Decides t u).0 e)
        by false e = no (λ h. true≢false (sym ((items_eq_Decides t u).1 h) ∙ e))

Members_set : IsSet Members
Members_set = hedberg members_discrete
  where
    members_discrete : Discrete Members
    members_discrete t u = by (members_eq t u) refl
      where
        by : (b : Bool) → members_eq t u ≡ b → Dec (t ≡ u)
        by true e = yes ((members_eq_Decides t u).0 e)
        by false e = no (λ h. true≢false (sym ((members_eq_Decides t u).1 h) ∙ e))

-- what is known is what the cell stands for
pub known_is : (s : Store) (n : Cell) (k : Known s n) (t : Tree) → Is s t n → k.tree ≡ t
known_is s n k t h = ∥∥₁_elim k.is (Tree_set _ _) (λ g. is_one s k.tree t n g h)

pub known_one : (s : Store) (n : Cell) (k l : Known s n) → k.tree ≡ l.tree
known_one s n k l = ∥∥₁_elim l.is (Tree_set _ _) (known_is s n k l.tree)

pub Known_prop : (s : Store) (n : Cell) → IsProp (Known s n)
Known_prop s n k l =
    let e = known_one s n k l in
    (λ i. record {
      tree = e i;
      is = is_prop→PathP (λ j. ∥ Is s (e j) n ∥₁) (λ j. squash₁) k.is l.is i;
      sound = is_prop→PathP (λ j. ∥ IsTree (e j) ∥₁) (λ j. squash₁) k.sound l.sound i;
    })

pub known_are : (s : Store) (ns : List Cell) (k : KnownItems s ns) (ts : Items) → Are s ts ns → k.items ≡ ts
known_are s ns k ts h = ∥∥₁_elim k.are (Items_set _ _) (λ g. are_one s k.items ts ns g h)

pub items_one : (s : Store) (ns : List Cell) (k l : KnownItems s ns) → k.items ≡ l.items
items_one s ns k l = ∥∥₁_elim l.are (Items_set _ _) (known_are s ns k l.items)

pub KnownItems_prop : (s : Store) (ns : List Cell) → IsProp (KnownItems s ns)
KnownItems_prop s ns k l =
    let e = items_one s ns k l in
    (λ i. record {
      items = e i;
      are = is_prop→PathP (λ j. ∥ Are s (e j) ns ∥₁) (λ j. squash₁) k.are l.are i;
      sound = is_prop→PathP (λ j. ∥ IsTree (array (e j)) ∥₁) (λ j. squash₁) k.sound l.sound i;
    })

pub known_members : (s : Store) (es : List Member) (k : KnownMembers s es) (ms : Members) → AreMembers s ms es → k.members ≡ ms
known_members s es k ms h = ∥∥₁_elim k.are (Members_set _ _) (λ g. members_one s k.members ms es g h)

pub members_same : (s : Store) (es : List Member) (k l : KnownMembers s es) → k.members ≡ l.members
members_same s es k l = ∥∥₁_elim l.are (Members_set _ _) (known_members s es k l.members)

pub KnownMembers_prop : (s : Store) (es : List Member) → IsProp (KnownMembers s es)
KnownMembers_prop s es k l =
    let e = members_same s es k l in
    (λ i. record {
      members = e i;
      are = is_prop→PathP (λ j. ∥ AreMembers s (e j) es ∥₁) (λ j. squash₁) k.are l.are i;
      sound = is_prop→PathP (λ j. ∥ IsTree (object (e j)) ∥₁) (λ j. squash₁) k.sound l.sound i;
    })
