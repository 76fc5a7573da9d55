-- What a cell stands for is had where it is there at all: it can be computed.
use Rattle.std.proofs.Common.{◌≡◌, ℕ, ◌+◌, ◌≤◌, List, [], ◌∷◌, ◌++◌, length, take, drop, inl, inr, refl, sym, ◌∙◌, ap, subst, arith}
use Rattle.std.proofs.Common.{◌-◌, length-drop, length-append}
use mathlib.Core.Logic.{∥∥₁_elim, ∥∥₁_map}
use mathlib.Core.HLevel.{×_prop, ⊥_prop, hedberg}
use mathlib.Core.List.{is_set}
use mathlib.Core.Bool.{Bool-set}
use native.Mathlib.Decide.{ℕ_discrete}
use native.Mathlib.Bridge.{le_prop}
use Rattle.std.proofs.lemmas.List.{drop_at, length-take-le, take-append-drop}
use Rattle.std.proofs.lemmas.Str.{IsUtf8-had}
use Rattle.tinyjson_number.specs.Decimal.{Decimal}
use Rattle.tinyjson_grammar.specs.Kind.{kind_of}
use Rattle.tinyjson_grammar.specs.Tree.{Tree, null, boolean, number, string, array, object}
use Rattle.tinyjson_grammar.specs.Tree.{Items, no_items, item, Members, no_members, member}
use Rattle.tinyjson_cells.specs.declared.store.Span.{Span}
use Rattle.tinyjson_cells.specs.declared.store.Cell.{Cell}
use Rattle.tinyjson_cells.specs.declared.store.Cell.TheVariants as node
use Rattle.tinyjson_cells.specs.declared.store.Member.{Member}
use Rattle.tinyjson_cells.specs.declared.store.Store.{Store}
use Rattle.tinyjson_cells.specs.Texts.{part_of}
use Rattle.tinyjson_cells.specs.Cell.{IsRun, IsText, IsKeptAt, IsShort, IsNumber, Is, Are, AreMembers}
use Rattle.tinyjson_document.specs.Known.{kind_in, kind_is, run_one, Decimal_set}

pub Codes_set : IsSet (List ℕ)
Codes_set = is_set (hedberg ℕ_discrete)

head_same : {A : Type 0} (x y : A) (xs ys : List A) → x ∷ xs ≡ y ∷ ys → x ≡ y
head_same x y xs ys e = cc

short_place : {p q : Span} → node.Short p ≡ node.Short q → q ≡ p
short_place e = cc

kept_place : {i j : ℕ} → node.Kept i ≡ node.Kept j → j ≡ i
kept_place e = cc

string_place : {p q : Span} → node.String p ≡ node.String q → q ≡ p
string_place e = cc

array_place : {p q : Span} → node.Array p ≡ node.Array q → q ≡ p
array_place e = cc

object_place : {p q : Span} → node.Object p ≡ node.Object q → q ≡ p
object_place e = cc

-- the places of a run
run_places : {A : Type 0} (xs : List A) (p : Span) (ys : List A) → IsRun xs p ys → (p.from ≤ p.to) × (p.to ≤ length xs)
run_places xs p ys h =
    let long = ap length h.whole ∙ length-append h.front (ys ++ h.back) ∙ ap (λ z. length h.front + z) (length-append ys h.back) in
    (omega (arith, h.from, h.to), omega (arith, long, h.to))

run_had : {A : Type 0} (xs : List A) (p : Span) → ∥ ((ys : List A) × IsRun xs p ys) ∥₁ → (ys : List A) × IsRun xs p ys
run_had xs p h =
    let places : (p.from ≤ p.to) × (p.to ≤ length xs) = ∥∥₁_elim h (×_prop le_prop le_prop) (λ g. run_places xs p g.0 g.1) in
    let rest = drop p.from xs in
    let count = p.to - p.from in
    let low : length (take p.from xs) ≡ p.from = length-take-le p.from xs (omega (arith, places)) in
    let high : length (take count rest) ≡ count = length-take-le count rest (omega (arith, places, length-drop p.from xs)) in (
      take count rest,
      record {
        front = take p.from xs;
        back = drop count rest;
        whole = sym (take-append-drop p.from xs) ∙ ap (λ z. take p.from xs ++ z) (sym (take-append-drop count rest));
        from = sym low;
        to = omega (arith, low, high, places);
      },
    )

text_had : (s : Store) (cs : List ℕ) (p : Span) → ∥ IsText s cs p ∥₁ → IsText s cs p
text_had s cs p h =
    record {
      within = ∥∥₁_elim h le_prop (λ g. g.within);
      utf8 = IsUtf8-had (part_of s.texts p) (∥∥₁_map h (λ g. g.utf8));
      characters = ∥∥₁_elim h (Codes_set _ _) (λ g. g.characters);
    }

kept_had : (s : Store) (d : Decimal) (i : ℕ) → ∥ IsKeptAt s d i ∥₁ → IsKeptAt s d i
kept_had s d i h = by (drop i s.kept.items) refl
  where
    here : (g : IsKeptAt s d i) → drop i s.kept.items ≡ g.here ∷ g.back
    here g = ap (drop i) g.whole ∙ drop_at g.front (g.here ∷ g.back) i (sym g.place)

    by : (rest : _) → drop i s.kept.items ≡ rest → IsKeptAt s d i
    by [] e = absurd (∥∥₁_elim h ⊥_prop (λ g. let f = sym e ∙ here g in absurd cc))
    by (c ∷ cs) e = record {
      front = take i s.kept.items;
      here = c;
      back = cs;
      whole = sym (take-append-drop i s.kept.items) ∙ ap (λ z. take i s.kept.items ++ z) e;
      place = sym (length-take-le i s.kept.items (∥∥₁_elim h le_prop (λ g. omega (
        arith,
        g.place,
        ap length g.whole
            ∙ length-append g.front (g.here ∷ g.back),
      ))));
      decimal = ∥∥₁_elim h (Decimal_set _ _) (λ g. let f = sym e ∙ here g in ap (λ z. z.decimal) (head_same _ _ _ _ f) ∙ g.decimal);
    }

short_had : (s : Store) (d : Decimal) (p : Span) → ∥ IsShort s d p ∥₁ → IsShort s d p
short_had s d p h =
    record {
      within = ∥∥₁_elim h le_prop (λ g. g.within);
      text = ∥∥₁_elim h (Codes_set _ _) (λ g. g.text);
      few = ∥∥₁_elim h le_prop (λ g. g.few);
      canonical = ∥∥₁_elim h (Bool-set _ _) (λ g. g.canonical);
    }

at_short : (s : Store) (d : Decimal) (p : Span) → IsNumber s d (node.Short p) → IsShort s d p
at_short s d p (inl g) = subst (IsShort s d) (short_place g.1) g.2
at_short s d p (inr g) = let e = g.1 in absurd cc

at_kept : (s : Store) (d : Decimal) (i : ℕ) → IsNumber s d (node.Kept i) → IsKeptAt s d i
at_kept s d i (inl g) = let e = g.1 in absurd cc
at_kept s d i (inr g) = subst (IsKeptAt s d) (kept_place g.1) g.2

mutual
  pub is_had : (s : Store) (t : Tree) (n : Cell) → ∥ Is s t n ∥₁ → Is s t n
  is_had s null node.Null h = refl
  is_had s (boolean a) (node.Boolean b) h = ap node.Boolean (∥∥₁_elim h (Bool-set _ _) (λ g. cc))
  is_had s (number d) (node.Short p) h = inl (p, refl, short_had s d p (∥∥₁_map h (at_short s d p)))
  is_had s (number d) (node.Kept i) h = inr (i, refl, kept_had s d i (∥∥₁_map h (at_kept s d i)))
  is_had s (string cs) (node.String p) h = (p, refl, text_had s cs p (∥∥₁_map h (λ g. subst (IsText s cs) (string_place g.1) g.2)))
  is_had s (array ts) (node.Array p) h =
      let there = ∥∥₁_map h
      (λ g. subst (λ q. (ns : List Cell) × IsRun s.items.items q ns × Are s ts ns) (array_place g.1) (g.2, g.3, g.4)) in
      let run = run_had s.items.items p (∥∥₁_map there (λ g. (g.0, g.1))) in
      (p, refl, run.0, run.1, are_had s ts run.0 (∥∥₁_map there (λ g. subst (Are s ts) (run_one _ p _ _ g.1 run.1) g.2)))
  is_had s (object ms) (node.Object p) h =
      let there = ∥∥₁_map h (λ g. subst (λ q. (es : List Member) × IsRun s.members.items q es × AreMembers s ms es) (object_place g.1)
      (g.2, g.3, g.4)) in
      let run = run_had s.members.items p (∥∥₁_map there (λ g. (g.0, g.1))) in
      (p, refl, run.0, run.1, members_had s ms run.0 (∥∥₁_map there (λ g. subst (AreMembers s ms) (run_one _ p _ _ g.1 run.1) g.2)))
  is_had s t n h = absurd (∥∥₁_elim h ⊥_prop (λ g. let e : kind_in n ≡ kind_of t = kind_is s t n g in absurd cc))

  pub are_had : (s : Store) (ts : Items) (ns : List Cell) → ∥ Are s ts ns ∥₁ → Are s ts ns
  are_had s no_items [] h = tt
  are_had s (item t ts) (n ∷ ns) h = (is_had s t n (∥∥₁_map h (λ g. g.0)), are_had s ts ns (∥∥₁_map h (λ g. g.1)))
  are_had s no_items (n ∷ ns) h = absurd (∥∥₁_elim h ⊥_prop (λ g. g))
  are_had s (item t ts) [] h = absurd (∥∥₁_elim h ⊥_prop (λ g. g))

  pub members_had : (s : Store) (ms : Members) (es : List Member) → ∥ AreMembers s ms es ∥₁ → AreMembers s ms es
  members_had s no_members [] h = tt
  members_had s (member k t ms) (e ∷ es) h = (
    text_had s k e.key (∥∥₁_map h (λ g. g.0)),
    is_had s t e.value (∥∥₁_map h (λ g. g.1)),
    members_had s ms es (∥∥₁_map h (λ g. g.2)),
  )
  members_had s no_members (e ∷ es) h = absurd (∥∥₁_elim h ⊥_prop (λ g. g))
  members_had s (member k t ms) [] h = absurd (∥∥₁_elim h ⊥_prop (λ g. g))
