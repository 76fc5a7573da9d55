-- A node stands for the same tree while the store grows.
use Rattle.std.proofs.Common.{◌≡◌, ◌≤◌, ℕ, ◌+◌, ◌-◌, min, List, [], ◌∷◌, ◌++◌, inl, inr, refl, sym, ◌∙◌, ap, subst, append_assoc, append-nil}
use Rattle.std.proofs.Common.{length, take, drop, cond, nat_le, length-append, length-drop, arith}
use Rattle.std.proofs.lemmas.List.{drop-append-le, take-append-le}
use Rattle.std.specs.List.{slice_range}
use Rattle.std.specs.Str.{IsUtf8, chars}
use Rattle.tinyjson_number.specs.Decimal.{Decimal}
use Rattle.tinyjson_grammar.specs.Tree.{Tree, null, boolean, number, string, array, object}
use Rattle.tinyjson_grammar.specs.Tree.{Items, no_items, item, Members, no_members, member}
use Rattle.tinyjson_cells.specs.Cell.{IsRun, IsText, IsKeptAt, IsShort, IsNumber, Is, Are, AreMembers, Extends, Grows}
use Rattle.tinyjson_cells.specs.declared.store.Span.{Span}
use Rattle.tinyjson_cells.specs.declared.store.Cell.{Cell}
use Rattle.tinyjson_cells.specs.declared.store.Member.{Member}
use Rattle.tinyjson_cells.specs.declared.store.Store.{Store}
use Rattle.tinyjson_cells.specs.declared.texts.Texts.{Texts}
use Rattle.tinyjson_cells.specs.Texts.{behind, part, part_of, source_bytes, IsWithin, TextsGrow}

pub run_stays : {A : Type 0} (xs ys zs : List A) (p : Span) → Extends xs ys → IsRun xs p zs → IsRun ys p zs
run_stays xs ys zs p e h = record {
  front = h.front;
  back = h.back ++ e.0;
  whole = e.1 ∙ ap (λ w. w ++ e.0) h.whole ∙ append_assoc h.front (zs ++ h.back) e.0
      ∙ ap (λ w. h.front ++ w) (append_assoc zs h.back e.0);
  from = h.from;
  to = h.to;
}

-- ---- texts, of which a part stays

part_start : {A : Type 0} (xs ys : List A) (p : Span) → p.to ≤ length xs → part (xs ++ ys) p ≡ part xs p
part_start xs ys p h =
    let long = length-append xs ys in
    let high : min p.to (length (xs ++ ys)) ≡ min p.to (length xs) = omega (arith, long, h) in
    let to = min p.to (length xs) in
    let from = min p.from to in
    (λ i. slice_range (xs ++ ys) (min p.from (high i)) (high i))
    ∙ take_drop_start xs ys from (to - from) (omega (arith, h))
  where
    take_drop_start : {A : Type 0} (xs ys : List A) (n m : ℕ) → n + m ≤ length xs → take m (drop n (xs ++ ys)) ≡ take m (drop n xs)
    take_drop_start xs ys n m h =
        let low : n ≤ length xs = omega (arith, h) in
        ap (take m) (drop-append-le n xs ys low) ∙ take-append-le m (drop n xs) ys (omega (arith, h, length-drop n xs))

pub part_stays : (s r : Texts) (p : Span) → TextsGrow s r → IsWithin s p → IsWithin r p × (part_of r p ≡ part_of s p)
part_stays s r p g h =
    let n = length (source_bytes s.source) in
    let added : part r.added.items (behind n p) ≡ part s.added.items (behind n p)
    = ap (λ z. part z (behind n p)) g.added ∙ part_start s.added.items g.more (behind n p) (omega (arith, h)) in (
      omega (arith, h, ap length (sym g.source), ap length g.added ∙ length-append s.added.items g.more),
      ap (λ z. cond (nat_le p.to (length z)) (part z p) (part r.added.items (behind (length z) p))) (sym g.source)
          ∙ ap (cond (nat_le p.to n) (part (source_bytes s.source) p)) added,
    )

texts_stay : (s : Texts) → TextsGrow s s
texts_stay s = record { source = refl; more = []; added = sym (append-nil s.added.items) }

pub text_stays : (s r : Store) (cs : List ℕ) (p : Span) → Grows s r → IsText s cs p → IsText r cs p
text_stays s r cs p g h =
    let same = part_stays s.texts r.texts p g.texts h.within in
    record {
      within = same.0;
      utf8 = subst IsUtf8 (sym same.1) h.utf8;
      characters = h.characters ∙ ap chars (sym same.1);
    }

short_stays : (s r : Store) (d : Decimal) (p : Span) → Grows s r → IsShort s d p → IsShort r d p
short_stays s r d p g h =
    let same = part_stays s.texts r.texts p g.texts h.within in
    record { within = same.0; text = same.1 ∙ h.text; few = h.few; canonical = h.canonical }

kept_stays : (s r : Store) (d : Decimal) (i : ℕ) → Grows s r → IsKeptAt s d i → IsKeptAt r d i
kept_stays s r d i g h = record {
  front = h.front;
  here = h.here;
  back = h.back ++ g.kept.0;
  whole = g.kept.1 ∙ ap (λ w. w ++ g.kept.0) h.whole ∙ append_assoc h.front (h.here ∷ h.back) g.kept.0;
  place = h.place;
  decimal = h.decimal;
}

number_stays : (s r : Store) (d : Decimal) (n : Cell) → Grows s r → IsNumber s d n → IsNumber r d n
number_stays s r d n g (inl h) = inl (h.0, h.1, short_stays s r d h.0 g h.2)
number_stays s r d n g (inr h) = inr (h.0, h.1, kept_stays s r d h.0 g h.2)

mutual
  pub is_still : (s r : Store) (t : Tree) (n : Cell) → Grows s r → Is s t n → Is r t n
  is_still s r null n g h = h
  is_still s r (boolean b) n g h = h
  is_still s r (number d) n g h = number_stays s r d n g h
  is_still s r (string cs) n g h = (h.0, h.1, text_stays s r cs h.0 g h.2)
  is_still s r (array ts) n g h = (h.0, h.1, h.2, run_stays _ _ h.2 h.0 g.items h.3, are_still s r ts h.2 g h.4)
  is_still s r (object ms) n g h = (h.0, h.1, h.2, run_stays _ _ h.2 h.0 g.members h.3, members_still s r ms h.2 g h.4)

  pub are_still : (s r : Store) (ts : Items) (ns : List Cell) → Grows s r → Are s ts ns → Are r ts ns
  are_still s r no_items [] g h = h
  are_still s r no_items (n ∷ ns) g h = h
  are_still s r (item t ts) [] g h = h
  are_still s r (item t ts) (n ∷ ns) g h = (is_still s r t n g h.0, are_still s r ts ns g h.1)

  pub members_still : (s r : Store) (ms : Members) (es : List Member) → Grows s r → AreMembers s ms es → AreMembers r ms es
  members_still s r no_members [] g h = h
  members_still s r no_members (e ∷ es) g h = h
  members_still s r (member k t ms) [] g h = h
  members_still s r (member k t ms) (e ∷ es) g h = (
    text_stays s r k e.key g h.0,
    is_still s r t e.value g h.1,
    members_still s r ms es
        g h.2,
  )

extends_none : {A : Type 0} (xs : List A) → Extends xs xs
extends_none xs = ([], sym (append-nil xs))

pub grows_none : (s : Store) → Grows s s
grows_none s = record {
  texts = texts_stay s.texts;
  kept = extends_none s.kept.items;
  items = extends_none s.items.items;
  members = extends_none s.members.items;
}
