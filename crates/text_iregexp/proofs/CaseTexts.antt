-- What is asked of a text, look-ahead by look-ahead and branch by branch.
use Rattle.std.proofs.Common.{◌≡◌, ◌≤◌, ◌<◌, ◌+◌, ◌↔◌, inl, inr, ℕ, zero, suc, Bool, true, false, not, List, [], ◌∷◌, ◌++◌, length, map}
use Rattle.std.proofs.Common.{take, get_or, refl, sym, ap, ◌∙◌, subst, arith, true≢false}
use Rattle.std.specs.Bool.{IsTrue}
use Rattle.std.proofs.lemmas.List.{get_or-map, take_more, take_all}
use Rattle.text_regexp.specs.Building.{choice, choice_from}
use Rattle.text_regexp.specs.Forms.{Form, empty, Matches}
use Rattle.text_iregexp.specs.PatternTexts.{unless_form, guarded, AllMatch}

-- ---- a look-ahead

not_as : (b : Bool) (P : Type 0) → (IsTrue b ↔ P) → IsTrue (not b) ↔ (P → ⊥)
not_as true P h = (λ e. absurd (true≢false (sym e)), λ k. absurd (k (h.0 refl)))
not_as false P h = (λ e p. absurd (true≢false (sym (h.1 p))), λ k. refl)

pub holds_negated : (n b : Bool) (f : Form) (cs : List ℕ) → n ≡ true → (IsTrue b ↔ Matches f cs)
    → IsTrue (not b) ↔ Matches (unless_form n f) cs
holds_negated n b f cs e h = subst (λ x. IsTrue (not b) ↔ Matches (unless_form x f) cs) (sym e) (not_as b (Matches f cs) h)

pub holds_plain : (n b : Bool) (f : Form) (cs : List ℕ) → n ≡ false → (IsTrue b ↔ Matches f cs)
    → IsTrue b ↔ Matches (unless_form n f) cs
holds_plain n b f cs e h = subst (λ x. IsTrue b ↔ Matches (unless_form x f) cs) (sym e) h

-- ---- all look-aheads

all_push : (fs : List Form) (f : Form) (cs : List ℕ) → AllMatch fs cs → Matches f cs → AllMatch (fs ++ f ∷ []) cs
all_push [] f cs a m = (m, tt)
all_push (g ∷ fs) f cs a m = (a.0, all_push fs f cs a.1 m)

pub all_more : (fs : List Form) (i : ℕ) (d : Form) (cs : List ℕ) → i < length fs → AllMatch (take i fs) cs
    → Matches (get_or fs i d) cs → AllMatch (take (i + 1) fs) cs
all_more fs i d cs l a m = subst (λ gs. AllMatch gs cs) (sym (take_more fs i d l)) (all_push (take i fs) (get_or fs i d) cs a m)

pub all_end : (fs : List Form) (i : ℕ) (cs : List ℕ) → length fs ≤ i → AllMatch (take i fs) cs → AllMatch fs cs
all_end fs i cs l a = subst (λ gs. AllMatch gs cs) (take_all i fs l) a

pub all_at : (fs : List Form) (i : ℕ) (d : Form) (cs : List ℕ) → i < length fs → AllMatch fs cs → Matches (get_or fs i d) cs
all_at [] i d cs l a = absurd (omega arith)
all_at (f ∷ fs) zero d cs l a = a.0
all_at (f ∷ fs) (suc i) d cs l a = all_at fs i d cs (omega arith) a.1

pub not_all : (fs : List Form) (i : ℕ) (d : Form) (cs : List ℕ) (b : Bool) → i < length fs → (IsTrue b ↔ Matches (get_or fs i d) cs)
    → b ≡ false → IsTrue false ↔ AllMatch fs cs
not_all fs i d cs b l h e =
    (λ x. absurd (true≢false (sym x)), λ a. absurd (true≢false (sym (h.1 (all_at fs i d cs l a)) ∙ e)))

-- what is asked of an item, in a list whose items match the same
pub item_matches : {X : Type 0} (f : X → Form) (xs ys : List X) (i : ℕ) (d : X) (cs : List ℕ) (b : Bool) → map f xs ≡ map f ys
    → i < length xs → (IsTrue b ↔ Matches (f (get_or xs i d)) cs) → IsTrue b ↔ Matches (get_or (map f ys) i empty) cs
item_matches f xs ys i d cs b e l h =
    subst (λ g. IsTrue b ↔ Matches g cs) (sym (get_or-map f xs i d empty l) ∙ ap (λ gs. get_or gs i empty) e) h

pub guard_to : (fs : List Form) (f : Form) (cs : List ℕ) → Matches (guarded fs f) cs → AllMatch fs cs × Matches f cs
guard_to [] f cs m = (tt, m)
guard_to (g ∷ fs) f cs m = let r = guard_to fs f cs m.1 in ((m.0, r.0), r.1)

guard_from : (fs : List Form) (f : Form) (cs : List ℕ) → AllMatch fs cs → Matches f cs → Matches (guarded fs f) cs
guard_from [] f cs a m = m
guard_from (g ∷ fs) f cs a m = (a.0, guard_from fs f cs a.1 m)

pub guard_broken : (fs : List Form) (f : Form) (cs : List ℕ) (b : Bool) → (IsTrue b ↔ AllMatch fs cs) → b ≡ false
    → IsTrue false ↔ Matches (guarded fs f) cs
guard_broken fs f cs b h e =
    (λ x. absurd (true≢false (sym x)), λ m. absurd (true≢false (sym (h.1 (guard_to fs f cs m).0) ∙ e)))

pub guard_kept : (fs : List Form) (f : Form) (cs : List ℕ) (b c : Bool) → (IsTrue b ↔ AllMatch fs cs) → b ≡ true
    → (IsTrue c ↔ Matches f cs) → IsTrue c ↔ Matches (guarded fs f) cs
guard_kept fs f cs b c h e k = (λ x. guard_from fs f cs (h.0 e) (k.0 x), λ m. k.1 (guard_to fs f cs m).1)

-- ---- one of the branches

abbrev pub NoneMatch : List Form → List ℕ → Type 0
NoneMatch [] cs = Unit {0}
NoneMatch (f ∷ fs) cs = (Matches f cs → ⊥) × NoneMatch fs cs

none_push : (fs : List Form) (f : Form) (cs : List ℕ) → NoneMatch fs cs → (Matches f cs → ⊥) → NoneMatch (fs ++ f ∷ []) cs
none_push [] f cs a m = (m, tt)
none_push (g ∷ fs) f cs a m = (a.0, none_push fs f cs a.1 m)

pub none_more : (fs : List Form) (i : ℕ) (d : Form) (cs : List ℕ) → i < length fs → NoneMatch (take i fs) cs
    → (Matches (get_or fs i d) cs → ⊥) → NoneMatch (take (i + 1) fs) cs
none_more fs i d cs l a m = subst (λ gs. NoneMatch gs cs) (sym (take_more fs i d l)) (none_push (take i fs) (get_or fs i d) cs a m)

choice_none : (f : Form) (fs : List Form) (cs : List ℕ) → NoneMatch (f ∷ fs) cs → Matches (choice_from f fs) cs → ⊥
choice_none f [] cs a m = a.0 m
choice_none f (g ∷ fs) cs a m =
    elim m [
      | inl x ↦ a.0 x
      | inr y ↦ choice_none g fs cs a.1 y
    ]

pub none_end : (fs : List Form) (i : ℕ) (cs : List ℕ) → length fs ≤ i → NoneMatch (take i fs) cs → Matches (choice fs) cs → ⊥
none_end fs i cs l a m = by fs (subst (λ gs. NoneMatch gs cs) (take_all i fs l) a) m
  where
    by : (gs : List Form) → NoneMatch gs cs → Matches (choice gs) cs → ⊥
    by [] a m = true≢false (sym m.2)
    by (g ∷ gs) a m = choice_none g gs cs a m

choice_at : (f : Form) (fs : List Form) (i : ℕ) (d : Form) (cs : List ℕ) → i < length (f ∷ fs) → Matches (get_or (f ∷ fs) i d) cs
    → Matches (choice_from f fs) cs
choice_at f [] zero d cs l m = m
choice_at f [] (suc i) d cs l m = absurd (omega arith)
choice_at f (g ∷ fs) zero d cs l m = inl m
choice_at f (g ∷ fs) (suc i) d cs l m = inr (choice_at g fs i d cs (omega arith) m)

pub one_at : (fs : List Form) (i : ℕ) (d : Form) (cs : List ℕ) → i < length fs → Matches (get_or fs i d) cs → Matches (choice fs) cs
one_at [] i d cs l m = absurd (omega arith)
one_at (f ∷ fs) i d cs l m = choice_at f fs i d cs l m
