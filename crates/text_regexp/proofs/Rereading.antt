-- A text is read as the marks say.
use Rattle.std.proofs.Common.{Option, None, Some, ◌≡◌, ◌↔◌, ℕ, Bool, true, false, ◌&&◌, ◌||◌, IsTrue, List, [], ◌∷◌, ◌⊎◌}
use Rattle.std.proofs.Common.{cond, inl, inr, refl, sym, ◌∙◌, true≢false}
use Rattle.std.proofs.lemmas.Bool.{and_parts, and_from}
use Rattle.text_regexp.specs.Forms.{Matches, next_of}
use Rattle.text_regexp.specs.Marked.{tree_form, skips, ends_here, is_marked, IsKept, shifted, is_plain, is_settled, reads, verdict_in}
use Rattle.text_regexp.specs.declared.marked.Node.{Node}
use Rattle.text_regexp.proofs.Marking.{skips_sound, skips_complete, ends_sound, ends_complete, kept_shifted, shift_sound}
use Rattle.text_regexp.proofs.Marking.{shift_complete, settled_goes, unmarked_stops, plain_shifted, plain_stands}
use Rattle.text_regexp.proofs.Running.{Goes}

-- ---- a text is read as the marks say

ends_goes : (b c : Bool) → (b || c) ≡ true → (b ≡ true) ⊎ (c ≡ true)
ends_goes true c h = inl refl
ends_goes false c h = inr h

goes_ends : (b c : Bool) → (b ≡ true) ⊎ (c ≡ true) → (b || c) ≡ true
goes_ends true c h = refl
goes_ends false c h = elim h [ inl a ↦ absurd (true≢false (sym a)) | inr b ↦ b ]

pub reads_sound : (start : Bool) (n : Node) (b : Option ℕ) (cs : List ℕ) → IsKept n → is_plain n ≡ true → reads start n cs ≡ true
    → Goes (tree_form n) n start b cs
reads_sound start n b [] k p h =
    let stands = plain_stands n b None p in
    elim (ends_goes (ends_here n) (start && skips n) h) [
      | inl x ↦ inl (ends_sound n b None k stands x)
      | inr y ↦ let both = and_parts start (skips n) y in inr (both.0, skips_sound n b None stands both.1)
    ]
reads_sound start n b (c ∷ cs) k p h =
    elim (reads_sound false (shifted start c n) (Some c) cs (kept_shifted n start c k) (plain_shifted n start c ∙ p) h) [
      | inl x ↦ shift_sound n start b c cs None k (plain_stands n b (Some c) p) x
      | inr y ↦ absurd (true≢false (sym y.0))
    ]

pub reads_complete : (start : Bool) (n : Node) (b : Option ℕ) (cs : List ℕ) → IsKept n → is_plain n ≡ true
    → Goes (tree_form n) n start b cs → reads start n cs ≡ true
reads_complete start n b [] k p h =
    let stands = plain_stands n b None p in
    goes_ends (ends_here n) (start && skips n) (elim h [
      | inl x ↦ inl (ends_complete n b None k stands x)
      | inr y ↦ inr (and_from start (skips n) y.0 (skips_complete n b None stands y.1))
    ])
reads_complete start n b (c ∷ cs) k p h =
    reads_complete false (shifted start c n) (Some c) cs (kept_shifted n start c k) (plain_shifted n start c ∙ p)
    (inl (shift_complete n start b c cs None k (plain_stands n b (Some c) p) h))

refuted : (b : Bool) → (b ≡ true → ⊥) → b ≡ false
refuted true h = absurd (h refl)
refuted false h = refl

-- a tree without marks reads, from the start on, what is matched
pub reads_matched : (n : Node) (cs : List ℕ) → IsKept n → is_plain n ≡ true → is_marked n ≡ false
    → IsTrue (reads true n cs) ↔ Matches (tree_form n) cs
reads_matched n cs k p u = (
  λ h. elim (reads_sound true n None cs k p h) [ inl x ↦ absurd (unmarked_stops n None cs None k u x) | inr y ↦ y.1 ],
  λ h. reads_complete true n None cs k p (inr (refl, h)),
)

verdict_cases : (marked settled b : Bool) → Some b ≡ cond marked (cond settled (Some true) None) (Some false)
    → ((b ≡ true) × (settled ≡ true)) ⊎ ((b ≡ false) × (marked ≡ false))
verdict_cases true true b e = inl (cc, refl)
verdict_cases true false b e = absurd (cc)
verdict_cases false settled b e = inr (cc, refl)

-- where the verdict is known, it is that of each text that goes on
pub verdict_right : (n : Node) (b : Bool) (cs : List ℕ) → IsKept n → is_plain n ≡ true → Some b ≡ verdict_in n → reads false n cs ≡ b
verdict_right n b cs k p e = elim (verdict_cases (is_marked n) (is_settled n) b e) [
  | inl x ↦ reads_complete false n None cs k p
      (inl (settled_goes n None cs None k (plain_stands n None (next_of cs None) p) x.1)) ∙ sym x.0
  | inr y ↦ refuted (reads false n cs) (λ h. elim (reads_sound false n None cs k p h) [
    | inl g ↦ unmarked_stops n None cs None k y.1 g
    | inr g ↦ true≢false (sym g.0)
  ]) ∙ sym y.0
]
