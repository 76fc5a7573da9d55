-- The lines of an input that is cut after a line feed, and what is written for them.
use Rattle.std.proofs.Common.{◌≡◌, ℕ, ◌==◌, Bool, true, false, cond, List, [], ◌∷◌, ◌++◌, Option, Ok, Err, refl, sym, ap, ◌∙◌}
use Rattle.std.proofs.Common.{Some, subst, append_assoc, arith}
use Rattle.std.specs.Str.{chars}
use Rattle.tinyjson.specs.Characters.{line_feed}
use Rattle.tinyjson.proofs.Callers.{only_tree}
use Rattle.tinyjson_lines.specs.Line.{line_of}
use Rattle.json_lines.specs.Lines.{lines, onto_first, content, IsWithin, IsLonger, Fate}
use Rattle.json_lines.specs.Lines.{TextGives, HasFate, HaveFates, output_of, outputs_of}
use Rattle.json_lines.specs.Shares.{ended, LinesOfShares, OutputOfShares}
use Rattle.tinyjson.specs.Tree.{Tree}
use Rattle.tinyjson_lines.specs.declared.refusal.Cause.{Cause}
use Rattle.tinyjson_lines.specs.declared.refusal.Cause.TheVariants.{NotUtf8, NotJson, TooLong}

-- bytes that end with a line feed have a first line
HasFirst : List (List ℕ) → Type 0
HasFirst ls = (line : List ℕ) × (more : List (List ℕ)) × (ls ≡ line ∷ more)

first_by : (c : Bool) (b : ℕ) (ls : List (List ℕ)) → HasFirst ls → HasFirst (cond c ((b ∷ []) ∷ ls) (onto_first b ls))
unfolding HasFirst
first_by true b ls h = (b ∷ [], ls, refl)
first_by false b ls h = (b ∷ h.0, h.1, ap (onto_first b) h.2)

has_first : (xs : List ℕ) → HasFirst (lines (ended xs))
unfolding HasFirst
has_first [] = (line_feed ∷ [], [], refl)
has_first (x ∷ xs) = first_by (x == line_feed) x (lines (ended xs)) (has_first xs)

onto_first_of : (b : ℕ) (ls ms : List (List ℕ)) → HasFirst ls → onto_first b (ls ++ ms) ≡ onto_first b ls ++ ms
unfolding HasFirst
onto_first_of b ls ms h = ap (λ l. onto_first b (l ++ ms)) h.2 ∙ sym (ap (λ l. onto_first b l ++ ms) h.2)

shares_by : (c : Bool) (b : ℕ) (whole ls ms : List (List ℕ)) → HasFirst ls → whole ≡ ls ++ ms
    → cond c ((b ∷ []) ∷ whole) (onto_first b whole) ≡ cond c ((b ∷ []) ∷ ls) (onto_first b ls) ++ ms
shares_by true b whole ls ms h e = ap (λ l. (b ∷ []) ∷ l) e
shares_by false b whole ls ms h e = ap (onto_first b) e ∙ onto_first_of b ls ms h

pub lines_of_shares : LinesOfShares
lines_of_shares [] ys = refl
lines_of_shares (x ∷ xs) ys = shares_by (x == line_feed) x (lines (ended xs ++ ys)) (lines (ended xs)) (lines ys) (has_first xs)
    (lines_of_shares xs ys)

-- ---- what is written for them

-- whatever a line gives, one thing is written for it
text_output : (limit : Option ℕ) (line : List ℕ) (t u : Tree) → TextGives limit line (Ok t) → TextGives limit line (Ok u)
    → line_of t ≡ line_of u
text_output limit line t u h k = ap line_of (only_tree limit (chars (content line)) t u h.1 k.1)

no_text : (limit : Option ℕ) (line : List ℕ) (t : Tree) (c : Cause) → TextGives limit line (Ok t) → ¬ TextGives limit line (Err c)
no_text limit line t NotUtf8 h = λ k. k h.0
no_text limit line t (NotJson e) h = λ k. k.1.2 (t, h.1)
no_text limit line t (TooLong m) h = λ k. k

-- a line within the limit is not longer
not_longer : (max : Option ℕ) (m : ℕ) (line : List ℕ) → IsWithin max line → max ≡ Some m → ¬ IsLonger m line
not_longer max m line h e = λ k.
    let w : IsWithin (Some m) line = subst (λ o. IsWithin o line) e h in omega (arith, w, k)

no_cause : (limit max : Option ℕ) (line : List ℕ) (t : Tree) (c : Cause) → HasFate limit max line (Ok t) → ¬ HasFate limit max line (Err c)
no_cause limit max line t NotUtf8 h = λ k. no_text limit line t NotUtf8 h.1 k.1
no_cause limit max line t (NotJson e) h = λ k. no_text limit line t (NotJson e) h.1 k.1
no_cause limit max line t (TooLong m) h = λ k. not_longer max m line h.0 k.0 k.1

one_output : (limit max : Option ℕ) (line : List ℕ) (f g : Fate) → HasFate limit max line f → HasFate limit max line g
    → output_of f ≡ output_of g
one_output limit max line (Ok t) (Ok u) h k = text_output limit line t u h.1 k.1
one_output limit max line (Ok t) (Err c) h k = absurd (no_cause limit max line t c h k)
one_output limit max line (Err c) (Ok u) h k = absurd (no_cause limit max line u c k h)
one_output limit max line (Err c) (Err d) h k = refl

one_outputs : (limit max : Option ℕ) (ls : List (List ℕ)) (fs gs : List Fate) → HaveFates limit max ls fs → HaveFates limit max ls gs
    → outputs_of fs ≡ outputs_of gs
one_outputs limit max [] [] [] h k = refl
one_outputs limit max [] [] (g ∷ gs) h k = absurd k
one_outputs limit max [] (f ∷ fs) gs h k = absurd h
one_outputs limit max (l ∷ ls) [] gs h k = absurd h
one_outputs limit max (l ∷ ls) (f ∷ fs) [] h k = absurd k
one_outputs limit max (l ∷ ls) (f ∷ fs) (g ∷ gs) h k =
    ap (λ o. o ++ outputs_of fs) (one_output limit max l f g h.0 k.0) ∙ ap (λ o. output_of g ++ o) (one_outputs limit max ls fs gs h.1 k.1)

pub both_fates : (limit max : Option ℕ) (ls ms : List (List ℕ)) (fs gs : List Fate) → HaveFates limit max ls fs
    → HaveFates limit max ms gs → HaveFates limit max (ls ++ ms) (fs ++ gs)
both_fates limit max [] ms [] gs h k = k
both_fates limit max [] ms (f ∷ fs) gs h k = absurd h
both_fates limit max (l ∷ ls) ms [] gs h k = absurd h
both_fates limit max (l ∷ ls) ms (f ∷ fs) gs h k = (h.0, both_fates limit max ls ms fs gs h.1 k)

pub both_outputs : (fs gs : List Fate) → outputs_of (fs ++ gs) ≡ outputs_of fs ++ outputs_of gs
both_outputs [] gs = refl
both_outputs (f ∷ fs) gs = ap (λ o. output_of f ++ o) (both_outputs fs gs)
    ∙ sym (append_assoc (output_of f) (outputs_of fs) (outputs_of gs))

pub output_of_shares : OutputOfShares
output_of_shares limit max xs ys whole first rest w f r =
    one_outputs limit max (lines (ended xs ++ ys)) whole (first ++ rest) w
    (subst (λ ls. HaveFates limit max ls (first ++ rest)) (sym (lines_of_shares xs ys)) (both_fates limit max (lines (ended xs))
    (lines ys) first rest f r))
    ∙ both_outputs first rest
