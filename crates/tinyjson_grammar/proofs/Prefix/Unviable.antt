-- Within a numeral that is a key, or that begins with a zero too many, the strict machine accepts nothing.
use Rattle.std.proofs.Common.{◌≡◌, ℕ, Bool, true, false, List, [], ◌∷◌, ◌++◌, Option, Some, None, refl, ap, ◌∙◌, cond, append_assoc}
use Rattle.std.proofs.Common.{append-nil, arith, ◌&&◌, ◌||◌, ◌==◌, not}
use Rattle.std.proofs.lemmas.Bool.{cond_both, false≢true}
use Rattle.std.specs.Char.{is_ascii_digit}
use Rattle.tinyjson_grammar.specs.Kind.{kind_of}
use Rattle.tinyjson_grammar.specs.Tree as tree
use Rattle.tinyjson_number.specs.Numeral.{Numeral, has_leading_zero, in_range, value, is_exponent_letter}
use Rattle.tinyjson_grammar.specs.Syntax.{Syntax, text, is_key, tree_of, depth}
use Rattle.tinyjson_grammar.specs.Prefix.{IsValue, IsCutOffText, cut_off_text}
use Rattle.tinyjson_grammar.specs.Machine.{Rules, Frame, at_key, awaited, Next, next, stop, accepted, refused, complete, step, run, end}
use Rattle.tinyjson_grammar.specs.Machine.{end_digits, step_digits, finish, unless_ended, go_on, digits, Stage, integer, fraction, letter}
use Rattle.tinyjson_grammar.specs.Machine.{exponent}
use Rattle.tinyjson_grammar.specs.declared.error.JsonParseErrorKind.{JsonParseErrorKind}
use Rattle.tinyjson_grammar.specs.declared.error.JsonParseErrorKind.TheVariants.{KeyNotString, NumberOutOfRange, LeadingZero}
use Rattle.tinyjson_grammar.proofs.Accepts.Runs.{run_white}
use Rattle.tinyjson_grammar.proofs.Accepts.Value.{run_value, FitsDepth, Ends, ends, string_key}
use Rattle.tinyjson_grammar.proofs.Trace.Paths.{within_le}
use Rattle.tinyjson_grammar.proofs.Accepts.Text.{rules, no_text}
use Rattle.tinyjson_grammar.proofs.Prefix.CutOff.{BadKey, with_bad_key}

-- ---- what a character can do to a numeral

data Move (fs : List Frame) : Option Next → Type 0 where
  ends_here : Move fs None
  goes : (s : Stage) (n : Numeral) → Move fs (Some (next fs (digits s n)))
  stops : (k : JsonParseErrorKind) → Move fs (Some (stop k false))

move_cond : (fs : List Frame) (b : Bool) (x y : Option Next) → Move fs x → Move fs y → Move fs (cond b x y)
move_cond fs b x y p q = cond_both b x y (Move fs) (λ _. p) (λ _. q)

move_some : (fs : List Frame) (b : Bool) (x y : Next) → Move fs (Some x) → Move fs (Some y) → Move fs (Some (cond b x y))
move_some fs b x y p q = cond_both b x y (λ n. Move fs (Some n)) (λ _. p) (λ _. q)

move : (r : Rules) (fs : List Frame) (s : Stage) (n : Numeral) (c : ℕ) → Move fs (step_digits r fs s n c)
move r fs integer n c = move_cond fs (is_ascii_digit c) _ _ (goes _ _) (move_cond fs (r.strict && has_leading_zero n.integer) _ _ (stops _)
    (move_cond fs (c == 46) _ _ (goes _ _) (move_cond fs (is_exponent_letter c) _ _ (goes _ _) ends_here)))
move r fs fraction n c = move_cond fs (is_ascii_digit c) _ _ (goes _ _) (move_cond fs (is_exponent_letter c) _ _ (goes _ _) ends_here)
move r fs letter n c = move_some fs (is_ascii_digit c) _ _ (goes _ _) (move_some fs ((c == 43) || (c == 45)) _ _ (goes _ _) (stops _))
move r fs exponent n c = move_cond fs (is_ascii_digit c) _ _ (goes _ _) ends_here
move r fs _ n c = move_some fs (is_ascii_digit c) _ _ (goes _ _) (stops _)

-- ---- a numeral as a key

-- where it ends the machine stops
finish_key : (r : Rules) (ms : tree.Members) (fs : List Frame) (n : Numeral) → r.strict ≡ true
    → (k : JsonParseErrorKind) × (finish r (at_key ms ∷ fs) n ≡ stop k false)
finish_key r ms fs n h = rw h (stopped (not (in_range (value n))))
  where
    stopped : (b : Bool) → (k : JsonParseErrorKind)
        × (cond b (stop NumberOutOfRange false) (complete true (at_key ms ∷ fs) (tree.number (value n)) false) ≡ stop k false)
    stopped true = (_, refl)
    stopped false = (_, refl)

end_key : (r : Rules) (ms : tree.Members) (fs : List Frame) (s : Stage) (n : Numeral) (t : tree.Tree) → r.strict ≡ true
    → end_digits r (at_key ms ∷ fs) s n ≡ accepted t → ⊥
end_key r ms fs integer n t h e = cond_both (r.strict && has_leading_zero n.integer) _ _ (λ o. o ≡ accepted t
    → ⊥) (λ _. no_text _ _ t) (λ _. no_text _ _ t) (rw (finish_key r ms fs n h).1 at e)
end_key r ms fs fraction n t h e = no_text _ _ t (rw (finish_key r ms fs n h).1 at e)
end_key r ms fs exponent n t h e = no_text _ _ t (rw (finish_key r ms fs n h).1 at e)
end_key r ms fs _ n t h e = cc

keeps : (o : Option Next) (r : Rules) (ms : tree.Members) (fs : List Frame) (n : Numeral) (t : tree.Tree) (c : ℕ) (cs : List ℕ)
    → Move (at_key ms ∷ fs) o → r.strict ≡ true → ((s : Stage) (m : Numeral) → run r (at_key ms ∷ fs) (digits s m) cs ≡ accepted t → ⊥) →
    go_on (λ gs q. run r gs q cs) (unless_ended r (at_key ms ∷ fs) n c o) (c ∷ cs) cs ≡ accepted t → ⊥
keeps _ r ms fs n t c cs ends_here h g e = no_text _ _ t (rw (finish_key r ms fs n h).1 at e)
keeps _ r ms fs n t c cs (goes s m) h g e = g s m e
keeps _ r ms fs n t c cs (stops k) h g e = cc

pub key_unviable : (ys : List ℕ) (r : Rules) (ms : tree.Members) (fs : List Frame) (s : Stage) (n : Numeral) (t : tree.Tree)
    → r.strict ≡ true → run r (at_key ms ∷ fs) (digits s n) ys ≡ accepted t → ⊥
unfolding run step end
key_unviable [] r ms fs s n t h e = end_key r ms fs s n t h e
key_unviable (c ∷ cs) r ms fs s n t h e = keeps _ r ms fs n t c cs (move r (at_key ms ∷ fs) s n c) h
    (λ s' m. key_unviable cs r ms fs s' m t h) e

-- ---- a leading zero

zero_more : (w : List ℕ) (d : ℕ) → has_leading_zero w ≡ true → has_leading_zero (w ++ d ∷ []) ≡ true
zero_more (a ∷ b ∷ w) d h = h
zero_more _ d h = absurd (false≢true h)

zero_keeps : (b : Bool) (r : Rules) (fs : List Frame) (n m : Numeral) (t : tree.Tree) (c : ℕ) (cs : List ℕ)
    → (run r fs (digits integer m) cs ≡ accepted t → ⊥) →
    go_on (λ gs q. run r gs q cs) (unless_ended r fs n c (cond b (Some (next fs (digits integer m))) (Some (stop LeadingZero false))))
    (c ∷ cs) cs ≡ accepted t → ⊥
zero_keeps true r fs n m t c cs g e = g e
zero_keeps false r fs n m t c cs g e = cc

pub zero_unviable : (ys : List ℕ) (r : Rules) (fs : List Frame) (n : Numeral) (t : tree.Tree) → r.strict ≡ true
    → has_leading_zero n.integer ≡ true → run r fs (digits integer n) ys ≡ accepted t → ⊥
unfolding run step end
zero_unviable [] r fs n t h z e = no_text _ _ t (rw (h, z) at e)
zero_unviable (c ∷ cs) r fs n t h z e =
    let b : (r.strict && has_leading_zero n.integer) ≡ true = rw (h, z) in
    zero_keeps (is_ascii_digit c) r fs n (record n { integer = n.integer ++ c ∷ [] }) t c cs
    (zero_unviable cs r fs (record n { integer = n.integer ++ c ∷ [] }) t h (zero_more n.integer c z)) (rw b at e)

-- ---- a key that is not a string

pub refused_key : (r : Rules) (ms : tree.Members) (fs : List Frame) (s : Syntax) (ys : List ℕ) → r.strict ≡ true → IsValue s
    → is_key s ≡ false → FitsDepth r (at_key ms ∷ fs) (depth s) → Ends s ys →
    run r (at_key ms ∷ fs) awaited (text s ++ ys) ≡ refused (KeyNotString (kind_of (tree_of s))) ys
refused_key r ms fs s ys h v b m d = run_value s r (at_key ms ∷ fs) ys v.spelled (λ e. v.strict) m d ∙ rw (h, string_key s, b)

-- ---- texts that end with their first key that is not a string

pub cut_off_key : (limit : Option ℕ) (xs : List ℕ) (h : IsCutOffText limit xs) → BadKey (rules true limit) [] h.cut_off
cut_off_key limit xs h = with_bad_key h.cut_off (rules true limit) [] h.is_cut_off (within_le limit _ _ h.shallow (omega arith))

cut_off_reads : (limit : Option ℕ) (xs : List ℕ) (h : IsCutOffText limit xs) (ys : List ℕ) →
    run (rules true limit) [] awaited (xs ++ ys) ≡ run (rules true limit)
    (at_key (cut_off_key limit xs h).members ∷ (cut_off_key limit xs h).frames) awaited (text (cut_off_key limit xs h).key ++ ys)
cut_off_reads limit xs h ys = ap (λ zs. run (rules true limit) [] awaited (zs ++ ys)) h.whole
    ∙ rw (append_assoc h.before (cut_off_text h.cut_off) ys) (run_white (rules true limit) [] h.before _ h.white_before
    ∙ (cut_off_key limit xs h).reads ys)

pub cut_off_refused : (limit : Option ℕ) (xs : List ℕ) (h : IsCutOffText limit xs) (ys : List ℕ) → Ends (cut_off_key limit xs h).key ys →
    run (rules true limit) [] awaited (xs ++ ys) ≡ refused (KeyNotString (kind_of (tree_of (cut_off_key limit xs h).key))) ys
cut_off_refused limit xs h ys d = let b = cut_off_key limit xs h in
    cut_off_reads limit xs h ys ∙ refused_key (rules true limit) b.members b.frames b.key ys refl b.value b.no_string b.fits_depth d

-- the end after it
pub cut_off_end : (limit : Option ℕ) (xs : List ℕ) → IsCutOffText limit xs
    → (t : tree.Tree) × (run (rules true limit) [] awaited xs ≡ refused (KeyNotString (kind_of t)) [])
cut_off_end limit xs h = (_, rw (append-nil xs) at (cut_off_refused limit xs h [] (ends (cut_off_key limit xs h).key [] tt)))
