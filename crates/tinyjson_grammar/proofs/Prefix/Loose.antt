-- Each step of the strict machine that does not stop is a step of the loose one.
use Rattle.std.proofs.Common.{◌≡◌, ℕ, Bool, true, false, List, [], ◌∷◌, ◌++◌, Option, Some, None, refl, sym, subst, ◌∙◌, ◌⊎◌, inl, inr}
use Rattle.std.proofs.Common.{cond, ◌&&◌, ◌==◌, not, nat_lt}
use Rattle.std.specs.Prelude.{⊤}
use Rattle.std.specs.Char.{is_ascii_digit}
use Rattle.tinyjson_number.specs.Numeral.{Numeral, has_leading_zero, in_range, value}
use Rattle.tinyjson_grammar.specs.Tree.{Tree, Members, key_of, is_string, array, object, string, number, items_of}
use Rattle.tinyjson_grammar.specs.Characters.{is_white, short_escape, decode, paired}
use Rattle.tinyjson_grammar.specs.Machine.{Frame, in_array, at_key, at_value, Phase, first, literal, digits, quoted, colon, after, Stage}
use Rattle.tinyjson_grammar.specs.Machine.{integer, Within, plain, backslash, hex, Next, next, stop, complete, finish, step, step_plain}
use Rattle.tinyjson_grammar.specs.Machine.{step_first, step_after, step_literal, step_quoted, step_escape, step_digits, then_step}
use Rattle.tinyjson_grammar.specs.Machine.{unless_ended}
use Rattle.tinyjson_grammar.specs.declared.kind.JsonKind.{JsonKind}
use Rattle.tinyjson_grammar.specs.declared.error.JsonParseErrorKind.{JsonParseErrorKind}
use Rattle.tinyjson_grammar.specs.declared.error.JsonParseErrorKind.TheVariants.{KeyNotString, InvalidUtf16, LeadingZero, NumberOutOfRange}
use Rattle.tinyjson_grammar.proofs.Accepts.Text.{rules}
use Rattle.std.proofs.lemmas.Bool.{cond_both, true≢false, false≢true}

-- the kinds of the four conditions
abbrev pub is_own : JsonParseErrorKind → Bool
is_own (KeyNotString k) = true
is_own InvalidUtf16 = true
is_own LeadingZero = true
is_own NumberOutOfRange = true
is_own _ = false

-- after a key that is not a string the loose machine awaits the colon
abbrev pub GoesOn : JsonParseErrorKind → Next → Type 0
GoesOn (KeyNotString k) m = (fs : List Frame) × (ms : Members) × (l : List ℕ) × (m ≡ next (at_key ms ∷ fs) (colon l))
GoesOn _ m = ⊤

-- The loose step is the strict one, or the strict one stops by one of the four conditions.
pub data Same : Next → Next → Type 0 where
  same : (m : Next) → Same m m
  own : (k : JsonParseErrorKind) (b : Bool) (m : Next) → is_own k ≡ true → (b ≡ true → GoesOn k m) → Same (stop k b) m

same_cond : (b : Bool) (x y x' y' : Next) → Same x x' → Same y y' → Same (cond b x y) (cond b x' y')
same_cond true x y x' y' h g = h
same_cond false x y x' y' h g = g

-- a condition of the strict machine alone
same_own : (b : Bool) (k : JsonParseErrorKind) (t : Bool) (m m' : Next) → is_own k ≡ true → (t ≡ true → GoesOn k m') → Same m m'
    → Same (cond (true && b) (stop k t) m) (cond (false && b) (stop k t) m')
same_own true k t m m' o g h = own k t m' o g
same_own false k t m m' o g h = h

same_complete : (fs : List Frame) (t : Tree) (b : Bool) → Same (complete true fs t b) (complete false fs t b)
same_complete [] t b = same _
same_complete (at_key ms ∷ fs) t b = same_own (not (is_string t)) _ b _ _ refl (λ e. (fs, ms, key_of t, refl)) (same _)
same_complete _ t b = same _

same_first : (limit : Option ℕ) (fs : List Frame) (c : ℕ) → Same (step_first (rules true limit) fs c) (step_first (rules false limit) fs c)
same_first limit [] c = same _
same_first limit (in_array ts ∷ fs) c = same_cond (c == 93) _ _ _ _ (same_complete fs (array (items_of ts)) true) (same _)
same_first limit (at_key ms ∷ fs) c = same_cond (c == 125) _ _ _ _ (same_complete fs (object ms) true) (same _)
same_first limit (at_value ms k ∷ fs) c = same _

same_after : (limit : Option ℕ) (fs : List Frame) (c : ℕ) → Same (step_after (rules true limit) fs c) (step_after (rules false limit) fs c)
same_after limit [] c = same _
same_after limit (in_array ts ∷ fs) c = same_cond (c == 44) _ _ _ _ (same _)
    (same_cond (c == 93) _ _ _ _ (same_complete fs (array (items_of ts)) true) (same _))
same_after limit (at_key ms ∷ fs) c = same_cond (c == 44) _ _ _ _ (same _)
    (same_cond (c == 125) _ _ _ _ (same_complete fs (object ms) true) (same _))
same_after limit (at_value ms k ∷ fs) c = same _

same_literal : (limit : Option ℕ) (fs : List Frame) (ls : List ℕ) (t : Tree) (c : ℕ)
    → Same (step_literal (rules true limit) fs ls t c) (step_literal (rules false limit) fs ls t c)
same_literal limit fs (l ∷ []) t c = same_cond (c == l) _ _ _ _ (same_complete fs t true) (same _)
same_literal limit fs _ t c = same _

same_escape : (limit : Option ℕ) (fs : List Frame) (cs us : List ℕ) (c : ℕ) (o : Option ℕ)
    → Same (step_escape (rules true limit) fs cs us c o) (step_escape (rules false limit) fs cs us c o)
same_escape limit fs cs us c None = same _
same_escape limit fs cs us c (Some d) = same_own (not (paired us)) InvalidUtf16 true _ _ refl (λ e. tt) (same _)

same_quoted : (limit : Option ℕ) (fs : List Frame) (w : Within) (cs us : List ℕ) (c : ℕ)
    → Same (step_quoted (rules true limit) fs w cs us c) (step_quoted (rules false limit) fs w cs us c)
same_quoted limit fs plain cs us c = same_cond (c == 34) _ _ _ _ (same_own (not (paired us)) InvalidUtf16 true _ _ refl (λ e. tt)
    (same_complete fs (string (cs ++ decode us)) true)) (same_cond (c == 92) _ _ _ _ (same _) (same_cond (nat_lt c 32) _ _ _ _ (same _)
    (same_own (not (paired us)) InvalidUtf16 true _ _ refl (λ e. tt) (same _))))
same_quoted limit fs backslash cs us c = same_escape limit fs cs us c (short_escape c)
same_quoted limit fs (hex ds) cs us c = same _

same_plain : (limit : Option ℕ) (fs : List Frame) (p : Phase) (c : ℕ)
    → Same (step_plain (rules true limit) fs p c) (step_plain (rules false limit) fs p c)
same_plain limit fs first c = same_cond (is_white c) _ _ _ _ (same _) (same_first limit fs c)
same_plain limit fs (literal ls t) c = same_literal limit fs ls t c
same_plain limit fs (quoted w cs us) c = same_quoted limit fs w cs us c
same_plain limit fs after c = same_cond (is_white c) _ _ _ _ (same _) (same_after limit fs c)
same_plain limit fs _ c = same _

-- a numeral that ends does not take the character after it
abbrev IsLeft : Next → Type 0
IsLeft (next fs p) = ⊤
IsLeft (stop k true) = ⊥
IsLeft (stop k false) = ⊤

left_complete : (fs : List Frame) (t : Tree) → IsLeft (complete true fs t false)
left_complete (at_key ms ∷ fs) t = cond_both (not (is_string t)) _ _ IsLeft (λ _. tt) (λ _. tt)
left_complete _ t = tt

left_finish : (limit : Option ℕ) (fs : List Frame) (n : Numeral) → IsLeft (finish (rules true limit) fs n)
left_finish limit fs n = cond_both (not (in_range (value n))) _ _ IsLeft (λ _. tt) (λ _. left_complete fs (number (value n)))

same_then : (limit : Option ℕ) (m m' : Next) (c : ℕ) → IsLeft m → Same m m'
    → Same (then_step (rules true limit) m c) (then_step (rules false limit) m' c)
same_then limit _ _ c i (same (next fs p)) = same_plain limit fs p c
same_then limit _ _ c i (same (stop k b)) = same _
same_then limit _ _ c i (own k true m o g) = elim i [ ]
same_then limit _ _ c i (own k false m o g) = own k false _ o (λ e. absurd (false≢true e))

same_finish : (limit : Option ℕ) (fs : List Frame) (n : Numeral) → Same (finish (rules true limit) fs n) (finish (rules false limit) fs n)
same_finish limit fs n = same_own (not (in_range (value n))) NumberOutOfRange false _ _ refl (λ e. tt)
    (same_complete fs (number (value n)) false)

data Same_moves : Option Next → Option Next → Type 0 where
  same_moves : (o : Option Next) → Same_moves o o
  own_move : (k : JsonParseErrorKind) (o : Option Next) → is_own k ≡ true → Same_moves (Some (stop k false)) o

moves_cond : (b : Bool) (x y x' y' : Option Next) → Same_moves x x' → Same_moves y y' → Same_moves (cond b x y) (cond b x' y')
moves_cond true x y x' y' h g = h
moves_cond false x y x' y' h g = g

moves_own : (b : Bool) (k : JsonParseErrorKind) (o : Option Next) → is_own k ≡ true
    → Same_moves (cond (true && b) (Some (stop k false)) o) (cond (false && b) (Some (stop k false)) o)
moves_own true k o h = own_move k o h
moves_own false k o h = same_moves o

same_digits : (limit : Option ℕ) (fs : List Frame) (s : Stage) (n : Numeral) (c : ℕ)
    → Same_moves (step_digits (rules true limit) fs s n c) (step_digits (rules false limit) fs s n c)
same_digits limit fs integer n c = moves_cond (is_ascii_digit c) _ _ _ _ (same_moves _)
    (moves_own (has_leading_zero n.integer) LeadingZero _ refl)
same_digits limit fs _ n c = same_moves _

same_ended : (limit : Option ℕ) (fs : List Frame) (n : Numeral) (c : ℕ) (o o' : Option Next) → Same_moves o o'
    → Same (unless_ended (rules true limit) fs n c o) (unless_ended (rules false limit) fs n c o')
same_ended limit fs n c _ _ (same_moves None) = same_then limit (finish (rules true limit) fs n) (finish (rules false limit) fs n) c
    (left_finish limit fs n) (same_finish limit fs n)
same_ended limit fs n c _ _ (same_moves (Some m)) = same m
same_ended limit fs n c _ _ (own_move k o h) = own k false _ h (λ e. absurd (false≢true e))

pub same_step : (limit : Option ℕ) (fs : List Frame) (p : Phase) (c : ℕ)
    → Same (step (rules true limit) fs p c) (step (rules false limit) fs p c)
unfolding step
same_step limit fs first c = same_plain limit fs first c
same_step limit fs (literal ls t) c = same_literal limit fs ls t c
same_step limit fs (digits s n) c = same_ended limit fs n c _ _ (same_digits limit fs s n c)
same_step limit fs (quoted w cs us) c = same_quoted limit fs w cs us c
same_step limit fs after c = same_plain limit fs after c
same_step limit fs _ c = same _

-- ---- what follows of it

same_next : (m m' : Next) (gs : List Frame) (q : Phase) → Same m m' → m ≡ next gs q → m' ≡ next gs q
same_next _ _ gs q (same m) e = e
same_next _ _ gs q (own k b m o g) e = absurd cc

same_stop : (m m' : Next) (k : JsonParseErrorKind) (b : Bool) → Same m m' → is_own k ≡ false → m ≡ stop k b → m' ≡ stop k b
same_stop _ _ k b (same m) h e = e
same_stop _ _ k b (own j d m o g) h e = let a : j ≡ k = cc in absurd (true≢false (sym (rw a at o) ∙ h))

pub strict_next : (limit : Option ℕ) (fs gs : List Frame) (p q : Phase) (c : ℕ) → step (rules true limit) fs p c ≡ next gs q
    → step (rules false limit) fs p c ≡ next gs q
strict_next limit fs gs p q c e = same_next _ _ gs q (same_step limit fs p c) e

pub strict_stop : (limit : Option ℕ) (fs : List Frame) (p : Phase) (c : ℕ) (k : JsonParseErrorKind) (b : Bool) → is_own k ≡ false
    → step (rules true limit) fs p c ≡ stop k b → step (rules false limit) fs p c ≡ stop k b
strict_stop limit fs p c k b h e = same_stop _ _ k b (same_step limit fs p c) h e

same_key : (m m' : Next) (k : JsonKind) → Same m m' → m ≡ stop (KeyNotString k) true
    → (m' ≡ stop (KeyNotString k) true) ⊎ GoesOn (KeyNotString k) m'
same_key _ _ k (same m) e = inl e
same_key _ _ k (own j d m o g) e = let a : j ≡ KeyNotString k = cc in let b : d ≡ true = cc in inr (subst (λ x. GoesOn x m) a (g b))

-- where the strict machine stops at a key that is not a string, the loose one awaits the colon
pub strict_key : (limit : Option ℕ) (fs : List Frame) (p : Phase) (c : ℕ) (k : JsonKind)
    → step (rules true limit) fs p c ≡ stop (KeyNotString k) true →
    (step (rules false limit) fs p c ≡ stop (KeyNotString k) true) ⊎ GoesOn (KeyNotString k) (step (rules false limit) fs p c)
strict_key limit fs p c k e = same_key _ _ k (same_step limit fs p c) e
