-- Where the machine stands after characters without error, and where a value is awaited.
use Rattle.std.proofs.Common.{suc, ◌≡◌, ℕ, Bool, true, false, List, [], ◌∷◌, ◌++◌, Option, Some, None, refl, ap, sym, ◌∙◌, cond}
use Rattle.std.proofs.Common.{append_assoc, append-nil, arith, subst, ◌⊎◌, inl, inr, ⊎_elim, IsTrue, ◌==◌, ◌&&◌, not}
use Rattle.std.proofs.lemmas.Bool.{and_parts, not-true}
use Rattle.std.specs.Prelude.{All}
use Rattle.std.specs.Char.{IsScalar}
use Rattle.tinyjson_grammar.specs.Characters.{is_white, short_escape}
use Rattle.tinyjson_grammar.specs.Prefix.{IsErrorFree, IsLooselyViable, IsCutOffText}
use Rattle.tinyjson_grammar.specs.Grammar.{IsAccepted}
use Rattle.tinyjson_grammar.specs.Kind.{kind_of}
use Rattle.tinyjson_grammar.specs.Machine
use Rattle.tinyjson_grammar.specs.Machine.{Rules, strictly, Frame, in_array, at_key, at_value, Phase, first, awaited, literal, digits}
use Rattle.tinyjson_grammar.specs.Machine.{quoted, colon, after, finished, Stage, Next, next, stop, accepted, refused, rest_of, start}
use Rattle.tinyjson_grammar.specs.Machine.{step_first, step_plain, then_step, unless_ended, finish, step_digits, step, run}
use Rattle.tinyjson_grammar.specs.Refusal.{AwaitsValue, IsLiteral}
use Rattle.tinyjson_grammar.specs.Syntax.{Syntax, text, tree_of}
use Rattle.tinyjson_grammar.specs.Tree.{Tree, Members}
use Rattle.tinyjson_number.specs.Numeral.{numeral, Numeral}
use Rattle.tinyjson_grammar.specs.declared.kind.JsonKind.{JsonKind}
use Rattle.tinyjson_grammar.specs.declared.error.JsonParseErrorKind.{JsonParseErrorKind}
use Rattle.tinyjson_grammar.specs.declared.error.JsonParseErrorKind.TheVariants.{KeyNotString, TooDeep}
use Rattle.tinyjson_grammar.proofs.Callers.{ranges}
use Rattle.tinyjson_grammar.proofs.Callers.Laws.{cut_off_end, Path, outside, item_in, key_in, path_text, path_frames, IsPath, strict_key}
use Rattle.tinyjson_grammar.proofs.Callers.Laws.{Reached, reached_next, step_spells, spells_viable, start_spells, run_next, Read, at_first}
use Rattle.tinyjson_grammar.proofs.Callers.Laws.{at_awaited, in_literal, in_digits, in_quoted, at_after, Part, part_minus, part_integer}
use Rattle.tinyjson_grammar.proofs.Callers.Laws.{part_fraction, part_exponent, part_stage, part_numeral, read_text, read_frames, read_phase}
use Rattle.tinyjson_grammar.proofs.Callers.Laws.{IsRead, IsFresh, IsWithinLiteral, Spells, exponent_with, rules, text_accepted}
use Rattle.tinyjson_grammar.proofs.Callers.Laws.{loose_accepted, Follows, loosely, Begins, first_array, first_object, no_text}

-- ---- with no limit the machine does the same, but where a container is one too many

pub data Wide : Next → Next → Type 0 where
  wide : (m : Next) → Wide m m
  deep : (c : ℕ) (m : Next) → Wide (stop (TooDeep c) false) m

wide_cond : (b : Bool) (x y x' y' : Next) → Wide x x' → Wide y y' → Wide (cond b x y) (cond b x' y')
wide_cond true x y x' y' h g = h
wide_cond false x y x' y' h g = g

wide_push : (b : Bool) (c : ℕ) (m : Next) → Wide (cond b m (stop (TooDeep c) false)) m
wide_push true c m = wide m
wide_push false c m = deep c m

module _ (limit : Option ℕ) where
  wide_start : (fs : List Frame) (c : ℕ) → Wide (start (strictly limit) fs c) (start (strictly None) fs c)
  wide_start fs c = wide_cond (c == 110) _ _ _ _ (wide _) (wide_cond (c == 116) _ _ _ _ (wide _)
      (wide_cond (c == 102) _ _ _ _ (wide _) (wide_cond (c == 34) _ _ _ _ (wide _)
      (wide_cond (c == 91) _ _ _ _ (wide_push _ c _) (wide_cond (c == 123) _ _ _ _ (wide_push _ c _) (wide _))))))

  wide_first : (fs : List Frame) (c : ℕ) → Wide (step_first (strictly limit) fs c) (step_first (strictly None) fs c)
  wide_first (in_array ts ∷ fs) c = wide_cond (c == 93) _ _ _ _ (wide _) (wide_start (in_array ts ∷ fs) c)
  wide_first (at_key ms ∷ fs) c = wide_cond (c == 125) _ _ _ _ (wide _) (wide_start (at_key ms ∷ fs) c)
  wide_first x c = wide_start x c

  wide_plain : (fs : List Frame) (p : Phase) (c : ℕ) → Wide (step_plain (strictly limit) fs p c) (step_plain (strictly None) fs p c)
  wide_plain fs first c = wide_cond (is_white c) _ _ _ _ (wide _) (wide_first fs c)
  wide_plain fs awaited c = wide_cond (is_white c) _ _ _ _ (wide _) (wide_start fs c)
  wide_plain fs (literal [] t) c = wide _
  wide_plain fs (literal (l ∷ []) t) c = wide _
  wide_plain fs (literal (l ∷ m ∷ ls) t) c = wide _
  wide_plain fs (digits s n) c = wide _
  wide_plain fs (quoted Machine.plain cs us) c = wide _
  wide_plain fs (quoted Machine.backslash cs us) c = wide_escape (short_escape c)
    where
      wide_escape : (o : Option ℕ) → Wide (Machine.step_escape (strictly limit) fs cs us c o)
          (Machine.step_escape (strictly None) fs cs us c o)
      wide_escape None = wide _
      wide_escape (Some d) = wide _
  wide_plain fs (quoted (Machine.hex ds) cs us) c = wide _
  wide_plain fs (colon k) c = wide _
  wide_plain [] after c = wide _
  wide_plain (in_array ts ∷ fs) after c = wide _
  wide_plain (at_key ms ∷ fs) after c = wide _
  wide_plain (at_value ms k ∷ fs) after c = wide _
  wide_plain fs (finished t) c = wide _

  wide_then : (m : Next) (c : ℕ) → Wide (then_step (strictly limit) m c) (then_step (strictly None) m c)
  wide_then (next fs p) c = wide_plain fs p c
  wide_then (stop k b) c = wide _

  wide_ended : (fs : List Frame) (n : Numeral) (c : ℕ) (o : Option Next)
      → Wide (unless_ended (strictly limit) fs n c o) (unless_ended (strictly None) fs n c o)
  wide_ended fs n c None = wide_then (finish (strictly limit) fs n) c
  wide_ended fs n c (Some m) = wide _

  wide_digits : (fs : List Frame) (s : Stage) (n : Numeral) (c : ℕ)
      → Wide (unless_ended (strictly limit) fs n c (step_digits (strictly limit) fs s n c))
      (unless_ended (strictly None) fs n c (step_digits (strictly None) fs s n c))
  wide_digits fs Machine.minus n c = wide _
  wide_digits fs Machine.integer n c = wide_ended fs n c (step_digits (strictly limit) fs Machine.integer n c)
  wide_digits fs Machine.point n c = wide _
  wide_digits fs Machine.fraction n c = wide_ended fs n c (step_digits (strictly limit) fs Machine.fraction n c)
  wide_digits fs Machine.letter n c = wide _
  wide_digits fs Machine.sign n c = wide _
  wide_digits fs Machine.exponent n c = wide_ended fs n c (step_digits (strictly limit) fs Machine.exponent n c)

  pub wide_step : (fs : List Frame) (p : Phase) (c : ℕ) → Wide (step (strictly limit) fs p c) (step (strictly None) fs p c)
  unfolding step
  wide_step fs first c = wide_plain fs first c
  wide_step fs (digits s n) c = wide_digits fs s n c
  wide_step fs x c = wide_plain fs x c

wide_next : (m m' : Next) (gs : List Frame) (p : Phase) → Wide m m' → m ≡ next gs p → m' ≡ next gs p
wide_next _ _ gs p (wide m) e = e
wide_next _ _ gs p (deep c m) e = absurd cc

pub wide_stop : (m m' : Next) (k : JsonKind) (b : Bool) → Wide m m' → m ≡ stop (KeyNotString k) b → m' ≡ stop (KeyNotString k) b
wide_stop _ _ k b (wide m) e = e
wide_stop _ _ k b (deep c m) e = absurd cc

-- ---- the machine stands so after what was read, with the limit and without

pub record Stands (limit : Option ℕ) (used : List ℕ) (fs : List Frame) (q : Phase) : Type 0 where
  pub reached : Reached limit used fs q
  pub free : Reached None used fs q
  pub spells : Spells limit used fs q

pub stands_viable : (limit : Option ℕ) (used : List ℕ) (fs : List Frame) (q : Phase) → Stands limit used fs q → IsLooselyViable limit used
stands_viable limit used fs q s = spells_viable limit used fs q s.spells

pub stands_start : (limit : Option ℕ) → Stands limit [] [] awaited
stands_start limit = record { reached = λ b ys. refl; free = λ b ys. refl; spells = start_spells limit }

pub stands_follows : (limit : Option ℕ) (used : List ℕ) (fs : List Frame) (q : Phase) → Stands limit used fs q → (c : ℕ) → IsScalar c
    → Follows limit used fs q c (step (strictly limit) fs q c)
stands_follows limit used fs q s c hc = step_spells ranges limit used fs q s.spells c hc

pub stands_next : (limit : Option ℕ) (used : List ℕ) (fs gs : List Frame) (q p : Phase) (c : ℕ) → IsScalar c → Stands limit used fs q
    → step (strictly limit) fs q c ≡ next gs p → Stands limit (used ++ c ∷ []) gs p
stands_next limit used fs gs q p c hc s e = record {
  reached = reached_next limit used fs gs q p c s.reached e;
  free = reached_next None used fs gs q p c s.free (wide_next _ _ gs p (wide_step limit fs q c) e);
  spells = subst (Follows limit used fs q c) e (stands_follows limit used fs q s c hc);
}

pub run_stop : (r : Rules) (fs : List Frame) (q : Phase) (c : ℕ) (k : JsonParseErrorKind) (b : Bool) (ys : List ℕ)
    → step r fs q c ≡ stop k b → run r fs q (c ∷ ys) ≡ refused k (rest_of b c ys)
unfolding run
run_stop r fs q c k true ys e = rw e
run_stop r fs q c k false ys e = rw e

pub stands_stop : (limit : Option ℕ) (used : List ℕ) (fs : List Frame) (q : Phase) → Stands limit used fs q
    → (c : ℕ) (k : JsonParseErrorKind) (b : Bool) → step (strictly limit) fs q c ≡ stop k b → (ys : List ℕ) →
    run (strictly limit) [] awaited (used ++ c ∷ ys) ≡ refused k (rest_of b c ys)
stands_stop limit used fs q s c k b e ys = s.reached true (c ∷ ys) ∙ run_stop (strictly limit) fs q c k b ys e

-- ---- it goes over a list, or stops in it

abbrev pub Goes : Option ℕ → List ℕ → Type 0
Goes limit xs = (fs : List Frame) × (q : Phase) × Stands limit xs fs q

abbrev pub Halts : Option ℕ → List ℕ → Type 0
Halts limit xs =
    (prefix : List ℕ) × (c : ℕ) × (more : List ℕ) × (xs ≡ prefix ++ c ∷ more) × (fs : List Frame) × (q : Phase) × Stands limit prefix fs q
    × (k : JsonParseErrorKind) × (b : Bool) × (step (strictly limit) fs q c ≡ stop k b)

travel_on : (limit : Option ℕ) (zs : List ℕ) (c : ℕ) (cs : List ℕ) → IsScalar c → (used : List ℕ) (fs : List Frame) (q : Phase)
    → Stands limit used fs q → zs ≡ used ++ c ∷ cs → (n : Next) → step (strictly limit) fs q c ≡ n →
    ((gs : List Frame) (p : Phase) → Stands limit (used ++ c ∷ []) gs p → Goes limit zs ⊎ Halts limit zs) → Goes limit zs ⊎ Halts limit zs
travel_on limit zs c cs a used fs q s e (next gs p) i on = on gs p (stands_next limit used fs gs q p c a s i)
travel_on limit zs c cs a used fs q s e (stop k b) i on = inr (used, c, cs, e, fs, q, s, k, b, i)

travel : (limit : Option ℕ) (zs xs : List ℕ) → All IsScalar xs → (used : List ℕ) (fs : List Frame) (q : Phase) → Stands limit used fs q
    → zs ≡ used ++ xs → Goes limit zs ⊎ Halts limit zs
travel limit zs [] a used fs q s e = inl (fs, q, subst (λ xs. Stands limit xs fs q) (sym (e ∙ append-nil used)) s)
travel limit zs (c ∷ cs) a used fs q s e = travel_on limit zs c cs (a 0 0 (omega arith)) used fs q s e (step (strictly limit) fs q c) refl
    (λ gs p i. travel limit zs cs (λ k d l. a (suc k) d (omega (arith, l))) (used ++ c ∷ []) gs p i (e
    ∙ sym (append_assoc used (c ∷ []) cs)))

pub goes_or_halts : (limit : Option ℕ) (xs : List ℕ) → All IsScalar xs → Goes limit xs ⊎ Halts limit xs
goes_or_halts limit xs a = travel limit xs xs a [] [] awaited (stands_start limit) refl

pub halts_run : (limit : Option ℕ) (xs : List ℕ) (h : Halts limit xs) (ys : List ℕ)
    → run (strictly limit) [] awaited (xs ++ ys) ≡ refused h.7 (rest_of h.8 h.1 (h.2 ++ ys))
halts_run limit xs h ys = rw h.3 (rw (append_assoc h.0 (h.1 ∷ h.2) ys) (stands_stop limit h.0 h.4 h.5 h.6 h.1 h.7 h.8 h.9 (h.2 ++ ys)))

-- ---- after a list without error

-- its last character is the end of a key that is not a string
abbrev pub EndsKey : Option ℕ → List ℕ → Type 0
EndsKey limit xs = (prefix : List ℕ) × (c : ℕ) × (xs ≡ prefix ++ c ∷ []) × (fs : List Frame) × (q : Phase) × Stands limit prefix fs q
    × (k : JsonKind) × (step (strictly limit) fs q c ≡ stop (KeyNotString k) true)

pub accepted_refused : (t : Tree) (k : JsonParseErrorKind) (xs : List ℕ) → accepted t ≡ refused k xs → ⊥
accepted_refused t k xs e = cc

ends_key : (limit : Option ℕ) (xs ys : List ℕ) (k : JsonKind) → (h : Halts limit xs)
    → refused h.7 (rest_of h.8 h.1 (h.2 ++ ys)) ≡ refused (KeyNotString k) [] → EndsKey limit xs
ends_key limit xs ys k (prefix, c, more, e, fs, q, s, j, false, i) g = absurd cc
ends_key limit xs ys k (prefix, c, (m ∷ more), e, fs, q, s, j, true, i) g = absurd cc
ends_key limit xs ys k (prefix, c, [], e, fs, q, s, j, true, i) g = let a : j ≡ KeyNotString k =
    cc in (prefix, c, e, fs, q, s, k, i ∙ ap (λ x. stop x true) a)

pub error_free_stands : (limit : Option ℕ) (xs : List ℕ) → All IsScalar xs → IsErrorFree limit xs → Goes limit xs ⊎ EndsKey limit xs
error_free_stands limit xs a f = ⊎_elim inl (λ h. inr (⊎_elim (taken h) (cut h) f.1)) (goes_or_halts limit xs a)
  where
    taken : Halts limit xs → IsAccepted limit (xs ++ f.0) → EndsKey limit xs
    taken h t = absurd (accepted_refused t.0 _ _ (sym (text_accepted limit (xs ++ f.0) t.0 t.1) ∙ halts_run limit xs h f.0))

    cut : Halts limit xs → IsCutOffText limit (xs ++ f.0) → EndsKey limit xs
    cut h t = let e = cut_off_end limit (xs ++ f.0) t in ends_key limit xs f.0 (kind_of e.0) h (sym (halts_run limit xs h f.0) ∙ e.1)

-- ---- a letter of a literal is no such character

abbrev pub lacks : ℕ → List ℕ → Bool
lacks n [] = true
lacks n (c ∷ cs) = not (n == c) && lacks n cs

lacks_after : (n : ℕ) (xs : List ℕ) (l : ℕ) (ls : List ℕ) → IsTrue (lacks n (xs ++ l ∷ ls)) → (n == l) ≡ false
lacks_after n [] l ls h = not-true (n == l) (and_parts _ _ h).0
lacks_after n (x ∷ xs) l ls h = lacks_after n xs l ls (and_parts _ _ h).1

abbrev pub IsNoLetter : ℕ → Type 0
IsNoLetter n = IsTrue (lacks n (text Syntax.null)) × IsTrue (lacks n (text (Syntax.boolean true)))
    × IsTrue (lacks n (text (Syntax.boolean false)))

literal_lacks : (n : ℕ) → IsNoLetter n → (l : List ℕ) → IsLiteral l → IsTrue (lacks n l)
literal_lacks n h l (inl e) = rw e h.0
literal_lacks n h l (inr (inl e)) = rw e h.1
literal_lacks n h l (inr (inr e)) = rw e h.2

pub within_lacks : (n : ℕ) → IsNoLetter n → (s : Syntax) (done : List ℕ) (l : ℕ) (left : List ℕ) → IsWithinLiteral s done (l ∷ left)
    → (n == l) ≡ false
within_lacks n h s done l left w = lacks_after n done l left
    (subst (λ xs. IsTrue (lacks n xs)) w.whole (literal_lacks n h (text s) w.is_literal))

-- ---- where a value is awaited

-- no line feed and quote may follow
abbrev NoLine : Option ℕ → List Frame → Phase → Type 0
NoLine limit fs q = (ys : List ℕ) (t : Tree) → run (loosely limit) fs q (10 ∷ 34 ∷ ys) ≡ accepted t → ⊥

line_literal : (limit : Option ℕ) (fs : List Frame) (l : ℕ) (ls : List ℕ) (t : Tree) → (10 == l) ≡ false
    → NoLine limit fs (literal (l ∷ ls) t)
unfolding run step
line_literal limit fs l [] t h ys u e = no_text _ _ u (rw h at e)
line_literal limit fs l (m ∷ ls) t h ys u e = no_text _ _ u (rw h at e)

line_ends : (limit : Option ℕ) (p : Path) (n : Numeral) (ys : List ℕ) (t : Tree) →
    Machine.go_on (λ gs q. run (loosely limit) gs q (34 ∷ ys)) (then_step (loosely limit) (finish (loosely limit) (path_frames p) n) 10)
    (10 ∷ 34 ∷ ys) (34 ∷ ys) ≡ accepted t → ⊥
unfolding run step
line_ends limit (outside w) n ys t e = no_text _ _ t e
line_ends limit _ n ys t e = no_text _ _ t e

line_digits : (limit : Option ℕ) (p : Path) (n : Part) → NoLine limit (path_frames p) (digits (part_stage n) (part_numeral n))
unfolding run step
line_digits limit p part_minus ys t e = no_text _ _ t e
line_digits limit p (part_integer b d ds) ys t e = line_ends limit p (numeral b (d ∷ ds) [] None) ys t e
line_digits limit p (part_fraction b d ds x xs) ys t e = line_ends limit p (numeral b (d ∷ ds) (x ∷ xs) None) ys t e
line_digits limit p (part_exponent b d ds f l s x xs) ys t e =
    line_ends limit p (numeral b (d ∷ ds) f (Some (exponent_with l s (x ∷ xs)))) ys t e
line_digits limit p _ ys t e = no_text _ _ t e

line_quoted : (limit : Option ℕ) (fs : List Frame) (w : Machine.Within) (cs us : List ℕ) → NoLine limit fs (quoted w cs us)
unfolding run step
line_quoted limit fs Machine.plain cs us ys t e = no_text _ _ t e
line_quoted limit fs _ cs us ys t e = no_text _ _ t e

line_after : (limit : Option ℕ) (p : Path) (s : Syntax) (v : List ℕ)
    → NoLine limit (read_frames (at_after p s v)) (read_phase (at_after p s v))
unfolding run step
line_after limit (outside w) s v ys t e = no_text _ _ t e
line_after limit _ s v ys t e = no_text _ _ t e

line_colon : (limit : Option ℕ) (fs : List Frame) (ms : Members) (l : List ℕ) → NoLine limit (at_key ms ∷ fs) (colon l)
unfolding run step
line_colon limit fs ms l ys t e = no_text _ _ t e

-- The list ends where a value is awaited.
pub record Ready (limit : Option ℕ) (xs : List ℕ) : Type 0 where
  pub path : Path
  pub is : IsPath limit path
  pub whole : xs ≡ path_text path
  pub phase : Phase
  pub ready : (phase ≡ awaited) ⊎ ((phase ≡ first) × IsFresh path)
  pub stands : Stands limit xs (path_frames path) phase

ready_read : (limit : Option ℕ) (xs : List ℕ) (x : Read) → IsRead limit x → xs ≡ read_text x
    → Stands limit xs (read_frames x) (read_phase x) → Ready limit xs ⊎ NoLine limit (read_frames x) (read_phase x)
ready_read limit xs (at_first p) h e s = inl (record { path = p; is = h.0; whole = e; phase = first; ready = inr (refl, h.1); stands = s })
ready_read limit xs (at_awaited p) h e s = inl (record { path = p; is = h; whole = e; phase = awaited; ready = inl refl; stands = s })
ready_read limit xs (in_literal p v done []) h e s = absurd (omega (arith, h.1.more))
ready_read limit xs (in_literal p v done (l ∷ left)) h e s =
    inr (line_literal limit (path_frames p) l left (tree_of v) (within_lacks 10 (refl, refl, refl) v done l left h.1))
ready_read limit xs (in_digits p n) h e s = inr (line_digits limit p n)
ready_read limit xs (in_quoted p ps cs qs wi) h e s = inr (line_quoted limit (path_frames p) wi cs _)
ready_read limit xs (at_after p v w) h e s = inr (line_after limit p v w)

pub awaits_ready : (limit : Option ℕ) (xs : List ℕ) → All IsScalar xs → AwaitsValue limit xs → Ready limit xs
awaits_ready limit xs a h = ⊎_elim goes bad (error_free_stands limit xs a h.0)
  where
    t : Tree
    t = tree_of h.1.1.value

    runs : run (loosely limit) [] awaited (xs ++ 10 ∷ 34 ∷ h.1.0) ≡ accepted t
    runs = ap (run (loosely limit) [] awaited) (sym (append_assoc xs (10 ∷ 34 ∷ []) h.1.0))
        ∙ loose_accepted limit ((xs ++ 10 ∷ 34 ∷ []) ++ h.1.0) h.1.1

    goes : Goes limit xs → Ready limit xs
    goes g = let s = g.2.spells in
        ⊎_elim (λ r. r) (λ n. absurd (n h.1.0 t (rw (← s.frames, ← s.phase) (sym (g.2.reached false (10 ∷ 34 ∷ h.1.0)) ∙ runs))))
        (ready_read limit xs s.read s.is s.whole (rw (← s.frames, ← s.phase) g.2))

    bad : EndsKey limit xs → Ready limit xs
    bad b =
        let e : run (loosely limit) b.3 b.4 (b.1 ∷ 10 ∷ 34 ∷ h.1.0) ≡ accepted t = sym (b.5.reached false (b.1 ∷ 10 ∷ 34 ∷ h.1.0))
        ∙ (sym (ap (run (loosely limit) [] awaited) (ap (λ zs. zs ++ 10 ∷ 34 ∷ h.1.0) b.2
        ∙ append_assoc b.0 (b.1 ∷ []) (10 ∷ 34 ∷ h.1.0))) ∙ runs) in
        absurd (⊎_elim (λ i. no_text _ _ t (sym (run_stop (loosely limit) b.3 b.4 b.1 _ true (10 ∷ 34 ∷ h.1.0) i) ∙ e))
        (λ i. line_colon limit i.0 i.1 i.2 h.1.0 t
        (sym (run_next (loosely limit) b.3 (at_key i.1 ∷ i.0) b.4 (colon i.2) b.1 (10 ∷ 34 ∷ h.1.0) i.3) ∙ e))
        (strict_key limit b.3 b.4 b.1 b.6 b.7))

-- a value that begins there is awaited
from_first : (r : Rules) (p : Path) (ys : List ℕ) → IsFresh p → Begins ys
    → run r (path_frames p) first ys ≡ run r (path_frames p) awaited ys
from_first r (outside w) ys f b = elim f [ ]
from_first r (item_in p [] w) ys f b = first_array r [] (path_frames p) [] ys tt b
from_first r (key_in p [] w) ys f b = first_object r _ (path_frames p) [] ys tt b
from_first r _ ys f b = elim f [ ]

pub from_ready : (limit : Option ℕ) (xs : List ℕ) (h : Ready limit xs) (r : Rules) (ys : List ℕ) → Begins ys
    → run r (path_frames h.path) h.phase ys ≡ run r (path_frames h.path) awaited ys
from_ready limit xs h r ys b = ⊎_elim (λ e. ap (λ q. run r (path_frames h.path) q ys) e)
    (λ e. ap (λ q. run r (path_frames h.path) q ys) e.0 ∙ from_first r h.path ys e.1 b) h.ready

pub ready_run : (limit : Option ℕ) (xs : List ℕ) (h : Ready limit xs) (ys : List ℕ) → Begins ys
    → run (strictly limit) [] awaited (xs ++ ys) ≡ run (strictly limit) (path_frames h.path) awaited ys
ready_run limit xs h ys b = h.stands.reached true ys ∙ from_ready limit xs h (strictly limit) ys b

pub ready_free : (limit : Option ℕ) (xs : List ℕ) (h : Ready limit xs) (s : Bool) (ys : List ℕ) → Begins ys
    → run (rules s None) [] awaited (xs ++ ys) ≡ run (rules s None) (path_frames h.path) awaited ys
ready_free limit xs h s ys b = h.stands.free s ys ∙ from_ready limit xs h (rules s None) ys b
