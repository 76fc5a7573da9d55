-- Prefixes of texts, and where an error comes.
use Rattle.std.proofs.Common.{◌≡◌, ℕ, zero, suc, ◌+◌, ◌<◌, ◌≤◌, Bool, true, false, List, [], ◌∷◌, ◌++◌, Option, Some, None, refl, ap, sym}
use Rattle.std.proofs.Common.{◌∙◌, subst, append_assoc, arith, length, take, drop, ◌⊎◌, inl, inr, ⊎_elim, IsTrue, ◌==◌, ◌||◌, length-append}
use Rattle.std.specs.Char.{is_ascii_digit}
use Rattle.std.proofs.Math.Seq.{take-append_seam}
use Rattle.std.proofs.lemmas.Bool.{false≢true, cases_lt, or_right, eqb-true}
use Rattle.std.proofs.lemmas.List.{take-append-le, take-append-drop, length-drop}
use Rattle.tinyjson_number.specs.Numeral.{AreDigits, minus_text, Numeral, value, power_fits, in_range}
use Rattle.tinyjson_grammar.specs.Tree as tree
use Rattle.tinyjson_grammar.specs.Characters.{is_white}
use Rattle.tinyjson_grammar.specs.Syntax.{Syntax, null, boolean, number, string, empty_array, array, empty_object, text, AreWhite}
use Rattle.tinyjson_grammar.specs.Syntax.{IsSpelled, IsStrict, IsWithin}
use Rattle.tinyjson_grammar.specs.Grammar.{IsLoose, IsAccepted}
use Rattle.tinyjson_grammar.specs.Prefix.{IsViable, IsErrorFree, IsCutOffText, IsLooselyViable}
use Rattle.tinyjson_grammar.specs.Refusal.{begins_value, begins_growth, AreLate, IsPromptly, IsLiteral, IsRefusal, RefusalSays}
use Rattle.tinyjson_grammar.specs.declared.error.JsonParseErrorKind.{JsonParseErrorKind}
use Rattle.tinyjson_grammar.specs.declared.error.JsonParseErrorKind.TheVariants as kind
use Rattle.tinyjson_grammar.proofs.Callers.Laws.{viable_before}
use Rattle.tinyjson_laws.proofs.ErrorFree.{error_free_loosely}
use Rattle.tinyjson_laws.specs.Prefixes.{AcceptedIsLoose, EmptyIsViable, ViableIsErrorFree, ErrorFreeIsLooselyViable, UnviableStaysSo}
use Rattle.tinyjson_laws.specs.Prefixes.{BeginsStrictly, ValuesBegin, GrowthBegins, UnviableAtFirst, IsShortest, ShortestInOrder}
use Rattle.tinyjson_laws.specs.Prefixes.{RefusedNotTooSoon, RefusedAtEnd, RefusedNotTooLate, IsLateButOne, InterruptedNotTooLate}

pub accepted_is_loose : AcceptedIsLoose
accepted_is_loose limit xs h = h.1.loose

-- ---- viable, without an error, unviable

abbrev null_text : List ℕ
null_text = text null

scalar_within : (limit : Option ℕ) → IsWithin limit 0
scalar_within None = tt
scalar_within (Some n) = omega arith

null_accepted : (limit : Option ℕ) → IsAccepted limit null_text
null_accepted limit = (
  tree.null,
  record {
    loose = record {
      before = [];
      value = null;
      after = [];
      white_before = tt;
      spelled = tt;
      white_after = tt;
      shallow = scalar_within limit;
      whole = refl;
    };
    strict = tt;
    tree = refl;
  },
)

pub empty_is_viable : EmptyIsViable
empty_is_viable limit = let a = null_accepted limit in ((null_text, a), (null_text, accepted_is_loose limit null_text a))

pub viable_is_error_free : ViableIsErrorFree
viable_is_error_free limit xs h = (h.0, inl h.1)

pub error_free_is_loosely_viable : ErrorFreeIsLooselyViable
error_free_is_loosely_viable limit xs h = error_free_loosely limit xs h

pub unviable_stays_so : UnviableStaysSo
unviable_stays_so limit xs ys = (
  λ h a. h (viable_before (IsAccepted limit) xs ys a),
  λ h a. h (viable_before (IsLoose limit) xs ys a),
  λ h a. h (viable_before (λ zs. IsAccepted limit zs ⊎ IsCutOffText limit zs) xs ys a),
)

-- ---- how a value begins

digit_grows : (c : ℕ) → IsTrue (is_ascii_digit c) → IsTrue (begins_growth c)
digit_grows c h = or_right (c == 34) _ (or_right (c == 91) _ (or_right (c == 123) _ (or_right (c == 45) _ h)))

growth_begins_value : (c : ℕ) → IsTrue (begins_growth c) → IsTrue (begins_value c)
growth_begins_value c h = or_right (c == 110) _ (or_right (c == 116) _ (or_right (c == 102) _ h))

-- the first character, of which p says so
abbrev FirstOf : (ℕ → Bool) → List ℕ → Type 0
FirstOf p xs = (c : ℕ) × (more : List ℕ) × (xs ≡ c ∷ more) × IsTrue (p c)

numeral_first : (b : Bool) (w xs : List ℕ) → 0 < length w → AreDigits w → FirstOf begins_growth (minus_text b ++ (w ++ xs))
numeral_first b [] xs h d = absurd (omega (arith, h))
numeral_first true (c ∷ cs) xs h d = (45, _, refl, refl)
numeral_first false (c ∷ cs) xs h d = (c, _, refl, digit_grows c d.0)

literal_or_growth : (s : Syntax) → IsSpelled s → IsLiteral (text s) ⊎ FirstOf begins_growth (text s)
literal_or_growth null h = inl (inl refl)
literal_or_growth (boolean true) h = inl (inr (inl refl))
literal_or_growth (boolean false) h = inl (inr (inr refl))
literal_or_growth (number n) h = inr (numeral_first n.negative n.integer _ h.some_digit h.integer)
literal_or_growth (string ps) h = inr (34, _, refl, refl)
literal_or_growth (empty_array w) h = inr (91, _, refl, refl)
literal_or_growth (array es) h = inr (91, _, refl, refl)
literal_or_growth _ h = inr (123, _, refl, refl)

literal_first : (xs : List ℕ) → IsLiteral xs → FirstOf begins_value xs
literal_first xs (inl e) = (110, _, e, refl)
literal_first xs (inr (inl e)) = (116, _, e, refl)
literal_first xs (inr (inr e)) = (102, _, e, refl)

first_of : (s : Syntax) → IsSpelled s → FirstOf begins_value (text s)
first_of s h = ⊎_elim (literal_first (text s)) (λ f. (f.0, f.1, f.2, growth_begins_value f.0 f.3)) (literal_or_growth s h)

begun_by : (s : Syntax) (d : ℕ) (more : List ℕ) → IsSpelled s → IsStrict s → text s ≡ d ∷ more → (c : ℕ) → (c == d) ≡ true
    → BeginsStrictly c
begun_by s d more i j e c h = (s, more, i, j, e ∙ ap (λ k. k ∷ more) (sym (eqb-true c d h)))

abbrev digit : ℕ → Numeral
digit c = record { negative = false; integer = c ∷ []; fraction = []; exponent = None }

digit_fits : (c : ℕ) (b : Bool) → (c == 48) ≡ b → IsTrue (in_range (value (digit c)))
unfolding value power_fits
digit_fits c true e = rw e refl
digit_fits c false e = rw e (rw e refl)

begun_digit : (c : ℕ) → IsTrue (is_ascii_digit c) → BeginsStrictly c
begun_digit c h = (
  number (digit c),
  [],
  record { integer = (h, tt); some_digit = omega arith; fraction = tt; exponent = tt },
  (refl, digit_fits c (c == 48) refl),
  refl,
)

begun_minus : (c : ℕ) → (c == 45) ≡ true → BeginsStrictly c
unfolding value power_fits
begun_minus = begun_by (number (record { negative = true; integer = 48 ∷ []; fraction = []; exponent = None })) 45 _
    (record { integer = (refl, tt); some_digit = omega arith; fraction = tt; exponent = tt }) (refl, refl) refl

either : (b d : Bool) (P : Type 0) → (b || d) ≡ true → (b ≡ true → P) → (d ≡ true → P) → P
either true d P h f g = f refl
either false d P h f g = g h

begun_growth : (c : ℕ) → IsTrue (begins_growth c) → BeginsStrictly c
begun_growth c h = either (c == 34) _ (BeginsStrictly c) h (begun_by (string []) 34 _ tt refl refl c) (λ h.
    either (c == 91) _ (BeginsStrictly c) h (begun_by (empty_array []) 91 _ tt tt refl c) (λ h.
    either (c == 123) _ (BeginsStrictly c) h (begun_by (empty_object []) 123 _ tt tt refl c) (λ h.
    either (c == 45) _ (BeginsStrictly c) h (begun_minus c) (begun_digit c))))

begun : (c : ℕ) → IsTrue (begins_value c) → BeginsStrictly c
begun c h = either (c == 110) _ (BeginsStrictly c) h (begun_by null 110 _ tt tt refl c) (λ h.
    either (c == 116) _ (BeginsStrictly c) h (begun_by (boolean true) 116 _ tt tt refl c) (λ h.
    either (c == 102) _ (BeginsStrictly c) h (begun_by (boolean false) 102 _ tt tt refl c) (begun_growth c)))

pub same_first : (c d : ℕ) (xs ys : List ℕ) → c ∷ xs ≡ d ∷ ys → c ≡ d
same_first c d xs ys e = cc

first_is : (p : ℕ → Bool) (xs : List ℕ) (c : ℕ) (more : List ℕ) → xs ≡ c ∷ more → FirstOf p xs → IsTrue (p c)
first_is p xs c more e f = subst (λ d. IsTrue (p d)) (same_first f.0 c f.1 more (sym f.2 ∙ e)) f.3

pub values_begin : ValuesBegin
values_begin c = (begun c, λ s more h e. first_is begins_value (text s) c more e (first_of s h))

no_literal : (c : ℕ) (more xs : List ℕ) → IsTrue (begins_growth c) → xs ≡ c ∷ more → ¬ IsLiteral xs
no_literal c more xs g e (inl l) = let d : c ≡ 110 =
    same_first c 110 more _ (sym e ∙ l) in false≢true (subst (λ d. IsTrue (begins_growth d)) d g)
no_literal c more xs g e (inr (inl l)) = let d : c ≡ 116 =
    same_first c 116 more _ (sym e ∙ l) in false≢true (subst (λ d. IsTrue (begins_growth d)) d g)
no_literal c more xs g e (inr (inr l)) = let d : c ≡ 102 =
    same_first c 102 more _ (sym e ∙ l) in false≢true (subst (λ d. IsTrue (begins_growth d)) d g)

pub growth_begins : GrowthBegins
growth_begins c = (
  begun_growth c,
  λ s more h e. (
    λ g. no_literal c more (text s) g e,
    λ n. ⊎_elim (λ l. absurd (n l)) (λ f. first_is begins_growth (text s) c more e f) (literal_or_growth s h),
  ),
)

-- no text of the loose grammar begins so
pub no_first : (c : ℕ) (w : List ℕ) (s : Syntax) (v xs : List ℕ) → AreWhite w → IsSpelled s → is_white c ≡ false → begins_value c ≡ false
    → c ∷ xs ≡ w ++ (text s ++ v) → ⊥
no_first c [] s v xs hw hs n b e =
    let f = first_of s hs in
    let same : c ≡ f.0 = same_first c f.0 xs (f.1 ++ v) (e ∙ ap (λ ys. ys ++ v) f.2) in
    let begun : begins_value c ≡ true = subst (λ d. IsTrue (begins_value d)) (sym same) f.3 in
    false≢true (sym b ∙ begun)
no_first c (d ∷ ds) s v xs hw hs n b e =
    let white : is_white c ≡ true = subst (λ k. IsTrue (is_white k)) (sym (same_first c d xs (ds ++ (text s ++ v)) e)) hw.0 in
    false≢true (sym n ∙ white)

pub unviable_at_first : UnviableAtFirst
unviable_at_first limit c xs n b h = let l = h.1 in no_first c l.before l.value l.after (xs ++ h.0) l.white_before l.spelled n b l.whole

-- ---- lengths

-- the shortest prefix without P is no longer than the shortest without Q, where P gives Q
shortest_first : (P Q : List ℕ → Type 0) (xs : List ℕ) (m n : ℕ) → ((ys : List ℕ) → P ys → Q ys) → IsShortest P xs m → IsShortest Q xs n
    → m ≤ n
shortest_first P Q xs m n f p q = ⊎_elim (λ l. absurd (p.least n l (λ h. q.fails (f (take n xs) h)))) (λ l. l) (cases_lt n m)

-- where no prefix is the shortest without P, none is without it
module _ (P : List ℕ → Type 0) (xs : List ℕ) (none : ¬ ((n : ℕ) × IsShortest P xs n)) where
  none_fails : (bound n : ℕ) → n < bound → n ≤ length xs → ¬ ¬ P (take n xs)
  none_fails zero n b w f = absurd (omega (arith, b))
  none_fails (suc bound) n b w f =
      none (n, record { within = w; fails = f; least = λ k s. none_fails bound k (omega (arith, s, b)) (omega (arith, s, w)) })

-- where there is a shortest prefix without Q, there is one without P, where P gives Q
shortest_before : (P Q : List ℕ → Type 0) (xs : List ℕ) (n : ℕ) → ((ys : List ℕ) → P ys → Q ys) → IsShortest Q xs n
    → ¬ ¬ ((m : ℕ) × IsShortest P xs m)
shortest_before P Q xs n f q none = none_fails P xs none (suc n) n (omega arith) q.within (λ h. q.fails (f (take n xs) h))

pub shortest_in_order : ShortestInOrder
shortest_in_order limit xs = (
  λ d m. shortest_first (IsViable (IsAccepted limit)) (IsErrorFree limit) xs d m (viable_is_error_free limit),
  λ m l. shortest_first (IsErrorFree limit) (IsLooselyViable limit) xs m l (error_free_is_loosely_viable limit),
  λ m. shortest_before (IsViable (IsAccepted limit)) (IsErrorFree limit) xs m (viable_is_error_free limit),
  λ l. shortest_before (IsErrorFree limit) (IsLooselyViable limit) xs l (error_free_is_loosely_viable limit),
)

-- ---- errors

-- what fails of the consumed characters with the next one
module _ (P : List ℕ → Type 0) (used : List ℕ) where
  abbrev FailsNext : List ℕ → Type 0
  FailsNext rest = (c : ℕ) (more : List ℕ) → rest ≡ c ∷ more → ¬ P (used ++ c ∷ [])

  next_prefix : (c : ℕ) (more : List ℕ) → take (length (used ++ c ∷ [])) (used ++ c ∷ more) ≡ used ++ c ∷ []
  next_prefix c more = ap (take (length (used ++ c ∷ []))) (sym (append_assoc used (c ∷ []) more)) ∙ take-append_seam (used ++ c ∷ []) more

  fails_next : (c : ℕ) (more : List ℕ) → FailsNext (c ∷ more) → ¬ P (take (length (used ++ c ∷ [])) (used ++ c ∷ more))
  fails_next c more f h = f c more refl (subst P (next_prefix c more) h)

  never_too_soon : (rest : List ℕ) → FailsNext rest → (n : ℕ) → IsShortest P (used ++ rest) n → n ≤ length used + 1
  never_too_soon [] f n h = let l = length-append used [] in omega (arith, h.within, l)
  never_too_soon (c ∷ more) f n h = ⊎_elim (λ l. absurd (h.least (length (used ++ c ∷ [])) l (fails_next c more f)))
      (λ l. let e = length-append used (c ∷ []) in omega (arith, l, e)) (cases_lt (length (used ++ c ∷ [])) n)

  at_end : (rest : List ℕ) → FailsNext rest → ((n : ℕ) → n ≤ length (used ++ rest) → ¬ ¬ P (take n (used ++ rest))) → rest ≡ []
  at_end [] f h = refl
  at_end (c ∷ more) f h =
      let l = length-append used (c ∷ more) in
      let m = length-append used (c ∷ []) in
      absurd (h (length (used ++ c ∷ [])) (omega (arith, l, m)) (fails_next c more f))

module _ (limit : Option ℕ) (k : JsonParseErrorKind) (used rest : List ℕ) (r : IsRefusal limit k used rest) where
  pub next_unviable : FailsNext (IsViable (IsAccepted limit)) used rest
  next_unviable c more e a = r.not_too_soon c more e (viable_is_error_free limit (used ++ c ∷ []) a)

  pub viable_at_end : ((n : ℕ) → n ≤ length (used ++ rest) → ¬ ¬ IsViable (IsAccepted limit) (take n (used ++ rest))) → rest ≡ []
  viable_at_end h = at_end (IsViable (IsAccepted limit)) used rest next_unviable h

pub refused_not_too_soon : RefusedNotTooSoon
refused_not_too_soon limit k used rest r = (
  never_too_soon (IsErrorFree limit) used rest r.not_too_soon,
  never_too_soon (IsViable (IsAccepted limit)) used rest (next_unviable limit k used rest r),
)

pub refused_at_end : RefusedAtEnd
refused_at_end limit k used rest r h = at_end (IsErrorFree limit) used rest r.not_too_soon h

last_of : (xs : List ℕ) → (xs ≡ []) ⊎ ((prefix : List ℕ) × (c : ℕ) × (xs ≡ prefix ++ c ∷ []))
last_of [] = inl refl
last_of (x ∷ xs) = inr (⊎_elim (λ e. ([], x, ap (λ ys. x ∷ ys) e)) (λ f. (x ∷ f.0, f.1, ap (λ ys. x ∷ ys) f.2)) (last_of xs))

-- without its last character the consumed list is viable in the loose grammar, whatever the kind
one_before : (limit : Option ℕ) (k : JsonParseErrorKind) (used rest : List ℕ) → RefusalSays limit k used rest → (prefix : List ℕ) (c : ℕ)
    → used ≡ prefix ++ c ∷ [] → IsLooselyViable limit prefix
one_before limit kind.OutOfMemory used rest r = λ prefix c e. viable_before (IsLoose limit) prefix (c ∷ [])
    (subst (IsLooselyViable limit) e r.0.viable)
one_before limit k used rest r = r.not_too_late

pub refused_not_too_late : RefusedNotTooLate
refused_not_too_late limit k used rest r l h = ⊎_elim (λ s. absurd (early s (last_of used))) (λ s. s) (cases_lt l (length used))
  where
    early : l < length used → (used ≡ []) ⊎ ((prefix : List ℕ) × (c : ℕ) × (used ≡ prefix ++ c ∷ [])) → ⊥
    early s (inl e) = omega (arith, s, ap length e)
    early s (inr f) =
        let n = length-append f.0 (f.1 ∷ []) in
        let same : (f.0 ++ f.1 ∷ []) ++ rest ≡ used ++ rest = ap (λ xs. xs ++ rest) (sym f.2) in
        let short : take l (used ++ rest) ≡ take l f.0 =
        ap (take l) (sym same ∙ append_assoc f.0 (f.1 ∷ []) rest)
        ∙ take-append-le l f.0 (f.1 ∷ rest) (omega (arith, s, ap length f.2, n)) in
        let whole : f.0 ≡ take l (used ++ rest) ++ drop l f.0 = sym (take-append-drop l f.0) ∙ ap (λ xs. xs ++ drop l f.0) (sym short) in
        h.fails (viable_before (IsLoose limit) (take l (used ++ rest)) (drop l f.0)
        (subst (IsLooselyViable limit) whole (one_before limit k used rest r f.0 f.1 f.2)))

-- ---- out of memory

-- where xs is P, and each beginning of a list that is P is P, xs is shorter than the shortest
-- prefix without P of a list that begins with xs
holds_before : (P : List ℕ → Type 0) → ((ys zs : List ℕ) → P (ys ++ zs) → P ys) → (xs rest : List ℕ) (n : ℕ) → P xs
    → IsShortest P (xs ++ rest) n → length xs < n
holds_before P before xs rest n p h = ⊎_elim (λ l. l) (λ s. absurd (fails s)) (cases_lt (length xs) n)
  where
    fails : n ≤ length xs → ⊥
    fails s =
        let same : take n (xs ++ rest) ≡ take n xs = take-append-le n xs rest s in
        let whole : xs ≡ take n (xs ++ rest) ++ drop n xs = sym (take-append-drop n xs) ∙ ap (λ ys. ys ++ drop n xs) (sym same) in
        h.fails (before (take n (xs ++ rest)) (drop n xs) (subst P whole p))

late_drop : (k : ℕ) (late last : List ℕ) → AreLate late → length last ≤ 1 → IsLateButOne (drop k (late ++ last))
late_drop zero late last a h = (late, last, refl, a, h)
late_drop (suc k) [] last a h = let n = length-drop (suc k) last in ([], drop (suc k) last, refl, tt, omega (arith, h, n))
late_drop (suc k) (c ∷ cs) last a h = late_drop k cs last a.1 h

late_after : (m : ℕ) (prefix late last : List ℕ) → length prefix ≤ m → AreLate late → length last ≤ 1
    → IsLateButOne (drop m (prefix ++ (late ++ last)))
late_after m [] late last w a h = late_drop m late last a h
late_after zero (x ∷ xs) late last w a h = absurd (omega (arith, w))
late_after (suc m) (x ∷ xs) late last w a h = late_after m xs late last (omega (arith, w)) a h

error_free_before : (limit : Option ℕ) (xs ys : List ℕ) → IsErrorFree limit (xs ++ ys) → IsErrorFree limit xs
error_free_before limit xs ys h = viable_before (λ zs. IsAccepted limit zs ⊎ IsCutOffText limit zs) xs ys h

promptly : (limit : Option ℕ) (used rest last : List ℕ) → length last ≤ 1 → IsPromptly limit used last → (m : ℕ)
    → IsShortest (IsErrorFree limit) (used ++ rest) (m + 1) → IsLateButOne (drop m used)
promptly limit used rest last short p m h =
    let same : used ++ rest ≡ p.prefix ++ ((p.late ++ last) ++ rest) = ap (λ xs. xs ++ rest) p.whole
    ∙ append_assoc p.prefix (p.late ++ last) rest in
    let first = subst (λ xs. IsShortest (IsErrorFree limit) xs (m + 1)) same h in
    let room = holds_before (IsErrorFree limit) (error_free_before limit) p.prefix ((p.late ++ last) ++ rest) (m + 1) p.error_free first in
    subst (λ xs. IsLateButOne (drop m xs)) (sym p.whole) (late_after m p.prefix p.late last (omega (arith, room)) p.are_late short)

pub interrupted_not_too_late : InterruptedNotTooLate
interrupted_not_too_late limit used rest r = (
  λ l h. holds_before (IsLooselyViable limit) (viable_before (IsLoose limit)) used rest l r.0.viable h,
  ⊎_elim (λ p. promptly limit used rest [] (omega arith) p) (λ k. promptly limit used rest (k.1.0.0 ∷ []) (omega arith) k.1.0.1) r.0.place,
)
