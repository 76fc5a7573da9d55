-- The last character of an error: what the machine does with it, since another one may stand in its place.
use Rattle.std.proofs.Common.{◌≡◌, ℕ, Bool, true, false, List, [], ◌∷◌, ◌++◌, Option, Some, None, refl, ap, sym, ◌∙◌, cond, append_assoc}
use Rattle.std.proofs.Common.{append-nil, arith, subst, ◌⊎◌, inl, inr, ⊎_elim, ◌==◌, ◌||◌, not}
use Rattle.std.proofs.lemmas.Bool.{cond_both, ne_eqb}
use Rattle.std.specs.Prelude.{All, ⊤}
use Rattle.std.specs.Char.{IsScalar, is_ascii_digit}
use Rattle.tinyjson_grammar.specs.Characters.{is_white, is_hex, short_escape, paired, decode}
use Rattle.tinyjson_grammar.specs.Prefix.{IsErrorFree, IsLooselyViable, IsCutOffText}
use Rattle.tinyjson_grammar.specs.Grammar.{IsAccepted}
use Rattle.tinyjson_grammar.specs.Kind.{kind_of}
use Rattle.tinyjson_grammar.specs.Machine
use Rattle.tinyjson_grammar.specs.Machine.{Rules, strictly, Frame, Phase, first, awaited, literal, digits, quoted, Stage, Next, next, stop}
use Rattle.tinyjson_grammar.specs.Machine.{Outcome, accepted, refused, rest_of, complete, finish, then_step, unless_ended, step_digits}
use Rattle.tinyjson_grammar.specs.Machine.{step_escape, end_digits, end_plain, step, run, end}
use Rattle.tinyjson_grammar.specs.Refusal.{AwaitsAt}
use Rattle.tinyjson_grammar.specs.Syntax.{Syntax}
use Rattle.tinyjson_grammar.specs.Tree as tree
use Rattle.tinyjson_grammar.specs.Tree.{Tree}
use Rattle.tinyjson_number.specs.Numeral.{Numeral, has_leading_zero, is_exponent_letter, value, in_range}
use Rattle.tinyjson_grammar.specs.declared.kind.JsonKind.{JsonKind}
use Rattle.tinyjson_grammar.specs.declared.error.JsonParseErrorKind.{JsonParseErrorKind}
use Rattle.tinyjson_grammar.specs.declared.error.JsonParseErrorKind.TheVariants.{UnexpectedEof, ExpectedEof, KeyNotString, ExpectedColon}
use Rattle.tinyjson_grammar.specs.declared.error.JsonParseErrorKind.TheVariants.{ExpectedCommaOrBrace, ExpectedCommaOrBracket, InvalidUtf16}
use Rattle.tinyjson_grammar.specs.declared.error.JsonParseErrorKind.TheVariants.{NumberOutOfRange}
use Rattle.tinyjson.proofs.Callers.Laws.{all_front, all_rest}
use Rattle.tinyjson_grammar.proofs.Callers.Laws.{cut_off_end, Path, outside, item_in, key_in, value_in, path_frames, continues}
use Rattle.tinyjson_grammar.proofs.Callers.Laws.{continues_digit, continues_point, continues_letter, Read, at_first, at_awaited, in_literal}
use Rattle.tinyjson_grammar.proofs.Callers.Laws.{in_digits, in_quoted, at_after, Part, part_stage, part_numeral, read_frames, read_phase}
use Rattle.tinyjson_grammar.proofs.Callers.Laws.{IsRead, IsFresh, values, text_accepted, denies, is_unviable, Follows}
use Rattle.tinyjson_laws.proofs.RefusalPlaces.{Stands, Goes, Halts, goes_or_halts, halts_run, stands_viable, stands_next, stands_stop}
use Rattle.tinyjson_laws.proofs.RefusalPlaces.{stands_follows, IsNoLetter, within_lacks, accepted_refused}

-- ---- a character that may follow without an error

-- the machine goes on, or stops after a key that is not a string
abbrev pub IsPassed : Next → Type 0
IsPassed (next fs p) = ⊤
IsPassed (stop (KeyNotString k) true) = ⊤
IsPassed (stop k b) = ⊥

-- where it may follow
pub record Passes (limit : Option ℕ) (prefix : List ℕ) (c : ℕ) : Type 0 where
  pub read : Read
  pub is : IsRead limit read
  pub stands : Stands limit prefix (read_frames read) (read_phase read)
  pub passed : IsPassed (step (strictly limit) (read_frames read) (read_phase read) c)

some_left : (b : Bool) (c : ℕ) (xs : List ℕ) (d : ℕ) (ys : List ℕ) → rest_of b c (xs ++ d ∷ ys) ≡ [] → ⊥
some_left true c [] d ys e = cc
some_left true c (x ∷ xs) d ys e = cc
some_left false c xs d ys e = cc

passed_stop : (n : Next) (k : JsonParseErrorKind) (b : Bool) (c : ℕ) (ys : List ℕ) (j : JsonKind) → n ≡ stop k b
    → refused k (rest_of b c ys) ≡ refused (KeyNotString j) [] → IsPassed n
passed_stop n k false c ys j i e = absurd cc
passed_stop n k true c ys j i e = let a : k ≡ KeyNotString j = cc in subst IsPassed (sym (i ∙ ap (λ x. stop x true) a)) tt

left_of : (k j : JsonParseErrorKind) (xs ys : List ℕ) → refused k xs ≡ refused j ys → xs ≡ ys
left_of k j xs ys e = cc

module _ (limit : Option ℕ) (prefix : List ℕ) (c : ℕ) (f : IsErrorFree limit (prefix ++ c ∷ [])) where
  same_list : (prefix ++ c ∷ []) ++ f.0 ≡ prefix ++ c ∷ f.0
  same_list = append_assoc prefix (c ∷ []) f.0

  no_halt : Halts limit prefix → (IsAccepted limit ((prefix ++ c ∷ []) ++ f.0) ⊎ IsCutOffText limit ((prefix ++ c ∷ []) ++ f.0)) → ⊥
  no_halt h (inl t) = accepted_refused t.0 _ _ (sym (text_accepted limit ((prefix ++ c ∷ []) ++ f.0) t.0 t.1)
      ∙ (ap (run (strictly limit) [] awaited) same_list ∙ halts_run limit prefix h (c ∷ f.0)))
  no_halt h (inr t) = let e = cut_off_end limit ((prefix ++ c ∷ []) ++ f.0) t in
      some_left h.8 h.1 h.2 c f.0 (left_of _ _ _ _ (sym (halts_run limit prefix h (c ∷ f.0))
      ∙ (sym (ap (run (strictly limit) [] awaited) same_list) ∙ e.1)))

  passed_by : (fs : List Frame) (q : Phase) → Stands limit prefix fs q → (n : Next) → step (strictly limit) fs q c ≡ n
      → (IsAccepted limit ((prefix ++ c ∷ []) ++ f.0) ⊎ IsCutOffText limit ((prefix ++ c ∷ []) ++ f.0))
      → IsPassed (step (strictly limit) fs q c)
  passed_by fs q s (next gs p) i g = subst IsPassed (sym i) tt
  passed_by fs q s (stop k b) i (inl t) = absurd (accepted_refused t.0 _ _ (sym (text_accepted limit ((prefix ++ c ∷ []) ++ f.0) t.0 t.1)
      ∙ (ap (run (strictly limit) [] awaited) same_list ∙ stands_stop limit prefix fs q s c k b i f.0)))
  passed_by fs q s (stop k b) i (inr t) =
      let e = cut_off_end limit ((prefix ++ c ∷ []) ++ f.0) t in
      passed_stop (step (strictly limit) fs q c) k b c f.0 (kind_of e.0) i (sym (stands_stop limit prefix fs q s c k b i f.0)
      ∙ (sym (ap (run (strictly limit) [] awaited) same_list) ∙ e.1))

  pub passes : All IsScalar prefix → Passes limit prefix c
  passes a = ⊎_elim goes (λ h. absurd (no_halt h f.1)) (goes_or_halts limit prefix a)
    where
      goes : Goes limit prefix → Passes limit prefix c
      goes g = let s = g.2.spells in record {
        read = s.read;
        is = s.is;
        stands = rw (← s.frames, ← s.phase) g.2;
        passed = rw (← s.frames, ← s.phase) (passed_by g.0 g.1 g.2 (step (strictly limit) g.0 g.1 c) refl f.1);
      }

-- ---- a numeral that may end

abbrev pub Lasts : Stage → Numeral → Type 0
Lasts Machine.minus n = ⊥
Lasts Machine.integer n = has_leading_zero n.integer ≡ false
Lasts Machine.point n = ⊥
Lasts Machine.fraction n = ⊤
Lasts Machine.letter n = ⊥
Lasts Machine.sign n = ⊥
Lasts Machine.exponent n = ⊤

module _ (limit : Option ℕ) (fs : List Frame) where
  abbrev Goes_on : Option Next → Type 0
  Goes_on o = (o ≡ None) ⊎ ((gs : List Frame) × (q : Phase) × (o ≡ Some (next gs q)))

  lasts_step : (s : Stage) (n : Numeral) → Lasts s n → (c : ℕ) → Goes_on (step_digits (strictly limit) fs s n c)
  lasts_step Machine.integer n h c = cond_both (is_ascii_digit c) _ _ Goes_on (λ d. inr (_, _, refl))
      (λ d. rw h (cond_both (c == 46) _ _ Goes_on (λ p. inr (_, _, refl))
      (λ p. cond_both (is_exponent_letter c) _ _ Goes_on (λ l. inr (_, _, refl)) (λ l. inl refl))))
  lasts_step Machine.fraction n h c = cond_both (is_ascii_digit c) _ _ Goes_on (λ d. inr (_, _, refl))
      (λ d. cond_both (is_exponent_letter c) _ _ Goes_on (λ l. inr (_, _, refl)) (λ l. inl refl))
  lasts_step Machine.exponent n h c = cond_both (is_ascii_digit c) _ _ Goes_on (λ d. inr (_, _, refl)) (λ d. inl refl)
  lasts_step _ n h c = elim h [ ]

  lasts_end : (s : Stage) (n : Numeral) → Lasts s n → end_digits (strictly limit) fs s n ≡ end_plain (finish (strictly limit) fs n)
  lasts_end Machine.integer n h = rw h refl
  lasts_end Machine.fraction n h = refl
  lasts_end Machine.exponent n h = refl
  lasts_end _ n h = elim h [ ]

  accepted_zero : (b : Bool) (k : JsonParseErrorKind) (o : Outcome) (t : Tree) → cond b (refused k []) o ≡ accepted t → b ≡ false
  accepted_zero true k o t e = absurd cc
  accepted_zero false k o t e = refl

  accepted_lasts : (s : Stage) (n : Numeral) (t : Tree) → end_digits (strictly limit) fs s n ≡ accepted t → Lasts s n
  accepted_lasts Machine.integer n t e = accepted_zero (has_leading_zero n.integer) _ _ t e
  accepted_lasts Machine.fraction n t e = tt
  accepted_lasts Machine.exponent n t e = tt
  accepted_lasts _ n t e = absurd cc

  passed_zero : (b : Bool) (n : Numeral) (e : ℕ) (k : JsonParseErrorKind) (o : Option Next) → (IsPassed (stop k false) → ⊥)
      → IsPassed (unless_ended (strictly limit) fs n e (cond b (Some (stop k false)) o)) → b ≡ false
  passed_zero true n e k o h g = absurd (h g)
  passed_zero false n e k o h g = refl

  -- after a number comes e, which could not continue it
  passed_lasts : (s : Stage) (n : Numeral) (e : ℕ) → continues e ≡ false → ((e == 43) || (e == 45)) ≡ false
      → IsPassed (unless_ended (strictly limit) fs n e (step_digits (strictly limit) fs s n e)) →
      Lasts s n × IsPassed (then_step (strictly limit) (finish (strictly limit) fs n) e)
  passed_lasts Machine.minus n e h m g = elim (rw (continues_digit e h) at g) [ ]
  passed_lasts Machine.integer n e h m g =
      let i : IsPassed (unless_ended (strictly limit) fs n e (Machine.after_integer (strictly limit) fs n e)) =
      rw (continues_digit e h) at g in
      let z : has_leading_zero n.integer ≡ false = passed_zero (has_leading_zero n.integer) n e _ _ (λ x. x) i in
      (z, rw (z, continues_point e h, continues_letter e h) at i)
  passed_lasts Machine.point n e h m g = elim (rw (continues_digit e h) at g) [ ]
  passed_lasts Machine.fraction n e h m g = (tt, rw (continues_digit e h, continues_letter e h) at g)
  passed_lasts Machine.letter n e h m g = elim (rw (continues_digit e h, m) at g) [ ]
  passed_lasts Machine.sign n e h m g = elim (rw (continues_digit e h) at g) [ ]
  passed_lasts Machine.exponent n e h m g = (tt, rw (continues_digit e h) at g)

  finish_by : (n : Numeral) (e : ℕ) → IsPassed (then_step (strictly limit) (finish (strictly limit) fs n) e)
      → finish (strictly limit) fs n ≡ complete true fs (tree.number (value n)) false
  finish_by n e h = split (in_range (value n)) h
    where
      split : (b : Bool) → IsPassed (then_step (strictly limit)
          (cond (not b) (stop NumberOutOfRange false) (complete true fs (tree.number (value n)) false)) e) →
          cond (not b) (stop NumberOutOfRange false) (complete true fs (tree.number (value n)) false)
          ≡ complete true fs (tree.number (value n)) false
      split true g = refl
      split false g = elim g [ ]

  accepted_finish : (n : Numeral) (t : Tree) → end_plain (finish (strictly limit) fs n) ≡ accepted t
      → finish (strictly limit) fs n ≡ complete true fs (tree.number (value n)) false
  accepted_finish n t h = split (in_range (value n)) h
    where
      split : (b : Bool) → end_plain (cond (not b) (stop NumberOutOfRange false) (complete true fs (tree.number (value n)) false))
          ≡ accepted t →
          cond (not b) (stop NumberOutOfRange false) (complete true fs (tree.number (value n)) false)
          ≡ complete true fs (tree.number (value n)) false
      split true g = refl
      split false g = absurd cc

  -- with a character that completes no loose text
  digits_step : (prefix : List ℕ) (s : Stage) (n : Numeral) → Stands limit prefix fs (digits s n) → Lasts s n
      → finish (strictly limit) fs n ≡ complete true fs (tree.number (value n)) false → (c : ℕ) → IsScalar c
      → ¬ IsLooselyViable limit (prefix ++ c ∷ []) →
      step (strictly limit) fs (digits s n) c ≡ then_step (strictly limit) (complete true fs (tree.number (value n)) false) c
  unfolding step
  digits_step prefix s n st h f c hc d = ⊎_elim
      (λ e. ap (unless_ended (strictly limit) fs n c) e ∙ ap (λ m. then_step (strictly limit) m c) f)
      (λ e. absurd (d (stands_viable limit (prefix ++ c ∷ []) e.0 e.1
      (stands_next limit prefix fs e.0 (digits s n) e.1 c hc st (ap (unless_ended (strictly limit) fs n c) e.2))))) (lasts_step s n h c)

-- ---- a quote may follow

quote_first : (limit : Option ℕ) (p : Path) → IsFresh p
    → step (strictly limit) (path_frames p) first 34 ≡ next (path_frames p) (quoted Machine.plain [] [])
unfolding step
quote_first limit (item_in p [] w) h = refl
quote_first limit (key_in p [] w) h = refl
quote_first limit _ h = elim h [ ]

quote_awaited : (limit : Option ℕ) (fs : List Frame) → step (strictly limit) fs awaited 34 ≡ next fs (quoted Machine.plain [] [])
unfolding step
quote_awaited limit fs = refl

quote_scalar : IsScalar 34
quote_scalar = refl

quote_next : (limit : Option ℕ) (prefix : List ℕ) (fs gs : List Frame) (q p : Phase) → Stands limit prefix fs q
    → step (strictly limit) fs q 34 ≡ next gs p → ¬ IsLooselyViable limit (prefix ++ 34 ∷ []) → ⊥
quote_next limit prefix fs gs q p s e n = n (stands_viable limit (prefix ++ 34 ∷ []) gs p
    (stands_next limit prefix fs gs q p 34 quote_scalar s e))

abbrev Closes : Option ℕ → Path → List ℕ → List ℕ → Type 0
Closes limit p cs us = ((gs : List Frame) × (q : Phase)
    × (step (strictly limit) (path_frames p) (quoted Machine.plain cs us) 34 ≡ next gs q))
    ⊎ (step (strictly limit) (path_frames p) (quoted Machine.plain cs us) 34 ≡ stop InvalidUtf16 true)

quote_closes : (limit : Option ℕ) (p : Path) (cs us : List ℕ) → Closes limit p cs us
unfolding step
quote_closes limit p cs us = split p (paired us)
  where
    split : (p : Path) (b : Bool) →
        ((gs : List Frame) × (q : Phase) × (cond (not b) (stop InvalidUtf16 true)
        (complete true (path_frames p) (tree.string (cs ++ decode us)) true) ≡ next gs q))
        ⊎ (cond (not b) (stop InvalidUtf16 true) (complete true (path_frames p) (tree.string (cs ++ decode us)) true)
        ≡ stop InvalidUtf16 true)
    split p false = inr refl
    split (outside w) true = inl (_, _, refl)
    split (item_in p es w) true = inl (_, _, refl)
    split (key_in p ps w) true = inl (_, _, refl)
    split (value_in p ps a k b w) true = inl (_, _, refl)

quote_string : (limit : Option ℕ) (prefix : List ℕ) (p : Path) (cs us : List ℕ)
    → Stands limit prefix (path_frames p) (quoted Machine.plain cs us) → ¬ IsLooselyViable limit (prefix ++ 34 ∷ []) → ⊥
quote_string limit prefix p cs us s n = ⊎_elim (λ e. quote_next limit prefix (path_frames p) e.0 (quoted Machine.plain cs us) e.1 s e.2 n)
    (λ e. let f : Follows limit prefix (path_frames p) (quoted Machine.plain cs us) 34 (stop InvalidUtf16 true) =
    subst (Follows limit prefix (path_frames p) (quoted Machine.plain cs us) 34) e
    (stands_follows limit prefix (path_frames p) (quoted Machine.plain cs us) s 34 quote_scalar) in
    n (f [] (denies limit prefix (path_frames p) (quoted Machine.plain cs us) s.reached)
    (is_unviable limit prefix (path_frames p) (quoted Machine.plain cs us) 34 InvalidUtf16 s.reached e)).1.1) (quote_closes limit p cs us)

-- ---- the colon, the brace and the bracket

literal_no : (limit : Option ℕ) (fs : List Frame) (l : ℕ) (ls : List ℕ) (t : Tree) (e : ℕ) → (e == l) ≡ false
    → IsPassed (step (strictly limit) fs (literal (l ∷ ls) t) e) → ⊥
unfolding step
literal_no limit fs l [] t e h g = rw h at g
literal_no limit fs l (m ∷ ls) t e h g = rw h at g

-- a colon, a bracket or a brace: nothing that goes on within a token
pub record IsCloser (e : ℕ) : Type 0 where
  pub no_escape : short_escape e ≡ None
  pub no_unit : (e == 117) ≡ false
  pub no_hex : is_hex e ≡ false
  pub no_white : is_white e ≡ false
  pub ends : continues e ≡ false
  pub no_sign : ((e == 43) || (e == 45)) ≡ false
  pub no_letter : IsNoLetter e

closer : (e : ℕ) → short_escape e ≡ None → (e == 117) ≡ false → is_hex e ≡ false → is_white e ≡ false → continues e ≡ false
    → ((e == 43) || (e == 45)) ≡ false → IsNoLetter e → IsCloser e
closer e a b c d f g h = record { no_escape = a; no_unit = b; no_hex = c; no_white = d; ends = f; no_sign = g; no_letter = h }

pub closer_colon : IsCloser 58
closer_colon = closer 58 refl refl refl refl refl refl (refl, refl, refl)

pub closer_bracket : IsCloser 93
closer_bracket = closer 93 refl refl refl refl refl refl (refl, refl, refl)

pub closer_brace : IsCloser 125
closer_brace = closer 125 refl refl refl refl refl refl (refl, refl, refl)

escape_no : (limit : Option ℕ) (fs : List Frame) (cs us : List ℕ) (e : ℕ) → IsCloser e
    → IsPassed (step (strictly limit) fs (quoted Machine.backslash cs us) e) → ⊥
unfolding step
escape_no limit fs cs us e h g = let i : IsPassed (step_escape (strictly limit) fs cs us e None) =
    subst (λ o. IsPassed (step_escape (strictly limit) fs cs us e o)) h.no_escape g in rw h.no_unit at i

hex_no : (limit : Option ℕ) (fs : List Frame) (ds cs us : List ℕ) (e : ℕ) → IsCloser e
    → IsPassed (step (strictly limit) fs (quoted (Machine.hex ds) cs us) e) → ⊥
unfolding step
hex_no limit fs ds cs us e h g = rw h.no_hex at g

-- what the place is, where e may follow and no quote
pub data Settled (limit : Option ℕ) (e : ℕ) : Read → Type 0 where
  digits_end : (p : Path) (n : Part) → Lasts (part_stage n) (part_numeral n)
      → finish (strictly limit) (path_frames p) (part_numeral n)
      ≡ complete true (path_frames p) (tree.number (value (part_numeral n))) false →
      IsPassed (then_step (strictly limit) (complete true (path_frames p) (tree.number (value (part_numeral n))) false) e)
      → Settled limit e (in_digits p n)
  value_ends : (p : Path) (s : Syntax) (v : List ℕ)
      → IsPassed (step (strictly limit) (read_frames (at_after p s v)) (read_phase (at_after p s v)) e) → Settled limit e (at_after p s v)

digits_settled : (limit : Option ℕ) (e : ℕ) → IsCloser e → (p : Path) (n : Part)
    → IsPassed (step (strictly limit) (path_frames p) (digits (part_stage n) (part_numeral n)) e) → Settled limit e (in_digits p n)
unfolding step
digits_settled limit e h p n g =
    let l = passed_lasts limit (path_frames p) (part_stage n) (part_numeral n) e h.ends h.no_sign g in
    let f = finish_by limit (path_frames p) (part_numeral n) e l.1 in
    digits_end p n l.0 f (subst (λ m. IsPassed (then_step (strictly limit) m e)) f l.1)

settled : (limit : Option ℕ) (prefix : List ℕ) (e : ℕ) → IsCloser e → (x : Read) → IsRead limit x
    → Stands limit prefix (read_frames x) (read_phase x) → ¬ IsLooselyViable limit (prefix ++ 34 ∷ [])
    → IsPassed (step (strictly limit) (read_frames x) (read_phase x) e) → Settled limit e x
settled limit prefix e h (at_first p) i s n g = absurd
    (quote_next limit prefix (path_frames p) (path_frames p) first (quoted Machine.plain [] []) s (quote_first limit p i.1) n)
settled limit prefix e h (at_awaited p) i s n g = absurd
    (quote_next limit prefix (path_frames p) (path_frames p) awaited (quoted Machine.plain [] []) s (quote_awaited limit (path_frames p)) n)
settled limit prefix e h (in_literal p v done []) i s n g = absurd (omega (arith, i.1.more))
settled limit prefix e h (in_literal p v done (l ∷ left)) i s n g =
    absurd (literal_no limit (path_frames p) l left _ e (within_lacks e h.no_letter v done l left i.1) g)
settled limit prefix e h (in_digits p m) i s n g = digits_settled limit e h p m g
settled limit prefix e h (in_quoted p ps cs qs Machine.plain) i s n g = absurd (quote_string limit prefix p cs (values qs) s n)
settled limit prefix e h (in_quoted p ps cs qs Machine.backslash) i s n g = absurd (escape_no limit (path_frames p) cs (values qs) e h g)
settled limit prefix e h (in_quoted p ps cs qs (Machine.hex ds)) i s n g = absurd (hex_no limit (path_frames p) ds cs (values qs) e h g)
settled limit prefix e h (at_after p v w) i s n g = value_ends p v w g

module _ (limit : Option ℕ) (prefix : List ℕ) (c : ℕ) (hc : IsScalar c) (d : ¬ IsLooselyViable limit (prefix ++ c ∷ []))
    (hw : is_white c ≡ false) where
  colon_at : (x : Read) → Settled limit 58 x → Stands limit prefix (read_frames x) (read_phase x) → (c ≡ 58 → ⊥)
      → step (strictly limit) (read_frames x) (read_phase x) c ≡ stop (ExpectedColon c) true
  unfolding step
  colon_at _ (digits_end (outside w) n l f g) s a = elim g [ ]
  colon_at _ (value_ends (key_in p ps w) v u g) s a = rw (hw, ne_eqb c 58 a) refl
  colon_at _ (digits_end _ n l f g) s a = elim g [ ]
  colon_at _ (value_ends _ v u g) s a = elim g [ ]

  brace_at : (x : Read) → Settled limit 125 x → Stands limit prefix (read_frames x) (read_phase x) → (c ≡ 44 → ⊥) → (c ≡ 125 → ⊥)
      → step (strictly limit) (read_frames x) (read_phase x) c ≡ stop (ExpectedCommaOrBrace c) true
  unfolding step
  brace_at _ (digits_end (value_in p ps k j m w) n l f g) s a b =
      digits_step limit (path_frames (value_in p ps k j m w)) prefix (part_stage n) (part_numeral n) s l f c hc d
      ∙ rw (hw, ne_eqb c 44 a, ne_eqb c 125 b) refl
  brace_at _ (value_ends (value_in p ps k j m w) v u g) s a b = rw (hw, ne_eqb c 44 a, ne_eqb c 125 b) refl
  brace_at _ (digits_end _ n l f g) s a b = elim g [ ]
  brace_at _ (value_ends _ v u g) s a b = elim g [ ]

  bracket_at : (x : Read) → Settled limit 93 x → Stands limit prefix (read_frames x) (read_phase x) → (c ≡ 44 → ⊥) → (c ≡ 93 → ⊥)
      → step (strictly limit) (read_frames x) (read_phase x) c ≡ stop (ExpectedCommaOrBracket c) true
  unfolding step
  bracket_at _ (digits_end (item_in p es w) n l f g) s a b =
      digits_step limit (path_frames (item_in p es w)) prefix (part_stage n) (part_numeral n) s l f c hc d
      ∙ rw (hw, ne_eqb c 44 a, ne_eqb c 93 b) refl
  bracket_at _ (value_ends (item_in p es w) v u g) s a b = rw (hw, ne_eqb c 44 a, ne_eqb c 93 b) refl
  bracket_at _ (digits_end _ n l f g) s a b = elim g [ ]
  bracket_at _ (value_ends _ v u g) s a b = elim g [ ]

-- ---- of an error

-- the run stops so
abbrev pub Exact : Option ℕ → JsonParseErrorKind → List ℕ → List ℕ → Type 0
Exact limit k used rest = run (strictly limit) [] awaited (used ++ rest) ≡ refused k rest

all_front_of : (used prefix : List ℕ) (c : ℕ) → used ≡ prefix ++ c ∷ [] → All IsScalar used → All IsScalar prefix × IsScalar c
all_front_of used prefix c e a = let b = subst (All IsScalar) e a
    in (all_front prefix (c ∷ []) b, all_rest prefix (c ∷ []) b 0 0 (omega arith))

taken_exact : (limit : Option ℕ) (prefix : List ℕ) (fs : List Frame) (q : Phase) → Stands limit prefix fs q
    → (c : ℕ) (k : JsonParseErrorKind) (used rest : List ℕ) → used ≡ prefix ++ c ∷ [] → step (strictly limit) fs q c ≡ stop k true
    → Exact limit k used rest
taken_exact limit prefix fs q s c k used rest e i =
    rw e (rw (append_assoc prefix (c ∷ []) rest) (stands_stop limit prefix fs q s c k true i rest))

-- the place of c, where another one may stand
awaits_exact : (limit : Option ℕ) (used rest : List ℕ) (c e : ℕ) → All IsScalar used → IsCloser e → (h : AwaitsAt limit used c e)
    → (k : JsonParseErrorKind) → (IsScalar c → (x : Read) → Settled limit e x → Stands limit h.place.prefix (read_frames x) (read_phase x)
    → step (strictly limit) (read_frames x) (read_phase x) c ≡ stop k true) → Exact limit k used rest
awaits_exact limit used rest c e a i h k g =
    let b = all_front_of used h.place.prefix c h.place.ends a in
    let p = passes limit h.place.prefix e h.without_error b.0 in
    taken_exact limit h.place.prefix (read_frames p.read) (read_phase p.read) p.stands c k used rest h.place.ends
    (g b.1 p.read (settled limit h.place.prefix e i p.read p.is p.stands h.place.no_string p.passed) p.stands)

not_viable : (limit : Option ℕ) (used prefix : List ℕ) (c : ℕ) → used ≡ prefix ++ c ∷ [] → ¬ IsLooselyViable limit used
    → ¬ IsLooselyViable limit (prefix ++ c ∷ [])
not_viable limit used prefix c e n = subst (λ xs. ¬ IsLooselyViable limit xs) e n

pub colon_exact : (limit : Option ℕ) (used rest : List ℕ) (c : ℕ) → All IsScalar used → is_white c ≡ false → (c ≡ 58 → ⊥)
    → AwaitsAt limit used c 58 → ¬ IsLooselyViable limit used → Exact limit (ExpectedColon c) used rest
colon_exact limit used rest c a w n h d = awaits_exact limit used rest c 58 a closer_colon h (ExpectedColon c)
    (λ hc x y s. colon_at limit h.place.prefix c hc (not_viable limit used h.place.prefix c h.place.ends d) w x y s n)

pub brace_exact : (limit : Option ℕ) (used rest : List ℕ) (c : ℕ) → All IsScalar used → is_white c ≡ false → (c ≡ 44 → ⊥) → (c ≡ 125 → ⊥)
    → AwaitsAt limit used c 125 → ¬ IsLooselyViable limit used → Exact limit (ExpectedCommaOrBrace c) used rest
brace_exact limit used rest c a w n m h d = awaits_exact limit used rest c 125 a closer_brace h (ExpectedCommaOrBrace c)
    (λ hc x y s. brace_at limit h.place.prefix c hc (not_viable limit used h.place.prefix c h.place.ends d) w x y s n m)

pub bracket_exact : (limit : Option ℕ) (used rest : List ℕ) (c : ℕ) → All IsScalar used → is_white c ≡ false → (c ≡ 44 → ⊥) → (c ≡ 93 → ⊥)
    → AwaitsAt limit used c 93 → ¬ IsLooselyViable limit used → Exact limit (ExpectedCommaOrBracket c) used rest
bracket_exact limit used rest c a w n m h d = awaits_exact limit used rest c 93 a closer_bracket h (ExpectedCommaOrBracket c)
    (λ hc x y s. bracket_at limit h.place.prefix c hc (not_viable limit used h.place.prefix c h.place.ends d) w x y s n m)

-- ---- after a text

pub run_end : (r : Rules) (fs : List Frame) (q : Phase) → run r fs q [] ≡ end r fs q
unfolding run
run_end r fs q = refl

number_text : (limit : Option ℕ) (prefix : List ℕ) (c : ℕ) → IsScalar c → ¬ IsLooselyViable limit (prefix ++ c ∷ []) → is_white c ≡ false
    → (p : Path) (n : Part) → Stands limit prefix (path_frames p) (digits (part_stage n) (part_numeral n)) → (t : Tree) →
    end_digits (strictly limit) (path_frames p) (part_stage n) (part_numeral n) ≡ accepted t
    → step (strictly limit) (path_frames p) (digits (part_stage n) (part_numeral n)) c ≡ stop (ExpectedEof c) true
number_text limit prefix c hc d hw p n s t e = at p s f (sym (ap end_plain f) ∙ g)
  where
    l : Lasts (part_stage n) (part_numeral n)
    l = accepted_lasts limit (path_frames p) (part_stage n) (part_numeral n) t e

    g : end_plain (finish (strictly limit) (path_frames p) (part_numeral n)) ≡ accepted t
    g = sym (lasts_end limit (path_frames p) (part_stage n) (part_numeral n) l) ∙ e

    f : finish (strictly limit) (path_frames p) (part_numeral n)
        ≡ complete true (path_frames p) (tree.number (value (part_numeral n))) false
    f = accepted_finish limit (path_frames p) (part_numeral n) t g

    at : (p : Path) → Stands limit prefix (path_frames p) (digits (part_stage n) (part_numeral n))
        → finish (strictly limit) (path_frames p) (part_numeral n)
        ≡ complete true (path_frames p) (tree.number (value (part_numeral n))) false →
        end_plain (complete true (path_frames p) (tree.number (value (part_numeral n))) false) ≡ accepted t
        → step (strictly limit) (path_frames p) (digits (part_stage n) (part_numeral n)) c ≡ stop (ExpectedEof c) true
    at (outside w) s f e = digits_step limit [] prefix (part_stage n) (part_numeral n) s l f c hc d ∙ rw hw refl
    at _ s f e = absurd cc

text_ends : (limit : Option ℕ) (prefix : List ℕ) (c : ℕ) → IsScalar c → ¬ IsLooselyViable limit (prefix ++ c ∷ []) → is_white c ≡ false
    → (x : Read) → IsRead limit x → Stands limit prefix (read_frames x) (read_phase x) → (t : Tree)
    → end (strictly limit) (read_frames x) (read_phase x) ≡ accepted t →
    step (strictly limit) (read_frames x) (read_phase x) c ≡ stop (ExpectedEof c) true
unfolding step end
text_ends limit prefix c hc d hw (in_digits p n) i s t e = number_text limit prefix c hc d hw p n s t e
text_ends limit prefix c hc d hw (at_after (outside w) v u) i s t e = rw hw refl
text_ends limit prefix c hc d hw _ i s t e = absurd cc

pub after_exact : (limit : Option ℕ) (used rest text : List ℕ) (c : ℕ) → All IsScalar used → is_white c ≡ false → used ≡ text ++ c ∷ []
    → IsAccepted limit text → ¬ IsLooselyViable limit used → Exact limit (ExpectedEof c) used rest
after_exact limit used rest text c a w e t d = ⊎_elim goes halts (goes_or_halts limit text b.0)
  where
    b : All IsScalar text × IsScalar c
    b = all_front_of used text c e a

    runs : run (strictly limit) [] awaited (text ++ []) ≡ accepted t.0
    runs = ap (run (strictly limit) [] awaited) (append-nil text) ∙ text_accepted limit text t.0 t.1

    goes : Goes limit text → Exact limit (ExpectedEof c) used rest
    goes g = let s = g.2.spells in
        taken_exact limit text (read_frames s.read) (read_phase s.read) (rw (← s.frames, ← s.phase) g.2) c (ExpectedEof c) used rest e
        (text_ends limit text c b.1 (not_viable limit used text c e d) w s.read s.is (rw (← s.frames, ← s.phase) g.2) t.0
        (rw (← s.frames, ← s.phase) (sym (run_end (strictly limit) g.0 g.1) ∙ (sym (g.2.reached true []) ∙ runs))))

    halts : Halts limit text → Exact limit (ExpectedEof c) used rest
    halts h = absurd (accepted_refused t.0 _ _ (sym runs ∙ halts_run limit text h []))

-- ---- at the end

number_needs : (limit : Option ℕ) (e : ℕ) → IsCloser e → (p : Path) (n : Part) → Settled limit e (in_digits p n)
    → end_digits (strictly limit) (path_frames p) (part_stage n) (part_numeral n) ≡ refused UnexpectedEof []
number_needs limit e h _ _ (digits_end (outside w) n l f g) = elim (rw h.no_white at g) [ ]
number_needs limit e h _ _ (digits_end (key_in p ps w) n l f g) = elim g [ ]
number_needs limit e h _ _ (digits_end p n l f g) =
    lasts_end limit (path_frames p) (part_stage n) (part_numeral n) l ∙ ap end_plain f

needs_end : (limit : Option ℕ) (e : ℕ) → IsCloser e → (x : Read) → IsRead limit x
    → IsPassed (step (strictly limit) (read_frames x) (read_phase x) e)
    → end (strictly limit) (read_frames x) (read_phase x) ≡ refused UnexpectedEof []
unfolding step end
needs_end limit e h (in_digits p n) i g = number_needs limit e h p n (digits_settled limit e h p n g)
needs_end limit e h (at_after (outside w) v u) i g = elim (rw h.no_white at g) [ ]
needs_end limit e h _ i g = refl

pub needs_exact : (limit : Option ℕ) (used : List ℕ) (e : ℕ) → All IsScalar used → IsCloser e → IsErrorFree limit (used ++ e ∷ [])
    → Exact limit UnexpectedEof used []
needs_exact limit used e a h f =
    let p = passes limit used e f a in
    p.stands.reached true [] ∙ (run_end (strictly limit) (read_frames p.read) (read_phase p.read)
    ∙ needs_end limit e h p.read p.is p.passed)
