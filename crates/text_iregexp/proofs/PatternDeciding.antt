-- The tests of patterns hold where the grammar does, and what is found, and nowhere else.
use Rattle.std.proofs.Common.{◌≡◌, ◌≤◌, ◌∷◌, [], ℕ, zero, suc, Bool, true, false, cond, List, length, Option, Some, None, option_map}
use Rattle.std.proofs.Common.{is_some, refl, sym, ap, ◌∙◌, subst, arith, true≢false}
use Rattle.std.specs.Option.{option_map_or}
use Rattle.std.specs.Prelude.{option_and_then}
use Rattle.text_iregexp.specs.Deciding.{matches}
use Rattle.text_iregexp.specs.Patterns.{Mark, Spelled, are_distinct, Pattern, pattern_marks, IsText}
use Rattle.text_iregexp.specs.PatternDeciding.{PatternFound, with_mark, marks_in, distinct_marks, whole_pattern, pattern_of, is_pattern}
use Rattle.text_iregexp.specs.PatternDeciding.{is_found}
use Rattle.text_iregexp.specs.PatternFronts.{next_front}
use Rattle.text_iregexp.specs.PatternCases.{CasesState, no_cases, is_closed, pattern_in, run_cases, pattern_form}
use Rattle.text_iregexp.specs.PatternReading.{IsNone}
use Rattle.text_iregexp.proofs.Deciding.{matches_decides}
use Rattle.text_iregexp.proofs.Lexing.{none_some, some_same}
use Rattle.text_iregexp.proofs.PatternForms.{found_to, found_from}
use Rattle.text_iregexp.proofs.PatternNames.{next_sound}
use Rattle.text_iregexp.proofs.PatternCases.{pattern_sound, pattern_complete}
use Rattle.text_iregexp.proofs.PatternReading.{Lexes, stop, go, lexes_spelled, spelled_lexes}

-- ---- marks

abbrev pub Marks : Type 0
Marks = List Mark × List (List ℕ)

marks_sound : (n : ℕ) (cs : List ℕ) (q : Marks) → marks_in n cs ≡ Some q → Lexes cs q.0 q.1 []
marks_sound zero [] q e = subst (λ p. Lexes [] p.0 p.1 []) (some_same e) stop
marks_sound zero (c ∷ cs) q e = absurd (none_some e)
marks_sound (suc n) [] q e = subst (λ p. Lexes [] p.0 p.1 []) (some_same e) stop
marks_sound (suc n) (c ∷ cs) q e = by (next_front (c ∷ cs)) refl e (marks_sound n)
  where
    on : (m : Mark) (ns : List (List ℕ)) (ys : List ℕ) (o : Option Marks) → next_front (c ∷ cs) ≡ Some (m, (ns, ys))
        → option_map (with_mark m ns) o ≡ Some q → ((p : Marks) → o ≡ Some p → Lexes ys p.0 p.1 []) → Lexes (c ∷ cs) q.0 q.1 []
    on m ns ys None f g rec = absurd (none_some g)
    on m ns ys (Some p) f g rec = subst (λ r. Lexes (c ∷ cs) r.0 r.1 []) (some_same g) (go f (rec p refl))

    by : (o : Option (Mark × (List (List ℕ) × List ℕ))) → next_front (c ∷ cs) ≡ o
        → option_and_then (λ p. option_map (with_mark p.0 p.1.0) (marks_in n p.1.1)) o ≡ Some q
        → ((ys : List ℕ) (p : Marks) → marks_in n ys ≡ Some p → Lexes ys p.0 p.1 []) → Lexes (c ∷ cs) q.0 q.1 []
    by None f g rec = absurd (none_some g)
    by (Some p) f g rec = on p.0 p.1.0 p.1.1 (marks_in n p.1.1) f g (rec p.1.1)

marks_nothing : (n : ℕ) → marks_in n [] ≡ Some ([], [])
marks_nothing zero = refl
marks_nothing (suc n) = refl

marks_on : (n : ℕ) (cs ys : List ℕ) (m : Mark) (ns : List (List ℕ)) (q : Marks) → next_front cs ≡ Some (m, (ns, ys)) → length cs ≤ n
    → ((k : ℕ) → length ys ≤ k → marks_in k ys ≡ Some q) → marks_in n cs ≡ Some (with_mark m ns q)
marks_on n [] ys m ns q f l rec = absurd (none_some f)
marks_on zero (c ∷ cs) ys m ns q f l rec = absurd (omega arith)
marks_on (suc n) (c ∷ cs) ys m ns q f l rec =
    let s = (next_sound (c ∷ cs) m ns ys f).shorter in
    ap (option_and_then (λ p. option_map (with_mark p.0 p.1.0) (marks_in n p.1.1))) f
    ∙ ap (option_map (with_mark m ns)) (rec n (omega arith))

marks_complete : {cs zs : List ℕ} {ms : List Mark} {ns : List (List ℕ)} → Lexes cs ms ns zs → zs ≡ [] → (n : ℕ) → length cs ≤ n
    → marks_in n cs ≡ Some (ms, ns)
marks_complete stop e n l = ap (marks_in n) e ∙ marks_nothing n
marks_complete (go {xs} {ys} {zs} {m} {ms} {ns} {us} f k) e n l = marks_on n xs ys m ns (ms, us) f l (λ j g. marks_complete k e j g)

-- ---- patterns

pattern_of_sound : (cs : List ℕ) (p : Pattern) → pattern_of cs ≡ Some p → IsText cs p
pattern_of_sound cs p e = by (marks_in (length cs) cs) (marks_sound (length cs) cs) e
  where
    closed : (q : Marks) → Lexes cs q.0 q.1 [] → are_distinct q.1 ≡ true → (s : CasesState) → run_cases no_cases q.0 ≡ Some s → (b : Bool)
        → is_closed s ≡ b → cond b (Some (pattern_in s)) None ≡ Some p → IsText cs p
    closed q k d s f true n g =
        subst (IsText cs) (some_same g) (record {
          names = q.1;
          spelled = subst (λ ms. Spelled cs ms q.1) (sym (pattern_sound q.0 s f n)) (lexes_spelled k refl);
          distinct = d;
        })
    closed q k d s f false n g = absurd (none_some g)

    state_by : (q : Marks) → Lexes cs q.0 q.1 [] → are_distinct q.1 ≡ true → (o : Option CasesState) → run_cases no_cases q.0 ≡ o
        → option_and_then whole_pattern o ≡ Some p → IsText cs p
    state_by q k d None f g = absurd (none_some g)
    state_by q k d (Some s) f g = closed q k d s f (is_closed s) refl g

    names_by : (q : Marks) → Lexes cs q.0 q.1 [] → (b : Bool) → are_distinct q.1 ≡ b
        → option_and_then whole_pattern (option_and_then (run_cases no_cases) (cond b (Some q.0) None)) ≡ Some p → IsText cs p
    names_by q k true d g = state_by q k d (run_cases no_cases q.0) refl g
    names_by q k false d g = absurd (none_some g)

    by : (o : Option Marks) → ((q : Marks) → o ≡ Some q → Lexes cs q.0 q.1 [])
        → option_and_then whole_pattern (option_and_then (run_cases no_cases) (option_and_then distinct_marks o)) ≡ Some p → IsText cs p
    by None k g = absurd (none_some g)
    by (Some q) k g = names_by q (k q refl) (are_distinct q.1) refl g

pattern_of_complete : (cs : List ℕ) (p : Pattern) → IsText cs p → pattern_of cs ≡ Some p
pattern_of_complete cs p x =
    let ms = marks_complete (spelled_lexes x.spelled) refl (length cs) (omega arith) in
    let r = pattern_complete p in
    ap (λ o. option_and_then whole_pattern (option_and_then (run_cases no_cases) (option_and_then distinct_marks o))) ms
    ∙ (ap (λ b. option_and_then whole_pattern (option_and_then (run_cases no_cases) (cond b (Some (pattern_marks p)) None))) x.distinct
    ∙ (ap (option_and_then whole_pattern) r.runs
    ∙ (ap (λ b. cond b (Some (pattern_in r.last)) None) r.closed ∙ ap (λ q. Some q) r.whole)))

-- a text that is a pattern, and one that is none
pub is_pattern_complete : (ps : List ℕ) (p : Pattern) → IsText ps p → is_pattern ps ≡ true
is_pattern_complete ps p x = ap is_some (pattern_of_complete ps p x)

pub is_pattern_sound : (ps : List ℕ) → is_pattern ps ≡ true → (p : Pattern) × IsText ps p
is_pattern_sound ps h = by (pattern_of ps) refl h
  where
    by : (o : Option Pattern) → pattern_of ps ≡ o → is_some o ≡ true → (p : Pattern) × IsText ps p
    by None e g = absurd (true≢false (sym g))
    by (Some p) e g = (p, pattern_of_sound ps p e)

none_read : (ps : List ℕ) → IsNone ps → pattern_of ps ≡ None
none_read ps n = by (pattern_of ps) refl
  where
    by : (o : Option Pattern) → pattern_of ps ≡ o → o ≡ None
    by None e = refl
    by (Some p) e = absurd (n p (pattern_of_sound ps p e))

pub is_pattern_none : (ps : List ℕ) → IsNone ps → is_pattern ps ≡ false
is_pattern_none ps n = ap is_some (none_read ps n)

pub is_found_none : (ps cs : List ℕ) → IsNone ps → is_found ps cs ≡ false
is_found_none ps cs n = ap (λ o. option_map_or (λ p. matches (pattern_form p) cs) o false) (none_read ps n)

-- what is found is found by the pattern that the text is
pub is_found_as : (ps cs : List ℕ) (p : Pattern) → IsText ps p → is_found ps cs ≡ matches (pattern_form p) cs
is_found_as ps cs p x = ap (λ o. option_map_or (λ q. matches (pattern_form q) cs) o false) (pattern_of_complete ps p x)

pub is_found_sound : (ps cs : List ℕ) → is_found ps cs ≡ true → PatternFound ps cs
is_found_sound ps cs h = by (pattern_of ps) refl h
  where
    by : (o : Option Pattern) → pattern_of ps ≡ o → option_map_or (λ p. matches (pattern_form p) cs) o false ≡ true → PatternFound ps cs
    by None e g = absurd (true≢false (sym g))
    by (Some p) e g = record {
      pattern = p;
      text = pattern_of_sound ps p e;
      found = found_to p cs ((matches_decides (pattern_form p)).sound cs g);
    }

pub is_found_complete : (ps cs : List ℕ) → PatternFound ps cs → is_found ps cs ≡ true
is_found_complete ps cs h =
    is_found_as ps cs h.pattern h.text
    ∙ (matches_decides (pattern_form h.pattern)).complete cs (found_from h.pattern cs h.found)
