-- The tests hold where the grammar does, and what is matched, and nowhere else.
use Rattle.std.proofs.Common.{◌≡◌, ◌≤◌, ◌<◌, ◌+◌, ◌==◌, ◌&&◌, ◌||◌, ◌++◌, ◌∷◌, [], ℕ, zero, suc, Bool, true, false, nat_le, List, length}
use Rattle.std.proofs.Common.{Option, Some, None, not, option_map, inl, inr, refl, sym, ap, ◌∙◌, subst, arith, length-append, true≢false}
use Rattle.std.proofs.lemmas.Bool.{and_parts, and_from, or_cases, or_left, or_right, eqb-true, leb-true, le-leb}
use Rattle.std.proofs.lemmas.Bool.Decides.{nat_tests}
use Rattle.std.specs.Prelude.{option_and_then}
use Rattle.text_regexp.specs.declared.class.Item.{Item}
use Rattle.text_iregexp.specs.Deciding.{splits, is_empty, is_one_in, PartTest, both_in, are_parts, is_at_most, is_count, some_below}
use Rattle.text_iregexp.specs.Deciding.{matches_in, matches, searches}
use Rattle.text_iregexp.specs.Deciding.{with_token, tokens_in, whole_of, regexp_in, is_regexp, pattern_matches, pattern_searches}
use Rattle.text_regexp.specs.Forms.{Form, empty, class, assertion, concat, alternation, repetition, both, no, is_in_class, holds, Parts}
use Rattle.text_regexp.specs.Forms.{AtMost, next_of, last_of, MatchesIn, Matches, Searches}
use Rattle.text_iregexp.specs.Fronts.{token_front}
use Rattle.text_iregexp.specs.Grammar.{Token, Spelled, Regexp, regexp_form, IsText}
use Rattle.text_iregexp.specs.Levels.{State, fresh, run}
use Rattle.text_iregexp.specs.Regexps.{PatternMatches, PatternSearches}
use Rattle.text_iregexp.proofs.Machine.{machine_sound, machine_complete}
use Rattle.text_iregexp.proofs.Reading.{Lexes, stop, go, some_same, none_some, front_shorter, lexes_spelled, spelled_lexes}

-- ---- two parts, and more

splits_sound : (f : List ℕ → List ℕ → Bool) (cs : List ℕ) → splits f cs ≡ true
    → (xs : List ℕ) × (ys : List ℕ) × (cs ≡ xs ++ ys) × (f xs ys ≡ true)
splits_sound f [] h = ([], [], refl, h)
splits_sound f (c ∷ cs) h = elim (or_cases (f [] (c ∷ cs)) (splits (λ xs ys. f (c ∷ xs) ys) cs) h) [
  | inl e ↦ ([], c ∷ cs, refl, e)
  | inr e ↦ let r = splits_sound (λ xs ys. f (c ∷ xs) ys) cs e in (c ∷ r.0, r.1, ap (λ zs. c ∷ zs) r.2, r.3)
]

splits_complete : (f : List ℕ → List ℕ → Bool) (xs ys : List ℕ) → f xs ys ≡ true → splits f (xs ++ ys) ≡ true
splits_complete f [] [] h = h
splits_complete f [] (y ∷ ys) h = or_left (f [] (y ∷ ys)) _ h
splits_complete f (x ∷ xs) ys h = or_right (f [] (x ∷ (xs ++ ys))) _ (splits_complete (λ us vs. f (x ∷ us) vs) xs ys h)

empty_sound : (cs : List ℕ) → is_empty cs ≡ true → cs ≡ []
empty_sound [] h = refl
empty_sound (c ∷ cs) h = absurd (true≢false (sym h))

-- the test holds just where P does
pub record Decides (f : List ℕ → Bool) (P : List ℕ → Type 0) : Type 0 where
  pub sound : (cs : List ℕ) → f cs ≡ true → P cs
  pub complete : (cs : List ℕ) → P cs → f cs ≡ true

-- so it is of a part between its neighbours
abbrev PartFact : Type 1
PartFact = Option ℕ → List ℕ → Option ℕ → Type 0

record DecidesIn (f : PartTest) (P : PartFact) : Type 0 where
  sound : (before : Option ℕ) (cs : List ℕ) (after : Option ℕ) → f before cs after ≡ true → P before cs after
  complete : (before : Option ℕ) (cs : List ℕ) (after : Option ℕ) → P before cs after → f before cs after ≡ true

-- two parts, one after the other
abbrev BothIn : PartFact → PartFact → PartFact
BothIn P Q before cs after =
    (xs : List ℕ) × (ys : List ℕ) × (cs ≡ xs ++ ys) × P before xs (next_of ys after) × Q (last_of before xs) ys after

both_decides : {f g : PartTest} {P Q : PartFact} → DecidesIn f P → DecidesIn g Q → DecidesIn (both_in f g) (BothIn P Q)
both_decides {f = f} {g = g} a b = record {
  sound = λ before cs after h.
      let s = splits_sound (λ xs ys. f before xs (next_of ys after) && g (last_of before xs) ys after) cs h in
      let p = and_parts (f before s.0 (next_of s.1 after)) (g (last_of before s.0) s.1 after) s.3 in
      (s.0, s.1, s.2, a.sound before s.0 (next_of s.1 after) p.0, b.sound (last_of before s.0) s.1 after p.1);
  complete = λ before cs after h.
      ap (splits (λ xs ys. f before xs (next_of ys after) && g (last_of before xs) ys after)) h.2
      ∙ splits_complete (λ xs ys. f before xs (next_of ys after) && g (last_of before xs) ys after) h.0 h.1
      (and_from (f before h.0 (next_of h.1 after)) (g (last_of before h.0) h.1 after) (a.complete before h.0 (next_of h.1 after) h.3)
      (b.complete (last_of before h.0) h.1 after h.4));
}

parts_decide : {f : PartTest} {P : PartFact} → DecidesIn f P → (n : ℕ) → DecidesIn (are_parts f n) (Parts P n)
parts_decide d zero = record { sound = λ before cs after h. empty_sound cs h; complete = λ before cs after h. ap is_empty h }
parts_decide d (suc n) =
    let b = both_decides d (parts_decide d n) in
    record { sound = b.sound; complete = b.complete }

-- ---- fewer parts, where there are more than characters

no_more : (cs : List ℕ) → length cs ≤ 0 → cs ≡ []
no_more [] l = refl
no_more (c ∷ cs) l = absurd (omega arith)

one_fewer : (P : PartFact) (n : ℕ) (before : Option ℕ) (cs : List ℕ) (after : Option ℕ) → Parts P (suc n) before cs after
    → length cs ≤ n → Parts P n before cs after
one_fewer P zero before cs after h l = no_more cs l
one_fewer P (suc n) before cs after h l = by h.0 h.2 h.3 h.4 (λ b k g. one_fewer P n b h.1 after k g)
  where
    by : (xs : List ℕ) → cs ≡ xs ++ h.1 → P before xs (next_of h.1 after) → Parts P (suc n) (last_of before xs) h.1 after
        → ((b : Option ℕ) → Parts P (suc n) b h.1 after → length h.1 ≤ n → Parts P n b h.1 after) → Parts P (suc n) before cs after
    by [] e p k rec = subst (λ us. Parts P (suc n) before us after) (sym e) k
    by (x ∷ xs) e p k rec =
        let len : length cs ≡ length (x ∷ (xs ++ h.1)) = ap length e in
        let sum = length-append xs h.1 in
        (x ∷ xs, h.1, e, p, rec (last_of (Some x) xs) k (omega arith))

at_most_less : (n : ℕ) (most : Option ℕ) → AtMost (suc n) most → AtMost n most
at_most_less n None h = tt
at_most_less n (Some m) h = omega arith

record Settled (P : PartFact) (least : ℕ) (most : Option ℕ) (before : Option ℕ) (cs : List ℕ) (after : Option ℕ) : Type 0 where
  count : ℕ
  small : count ≤ least + length cs
  enough : least ≤ count
  few : AtMost count most
  parts : Parts P count before cs after

settled : (P : PartFact) (least : ℕ) (most : Option ℕ) (before : Option ℕ) (cs : List ℕ) (after : Option ℕ) (n : ℕ) → least ≤ n
    → AtMost n most → Parts P n before cs after → Settled P least most before cs after
settled P least most before cs after zero l m h = record { count = 0; small = omega arith; enough = l; few = m; parts = h }
settled P least most before cs after (suc n) l m h =
    by (nat_le (suc n) (least + length cs)) refl (λ k g. settled P least most before cs after n k (at_most_less n most m) g)
  where
    by : (b : Bool) → nat_le (suc n) (least + length cs) ≡ b
        → (least ≤ n → Parts P n before cs after → Settled P least most before cs after) → Settled P least most before cs after
    by true e rec =
        record { count = suc n; small = leb-true (suc n) (least + length cs) e; enough = l; few = m; parts = h }
    by false e rec =
        let above : least + length cs < suc n = grind (arith, nat_tests) in
        rec (omega arith) (one_fewer P n before cs after h (omega arith))

-- ---- counts

at_most_sound : (n : ℕ) (most : Option ℕ) → is_at_most n most ≡ true → AtMost n most
at_most_sound n None h = tt
at_most_sound n (Some m) h = leb-true n m h

at_most_complete : (n : ℕ) (most : Option ℕ) → AtMost n most → is_at_most n most ≡ true
at_most_complete n None h = refl
at_most_complete n (Some m) h = le-leb n m h

below_sound : (f : ℕ → Bool) (n : ℕ) → some_below f n ≡ true → (m : ℕ) × (f m ≡ true)
below_sound f zero h = (0, h)
below_sound f (suc n) h = elim (or_cases (f (suc n)) (some_below f n) h) [ inl e ↦ (suc n, e) | inr e ↦ below_sound f n e ]

below_complete : (f : ℕ → Bool) (n m : ℕ) → m ≤ n → f m ≡ true → some_below f n ≡ true
below_complete f zero m l h = let none : 0 ≡ m = omega arith in ap f none ∙ h
below_complete f (suc n) m l h = by (m == suc n) refl (λ k. below_complete f n m k h)
  where
    by : (b : Bool) → (m == suc n) ≡ b → (m ≤ n → some_below f n ≡ true) → (f (suc n) || some_below f n) ≡ true
    by true e rec = or_left (f (suc n)) (some_below f n) (ap f (sym (eqb-true m (suc n) e)) ∙ h)
    by false e rec = let less : m ≤ n = grind (arith, nat_tests) in or_right (f (suc n)) (some_below f n) (rec less)

-- ---- regular expressions

one_sound : (negated : Bool) (items : List Item) (cs : List ℕ) → is_one_in negated items cs ≡ true
    → (c : ℕ) × (cs ≡ c ∷ []) × (is_in_class negated items c ≡ true)
one_sound negated items [] h = absurd (true≢false (sym h))
one_sound negated items (c ∷ []) h = (c, refl, h)
one_sound negated items (c ∷ d ∷ cs) h = absurd (true≢false (sym h))

repetition_decides : {f : PartTest} {P : PartFact} (least : ℕ) (most : Option ℕ) → DecidesIn f P
    → DecidesIn (λ before cs after. some_below (is_count (λ n. are_parts f n before cs after) least most) (least + length cs))
    (λ before cs after. (n : ℕ) × (least ≤ n) × AtMost n most × Parts P n before cs after)
repetition_decides {f = f} {P = P} least most d = record {
  sound = λ before cs after h.
      let m = below_sound (is_count (λ n. are_parts f n before cs after) least most) (least + length cs) h in
      let p = and_parts (nat_le least m.0) (is_at_most m.0 most && are_parts f m.0 before cs after) m.1 in
      let q = and_parts (is_at_most m.0 most) (are_parts f m.0 before cs after) p.1 in
      (m.0, leb-true least m.0 p.0, at_most_sound m.0 most q.0, (parts_decide d m.0).sound before cs after q.1);
  complete = λ before cs after h.
      let m = settled P least most before cs after h.0 h.1 h.2 h.3 in
      below_complete (is_count (λ n. are_parts f n before cs after) least most) (least + length cs) m.count m.small
      (and_from (nat_le least m.count) (is_at_most m.count most && are_parts f m.count before cs after) (le-leb least m.count m.enough)
      (and_from (is_at_most m.count most) (are_parts f m.count before cs after) (at_most_complete m.count most m.few)
      ((parts_decide d m.count).complete before cs after m.parts)));
}

both_true : (a b : Bool) → a ≡ true → b ≡ true → (a && b) ≡ true
both_true a b e f = ap (λ c. c && b) e ∙ f

is_no : (b : Bool) → not b ≡ true → b ≡ false
is_no true h = absurd (true≢false (sym h))
is_no false h = refl

no_is : (b : Bool) → (b ≡ true → ⊥) → not b ≡ true
no_is true h = absurd (h refl)
no_is false h = refl

matches_in_decides : (f : Form) → DecidesIn (matches_in f) (MatchesIn f)
matches_in_decides empty =
    record { sound = λ before cs after h. empty_sound cs h; complete = λ before cs after h. ap is_empty h }
matches_in_decides (class negated items) = record {
  sound = λ before cs after h. one_sound negated items cs h;
  complete = λ before cs after h. ap (is_one_in negated items) h.1 ∙ h.2;
}
matches_in_decides (assertion kind) = record {
  sound = λ before cs after h. let k = and_parts (is_empty cs) (holds kind before after) h in (empty_sound cs k.0, k.1);
  complete = λ before cs after h. both_true (is_empty cs) (holds kind before after) (ap is_empty h.0) h.1;
}
matches_in_decides (concat r s) =
    let d = both_decides (matches_in_decides r) (matches_in_decides s) in
    record { sound = d.sound; complete = d.complete }
matches_in_decides (alternation r s) =
    let a = matches_in_decides r in
    let b = matches_in_decides s in record {
      sound = λ before cs after h. elim (or_cases (matches_in r before cs after) (matches_in s before cs after) h) [
        | inl e ↦ inl (a.sound before cs after e)
        | inr e ↦ inr (b.sound before cs after e)
      ];
      complete = λ before cs after h. elim h [
        | inl e ↦ or_left (matches_in r before cs after) (matches_in s before cs after) (a.complete before cs after e)
        | inr e ↦ or_right (matches_in r before cs after) (matches_in s before cs after) (b.complete before cs after e)
      ];
    }
matches_in_decides (repetition r least most) =
    let d = repetition_decides least most (matches_in_decides r) in
    record { sound = d.sound; complete = d.complete }
matches_in_decides (both r s) =
    let a = matches_in_decides r in
    let b = matches_in_decides s in record {
      sound = λ before cs after h.
          let k = and_parts (matches_in r before cs after) (matches_in s before cs after) h in
          (a.sound before cs after k.0, b.sound before cs after k.1);
      complete = λ before cs after h.
          both_true (matches_in r before cs after) (matches_in s before cs after) (a.complete before cs after h.0)
          (b.complete before cs after h.1);
    }
matches_in_decides (no r) =
    let a = matches_in_decides r in record {
      sound = λ before cs after h m. true≢false (sym (a.complete before cs after m) ∙ is_no (matches_in r before cs after) h);
      complete = λ before cs after h. no_is (matches_in r before cs after) (λ e. h (a.sound before cs after e));
    }

pub matches_decides : (f : Form) → Decides (matches f) (Matches f)
matches_decides f =
    let d = matches_in_decides f in
    record { sound = λ cs h. d.sound None cs None h; complete = λ cs h. d.complete None cs None h }

abbrev found_at : Form → List ℕ → List ℕ → List ℕ → Bool
found_at f before part after = matches_in f (last_of None before) part (next_of after None)

pub searches_decides : (f : Form) → Decides (searches f) (Searches f)
searches_decides f =
    let d = matches_in_decides f in record {
      sound = λ cs h.
          let s = splits_sound (λ before rest. splits (found_at f before) rest) cs h in
          let t = splits_sound (found_at f s.0) s.1 s.3 in
          record {
            before = s.0;
            part = t.0;
            after = t.1;
            split = s.2 ∙ ap (λ us. s.0 ++ us) t.2;
            matched = d.sound (last_of None s.0) t.0 (next_of t.1 None) t.3;
          };
      complete = λ cs h. ap (splits (λ before rest. splits (found_at f before) rest)) h.split
          ∙ splits_complete (λ before rest. splits (found_at f before) rest) h.before (h.part ++ h.after)
          (splits_complete (found_at f h.before) h.part h.after
          (d.complete (last_of None h.before) h.part (next_of h.after None) h.matched));
    }

-- ---- the grammar

tokens_sound : (n : ℕ) (cs : List ℕ) (ts : List Token) → tokens_in n cs ≡ Some ts → Lexes cs ts []
tokens_sound zero [] ts e = subst (λ us. Lexes [] us []) (some_same e) stop
tokens_sound zero (c ∷ cs) ts e = absurd (none_some e)
tokens_sound (suc n) [] ts e = subst (λ us. Lexes [] us []) (some_same e) stop
tokens_sound (suc n) (c ∷ cs) ts e = by (token_front (c ∷ cs)) refl e (tokens_sound n)
  where
    on : (t : Token) (ys : List ℕ) (o : Option (List Token)) → token_front (c ∷ cs) ≡ Some (t, ys) → option_map (with_token t) o ≡ Some ts
        → ((us : List Token) → o ≡ Some us → Lexes ys us []) → Lexes (c ∷ cs) ts []
    on t ys None f g rec = absurd (none_some g)
    on t ys (Some us) f g rec = subst (λ vs. Lexes (c ∷ cs) vs []) (some_same g) (go f (rec us refl))

    by : (o : Option (Token × List ℕ)) → token_front (c ∷ cs) ≡ o
        → option_and_then (λ p. option_map (with_token p.0) (tokens_in n p.1)) o ≡ Some ts
        → ((ys : List ℕ) (us : List Token) → tokens_in n ys ≡ Some us → Lexes ys us []) → Lexes (c ∷ cs) ts []
    by None f g rec = absurd (none_some g)
    by (Some p) f g rec = on p.0 p.1 (tokens_in n p.1) f g (rec p.1)

tokens_nothing : (n : ℕ) → tokens_in n [] ≡ Some []
tokens_nothing zero = refl
tokens_nothing (suc n) = refl

tokens_on : (n : ℕ) (cs ys : List ℕ) (t : Token) (ts : List Token) → token_front cs ≡ Some (t, ys) → length cs ≤ n
    → ((m : ℕ) → length ys ≤ m → tokens_in m ys ≡ Some ts) → tokens_in n cs ≡ Some (t ∷ ts)
tokens_on n [] ys t ts f l rec = absurd (none_some f)
tokens_on zero (c ∷ cs) ys t ts f l rec = absurd (omega arith)
tokens_on (suc n) (c ∷ cs) ys t ts f l rec =
    let s = front_shorter (c ∷ cs) t ys f in
    ap (option_and_then (λ p. option_map (with_token p.0) (tokens_in n p.1))) f ∙ ap (option_map (with_token t)) (rec n (omega arith))

tokens_complete : {cs zs : List ℕ} {ts : List Token} → Lexes cs ts zs → zs ≡ [] → (n : ℕ) → length cs ≤ n → tokens_in n cs ≡ Some ts
tokens_complete stop e n l = ap (tokens_in n) e ∙ tokens_nothing n
tokens_complete (go {xs} {ys} {zs} {t} {ts} f k) e n l = tokens_on n xs ys t ts f l (λ m g. tokens_complete k e m g)

pub regexp_sound : (cs : List ℕ) (r : Regexp) → regexp_in cs ≡ Some r → IsText cs r
regexp_sound cs r e = by (tokens_in (length cs) cs) (tokens_sound (length cs) cs) e
  where
    state_by : (ts : List Token) → Lexes cs ts [] → (o : Option State) → run (fresh, []) ts ≡ o → option_and_then whole_of o ≡ Some r
        → IsText cs r
    state_by ts k None f g = absurd (none_some g)
    state_by ts k (Some (l, [])) f g =
        subst (IsText cs) (some_same g)
        (record { spelled = subst (Spelled cs) (sym (machine_sound ts l f)) (lexes_spelled k refl) })
    state_by ts k (Some (l, o ∷ os)) f g = absurd (none_some g)

    by : (o : Option (List Token)) → ((ts : List Token) → o ≡ Some ts → Lexes cs ts [])
        → option_and_then whole_of (option_and_then (run (fresh, [])) o) ≡ Some r → IsText cs r
    by None k g = absurd (none_some g)
    by (Some ts) k g = state_by ts (k ts refl) (run (fresh, []) ts) refl g

pub regexp_complete : (cs : List ℕ) (r : Regexp) → IsText cs r → regexp_in cs ≡ Some r
regexp_complete cs r x =
    let ts = tokens_complete (spelled_lexes x.spelled) refl (length cs) (omega arith) in
    let m = machine_complete r in
    ap (λ o. option_and_then whole_of (option_and_then (run (fresh, [])) o)) ts
    ∙ (ap (option_and_then whole_of) m.1 ∙ ap (λ q. Some q) m.2)

-- ---- patterns

pub pattern_matches_sound : (ps cs : List ℕ) → pattern_matches ps cs ≡ true → PatternMatches ps cs
pattern_matches_sound ps cs h = by (regexp_in ps) refl h
  where
    by : (o : Option Regexp) → regexp_in ps ≡ o → is_regexp (λ f. matches f cs) o ≡ true → PatternMatches ps cs
    by None e g = absurd (true≢false (sym g))
    by (Some r) e g =
        record { regexp = r; text = regexp_sound ps r e; matched = (matches_decides (regexp_form r)).sound cs g }

pub pattern_matches_complete : (ps cs : List ℕ) → PatternMatches ps cs → pattern_matches ps cs ≡ true
pattern_matches_complete ps cs h =
    ap (is_regexp (λ f. matches f cs)) (regexp_complete ps h.regexp h.text)
    ∙ (matches_decides (regexp_form h.regexp)).complete cs h.matched

pub pattern_searches_sound : (ps cs : List ℕ) → pattern_searches ps cs ≡ true → PatternSearches ps cs
pattern_searches_sound ps cs h = by (regexp_in ps) refl h
  where
    by : (o : Option Regexp) → regexp_in ps ≡ o → is_regexp (λ f. searches f cs) o ≡ true → PatternSearches ps cs
    by None e g = absurd (true≢false (sym g))
    by (Some r) e g =
        record { regexp = r; text = regexp_sound ps r e; matched = (searches_decides (regexp_form r)).sound cs g }

pub pattern_searches_complete : (ps cs : List ℕ) → PatternSearches ps cs → pattern_searches ps cs ≡ true
pattern_searches_complete ps cs h =
    ap (is_regexp (λ f. searches f cs)) (regexp_complete ps h.regexp h.text)
    ∙ (searches_decides (regexp_form h.regexp)).complete cs h.matched
