-- The names of a pattern's groups, and the marks of its text with them.
use Rattle.std.proofs.Common.{◌≡◌, inl, inr, ℕ, ◌<◌, Bool, true, false, not, ◌&&◌, ◌||◌, ◌==◌, List, [], ◌∷◌, ◌++◌, length}
use Rattle.std.proofs.Common.{option_map, Option, Some, None, refl, sym, ap, ◌∙◌, subst, arith, append_assoc, append-nil, length-append}
use Rattle.std.proofs.Common.{true≢false}
use Rattle.std.proofs.lemmas.Bool.{cond-true, eqb-true, eq-eqb, ne_eqb, and_parts, and_from, not-true, or_left}
use Rattle.std.specs.Prelude.{option_and_then}
use Rattle.std.specs.Option.{option_map_or}
use Rattle.std.specs.Borrow.{Bor}
use Rattle.std.specs.Prelude.{Result, Ok, Err}
use Rattle.std.specs.declared.alloc.Global.{Global}
use Rattle.std.specs.declared.vec.Vec.{Vec}
use Rattle.text_iregexp.specs.declared.error.IRegexpErrorKind.{IRegexpErrorKind}
use Rattle.text_iregexp.specs.declared.error.IRegexpErrorKind.TheVariants as kind
use Rattle.text_iregexp.specs.declared.mark.Mark.{Mark as CodeMark}
use Rattle.text_iregexp.specs.Fronts.{Fronts}
use Rattle.text_iregexp.specs.Grammar.{opened, is_digit}
use Rattle.text_iregexp.specs.Limits.{LargeCount}
use Rattle.text_iregexp.specs.Patterns as is
use Rattle.text_iregexp.specs.Patterns.{Mark, token, Spells, fits, follows, Spelled, is_name_part, begins_name, are_name_parts}
use Rattle.text_iregexp.specs.Patterns.{is_group_name}
use Rattle.text_iregexp.specs.Patterns.{is_same, is_among, are_distinct}
use Rattle.text_iregexp.specs.PatternFronts.{mark_of, mark_front, name_front, naming, named_front, without_name, with_name, next_front}
use Rattle.text_iregexp.specs.PatternFronts.{Takes, TakesName, names_of}
use Rattle.text_iregexp.specs.PatternMachine.{IsFitMark}
use Rattle.text_iregexp.proofs.Lexing.{cond_cases, then_cases, map_cases, none_some, some_same}
use Rattle.text_iregexp.proofs.PatternLexing.{mark_sound, mark_complete, mark_shorter}
use Rattle.text_iregexp.proofs.PatternProperties.{is_without, name_sound, name_complete}

-- ---- names

-- a character that is `>` is in no name
angle_free : (c : ℕ) → is_name_part c ≡ true → (c == 62) ≡ false
angle_free c h = by (c == 62) refl
  where
    by : (b : Bool) → (c == 62) ≡ b → b ≡ false
    by true e = absurd (true≢false (sym h ∙ ap is_name_part (eqb-true c 62 e)))
    by false e = refl

parts_free : (cs : List ℕ) → are_name_parts cs ≡ true → is_without 62 cs ≡ true
parts_free [] h = refl
parts_free (c ∷ cs) h =
    let both = and_parts (is_name_part c) (are_name_parts cs) h in
    and_from (not (c == 62)) (is_without 62 cs) (ap not (angle_free c both.0)) (parts_free cs both.1)

begins_part : (c : ℕ) → begins_name c ≡ true → is_name_part c ≡ true
begins_part c h = or_left (begins_name c) (is_digit c) h

name_free : (cs : List ℕ) → is_group_name cs ≡ true → is_without 62 cs ≡ true
name_free [] h = absurd (true≢false (sym h))
name_free (c ∷ cs) h =
    let both = and_parts (begins_name c) (are_name_parts cs) h in
    and_from (not (c == 62)) (is_without 62 cs) (ap not (angle_free c (begins_part c both.0))) (parts_free cs both.1)

regroup_name : (n ds : List ℕ) → 40 ∷ 63 ∷ 60 ∷ (n ++ 62 ∷ ds) ≡ (40 ∷ 63 ∷ 60 ∷ (n ++ 62 ∷ [])) ++ ds
regroup_name n ds = ap (λ us. 40 ∷ 63 ∷ 60 ∷ us) (sym (append_assoc n (62 ∷ []) ds))

named_sound : (xs n ys : List ℕ) → named_front xs ≡ Some (n, ys)
    → (xs ≡ 40 ∷ 63 ∷ 60 ∷ (n ++ 62 ∷ ys)) × (is_group_name n ≡ true)
named_sound [] n ys e = none_some e
named_sound (a ∷ []) n ys e = none_some e
named_sound (a ∷ b ∷ []) n ys e = none_some e
named_sound (a ∷ b ∷ c ∷ cs) n ys e =
    elim (cond_cases ((a == 40) && ((b == 63) && (c == 60))) _ _ (n, ys) e) [
      | inl h ↦
          let first = and_parts (a == 40) ((b == 63) && (c == 60)) h.0 in
          let second = and_parts (b == 63) (c == 60) first.1 in
          let t = then_cases naming (name_front 62 cs) (n, ys) h.1 in
          elim (cond_cases (is_group_name t.0.0) _ _ (n, ys) t.2) [
            | inl k ↦
                let same = some_same k.1 in (
                  ap (λ x. x ∷ b ∷ c ∷ cs) (eqb-true a 40 first.0)
                      ∙ (ap (λ x. 40 ∷ x ∷ c ∷ cs) (eqb-true b 63 second.0)
                      ∙ (ap (λ x. 40 ∷ 63 ∷ x ∷ cs) (eqb-true c 60 second.1)
                      ∙ (ap (λ us. 40 ∷ 63 ∷ 60 ∷ us) (name_sound 62 cs t.0.0 t.0.1 t.1)
                      ∙ ap (λ p. 40 ∷ 63 ∷ 60 ∷ (p.0 ++ 62 ∷ p.1)) same))),
                  subst (λ p. is_group_name p.0 ≡ true) same k.0,
                )
            | inr k ↦ none_some k.1
          ]
      | inr h ↦ none_some h.1
    ]

named_complete : (n ys : List ℕ) → is_group_name n ≡ true → named_front (40 ∷ 63 ∷ 60 ∷ (n ++ 62 ∷ ys)) ≡ Some (n, ys)
named_complete n ys h = ap (option_and_then naming) (name_complete 62 n ys (name_free n h)) ∙ cond-true (is_group_name n) _ _ h

-- what begins with a name is no other mark
no_mark : (xs n ys : List ℕ) → named_front xs ≡ Some (n, ys) → mark_front xs ≡ None
no_mark xs n ys e = ap mark_front (named_sound xs n ys e).0

-- ---- each mark, with its name

nothing_behind : (b : Bool) → not (b && false) ≡ true
nothing_behind true = refl
nothing_behind false = refl

fits_front : (m : Mark) (xs ys : List ℕ) → fits m (xs ++ ys) ≡ true → fits m xs ≡ true
fits_front (is.look negated) xs ys h = refl
fits_front (token t) [] ys h = nothing_behind (is.takes_question (token t))
fits_front (token t) (x ∷ xs) ys h = h

follows_front : (cs xs ys : List ℕ) → follows cs (xs ++ ys) ≡ true → follows cs xs ≡ true
follows_front cs [] ys h = nothing_behind (is.is_null cs)
follows_front cs (x ∷ xs) ys h = h

begins_with : (cs : List ℕ) (m : Mark) → Spells cs m → m ≡ token opened → (ds : List ℕ) × (cs ≡ 40 ∷ ds)
begins_with cs m is.begins e = cc
begins_with cs m is.finishes e = cc
begins_with cs m is.boundary e = cc
begins_with cs m is.no_boundary e = cc
begins_with cs m is.opens e = ([], refl)
begins_with cs m is.opens_silently e = (63 ∷ 58 ∷ [], refl)
begins_with cs m is.looks e = cc
begins_with cs m is.looks_not e = cc
begins_with cs m is.closes e = cc
begins_with cs m is.parts e = cc
begins_with cs m is.any e = cc
begins_with cs m (is.normal c h) e = cc
begins_with cs m (is.escape t) e = cc
begins_with cs m (is.bracket h t f k) e = cc
begins_with cs m (is.greedy s) e = cc
begins_with cs m (is.lazy s) e = cc

-- a mark and its name stand before the rest, also where less follows
pub record Next (xs : List ℕ) (m : Mark) (names : List (List ℕ)) (ys : List ℕ) : Type 0 where
  pub cs : List ℕ
  pub split : xs ≡ cs ++ ys
  pub fit : IsFitMark m
  pub shorter : length ys < length xs
  pub begins : m ≡ token opened → (ds : List ℕ) × (cs ≡ 40 ∷ ds)
  pub grows : (ds zs : List ℕ) (ms : List Mark) (others : List (List ℕ)) → ys ≡ ds ++ zs → Spelled ds ms others
      → Spelled (cs ++ ds) (m ∷ ms) (names ++ others)

next_mark : (xs : List ℕ) (m : Mark) (ys : List ℕ) → mark_front xs ≡ Some (m, ys) → Next xs m [] ys
next_mark xs m ys e =
    let s = mark_sound xs m ys e in
    record {
      cs = s.0.cs;
      split = s.0.split;
      fit = s.0.fit;
      shorter = mark_shorter xs m ys e;
      begins = begins_with s.0.cs m s.0.spelled;
      grows = λ ds zs ms others f k.
          is.more s.0.spelled (fits_front m ds zs (subst (λ us. fits m us ≡ true) f s.1))
          (follows_front s.0.cs ds zs (subst (λ us. follows s.0.cs us ≡ true) f s.0.after)) k;
    }

name_shorter : (xs n ys : List ℕ) → xs ≡ 40 ∷ 63 ∷ 60 ∷ (n ++ 62 ∷ ys) → length ys < length xs
name_shorter xs n ys e =
    let len : length xs ≡ length (40 ∷ 63 ∷ 60 ∷ (n ++ 62 ∷ ys)) = ap length e in
    let sum = length-append n (62 ∷ ys) in
    omega arith

next_name : (xs n ys : List ℕ) → named_front xs ≡ Some (n, ys) → Next xs (token opened) (n ∷ []) ys
next_name xs n ys e =
    let s = named_sound xs n ys e in
    record {
      cs = 40 ∷ 63 ∷ 60 ∷ (n ++ 62 ∷ []);
      split = s.0 ∙ regroup_name n ys;
      fit = tt;
      shorter = name_shorter xs n ys s.0;
      begins = λ h. (63 ∷ 60 ∷ (n ++ 62 ∷ []), refl);
      grows = λ ds zs ms others f k.
          subst (λ us. Spelled us (token opened ∷ ms) (n ∷ others)) (regroup_name n ds) (is.named s.1 k);
    }

pub next_sound : (xs : List ℕ) (m : Mark) (names : List (List ℕ)) (ys : List ℕ) → next_front xs ≡ Some (m, (names, ys))
    → Next xs m names ys
next_sound xs m names ys e = by (named_front xs) refl e
  where
    by : (o : Option (List ℕ × List ℕ)) → named_front xs ≡ o
        → option_map_or (λ p. let q : Option (Mark × (List (List ℕ) × List ℕ)) = Some (with_name p) in q) o
        (option_map without_name (mark_front xs))
        ≡ Some (m, (names, ys)) → Next xs m names ys
    by None f g =
        let k = map_cases without_name (mark_front xs) (m, (names, ys)) g in
        subst (λ p. Next xs p.0 p.1.0 p.1.1) k.2 (next_mark xs k.0.0 k.0.1 k.1)
    by (Some p) f g = subst (λ q. Next xs q.0 q.1.0 q.1.1) (some_same g) (next_name xs p.0 p.1 f)

pub mark_complete_next : (cs : List ℕ) (m : Mark) → Spells cs m → (ys : List ℕ) → fits m ys ≡ true → follows cs ys ≡ true
    → next_front (cs ++ ys) ≡ Some (m, ([], ys))
mark_complete_next cs m s ys f a = by (named_front (cs ++ ys)) refl
  where
    marked : mark_front (cs ++ ys) ≡ Some (m, ys)
    marked = mark_complete cs m s ys f a

    by : (o : Option (List ℕ × List ℕ)) → named_front (cs ++ ys) ≡ o
        → option_map_or (λ p. let q : Option (Mark × (List (List ℕ) × List ℕ)) = Some (with_name p) in q) o
        (option_map without_name (mark_front (cs ++ ys)))
        ≡ Some (m, ([], ys))
    by None g = ap (option_map without_name) marked
    by (Some p) g = absurd (none_some (sym (no_mark (cs ++ ys) p.0 p.1 g) ∙ marked))

pub name_complete_next : (n ys : List ℕ) → is_group_name n ≡ true
    → next_front (40 ∷ 63 ∷ 60 ∷ (n ++ 62 ∷ ys)) ≡ Some (token opened, (n ∷ [], ys))
name_complete_next n ys h =
    ap (λ o. option_map_or (λ p. let q : Option (Mark × (List (List ℕ) × List ℕ)) = Some (with_name p) in q) o
    (option_map without_name (mark_front (40 ∷ 63 ∷ 60 ∷ (n ++ 62 ∷ ys))))) (named_complete n ys h)

-- ---- distinct names

eqb_flipped : (c d : ℕ) → (c == d) ≡ (d == c)
eqb_flipped c d = by (c == d) refl
  where
    by : (b : Bool) → (c == d) ≡ b → b ≡ (d == c)
    by true e = sym (eq-eqb d c (sym (eqb-true c d e)))
    by false e = sym (ne_eqb d c (λ f. true≢false (sym (eq-eqb c d (sym f)) ∙ e)))

same_flipped : (cs ds : List ℕ) → is_same cs ds ≡ is_same ds cs
same_flipped [] [] = refl
same_flipped [] (d ∷ ds) = refl
same_flipped (c ∷ cs) [] = refl
same_flipped (c ∷ cs) (d ∷ ds) = ap (λ b. b && is_same cs ds) (eqb_flipped c d) ∙ ap (λ b. (d == c) && b) (same_flipped cs ds)

or_parts : (a b : Bool) → (a || b) ≡ false → (a ≡ false) × (b ≡ false)
or_parts true b h = absurd (true≢false h)
or_parts false b h = (refl, h)

among_last : (names : List (List ℕ)) (m n : List ℕ) → is_among names m ≡ false → is_same n m ≡ false
    → is_among (names ++ n ∷ []) m ≡ false
among_last [] m n h k = ap (λ b. b || false) k
among_last (o ∷ names) m n h k =
    let both = or_parts (is_same o m) (is_among names m) h in
    ap (λ b. b || is_among (names ++ n ∷ []) m) both.0 ∙ among_last names m n both.1 k

-- another name is added
pub distinct_on : (names : List (List ℕ)) (n : List ℕ) → is_among names n ≡ false → are_distinct names ≡ true
    → are_distinct (names ++ n ∷ []) ≡ true
distinct_on [] n h d = refl
distinct_on (m ∷ names) n h d =
    let both = and_parts (not (is_among names m)) (are_distinct names) d in
    let apart = or_parts (is_same m n) (is_among names n) h in
    and_from (not (is_among (names ++ n ∷ []) m)) (are_distinct (names ++ n ∷ []))
    (ap not (among_last names m n (not-true (is_among names m) both.0) (same_flipped n m ∙ apart.0)))
    (distinct_on names n apart.1 both.1)

among_front : (names others : List (List ℕ)) (m : List ℕ) → is_among (names ++ others) m ≡ false → is_among names m ≡ false
among_front [] others m h = refl
among_front (n ∷ names) others m h =
    let both = or_parts (is_same n m) (is_among (names ++ others) m) h in
    ap (λ b. b || is_among names m) both.0 ∙ among_front names others m both.1

-- the first ones of distinct names are distinct
pub distinct_front : (names others : List (List ℕ)) → are_distinct (names ++ others) ≡ true → are_distinct names ≡ true
distinct_front [] others h = refl
distinct_front (n ∷ names) others h =
    let both = and_parts (not (is_among (names ++ others) n)) (are_distinct (names ++ others)) h in
    and_from (not (is_among names n)) (are_distinct names)
    (ap not (among_front names others n (not-true (is_among (names ++ others) n) both.0))) (distinct_front names others both.1)

or_right : (a : Bool) → (a || true) ≡ true
or_right true = refl
or_right false = refl

and_false : (a : Bool) → (a && false) ≡ false
and_false true = refl
and_false false = refl

among_same : (names : List (List ℕ)) (m n : List ℕ) → is_same n m ≡ true → is_among (names ++ n ∷ []) m ≡ true
among_same [] m n h = or_left (is_same n m) false h
among_same (o ∷ names) m n h = ap (λ b. is_same o m || b) (among_same names m n h) ∙ or_right (is_same o m)

-- a name is added that is there already
pub repeated_on : (names : List (List ℕ)) (n : List ℕ) → is_among names n ≡ true → are_distinct (names ++ n ∷ []) ≡ false
repeated_on [] n h = absurd (true≢false (sym h))
repeated_on (m ∷ names) n h = by (is_same m n) refl h (repeated_on names n)
  where
    by : (b : Bool) → is_same m n ≡ b → (b || is_among names n) ≡ true
        → (is_among names n ≡ true → are_distinct (names ++ n ∷ []) ≡ false) → are_distinct (m ∷ (names ++ n ∷ [])) ≡ false
    by true e f rec =
        ap (λ b. not b && are_distinct (names ++ n ∷ [])) (among_same names m n (same_flipped n m ∙ e))
    by false e f rec =
        ap (λ b. not (is_among (names ++ n ∷ []) m) && b) (rec f) ∙ and_false (not (is_among (names ++ n ∷ []) m))

-- ---- the next mark

abbrev next_of : List ℕ → Option (List ℕ × List ℕ) → Option (Mark × (List (List ℕ) × List ℕ))
next_of cs o =
    option_map_or (λ p. let q : Option (Mark × (List (List ℕ) × List ℕ)) = Some (with_name p) in q) o
    (option_map without_name (mark_front cs))

pub unnamed : (cs : List ℕ) (old : List (List ℕ)) (r : Result (CodeMark × Bor (List ℕ)) IRegexpErrorKind) → named_front cs ≡ None
    → Fronts (LargeCount cs) mark_of (mark_front cs) r → TakesName cs old r old
unnamed cs old (Ok p) n f = ([], ap (next_of cs) n ∙ ap (option_map without_name) f, sym (append-nil old), λ d. d)
unnamed cs old (Err kind.Invalid) n f =
    λ m names ys e. absurd (none_some (sym (ap (next_of cs) n ∙ ap (option_map without_name) f) ∙ e))
unnamed cs old (Err kind.TooDeep) n f = absurd f
unnamed cs old (Err kind.TooLarge) n f = f
unnamed cs old (Err kind.OutOfMemory) n f = tt

pub repeated : (cs : List ℕ) (old : List (List ℕ)) (n ys : List ℕ) → named_front cs ≡ Some (n, ys) → is_among old n ≡ true
    → (m : Mark) (names : List (List ℕ)) (zs : List ℕ) → next_front cs ≡ Some (m, (names, zs)) → are_distinct (old ++ names) ≡ false
repeated cs old n ys e h m names zs f =
    let same : with_name (n, ys) ≡ (m, (names, zs)) = some_same (sym (ap (next_of cs) e) ∙ f) in
    subst (λ q. are_distinct (old ++ q.1.0) ≡ false) same (repeated_on old n h)

names_on : (vs : List (Vec ℕ Global)) (v : Vec ℕ Global) → names_of (vs ++ v ∷ []) ≡ names_of vs ++ v.items ∷ []
names_on [] v = refl
names_on (w ∷ vs) v = ap (λ us. w.items ∷ us) (names_on vs v)

pub taken : (cs : List ℕ) (old new : List (Vec ℕ Global)) (v : Vec ℕ Global) (n ys : List ℕ) → named_front cs ≡ Some (n, ys)
    → is_among (names_of old) n ≡ false → new ≡ old ++ v ∷ [] → v.items ≡ n → Takes cs (token opened) ys (names_of old) (names_of new)
taken cs old new v n ys e h f g =
    let whole : names_of new ≡ names_of old ++ n ∷ [] =
    ap names_of f ∙ (names_on old v ∙ ap (λ us. names_of old ++ us ∷ []) g) in (
      n ∷ [],
      ap (next_of cs) e,
      whole,
      λ d. ap are_distinct whole ∙ distinct_on (names_of old) n h d,
    )
