-- The names of properties in patterns' texts.
use Rattle.std.proofs.Common.{◌≡◌, inl, inr, ℕ, Bool, true, false, not, ◌&&◌, ◌==◌, List, [], ◌∷◌, ◌++◌, codes, Option, Some, None}
use Rattle.std.proofs.Common.{option_map, refl, sym, ap, ◌∙◌, subst, append_assoc, append-nil, true≢false, arith, ◌≢◌, ◌+◌, ◌<◌}
use Rattle.std.proofs.Common.{All, length, get_or, take, drop, take-append-drop}
use Rattle.std.proofs.lemmas.Bool.{cond-false, cond-true, eqb-true, eq-eqb, ne_eqb, and_parts, and_from, not-true}
use Rattle.std.proofs.lemmas.List.{drop_more, get_or-take, length-take-le}
use Rattle.std.proofs.lemmas.List.Elements.{All-head, All-tail, All-from_get_or}
use Rattle.std.specs.Prelude.{option_and_then}
use Rattle.std.specs.Option.{option_map_or}
use Rattle.text_categories.specs.declared.Category.{Category}
use Rattle.text_categories.specs.Names as names
use Rattle.text_categories.specs.Names.{values, value_in, value_named}
use Rattle.text_iregexp.specs.declared.letter.Set.{Set}
use Rattle.text_iregexp.specs.declared.letter.Set.TheVariants as set
use Rattle.text_iregexp.specs.Patterns as is
use Rattle.text_iregexp.specs.Patterns.{PropertyText}
use Rattle.text_iregexp.specs.PatternFronts.{name_front, behind, is_whole, is_name, value_part, property_of, property_front}
use Rattle.text_iregexp.proofs.Lexing.{cond_cases, then_cases, map_cases, none_some, some_same}

-- ---- names

abbrev pub is_without : ℕ → List ℕ → Bool
is_without last [] = true
is_without last (c ∷ cs) = not (c == last) && is_without last cs

abbrev braceless : List ℕ → Bool
braceless cs = is_without 125 cs

pub name_sound : (last : ℕ) (xs ns ys : List ℕ) → name_front last xs ≡ Some (ns, ys) → xs ≡ ns ++ last ∷ ys
name_sound last [] ns ys e = none_some e
name_sound last (c ∷ cs) ns ys e =
    elim (cond_cases (c == last) _ _ (ns, ys) e) [
      | inl a ↦ ap (λ d. d ∷ cs) (eqb-true c last a.0) ∙ ap (λ p. p.0 ++ last ∷ p.1) (some_same a.1)
      | inr b ↦
          let m = map_cases (λ p. let q : List ℕ × List ℕ = (c ∷ p.0, p.1) in q) (name_front last cs) (ns, ys) b.1 in
          ap (λ us. c ∷ us) (name_sound last cs m.0.0 m.0.1 m.1) ∙ ap (λ p. p.0 ++ last ∷ p.1) m.2
    ]

pub name_complete : (last : ℕ) (ns ys : List ℕ) → is_without last ns ≡ true → name_front last (ns ++ last ∷ ys) ≡ Some (ns, ys)
name_complete last [] ys e = cond-true (last == last) _ _ (eq-eqb last last refl)
name_complete last (c ∷ ns) ys e =
    let both = and_parts (not (c == last)) (is_without last ns) e in
    cond-false (c == last) _ _ (not-true (c == last) both.0)
    ∙ ap (option_map (λ p. let q : List ℕ × List ℕ = (c ∷ p.0, p.1) in q)) (name_complete last ns ys both.1)

-- the character does not last a name
abbrev pub IsNoEnd : ℕ → ℕ → Type 0
IsNoEnd last c = c ≢ last

without_all : (last : ℕ) (cs : List ℕ) → All (IsNoEnd last) cs → is_without last cs ≡ true
without_all last [] h = refl
without_all last (c ∷ cs) h =
    and_from (not (c == last)) (is_without last cs) (ap not (ne_eqb c last (All-head (IsNoEnd last) c cs h)))
    (without_all last cs (All-tail (IsNoEnd last) c cs h))

pub no_name : (last : ℕ) (cs : List ℕ) → All (IsNoEnd last) cs → name_front last cs ≡ None
no_name last [] h = refl
no_name last (c ∷ cs) h =
    cond-false (c == last) _ _ (ne_eqb c last (All-head (IsNoEnd last) c cs h))
    ∙ ap (option_map (λ p. let q : List ℕ × List ℕ = (c ∷ p.0, p.1) in q)) (no_name last cs (All-tail (IsNoEnd last) c cs h))

around : (last : ℕ) (cs : List ℕ) (i : ℕ) → i < length cs → get_or cs i 0 ≡ last → cs ≡ take i cs ++ last ∷ drop (i + 1) cs
around last cs i inside here =
    sym (take-append-drop i cs)
    ∙ ap (λ l. take i cs ++ l) (drop_more cs i 0 inside ∙ ap (λ c. c ∷ drop (i + 1) cs) here)

-- a name ends at the first such character
pub name_at : (last : ℕ) (cs : List ℕ) (i : ℕ) → i < length cs → get_or cs i 0 ≡ last → ((k : ℕ) → k < i → get_or cs k 0 ≢ last)
    → name_front last cs ≡ Some (take i cs, drop (i + 1) cs)
name_at last cs i inside here before =
    ap (name_front last) (around last cs i inside here)
    ∙ name_complete last (take i cs) (drop (i + 1) cs) (without_all last (take i cs) (All-from_get_or (IsNoEnd last) (take i cs) 0
    (λ k h. let below : k < i = omega (arith, length-take-le i cs (omega arith)) in
    subst (IsNoEnd last) (sym (get_or-take i cs k 0 below)) (before k below))))

behind_sound : (ds cs es : List ℕ) → behind ds cs ≡ Some es → cs ≡ ds ++ es
behind_sound [] cs es e = some_same e
behind_sound (d ∷ ds) [] es e = none_some e
behind_sound (d ∷ ds) (c ∷ cs) es e =
    elim (cond_cases (c == d) _ _ es e) [
      | inl a ↦ ap (λ x. x ∷ cs) (eqb-true c d a.0) ∙ ap (λ us. d ∷ us) (behind_sound ds cs es a.1)
      | inr b ↦ none_some b.1
    ]

name_whole : (ds cs : List ℕ) → is_name ds cs ≡ true → cs ≡ ds
name_whole ds cs h = by (behind ds cs) refl h
  where
    by : (o : Option (List ℕ)) → behind ds cs ≡ o → is_whole o ≡ true → cs ≡ ds
    by None e f = absurd (true≢false (sym f))
    by (Some []) e f = behind_sound ds cs [] e ∙ append-nil ds
    by (Some (x ∷ xs)) e f = absurd (true≢false (sym f))

-- ---- the names of the table

abbrev all_names : (List ℕ → Bool) → List (List ℕ × (ℕ × ℕ)) → Bool
all_names p [] = true
all_names p (v ∷ vs) = p v.0 && all_names p vs

same_name : (cs ds : List ℕ) → names.is_name cs ds ≡ true → cs ≡ ds
same_name [] [] e = refl
same_name [] (d ∷ ds) e = absurd (true≢false (sym e))
same_name (c ∷ cs) [] e = absurd (true≢false (sym e))
same_name (c ∷ cs) (d ∷ ds) e =
    let both = and_parts (c == d) (names.is_name cs ds) e in
    ap (λ x. x ∷ cs) (eqb-true c d both.0) ∙ ap (λ us. d ∷ us) (same_name cs ds both.1)

-- what all names of a table have
in_table : (p : List ℕ → Bool) (vs : List (List ℕ × (ℕ × ℕ))) (cs : List ℕ) (k : Category) → all_names p vs ≡ true
    → value_in vs cs ≡ Some k → p cs ≡ true
in_table p [] cs k a e = none_some e
in_table p (v ∷ vs) cs k a e =
    let both = and_parts (p v.0) (all_names p vs) a in
    elim (cond_cases (names.is_name cs v.0) _ _ k e) [
      | inl h ↦ ap p (same_name cs v.0 h.0) ∙ both.0
      | inr h ↦ in_table p vs cs k both.1 h.1
    ]

abbrev is_none : Option (List ℕ) → Bool
is_none None = true
is_none (Some ds) = false

none_of : (o : Option (List ℕ)) → is_none o ≡ true → o ≡ None
none_of None e = refl
none_of (Some ds) e = absurd (true≢false (sym e))

record IsValue (cs : List ℕ) : Type 0 where
  brace : braceless cs ≡ true
  any : is_name (codes "Any") cs ≡ false
  ascii : is_name (codes "ASCII") cs ≡ false
  assigned : is_name (codes "Assigned") cs ≡ false
  gc : behind (codes "gc=") cs ≡ None
  general : behind (codes "General_Category=") cs ≡ None

is_value : (cs : List ℕ) (k : Category) → value_named cs ≡ Some k → IsValue cs
unfolding values
is_value cs k h = record {
  brace = in_table braceless values cs k refl h;
  any = not-true _ (in_table (λ ds. not (is_name (codes "Any") ds)) values cs k refl h);
  ascii = not-true _ (in_table (λ ds. not (is_name (codes "ASCII") ds)) values cs k refl h);
  assigned = not-true _ (in_table (λ ds. not (is_name (codes "Assigned") ds)) values cs k refl h);
  gc = none_of _ (in_table (λ ds. is_none (behind (codes "gc=") ds)) values cs k refl h);
  general = none_of _ (in_table (λ ds. is_none (behind (codes "General_Category=") ds)) values cs k refl h);
}

-- ---- the sets of names

value_sound : (cs : List ℕ) (k : Category) → value_named (value_part cs) ≡ Some k → PropertyText cs (set.In k)
value_sound cs k h = by (behind (codes "gc=") cs) (behind (codes "General_Category=") cs) refl refl h
  where
    by : (o p : Option (List ℕ)) → behind (codes "gc=") cs ≡ o → behind (codes "General_Category=") cs ≡ p
        → value_named (option_map_or (λ v. v) o (option_map_or (λ v. v) p cs)) ≡ Some k → PropertyText cs (set.In k)
    by (Some v) p f g e = subst (λ ds. PropertyText ds (set.In k)) (sym (behind_sound (codes "gc=") cs v f)) (is.gc v k e)
    by None (Some v) f g e =
        subst (λ ds. PropertyText ds (set.In k)) (sym (behind_sound (codes "General_Category=") cs v g)) (is.general_category v k e)
    by None None f g e = is.value cs k e

whole_sound : (ds cs : List ℕ) (s x : Set) → is_name ds cs ≡ true → ◌≡◌ {A = Option Set} (Some s) (Some x) → PropertyText ds s
    → PropertyText cs x
whole_sound ds cs s x h e t =
    subst (PropertyText cs) (some_same e) (subst (λ us. PropertyText us s) (sym (name_whole ds cs h)) t)

property_sound : (cs : List ℕ) (x : Set) → property_of cs ≡ Some x → PropertyText cs x
property_sound cs x e =
    elim (cond_cases (is_name (codes "Any") cs) _ _ x e) [
      | inl a ↦ whole_sound (codes "Any") cs set.All x a.0 a.1 is.any
      | inr b ↦ elim (cond_cases (is_name (codes "ASCII") cs) _ _ x b.1) [
        | inl a ↦ whole_sound (codes "ASCII") cs set.Ascii x a.0 a.1 is.ascii
        | inr d ↦ elim (cond_cases (is_name (codes "Assigned") cs) _ _ x d.1) [
          | inl a ↦
              let m = map_cases (λ k. set.NotIn k) (value_named (codes "Cn")) x a.1 in
              whole_sound (codes "Assigned") cs (set.NotIn m.0) x a.0 (ap (λ s. Some s) m.2) (is.assigned m.0 m.1)
          | inr f ↦
              let m = map_cases (λ k. set.In k) (value_named (value_part cs)) x f.1 in
              subst (PropertyText cs) m.2 (value_sound cs m.0 m.1)
        ]
      ]
    ]

property_complete : (cs : List ℕ) (x : Set) → PropertyText cs x → property_of cs ≡ Some x
property_complete cs x (is.value ds k h) =
    let v = is_value ds k h in
    cond-false (is_name (codes "Any") ds) _ _ v.any
    ∙ (cond-false (is_name (codes "ASCII") ds) _ _ v.ascii
    ∙ (cond-false (is_name (codes "Assigned") ds) _ _ v.assigned
    ∙ (ap (λ o. option_map (λ j. set.In j) (value_named (option_map_or (λ u. u) o
    (option_map_or (λ u. u) (behind (codes "General_Category=") ds) ds)))) v.gc
    ∙ (ap (λ o. option_map (λ j. set.In j) (value_named (option_map_or (λ u. u) o ds))) v.general
    ∙ ap (option_map (λ j. set.In j)) h))))
property_complete cs x (is.general_category ds k h) = ap (option_map (λ j. set.In j)) h
property_complete cs x (is.gc ds k h) = ap (option_map (λ j. set.In j)) h
property_complete cs x is.any = refl
property_complete cs x is.ascii = refl
property_complete cs x (is.assigned k h) = ap (option_map (λ j. set.NotIn j)) h

braceless_of : (cs : List ℕ) (x : Set) → PropertyText cs x → braceless cs ≡ true
braceless_of cs x (is.value ds k h) = (is_value ds k h).brace
braceless_of cs x (is.general_category ds k h) = (is_value ds k h).brace
braceless_of cs x (is.gc ds k h) = (is_value ds k h).brace
braceless_of cs x is.any = refl
braceless_of cs x is.ascii = refl
braceless_of cs x (is.assigned k h) = refl

-- ---- a property in its braces

pub record PropertyFront (xs : List ℕ) (x : Set) (ys : List ℕ) : Type 0 where
  pub cs : List ℕ
  pub split : xs ≡ 123 ∷ ((cs ++ 125 ∷ []) ++ ys)
  pub text : PropertyText cs x

pub property_found : (xs : List ℕ) (x : Set) (ys : List ℕ) → property_front xs ≡ Some (x, ys) → PropertyFront xs x ys
property_found [] x ys e = none_some e
property_found (c ∷ cs) x ys e =
    elim (cond_cases (c == 123) _ _ (x, ys) e) [
      | inl a ↦
          let t =
          then_cases (λ p. option_map (λ y. let q : Set × List ℕ = (y, p.1) in q) (property_of p.0)) (name_front 125 cs) (x, ys) a.1 in
          let m = map_cases (λ y. let q : Set × List ℕ = (y, t.0.1) in q) (property_of t.0.0) (x, ys) t.2 in
          record {
            cs = t.0.0;
            split = ap (λ d. d ∷ cs) (eqb-true c 123 a.0)
                ∙ (ap (λ us. 123 ∷ us) (name_sound 125 cs t.0.0 t.0.1 t.1)
                ∙ (ap (λ p. 123 ∷ (t.0.0 ++ 125 ∷ p.1)) m.2 ∙ ap (λ us. 123 ∷ us) (sym (append_assoc t.0.0 (125 ∷ []) ys))));
            text = subst (PropertyText t.0.0) (ap (λ p. p.0) m.2) (property_sound t.0.0 m.0 m.1);
          }
      | inr b ↦ none_some b.1
    ]

pub property_read : (cs : List ℕ) (x : Set) (ys : List ℕ) → PropertyText cs x
    → property_front (123 ∷ ((cs ++ 125 ∷ []) ++ ys)) ≡ Some (x, ys)
property_read cs x ys t =
    ap (λ us. property_front (123 ∷ us)) (append_assoc cs (125 ∷ []) ys)
    ∙ (ap (option_and_then (λ p. option_map (λ y. let q : Set × List ℕ = (y, p.1) in q) (property_of p.0)))
    (name_complete 125 cs ys (braceless_of cs x t))
    ∙ ap (option_map (λ y. let q : Set × List ℕ = (y, ys) in q)) (property_complete cs x t))
