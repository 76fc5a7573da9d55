-- Numbers, as the machine reads them.
use Rattle.std.proofs.Common.{◌≡◌, ℕ, ◌<◌, ◌≤◌, ◌==◌, Bool, true, false, List, [], ◌∷◌, ◌++◌, length, Option, Some, None, IfSome}
use Rattle.std.proofs.Common.{MatchOption, Result, Ok, Err, OnOk, refl, sym, ap, ◌∙◌, subst, inr, ⊎_elim, true≢false, append_assoc}
use Rattle.std.proofs.Common.{append-nil, arith, is_err, inl, length-append}
use Rattle.std.specs.Char.{is_ascii_digit}
use Rattle.std.specs.List.{AllByRecursion}
use Rattle.std.proofs.lemmas.Bool.{ne_eqb}
use Rattle.std.proofs.lemmas.Bool.Decides.{nat_tests}
use Rattle.tinyjson_number.specs.Decimal.{Decimal}
use Rattle.tinyjson_number.specs.Numeral.{numeral, Numeral, AreDigits, has_leading_zero, is_exponent_letter, is_sign, value, in_range}
use Rattle.tinyjson_tokens.specs.Source.{Sight, Still, Stops, Takes, TakesRun}
use Rattle.tinyjson_grammar.specs.Machine.{strictly, step, end, then_step, end_plain, Frame, in_array, at_key, at_value, Next, next, stop}
use Rattle.tinyjson_grammar.specs.Machine.{awaited, digits, minus, integer, point, fraction, letter, sign, exponent, complete}
use Rattle.tinyjson_tokens.specs.NumberSteps.{BeginsNumber, Gathered, Accepted, Declined, Accepts, Digits}
use Rattle.tinyjson_tokens.specs.Steps.{onward, ending, IsNext, IsTaken, Comes, Ends, Leads, Refuses}
use Rattle.tinyjson_grammar.specs.Tree.{number}
use Rattle.tinyjson_grammar.specs.declared.error.JsonParseErrorKind.{JsonParseErrorKind}
use Rattle.tinyjson_grammar.specs.declared.error.JsonParseErrorKind.TheVariants.{EmptyInteger, LeadingZero, EmptyFraction, EmptyExponent}
use Rattle.tinyjson_grammar.specs.declared.error.JsonParseErrorKind.TheVariants.{NumberOutOfRange, OutOfMemory}
use Rattle.tinyjson_tokens.proofs.Reading.Steps.{Same_refl, Leads_trans, Leads_peek, Leads_shown, Leads_end, Halts_here, Refuses_as}
use Rattle.tinyjson_tokens.proofs.Reading.Steps.{Refuses_memory}
use Rattle.tinyjson_grammar.proofs.Callers.{digit_not_white, letter_no_digit, sign_no_digit}

-- ---- characters

pub is_one : (d c : ℕ) → (c == d) ≡ true → c ≡ d
is_one d c h = grind (arith, nat_tests)

digit_low : (c : ℕ) → is_ascii_digit c ≡ true → 48 ≤ c
digit_low c d = grind (arith, nat_tests)

digit_high : (c : ℕ) → is_ascii_digit c ≡ true → c ≤ 57
digit_high c d = grind (arith, nat_tests)

-- ---- texts

pub are_digits : (ds : List ℕ) → AllByRecursion (λ c. is_ascii_digit c ≡ true) ds → AreDigits ds
are_digits [] a = tt
are_digits (d ∷ ds) a = (a.0, are_digits ds a.1)

pub gathered_integer : (b : Bool) (ds text : List ℕ) → AreDigits ds → 0 < length ds → has_leading_zero ds ≡ false → text ≡ ds
    → Gathered (numeral b ds [] None) text
gathered_integer b ds text a l z e = record {
  well_formed = record { integer = a; some_digit = l; fraction = tt; exponent = tt };
  no_leading_zero = z;
  gathered = append-nil ds ∙ sym e;
}

pub gathered_fraction : (b : Bool) (ds f old new : List ℕ) → Gathered (numeral b ds [] None) old → AreDigits f → new ≡ old ++ f
    → Gathered (numeral b ds f None) new
gathered_fraction b ds f old new s a e = record {
  well_formed = record { integer = s.well_formed.integer; some_digit = s.well_formed.some_digit; fraction = a; exponent = tt };
  no_leading_zero = s.no_leading_zero;
  gathered = ap (λ t. ds ++ t) (append-nil f) ∙ sym (e ∙ ap (λ t. t ++ f) (sym s.gathered ∙ append-nil ds));
}

pub gathered_exponent : (b : Bool) (ds f : List ℕ) (l : ℕ) (s : Option ℕ) (xs old new : List ℕ) → Gathered (numeral b ds f None) old
    → is_exponent_letter l ≡ true → IfSome s (λ c. is_sign c ≡ true) → AreDigits xs → 0 < length xs
    → new ≡ old ++ xs → Gathered (numeral b ds f (Some (record { letter = l; sign = s; digits = xs }))) new
gathered_exponent b ds f l s xs old new h i j a n e = record {
  well_formed = record {
    integer = h.well_formed.integer;
    some_digit = h.well_formed.some_digit;
    fraction = h.well_formed.fraction;
    exponent = record { letter = i; sign = j; digits = a; some_digit = n };
  };
  no_leading_zero = h.no_leading_zero;
  gathered = sym (e ∙ ap (λ t. t ++ xs) (sym h.gathered ∙ ap (λ t. ds ++ t) (append-nil f)) ∙ append_assoc ds f xs);
}

-- ---- a run of digits

same_length : (old new ds : List ℕ) → new ≡ old ++ ds → length new ≡ length old → ds ≡ []
same_length old new [] e h = refl
same_length old new (d ∷ ds) e h = absurd (omega (arith, ap length e, length-append old (d ∷ ds)))

module _ {S : Type 0} (sight : Sight S) {E : Type 0} (empty : JsonParseErrorKind) (p : S) (old new : List ℕ) (q : S) where
  -- there was no memory for some of them
  pub digits_memory : (r : Result (Unit {0}) E) → TakesRun sight is_ascii_digit p old r new q
      → Digits sight empty p old (Err OutOfMemory) new q
  digits_memory r t = record { ds = t.taken; digits = t.pass; takes = t.takes; result = inr refl }

  -- there was none
  pub digits_none : (r : Result (Unit {0}) E) → TakesRun sight is_ascii_digit p old r new q → OnOk r (Stops sight is_ascii_digit q)
      → OnOk r (new ≡ old → Still sight p q) → is_err r ≡ false → length new ≡ length old → Digits sight empty p old (Err empty) new q
  digits_none (Ok v) t s w h l =
      let n = same_length old new t.taken t.added l in
      record {
        ds = [];
        digits = tt;
        takes = subst (λ xs. Takes sight p xs q) n t.takes;
        result = inl (refl, refl, s, w (t.added ∙ ap (λ xs. old ++ xs) n ∙ append-nil old));
      }
  digits_none (Err v) t s w h l = absurd (true≢false h)

  -- there were some
  pub digits_some : (r : Result (Unit {0}) E) → TakesRun sight is_ascii_digit p old r new q → OnOk r (Stops sight is_ascii_digit q)
      → is_err r ≡ false → (length new ≡ length old → ⊥) → Digits sight empty p old (Ok tt) new q
  digits_some (Ok v) t s h l = record {
    ds = t.taken;
    digits = t.pass;
    takes = t.takes;
    result = (t.added, omega (arith, l, ap length t.added, length-append old t.taken), s);
  }
  digits_some (Err v) t s h l = absurd (true≢false h)

-- ---- the machine before a digit, with the digits of a part so far

abbrev pub begun : List Frame → Bool → List ℕ → Next
begun fs false [] = next fs awaited
begun fs true [] = next fs (digits minus (numeral true [] [] None))
begun fs b (d ∷ ds) = next fs (digits integer (numeral b (d ∷ ds) [] None))

abbrev pub pointed : List Frame → Bool → List ℕ → List ℕ → Next
pointed fs b ds [] = next fs (digits point (numeral b ds [] None))
pointed fs b ds (x ∷ xs) = next fs (digits fraction (numeral b ds (x ∷ xs) None))

abbrev pub powered : List Frame → Bool → List ℕ → List ℕ → ℕ → Option ℕ → List ℕ → Next
powered fs b ds f l None [] = next fs (digits letter (numeral b ds f (Some (record { letter = l; sign = None; digits = [] }))))
powered fs b ds f l (Some s) [] = next fs (digits sign (numeral b ds f (Some (record { letter = l; sign = Some s; digits = [] }))))
powered fs b ds f l s (x ∷ xs) = next fs (digits exponent (numeral b ds f (Some (record { letter = l; sign = s; digits = x ∷ xs }))))

pub begun_next : (fs : List Frame) (b : Bool) (xs : List ℕ) → IsNext (begun fs b xs)
begun_next fs false [] = tt
begun_next fs true [] = tt
begun_next fs false (x ∷ xs) = tt
begun_next fs true (x ∷ xs) = tt

pub pointed_next : (fs : List Frame) (b : Bool) (ds xs : List ℕ) → IsNext (pointed fs b ds xs)
pointed_next fs b ds [] = tt
pointed_next fs b ds (x ∷ xs) = tt

pub powered_next : (fs : List Frame) (b : Bool) (ds f : List ℕ) (l : ℕ) (s : Option ℕ) (xs : List ℕ) → IsNext (powered fs b ds f l s xs)
powered_next fs b ds f l None [] = tt
powered_next fs b ds f l (Some s) [] = tt
powered_next fs b ds f l None (x ∷ xs) = tt
powered_next fs b ds f l (Some s) (x ∷ xs) = tt

pub begun_integer : (fs : List Frame) (b : Bool) (ds : List ℕ) → 0 < length ds
    → begun fs b ds ≡ next fs (digits integer (numeral b ds [] None))
begun_integer fs b [] h = absurd (omega arith)
begun_integer fs false (d ∷ ds) h = refl
begun_integer fs true (d ∷ ds) h = refl

pub pointed_integer : (fs : List Frame) (b : Bool) (ds f : List ℕ) → 0 < length f
    → pointed fs b ds f ≡ next fs (digits fraction (numeral b ds f None))
pointed_integer fs b ds [] h = absurd (omega arith)
pointed_integer fs b ds (x ∷ xs) h = refl

pub powered_integer : (fs : List Frame) (b : Bool) (ds f : List ℕ) (l : ℕ) (s : Option ℕ) (xs : List ℕ) → 0 < length xs
    → powered fs b ds f l s xs ≡ next fs (digits exponent (numeral b ds f (Some (record { letter = l; sign = s; digits = xs }))))
powered_integer fs b ds f l s [] h = absurd (omega arith)
powered_integer fs b ds f l None (x ∷ xs) h = refl
powered_integer fs b ds f l (Some s) (x ∷ xs) h = refl

module _ (limit : Option ℕ) where
  digit_begins : (fs : List Frame) (c : ℕ) → is_ascii_digit c ≡ true → onward limit (next fs awaited) c ≡ next fs
      (digits integer (numeral false (c ∷ []) [] None))
  unfolding step
  digit_begins fs c d =
      let a = digit_low c d in
      let z = digit_high c d in
      let w = digit_not_white c d in
      let e110 : c ≡ 110 → ⊥ = λ e. omega arith in
      let e116 : c ≡ 116 → ⊥ = λ e. omega arith in
      let e102 : c ≡ 102 → ⊥ = λ e. omega arith in
      let e34 : c ≡ 34 → ⊥ = λ e. omega arith in
      let e91 : c ≡ 91 → ⊥ = λ e. omega arith in
      let e123 : c ≡ 123 → ⊥ = λ e. omega arith in
      let e45 : c ≡ 45 → ⊥ = λ e. omega arith in
      rw (
        w,
        d,
        ne_eqb c 110 e110,
        ne_eqb c 116 e116,
        ne_eqb c 102 e102,
        ne_eqb c 34 e34,
        ne_eqb c 91 e91,
        ne_eqb c 123 e123,
        ne_eqb c 45 e45,
      ) refl

  pub minus_begins : (fs : List Frame) (c : ℕ) → c ≡ 45 → onward limit (next fs awaited) c ≡ begun fs true []
  unfolding step
  minus_begins fs c e = rw e refl

  pub begun_digit : (fs : List Frame) (b : Bool) (xs : List ℕ) (c : ℕ) → is_ascii_digit c ≡ true
      → onward limit (begun fs b xs) c ≡ begun fs b (xs ++ c ∷ [])
  unfolding step
  begun_digit fs false [] c d = digit_begins fs c d
  begun_digit fs true [] c d = rw d refl
  begun_digit fs false (x ∷ xs) c d = rw d refl
  begun_digit fs true (x ∷ xs) c d = rw d refl

  pub pointed_digit : (fs : List Frame) (b : Bool) (ds xs : List ℕ) (c : ℕ) → is_ascii_digit c ≡ true
      → onward limit (pointed fs b ds xs) c ≡ pointed fs b ds (xs ++ c ∷ [])
  unfolding step
  pointed_digit fs b ds [] c d = rw d refl
  pointed_digit fs b ds (x ∷ xs) c d = rw d refl

  pub powered_digit : (fs : List Frame) (b : Bool) (ds f : List ℕ) (l : ℕ) (s : Option ℕ) (xs : List ℕ) (c : ℕ) → is_ascii_digit c ≡ true
      → onward limit (powered fs b ds f l s xs) c ≡ powered fs b ds f l s (xs ++ c ∷ [])
  unfolding step
  powered_digit fs b ds f l None [] c d = rw d refl
  powered_digit fs b ds f l (Some s) [] c d = rw d refl
  powered_digit fs b ds f l None (x ∷ xs) c d = rw d refl
  powered_digit fs b ds f l (Some s) (x ∷ xs) c d = rw d refl

  pub point_read : (fs : List Frame) (b : Bool) (ds : List ℕ) (c : ℕ) → has_leading_zero ds ≡ false → c ≡ 46
      → onward limit (next fs (digits integer (numeral b ds [] None))) c ≡ pointed fs b ds []
  unfolding step
  point_read fs b ds c z e = rw (e, z) refl

  pub letter_read : (fs : List Frame) (b : Bool) (ds f : List ℕ) (c : ℕ) → is_exponent_letter c ≡ true
      → onward limit (next fs (digits fraction (numeral b ds f None))) c ≡ powered fs b ds f c None []
  unfolding step
  letter_read fs b ds f c h = rw (letter_no_digit c h, h) refl

  pub sign_read : (fs : List Frame) (b : Bool) (ds f : List ℕ) (l c : ℕ) → is_sign c ≡ true
      → onward limit (powered fs b ds f l None []) c ≡ powered fs b ds f l (Some c) []
  unfolding step
  sign_read fs b ds f l c h = rw (sign_no_digit c h, h) refl

  -- ---- what comes next, or the end, leads to the same

  abbrev pub Alike : Next → Next → Option ℕ → Type 0
  Alike n m o = MatchOption o (ending limit n ≡ ending limit m) (λ c. onward limit n c ≡ onward limit m c)

  pub no_integer : (fs : List Frame) (o : Option ℕ) → IfSome o (λ c. is_ascii_digit c ≡ false)
      → Alike (begun fs true []) (stop EmptyInteger true) o
  unfolding step end
  no_integer fs None d = refl
  no_integer fs (Some c) d = rw d refl

  pub no_fraction : (fs : List Frame) (b : Bool) (ds : List ℕ) (o : Option ℕ) → IfSome o (λ c. is_ascii_digit c ≡ false)
      → Alike (pointed fs b ds []) (stop EmptyFraction true) o
  unfolding step end
  no_fraction fs b ds None d = refl
  no_fraction fs b ds (Some c) d = rw d refl

  pub no_exponent : (fs : List Frame) (b : Bool) (ds f : List ℕ) (l : ℕ) (s : Option ℕ) (o : Option ℕ)
      → IfSome o (λ c. is_ascii_digit c ≡ false) → (s ≡ None → IfSome o (λ c. is_sign c ≡ false))
      → Alike (powered fs b ds f l s []) (stop EmptyExponent true) o
  unfolding step end
  no_exponent fs b ds f l None None d h = refl
  no_exponent fs b ds f l None (Some c) d h = rw (d, h refl) refl
  no_exponent fs b ds f l (Some s) None d h = refl
  no_exponent fs b ds f l (Some s) (Some c) d h = rw d refl

  pub zero_leads : (fs : List Frame) (b : Bool) (ds : List ℕ) (o : Option ℕ) → has_leading_zero ds ≡ true
      → IfSome o (λ c. is_ascii_digit c ≡ false) → Alike (next fs (digits integer (numeral b ds [] None))) (stop LeadingZero true) o
  unfolding step end
  zero_leads fs b ds None z d = rw z refl
  zero_leads fs b ds (Some c) z d = rw (d, z) refl

  pub no_point : (fs : List Frame) (b : Bool) (ds : List ℕ) (o : Option ℕ) → has_leading_zero ds ≡ false
      → IfSome o (λ c. is_ascii_digit c ≡ false) → IfSome o (λ c. (c == 46) ≡ false)
      → Alike (next fs (digits integer (numeral b ds [] None))) (next fs (digits fraction (numeral b ds [] None))) o
  unfolding step end
  no_point fs b ds None z d h = rw z refl
  no_point fs b ds (Some c) z d h = rw (d, z, h) refl

  pub no_letter : (fs : List Frame) (n : Numeral) (o : Option ℕ) → IfSome o (λ c. is_ascii_digit c ≡ false)
      → IfSome o (λ c. is_exponent_letter c ≡ false) → Alike (next fs (digits fraction n)) (next fs (digits exponent n)) o
  unfolding step end
  no_letter fs n None d h = refl
  no_letter fs n (Some c) d h = rw (d, h) refl

  then_complete : (fs : List Frame) (d : Decimal) (c : ℕ) → then_step (strictly limit) (complete true fs (number d) false) c ≡ onward limit
      (complete true fs (number d) true) c
  unfolding step
  then_complete [] d c = refl
  then_complete (in_array ts ∷ fs) d c = refl
  then_complete (at_key ms ∷ fs) d c = refl
  then_complete (at_value ms k ∷ fs) d c = refl

  end_complete : (fs : List Frame) (d : Decimal) → end_plain (complete true fs (number d) false) ≡ ending limit
      (complete true fs (number d) true)
  unfolding end
  end_complete [] d = refl
  end_complete (in_array ts ∷ fs) d = refl
  end_complete (at_key ms ∷ fs) d = refl
  end_complete (at_value ms k ∷ fs) d = refl

  pub number_ends : (fs : List Frame) (n : Numeral) (o : Option ℕ) → in_range (value n) ≡ true → IfSome o (λ c. is_ascii_digit c ≡ false)
      → Alike (next fs (digits exponent n)) (complete true fs (number (value n)) true) o
  unfolding step end
  number_ends fs n None r d = rw r (end_complete fs (value n))
  number_ends fs n (Some c) r d = rw (d, r) (then_complete fs (value n) c)

  pub range_ends : (fs : List Frame) (n : Numeral) (o : Option ℕ) → in_range (value n) ≡ false → IfSome o (λ c. is_ascii_digit c ≡ false)
      → Alike (next fs (digits exponent n)) (stop NumberOutOfRange true) o
  unfolding step end
  range_ends fs n None r d = rw r refl
  range_ends fs n (Some c) r d = rw (d, r) refl

  -- digits that are taken one by one, in a state K that gathers them
  module _ (K : List ℕ → Next) (h : (xs : List ℕ) → IsNext (K xs)) (k : (xs : List ℕ) (c : ℕ) → is_ascii_digit c ≡ true
      → onward limit (K xs) c ≡ K (xs ++ c ∷ [])) where
    pub digits_come : (xs ds rest : List ℕ) → AllByRecursion (λ c. is_ascii_digit c ≡ true) ds → Comes limit (K xs) ds (K (xs ++ ds)) rest
    digits_come xs [] rest a = subst (λ ys. Comes limit (K xs) [] (K ys) rest) (sym (append-nil xs)) (Same_refl limit (K xs) rest, λ w. w)
    digits_come xs (c ∷ cs) rest a =
        let e = k xs c a.0 in
        let held : (o : Next) → IsNext o → IsTaken o = elim [ next fs p ↦ λ w. tt | stop j b ↦ λ w. absurd w ] in
        let more = subst (λ ys. Comes limit (K (xs ++ c ∷ [])) cs (K ys) rest) (append_assoc xs (c ∷ []) cs)
        (digits_come (xs ++ c ∷ []) cs rest a.1) in
        (h xs, subst IsTaken (sym e) (held _ (h (xs ++ c ∷ []))), subst (λ o. Comes limit o cs (K (xs ++ c ∷ cs)) rest) (sym e) more)

-- ---- the machine and the cursor

module _ {S : Type 0} (sight : Sight S) where
  -- what the result says
  pub was_accepted : (test : ℕ → Bool) (p q : S) (v : Bool) → Accepts sight test p v q → v ≡ true → Accepted sight test p q
  was_accepted test p q true a e = a
  was_accepted test p q false d e = absurd (true≢false (sym e))

  pub was_declined : (test : ℕ → Bool) (p q : S) (v : Bool) → Accepts sight test p v q → v ≡ false → Declined sight test p q
  was_declined test p q true a e = absurd (true≢false e)
  was_declined test p q false d e = d

  -- neither a digit came next, nor what passes the test
  pub ends_declined : (test : ℕ → Bool) (p q : S) → Ends sight p → Declined sight test p q → (o : Option ℕ) × sight.shows q o
      × IfSome o (λ c. is_ascii_digit c ≡ false) × IfSome o (λ c. test c ≡ false)
  ends_declined test p q e d =
      let s : sight.shows q e.0 = d.still e.0 e.1 in
      (e.0, s, e.2, subst (λ o. IfSome o (λ c. test c ≡ false)) (sight.one q d.o e.0 d.shows s) d.none)

  -- where no minus sign came, a digit did
  pub digit_comes : (p q r : S) (o : Option ℕ) → BeginsNumber sight p → Declined sight (λ c. c == 45) p q → sight.shows r o
      → IfSome o (λ c. is_ascii_digit c ≡ false) → Still sight q r → ⊥
  digit_comes p q r o b d t h k =
      let s : sight.shows q (Some b.0) = d.still (Some b.0) b.1 in
      let x : (b.0 == 45) ≡ false = subst (λ o. IfSome o (λ c. (c == 45) ≡ false)) (sight.one q d.o (Some b.0) d.shows s) d.none in
      let y : is_ascii_digit b.0 ≡ false = subst (λ o. IfSome o (λ c. is_ascii_digit c ≡ false))
      (sight.one r o (Some b.0) t (k (Some b.0) s)) h in
      ⊎_elim (λ e. grind (arith, nat_tests)) (λ w. true≢false (sym w ∙ y)) b.2

  module _ (limit : Option ℕ) where
    -- what comes next tells no difference
    pub Leads_rest : (p q : S) {n m : Next} (u : Next) (o : Option ℕ) → Leads sight limit p n q m → sight.shows q o → IsNext m
        → Alike limit m u o → Leads sight limit p n q u
    Leads_rest p q u None l s h a = Leads_end sight limit p q l s a h
    Leads_rest p q u (Some c) l s h a = Leads_shown sight limit p q c l s a h

    -- digits are taken in a state K that gathers them, or refused
    module _ (K : List ℕ → Next) (h : (xs : List ℕ) → IsNext (K xs)) (k : (xs : List ℕ) (c : ℕ) → is_ascii_digit c ≡ true
        → onward limit (K xs) c ≡ K (xs ++ c ∷ [])) (p q r : S) {n : Next} (l : Leads sight limit p n q (K [])) where
      pub Leads_digits : (ds : List ℕ) → AllByRecursion (λ c. is_ascii_digit c ≡ true) ds → Takes sight q ds r
          → Leads sight limit p n r (K ds)
      Leads_digits ds a t =
          let m : Leads sight limit q (K []) r (K ds) = record {
            taken = ds;
            gives = λ zs g. let x = t.gives zs g in (x.0, x.1, x.2, digits_come limit K h k [] ds x.0 a);
            moves = t.moves;
          } in
          Leads_trans sight limit p q r l m

      pub Refuses_digits : (empty : JsonParseErrorKind) (old new : List ℕ) (k : JsonParseErrorKind) → IsNext n
          → Digits sight empty q old (Err k) new r
          → ((o : Option ℕ) → sight.shows r o → IfSome o (λ c. is_ascii_digit c ≡ false) → Still sight q r
          → Alike limit (K []) (stop empty true) o) → Refuses sight limit p n k r
      Refuses_digits empty old new k i g f = ⊎_elim (λ w. rw w.0 (Refuses_as sight limit p r empty (Leads_rest p r (stop empty true) w.2.0
          (Leads_peek sight limit p q r l (subst (λ ds. Takes sight q ds r) w.1 g.takes)) w.2.1 (h []) (f w.2.0 w.2.1 w.2.2 w.3))))
          (λ w. rw w (Refuses_memory sight limit p r (Halts_here sight limit p r (Leads_digits g.ds g.digits g.takes) i (h g.ds)))) g.result
