-- Strings, as the machine reads them.
use Rattle.std.proofs.Common.{◌≡◌, ℕ, ◌+◌, ◌*◌, ◌^◌, ◌<◌, ◌≤◌, Bool, true, false, not, cond, List, [], ◌∷◌, ◌++◌, length, suc, Option, Some}
use Rattle.std.proofs.Common.{None, Result, Ok, Err, MatchResult, String, Global, refl, sym, ap, ap₂, ◌∙◌, subst, arith, length-append}
use Rattle.std.proofs.Common.{add-one, ⊎_elim, append_assoc, append-nil, true≢false, is_err}
use Rattle.std.specs.List.{AllByRecursion}
use Rattle.std.proofs.Math.Nat.{pow-suc}
use Rattle.std.specs.Prelude.{nat_lt}
use Rattle.std.specs.Char.{digit_value}
use Rattle.std.proofs.lemmas.Bool.{ne_eqb}
use Rattle.std.proofs.lemmas.Bool.Decides.{nat_tests}
use Rattle.tinyjson_grammar.specs.Tree.{string}
use Rattle.tinyjson_grammar.specs.Characters.{text, is_hex, unit_of, paired, decode, short_escape}
use Rattle.tinyjson_grammar.specs.declared.error.JsonParseErrorKind.{JsonParseErrorKind}
use Rattle.tinyjson_bytes.specs.Scan.{is_plain}
use Rattle.tinyjson_tokens.specs.Source.{Sight, Takes, TakesRun}
use Rattle.tinyjson_grammar.specs.Machine.{step, end, Frame, in_array, at_key, at_value, Next, next, stop, complete, plain, backslash, hex}
use Rattle.tinyjson_grammar.specs.Machine.{quoted, refused}
use Rattle.tinyjson_grammar.specs.declared.error.JsonParseErrorKind.TheVariants.{InvalidUtf16, InvalidHexDigit, InvalidEscape}
use Rattle.tinyjson_grammar.specs.declared.error.JsonParseErrorKind.TheVariants.{ControlCharacter, UnexpectedEof}
use Rattle.tinyjson_tokens.specs.Steps.{onward, ending, within, Fails, IsNext, IsTaken, Comes, Leads, Halts, Refuses, Reads}
use Rattle.tinyjson_tokens.proofs.Reading.Steps.{Comes_trans, Same_refl, taken_complete, Leads_one, Halts_here, Halts_late, Refuses_as}
use Rattle.tinyjson_tokens.proofs.Reading.Steps.{Refuses_memory, taken_if}

module _ {S : Type 0} (sight : Sight S) (limit : Option ℕ) where
  -- the units before the character that was read, c, could not be added
  pub Refuses_fails : (p q r : S) {n m : Next} (o : Next) (k : JsonParseErrorKind) (b : Bool) (c : ℕ) → Leads sight limit p n q m
      → Takes sight q (c ∷ []) r → IsNext n → IsNext m
      → IsNext o → onward limit m c ≡ cond (not b) (stop InvalidUtf16 true) o → Fails b k → Refuses sight limit p n k r
  Refuses_fails p q r {n} {m} o k b c l t i h j s f = ⊎_elim
      (λ w. rw w.1 (Refuses_as sight limit p r InvalidUtf16 (Leads_one sight limit p q r c l t h
      (s ∙ ap (λ x. cond (not x) (stop InvalidUtf16 true) o) w.0) tt)))
      (λ w. rw w (Refuses_memory sight limit p r (halts b s)))
      f
    where
      taken : (z : Next) → IsNext z → IsTaken z
      taken (next gs x) k = tt
      taken (stop x d) k = absurd k

      halts : (x : Bool) → onward limit m c ≡ cond (not x) (stop InvalidUtf16 true) o → Halts sight limit p n r
      halts true g = Halts_here sight limit p r (Leads_one sight limit p q r c l t h g (taken o j)) i j
      halts false g = Halts_late sight limit p q r c l t h g

  -- they were added, and a character d
  pub Reads_add : (p q r : S) {n m : Next} (fs : List Frame) (v : Result Bool JsonParseErrorKind) (old new : String Global) (us vs : List ℕ)
      (c d : ℕ) → Leads sight limit p n q m → Takes sight q (c ∷ []) r → IsNext n → IsNext m
      → onward limit m c ≡ cond (not (paired us)) (stop InvalidUtf16 true) (next fs (quoted plain ((text old ++ decode us) ++ d ∷ []) []))
      → MatchResult v (λ done. (done ≡ false) × (paired us ≡ true) × (text new ≡ (text old ++ decode us) ++ d ∷ []) × (vs ≡ []))
      (Fails (paired us)) → Reads sight limit p n v (within fs new vs) r
  Reads_add p q r {n} {m} fs (Ok done) old new us vs c d l t i h s f =
      let o : Next = next fs (quoted plain ((text old ++ decode us) ++ d ∷ []) []) in
      let e : within fs new vs done ≡ o = ap (within fs new vs) f.0 ∙ ap₂ (λ x y. next fs (quoted plain x y)) f.2 f.3 in
      Leads_one sight limit p q r c l t h (s ∙ ap (λ x. cond (not x) (stop InvalidUtf16 true) o) f.1 ∙ sym e) (subst IsTaken (sym e) tt)
  Reads_add p q r fs (Err k) old new us vs c d l t i h s f = Refuses_fails p q r
      (next fs (quoted plain ((text old ++ decode us) ++ d ∷ []) [])) k (paired us) c l t i h tt s f

-- ---- hexadecimal digits

abbrev pub hexing : List Frame → List ℕ → List ℕ → List ℕ → Next
hexing fs cs us ds = cond (nat_lt (length ds) 4) (next fs (quoted (hex ds) cs us)) (next fs (quoted plain cs (us ++ unit_of 0 ds ∷ [])))

unit_of_push : (n : ℕ) (ds : List ℕ) (c : ℕ) → unit_of n (ds ++ c ∷ []) ≡ unit_of n ds * 16 + digit_value c
unit_of_push n [] c = refl
unit_of_push n (d ∷ ds) c = unit_of_push (n * 16 + digit_value d) ds c

pub unit_grows : (ds : List ℕ) (c u d v : ℕ) → u ≡ unit_of 0 ds → d ≡ digit_value c → v ≡ u * 16 + d → v ≡ unit_of 0 (ds ++ c ∷ [])
unit_grows ds c u d v a b e = e ∙ ap₂ (λ x y. x * 16 + y) a b ∙ sym (unit_of_push 0 ds c)

pub sixteen_small : (n : ℕ) → n < 4 → 16 ^ n ≤ 4096
sixteen_small (suc (suc (suc (suc n)))) h = absurd (omega (arith, h))
sixteen_small _ h = omega arith

pub hex_next : (fs : List Frame) (cs us ds : List ℕ) → length ds < 4 → IsNext (hexing fs cs us ds)
hex_next fs cs us ds h = let b : nat_lt (length ds) 4 ≡ true = grind (arith, nat_tests) in rw b tt

pub hex_step : (limit : Option ℕ) (fs : List Frame) (cs us ds : List ℕ) (c : ℕ) → length ds < 4 → is_hex c ≡ true
    → onward limit (hexing fs cs us ds) c ≡ hexing fs cs us (ds ++ c ∷ [])
unfolding step
hex_step limit fs cs us ds c h x =
    let b : nat_lt (length ds) 4 ≡ true = grind (arith, nat_tests) in
    let k : nat_lt (length (ds ++ c ∷ [])) 4 ≡ nat_lt (length ds) 3 = ap (λ n. nat_lt n 4) (length-append ds (c ∷ []))
    ∙ shift (length ds) in
    rw (b, x, k) refl
  where
    shift : (n : ℕ) → nat_lt (n + 1) 4 ≡ nat_lt n 3
    shift n = grind (arith, nat_tests)

pub hex_other : (limit : Option ℕ) (fs : List Frame) (cs us ds : List ℕ) (c : ℕ) → length ds < 4 → is_hex c ≡ false
    → onward limit (hexing fs cs us ds) c ≡ stop (InvalidHexDigit c) true
unfolding step
hex_other limit fs cs us ds c h x = let b : nat_lt (length ds) 4 ≡ true = grind (arith, nat_tests) in rw (b, x) refl

pub hex_done : (fs : List Frame) (cs us ds : List ℕ) (v : ℕ) → length ds ≡ 4 → v ≡ unit_of 0 ds
    → hexing fs cs us ds ≡ next fs (quoted plain cs (us ++ v ∷ []))
hex_done fs cs us ds v h e = rw (h, e) refl

-- ---- a character within a string

-- a string may stand wherever a value may
pub quote_goes : (fs : List Frame) (cs : List ℕ) → IsNext (complete true fs (string cs) true)
quote_goes [] cs = tt
quote_goes (in_array ts ∷ fs) cs = tt
quote_goes (at_key ms ∷ fs) cs = tt
quote_goes (at_value ms k ∷ fs) cs = tt

pub quote_read : (limit : Option ℕ) (fs : List Frame) (cs us : List ℕ) (c : ℕ) → c ≡ 34
    → onward limit (next fs (quoted plain cs us)) c ≡ cond (not (paired us)) (stop InvalidUtf16 true)
    (complete true fs (string (cs ++ decode us)) true)
unfolding step
quote_read limit fs cs us c e = rw e refl

pub backslash_read : (limit : Option ℕ) (fs : List Frame) (cs us : List ℕ) (c : ℕ) → c ≡ 92
    → onward limit (next fs (quoted plain cs us)) c ≡ next fs (quoted backslash cs us)
unfolding step
backslash_read limit fs cs us c e = rw e refl

pub control_read : (limit : Option ℕ) (fs : List Frame) (cs us : List ℕ) (c : ℕ) → (c ≡ 34 → ⊥) → (c ≡ 92 → ⊥) → c < 32
    → onward limit (next fs (quoted plain cs us)) c ≡ stop (ControlCharacter c) true
unfolding step
control_read limit fs cs us c n m h = let b : nat_lt c 32 ≡ true = grind (arith, nat_tests) in rw (ne_eqb c 34 n, ne_eqb c 92 m, b) refl

pub plain_read : (limit : Option ℕ) (fs : List Frame) (cs us : List ℕ) (c : ℕ) → (c ≡ 34 → ⊥) → (c ≡ 92 → ⊥) → 32 ≤ c
    → onward limit (next fs (quoted plain cs us)) c ≡ cond (not (paired us)) (stop InvalidUtf16 true)
    (next fs (quoted plain ((cs ++ decode us) ++ c ∷ []) []))
unfolding step
plain_read limit fs cs us c n m h = let b : nat_lt c 32 ≡ false = grind (arith, nat_tests) in rw (ne_eqb c 34 n, ne_eqb c 92 m, b) refl

-- ---- a run of plain characters, before which no units stand

plain_follows : (limit : Option ℕ) (fs : List Frame) (cs us : List ℕ) (c : ℕ) → is_plain c ≡ true
    → onward limit (next fs (quoted plain cs us)) c ≡ cond (not (paired us)) (stop InvalidUtf16 true)
    (next fs (quoted plain ((cs ++ decode us) ++ c ∷ []) []))
plain_follows limit fs cs us c h =
    let printed : 32 ≤ c = grind (arith, nat_tests) in
    plain_read limit fs cs us c (λ e. true≢false (sym h ∙ ap is_plain e)) (λ e. true≢false (sym h ∙ ap is_plain e)) printed

plain_one : (limit : Option ℕ) (fs : List Frame) (cs : List ℕ) (c : ℕ) → is_plain c ≡ true
    → onward limit (next fs (quoted plain cs [])) c ≡ next fs (quoted plain (cs ++ c ∷ []) [])
plain_one limit fs cs c h = plain_follows limit fs cs [] c h ∙ ap (λ ys. next fs (quoted plain (ys ++ c ∷ []) [])) (append-nil cs)

-- at a plain character the units end: each has its partner, or it is refused
pub units_added : (limit : Option ℕ) (fs : List Frame) (cs us xs : List ℕ) (c : ℕ) → is_plain c ≡ true → paired us ≡ true
    → xs ≡ cs ++ decode us → onward limit (next fs (quoted plain cs us)) c ≡ onward limit (next fs (quoted plain xs [])) c
units_added limit fs cs us xs c h p x =
    let m : List ℕ → Next = λ ys. next fs (quoted plain (ys ++ c ∷ []) []) in
    plain_follows limit fs cs us c h ∙ ap (λ b. cond (not b) (stop InvalidUtf16 true) (m (cs ++ decode us))) p ∙ ap m (sym x)
    ∙ sym (plain_one limit fs xs c h)

pub units_refused : (limit : Option ℕ) (fs : List Frame) (cs us : List ℕ) (c : ℕ) → is_plain c ≡ true → paired us ≡ false
    → onward limit (next fs (quoted plain cs us)) c ≡ stop InvalidUtf16 true
units_refused limit fs cs us c h p = plain_follows limit fs cs us c h ∙ ap (λ b. cond (not b) (stop InvalidUtf16 true)
    (next fs (quoted plain ((cs ++ decode us) ++ c ∷ []) []))) p

plain_comes : (limit : Option ℕ) (fs : List Frame) (cs xs rest : List ℕ) → AllByRecursion (λ c. is_plain c ≡ true) xs
    → Comes limit (next fs (quoted plain cs [])) xs (next fs (quoted plain (cs ++ xs) [])) rest
plain_comes limit fs cs [] rest a =
    let n = next fs (quoted plain cs []) in
    subst (λ ys. Comes limit n [] (next fs (quoted plain ys [])) rest) (sym (append-nil cs)) (Same_refl limit n rest, λ w. w)
plain_comes limit fs cs (c ∷ xs) rest a =
    let n = next fs (quoted plain (cs ++ c ∷ []) []) in
    let m : List ℕ → Next = λ ys. next fs (quoted plain ys []) in
    let e = sym (plain_one limit fs cs c a.0) in (
      tt,
      subst IsTaken e tt,
      subst (λ z. Comes limit z xs (m (cs ++ c ∷ xs)) rest) e
          (subst (λ ys. Comes limit n xs (m ys) rest) (append_assoc cs (c ∷ []) xs) (plain_comes limit fs (cs ++ c ∷ []) xs rest a.1)),
    )

module _ {S : Type 0} (sight : Sight S) (limit : Option ℕ) {E : Type 0} (p q : S) (fs : List Frame) (old new us : List ℕ) where
  Leads_plain : (r : Result (Unit {0}) E) (t : TakesRun sight is_plain p old r new q)
      → Leads sight limit p (next fs (quoted plain old [])) q (next fs (quoted plain (old ++ t.taken) []))
  Leads_plain r t = record {
    taken = t.taken;
    gives = λ zs g. let x = t.takes.gives zs g in (x.0, x.1, x.2, plain_comes limit fs old t.taken x.0 t.pass);
    moves = t.takes.moves;
  }

  -- all of them were added, or there was no memory
  pub plain_added : (r : Result (Unit {0}) E) → us ≡ [] → is_err r ≡ false → TakesRun sight is_plain p old r new q
      → Leads sight limit p (next fs (quoted plain old us)) q (next fs (quoted plain new us))
  plain_added (Ok v) n h t =
      let m : List ℕ → List ℕ → Next = λ ys vs. next fs (quoted plain ys vs) in
      subst (λ vs. Leads sight limit p (m old vs) q (m new vs)) (sym n)
      (subst (λ ys. Leads sight limit p (m old []) q (m ys [])) (sym t.added) (Leads_plain (Ok v) t))
  plain_added (Err e) n h t = absurd (true≢false h)

  pub plain_halts : (r : Result (Unit {0}) E) → us ≡ [] → TakesRun sight is_plain p old r new q
      → Halts sight limit p (next fs (quoted plain old us)) q
  plain_halts r n t = subst (λ vs. Halts sight limit p (next fs (quoted plain old vs)) q) (sym n)
      (Halts_here sight limit p q (Leads_plain r t) tt tt)

-- the same, where no unit waits
pub plain_reads : {S : Type 0} (sight : Sight S) (limit : Option ℕ) {E : Type 0} (p q : S) (fs : List Frame) (old new : List ℕ)
    (r : Result (Unit {0}) E) → TakesRun sight is_plain p old r new q
    → MatchResult r (λ _. Leads sight limit p (next fs (quoted plain old [])) q (next fs (quoted plain new [])))
    (λ _. Halts sight limit p (next fs (quoted plain old [])) q)
plain_reads sight limit p q fs old new (Ok v) t = plain_added sight limit p q fs old new [] (Ok v) refl refl t
plain_reads sight limit p q fs old new (Err e) t = plain_halts sight limit p q fs old new [] (Err e) refl t

pub short_read : (limit : Option ℕ) (fs : List Frame) (cs us : List ℕ) (c d : ℕ) → short_escape c ≡ Some d
    → onward limit (next fs (quoted backslash cs us)) c ≡ cond (not (paired us)) (stop InvalidUtf16 true)
    (next fs (quoted plain ((cs ++ decode us) ++ d ∷ []) []))
unfolding step
short_read limit fs cs us c d e = rw e refl

pub u_read : (limit : Option ℕ) (fs : List Frame) (cs us : List ℕ) (c : ℕ) → c ≡ 117
    → onward limit (next fs (quoted backslash cs us)) c ≡ next fs (quoted (hex []) cs us)
unfolding step
u_read limit fs cs us c e = rw e refl

pub escape_other : (limit : Option ℕ) (fs : List Frame) (cs us : List ℕ) (c : ℕ) → short_escape c ≡ None → (c ≡ 117 → ⊥)
    → onward limit (next fs (quoted backslash cs us)) c ≡ stop (InvalidEscape c) true
unfolding step
escape_other limit fs cs us c e n = rw (e, ne_eqb c 117 n) refl

pub quote_whole : (limit : Option ℕ) (fs : List Frame) (cs us : List ℕ) (xs : List ℕ) (c : ℕ) → c ≡ 34 → paired us ≡ true
    → xs ≡ cs ++ decode us → onward limit (next fs (quoted plain cs us)) c ≡ complete true fs (string xs) true
unfolding step
quote_whole limit fs cs us xs c e p x = quote_read limit fs cs us c e ∙ ap
    (λ b. cond (not b) (stop InvalidUtf16 true) (complete true fs (string (cs ++ decode us)) true)) p
    ∙ ap (λ y. complete true fs (string y) true) (sym x)

pub hex_end : (limit : Option ℕ) (fs : List Frame) (cs us ds : List ℕ) → length ds < 4
    → ending limit (hexing fs cs us ds) ≡ refused UnexpectedEof []
unfolding end
hex_end limit fs cs us ds h = let b : nat_lt (length ds) 4 ≡ true = grind (arith, nat_tests) in rw b refl

pub hex_taken : (fs : List Frame) (cs us ds : List ℕ) → IsTaken (hexing fs cs us ds)
hex_taken fs cs us ds = taken_if (nat_lt (length ds) 4) (next fs (quoted (hex ds) cs us))
    (next fs (quoted plain cs (us ++ unit_of 0 ds ∷ []))) tt tt

pub sixteen_next : (n : ℕ) → 16 ^ (n + 1) ≡ 16 ^ n * 16
sixteen_next n = ap (λ m. 16 ^ m) (add-one n) ∙ pow-suc 16 n

-- plain characters, and the quote that ends the string
pub Leads_quoted : {S : Type 0} (sight : Sight S) (limit : Option ℕ) (p q : S) (fs : List Frame) (xs : List ℕ)
    → AllByRecursion (λ c. is_plain c ≡ true) xs → Takes sight p (xs ++ 34 ∷ []) q
    → Leads sight limit p (next fs (quoted plain [] [])) q (complete true fs (string xs) true)
Leads_quoted sight limit p q fs xs a t =
    let n = next fs (quoted plain [] []) in
    let m = next fs (quoted plain xs []) in
    let o = complete true fs (string xs) true in
    let e : o ≡ onward limit m 34 = sym (quote_whole limit fs xs [] xs 34 refl refl (sym (append-nil xs))) in
    record {
      taken = xs ++ 34 ∷ [];
      gives = λ zs g.
          let x = t.gives zs g in
          let ends : Comes limit m (34 ∷ []) o x.0 = (
            tt,
            subst IsTaken e (taken_complete fs (string xs)),
            subst (λ z. Comes limit z [] o x.0) e (Same_refl limit o x.0, λ w. w),
          ) in
          (x.0, x.1, x.2, Comes_trans limit n m o xs (34 ∷ []) x.0 (plain_comes limit fs [] xs (34 ∷ x.0) a) ends);
      moves = t.moves;
    }
