-- Escapes among the bytes of a text.
use Rattle.std.proofs.Common.{◌≡◌, ℕ, suc, ◌+◌, ◌*◌, ◌/◌, ◌%◌, ◌-◌, ◌||◌, ◌&&◌, ◌<◌, ◌≤◌, ◌==◌, Bool, true, false, true≢false, not, cond}
use Rattle.std.proofs.Common.{List, [], ◌∷◌, ◌++◌, length, take, drop, get_or, Option, None, Some, inl, inr, Result, is_err, refl, sym, ap}
use Rattle.std.proofs.Common.{unwrap_or, ap₂, ◌∙◌, subst, arith, length-append, append-nil, append_assoc, drop-cons, add-zero}
use Rattle.std.specs.Prelude.{nat_lt}
use Rattle.std.specs.Int.Bits.{bit_and, bit_or}
use Rattle.std.specs.Char.{is_ascii, digit_value}
use Rattle.std.specs.List.{AllByRecursion}
use Rattle.std.specs.Str.{IsUtf8, IsCharBoundary, chars}
use Rattle.std.proofs.lemmas.Bool.{agree_below_at, and_parts, eq-eqb, eqb-true, ltb-true}
use Rattle.std.proofs.lemmas.Bool.Decides.{nat_tests}
use Rattle.std.proofs.lemmas.List.{drop-drop, get_or-drop}
use Rattle.std.proofs.lemmas.Str.{IsCharBoundary-after_ascii, chars-IsAscii, IsUtf8-had}
use Rattle.std.proofs.Math.Seq.{take-append_seam}
use Rattle.tinyjson_grammar.specs.Characters.{is_hex, is_high, is_low, is_surrogate, pair_of, unit_of, paired, decode, short_escape}
use Rattle.tinyjson_tokens.specs.Escape.{Stands, UnitAt, Spells, EscapeAt}
use Rattle.tinyjson_tokens.specs.Slice.{before, chars_after}
use Rattle.tinyjson_bytes.specs.Scan.{is_plain}
use Rattle.tinyjson_tokens.specs.Source.{TakesRun}
use Rattle.tinyjson_grammar.specs.Position.{advance, origin}
use Rattle.tinyjson_tokens.specs.declared.escape.TheConstants.{SHORT_ESCAPES}
use Rattle.tinyjson_tokens.specs.declared.text.TextBytes.{TextBytes}
use Rattle.tinyjson_grammar.specs.Machine.{step, Frame, Within, Next, next, stop, plain, backslash, hex, quoted}
use Rattle.tinyjson_grammar.specs.declared.error.JsonParseErrorKind.TheVariants.{InvalidUtf16, InvalidHexDigit}
use Rattle.tinyjson_tokens.specs.Steps.{onward, IsNext, IsTaken, Same, Comes, Leads, Halts}
use Rattle.tinyjson_tokens.proofs.Letters.{All_append, text_sight}
use Rattle.tinyjson_tokens.proofs.Units.{paired_append, decode_append}
use Rattle.tinyjson_tokens.proofs.Slices.{between, small, step_gives, step_moves}
use Rattle.tinyjson_tokens.proofs.Reading.Steps.{Same_refl, Comes_trans, Leads_to, Leads_trans, Halts_trans, end_quoted}
use Rattle.tinyjson_tokens.proofs.Reading.String.{hexing, hex_next, hex_step, hex_taken, hex_done, backslash_read, u_read, short_read}
use Rattle.tinyjson_tokens.proofs.Reading.String.{escape_other, plain_added, plain_halts}

-- ---- the machine

module _ (limit : Option ℕ) (fs : List Frame) where
  Comes_one : (n m : Next) (c : ℕ) (rest : List ℕ) → IsNext n → onward limit n c ≡ m → IsTaken m → Comes limit n (c ∷ []) m rest
  Comes_one n m c rest h e k = (h, subst IsTaken (sym e) k, subst (λ z. Comes limit z [] m rest) (sym e) (Same_refl limit m rest, λ w. w))

  hex_comes : (cs us ds es rest : List ℕ) → length ds + length es ≡ 4 → AllByRecursion (λ d. is_hex d ≡ true) es
      → Comes limit (hexing fs cs us ds) es (hexing fs cs us (ds ++ es)) rest
  hex_comes cs us ds [] rest l a =
      let n = hexing fs cs us ds in
      subst (λ xs. Comes limit n [] (hexing fs cs us xs) rest) (sym (append-nil ds)) (Same_refl limit n rest, λ w. w)
  hex_comes cs us ds (e ∷ es) rest l a =
      let h : length ds < 4 = omega (arith, l) in
      let k : length (ds ++ e ∷ []) + length es ≡ 4 = omega (arith, l, length-append ds (e ∷ [])) in
      let n = hexing fs cs us (ds ++ e ∷ []) in
      let s = sym (hex_step limit fs cs us ds e h a.0) in (
        hex_next fs cs us ds h,
        subst IsTaken s (hex_taken fs cs us (ds ++ e ∷ [])),
        subst (λ z. Comes limit z es (hexing fs cs us (ds ++ e ∷ es)) rest) s
            (subst (λ xs. Comes limit n es (hexing fs cs us xs) rest) (append_assoc ds (e ∷ []) es)
            (hex_comes cs us (ds ++ e ∷ []) es rest k a.1)),
      )

  -- the escape of a unit
  pub unit_comes : (cs us ds rest : List ℕ) (u : ℕ) → length ds ≡ 4 → AllByRecursion (λ d. is_hex d ≡ true) ds → u ≡ unit_of 0 ds
      → Comes limit (next fs (quoted plain cs us)) (92 ∷ 117 ∷ ds) (next fs (quoted plain cs (us ++ u ∷ []))) rest
  unit_comes cs us ds rest u l a e =
      let n = next fs (quoted plain cs us) in
      let m = next fs (quoted backslash cs us) in
      let o = next fs (quoted (hex []) cs us) in
      let p = hexing fs cs us ds in
      Comes_trans limit n m (next fs (quoted plain cs (us ++ u ∷ []))) (92 ∷ []) (117 ∷ ds) rest
      (Comes_one n m 92 (117 ∷ ds ++ rest) tt (backslash_read limit fs cs us 92 refl) tt)
      (Comes_trans limit m o (next fs (quoted plain cs (us ++ u ∷ []))) (117 ∷ []) ds rest
      (Comes_one m o 117 (ds ++ rest) tt (u_read limit fs cs us 117 refl) tt)
      (subst (λ z. Comes limit o ds z rest) (hex_done fs cs us ds u l e) (hex_comes cs us [] ds rest (omega (arith, l)) a)))

  -- the short escape of a character
  pub short_comes : (cs rest : List ℕ) (c d : ℕ) → short_escape c ≡ Some d
      → Comes limit (next fs (quoted plain cs [])) (92 ∷ c ∷ []) (next fs (quoted plain (cs ++ d ∷ []) [])) rest
  short_comes cs rest c d e =
      let n = next fs (quoted plain cs []) in
      let m = next fs (quoted backslash cs []) in
      let o = next fs (quoted plain (cs ++ d ∷ []) []) in
      Comes_trans limit n m o (92 ∷ []) (c ∷ []) rest (Comes_one n m 92 (c ∷ rest) tt (backslash_read limit fs cs [] 92 refl) tt)
      (Comes_one m o c rest tt (short_read limit fs cs [] c d e ∙ ap (λ ys. next fs (quoted plain (ys ++ d ∷ []) [])) (append-nil cs)) tt)

  on_same : (n m o p : Next) (c : ℕ) (rest : List ℕ) → onward limit n c ≡ o → onward limit m c ≡ p → IsNext o → IsNext p
      → Same limit o p rest → Same limit n m (c ∷ rest)
  on_same n m o p c rest a b h k s = inr ((subst IsNext (sym a) h, subst IsNext (sym b) k), rw (a, b) s)

  hex_more : (ds cs us : List ℕ) (c : ℕ) → is_hex c ≡ true → nat_lt (length ds) 3 ≡ true
      → onward limit (next fs (quoted (hex ds) cs us)) c ≡ next fs (quoted (hex (ds ++ c ∷ [])) cs us)
  unfolding step
  hex_more ds cs us c h l = rw (h, l) refl

  hex_last : (ds cs us : List ℕ) (c : ℕ) → is_hex c ≡ true → nat_lt (length ds) 3 ≡ false
      → onward limit (next fs (quoted (hex ds) cs us)) c ≡ next fs (quoted plain cs (us ++ unit_of 0 (ds ++ c ∷ []) ∷ []))
  unfolding step
  hex_last ds cs us c h l = rw (h, l) refl

  hex_none : (ds cs us : List ℕ) (c : ℕ) → is_hex c ≡ false → onward limit (next fs (quoted (hex ds) cs us)) c ≡ stop
      (InvalidHexDigit c) true
  unfolding step
  hex_none ds cs us c h = rw h refl

  -- The same state but for units that all have their partner: they wait, or their characters were added.
  module _ (cs us vs : List ℕ) (p : paired us ≡ true) where
    abbrev waiting : Within → Next
    waiting w = next fs (quoted w cs (us ++ vs))

    abbrev added : Within → Next
    added w = next fs (quoted w (cs ++ decode us) vs)

    decoded : cs ++ decode (us ++ vs) ≡ (cs ++ decode us) ++ decode vs
    decoded = ap (λ xs. cs ++ xs) (decode_append us vs p) ∙ sym (append_assoc cs (decode us) (decode vs))

    plain_same : (c : ℕ) → (c == 92) ≡ false → onward limit (waiting plain) c ≡ onward limit (added plain) c
    unfolding step
    plain_same c n = rw (n, paired_append us vs p, decoded) refl

    plain_known : (c : ℕ) (rest : List ℕ) → Same limit (waiting backslash) (added backslash) rest
        → Same limit (waiting plain) (added plain) (c ∷ rest)
    plain_known c rest s = go (c == 92) refl
      where
        go : (b : Bool) → (c == 92) ≡ b → Same limit (waiting plain) (added plain) (c ∷ rest)
        go true e =
            let k = eqb-true c 92 e in
            on_same (waiting plain) (added plain) (waiting backslash) (added backslash) c rest (backslash_read limit fs cs (us ++ vs) c k)
            (backslash_read limit fs (cs ++ decode us) vs c k) tt tt s
        go false e = inl (plain_same c e)

    backslash_known : (c : ℕ) (rest : List ℕ) → Same limit (waiting (hex [])) (added (hex [])) rest
        → Same limit (waiting backslash) (added backslash) (c ∷ rest)
    backslash_known c rest s = go (short_escape c) refl
      where
        u_or : (b : Bool) → (c == 117) ≡ b → short_escape c ≡ None → Same limit (waiting backslash) (added backslash) (c ∷ rest)
        u_or true e n =
            let k = eqb-true c 117 e in
            on_same (waiting backslash) (added backslash) (waiting (hex [])) (added (hex [])) c rest (u_read limit fs cs (us ++ vs) c k)
            (u_read limit fs (cs ++ decode us) vs c k) tt tt s
        u_or false e n =
            let k : c ≡ 117 → ⊥ = λ h. true≢false (sym (eq-eqb c 117 h) ∙ e) in
            inl (escape_other limit fs cs (us ++ vs) c n k ∙ sym (escape_other limit fs (cs ++ decode us) vs c n k))

        go : (o : Option ℕ) → short_escape c ≡ o → Same limit (waiting backslash) (added backslash) (c ∷ rest)
        go None e = u_or (c == 117) refl e
        go (Some d) e =
            let m : Bool → List ℕ → Next = λ b xs. cond (not b) (stop InvalidUtf16 true) (next fs (quoted plain (xs ++ d ∷ []) [])) in
            inl (short_read limit fs cs (us ++ vs) c d e ∙ ap₂ m (paired_append us vs p) decoded
            ∙ sym (short_read limit fs (cs ++ decode us) vs c d e))

    hex_known : (ds : List ℕ) (c : ℕ) (rest : List ℕ) → Same limit (waiting (hex (ds ++ c ∷ []))) (added (hex (ds ++ c ∷ []))) rest
        → Same limit (next fs (quoted plain cs (us ++ (vs ++ unit_of 0 (ds ++ c ∷ []) ∷ []))))
        (next fs (quoted plain (cs ++ decode us) (vs ++ unit_of 0 (ds ++ c ∷ []) ∷ []))) rest
        → Same limit (waiting (hex ds)) (added (hex ds)) (c ∷ rest)
    hex_known ds c rest s t = go (is_hex c) refl (nat_lt (length ds) 3) refl
      where
        go : (h : Bool) → is_hex c ≡ h → (l : Bool) → nat_lt (length ds) 3 ≡ l → Same limit (waiting (hex ds)) (added (hex ds)) (c ∷ rest)
        go true h true l =
            on_same (waiting (hex ds)) (added (hex ds)) (waiting (hex (ds ++ c ∷ []))) (added (hex (ds ++ c ∷ []))) c rest
            (hex_more ds cs (us ++ vs) c h l) (hex_more ds (cs ++ decode us) vs c h l) tt tt s
        go true h false l =
            let u = unit_of 0 (ds ++ c ∷ []) ∷ [] in
            on_same (waiting (hex ds)) (added (hex ds)) (next fs (quoted plain cs (us ++ (vs ++ u))))
            (next fs (quoted plain (cs ++ decode us) (vs ++ u))) c rest
            (hex_last ds cs (us ++ vs) c h l ∙ ap (λ ws. next fs (quoted plain cs ws)) (append_assoc us vs u))
            (hex_last ds (cs ++ decode us) vs c h l) tt tt t
        go false h l k = inl (hex_none ds cs (us ++ vs) c h ∙ sym (hex_none ds (cs ++ decode us) vs c h))

  -- Units that all have their partner wait for no unit after them: the machine answers as if their characters were added.
  pub units_known : (w : Within) (cs us vs rest : List ℕ) → paired us ≡ true
      → Same limit (next fs (quoted w cs (us ++ vs))) (next fs (quoted w (cs ++ decode us) vs)) rest
  units_known w cs us vs [] p = end_quoted limit fs w cs (us ++ vs) ∙ sym (end_quoted limit fs w (cs ++ decode us) vs)
  units_known plain cs us vs (c ∷ rest) p = plain_known cs us vs p c rest (units_known backslash cs us vs rest p)
  units_known backslash cs us vs (c ∷ rest) p = backslash_known cs us vs p c rest (units_known (hex []) cs us vs rest p)
  units_known (hex ds) cs us vs (c ∷ rest) p = hex_known cs us vs p ds c rest (units_known (hex (ds ++ c ∷ [])) cs us vs rest p)
      (units_known plain cs us (vs ++ unit_of 0 (ds ++ c ∷ []) ∷ []) rest p)

  pub Comes_known : (n : Next) (cs us xs taken rest : List ℕ) → Comes limit n taken (next fs (quoted plain cs us)) rest → paired us ≡ true
      → xs ≡ cs ++ decode us → Comes limit n taken (next fs (quoted plain xs [])) rest
  Comes_known n cs us xs taken rest a p e =
      let m = next fs (quoted plain cs us) in
      let o = next fs (quoted plain xs []) in
      let k : Same limit m o rest = rw e (subst (λ ys. Same limit (next fs (quoted plain cs ys))
      (next fs (quoted plain (cs ++ decode us) [])) rest) (append-nil us) (units_known plain cs us [] rest p)) in
      subst (λ ys. Comes limit n ys o rest) (append-nil taken) (Comes_trans limit n m o taken [] rest a (k, λ w. tt))

-- ---- where bytes stand

stands_append : (text : List ℕ) (at mid to : ℕ) (xs ys : List ℕ) → Stands text at mid xs → Stands text mid to ys
    → Stands text at to (xs ++ ys)
stands_append text at mid to xs ys a b = record {
  ascii = All_append (λ c. is_ascii c ≡ true) xs ys a.ascii b.ascii;
  here = a.here ∙ ap (λ bs. xs ++ bs) b.here ∙ sym (append_assoc xs ys (drop to text));
  long = omega (arith, a.long, b.long, length-append xs ys);
  fits = b.fits;
}

pub stands_nil : (text : List ℕ) (at : ℕ) → at ≤ length text → Stands text at at []
stands_nil text at h = record { ascii = tt; here = refl; long = omega arith; fits = h }

ascii_small : (b : ℕ) → is_ascii b ≡ true → b < 128
ascii_small b h = grind (arith, nat_tests, h)

-- one byte more in front
pub stands_cons : (text : List ℕ) (at after to b : ℕ) (xs : List ℕ) → at < length text → after ≡ at + 1 → get_or text at 0 ≡ b
    → is_ascii b ≡ true → Stands text after to xs → Stands text at to (b ∷ xs)
stands_cons text at after to b xs h n e a s =
    let m : suc at ≡ after = omega (arith, n) in
    record {
      ascii = (a, s.ascii);
      here = drop-cons text at 0 h ∙ ap₂ (λ y k. y ∷ drop k text) e m ∙ ap (λ bs. b ∷ bs) s.here;
      long = omega (arith, n, s.long);
      fits = s.fits;
    }

pub hex_ascii : (c : ℕ) → digit_value c < 16 → is_ascii c ≡ true
hex_ascii c h = grind (arith, nat_tests)

pub hex_digit : (c : ℕ) → digit_value c < 16 → is_hex c ≡ true
hex_digit c h = grind (arith, nat_tests)

-- The bytes that are taken for hexadecimal digits are those, and the number that is computed of them is their value.
is_hex_by_bits : ℕ → Bool
is_hex_by_bits b = not (nat_lt ((b + 208) % 256) 10 || nat_lt ((bit_or b 32 + 159) % 256) 6)
    || ((bit_and b 15 + 9 * (b / 64) == digit_value b) && nat_lt (digit_value b) 16)

pub hex_of_bits : (b : ℕ) → b < 256 → (nat_lt ((b + 208) % 256) 10 || nat_lt ((bit_or b 32 + 159) % 256) 6) ≡ true
    → (bit_and b 15 + 9 * (b / 64) ≡ digit_value b) × (bit_and b 15 + 9 * (b / 64) < 16)
unfolding is_hex_by_bits
hex_of_bits b h t =
    let a : is_hex_by_bits b ≡ true = agree_below_at is_hex_by_bits (λ _. true) 256 b refl h in
    let k = and_parts (bit_and b 15 + 9 * (b / 64) == digit_value b) (nat_lt (digit_value b) 16)
    (ap (λ x. not x || ((bit_and b 15 + 9 * (b / 64) == digit_value b) && nat_lt (digit_value b) 16)) (sym t) ∙ a) in
    let e = eqb-true (bit_and b 15 + 9 * (b / 64)) (digit_value b) k.0 in
    (e, rw e (ltb-true (digit_value b) 16 k.1))

-- What a character after a backslash stands for is in the table, which has a 0 where it stands for nothing.
is_tabled : ℕ → Bool
is_tabled c = nat_lt c 34 || (get_or SHORT_ESCAPES (c - 34) 0 == unwrap_or (short_escape c) 0)

pub tabled : (c v : ℕ) → 34 ≤ c → c ≤ 116 → v ≡ get_or SHORT_ESCAPES (c - 34) 0 → (v ≡ 0 → ⊥) → Some v ≡ short_escape c
unfolding is_tabled
tabled c v h k e n =
    let a : is_tabled c ≡ true = agree_below_at is_tabled (λ _. true) 117 c refl (omega arith) in
    let l : nat_lt c 34 ≡ false = grind (arith, nat_tests) in
    let s = eqb-true _ _ (ap (λ b. b || (get_or SHORT_ESCAPES (c - 34) 0 == unwrap_or (short_escape c) 0)) (sym l) ∙ a) in
    go (short_escape c) (e ∙ s)
  where
    go : (o : Option ℕ) → v ≡ unwrap_or o 0 → Some v ≡ o
    go None z = absurd (n z)
    go (Some d) z = ap Some z

-- the value of four digits
pub four_digits : (a b c d p q r s : ℕ) → p ≡ digit_value a → q ≡ digit_value b → r ≡ digit_value c → s ≡ digit_value d
    → ((p * 16 + q) * 16 + r) * 16 + s ≡ unit_of 0 (a ∷ b ∷ c ∷ d ∷ [])
four_digits a b c d p q r s i j k l =
    let e : ((p * 16 + q) * 16 + r) * 16 + s ≡ (((0 * 16 + p) * 16 + q) * 16 + r) * 16 + s = omega arith in
    e ∙ ap₂ (λ x y. (((0 * 16 + x) * 16 + y) * 16 + r) * 16 + s) i j ∙ ap₂
    (λ x y. (((0 * 16 + digit_value a) * 16 + digit_value b) * 16 + x) * 16 + y) k l

-- the six bytes of a unit
module _ (text : List ℕ) (at u a b c d : ℕ) (h : at + 6 ≤ length text) where
  pub six_bytes : get_or text at 0 ≡ 92 → get_or text (at + 1) 0 ≡ 117 → get_or text (at + 2) 0 ≡ a → get_or text (at + 3) 0 ≡ b
      → get_or text (at + 4) 0 ≡ c → get_or text (at + 5) 0 ≡ d
      → digit_value a < 16 → digit_value b < 16 → digit_value c < 16 → digit_value d < 16 → u ≡ unit_of 0 (a ∷ b ∷ c ∷ d ∷ [])
      → UnitAt text at u
  six_bytes p q r s t v i j k l e = record {
    digits = a ∷ b ∷ c ∷ d ∷ [];
    four = refl;
    hex = (hex_digit a i, (hex_digit b j, (hex_digit c k, (hex_digit d l, tt))));
    value = e;
    stands = stands_cons text at (at + 1) (at + 6) 92 (117 ∷ a ∷ b ∷ c ∷ d ∷ []) (omega (arith, h)) refl p refl
        (stands_cons text (at + 1) (at + 2) (at + 6) 117 (a ∷ b ∷ c ∷ d ∷ []) (omega (arith, h)) (omega arith) q refl
        (stands_cons text (at + 2) (at + 3) (at + 6) a (b ∷ c ∷ d ∷ []) (omega (arith, h)) (omega arith) r (hex_ascii a i)
        (stands_cons text (at + 3) (at + 4) (at + 6) b (c ∷ d ∷ []) (omega (arith, h)) (omega arith) s (hex_ascii b j)
        (stands_cons text (at + 4) (at + 5) (at + 6) c (d ∷ []) (omega (arith, h)) (omega arith) t (hex_ascii c k)
        (stands_cons text (at + 5) (at + 6) (at + 6) d [] (omega (arith, h)) (omega arith) v (hex_ascii d l)
        (stands_nil text (at + 6) h))))));
  }

-- a backslash and the letter of a short escape
pub short_at : (text : List ℕ) (at c d : ℕ) → at + 2 ≤ length text → get_or text at 0 ≡ 92 → get_or text (at + 1) 0 ≡ c
    → short_escape c ≡ Some d → EscapeAt text at d (at + 2)
short_at text at c d h p q e = record {
  some = omega arith;
  spells = record {
    taken = 92 ∷ c ∷ [];
    stands =
        stands_cons text at (at + 1) (at + 2) 92 (c ∷ []) (omega (arith, h)) refl p refl
        (stands_cons text (at + 1) (at + 2) (at + 2) c [] (omega (arith, h)) (omega arith) q (short_ascii c d e)
        (stands_nil text (at + 2) h));
    comes = λ limit fs cs rest. short_comes limit fs cs rest c d e;
  };
}
  where
    short_ascii : (c d : ℕ) → short_escape c ≡ Some d → is_ascii c ≡ true
    short_ascii c d e = grind (arith, nat_tests, e)

-- ---- a unit, and a pair

module _ (text : List ℕ) (at to : ℕ) where
  pub unit_escape : (u : ℕ) → UnitAt text at u → to ≡ at + 6 → is_surrogate u ≡ false → EscapeAt text at u to
  unit_escape u a e s = record {
    some = omega (arith, e);
    spells = record {
      taken = 92 ∷ 117 ∷ a.digits;
      stands = subst (λ t. Stands text at t (92 ∷ 117 ∷ a.digits)) (sym e) a.stands;
      comes = λ limit fs cs rest. Comes_known limit fs (next fs (quoted plain cs [])) cs (u ∷ []) (cs ++ u ∷ []) (92 ∷ 117 ∷ a.digits) rest
          (unit_comes limit fs cs [] a.digits rest u a.four a.hex a.value) (ap not s) refl;
    };
  }

  pub pair_escape : (high low : ℕ) → UnitAt text at high → UnitAt text (at + 6) low → to ≡ at + 12 → is_high high ≡ true → is_low low ≡ true
      → EscapeAt text at (pair_of high low) to
  pair_escape high low a b e h l =
      let first = 92 ∷ 117 ∷ a.digits in
      let second = 92 ∷ 117 ∷ b.digits in
      let n : at + 6 + 6 ≡ to = omega (arith, e) in
      record {
        some = omega (arith, e);
        spells = record {
          taken = first ++ second;
          stands = stands_append text at (at + 6) to first second a.stands (subst (λ t. Stands text (at + 6) t second) n b.stands);
          comes = λ limit fs cs rest.
              let n = next fs (quoted plain cs []) in
              let m = next fs (quoted plain cs (high ∷ [])) in
              let o = next fs (quoted plain cs (high ∷ low ∷ [])) in
              Comes_known limit fs n cs (high ∷ low ∷ []) (cs ++ pair_of high low ∷ []) (first ++ second) rest
              (Comes_trans limit n m o first second rest (unit_comes limit fs cs [] a.digits (second ++ rest) high a.four a.hex a.value)
              (unit_comes limit fs cs (high ∷ []) b.digits rest low b.four b.hex b.value)) (rw (h, l) refl) (rw (h, l) refl);
        };
      }

-- ---- escapes side by side

pub spells_none : (text : List ℕ) (at : ℕ) → at ≤ length text → Spells text at [] at
spells_none text at h = record {
  taken = [];
  stands = stands_nil text at h;
  comes = λ limit fs cs rest.
      let n = next fs (quoted plain cs []) in
      subst (λ xs. Comes limit n [] (next fs (quoted plain xs [])) rest) (sym (append-nil cs)) (Same_refl limit n rest, λ w. w);
}

pub spells_more : (text : List ℕ) (at mid to : ℕ) (xs ys : List ℕ) → Spells text at xs mid → Spells text mid ys to
    → Spells text at (xs ++ ys) to
spells_more text at mid to xs ys a b = record {
  taken = a.taken ++ b.taken;
  stands = stands_append text at mid to a.taken b.taken a.stands b.stands;
  comes = λ limit fs cs rest.
      let m : List ℕ → Next = λ zs. next fs (quoted plain zs []) in
      subst (λ zs. Comes limit (m cs) (a.taken ++ b.taken) (m zs) rest) (append_assoc cs xs ys)
      (Comes_trans limit (m cs) (m (cs ++ xs)) (m ((cs ++ xs) ++ ys)) a.taken b.taken rest (a.comes limit fs cs (b.taken ++ rest))
      (b.comes limit fs (cs ++ xs) rest));
}

-- ---- what is taken

Stands_boundary : (text : List ℕ) → IsUtf8 text → (at to : ℕ) (xs : List ℕ) → IsCharBoundary text at → Stands text at to xs
    → IsCharBoundary text to
Stands_boundary text utf8 at to [] b s = let e : at ≡ to = omega (arith, s.long) in subst (IsCharBoundary text) e b
Stands_boundary text utf8 at to (x ∷ xs) b s =
    let h : at < length text = omega (arith, s.long, s.fits) in
    let byte : get_or text at 0 ≡ x = ap (λ i. get_or text i 0) (sym (add-zero at)) ∙ sym (get_or-drop at text 0 0)
    ∙ ap (λ bs. get_or bs 0 0) s.here in
    let more : Stands text (at + 1) to xs = record {
      ascii = s.ascii.1;
      here = ap (λ i. drop i text) (omega arith) ∙ sym (drop-drop 1 at text) ∙ ap (drop 1) s.here;
      long = omega (arith, s.long);
      fits = s.fits;
    } in
    Stands_boundary text utf8 (at + 1) to xs (IsCharBoundary-after_ascii text at utf8 h
    (subst (λ y. y < 128) (sym byte) (ascii_small x s.ascii.0))) more

module _ (text : List ℕ) (utf8 : IsUtf8 text) (at : ℕ) (first : IsCharBoundary text at) (ds : List ℕ) (to : ℕ)
    (e : Spells text at ds to) where
  pub escapes_boundary : IsCharBoundary text to
  escapes_boundary = Stands_boundary text utf8 at to e.taken first e.stands

  pub escapes_between : between text at to ≡ e.taken
  escapes_between =
      let n : to - at ≡ length e.taken = omega (arith, e.stands.long) in
      ap chars (ap₂ (λ k bs. take k bs) n e.stands.here ∙ take-append_seam e.taken (drop to text))
      ∙ chars-IsAscii e.taken (small is_ascii ascii_small e.taken e.stands.ascii)

  pub escapes_come : (limit : Option ℕ) (fs : List Frame) (cs : List ℕ)
      → Comes limit (next fs (quoted plain cs [])) e.taken (next fs (quoted plain (cs ++ ds) [])) (chars_after text to)
  escapes_come limit fs cs = e.comes limit fs cs (chars_after text to)

-- the escapes at the place of a text are taken
Leads_escapes : (limit : Option ℕ) (fs : List Frame) (cs ds : List ℕ) (p q : TextBytes) → Spells p.text.now p.at ds q.at
    → q.text.now ≡ p.text.now → Leads text_sight limit p (next fs (quoted plain cs [])) q (next fs (quoted plain (cs ++ ds) []))
Leads_escapes limit fs cs ds p q e same =
    let text = p.text.now in
    let utf8 = IsUtf8-had text p.utf8 in
    let last = escapes_boundary text utf8 p.at p.boundary ds q.at e in
    let one = escapes_between text utf8 p.at p.boundary ds q.at e in
    let h : p.at ≤ q.at = omega (arith, e.stands.long) in
    record {
      taken = e.taken;
      gives = λ zs g.
          let x = step_gives text utf8 p.at q.at h p.boundary last e.taken one zs g in
          let n = next fs (quoted plain cs []) in
          let m = next fs (quoted plain (cs ++ ds) []) in (
            x.0,
            x.1,
            x.2 ∙ ap (λ t. chars_after t q.at) (sym same),
            subst (Comes limit n e.taken m) (sym x.2) (escapes_come text utf8 p.at p.boundary ds q.at e limit fs cs),
          );
      moves = ap (λ t. advance origin (before t q.at)) same ∙ step_moves text utf8 p.at q.at h p.boundary last e.taken one;
    }

pub escapes_go : (limit : Option ℕ) (fs : List Frame) (o p q : TextBytes) (n : Next) (cs ds xs : List ℕ) (to : ℕ)
    → Leads text_sight limit o n p (next fs (quoted plain cs [])) → Spells p.text.now p.at xs to → q.text.now ≡ p.text.now → q.at ≡ to
    → ds ≡ cs ++ xs → Leads text_sight limit o n q (next fs (quoted plain ds []))
escapes_go limit fs o p q n cs ds xs to l e same at added =
    let m : List ℕ → Next = λ ys. next fs (quoted plain ys []) in
    Leads_trans text_sight limit o p q l (Leads_to text_sight limit p q
    (Leads_escapes limit fs cs xs p q (subst (Spells p.text.now p.at xs) (sym at) e) same) (ap m (sym added)))

-- escapes are taken, and the plain characters after them
module _ {E : Type 0} (limit : Option ℕ) (fs : List Frame) (o p q r : TextBytes) (n : Next) (cs ds es xs : List ℕ) (to : ℕ)
    (v : Result (Unit {0}) E)
    (run : TakesRun text_sight is_plain q ds v es r) (l : Leads text_sight limit o n p (next fs (quoted plain cs [])))
    (e : Spells p.text.now p.at xs to) (same : q.text.now ≡ p.text.now) (at : q.at ≡ to) (added : ds ≡ cs ++ xs) where
  gone : Leads text_sight limit o n q (next fs (quoted plain ds []))
  gone = escapes_go limit fs o p q n cs ds xs to l e same at added

  pub escapes_added : is_err v ≡ false → Leads text_sight limit o n r (next fs (quoted plain es []))
  escapes_added h = Leads_trans text_sight limit o q r gone (plain_added text_sight limit q r fs ds es [] v refl h run)

  pub escapes_halt : Halts text_sight limit o n r
  escapes_halt = Halts_trans text_sight limit o q r gone (plain_halts text_sight limit q r fs ds es [] v refl run)
