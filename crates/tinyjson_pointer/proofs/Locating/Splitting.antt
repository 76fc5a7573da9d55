-- A text around the character that was looked for.
use Rattle.std.proofs.Common.{◌≡◌, ℕ, zero, suc, ◌+◌, ◌-◌, ◌<◌, ◌≤◌, Bool, true, false, cond, ◌==◌, ◌||◌, List, [], ◌∷◌, ◌++◌, length}
use Rattle.std.proofs.Common.{take}
use Rattle.std.proofs.Common.{Some, refl, sym, ap, ◌∙◌, subst, arith, length-append, encode_utf8, encode_utf8_all}
use Rattle.std.proofs.lemmas.Bool.Decides.{nat_tests}
use Rattle.std.proofs.lemmas.Str.{encodes-append, encodes-chars, encode_ascii, IsUtf8-append, IsUtf8-from_ascii, IsCharBoundary-at_seam}
use Rattle.std.proofs.lemmas.Str.{IsUtf8-take, chars-append, chars_past_char}
use Rattle.std.proofs.Math.Seq.{take-append_seam}
use Rattle.std.specs.Str.{IsUtf8, IsAscii, IsCharBoundary, chars}
use Rattle.tinyjson_pointer.specs.declared.place.scan.Scan.{Scan}
use Rattle.tinyjson_pointer.specs.declared.place.scan.Scan.TheVariants.{Outside, Quoted, Escaped}
use Rattle.tinyjson_pointer.specs.declared.place.scan.Seen.{Seen}
use Rattle.tinyjson_pointer.specs.declared.place.scan.Seen.TheVariants.{Goes, Found, Closed}
use Rattle.tinyjson_pointer.specs.private.Scan.{closes, stops, see, go_on, after}

no_closing_found : (n : ℕ) → closes n ≡ Found → ⊥
no_closing_found zero h = cc
no_closing_found (suc n) h = cc

stops_found : (n : ℕ) (b : Bool) → stops n b ≡ Found → b ≡ true
stops_found zero true h = refl
stops_found zero false h = cc
stops_found (suc n) b h = cc

found_outside : (n : ℕ) (q a d b : Bool)
    → cond q (Goes (Quoted n)) (cond a (Goes (Outside (suc n))) (cond d (closes n) (stops n b))) ≡ Found → b ≡ true
found_outside n true a d b h = cc
found_outside n false true d b h = cc
found_outside n false false true b h = absurd (no_closing_found n h)
found_outside n false false false b h = stops_found n b h

quoted_finds_none : (n : ℕ) (q e : Bool) → cond q (Goes (Outside n)) (cond e (Goes (Escaped n)) (Goes (Quoted n))) ≡ Found → ⊥
quoted_finds_none n true e h = cc
quoted_finds_none n false true h = cc
quoted_finds_none n false false h = cc

found_is : (stop : ℕ) (s : Scan) (c : ℕ) → see stop s c ≡ Found → c ≡ stop
found_is stop (Outside n) c h =
    let e : (c == stop) ≡ true = found_outside n (c == 34) ((c == 91) || (c == 123)) ((c == 93) || (c == 125)) (c == stop) h in
    grind (arith, nat_tests)
found_is stop (Quoted n) c h = absurd (quoted_finds_none n (c == 34) (c == 92) h)
found_is stop (Escaped n) c h = cc

-- the character stands between what is before it and what follows
pub after_splits : (stop : ℕ) (s : Scan) (xs ys : List ℕ) → after stop s xs ≡ Some ys → (front : List ℕ) × (xs ≡ front ++ stop ∷ ys)
after_splits stop s [] ys h = cc
after_splits stop s (c ∷ cs) ys h = by (see stop s c) refl (λ t g. after_splits stop t cs ys g) h
  where
    by : (w : Seen) → see stop s c ≡ w → ((t : Scan) → after stop t cs ≡ Some ys → (front : List ℕ) × (cs ≡ front ++ stop ∷ ys))
        → go_on (λ t. after stop t cs) w cs ≡ Some ys → (front : List ℕ) × (c ∷ cs ≡ front ++ stop ∷ ys)
    by (Goes t) e later g = let r = later t g in (c ∷ r.0, ap (λ zs. c ∷ zs) r.1)
    by Found e later g = let k = found_is stop s c e in ([], cc)
    by Closed e later g = cc

-- the bytes before that character, in a text of which it is followed by another
pub record SplitAt (bs : List ℕ) (stop : ℕ) (ds : List ℕ) : Type 0 where
  pub front : List ℕ
  pub whole : bs ≡ front ++ stop ∷ ds
  pub ends : IsUtf8 (stop ∷ ds)

ascii_one : (c : ℕ) → c < 128 → IsAscii (c ∷ [])
ascii_one c h zero = h
ascii_one c h (suc i) = omega arith

bytes_split : (stop : ℕ) (bs ds front : List ℕ) → stop < 128 → IsUtf8 bs → IsUtf8 ds → chars bs ≡ front ++ stop ∷ chars ds
    → SplitAt bs stop ds
bytes_split stop bs ds front k u v h =
    let one : encode_utf8 stop ≡ stop ∷ [] = encode_ascii stop k in
    record {
      front = encode_utf8_all front;
      whole = sym (encodes-chars bs u) ∙ (ap encode_utf8_all h ∙ (encodes-append front (stop ∷ chars ds)
          ∙ ap (λ zs. encode_utf8_all front ++ zs) (ap (λ zs. zs ++ encode_utf8_all (chars ds)) one
          ∙ ap (λ zs. stop ∷ zs) (encodes-chars ds v))));
      ends = IsUtf8-append (stop ∷ []) ds (IsUtf8-from_ascii (stop ∷ []) (ascii_one stop k)) v;
    }

front_length : (bs ds : List ℕ) (stop : ℕ) (s : SplitAt bs stop ds) → length s.front ≡ length bs - length ds - 1
front_length bs ds stop s =
    let e = ap length s.whole ∙ length-append s.front (stop ∷ ds) in omega arith

pub front_shorter : (bs ds : List ℕ) (stop : ℕ) → SplitAt bs stop ds → 1 + length ds ≤ length bs
front_shorter bs ds stop s =
    let e = ap length s.whole ∙ length-append s.front (stop ∷ ds) in omega arith

pub front_boundary : (bs ds : List ℕ) (stop : ℕ) → SplitAt bs stop ds → IsCharBoundary bs (length bs - length ds - 1)
front_boundary bs ds stop s =
    subst (IsCharBoundary bs) (front_length bs ds stop s) (IsCharBoundary-at_seam bs s.front (stop ∷ ds) s.whole s.ends)

pub front_chars : (bs ds : List ℕ) (stop : ℕ) → stop < 128 → IsUtf8 bs → SplitAt bs stop ds
    → chars bs ≡ chars (take (length bs - length ds - 1) bs) ++ stop ∷ chars ds
front_chars bs ds stop k u s =
    let n = length bs - length ds - 1 in
    let is : take n bs ≡ s.front = ap (λ m. take m bs) (sym (front_length bs ds stop s))
    ∙ (ap (take (length s.front)) s.whole ∙ take-append_seam s.front (stop ∷ ds)) in
    let v : IsUtf8 s.front = subst IsUtf8 is (IsUtf8-take bs n u (front_boundary bs ds stop s)) in
    let one : stop ∷ ds ≡ encode_utf8 stop ++ ds = ap (λ zs. zs ++ ds) (sym (encode_ascii stop k)) in
    ap chars s.whole ∙ (chars-append s.front (stop ∷ ds) v
    ∙ (ap (λ zs. chars s.front ++ zs) (chars_past_char (stop ∷ ds) ds stop s.ends one)
    ∙ ap (λ zs. chars zs ++ stop ∷ chars ds) (sym is)))

-- what is around the character that is found
pub found_at : (stop : ℕ) (bs ds : List ℕ) → stop < 128 → IsUtf8 bs → IsUtf8 ds → after stop (Outside 0) (chars bs) ≡ Some (chars ds)
    → SplitAt bs stop ds
found_at stop bs ds k u v h = let r = after_splits stop (Outside 0) (chars bs) (chars ds) h in bytes_split stop bs ds r.0 k u v r.1
