-- A reference names no copy: its pointer has at most as many letters `z` as its text has letters that may be one.
use Rattle.std.proofs.Common.{◌≡◌, ℕ, zero, suc, ◌+◌, ◌<◌, ◌≤◌, ◌^◌, Bool, true, false, ◌&&◌, ◌||◌, ◌==◌, List, [], ◌∷◌, ◌++◌, Option}
use Rattle.std.proofs.Common.{cond, refl, sym, ap, ◌∙◌, true≢false, subst, length, option_map, encode_utf8_all, chars, replicate, arith}
use Rattle.std.proofs.Common.{Some, None, codes, eqb-true, is_some, inl, inr, nat_lt, bytes_eq}
use Rattle.std.proofs.lemmas.Option.{same_Some}
use Rattle.std.proofs.lemmas.Slice.Eq.{bytes_eq-Decides}
use Rattle.std.proofs.lemmas.Str.{encode_ascii, encodes-chars}
use Rattle.std.specs.Fmt.{decimal}
use Rattle.std.specs.Option.{option_map_or, option_or}
use Rattle.std.specs.Prelude.{⊤, option_and_then, unwrap_or}
use Rattle.std.specs.Str.{IsUtf8}
use lib.Utf8.{encode}
use Rattle.tinyjson.specs.Characters.{solidus, tilde}
use Rattle.tinyjson_pointer.specs.Text.{pointer_text, pointer_tokens, escape, escape_char, split}
use Rattle.text_uri.proofs.Marks.{split_fragment}
use Rattle.text_uri.specs.Dots.{Buffers, slash_for, after_segment, is_dots, first_segment, after_first_segment, step, steps}
use Rattle.text_uri.specs.Dots.{without_dots}
use Rattle.text_uri.specs.Letters.{is_number_sign, is_slash, before, from, after, has_slash, before_last_slash, through_last_slash}
use Rattle.text_uri.specs.Parts as parts
use Rattle.text_uri.specs.Parts.{Parts, Cut, composed, scheme_text, marked, cut_at_colon, cut_scheme, cut_marked, is_scheme}
use Rattle.text_uri.specs.Parts.{ends_path, ends_authority, ends_scheme, cut_authority, cut_query}
use Rattle.text_uri.specs.Resolving.{is_empty, begins_with_slash, merged, path_from, target_by_path, target, resolved}
use Rattle.text_uri.specs.Resolving.{fragment_of}
use Rattle.tinyjson_schema_keywords.specs.References.{percent, percent_decoded, after_percent, hex_byte}
use Rattle.tinyjson_schema_bundle.specs.Bundles.{Marked, is_place}
use Rattle.tinyjson_schema_bundle.specs.Scopes.{letters_above, copy_key, may_be_letter, letters_in, most_letters, longer}
use Rattle.tinyjson_schema_laws.proofs.Copies.{key_text, longer_most}
use Rattle.tinyjson_schema_laws.proofs.Standing.{IsAmong}
use Rattle.tinyjson_schema_laws.proofs.Whole.{most_from}

no_some : {A B : Type 0} (v : A) → None ≡ Some v → B
no_some v e = absurd (let none : None ≡ Some v = e in cc)

-- ---- letters `z`

abbrev pub zs : List ℕ → ℕ
zs [] = 0
zs (c ∷ cs) = cond (c == 122) (suc (zs cs)) (zs cs)

zs_both : (xs ys : List ℕ) → zs (xs ++ ys) ≡ zs xs + zs ys
zs_both [] ys = omega arith
zs_both (c ∷ xs) ys = by (c == 122) (zs_both xs ys)
  where
    by : (b : Bool) → zs (xs ++ ys) ≡ zs xs + zs ys → cond b (suc (zs (xs ++ ys))) (zs (xs ++ ys)) ≡ cond b (suc (zs xs)) (zs xs) + zs ys
    by true h = omega (arith, h)
    by false h = h

zs_more : (c : ℕ) (xs : List ℕ) → zs (c ∷ xs) ≤ suc (zs xs)
zs_more c xs = by (c == 122)
  where
    by : (b : Bool) → cond b (suc (zs xs)) (zs xs) ≤ suc (zs xs)
    by true = omega arith
    by false = omega arith

zs_letters : (n : ℕ) → zs (replicate n 122) ≡ n
zs_letters zero = refl
zs_letters (suc n) = ap suc (zs_letters n)

pub key_zs : (most i : ℕ) → i < 2 ^ 64 → most < zs (chars (copy_key (letters_above most) i))
key_zs most i h =
    let a : zs (chars (copy_key (letters_above most) i)) ≡ zs (letters_above most ++ decimal i) = ap zs (key_text most i h) in
    let b : zs (letters_above most ++ decimal i) ≡ zs (letters_above most) + zs (decimal i) = zs_both (letters_above most) (decimal i) in
    let c : zs (letters_above most) ≡ suc most = zs_letters (suc most) in
    omega (arith, a, b, c)

-- ---- in the text of a pointer

escaped_char : (c : ℕ) → zs (c ∷ []) ≤ zs (escape_char c)
escaped_char c = by (c == tilde) (c == solidus) refl refl
  where
    is_none : (d : ℕ) (n : ℕ) → (c == d) ≡ true → zs (d ∷ []) ≡ 0 → zs (c ∷ []) ≤ n
    is_none d n e z = let a : zs (c ∷ []) ≡ zs (d ∷ []) = ap (λ x. zs (x ∷ [])) (eqb-true c d e) in omega (arith, a, z)

    by : (x y : Bool) → (c == tilde) ≡ x → (c == solidus) ≡ y → zs (c ∷ []) ≤ zs (cond x (codes "~0") (cond y (codes "~1") (c ∷ [])))
    by true y e f = is_none tilde (zs (codes "~0")) e refl
    by false true e f = is_none solidus (zs (codes "~1")) f refl
    by false false e f = omega arith

escaped : (k : List ℕ) → zs k ≤ zs (escape k)
escaped [] = omega arith
escaped (c ∷ cs) =
    let a : zs (c ∷ cs) ≡ zs (c ∷ []) + zs cs = zs_both (c ∷ []) cs in
    let b : zs (escape_char c ++ escape cs) ≡ zs (escape_char c) + zs (escape cs) = zs_both (escape_char c) (escape cs) in
    omega (arith, a, b, escaped_char c, escaped cs)

second : (k l : List ℕ) (ks : List (List ℕ)) → zs l ≤ zs (pointer_text (k ∷ l ∷ ks))
second k l ks =
    let a : zs (pointer_text (k ∷ l ∷ ks)) ≡ zs (escape k) + zs (pointer_text (l ∷ ks)) = zs_both (escape k) (pointer_text (l ∷ ks)) in
    let b : zs (pointer_text (l ∷ ks)) ≡ zs (escape l) + zs (pointer_text ks) = zs_both (escape l) (pointer_text ks) in
    omega (arith, a, b, escaped l)

-- ---- in its bytes

encoded_char : (c : ℕ) → zs (c ∷ []) ≤ zs (encode c)
encoded_char c = by (c == 122) refl
  where
    by : (b : Bool) → (c == 122) ≡ b → zs (c ∷ []) ≤ zs (encode c)
    by true e =
        let same : c ≡ 122 = eqb-true c 122 e in
        let a : zs (c ∷ []) ≡ 1 = ap (λ x. zs (x ∷ [])) same in
        let b : zs (encode c) ≡ 1 = ap (λ x. zs (encode x)) same ∙ ap zs (encode_ascii 122 (omega arith)) in
        omega (arith, a, b)
    by false e = let a : zs (c ∷ []) ≡ 0 = ap (λ b. cond b 1 0) e in omega (arith, a)

encoded : (cs : List ℕ) → zs cs ≤ zs (encode_utf8_all cs)
encoded [] = omega arith
encoded (c ∷ cs) =
    let a : zs (c ∷ cs) ≡ zs (c ∷ []) + zs cs = zs_both (c ∷ []) cs in
    let b : zs (encode c ++ encode_utf8_all cs) ≡ zs (encode c) + zs (encode_utf8_all cs) = zs_both (encode c) (encode_utf8_all cs) in
    omega (arith, a, b, encoded_char c, encoded cs)

-- ---- decoded, a `%` gives at most one

letters_more : (b : ℕ) (bs : List ℕ) → letters_in bs ≤ letters_in (b ∷ bs)
letters_more b bs = by (may_be_letter b)
  where
    by : (x : Bool) → letters_in bs ≤ cond x (suc (letters_in bs)) (letters_in bs)
    by true = omega arith
    by false = omega arith

mapped : (d : ℕ) (o : Option (List ℕ)) (ds : List ℕ) → option_map (λ xs. d ∷ xs) o ≡ Some ds
    → (xs : List ℕ) × (o ≡ Some xs) × (d ∷ xs ≡ ds)
mapped d None ds e = no_some ds e
mapped d (Some xs) ds e = (xs, refl, same_Some (d ∷ xs) ds e)

mutual
  decoded : (f ds : List ℕ) → percent_decoded f ≡ Some ds → zs ds ≤ letters_in f
  decoded [] ds e = let a : zs [] ≡ zs ds = ap zs (same_Some [] ds e) in omega (arith, a)
  decoded (b ∷ bs) ds e = by (after_decoded bs ds) (decoded bs) (b == percent) refl e
    where
      plain : (xs : List ℕ) → zs xs ≤ letters_in bs → (x : Bool) → (b == 122) ≡ x → zs (b ∷ xs) ≤ letters_in (b ∷ bs)
      plain xs h true f =
          let l : zs (b ∷ xs) ≡ suc (zs xs) = ap (λ y. cond y (suc (zs xs)) (zs xs)) f in
          let r : letters_in (b ∷ bs) ≡ suc (letters_in bs)
          = ap (λ y. cond (y || (b == percent)) (suc (letters_in bs)) (letters_in bs)) f in
          omega (arith, l, r, h)
      plain xs h false f =
          let l : zs (b ∷ xs) ≡ zs xs = ap (λ y. cond y (suc (zs xs)) (zs xs)) f in
          omega (arith, l, letters_more b bs, h)

      by : (after_percent bs ≡ Some ds → zs ds ≤ suc (letters_in bs))
          → ((xs : List ℕ) → percent_decoded bs ≡ Some xs → zs xs ≤ letters_in bs) → (x : Bool) → (b == percent) ≡ x
          → cond x (after_percent bs) (option_map (λ xs. b ∷ xs) (percent_decoded bs)) ≡ Some ds → zs ds ≤ letters_in (b ∷ bs)
      by marked plainly true f g =
          let r : letters_in (b ∷ bs) ≡ suc (letters_in bs) = ap (λ y. letters_in (y ∷ bs)) (eqb-true b percent f) in
          omega (arith, r, marked g)
      by marked plainly false f g =
          let m = mapped b (percent_decoded bs) ds g in
          subst (λ xs. zs xs ≤ letters_in (b ∷ bs)) m.2 (plain m.0 (plainly m.0 m.1) (b == 122) refl)

  after_decoded : (bs ds : List ℕ) → after_percent bs ≡ Some ds → zs ds ≤ suc (letters_in bs)
  after_decoded [] ds e = no_some ds e
  after_decoded (a ∷ []) ds e = no_some ds e
  after_decoded (a ∷ b ∷ bs) ds e = by (decoded bs) (hex_byte a b) e
    where
      by : ((xs : List ℕ) → percent_decoded bs ≡ Some xs → zs xs ≤ letters_in bs) → (o : Option ℕ)
          → option_and_then (λ d. option_map (λ xs. d ∷ xs) (percent_decoded bs)) o ≡ Some ds → zs ds ≤ suc (letters_in (a ∷ b ∷ bs))
      by later None g = no_some ds g
      by later (Some d) g =
          let m = mapped d (percent_decoded bs) ds g in
          let same : zs (d ∷ m.0) ≡ zs ds = ap zs m.2 in
          omega (arith, same, zs_more d m.0, later m.0 m.1, letters_more b bs, letters_more a (b ∷ bs))

-- ---- the fragment of a resolved reference is its own

abbrev IsFree : List ℕ → Type 0
IsFree [] = ⊤
IsFree (c ∷ cs) = (is_number_sign c ≡ false) × IsFree cs

abbrev IfFree : Option (List ℕ) → Type 0
IfFree None = ⊤
IfFree (Some xs) = IsFree xs

-- a test that a `#` passes
abbrev Passes : (ℕ → Bool) → Type 0
Passes p = (c : ℕ) → p c ≡ false → is_number_sign c ≡ false

or_right : (a b : Bool) → (a || b) ≡ false → b ≡ false
or_right true b e = absurd (true≢false e)
or_right false b e = e

path_passes : Passes ends_path
path_passes c e = or_right (c == 63) (c == 35) e

authority_passes : Passes ends_authority
authority_passes c e = path_passes c (or_right (c == 47) (ends_path c) e)

scheme_passes : Passes ends_scheme
scheme_passes c e = authority_passes c (or_right (c == 58) (ends_authority c) e)

both_free : (xs ys : List ℕ) → IsFree xs → IsFree ys → IsFree (xs ++ ys)
both_free [] ys h g = g
both_free (c ∷ xs) ys h g = (h.0, both_free xs ys h.1 g)

cut_free : (p : ℕ → Bool) → Passes p → (xs : List ℕ) → IsFree (before p xs)
cut_free p k [] = tt
cut_free p k (c ∷ xs) = by (p c) refl (cut_free p k xs)
  where
    by : (b : Bool) → p c ≡ b → IsFree (before p xs) → IsFree (cond b [] (c ∷ before p xs))
    by true e h = tt
    by false e h = (k c e, h)

before_free : (p : ℕ → Bool) (xs : List ℕ) → IsFree xs → IsFree (before p xs)
before_free p [] h = tt
before_free p (c ∷ xs) h = by (p c) (before_free p xs h.1)
  where
    by : (b : Bool) → IsFree (before p xs) → IsFree (cond b [] (c ∷ before p xs))
    by true g = tt
    by false g = (h.0, g)

from_free : (p : ℕ → Bool) (xs : List ℕ) → IsFree xs → IsFree (from p xs)
from_free p [] h = tt
from_free p (c ∷ xs) h = by (p c) (from_free p xs h.1)
  where
    by : (b : Bool) → IsFree (from p xs) → IsFree (cond b (c ∷ xs) (from p xs))
    by true g = h
    by false g = g

after_free : (front xs : List ℕ) → IsFree xs → IfFree (after front xs)
after_free [] xs h = h
after_free (d ∷ ds) [] h = tt
after_free (d ∷ ds) (c ∷ cs) h = by (c == d) (after_free ds cs h.1)
  where
    by : (b : Bool) → IfFree (after ds cs) → IfFree (cond b (after ds cs) None)
    by true g = g
    by false g = tt

before_slash : (xs : List ℕ) → IsFree xs → IsFree (before_last_slash xs)
before_slash [] h = tt
before_slash (c ∷ xs) h = by (has_slash xs) (before_slash xs h.1)
  where
    by : (b : Bool) → IsFree (before_last_slash xs) → IsFree (cond b (c ∷ before_last_slash xs) [])
    by true g = (h.0, g)
    by false g = tt

through_slash : (xs : List ℕ) → IsFree xs → IsFree (through_last_slash xs)
through_slash [] h = tt
through_slash (c ∷ xs) h = by (has_slash (c ∷ xs)) (through_slash xs h.1)
  where
    by : (b : Bool) → IsFree (through_last_slash xs) → IsFree (cond b (c ∷ through_last_slash xs) [])
    by true g = (h.0, g)
    by false g = tt

segment_free : (o : Option (List ℕ)) → IfFree o → IfFree (slash_for o)
segment_free None h = tt
segment_free (Some []) h = (refl, tt)
segment_free (Some (c ∷ cs)) h = by (is_slash c)
  where
    by : (b : Bool) → IfFree (cond b (Some (c ∷ cs)) None)
    by true = h
    by false = tt

first_free : (xs : List ℕ) → IsFree xs → IsFree (first_segment xs) × IsFree (after_first_segment xs)
first_free [] h = (tt, tt)
first_free (c ∷ cs) h = ((h.0, before_free is_slash cs h.1), from_free is_slash cs h.1)

abbrev AreFree : Buffers → Type 0
AreFree b = IsFree b.0 × IsFree b.1

either : (f : List ℕ → Buffers) (o : Option (List ℕ)) (d : Buffers) → IfFree o → ((r : List ℕ) → IsFree r → AreFree (f r)) → AreFree d
    → AreFree (option_map_or {U = Buffers} f o d)
either f None d h g e = e
either f (Some r) d h g e = g r h

module _ (out input : List ℕ) where
  abbrev kept : List ℕ → Buffers
  kept rest = (out, rest)

  abbrev back : List ℕ → Buffers
  back rest = (before_last_slash out, rest)

  abbrev step_d : Buffers
  step_d = cond (is_dots input) (out, []) (out ++ first_segment input, after_first_segment input)

  abbrev step_c : Buffers
  step_c = option_map_or {U = Buffers} back (after_segment (codes "/..") input) step_d

  abbrev step_b : Buffers
  step_b = option_map_or {U = Buffers} kept (after_segment (codes "/.") input) step_c

  abbrev step_a : Buffers
  step_a = option_map_or {U = Buffers} kept (after (codes "./") input) step_b

  step_free : IsFree out → IsFree input → AreFree (step out input)
  step_free u v =
      either kept (after (codes "../") input) step_a (after_free (codes "../") input v) (λ r h. (u, h))
      (either kept (after (codes "./") input) step_b (after_free (codes "./") input v) (λ r h. (u, h))
      (either kept (after_segment (codes "/.") input) step_c
      (segment_free (after (codes "/.") input) (after_free (codes "/.") input v)) (λ r h. (u, h))
      (either back (after_segment (codes "/..") input) step_d
      (segment_free (after (codes "/..") input) (after_free (codes "/..") input v)) (λ r h. (before_slash out u, h))
      (by (is_dots input)))))
    where
      by : (b : Bool) → AreFree (cond b (out, []) (out ++ first_segment input, after_first_segment input))
      by true = (u, tt)
      by false = let f = first_free input v in (both_free out (first_segment input) u f.0, f.1)

steps_free : (n : ℕ) (b : Buffers) → AreFree b → AreFree (steps n b)
steps_free zero b h = h
steps_free (suc n) b h = steps_free n (step b.0 b.1) (step_free b.0 b.1 h.0 h.1)

dots_free : (path : List ℕ) → IsFree path → IsFree (without_dots path)
dots_free path h = (steps_free (length path) ([], path) (tt, h)).0

-- the parts before the fragment
record HasFree (p : Parts) : Type 0 where
  scheme : IfFree p.scheme
  authority : IfFree p.authority
  path : IsFree p.path
  query : IfFree p.query

scheme_cut : (text : List ℕ) → IfFree (cut_scheme text).0
scheme_cut text = by (after (codes ":") (from ends_scheme text))
  where
    tested : (b : Bool) (rest : List ℕ) → IfFree (cond {A = Cut} b (Some (before ends_scheme text), rest) (None, text)).0
    tested true rest = cut_free ends_scheme scheme_passes text
    tested false rest = tt

    by : (o : Option (List ℕ)) → IfFree (cut_at_colon text (before ends_scheme text) o).0
    by None = tt
    by (Some rest) = tested (is_scheme (before ends_scheme text)) rest

marked_cut : (mark : List ℕ) (p : ℕ → Bool) (text : List ℕ) → Passes p → IfFree (cut_marked mark p text).0
marked_cut mark p text k = by (after mark text)
  where
    by : (o : Option (List ℕ)) → IfFree (option_map_or {U = Cut} (λ rest. (Some (before p rest), from p rest)) o (None, text)).0
    by None = tt
    by (Some rest) = cut_free p k rest

split_free : (text : List ℕ) → HasFree (parts.split text)
split_free text = record {
  scheme = scheme_cut text;
  authority = marked_cut (codes "//") ends_authority (cut_scheme text).1 authority_passes;
  path = cut_free ends_path path_passes (cut_authority (cut_scheme text).1).1;
  query = marked_cut (codes "?") is_number_sign (from ends_path (cut_authority (cut_scheme text).1).1) (λ c h. h);
}

either_list : (b : Bool) (xs ys : List ℕ) → IsFree xs → IsFree ys → IsFree (cond b xs ys)
either_list true xs ys u v = u
either_list false xs ys u v = v

either_parts : (b : Bool) (p q : Parts) → HasFree p → HasFree q → HasFree (cond b p q)
either_parts true p q u v = u
either_parts false p q u v = v

or_free : (o p : Option (List ℕ)) → IfFree o → IfFree p → IfFree (option_or o p)
or_free None p h g = g
or_free (Some x) p h g = h

merged_free : (base : Parts) (path : List ℕ) → HasFree base → IsFree path → IsFree (merged base path)
merged_free base path h u = either_list (is_some base.authority && is_empty base.path) (codes "/" ++ path)
    (through_last_slash base.path ++ path) (refl, u)
    (both_free (through_last_slash base.path) path (through_slash base.path h.path) u)

target_free : (base r : Parts) → HasFree base → HasFree r → HasFree (target base r)
target_free base r h g = either_parts (is_some r.scheme) (record r { path = without_dots r.path })
    (cond (is_some r.authority) (record r { scheme = base.scheme; path = without_dots r.path }) (target_by_path base r))
    (record { scheme = g.scheme; authority = g.authority; path = dots_free r.path g.path; query = g.query })
    (either_parts (is_some r.authority) (record r { scheme = base.scheme; path = without_dots r.path }) (target_by_path base r)
    (record { scheme = h.scheme; authority = g.authority; path = dots_free r.path g.path; query = g.query })
    (either_parts (is_empty r.path) (record base { query = option_or r.query base.query; fragment = r.fragment })
    (record r { scheme = base.scheme; authority = base.authority; path = path_from base r.path })
    (record { scheme = h.scheme; authority = h.authority; path = h.path; query = or_free r.query base.query g.query h.query })
    (record {
      scheme = h.scheme;
      authority = h.authority;
      path = dots_free (cond (begins_with_slash r.path) r.path (merged base r.path))
          (either_list (begins_with_slash r.path) r.path (merged base r.path) g.path (merged_free base r.path h g.path));
      query = g.query;
    })))

target_fragment : (base r : Parts) → (target base r).fragment ≡ r.fragment
target_fragment base r = by (is_some r.scheme) (is_some r.authority) (is_empty r.path)
  where
    by : (x y z : Bool) → (cond x (record r { path = without_dots r.path })
        (cond y (record r { scheme = base.scheme; path = without_dots r.path })
        (cond z (record base { query = option_or r.query base.query; fragment = r.fragment })
        (record r { scheme = base.scheme; authority = base.authority; path = path_from base r.path })))).fragment ≡ r.fragment
    by true y z = refl
    by false true z = refl
    by false false true = refl
    by false false false = refl

past_free : (xs ys : List ℕ) → IsFree xs → from is_number_sign (xs ++ ys) ≡ from is_number_sign ys
past_free [] ys h = refl
past_free (c ∷ xs) ys h = ap (λ b. cond b (c ∷ (xs ++ ys)) (from is_number_sign (xs ++ ys))) h.0 ∙ past_free xs ys h.1

scheme_free : (o : Option (List ℕ)) → IfFree o → IsFree (scheme_text o)
scheme_free None h = tt
scheme_free (Some s) h = both_free s (codes ":") h (refl, tt)

marked_free : (mark : List ℕ) (o : Option (List ℕ)) → IsFree mark → IfFree o → IsFree (marked mark o)
marked_free mark None m h = tt
marked_free mark (Some s) m h = both_free mark s m h

composed_fragment : (p : Parts) → HasFree p → fragment_of (composed p) ≡ p.fragment
composed_fragment p h =
    ap (after (codes "#")) (past_free (scheme_text p.scheme) (marked (codes "//") p.authority ++ (p.path ++ (marked (codes "?") p.query
    ++ marked (codes "#") p.fragment))) (scheme_free p.scheme h.scheme)
    ∙ (past_free (marked (codes "//") p.authority) (p.path ++ (marked (codes "?") p.query ++ marked (codes "#") p.fragment))
    (marked_free (codes "//") p.authority (refl, (refl, tt)) h.authority)
    ∙ (past_free p.path (marked (codes "?") p.query ++ marked (codes "#") p.fragment) h.path
    ∙ past_free (marked (codes "?") p.query) (marked (codes "#") p.fragment)
    (marked_free (codes "?") p.query (refl, tt) h.query))))
    ∙ last p.fragment
  where
    last : (o : Option (List ℕ)) → after (codes "#") (from is_number_sign (marked (codes "#") o)) ≡ o
    last None = refl
    last (Some f) = refl

fragment_kept : (b r : List ℕ) → fragment_of (resolved b r) ≡ fragment_of r
fragment_kept b r = composed_fragment (target (parts.split b) (parts.split r))
    (target_free (parts.split b) (parts.split r) (split_free b) (split_free r))
    ∙ (target_fragment (parts.split b) (parts.split r) ∙ split_fragment r)

fragment_letters : (r f : List ℕ) → fragment_of r ≡ Some f → letters_in f ≤ letters_in r
fragment_letters [] f e = no_some f e
fragment_letters (c ∷ r) f e = by (fragment_letters r f) (is_number_sign c) refl e
  where
    by : (fragment_of r ≡ Some f → letters_in f ≤ letters_in r) → (b : Bool) → is_number_sign c ≡ b
        → after (codes "#") (cond b (c ∷ r) (from is_number_sign r)) ≡ Some f → letters_in f ≤ letters_in (c ∷ r)
    by later true g h =
        let same : letters_in r ≡ letters_in f = ap letters_in (same_Some r f (sym (ap (λ b. cond b (Some r) None) g) ∙ h)) in
        omega (arith, same, letters_more c r)
    by later false g h = omega (arith, later h, letters_more c r)

resolved_letters : (b r : List ℕ) → letters_in (unwrap_or (fragment_of (resolved b r)) []) ≤ letters_in r
resolved_letters b r = by (fragment_of r) refl
  where
    at : (o : Option (List ℕ)) → fragment_of r ≡ o
        → letters_in (unwrap_or (fragment_of (resolved b r)) []) ≡ letters_in (unwrap_or o [])
    at o e = ap (λ x. letters_in (unwrap_or x [])) (fragment_kept b r ∙ e)

    by : (o : Option (List ℕ)) → fragment_of r ≡ o → letters_in (unwrap_or (fragment_of (resolved b r)) []) ≤ letters_in r
    by None e = let none : letters_in (unwrap_or (fragment_of (resolved b r)) []) ≡ 0 = at None e in omega (arith, none)
    by (Some f) e = let some : letters_in (unwrap_or (fragment_of (resolved b r)) []) ≡ letters_in f = at (Some f) e in
        omega (arith, some, fragment_letters r f e)

-- ---- the second token of a reference's pointer

pub tokens_text : (cs : List ℕ) (ks : List (List ℕ)) → pointer_tokens cs ≡ Some ks → pointer_text ks ≡ cs
tokens_text cs ks e = by (bytes_eq (pointer_text (split false cs).1) cs) refl e
  where
    by : (x : Bool) → bytes_eq (pointer_text (split false cs).1) cs ≡ x → cond x (Some (split false cs).1) None ≡ Some ks
        → pointer_text ks ≡ cs
    by true f g = ap pointer_text (sym (same_Some (split false cs).1 ks g))
        ∙ (bytes_eq-Decides (pointer_text (split false cs).1) cs).0 f
    by false f g = no_some ks g

pub pointer_letters : (b r ds k l : List ℕ) (ks : List (List ℕ)) → percent_decoded (unwrap_or (fragment_of (resolved b r)) []) ≡ Some ds
    → IsUtf8 ds → pointer_tokens (chars ds) ≡ Some (k ∷ l ∷ ks) → zs l ≤ letters_in r
pointer_letters b r ds k l ks e u f =
    let text : zs (pointer_text (k ∷ l ∷ ks)) ≡ zs (chars ds) = ap zs (tokens_text (chars ds) (k ∷ l ∷ ks) f) in
    let bytes : zs (encode_utf8_all (chars ds)) ≡ zs ds = ap zs (encodes-chars ds u) in
    omega (
      arith,
      second k l ks,
      text,
      encoded (chars ds),
      bytes,
      decoded (unwrap_or (fragment_of (resolved b r)) []) ds e,
      resolved_letters b r,
    )

-- ---- each reference is a mark

pub mark_letters : (ms : List Marked) (n : ℕ) (m : Marked) → IsAmong m ms → is_place m.0 ≡ false → letters_in m.1 ≤ most_letters ms n
mark_letters [] n m a p = absurd a
mark_letters (k ∷ ms) n m (inl e) p =
    let next : cond (is_place k.0) n (longer n (letters_in k.1)) ≡ longer n (letters_in k.1)
    = ap (λ b. cond b n (longer n (letters_in k.1))) (ap (λ x. is_place x.0) (sym e) ∙ p) in
    let same : letters_in m.1 ≡ letters_in k.1 = ap (λ x. letters_in x.1) e in
    omega (
      arith,
      same,
      next,
      (longer_most n (letters_in k.1) (nat_lt n (letters_in k.1)) refl).1,
      most_from ms (cond (is_place k.0) n (longer n (letters_in k.1))),
    )
mark_letters (k ∷ ms) n m (inr a) p = mark_letters ms (cond (is_place k.0) n (longer n (letters_in k.1))) m a p
