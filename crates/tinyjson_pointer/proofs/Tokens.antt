-- The text of a pointer, taken in character by character.
use Rattle.std.proofs.Common.{◌≡◌, ◌≢◌, ◌↔◌, inl, inr, ℕ, Bool, true, false, cond, Result, Ok, Err, map, ◌==◌}
use Rattle.std.proofs.Common.{List, [], ◌∷◌, ◌++◌, refl}
use Rattle.std.proofs.Common.{sym, ap, ◌∙◌, append_assoc, append-nil, subst, arith, String, Global, encode_utf8_all}
use Rattle.std.proofs.lemmas.Bool.{eqb-true}
use Rattle.std.proofs.lemmas.Bool.Decides.{nat_tests}
use Rattle.std.proofs.lemmas.List.{map-append}
use Rattle.std.proofs.lemmas.Str.{encodes-append}
use Rattle.std.specs.Result.{IsErrAnd}
use Rattle.tinyjson.specs.View.{text}
use Rattle.tinyjson_pointer.specs.Reading.{IsNoPointer, HasBadEscape, BeginsEscape, BeginsWithSlash, BeginsWithOther, Reads, ReadsTokens}
use Rattle.tinyjson_pointer.specs.declared.pointer.PointerError.{PointerError}
use Rattle.tinyjson_pointer.specs.declared.pointer.PointerError.TheVariants.{NoSlash, BadEscape, OutOfMemory}
use Rattle.tinyjson_pointer.specs.Text.{escape_char, escape, pointer_text, Split, longer, parted, split}

-- a `~` that waits for the character after it
abbrev pub waiting : Bool → List ℕ
waiting false = []
waiting true = 126 ∷ []

-- The text cs after the first slash: of it the tokens ts are taken in, of the token after them the characters t, and xs is left.
abbrev pub Stands : List ℕ → List (List ℕ) → List ℕ → Bool → List ℕ → Type 0
Stands cs ts t tilde xs = 47 ∷ cs ≡ pointer_text ts ++ (47 ∷ (escape t ++ (waiting tilde ++ xs)))

pub escape_push : (t : List ℕ) (c : ℕ) → escape (t ++ c ∷ []) ≡ escape t ++ escape_char c
escape_push [] c = append-nil (escape_char c)
escape_push (d ∷ t) c = ap (λ x. escape_char d ++ x) (escape_push t c) ∙ sym (append_assoc (escape_char d) (escape t) (escape_char c))

pub pointer_text_push : (ts : List (List ℕ)) (t : List ℕ) → pointer_text (ts ++ t ∷ []) ≡ pointer_text ts ++ (47 ∷ escape t)
pointer_text_push [] t = ap (λ x. 47 ∷ x) (append-nil (escape t))
pointer_text_push (s ∷ ts) t = ap (λ x. 47 ∷ (escape s ++ x)) (pointer_text_push ts t)
    ∙ ap (λ x. 47 ∷ x) (sym (append_assoc (escape s) (pointer_text ts) (47 ∷ escape t)))

isnt_code : (c d : ℕ) → (c == d) ≡ false → c ≢ d
isnt_code c d e h = grind (arith, nat_tests)

escape_char_other : (c : ℕ) → c ≢ 126 → c ≢ 47 → escape_char c ≡ c ∷ []
escape_char_other c h k = grind (arith, nat_tests)

pub slash_stands : (cs : List ℕ) (ts : List (List ℕ)) (t xs : List ℕ) → Stands cs ts t false (47 ∷ xs)
    → Stands cs (ts ++ t ∷ []) [] false xs
slash_stands cs ts t xs h = h ∙ (sym (append_assoc (pointer_text ts) (47 ∷ escape t) (47 ∷ xs))
    ∙ ap (λ y. y ++ (47 ∷ xs)) (sym (pointer_text_push ts t)))

pub escaped_stands : (cs : List ℕ) (ts : List (List ℕ)) (t xs ys : List ℕ) (c : ℕ)
    → 47 ∷ cs ≡ pointer_text ts ++ (47 ∷ (escape t ++ (ys ++ xs))) → escape_char c ≡ ys → Stands cs ts (t ++ c ∷ []) false xs
escaped_stands cs ts t xs ys c h e =
    h ∙ ap (λ y. pointer_text ts ++ (47 ∷ y)) (sym (append_assoc (escape t) ys xs)
    ∙ ap (λ y. y ++ xs) (ap (λ y. escape t ++ y) (sym e) ∙ sym (escape_push t c)))

pub other_stands : (cs : List ℕ) (ts : List (List ℕ)) (t xs : List ℕ) (c : ℕ) → c ≢ 126 → c ≢ 47 → Stands cs ts t false (c ∷ xs)
    → Stands cs ts (t ++ c ∷ []) false xs
other_stands cs ts t xs c n m h = escaped_stands cs ts t xs (c ∷ []) c h (escape_char_other c n m)

pub stands_bad : (cs : List ℕ) (ts : List (List ℕ)) (t xs : List ℕ) → Stands cs ts t true xs → ¬ BeginsEscape xs → HasBadEscape (47 ∷ cs)
stands_bad cs ts t xs h n = record {
  front = pointer_text ts ++ (47 ∷ escape t);
  rest = xs;
  split = h
      ∙ sym (append_assoc (pointer_text ts) (47 ∷ escape t) (126 ∷ xs));
  bad = n;
}

pub stands_whole : (cs : List ℕ) (ts : List (List ℕ)) (t : List ℕ) → Stands cs ts t false [] → 47 ∷ cs ≡ pointer_text (ts ++ t ∷ [])
stands_whole cs ts t h = h ∙ (ap (λ x. pointer_text ts ++ (47 ∷ x)) (append-nil (escape t)) ∙ sym (pointer_text_push ts t))

-- ---- each text has the tokens of at most one pointer

abbrev begun : List ℕ → Split → Split
begun [] s = s
begun (c ∷ t) s = longer c (begun t s)

split_char : (c : ℕ) (xs : List ℕ) → split false (escape_char c ++ xs) ≡ longer c (split false xs)
split_char c xs = by (c == 126) (c == 47) refl refl
  where
    by : (a b : Bool) → (c == 126) ≡ a → (c == 47) ≡ b
        → split false (cond a (126 ∷ 48 ∷ []) (cond b (126 ∷ 49 ∷ []) (c ∷ [])) ++ xs) ≡ longer c (split false xs)
    by true b e f = ap (λ x. longer x (split false xs)) (sym (eqb-true c 126 e))
    by false true e f = ap (λ x. longer x (split false xs)) (sym (eqb-true c 47 f))
    by false false e f = ap (λ x. cond x (parted (split false xs)) (cond (c == 126) (split true xs) (longer c (split false xs)))) f
        ∙ ap (λ x. cond x (split true xs) (longer c (split false xs))) e

split_escape : (t xs : List ℕ) → split false (escape t ++ xs) ≡ begun t (split false xs)
split_escape [] xs = refl
split_escape (c ∷ t) xs = ap (split false) (append_assoc (escape_char c) (escape t) xs)
    ∙ (split_char c (escape t ++ xs) ∙ ap (longer c) (split_escape t xs))

begun_alone : (t : List ℕ) (ts : List (List ℕ)) → begun t ([], ts) ≡ (t, ts)
begun_alone [] ts = refl
begun_alone (c ∷ t) ts = ap (longer c) (begun_alone t ts)

pub split_pointer : (ts : List (List ℕ)) → split false (pointer_text ts) ≡ ([], ts)
split_pointer [] = refl
split_pointer (t ∷ ts) = ap parted (split_escape t (pointer_text ts) ∙ (ap (begun t) (split_pointer ts) ∙ begun_alone t ts))

pub one_pointer : (ts us : List (List ℕ)) → pointer_text ts ≡ pointer_text us → ts ≡ us
one_pointer ts us h = ap (λ s. s.1) (sym (split_pointer ts) ∙ (ap (split false) h ∙ split_pointer us))

pub exactly : (cs : List ℕ) (us : List (List ℕ)) → cs ≡ pointer_text us → (ts : List (List ℕ)) → (cs ≡ pointer_text ts) ↔ (ts ≡ us)
exactly cs us h ts = (λ e. one_pointer ts us (sym e ∙ h), λ e. h ∙ ap pointer_text (sym e))

-- ---- in the text of a pointer `0` or `1` is after each `~`

abbrev AreEscapes : List ℕ → Type 0
AreEscapes [] = Unit {0}
AreEscapes (c ∷ cs) = (c ≡ 126 → BeginsEscape cs) × AreEscapes cs

escape_escapes : (t xs : List ℕ) → AreEscapes xs → AreEscapes (escape t ++ xs)
escape_escapes [] xs h = h
escape_escapes (c ∷ t) xs h = subst AreEscapes (sym (append_assoc (escape_char c) (escape t) xs))
    (by (c == 126) (c == 47) refl refl (escape_escapes t xs h))
  where
    by : (a b : Bool) → (c == 126) ≡ a → (c == 47) ≡ b → AreEscapes (escape t ++ xs)
        → AreEscapes (cond a (126 ∷ 48 ∷ []) (cond b (126 ∷ 49 ∷ []) (c ∷ [])) ++ (escape t ++ xs))
    by true b e f k = (λ x. inl refl, (λ x. absurd (omega arith), k))
    by false true e f k = (λ x. inr refl, (λ x. absurd (omega arith), k))
    by false false e f k = (λ x. absurd (isnt_code c 126 e x), k)

pointer_escapes : (ts : List (List ℕ)) → AreEscapes (pointer_text ts)
pointer_escapes [] = tt
pointer_escapes (t ∷ ts) = (λ e. absurd (omega arith), escape_escapes t (pointer_text ts) (pointer_escapes ts))

at_tilde : (front rest : List ℕ) → AreEscapes (front ++ 126 ∷ rest) → BeginsEscape rest
at_tilde [] rest h = h.0 refl
at_tilde (c ∷ front) rest h = at_tilde front rest h.1

pub bad_no_pointer : (cs : List ℕ) → HasBadEscape cs → IsNoPointer cs
bad_no_pointer cs b ts e = b.bad (at_tilde b.front b.rest (subst AreEscapes (sym e ∙ b.split) (pointer_escapes ts)))

-- ---- texts, character by character

-- one character more was taken of a text
pub one_more : (xs ys zs zs' : List ℕ) (c : ℕ) → xs ≡ ys ++ zs → zs ≡ c ∷ zs' → xs ≡ (ys ++ c ∷ []) ++ zs'
one_more xs ys zs zs' c h e = h ∙ (ap (λ z. ys ++ z) e ∙ sym (append_assoc ys (c ∷ []) zs'))

pub escaped_more : (ys : List ℕ) (c : ℕ) → encode_utf8_all (escape ys) ++ encode_utf8_all (escape_char c)
    ≡ encode_utf8_all (escape (ys ++ c ∷ []))
escaped_more ys c = sym (encodes-append (escape ys) (escape_char c)) ∙ ap encode_utf8_all (sym (escape_push ys c))

pub pointer_more : (ts : List (List ℕ)) (t : List ℕ)
    → encode_utf8_all (pointer_text ts) ++ encode_utf8_all (47 ∷ escape t) ≡ encode_utf8_all (pointer_text (ts ++ t ∷ []))
pointer_more ts t = sym (encodes-append (pointer_text ts) (47 ∷ escape t)) ∙ ap encode_utf8_all (sym (pointer_text_push ts t))

pub no_tokens_stand : (cs : List ℕ) (ts : List (List ℕ)) (t xs : List ℕ) → ts ≡ [] → t ≡ [] → xs ≡ cs → Stands cs ts t false xs
no_tokens_stand cs ts t xs a b e =
    ap (λ x. 47 ∷ x) (sym e) ∙ (ap (λ u. 47 ∷ (escape u ++ xs)) (sym b) ∙ ap (λ v. pointer_text v ++ (47 ∷ (escape t ++ xs))) (sym a))

pub Stands_at : (cs : List ℕ) (ts : List (List ℕ)) (t xs ys : List ℕ) (a b : Bool) → Stands cs ts t a xs → a ≡ b → xs ≡ ys
    → Stands cs ts t b ys
Stands_at cs ts t xs ys a b h e f = subst (λ z. Stands cs ts t b z) f (subst (λ z. Stands cs ts t z xs) e h)

pub Stands_as : (cs : List ℕ) (ts us : List (List ℕ)) (t u xs : List ℕ) (a b : Bool) → Stands cs ts t a xs → us ≡ ts → u ≡ t → b ≡ a
    → Stands cs us u b xs
Stands_as cs ts us t u xs a b h d e f = subst (λ vs. Stands cs vs u b xs) (sym d)
    (subst (λ v. Stands cs ts v b xs) (sym e) (subst (λ c. Stands cs ts t c xs) (sym f) h))

pub texts_push : (old new : List (String Global)) (s : String Global) → new ≡ old ++ s ∷ [] → map text new ≡ map text old ++ text s ∷ []
texts_push old new s e = ap (map text) e ∙ map-append text old (s ∷ [])

-- ---- what the reading of a text says

other_no_pointer : (c : ℕ) (cs : List ℕ) (ts : List (List ℕ)) → c ≢ 47 → c ∷ cs ≡ pointer_text ts → ⊥
other_no_pointer c cs [] h e = cc
other_no_pointer c cs (t ∷ ts) h e = let same : c ≡ 47 = cc in h same

pub no_slash : (cs ds : List ℕ) (c : ℕ) → c ≢ 47 → cs ≡ c ∷ ds → Reads cs (Err NoSlash)
no_slash cs ds c h e = (subst BeginsWithOther (sym e) h, λ ts is. other_no_pointer c ds ts h (sym e ∙ is))

pub after_slash : (cs ds : List ℕ) (e : PointerError) → cs ≡ 47 ∷ ds → ReadsTokens ds (Err e) → Reads cs (Err e)
after_slash cs ds NoSlash is h = absurd h
after_slash cs ds BadEscape is h = let bad = subst HasBadEscape (sym is) h
    in (subst BeginsWithSlash (sym is) refl, bad, bad_no_pointer cs bad)
after_slash cs ds OutOfMemory is h = tt

pub error_back : {T E : Type 0} (P : Result T E → Type 0) (r : Result T E) (e : E) → IsErrAnd r (λ d. d ≡ e) → P (Err e) → P r
error_back P (Ok x) e h k = absurd h
error_back P (Err d) e h k = subst (λ x. P (Err x)) (sym h) k

pub bad_escape : (cs : List ℕ) (ts : List (List ℕ)) (t xs : List ℕ) (c : ℕ) → Stands cs ts t true (c ∷ xs) → ¬ BeginsEscape (c ∷ [])
    → ReadsTokens cs (Err BadEscape)
bad_escape cs ts t xs c h n = stands_bad cs ts t (c ∷ xs) h n
