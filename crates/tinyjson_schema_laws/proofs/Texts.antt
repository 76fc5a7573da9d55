-- The text of a place as a fragment: read as a pointer, it has the tokens of the place.
use Rattle.std.proofs.Common.{◌≡◌, ℕ, suc, ◌<◌, Bool, true, false, ◌==◌, List, [], ◌∷◌, ◌++◌, Option, Some, None, IsTrue}
use Rattle.std.proofs.Common.{cond, refl, sym, ap, ◌∙◌, true≢false, length, get_or, option_map, encode_utf8_all, arith, codes}
use Rattle.std.proofs.Common.{eqb-true, append_assoc, append-nil}
use Rattle.std.proofs.lemmas.Bool.{and_parts, and_from}
use Rattle.std.proofs.lemmas.Str.{inside_one, encodes-append, chars-encodes, encodes-chars, is_utf8-from_IsUtf8, IsUtf8-append}
use Rattle.std.proofs.lemmas.Str.{IsUtf8-from_is_utf8}
use Rattle.std.specs.Prelude.{⊤, option_and_then}
use Rattle.std.specs.Str.{IsUtf8, is_utf8, chars, all_scalars}
use lib.Utf8.{encode, scalar}
use Rattle.tinyjson.specs.Characters.{solidus, tilde}
use Rattle.tinyjson.specs.Tree.{Tree}
use Rattle.tinyjson_pointer.proofs.Callers.{tokens_read}
use Rattle.tinyjson_pointer.specs.Text.{pointer_text, pointer_tokens, escape, escape_char}
use Rattle.tinyjson_schema_keywords.specs.Anchors.{anchors_in, anchored, is_plain_name}
use Rattle.tinyjson_schema_keywords.specs.References.{percent, percent_decoded, after_percent, schema_from, at_pointer, at_text}
use Rattle.tinyjson_schema_keywords.specs.References.{at_fragment}
use Rattle.tinyjson_schema_keywords.specs.References.{reference_bytes, target}
use Rattle.tinyjson_schema_keywords.specs.declared.keyword.Form.TheVariants as form
use Rattle.tinyjson_schema_bundle.specs.Bundles.{token_char, token_text, at_key, place_after, string_of}
use Rattle.tinyjson_schema_bundle.specs.Scopes.{schema_there}
use Rattle.tinyjson_schema_laws.specs.Scoped.{located, located_at}
use Rattle.tinyjson_schema_laws.proofs.Places.{AreScalars, root_place, after_place}

-- ---- bytes without another one

abbrev pub Lacks : ℕ → List ℕ → Type 0
Lacks d [] = ⊤
Lacks d (b ∷ bs) = ((b == d) ≡ false) × Lacks d bs

map_map : (f g h : List ℕ → List ℕ) (o : Option (List ℕ)) → ((x : List ℕ) → f (g x) ≡ h x)
    → option_map f (option_map g o) ≡ option_map h o
map_map f g h None e = refl
map_map f g h (Some x) e = ap Some (e x)

map_itself : (o : Option (List ℕ)) → o ≡ option_map (λ ds. ds) o
map_itself None = refl
map_itself (Some ds) = refl

decoded_past : (xs ys : List ℕ) → Lacks percent xs → percent_decoded (xs ++ ys) ≡ option_map (λ ds. xs ++ ds) (percent_decoded ys)
decoded_past [] ys h = map_itself (percent_decoded ys)
decoded_past (x ∷ xs) ys h =
    ap (λ c. cond c (after_percent (xs ++ ys)) (option_map (λ ds. x ∷ ds) (percent_decoded (xs ++ ys)))) h.0
    ∙ (ap (option_map (λ ds. x ∷ ds)) (decoded_past xs ys h.1)
    ∙ map_map (λ ds. x ∷ ds) (λ ds. xs ++ ds) (λ ds. x ∷ (xs ++ ds)) (percent_decoded ys) (λ ds. refl))

module _ (d : ℕ) (small : d < 128) where
  all_lack : (xs : List ℕ) → ((k : ℕ) → k < length xs → (get_or xs k 0 == d) ≡ false) → Lacks d xs
  all_lack [] h = tt
  all_lack (x ∷ xs) h = (h 0 (omega arith), all_lack xs (λ k l. h (suc k) (omega (arith, l))))

  pub encoded_lacks : (c : ℕ) → (c == d) ≡ false → Lacks d (encode_utf8_all (c ∷ []))
  encoded_lacks c h = all_lack (encode c ++ []) at
    where
      at : (k : ℕ) → k < length (encode c ++ []) → (get_or (encode c ++ []) k 0 == d) ≡ false
      at k l = by (get_or (encode c ++ []) k 0 == d) refl
        where
          by : (b : Bool) → (get_or (encode c ++ []) k 0 == d) ≡ b → b ≡ false
          by true e =
              let same : get_or (encode c ++ []) k 0 ≡ d = eqb-true (get_or (encode c ++ []) k 0) d e in
              let this : c ≡ get_or (encode c ++ []) k 0 = inside_one c [] (encode c ++ []) k refl
              (omega (arith, l, ap length (append-nil (encode c)))) (omega (arith, same, small)) in
              absurd (true≢false (sym e ∙ (ap (λ x. x == d) (sym this) ∙ h)))
          by false e = refl

-- ---- characters, tokens and places

decoded_char : (c : ℕ) (ys : List ℕ) → percent_decoded (token_char c ++ ys)
    ≡ option_map (λ ds. encode_utf8_all (escape_char c) ++ ds) (percent_decoded ys)
unfolding encode
decoded_char c ys = by (c == percent) (c == tilde) (c == solidus) refl refl refl
  where
    one : (c : ℕ) → (c == percent) ≡ true → (c == tilde) ≡ false
    one c e = ap (λ x. x == tilde) (eqb-true c 37 e)

    two : (c : ℕ) → (c == percent) ≡ true → (c == solidus) ≡ false
    two c e = ap (λ x. x == solidus) (eqb-true c 37 e)

    by : (x y z : Bool) → (c == percent) ≡ x → (c == tilde) ≡ y → (c == solidus) ≡ z
        → percent_decoded (cond x (codes "%25") (cond y (codes "~0") (cond z (codes "~1") (encode_utf8_all (c ∷ [])))) ++ ys)
        ≡ option_map (λ ds. encode_utf8_all (cond y (codes "~0") (cond z (codes "~1") (c ∷ []))) ++ ds) (percent_decoded ys)
    by true true z e f g = absurd (true≢false (sym f ∙ one c e))
    by true false true e f g = absurd (true≢false (sym g ∙ two c e))
    by true false false e f g = ap (λ x. option_map (λ ds. encode_utf8_all (x ∷ []) ++ ds) (percent_decoded ys)) (sym (eqb-true c 37 e))
    by false true z e f g = decoded_past (codes "~0") ys (refl, (refl, tt))
    by false false true e f g = decoded_past (codes "~1") ys (refl, (refl, tt))
    by false false false e f g = decoded_past (encode_utf8_all (c ∷ [])) ys (encoded_lacks percent (omega arith) c e)

decoded_token : (k ys : List ℕ) → percent_decoded (token_text k ++ ys)
    ≡ option_map (λ ds. encode_utf8_all (escape k) ++ ds) (percent_decoded ys)
decoded_token [] ys = map_itself (percent_decoded ys)
decoded_token (c ∷ cs) ys =
    ap percent_decoded (append_assoc (token_char c) (token_text cs) ys)
    ∙ (decoded_char c (token_text cs ++ ys)
    ∙ (ap (option_map (λ ds. encode_utf8_all (escape_char c) ++ ds)) (decoded_token cs ys)
    ∙ map_map (λ ds. encode_utf8_all (escape_char c) ++ ds) (λ ds. encode_utf8_all (escape cs) ++ ds)
    (λ ds. encode_utf8_all (escape_char c ++ escape cs) ++ ds) (percent_decoded ys)
    (λ ds. sym (append_assoc (encode_utf8_all (escape_char c)) (encode_utf8_all (escape cs)) ds)
    ∙ ap (λ x. x ++ ds) (sym (encodes-append (escape_char c) (escape cs))))))

-- the text of tokens in a place
abbrev pub text_of : List (List ℕ) → List ℕ
text_of [] = []
text_of (k ∷ ks) = solidus ∷ (token_text k ++ text_of ks)

pub place_text : (p : List ℕ) (ks : List (List ℕ)) → place_after p ks ≡ p ++ text_of ks
place_text p [] = sym (append-nil p)
place_text p (k ∷ ks) = place_text (at_key p k) ks ∙ append_assoc p (solidus ∷ token_text k) (text_of ks)

decoded_text : (ks : List (List ℕ)) → percent_decoded (text_of ks) ≡ Some (encode_utf8_all (pointer_text ks))
unfolding encode
decoded_text [] = refl
decoded_text (k ∷ ks) = ap (option_map (λ ds. solidus ∷ ds)) (decoded_token k (text_of ks)
    ∙ ap (option_map (λ ds. encode_utf8_all (escape k) ++ ds)) (decoded_text ks))
    ∙ ap (λ x. Some (solidus ∷ x)) (sym (encodes-append (escape k) (pointer_text ks)))

-- ---- tokens of scalar values

both_scalars : (xs ys : List ℕ) → IsTrue (all_scalars xs) → IsTrue (all_scalars ys) → IsTrue (all_scalars (xs ++ ys))
both_scalars [] ys h g = g
both_scalars (x ∷ xs) ys h g = let p = and_parts (scalar x) (all_scalars xs) h in and_from _ _ p.0 (both_scalars xs ys p.1 g)

char_scalars : (c : ℕ) → IsTrue (scalar c) → IsTrue (all_scalars (escape_char c))
char_scalars c h = by (c == tilde) (c == solidus)
  where
    by : (x y : Bool) → IsTrue (all_scalars (cond x (codes "~0") (cond y (codes "~1") (c ∷ []))))
    by true y = refl
    by false true = refl
    by false false = and_from _ _ h refl

escape_scalars : (k : List ℕ) → IsTrue (all_scalars k) → IsTrue (all_scalars (escape k))
escape_scalars [] h = refl
escape_scalars (c ∷ cs) h = let p = and_parts (scalar c) (all_scalars cs) h in
    both_scalars (escape_char c) (escape cs) (char_scalars c p.0) (escape_scalars cs p.1)

pub text_scalars : (ks : List (List ℕ)) → AreScalars ks → IsTrue (all_scalars (pointer_text ks))
text_scalars [] h = refl
text_scalars (k ∷ ks) h = both_scalars (escape k) (pointer_text ks) (escape_scalars k h.0) (text_scalars ks h.1)

-- ---- what is at a place

module _ (ks : List (List ℕ)) (scalars : AreScalars ks) where
  abbrev bytes : List ℕ
  bytes = encode_utf8_all (pointer_text ks)

  bytes_text : is_utf8 bytes ≡ true
  bytes_text = is_utf8-from_IsUtf8 bytes (pointer_text ks, (text_scalars ks scalars, refl))

  bytes_tokens : pointer_tokens (chars bytes) ≡ Some ks
  bytes_tokens = ap pointer_tokens (chars-encodes (pointer_text ks) (text_scalars ks scalars)) ∙ tokens_read (pointer_text ks) ks refl

  place_decoded : percent_decoded (place_after [] ks) ≡ Some bytes
  place_decoded = ap percent_decoded (place_text [] ks) ∙ decoded_text ks

  pub located_there : (t : Tree) → located_at t (place_after [] ks) ≡ located form.Schema [] t ks
  located_there t =
      ap (option_and_then (λ bs. cond (is_utf8 bs) (option_and_then (located form.Schema [] t) (pointer_tokens (chars bs))) None))
      place_decoded
      ∙ (λ i. cond (bytes_text i) (option_and_then (located form.Schema [] t) (bytes_tokens i)) None)

  pub found_there : (t : Tree) → schema_there t (place_after [] ks) ≡ schema_from t ks
  found_there t = ap (option_and_then (λ bs. cond (is_utf8 bs) (at_pointer t (chars bs)) None)) place_decoded
      ∙ (λ i. cond (bytes_text i) (option_and_then (schema_from t) (bytes_tokens i)) None)

  no_name : (l : List (List ℕ)) → is_plain_name (encode_utf8_all (pointer_text l)) ≡ false
  unfolding encode
  no_name [] = refl
  no_name (k ∷ l) = refl

  place_utf8 : IsUtf8 (place_after [] ks)
  place_utf8 = (after_place [] ks root_place scalars).text

  sign_text : IsUtf8 (35 ∷ [])
  unfolding is_utf8 chars encode
  sign_text = IsUtf8-from_is_utf8 (35 ∷ []) refl

  pub target_there : (root : Tree) → target root (string_of (35 ∷ place_after [] ks)) ≡ schema_from root ks
  target_there root =
      ap (λ bs. option_and_then (at_fragment root) (reference_bytes bs))
      (encodes-chars (35 ∷ place_after [] ks) (IsUtf8-append (35 ∷ []) (place_after [] ks) sign_text place_utf8))
      ∙ (ap (option_and_then (at_fragment root)) place_decoded
      ∙ ((λ i. cond (bytes_text i) (at_text root bytes) None)
      ∙ ((λ i. cond (no_name ks i) (anchored (anchors_in root) bytes) (at_pointer root (chars bytes)))
      ∙ ap (option_and_then (schema_from root)) bytes_tokens)))
