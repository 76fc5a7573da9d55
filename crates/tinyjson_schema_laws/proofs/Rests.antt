-- What follows a place in the text of tokens is the text of some of them.
use Rattle.std.proofs.Common.{◌≡◌, ℕ, Bool, true, false, ◌==◌, List, [], ◌∷◌, ◌++◌, cond, sym, ap, ◌∙◌, true≢false, refl, drop, codes}
use Rattle.std.proofs.Common.{encode_utf8_all, arith}
use Rattle.tinyjson_schema_bundle.specs.Bundles.{token_char, token_text, begins_pointer}
use Rattle.tinyjson_schema_laws.proofs.Places.{AreScalars}
use Rattle.tinyjson_schema_laws.proofs.Texts.{Lacks, encoded_lacks, text_of}

-- ---- no `/` in a token

char_lacks : (c : ℕ) → Lacks 47 (token_char c)
char_lacks c = by (c == 37) (c == 126) (c == 47) refl
  where
    by : (x y z : Bool) → (c == 47) ≡ z
        → Lacks 47 (cond x (codes "%25") (cond y (codes "~0") (cond z (codes "~1") (encode_utf8_all (c ∷ [])))))
    by true y z e = (refl, (refl, (refl, tt)))
    by false true z e = (refl, (refl, tt))
    by false false true e = (refl, (refl, tt))
    by false false false e = encoded_lacks 47 (omega arith) c e

both_lack : (xs ys : List ℕ) → Lacks 47 xs → Lacks 47 ys → Lacks 47 (xs ++ ys)
both_lack [] ys h g = g
both_lack (c ∷ xs) ys h g = (h.0, both_lack xs ys h.1 g)

token_lacks : (k : List ℕ) → Lacks 47 (token_text k)
token_lacks [] = tt
token_lacks (c ∷ cs) = both_lack (token_char c) (token_text cs) (char_lacks c) (token_lacks cs)

-- ---- the rest of a text

past_token : (token tail xs rest : List ℕ) → Lacks 47 token → token ++ tail ≡ xs ++ rest → begins_pointer rest ≡ true
    → (ys : List ℕ) × (tail ≡ ys ++ rest)
past_token [] tail xs rest h e b = (xs, e)
past_token (c ∷ token) tail [] rest h e b = absurd (true≢false (sym b ∙ (ap begins_pointer (sym e) ∙ h.0)))
past_token (c ∷ token) tail (x ∷ xs) rest h e b = past_token token tail xs rest h.1 (ap (drop 1) e) b

pub rest_tokens : (ks : List (List ℕ)) (xs rest : List ℕ) → AreScalars ks → text_of ks ≡ xs ++ rest → begins_pointer rest ≡ true
    → (ls : List (List ℕ)) × AreScalars ls × (rest ≡ text_of ls)
rest_tokens ks [] rest s e b = (ks, s, sym e)
rest_tokens [] (x ∷ xs) rest s e b = absurd (let none : [] ≡ x ∷ (xs ++ rest) = e in cc)
rest_tokens (k ∷ ks) (x ∷ xs) rest s e b =
    let p = past_token (token_text k) (text_of ks) xs rest (token_lacks k) (ap (drop 1) e) b in
    rest_tokens ks p.0 rest s.1 p.1 b
