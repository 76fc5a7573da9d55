-- A text as its bytes.
use Rattle.std.proofs.Common.{◌≡◌, ℕ, suc, Bool, true, false, Option, None, Some, ◌+◌, ◌-◌, List, [], ◌∷◌, ◌++◌, ◌∙◌, ap, ◌<◌, arith}
use Rattle.std.specs.Borrow.{Bor}
use Rattle.std.specs.Str.{IsUtf8, chars, encode_utf8_all}
use Rattle.std.proofs.lemmas.Str.{encodes-append, encodes-chars, encode_ascii}
use Rattle.tinyjson_output.specs.Indent.{indent_of}
use Rattle.tinyjson_grammar.specs.Text.{repeated, separator, after_colon}

abbrev pub enc : List ℕ → List ℕ
enc = encode_utf8_all

pub enc_cons : (c : ℕ) (cs : List ℕ) → c < 128 → enc (c ∷ cs) ≡ c ∷ enc cs
enc_cons c cs h = ap (λ w. w ++ enc cs) (encode_ascii c h)

-- between two ASCII characters
pub enclosed : (a b : ℕ) (cs : List ℕ) → a < 128 → b < 128 → enc (a ∷ cs ++ b ∷ []) ≡ a ∷ [] ++ (enc cs ++ b ∷ [])
enclosed a b cs h k = enc_cons a (cs ++ b ∷ []) h ∙ ap (λ w. a ∷ w) (encodes-append cs (b ∷ []) ∙ ap (λ w. enc cs ++ w) (enc_cons b [] k))

pub three : (a b c : List ℕ) → enc (a ++ (b ++ c)) ≡ enc a ++ (enc b ++ enc c)
three a b c = encodes-append a (b ++ c) ∙ ap (λ w. enc a ++ w) (encodes-append b c)

pub closed : (cs : List ℕ) (b : ℕ) → b < 128 → enc (cs ++ b ∷ []) ≡ enc cs ++ b ∷ []
closed cs b h = encodes-append cs (b ∷ []) ∙ ap (λ w. enc cs ++ w) (enc_cons b [] h)

pub two_bytes : (a b : ℕ) → a < 128 → b < 128 → enc (a ∷ b ∷ []) ≡ a ∷ b ∷ []
two_bytes a b h k = enc_cons a (b ∷ []) h ∙ ap (λ z. a ∷ z) (enc_cons b [] k)

pub null_bytes : enc (110 ∷ 117 ∷ 108 ∷ 108 ∷ []) ≡ 110 ∷ 117 ∷ 108 ∷ 108 ∷ []
null_bytes = enc_cons 110 (117 ∷ 108 ∷ 108 ∷ []) (omega arith) ∙ ap (λ z. 110 ∷ z) (enc_cons 117 (108 ∷ 108 ∷ []) (omega arith)
    ∙ ap (λ z. 117 ∷ z) (enc_cons 108 (108 ∷ []) (omega arith) ∙ ap (λ z. 108 ∷ z) (enc_cons 108 [] (omega arith))))

-- one more indent of a line
pub line_here : (level done : ℕ) (bs : List ℕ) → IsUtf8 bs → done < level
    → enc (repeated (level - done) (chars bs)) ≡ bs ++ enc (repeated (level - (done + 1)) (chars bs))
line_here level done bs u h =
    let r = repeated (level - (done + 1)) (chars bs) in
    let e : level - done ≡ suc (level - (done + 1)) = omega arith in
    ap (λ n. enc (repeated n (chars bs))) e ∙ encodes-append (chars bs) r ∙ ap (λ w. w ++ enc r) (encodes-chars bs u)

-- what stands before an item
pub comma_here : (first : Bool) (n : List ℕ) → first ≡ false → enc (separator first ++ n) ≡ 44 ∷ [] ++ enc n
comma_here first n e = ap (λ b. enc (separator b ++ n)) e ∙ enc_cons 44 n (omega arith)

pub no_comma : (first : Bool) (n : List ℕ) → first ≡ true → enc (separator first ++ n) ≡ enc n
no_comma first n e = ap (λ b. enc (separator b ++ n)) e

-- the colon after a key
pub colon_alone : (o : Option (Bor (List ℕ))) → o ≡ None → enc (58 ∷ after_colon (indent_of o)) ≡ 58 ∷ []
colon_alone o e = ap (λ z. enc (58 ∷ after_colon (indent_of z))) e ∙ enc_cons 58 [] (omega arith)

pub colon_spaced : (o : Option (Bor (List ℕ))) (i : Bor (List ℕ)) → o ≡ Some i → enc (58 ∷ after_colon (indent_of o)) ≡ 58 ∷ 32 ∷ []
colon_spaced o i e = ap (λ z. enc (58 ∷ after_colon (indent_of z))) e ∙ two_bytes 58 32 (omega arith) (omega arith)
