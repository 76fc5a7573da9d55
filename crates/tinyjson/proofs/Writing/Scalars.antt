-- The characters of a written text are scalar values, so its bytes are UTF-8.
use Rattle.std.proofs.Common.{◌≡◌, ℕ, zero, suc, ◌+◌, Bool, true, false, List, [], ◌∷◌, ◌++◌, Option, None, Some, IfSome, IsTrue, inl, inr}
use Rattle.std.proofs.Common.{codes, lit<, refl, sym, subst, arith}
use Rattle.std.specs.Str.{all_scalars, IsUtf8, IsAscii, encode_utf8_all, chars}
use Rattle.std.proofs.lemmas.Bool.{and_from, and_parts, cases_lt}
use Rattle.std.proofs.lemmas.Bool.Decides.{nat_tests}
use Rattle.std.proofs.lemmas.Str.{chars_from_encodes, chars-IsAscii}
use Rattle.tinyjson_number.proofs.Callers.{decimal_ascii}
use Rattle.tinyjson_grammar.specs.Tree.{Tree, null, boolean, number, string, array, object, Items, no_items, item, Members, no_members}
use Rattle.tinyjson_grammar.specs.Tree.{member}
use Rattle.tinyjson_grammar.specs.Soundness.{IsTree, AreItemsAt, AreMembersAt}
use Rattle.tinyjson_number.specs.Numeral.{power_width}
use Rattle.tinyjson_grammar.specs.Text.{text, items_text, members_text, escape, escapes, quoted, newline, repeated, before, closing}
use Rattle.tinyjson_grammar.specs.Text.{after_colon, has_no_items, has_no_members}
use Rattle.tinyjson_output.proofs.Callers.{escape_ascii, high, two_ascii}

abbrev pub AreScalars : List ℕ → Type 0
AreScalars cs = IsTrue (all_scalars cs)

pub scalars_append : (xs ys : List ℕ) → AreScalars xs → AreScalars ys → AreScalars (xs ++ ys)
scalars_append [] ys h k = k
scalars_append (x ∷ xs) ys h k = let p = and_parts _ (all_scalars xs) h in and_from _ _ p.0 (scalars_append xs ys p.1 k)

ascii_scalars : (cs : List ℕ) → IsAscii cs → AreScalars cs
ascii_scalars [] h = refl
ascii_scalars (c ∷ cs) h = and_from _ _ (let l = h 0 in grind (arith, nat_tests)) (ascii_scalars cs (λ i. h (suc i)))

escape_scalars : (c : ℕ) → AreScalars (c ∷ []) → AreScalars (escape c)
escape_scalars c h = elim (cases_lt c 128) [
  | inr k ↦ subst AreScalars (sym (high c k)) h
  | inl k ↦ ascii_scalars (escape c) (escape_ascii c k)
]

escapes_scalars : (cs : List ℕ) → AreScalars cs → AreScalars (escapes cs)
escapes_scalars [] h = refl
escapes_scalars (c ∷ cs) h = let p = and_parts _ (all_scalars cs) h in
    scalars_append (escape c) (escapes cs) (escape_scalars c (and_from _ _ p.0 refl)) (escapes_scalars cs p.1)

quoted_scalars : (cs : List ℕ) → AreScalars cs → AreScalars (quoted cs)
quoted_scalars cs h = scalars_append (escapes cs) (34 ∷ []) (escapes_scalars cs h) refl

-- an indent of scalars, where there is one
module _ (w : Option (List ℕ)) (indent : IfSome w AreScalars) where
  repeated_scalars : (k : ℕ) (i : List ℕ) → AreScalars i → AreScalars (repeated k i)
  repeated_scalars zero i h = refl
  repeated_scalars (suc k) i h = scalars_append i (repeated k i) h (repeated_scalars k i h)

  line : (v : Option (List ℕ)) (k : ℕ) → IfSome v AreScalars → AreScalars (newline v k)
  line None k h = refl
  line (Some i) k h = repeated_scalars k i h

  pub before_scalars : (k : ℕ) (first : Bool) → AreScalars (before w k first)
  before_scalars k true = line w k indent
  before_scalars k false = line w k indent

  pub closing_scalars : (k : ℕ) (is_empty : Bool) (bracket : ℕ) → AreScalars (bracket ∷ []) → AreScalars (closing w k is_empty bracket)
  closing_scalars k true bracket h = h
  closing_scalars k false bracket h = scalars_append (newline w k) (bracket ∷ []) (line w k indent) h

  pub colon_scalars : (v : Option (List ℕ)) (cs : List ℕ) → AreScalars cs → AreScalars (58 ∷ (after_colon v ++ cs))
  colon_scalars None cs h = h
  colon_scalars (Some i) cs h = h

  mutual
    pub text_of_scalars : (k : ℕ) (t : Tree) → IsTree t → AreScalars (text w k t)
    text_of_scalars k null h = refl
    text_of_scalars k (boolean true) h = refl
    text_of_scalars k (boolean false) h = refl
    text_of_scalars k (number d) h = ascii_scalars _ (decimal_ascii d h)
    text_of_scalars k (string cs) h = quoted_scalars cs h
    text_of_scalars k (array ts) h = scalars_append (items_text w (k + 1) true ts) _ (items_scalars (k + 1) true ts h)
        (closing_scalars k (has_no_items ts) 93 refl)
    text_of_scalars k (object ms) h = scalars_append (members_text w (k + 1) true ms) _ (members_scalars (k + 1) true ms h.0)
        (closing_scalars k (has_no_members ms) 125 refl)

    items_scalars : (k : ℕ) (first : Bool) (ts : Items) → AreItemsAt power_width ts → AreScalars (items_text w k first ts)
    items_scalars k first no_items h = refl
    items_scalars k first (item t ts) h = scalars_append (before w k first) _ (before_scalars k first)
        (scalars_append (text w k t) _ (text_of_scalars k t h.0) (items_scalars k false ts h.1))

    members_scalars : (k : ℕ) (first : Bool) (ms : Members) → AreMembersAt power_width ms → AreScalars (members_text w k first ms)
    members_scalars k first no_members h = refl
    members_scalars k first (member key t ms) h = scalars_append (before w k first) _ (before_scalars k first)
        (scalars_append (quoted key ++ (58 ∷ (after_colon w ++ text w k t))) _
        (scalars_append (quoted key) _ (quoted_scalars key h.0) (colon_scalars w (text w k t) (text_of_scalars k t h.1)))
        (members_scalars k false ms h.2))

pub encoded_utf8 : (cs : List ℕ) → AreScalars cs → IsUtf8 (encode_utf8_all cs)
encoded_utf8 cs h = (cs, (h, refl))

-- the characters of a text's bytes are the text
pub encoded_chars : (cs : List ℕ) → AreScalars cs → chars (encode_utf8_all cs) ≡ cs
encoded_chars cs h = sym (chars_from_encodes cs (encode_utf8_all cs) (encoded_utf8 cs h) refl)

pub two_spaces : chars (codes "  ") ≡ codes "  "
two_spaces = chars-IsAscii (codes "  ") (two_ascii 32 32 (lit< tt) (lit< tt))
