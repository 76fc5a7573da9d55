-- Items and members that are buffered in full, or not at all.
use Rattle.std.proofs.Common.{◌≡◌, ℕ, Bool, true, false, Option, Some, List, [], ◌∷◌, ◌++◌, length, take, refl, sym, ◌∙◌, ap, subst}
use Rattle.std.proofs.Common.{append_assoc, arith, get_or, option_map, slice_get, Result}
use Rattle.std.proofs.lemmas.List.{take_at}
use Rattle.std.specs.Bool.{MatchBool}
use Rattle.tinyjson_number.specs.Canonical.{IsDecimal}
use Rattle.tinyjson_number.specs.Decimal.{Decimal}
use Rattle.tinyjson_number.specs.Number.{Canonical}
use Rattle.tinyjson_number.specs.Text.{decimal_text}
use Rattle.tinyjson_grammar.specs.Tree.{Tree}
use Rattle.tinyjson_grammar.specs.Text.{text, quoted, escapes}
use Rattle.tinyjson_output.specs.Buffer.{Output, SentPart, Sent, SendsFrom}
use Rattle.tinyjson_output.proofs.Callers.{enc, enc_cons, two_bytes, null_bytes, quoted_bytes}
use Rattle.tinyjson_output.proofs.Callers.{sent_goes as goes, sent_stops as stops, sent_stops_then as stops_then}
use Rattle.tinyjson_output.proofs.Callers.{sent_written_none as written_none, sent_written_then as written_then}
use Rattle.tinyjson_cells.specs.Cell.{Is, IsBytes, IsKeptAt}
use Rattle.tinyjson_document.specs.Walking.{holds_others}
use Rattle.tinyjson_cells.specs.declared.store.Span.{Span}
use Rattle.tinyjson_cells.specs.declared.store.Cell.{Cell}
use Rattle.tinyjson_cells.specs.declared.store.Cell.TheVariants as node
use Rattle.tinyjson_cells.specs.declared.store.Store.{Store}
use Rattle.tinyjson_cells.specs.Texts.{part_of}
use Rattle.tinyjson_document.proofs.Writing.{seen, empty_array, empty_object}
use Rattle.tinyjson_document.proofs.Passing.{same_places}
use Rattle.tinyjson_document.proofs.Places.{kept_there}
use Rattle.tinyjson_cells.proofs.Callers.{number_bytes}

-- what was appended is taken back
pub taken_back : (p q r s more : List ℕ) (n : ℕ) → n ≡ length p → r ≡ take n q → q ≡ s → s ≡ p ++ more → r ≡ p
taken_back p q r s more n e a b c = a ∙ ap (λ m. take m q) e ∙ ap (λ z. take (length p) z) (b ∙ c) ∙ take_at p more (length p) refl

-- one piece after the other
pub in_turn : (p q r a b : List ℕ) → q ≡ p ++ a → r ≡ q ++ b → r ≡ p ++ (a ++ b)
in_turn p q r a b h k = k ∙ ap (λ z. z ++ b) h ∙ append_assoc p a b

-- the same bytes
pub same_bytes : (done : Bool) (p q b x : List ℕ) → x ≡ b → MatchBool done (q ≡ p ++ b) (q ≡ p) → MatchBool done (q ≡ p ++ x) (q ≡ p)
same_bytes done p q b x e h = subst (λ z. MatchBool done (q ≡ p ++ z) (q ≡ p)) (sym e) h

-- nothing was buffered before
pub sent_after : {a : Option (List ℕ)} {new : Output} {bytes rest : List ℕ} (p q : List ℕ) → q ≡ p → Sent (a, q) new bytes rest
    → Sent (a, p) new bytes rest
sent_after {a} {new} {bytes} {rest} p q e h = subst (λ z. Sent (a, z) new bytes rest) e h

pub part_after : {a : Option (List ℕ)} {new : Output} {bytes : List ℕ} (p q : List ℕ) → q ≡ p → SentPart (a, q) new bytes
    → SentPart (a, p) new bytes
part_after {a} {new} {bytes} p q e h = subst (λ z. SentPart (a, z) new bytes) e h

pub sends_after : {T E : Type 0} (a : Option (List ℕ)) (new : Output) (bytes : List ℕ) (r : Result T E) (p q : List ℕ) → q ≡ p
    → SendsFrom (a, q) new bytes r → SendsFrom (a, p) new bytes r
sends_after a new bytes r p q e h = subst (λ z. SendsFrom (a, z) new bytes r) e h

-- ---- two pieces that are sent

pub first_fails : {old new : Output} (a b : List ℕ) → SentPart old new a → SentPart old new (a ++ b)
first_fails {old} a b h = stops {piece = a} b h (written_none old _ _ refl)

pub second_fails : {old mid new : Output} (a b : List ℕ) → Sent old mid a [] → SentPart mid new b → SentPart old new (a ++ b)
second_fails {old} a b h k = stops_then b (goes {piece = a} b h (written_none old _ _ refl)) k

pub both_sent : {old mid new : Output} (a b : List ℕ) → Sent old mid a [] → Sent mid new b [] → Sent old new (a ++ b) []
both_sent {old} a b h k = written_then b [] (goes {piece = a} b h (written_none old _ _ refl)) k

-- ---- the bytes of a value that holds no others

pub true_bytes : enc (116 ∷ 114 ∷ 117 ∷ 101 ∷ []) ≡ 116 ∷ 114 ∷ 117 ∷ 101 ∷ []
true_bytes = enc_cons 116 (114 ∷ 117 ∷ 101 ∷ []) (omega arith)
    ∙ ap (λ z. 116 ∷ z) (enc_cons 114 (117 ∷ 101 ∷ []) (omega arith) ∙ ap (λ z. 114 ∷ z) (two_bytes 117 101 (omega arith) (omega arith)))

pub false_bytes : enc (102 ∷ 97 ∷ 108 ∷ 115 ∷ 101 ∷ []) ≡ 102 ∷ 97 ∷ 108 ∷ 115 ∷ 101 ∷ []
false_bytes = enc_cons 102 (97 ∷ 108 ∷ 115 ∷ 101 ∷ []) (omega arith)
    ∙ ap (λ z. 102 ∷ z) (enc_cons 97 (108 ∷ 115 ∷ 101 ∷ []) (omega arith)
    ∙ ap (λ z. 97 ∷ z) (enc_cons 108 (115 ∷ 101 ∷ []) (omega arith) ∙ ap (λ z. 108 ∷ z) (two_bytes 115 101 (omega arith) (omega arith))))

same_decimal : (a b : Decimal) → Some a ≡ Some b → a ≡ b
same_decimal a b e = cc

-- the text of a kept number is its bytes
kept_bytes : (s : Store) (d : Decimal) (i : ℕ) → IsKeptAt s d i → enc (decimal_text d) ≡ decimal_text d
kept_bytes s d i h = number_bytes d (subst IsDecimal h.decimal h.here.canonical)

-- a kept number is the one that is meant
pub kept_is : (s : Store) (d : Decimal) (i : ℕ) (x : Canonical) → Some x ≡ slice_get s.kept.items i → IsKeptAt s d i → x.decimal ≡ d
kept_is s d i x g h = same_decimal x.decimal d (ap (option_map (λ c. c.decimal)) g ∙ kept_there s d i h)

pub kept_got : (s : Store) (d : Decimal) (i : ℕ) (x : Canonical) → x ≡ get_or s.kept.items i x → IsKeptAt s d i → x.decimal ≡ d
kept_got s d i x g h =
    ap (λ c. c.decimal) (g ∙ ap (λ j. get_or s.kept.items j x) h.place ∙ ap (λ z. get_or z (length h.front) x) h.whole ∙ at h.front) ∙ h.decimal
  where
    at : (xs : List _) → get_or (xs ++ h.here ∷ h.back) (length xs) x ≡ h.here
    at [] = refl
    at (y ∷ ys) = at ys

module _ (w : Option (List ℕ)) (k : ℕ) (s : Store) (t : Tree) (n : Cell) where
  pub null_is : n ≡ node.Null → Is s t n → enc (text w k t) ≡ 110 ∷ 117 ∷ 108 ∷ 108 ∷ []
  null_is e h = ap (λ z. enc (text w k z)) (seen s t node.Null (subst (Is s t) e h)) ∙ null_bytes

  pub true_is : (b : Bool) → n ≡ node.Boolean b → b ≡ true → Is s t n → enc (text w k t) ≡ 116 ∷ 114 ∷ 117 ∷ 101 ∷ []
  true_is b e f h =
      ap (λ z. enc (text w k z)) (seen s t (node.Boolean true) (subst (Is s t) (e ∙ ap node.Boolean f) h)) ∙ true_bytes

  pub false_is : (b : Bool) → n ≡ node.Boolean b → b ≡ false → Is s t n → enc (text w k t) ≡ 102 ∷ 97 ∷ 108 ∷ 115 ∷ 101 ∷ []
  false_is b e f h =
      ap (λ z. enc (text w k z)) (seen s t (node.Boolean false) (subst (Is s t) (e ∙ ap node.Boolean f) h)) ∙ false_bytes

  pub short_is : (p : Span) (b : List ℕ) → n ≡ node.Short p → b ≡ part_of s.texts p → Is s t n → enc (text w k t) ≡ b
  short_is p b e f h =
      let v = seen s t (node.Short p) (subst (Is s t) e h) in
      ap (λ z. enc (text w k z)) v.1 ∙ number_bytes v.0 v.2.canonical ∙ sym v.2.text ∙ sym f

  pub kept_at : (i : ℕ) → n ≡ node.Kept i → Is s t n → (d : Decimal) × IsKeptAt s d i × (enc (text w k t) ≡ decimal_text d)
  kept_at i e h =
      let v = seen s t (node.Kept i) (subst (Is s t) e h) in
      (v.0, v.2, ap (λ z. enc (text w k z)) v.1 ∙ kept_bytes s v.0 i v.2)

  pub string_is : (p : Span) (b : List ℕ) → n ≡ node.String p → b ≡ part_of s.texts p → Is s t n
      → enc (text w k t) ≡ 34 ∷ [] ++ (escapes b ++ 34 ∷ [])
  string_is p b e f h =
      let v = seen s t (node.String p) (subst (Is s t) e h) in
      let u = subst (IsBytes v.0) (sym f) v.2 in
      ap (λ z. enc (text w k z)) v.1 ∙ ap (λ z. enc (quoted z)) u.1 ∙ quoted_bytes b u.0

  pub array_is : (p : Span) → n ≡ node.Array p → holds_others n ≡ false → Is s t n → enc (text w k t) ≡ 91 ∷ 93 ∷ []
  array_is p e f h = empty_array w s k t p (same_places p.from p.to (subst (λ n. holds_others n ≡ false) e f))
      (seen s t _ (subst (Is s t) e h))

  pub object_is : (p : Span) → n ≡ node.Object p → holds_others n ≡ false → Is s t n → enc (text w k t) ≡ 123 ∷ 125 ∷ []
  object_is p e f h = empty_object w s k t p (same_places p.from p.to (subst (λ n. holds_others n ≡ false) e f))
      (seen s t _ (subst (Is s t) e h))
