-- The keyword that a place names, from its last token.
use Rattle.std.proofs.Common.{◌≡◌, ◌||◌, ℕ, Bool, true, false, bytes_eq, codes, List, [], ◌∷◌, ◌++◌, map, String, Global}
use Rattle.std.proofs.Common.{string_bytes, encode_utf8_all, refl, sym, ap, ◌∙◌}
use Rattle.tinyjson.specs.View.{text}
use Rattle.tinyjson_pointer.specs.Change.{last_of}
use Rattle.tinyjson_pointer.specs.Siblings.{child_name}
use Rattle.tinyjson_schema_keywords.proofs.Callers.{text_bytes}
use Rattle.tinyjson_schema_report.specs.Located.{forbids_member}

last_is : (j : List ℕ) (fs : List (String Global)) (x : String Global) → last_of j (map text (fs ++ x ∷ [])) ≡ text x
last_is j [] x = refl
last_is j (f ∷ fs) x = last_is (text f) fs x

child_is : (fs : List (String Global)) (x : String Global) → child_name (map text (fs ++ x ∷ [])) ≡ text x
child_is [] x = refl
child_is (f ∷ fs) x = last_is (text f) fs x

pub name_is : (xs fs : List (String Global)) (x : String Global) (ks : List (List ℕ)) → xs ≡ fs ++ x ∷ [] → map text xs ≡ ks
    → encode_utf8_all (child_name ks) ≡ encode_utf8_all (text x)
name_is xs fs x ks is tokens =
    ap encode_utf8_all (ap child_name (sym tokens) ∙ (ap (λ ys. child_name (map text ys)) is ∙ child_is fs x))

module _ (ks : List (List ℕ)) (xs fs : List (String Global)) (x : String Global) (first second : List ℕ) (a b : Bool)
    (is : xs ≡ fs ++ x ∷ []) (tokens : map text xs ≡ ks) where
  same : (bs name : List ℕ) (o : Bool) → bs ≡ string_bytes x → o ≡ bytes_eq bs name
      → bytes_eq (encode_utf8_all (child_name ks)) name ≡ o
  same bs name o e f =
      ap (λ z. bytes_eq z name) (name_is xs fs x ks is tokens ∙ sym (text_bytes x bs e)) ∙ sym f

  pub named_first : first ≡ string_bytes x → a ≡ bytes_eq first (codes "additionalProperties") → a ≡ true → a ≡ forbids_member ks
  named_first e f t =
      t ∙ sym (ap (λ z. z || bytes_eq (encode_utf8_all (child_name ks)) (codes "unevaluatedProperties"))
      (same first (codes "additionalProperties") a e f ∙ t))

  pub named_second : first ≡ string_bytes x → second ≡ string_bytes x → a ≡ bytes_eq first (codes "additionalProperties") → a ≡ false
      → b ≡ bytes_eq second (codes "unevaluatedProperties") → b ≡ forbids_member ks
  named_second e d f t g =
      sym (ap (λ z. z || bytes_eq (encode_utf8_all (child_name ks)) (codes "unevaluatedProperties"))
      (same first (codes "additionalProperties") a e f ∙ t) ∙ same second (codes "unevaluatedProperties") b d g)
