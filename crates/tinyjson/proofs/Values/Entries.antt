-- A map's entries and the members that they stand for.
use Rattle.std.proofs.Common.{◌≡◌, ℕ, Bool, true, false, List, [], ◌∷◌, Some, None, cond, bytes_eq, ◌⊎◌, inl, inr, String, Global}
use Rattle.std.proofs.Common.{string_bytes, refl, sym, ap, ◌∙◌, subst}
use Rattle.std.proofs.lemmas.Bool.Decides.{same_from_decides}
use Rattle.std.proofs.lemmas.Slice.Eq.{bytes_eq-Decides}
use Rattle.std.proofs.lemmas.Str.{encodes-chars, IsUtf8-string_bytes}
use Rattle.std.specs.Map.{lookup}
use Rattle.std.specs.Str.{encode_utf8_all, chars}
use Rattle.std.specs.String.{string_eq}
use Rattle.tinyjson_grammar.proofs.Callers.{find_put, sorted_put, members_from_find}
use Rattle.tinyjson_grammar.specs.Tree.{Tree, put, find}
use Rattle.tinyjson_grammar.specs.Soundness.{IsSorted}
use Rattle.tinyjson.specs.View.{text, members_of}

abbrev pub Seen : Type 0
Seen = String Global × Tree

-- texts are equal where their bytes are
text_bytes : (s : String Global) → encode_utf8_all (text s) ≡ string_bytes s
text_bytes s = encodes-chars (string_bytes s) (IsUtf8-string_bytes s)

pub same_text : (s t : String Global) → text s ≡ text t → string_bytes s ≡ string_bytes t
same_text s t h = sym (text_bytes s) ∙ (ap encode_utf8_all h ∙ text_bytes t)

pub text_eq : (s t : String Global) → bytes_eq (text s) (text t) ≡ string_eq s t
text_eq s t =
    let both = bytes_eq-Decides (text s) (text t) in
    let bytes = bytes_eq-Decides (string_bytes s) (string_bytes t) in
    same_from_decides _ _ both (λ e. ap chars (bytes.0 e), λ e. bytes.1 (same_text s t e))

pub members_of_sorted : (es : List Seen) → IsSorted (members_of es)
members_of_sorted [] = tt
members_of_sorted (e ∷ es) = sorted_put (text e.0) e.1 (members_of es) (members_of_sorted es)

-- what is found among the members is what a look-up finds
pub find_members_of : (k : String Global) (es : List Seen) → find (text k) (members_of es) ≡ lookup (string_eq k) es
find_members_of k [] = refl
find_members_of k (e ∷ es) =
    find_put (text k) (text e.0) e.1 (members_of es) ∙ λ i. cond (text_eq k e.0 i) (Some e.1) (find_members_of k es i)

-- a key is found only if it is a text
pub None_or_text : (q : List ℕ) (es : List Seen) → (find q (members_of es) ≡ None) ⊎ ((k : String Global) × (q ≡ text k))
None_or_text q [] = inl refl
None_or_text q (e ∷ es) = by (bytes_eq q (text e.0)) refl (None_or_text q es)
  where
    by : (b : Bool) → bytes_eq q (text e.0) ≡ b → (find q (members_of es) ≡ None) ⊎ ((k : String Global) × (q ≡ text k))
        → (find q (put (text e.0) e.1 (members_of es)) ≡ None) ⊎ ((k : String Global) × (q ≡ text k))
    by true h r = inr (e.0, (bytes_eq-Decides q (text e.0)).0 h)
    by false h (inl n) = inl (find_put q (text e.0) e.1 (members_of es) ∙ (ap (λ b. cond b (Some e.1) (find q (members_of es))) h ∙ n))
    by false h (inr t) = inr t

abbrev pub SameLookups : List Seen → List Seen → Type 0
SameLookups es fs = (k : String Global) → lookup (string_eq k) es ≡ lookup (string_eq k) fs

-- entries with the same look-ups are the same members, in whatever order they stand
pub members_from_lookups : (es fs : List Seen) → SameLookups es fs → members_of es ≡ members_of fs
members_from_lookups es fs h = members_from_find (members_of es) (members_of fs) (members_of_sorted es) (members_of_sorted fs)
    (λ q. by q (None_or_text q es) (None_or_text q fs))
  where
    at : (q : List ℕ) → (k : String Global) × (q ≡ text k) → find q (members_of es) ≡ find q (members_of fs)
    at q t = subst (λ x. find x (members_of es) ≡ find x (members_of fs)) (sym t.1)
        (find_members_of t.0 es ∙ (h t.0 ∙ sym (find_members_of t.0 fs)))

    by : (q : List ℕ) → (find q (members_of es) ≡ None) ⊎ ((k : String Global) × (q ≡ text k))
        → (find q (members_of fs) ≡ None) ⊎ ((k : String Global) × (q ≡ text k)) → find q (members_of es) ≡ find q (members_of fs)
    by q (inr t) r = at q t
    by q (inl n) (inr t) = at q t
    by q (inl n) (inl m) = n ∙ sym m
