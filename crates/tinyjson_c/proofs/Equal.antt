-- Equal normal texts.
use Rattle.std.proofs.Common.{◌≡◌, ◌↔◌, ℕ, Bool, IsTrue, List, Option, None, bytes_eq, sym, ap, ◌∙◌}
use Rattle.std.proofs.lemmas.Slice.Eq.{bytes_eq-Decides}
use Rattle.std.specs.Str.{chars, encode_utf8_all}
use Rattle.tinyjson.proofs.Callers.{encoded_chars, one_compact, text_of_scalars}
use Rattle.tinyjson_grammar.proofs.Callers.{text_sound}
use Rattle.tinyjson_grammar.specs.Grammar.{IsText}
use Rattle.tinyjson_grammar.specs.Text.{compact}
use Rattle.tinyjson_grammar.specs.Tree.{Tree}

-- trees that two texts have are equal if their normal texts are
one_normal : (limit : Option ℕ) (xs ys : List ℕ) (t u : Tree) → IsText limit xs t → IsText limit ys u
    → encode_utf8_all (compact t) ≡ encode_utf8_all (compact u) → t ≡ u
one_normal limit xs ys t u h j e =
    let a = text_sound limit xs t h in
    let b = text_sound limit ys u j in
    one_compact t u a b (sym (encoded_chars (compact t) (text_of_scalars None tt 0 t a))
    ∙ (ap chars e ∙ encoded_chars (compact u) (text_of_scalars None tt 0 u b)))

-- a comparison of the normal texts of two texts is one of their trees
pub compared : (limit : Option ℕ) (xs ys os ps : List ℕ) (t u : Tree) (is_equal : Bool) → IsText limit xs t → IsText limit ys u
    → os ≡ encode_utf8_all (compact t) → ps ≡ encode_utf8_all (compact u) → is_equal ≡ bytes_eq os ps → IsTrue is_equal ↔ (t ≡ u)
compared limit xs ys os ps t u is_equal h j a b e =
    let same = bytes_eq-Decides os ps in (
      λ k. one_normal limit xs ys t u h j (sym a ∙ (same.0 (sym e ∙ k) ∙ b)),
      λ k. e ∙ same.1 (a ∙ (ap (λ v. encode_utf8_all (compact v)) k ∙ sym b)),
    )
