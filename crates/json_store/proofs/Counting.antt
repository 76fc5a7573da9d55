-- Counts after one was set.
use Rattle.std.proofs.Common.{◌≡◌, ℕ, Bool, true, false, cond, bytes_eq, Option, Some, None, String, Global, string_bytes}
use Rattle.std.proofs.Common.{refl, sym, ap, ◌∙◌}
use Rattle.std.proofs.lemmas.Bool.Decides.{same_from_decides}
use Rattle.std.proofs.lemmas.Map.Text.{hash_map_updates_text}
use Rattle.std.proofs.lemmas.Slice.Eq.{bytes_eq-Decides}
use Rattle.std.proofs.lemmas.Str.{encodes-chars}
use Rattle.std.specs.HashMap.{HashMap, get_by_text, Updates}
use Rattle.std.specs.Option.{unwrap_or}
use Rattle.std.specs.Str.{chars, encode_utf8_all}
use Rattle.std.specs.String.{string_eq}
use Rattle.tinyjson.proofs.Callers.{IsUtf8-string_bytes, encoded_chars, one_compact, text_of_scalars}
use Rattle.tinyjson.specs.Equality.{tree_eq, tree_eq_Decides}
use Rattle.tinyjson.specs.Soundness.{IsTree}
use Rattle.tinyjson.specs.Text.{compact}
use Rattle.tinyjson.specs.Tree.{Tree}
use Rattle.json_store.specs.Store.{key_of}

-- a string with the characters of the compact text has its bytes
pub bytes_key : (s : String Global) (t : Tree) → chars (string_bytes s) ≡ compact t → string_bytes s ≡ key_of t
bytes_key s t h = sym (encodes-chars (string_bytes s) (IsUtf8-string_bytes s)) ∙ ap encode_utf8_all h

chars_key : (t : Tree) → IsTree t → chars (key_of t) ≡ compact t
chars_key t h = encoded_chars (compact t) (text_of_scalars None tt 0 t h)

-- the bytes of two trees of values are equal exactly if the trees are
same_key : (t u : Tree) → IsTree t → IsTree u → bytes_eq (key_of t) (key_of u) ≡ tree_eq t u
same_key t u h j =
    let bytes = bytes_eq-Decides (key_of t) (key_of u) in
    sym (same_from_decides _ _ (tree_eq_Decides t u) (
      λ e. one_compact t u h j (sym (chars_key t h) ∙ (ap chars (bytes.0 e) ∙ chars_key u j)),
      λ e. bytes.1 (ap key_of e),
    ))

pick : (b : Bool) (k : ℕ) (o : Option ℕ) → unwrap_or (cond b (Some k) o) 0 ≡ cond b k (unwrap_or o 0)
pick true k o = refl
pick false k o = refl

-- the count k was set at the key of t
pub counted : {S : Type 0} (m n : HashMap (String Global) ℕ S) (key : String Global) (t u : Tree) (k : ℕ) → IsTree t → IsTree u
    → string_bytes key ≡ key_of t → Updates string_eq m n key (Some k)
    → unwrap_or (get_by_text n (key_of u)) 0 ≡ cond (tree_eq t u) k (unwrap_or (get_by_text m (key_of u)) 0)
counted m n key t u k h j is upd =
    ap (λ o. unwrap_or o 0) (hash_map_updates_text (string_bytes key) m n (Some k) upd (key_of u))
    ∙ (pick (bytes_eq (string_bytes key) (key_of u)) k (get_by_text m (key_of u))
    ∙ ap (λ b. cond b k (unwrap_or (get_by_text m (key_of u)) 0)) (ap (λ bs. bytes_eq bs (key_of u)) is ∙ same_key t u h j))
