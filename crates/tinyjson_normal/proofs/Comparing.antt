-- Whether a text is the compact text of its tree.
use Rattle.std.proofs.Common.{◌≡◌, ℕ, Bool, false, List, ◌↔◌, IsTrue, bytes_eq, None, Result, Ok, Err, sym, ◌∙◌, ap}
use Rattle.std.specs.Prelude.{IfOk}
use Rattle.std.proofs.lemmas.Bool.{false≢true}
use Rattle.std.proofs.lemmas.Slice.Eq.{bytes_eq-Decides}
use Rattle.std.proofs.lemmas.Str.{encodes-chars}
use Rattle.std.specs.Str.{IsUtf8, chars, encode_utf8_all}
use Rattle.tinyjson.specs.Grammar.{IsText, IsAccepted}
use Rattle.tinyjson.specs.Text.{compact}
use Rattle.tinyjson.specs.Tree.{Tree}
use Rattle.tinyjson_grammar.proofs.Callers.Laws.{only_tree}
use Rattle.tinyjson_normal.specs.Normal.{IsNormal}

-- texts with the same characters have the same bytes
same_bytes : (bs cs : List ℕ) → IsUtf8 bs → IsUtf8 cs → chars bs ≡ chars cs → bs ≡ cs
same_bytes bs cs u v e = sym (encodes-chars bs u) ∙ ap encode_utf8_all e ∙ encodes-chars cs v

-- a comparison of bytes with those of a text
pub compared : (b : Bool) (bs cs xs : List ℕ) → IsUtf8 bs → IsUtf8 cs → b ≡ bytes_eq bs cs → chars bs ≡ xs
    → IsTrue b ↔ (chars cs ≡ xs)
compared b bs cs xs u v e h =
    let d = bytes_eq-Decides bs cs in
    (λ k. ap chars (sym (d.0 (sym e ∙ k))) ∙ h, λ k. e ∙ d.1 (same_bytes bs cs u v (h ∙ sym k)))

of_tree : (b : Bool) (xs : List ℕ) (t : Tree) → IsText None xs t → IsTrue b ↔ (xs ≡ compact t) → IsTrue b ↔ IsNormal xs
of_tree b xs t h k = (λ e. (t, h, k.0 e), λ n. k.1 (n.2 ∙ ap compact (only_tree None xs n.0 t n.1 h)))

-- the text has this tree
pub of_written : {E : Type 0} (r : Result Bool E) (xs : List ℕ) (t : Tree) → IsText None xs t → IfOk r (λ b. IsTrue b ↔ (xs ≡ compact t))
    → IfOk r (λ b. IsTrue b ↔ IsNormal xs)
of_written (Ok b) xs t h k = of_tree b xs t h k
of_written (Err e) xs t h k = tt

-- the text has none
pub of_none : (xs : List ℕ) → ¬ IsAccepted None xs → IsTrue false ↔ IsNormal xs
of_none xs h = (λ e. absurd (false≢true e), λ n. absurd (h (n.0, n.1)))
