-- The bytes of words, and of containers that are empty.
use Rattle.std.proofs.Common.{◌≡◌, ℕ, Bool, true, false, Option, List, [], ◌∷◌, length, refl, sym, ◌∙◌, ap, subst}
use Rattle.std.proofs.Common.{arith, String, Global}
use Rattle.tinyjson.specs.declared.value.JsonValue.{JsonValue}
use Rattle.tinyjson.specs.declared.value.JsonValue.TheVariants as is
use Rattle.tinyjson.specs.View.{view, items_view, members_view}
use Rattle.tinyjson_grammar.specs.Text.{text, has_no_items, has_no_members}
use Rattle.tinyjson_grammar.specs.Tree.{Items, no_items, item, Members, no_members, member, array, object}
use Rattle.tinyjson_output.specs.Buffer.{Output, SentPart}
use Rattle.tinyjson_output.proofs.Callers.{enc, enc_cons, two_bytes}
use Rattle.tinyjson.proofs.Values.View.{view_Boolean}

true_bytes : enc (116 ∷ 114 ∷ 117 ∷ 101 ∷ []) ≡ 116 ∷ 114 ∷ 117 ∷ 101 ∷ []
true_bytes = enc_cons 116 (114 ∷ 117 ∷ 101 ∷ []) (omega arith)
    ∙ ap (λ z. 116 ∷ z) (enc_cons 114 (117 ∷ 101 ∷ []) (omega arith) ∙ ap (λ z. 114 ∷ z) (two_bytes 117 101 (omega arith) (omega arith)))

false_bytes : enc (102 ∷ 97 ∷ 108 ∷ 115 ∷ 101 ∷ []) ≡ 102 ∷ 97 ∷ 108 ∷ 115 ∷ 101 ∷ []
false_bytes = enc_cons 102 (97 ∷ 108 ∷ 115 ∷ 101 ∷ []) (omega arith)
    ∙ ap (λ z. 102 ∷ z) (enc_cons 97 (108 ∷ 115 ∷ 101 ∷ []) (omega arith)
    ∙ ap (λ z. 97 ∷ z) (enc_cons 108 (115 ∷ 101 ∷ []) (omega arith) ∙ ap (λ z. 108 ∷ z) (two_bytes 115 101 (omega arith) (omega arith))))

pub no_items_in : (vs : List JsonValue) → length vs ≡ 0 → has_no_items (items_view vs) ≡ true
no_items_in [] h = refl
no_items_in (v ∷ vs) h = absurd (omega arith)

module _ (w : Option (List ℕ)) (k : ℕ) where
  pub true_is : (v : JsonValue) (b : Bool) → v ≡ is.Boolean b → b ≡ true → enc (text w k (view v)) ≡ 116 ∷ 114 ∷ 117 ∷ 101 ∷ []
  true_is v b e t = ap (λ z. enc (text w k (view z))) (e ∙ ap is.Boolean t) ∙ ap (λ z. enc (text w k z)) (view_Boolean true) ∙ true_bytes

  pub false_is : (v : JsonValue) (b : Bool) → v ≡ is.Boolean b → b ≡ false → enc (text w k (view v)) ≡ 102 ∷ 97 ∷ 108 ∷ 115 ∷ 101 ∷ []
  false_is v b e t = ap (λ z. enc (text w k (view z))) (e ∙ ap is.Boolean t) ∙ ap (λ z. enc (text w k z)) (view_Boolean false) ∙ false_bytes

  pub empty_array : (ts : Items) → has_no_items ts ≡ true → enc (text w k (array ts)) ≡ 91 ∷ 93 ∷ []
  empty_array no_items e = two_bytes 91 93 (omega arith) (omega arith)
  empty_array (item t ts) e = absurd cc

  empty_members : (ms : Members) → has_no_members ms ≡ true → enc (text w k (object ms)) ≡ 123 ∷ 125 ∷ []
  empty_members no_members e = two_bytes 123 125 (omega arith) (omega arith)
  empty_members (member key t ms) e = absurd cc

  pub empty_object : (es : List (String Global × JsonValue)) → length es ≡ 0 → enc (text w k (object (members_view es))) ≡ 123 ∷ 125 ∷ []
  empty_object [] h = empty_members no_members refl
  empty_object (e ∷ es) h = absurd (omega arith)

-- the same bytes are sent
pub part_same : {old new : Output} {bs cs : List ℕ} → bs ≡ cs → SentPart old new cs → SentPart old new bs
part_same {old} {new} e h = subst (SentPart old new) (sym e) h
