-- Laws over the calls.
use Rattle.std.proofs.Common.{◌≡◌, ◌↔◌, ℕ, ◌++◌, List, Option, Some, None, Result, Ok, Err, String, Global, string_bytes, refl, sym, ◌∙◌}
use Rattle.std.proofs.Common.{subst}
use Rattle.std.specs.Prelude.{IsTrue, IfSome}
use Rattle.std.specs.Str.{chars, bytes_eq}
use Rattle.std.specs.String.{string_eq}
use Rattle.std.proofs.lemmas.Slice.Eq.{bytes_eq-Decides}
use Rattle.tinyjson.specs.Access.Laws.{number_of_put, boolean_of_put, string_of_put, array_of_put, object_of_put}
use Rattle.tinyjson.specs.Access.{number_part, boolean_part, string_part, null_part, array_part, object_part}
use Rattle.tinyjson.specs.Convert.{GivesPart}
use Rattle.tinyjson_grammar.specs.Grammar.{IsText, IsAccepted}
use Rattle.tinyjson_grammar.specs.Refusal.{RefusalSays}
use Rattle.tinyjson_grammar.specs.Syntax.{AreWhite}
use Rattle.tinyjson_grammar.specs.Text.{text}
use Rattle.tinyjson.specs.View.{view}
use Rattle.tinyjson_grammar.specs.declared.error.JsonParseErrorKind.{JsonParseErrorKind}
use Rattle.tinyjson_grammar.specs.declared.error.JsonParseErrorKind.TheVariants as error
use Rattle.tinyjson_grammar.specs.declared.kind.JsonKind.{JsonKind}
use Rattle.tinyjson_grammar.specs.declared.kind.JsonKind.TheVariants as kind
use Rattle.tinyjson.specs.declared.value.JsonValue as made
use Rattle.tinyjson.specs.declared.value.JsonValue.{JsonValue}
use Rattle.tinyjson.specs.declared.value.convert.UnexpectedValue.{UnexpectedValue}
use Rattle.tinyjson.proofs.Callers.{text_eq, view_IsTree, view_Null, null_from_tree}
use Rattle.tinyjson_laws.proofs.ReadingLaws.{one_tree}
use Rattle.tinyjson_laws.proofs.WritingLaws.{compact_reads_back, indented_reads_back, same_compact}
use Rattle.tinyjson_laws.specs.Calls.{TextAnswered, ReadsBack, EqualStrings, ConvertedBack}

-- ---- texts

-- a text is refused only where memory ran out
only_memory : (limit : Option ℕ) (k : JsonParseErrorKind) (used rest : List ℕ) → IsAccepted limit (used ++ rest)
    → RefusalSays limit k used rest → k ≡ error.OutOfMemory
only_memory limit error.OutOfMemory used rest a r = refl
only_memory limit k used rest a r = absurd (r.refused a)

pub text_answered : TextAnswered
text_answered limit xs t (Ok v) h p = one_tree limit xs (view v) t p.answer.1 h
text_answered limit xs t (Err e) h p = only_memory limit e.kind p.consumed p.rest (subst (IsAccepted limit) p.whole (t, h)) p.answer.1

-- ---- written texts

written_of : (v : JsonValue) (indent : Option (List ℕ)) → IfSome indent AreWhite → IsText None (text indent 0 (view v)) (view v)
written_of v None white = compact_reads_back (view v) (view_IsTree v)
written_of v (Some i) white = indented_reads_back (view v) i white (view_IsTree v)

pub reads_back : ReadsBack
reads_back v indent xs r white e p = text_answered None xs (view v) r
    (subst (λ ys. IsText None ys (view v)) (sym e) (written_of v indent white)) p

-- whether two strings are equal says whether their characters are
texts_same : (s t : String Global) (xs ys : List ℕ) → chars (string_bytes s) ≡ xs → chars (string_bytes t) ≡ ys → {P : Type 0}
    → (xs ≡ ys) ↔ P → IsTrue (string_eq s t) ↔ P
texts_same s t xs ys e f w =
    let k : string_eq s t ≡ bytes_eq xs ys = sym (text_eq s t) ∙ (λ i. bytes_eq (e i) (f i)) in
    let d = bytes_eq-Decides xs ys in
    (λ x. w.0 (d.0 (subst IsTrue k x)), λ x. subst IsTrue (sym k) (d.1 (w.1 x)))

pub equal_strings : EqualStrings
equal_strings v w (Ok s) (Ok t) e f = texts_same s t _ _ e f (same_compact (view v) (view w) (view_IsTree v) (view_IsTree w))
equal_strings v w (Ok s) (Err b) e f = tt
equal_strings v w (Err a) q e f = tt

-- ---- conversions

back : {A : Type 0} (part : JsonValue → Option A) (k : JsonKind) (v : JsonValue) (x : A) → part v ≡ Some x → (r : Result A UnexpectedValue)
    → GivesPart part k v r → r ≡ Ok x
back part k v x h (Ok y) g = let e : Some y ≡ Some x = sym g ∙ h in cc
back part k v x h (Err f) g = let e : None ≡ Some x = sym g.0 ∙ h in cc

null_of_put : null_part made.Null ≡ Some tt
null_of_put = null_from_tree made.Null view_Null

pub converted_back : ConvertedBack
converted_back = (
  λ x r g. back number_part kind.Number (made.Number x) x (number_of_put x) r g,
  λ x r g. back boolean_part kind.Boolean (made.Boolean x) x (boolean_of_put x) r g,
  λ x r g. back string_part kind.String (made.String x) x (string_of_put x) r g,
  λ r g. back null_part kind.Null made.Null tt null_of_put r g,
  λ x r g. back array_part kind.Array (made.Array x) x (array_of_put x) r g,
  λ x r g. back object_part kind.Object (made.Object x) x (object_of_put x) r g,
)
