-- Copies under way: what they stand for, and how much of them is left.
use Rattle.std.proofs.Common.{◌≡◌, ◌+◌, List, [], ◌∷◌, ◌++◌, arith, rules, refl, sym, ap, ◌∙◌, subst, append_assoc}
use Rattle.std.proofs.lemmas.List.{append-nil}
use Rattle.std.specs.List.{IsDistinct}
use Rattle.std.specs.Map.{keys_of}
use Rattle.std.specs.String.{string_eq}
use Rattle.tinyjson.proofs.Values.View.{Entry, members_view_last}
use Rattle.tinyjson.specs.Access.{JsonMap}
use Rattle.tinyjson.specs.private.Copy.{put_all, filled, filled_all, weight, entries_weight, partial_weight, stack_weight}
use Rattle.tinyjson_grammar.specs.Tree.{Tree, no_members}
use Rattle.tinyjson.specs.View.{members_view}
use Rattle.tinyjson.specs.declared.value.copy.Partial.{Partial}
use Rattle.tinyjson.specs.declared.value.JsonValue.{the_lemmas}
use Rattle.tinyjson.specs.declared.value.JsonValue.TheVariants as is

-- one more container, inside the last
pub filled_all_last : (ps : List Partial) (p : Partial) (t : Tree) → filled_all (ps ++ p ∷ []) t ≡ filled_all ps (filled p t)
filled_all_last [] p t = refl
filled_all_last (q ∷ ps) p t = ap (filled q) (filled_all_last ps p t)

pub stack_weight_last : (ps : List Partial) (p : Partial) → stack_weight (ps ++ p ∷ []) ≡ partial_weight p + stack_weight ps
stack_weight_last [] p = refl
stack_weight_last (q ∷ ps) p = omega (arith, stack_weight_last ps p)

pub weight_Object : (m : JsonMap) → weight (is.Object m) ≡ 2 + entries_weight m.entries
weight_Object m = search (rules, the_lemmas)

-- entries whose keys are distinct, put after others
pub put_all_append : (done more : List Entry) → IsDistinct string_eq (keys_of (done ++ more))
    → put_all more (members_view done) ≡ members_view (done ++ more)
put_all_append done [] h = ap members_view (sym (append-nil done))
put_all_append done (e ∷ more) h = ap (put_all more) (sym (members_view_last done e more h)) ∙ (put_all_append (done ++ e ∷ []) more
    (subst (λ es. IsDistinct string_eq (keys_of es)) (sym (append_assoc done (e ∷ []) more)) h)
    ∙ ap members_view (append_assoc done (e ∷ []) more))

pub put_all_none : (es : List Entry) → IsDistinct string_eq (keys_of es) → put_all es no_members ≡ members_view es
put_all_none es h = put_all_append [] es h
