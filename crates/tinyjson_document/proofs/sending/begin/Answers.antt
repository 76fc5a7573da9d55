use Rattle.std.proofs.Common.{[], ◌∷◌, ◌∙◌, ap, arith, reverse, subst, sym}
use Rattle.std.proofs.lemmas.List.{reverse-append}
use Rattle.std.proofs.lemmas.Result.{IfOk-from_err}
use Rattle.tinyjson_document.specs.Comparing.{items_weight, members_weight}
use Rattle.tinyjson_document.proofs.Callers.{node_sound}
use Rattle.tinyjson_document.specs.Document.{tree}
use Rattle.tinyjson_document.specs.Replaying.{Waits, left_weight}
use Rattle.tinyjson_document.specs.declared.sending.Left.TheVariants as left
use Rattle.tinyjson_document.proofs.Replaying.{array_weight, completed, members_opened, object_weight, some_weight, weight_last}
use Rattle.tinyjson_document.proofs.Replaying.{ok_always, ok_map}
use Rattle.tinyjson_document.proofs.sending.begin.Goals as goal

pub returns-in_ok-push-in-Array-clause-less : goal.returns-in_ok-push-in-Array-clause-less
returns-in_ok-push-in-Array-clause-less g c =
    let t = tree c.args.node in
    let pushed = ap left_weight c.in_ok-push-in-Array.ensures.items ∙ weight_last c.args.stack.now.items (left.Items c.items.result) in
    omega (arith, pushed, ap items_weight c.items.ensures, array_weight t (sym c.kind.ensures ∙ c.in-Array.is))

pub returns-in_ok-push-in-Object-clause-waits : goal.returns-in_ok-push-in-Object-clause-waits
returns-in_ok-push-in-Object-clause-waits g c = λ start os fs t h n.
    let stack = c.args.stack.now.items in
    let E = g.E.Events in
    let last = ap reverse c.in_ok-push-in-Object.ensures.items ∙ reverse-append stack (left.Members c.members.result ∷ []) in
    subst (λ rs. Waits (E.holds start) (E.is start) os t rs c.open_object.new.self) (sym last)
    (members_opened (E.holds start) (E.is start) os t (reverse stack) fs (tree c.args.node) c.open_object.new.self n c.members.result
    c.members.ensures (sym c.kind.ensures ∙ c.in-Object.is) (node_sound c.args.node) (c.in_ok-open_object-in-Object.ensures start fs h))

pub returns-in_ok-push-in-Object-clause-less : goal.returns-in_ok-push-in-Object-clause-less
returns-in_ok-push-in-Object-clause-less g c =
    let t = tree c.args.node in
    let pushed = ap left_weight c.in_ok-push-in-Object.ensures.items ∙ weight_last c.args.stack.now.items (left.Members c.members.result) in
    omega (arith, pushed, ap members_weight c.members.ensures, object_weight t (sym c.kind.ensures ∙ c.in-Object.is))

pub returns-in_default : goal.returns-in_default
returns-in_default g c =
    let t = tree c.args.node in
    record {
      waits = λ start os fs u h n. ok_map c.put_scalar.result
          (λ p. completed (g.E.Events.holds start) (g.E.Events.is start) os u
          (reverse c.args.stack.now.items) fs t c.put_scalar.new.events p n)
          (c.put_scalar.ensures start fs h);
      less = let some = some_weight t in ok_always c.put_scalar.result (omega (arith, some));
    }

pub returns-in_err-open_array-in-Array-clause-waits : goal.returns-in_err-open_array-in-Array-clause-waits
returns-in_err-open_array-in-Array-clause-waits g c = λ start os fs t h n. IfOk-from_err c.from_residual.result _ c.from_residual.ensures.0

pub returns-in_err-push-in-Array-clause-waits : goal.returns-in_err-push-in-Array-clause-waits
returns-in_err-push-in-Array-clause-waits g c = λ start os fs t h n. IfOk-from_err c.from_residual-in_err-push-in-Array.result _ c.from_residual-in_err-push-in-Array.ensures.0

pub returns-in_err-open_object-in-Object-clause-waits : goal.returns-in_err-open_object-in-Object-clause-waits
returns-in_err-open_object-in-Object-clause-waits g c = λ start os fs t h n. IfOk-from_err c.from_residual-in_err-open_object-in-Object.result _ c.from_residual-in_err-open_object-in-Object.ensures.0

pub returns-in_err-push-in-Object-clause-waits : goal.returns-in_err-push-in-Object-clause-waits
returns-in_err-push-in-Object-clause-waits g c = λ start os fs t h n. IfOk-from_err c.from_residual-in_err-push-in-Object.result _ c.from_residual-in_err-push-in-Object.ensures.0
