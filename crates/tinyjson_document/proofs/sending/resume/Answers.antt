use Rattle.std.proofs.Common.{◌∷◌, ◌∙◌, ap, arith, reverse, subst}
use Rattle.std.proofs.lemmas.Result.{IfOk-from_err}
use Rattle.tinyjson_document.specs.Comparing.{items_weight, members_weight}
use Rattle.tinyjson_document.specs.Replaying.{Waits, left_weight}
use Rattle.tinyjson_document.specs.declared.sending.Left.TheVariants as left
use Rattle.tinyjson_document.proofs.Replaying.{items_closed, members_closed, weight_last}
use Rattle.tinyjson_document.proofs.Replaying.{ok_map}
use Rattle.tinyjson_document.proofs.sending.resume.Goals as goal

pub returns-in_default-clause-waits : goal.returns-in_default-clause-waits
returns-in_default-clause-waits g c = λ start os t w.
    let E = g.E.Events in
    let rs = reverse c.args.stack.now.items in
    let v = subst (λ r. Waits (E.holds start) (E.is start) os t (r ∷ rs) c.args.events.now) c.in-Items.is w in
    ok_map c.close_array.result (λ p.
    items_closed (E.holds start) (E.is start) os t rs c.in-Items.items c.in_default.ensures.steps.0 c.args.events.now
    c.close_array.new.self v p) (c.close_array.ensures start v.0 v.1 v.2)

pub returns-in_default-next-clause-waits : goal.returns-in_default-next-clause-waits
returns-in_default-next-clause-waits g c = λ start os t w.
    let E = g.E.Events in
    let rs = reverse c.args.stack.now.items in
    let v = subst (λ r. Waits (E.holds start) (E.is start) os t (r ∷ rs) c.args.events.now) c.in-Members.is w in
    ok_map c.close_object.result (λ p.
    members_closed (E.holds start) (E.is start) os t rs c.in-Members.members c.in_default-next.ensures.steps.0 c.args.events.now
    c.close_object.new.self v p) (c.close_object.ensures start v.0 v.1 v.2)

pub returns-in_ok-push-in-Items-clause-less : goal.returns-in_ok-push-in-Items-clause-less
returns-in_ok-push-in-Items-clause-less g c =
    let stack = c.args.stack.now.items in
    let pushed = ap left_weight c.in_ok-push-in-Items.ensures.items ∙ weight_last stack (left.Items c.next.new.self) in
    let rest = ap (λ r. left_weight (r ∷ stack)) c.in-Items.is in
    ok_map c.begin.result (λ h. omega (arith, h, pushed, rest, ap items_weight c.in-Some.ensures.steps)) c.begin.ensures.less

pub returns-in_ok-push-in-Members-clause-less : goal.returns-in_ok-push-in-Members-clause-less
returns-in_ok-push-in-Members-clause-less g c =
    let stack = c.args.stack.now.items in
    let pushed = ap left_weight c.in_ok-push-in-Members.ensures.items ∙ weight_last stack (left.Members c.next-in-Members.new.self) in
    let rest = ap (λ r. left_weight (r ∷ stack)) c.in-Members.is in
    ok_map c.begin-in-Members.result (λ h. omega (arith, h, pushed, rest, ap members_weight c.in-Some-next.ensures.steps))
    c.begin-in-Members.ensures.less

pub returns-in_err-push-in-Items-clause-waits : goal.returns-in_err-push-in-Items-clause-waits
returns-in_err-push-in-Items-clause-waits g c = λ start os t h. IfOk-from_err c.from_residual.result _ c.from_residual.ensures.0

pub returns-in_err-key-in-Members-clause-waits : goal.returns-in_err-key-in-Members-clause-waits
returns-in_err-key-in-Members-clause-waits g c = λ start os t h. IfOk-from_err c.from_residual-in_err-key-in-Members.result _ c.from_residual-in_err-key-in-Members.ensures.0

pub returns-in_err-push-in-Members-clause-waits : goal.returns-in_err-push-in-Members-clause-waits
returns-in_err-push-in-Members-clause-waits g c = λ start os t h. IfOk-from_err c.from_residual-in_err-push-in-Members.result _ c.from_residual-in_err-push-in-Members.ensures.0
