use Rattle.std.proofs.Common.{◌≡◌, ◌∙◌, ap, sym, subst}
use Rattle.std.specs.Prelude.{IfOk}
use Rattle.tinyjson.specs.View.{members_listed}
use Rattle.tinyjson_document.specs.Parts.{members_in}
use Rattle.tinyjson_view.proofs.Shapes.{listed_sorted, map_sorted}
use Rattle.tinyjson_view.specs.Views.{tree_of, members_of}
use Rattle.tinyjson_view.proofs.view.ValueView.members.Goals as goal

pub returns-in-InDocument-clause-sorted : goal.returns-in-InDocument-clause-sorted
returns-in-InDocument-clause-sorted c =
    listed_sorted c.named_nodes.result c.args.self.now (subst (λ ms. IfOk c.named_nodes.result (λ l. members_of l.items ≡ ms))
    (c.members.ensures ∙ ap (λ v. members_in (tree_of v)) (sym c.in-InDocument.is)) c.named_nodes.ensures)

pub returns-in_ok-sorted-in-InValue-Object-clause-sorted : goal.returns-in_ok-sorted-in-InValue-Object-clause-sorted
returns-in_ok-sorted-in-InValue-Object-clause-sorted c =
    map_sorted c.named_values.result c.in-InValue-Object.members (subst (λ ms. IfOk c.named_values.result (λ l. members_of l.items ≡ ms))
    (ap members_listed c.as_slice.ensures.value ∙ c.in_ok-sorted-in-InValue-Object.ensures) c.named_values.ensures)
