use Rattle.std.proofs.Common.{sym, subst}
use Rattle.tinyjson_document.specs.Document.{GivesItem}
use Rattle.tinyjson_document.specs.Known.{KnownItems}
use Rattle.tinyjson_document.proofs.Places.{item_joins, next_item, no_item_left}
use Rattle.tinyjson_document.proofs.iterators.ItemsIterator.next.Goals as goal

pub returns-in_err-cell-clause-steps : goal.returns-in_err-cell-clause-steps
returns-in_err-cell-clause-steps c =
    let i = c.args.self.now in
    let none = no_item_left i.document.now.store i.rest.now i.known c.in_err-cell.ensures.cases in
    subst (λ r. GivesItem i r i) (sym c.from_residual.ensures) (none, none)

pub invariant_of-self : goal.invariant_of-self
invariant_of-self c =
    let i = c.args.self.now in
    let s = i.document.now.store in
    record { known = (next_item s _ _ (subst (KnownItems s) c.in_ok-cell.ensures.cases.0 i.known)).later }

pub invariant_of-result : goal.invariant_of-result
invariant_of-result c =
    let i = c.args.self.now in
    let s = i.document.now.store in
    record { known = (next_item s _ _ (subst (KnownItems s) c.in_ok-cell.ensures.cases.0 i.known)).here }

pub returns-clause-steps : goal.returns-clause-steps
returns-clause-steps c =
    let i = c.args.self.now in
    item_joins i.document.now.store i.rest.now _ _ c.in_ok-cell.ensures.cases.0 i.known c.result-2-1.given.0 c.self-1.given.0
