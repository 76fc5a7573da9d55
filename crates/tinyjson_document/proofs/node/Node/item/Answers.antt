use Rattle.std.proofs.Common.{◌≡◌, ◌∙◌, Some, None, slice_get, sym, ap, option_map, arith}
use Rattle.std.proofs.lemmas.Grind.{common_steps}
use Rattle.std.proofs.lemmas.Option.{slice_get_cases}
use Rattle.tinyjson_document.specs.Document.{tree}
use Rattle.tinyjson_document.specs.Known.{known_one}
use Rattle.tinyjson_cells.specs.Order.{part}
use Rattle.tinyjson_document.proofs.Places.{cells_at, known_item, known_no_item}
use Rattle.tinyjson_document.proofs.node.Node.item.Goals as goal

pub returns-in_err-cell : goal.returns-in_err-cell
returns-in_err-cell c =
    let n = c.args.self.now in
    let s = n.document.now.store in
    let all : cells_at s n.cell ≡ c.part.result.now = ap (cells_at s) c.in-Array.is ∙ sym (c.part.ensures
    ∙ ap (λ z. part z c.in-Array.span) c.deref.ensures.value) in
    let none : slice_get c.part.result.now c.args.index ≡ None =
    grind (arith, common_steps, slice_get_cases c.part.result.now c.args.index) in
    ap (option_map tree) c.from_residual.ensures
    ∙ sym (known_no_item s n.cell n.known c.args.index (ap (λ z. slice_get z c.args.index) all ∙ none))

pub invariant_of-result : goal.invariant_of-result
invariant_of-result c =
    let n = c.args.self.now in
    let s = n.document.now.store in
    let all : cells_at s n.cell ≡ c.part.result.now = ap (cells_at s) c.in-Array.is ∙ sym (c.part.ensures
    ∙ ap (λ z. part z c.in-Array.span) c.deref.ensures.value) in
    let some : slice_get c.part.result.now c.args.index ≡ Some c.in_ok-cell.cell.now
    = grind (arith, common_steps, slice_get_cases c.part.result.now c.args.index) in
    record { known = (known_item s n.cell n.known c.args.index _ (ap (λ z. slice_get z c.args.index) all ∙ some)).here }

pub returns : goal.returns
returns c =
    let n = c.args.self.now in
    let s = n.document.now.store in
    let all : cells_at s n.cell ≡ c.part.result.now = ap (cells_at s) c.in-Array.is ∙ sym (c.part.ensures
    ∙ ap (λ z. part z c.in-Array.span) c.deref.ensures.value) in
    let some : slice_get c.part.result.now c.args.index ≡ Some c.in_ok-cell.cell.now
    = grind (arith, common_steps, slice_get_cases c.part.result.now c.args.index) in
    let found = known_item s n.cell n.known c.args.index _ (ap (λ z. slice_get z c.args.index) all ∙ some) in
    ap Some (known_one s c.in_ok-cell.cell.now c.result-2-1.given.0 found.here) ∙ sym found.there
