use Rattle.std.proofs.Common.{◌∙◌, ap, subst}
use Rattle.tinyjson_cells.specs.Cell.{Is}
use Rattle.tinyjson_cells.specs.Order.{part}
use Rattle.tinyjson_document.proofs.Writing.{seen, array_rest, object_rest}
use Rattle.tinyjson_document.proofs.walk.rest_of.Goals as goal

pub returns-in-Array-clause-rest : goal.returns-in-Array-clause-rest
returns-in-Array-clause-rest c = λ w t k h.
    let s = c.args.store.now in
    array_rest w s c.in-Array.span c.part.result.now k t (c.part.ensures ∙ ap (λ z. part z c.in-Array.span) c.deref.ensures.value)
    (seen s t _ (subst (Is s t) c.in-Array.is h))

pub returns-in-Object-clause-rest : goal.returns-in-Object-clause-rest
returns-in-Object-clause-rest c = λ w t k h.
    let s = c.args.store.now in
    object_rest w s c.in-Object.span c.part-in-Object.result.now k t
    (c.part-in-Object.ensures ∙ ap (λ z. part z c.in-Object.span) c.deref-in-Object.ensures.value)
    (seen s t _ (subst (Is s t) c.in-Object.is h))
