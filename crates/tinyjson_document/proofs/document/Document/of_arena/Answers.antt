use Rattle.std.proofs.Common.{◌≡◌, ◌∙◌, slice_index_or, sym, ap, subst}
use Rattle.tinyjson_cells.specs.Cell.{Is}
use Rattle.tinyjson_document.specs.Known.{known_is}
use Rattle.tinyjson_document.proofs.document.Document.of_arena.Goals as goal

pub returns : goal.returns
returns c = λ t h.
    let a = c.args.arena in
    let root : h.0 ≡ c.index-root.result.now = sym (c.index-root.ensures ∙ ap (λ z. slice_index_or z 0 c.index-root.result.now) h.1) in
    known_is a.store c.index-root.result.now c.result-1.given.0 t (subst (Is a.store t) root h.2)
