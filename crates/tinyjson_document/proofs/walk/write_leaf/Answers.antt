use Rattle.std.proofs.Common.{◌≡◌, false, subst}
use Rattle.tinyjson_cells.specs.Cell.{Is}
use Rattle.tinyjson_document.specs.Walking.{holds_others}
use Rattle.tinyjson_document.proofs.Writing.{seen}
use Rattle.tinyjson_document.proofs.Passing.{leaf_array, leaf_object}
use Rattle.tinyjson_document.proofs.walk.write_leaf.Goals as goal

pub returns-in-Array : goal.returns-in-Array
returns-in-Array g c = λ w k t e h.
    let s = c.args.store.now in
    leaf_array w s _ _ k t c.in-Array.field-0 c.write_bytes.result (subst (λ n. holds_others n ≡ false) c.in-Array.is e)
    (seen s t _ (subst (Is s t) c.in-Array.is h)) c.write_bytes.ensures

pub returns-in-Object : goal.returns-in-Object
returns-in-Object g c = λ w k t e h.
    let s = c.args.store.now in
    leaf_object w s _ _ k t c.in-Object.field-0 c.write_bytes-in-Object.result
    (subst (λ n. holds_others n ≡ false) c.in-Object.is e)
    (seen s t _ (subst (Is s t) c.in-Object.is h)) c.write_bytes-in-Object.ensures
