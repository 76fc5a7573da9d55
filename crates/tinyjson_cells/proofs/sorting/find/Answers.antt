use Rattle.std.proofs.Common.{sym, rules, of_calls}
use Rattle.std.proofs.lemmas.Fn.{always_returns_same}
use Rattle.std.specs.Cmp.Lexicographic.{slice_cmp}
use Rattle.std.specs.Ordering.{nat_cmp}
use Rattle.tinyjson_cells.specs.Order.{key_in}
use Rattle.tinyjson_cells.proofs.Finding.{found_at, not_found, rises_beside}
use Rattle.tinyjson_cells.proofs.sorting.find.Goals as goal

pub returns-in-Ok : goal.returns-in-Ok
returns-in-Ok c = λ h.
    let xs = c.args.texts.now in
    let k = c.args.key.now in
    let equal = c.in-Ok.ensures.position (λ m. slice_cmp nat_cmp (key_in xs m) k) (always_returns_same _ _ _
    (λ a r f g. search (rules, of_calls))) in
    sym (found_at xs k c.args.members.now h c.in-Ok.index _ c.in-Ok.ensures.bound (equal _))

pub returns-in-Err : goal.returns-in-Err
returns-in-Err c = λ h.
    let xs = c.args.texts.now in
    let k = c.args.key.now in
    let placed = c.in-Err.ensures.position (λ m. slice_cmp nat_cmp (key_in xs m) k) (always_returns_same _ _ _
    (λ a r f g. search (rules, of_calls))) in
    sym (not_found xs k c.args.members.now _ (placed (rises_beside xs k c.args.members.now h)))
