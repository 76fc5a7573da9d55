use Rattle.std.proofs.Common.{subst}
use Rattle.tinyjson_cells.specs.Cell.{Is}
use Rattle.tinyjson_document.proofs.Writing.{root_is}
use Rattle.tinyjson_document.proofs.arena.Arena.write_to.Goals as goal

pub returns : goal.returns
returns g c = λ t h.
    let root = root_is c.args.self.now.values.items c.deref.result.now h.0 c.in-Some.root.now c.in-Some.ensures.value
    c.deref.ensures.value h.1 in
    c.write_to.ensures t (subst (Is c.args.self.now.store t) root h.2)
