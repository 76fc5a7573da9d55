use Rattle.std.proofs.Common.{◌∙◌, ◌++◌, ◌∷◌, [], ap, get_or, arith}
use Rattle.tinyjson_cells.specs.declared.store.Cell.TheVariants as node
use Rattle.tinyjson_cells.proofs.Order.{paired_more, paired_all}
use Rattle.tinyjson_cells.proofs.sorting.pair.Goals as goal

pub loop-i-preserved : goal.loop-i-preserved
loop-i-preserved c =
    let ks = c.args.keys.now in
    let vs = c.args.values.now in
    let i = c.loop-i.i in
    c.in_ok-push.ensures.items
    ∙ ap (λ x. x ++ record { key = get_or ks i (record { from = 0; to = 0 }); value = get_or vs i node.Null } ∷ []) c.loop-i.invariant
    ∙ paired_more ks vs i (record { from = 0; to = 0 }) node.Null (omega arith) (omega arith)

pub returns : goal.returns
returns c = c.loop-i.invariant ∙ paired_all c.args.keys.now c.args.values.now c.loop-i.i (omega arith)
