use Rattle.std.proofs.Common.{refl, sym, ap, ◌∙◌, arith}
use Rattle.tinyjson.specs.Index.{tree_at}
use Rattle.tinyjson.specs.View.{view}
use Rattle.example_settings.proofs.Lists.{has_item, past_the_end, is_found, keeps_others}
use Rattle.example_settings.proofs.servers.replace_server.Goals as goal

pub returns-then-index-len-clause-change : goal.returns-then-index-len-clause-change
returns-then-index-len-clause-change c =
    let past = c.if-index-len.true in
    let count = c.len.ensures in
    (past_the_end c.args.servers.now c.in-Some.items.now c.args.index (sym c.in-Some.ensures) (omega arith), refl, refl)

pub replace_item-requires : goal.replace_item-requires
replace_item-requires c =
    let below = c.if-index-len.false in
    let count = c.len.ensures in
    has_item c.args.servers.now c.in-Some.items.now c.args.index (sym c.in-Some.ensures) (omega arith)

pub returns-clause-change : goal.returns-clause-change
returns-clause-change c =
    let t = view c.args.servers.now in
    let found = is_found t (view c.args.server) (view c.replace_item.result) c.args.index c.replace_item.ensures.old.1 in
    (c.replace_item.ensures.old.1, ap (λ u. tree_at u c.args.index) c.replace_item.ensures.tree ∙ found, c.replace_item.ensures.tree)

pub returns-clause-others : goal.returns-clause-others
returns-clause-others c j apart =
    ap (λ u. tree_at u j) c.replace_item.ensures.tree ∙ keeps_others (view c.args.servers.now) (view c.args.server) c.args.index j apart
