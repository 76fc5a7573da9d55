use Rattle.std.proofs.Common.{rules, of_calls}
use Rattle.std.proofs.lemmas.Fn.{always_returns_same}
use Rattle.std.proofs.lemmas.Cmp.{nat_list_cmp_total}
use Rattle.std.proofs.lemmas.List.MinMax.{ranks_by}
use Rattle.tinyjson_cells.specs.Order.{key_in, key_lt}
use Rattle.tinyjson_cells.proofs.sorting.sort.Goals as goal

pub returns-clause-sorted : goal.returns-clause-sorted
returns-clause-sorted c =
    let texts = c.args.texts.now in
    c.in_ok-sort_by.ensures.sorted (key_lt texts) (ranks_by nat_list_cmp_total (key_in texts)) (always_returns_same _ _ _
    (λ a r f k. search (rules, of_calls)))

pub returns-clause-stable : goal.returns-clause-stable
returns-clause-stable c =
    let texts = c.args.texts.now in
    c.sort_by.ensures.stable (key_lt texts) (ranks_by nat_list_cmp_total (key_in texts)) (always_returns_same _ _ _
    (λ a r f k. search (rules, of_calls)))
