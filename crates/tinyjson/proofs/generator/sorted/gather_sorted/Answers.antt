use Rattle.std.proofs.Common.{◌≡◌, ◌-◌, take, drop, length, rules, arith}
use Rattle.std.specs.Ordering.{is_lt}
use Rattle.std.specs.List.Sorted.{IsPermutation}
use Rattle.std.proofs.lemmas.Cmp.{nat_list_cmp_total}
use Rattle.std.proofs.lemmas.List.Sorted.{answers_always, IsPermutation-trans, length_permutation}
use Rattle.std.proofs.lemmas.List.MinMax.{ranks_by, IsStrictWeakOrder-flip}
use Rattle.tinyjson.proofs.Writing.Sorted.{regathered, regathered_IsPermutation, gathered_members, gathered_others, bytes_cmp, key}
use Rattle.tinyjson.proofs.generator.sorted.gather_sorted.Goals as goal

start : (c : goal.After-gathered-1) → c.len-start.result ≡ length c.args.gathered.now.items
start c = omega (arith, c.len-start.ensures, c.args.gathered.now.ok.0)

permuted_part : (c : goal.After-gathered-1) → IsPermutation (take (length c.deref_mut.result.now - c.len-start.result)
    (drop c.len-start.result c.deref_mut.result.now)) c.sort_unstable_by.new.self
permuted_part c = IsPermutation-trans _ _ _ c.presort.ensures c.sort_unstable_by.ensures.permutation

permuted : (c : goal.After-gathered-1) → IsPermutation (drop (length c.args.gathered.now.items) c.gather.new.gathered.items)
    c.sort_unstable_by.new.self
permuted c = regathered_IsPermutation c.len-start.result c.args.gathered.now.items c.gather.new.gathered.items c.deref_mut.result.now
    c.sort_unstable_by.new.self c.deref_mut.ensures.value (start c) (permuted_part c)

pub returns-clause-members : goal.returns-clause-members
returns-clause-members c =
    let old = c.args.gathered.now.items in
    let xs = c.gather.new.gathered.items in
    let ys = c.sort_unstable_by.new.self in
    let s = c.sort_unstable_by.ensures.sorted (λ a b. is_lt (bytes_cmp (key b) (key a)))
    (IsStrictWeakOrder-flip (λ a b. is_lt (bytes_cmp (key a) (key b))) (ranks_by nat_list_cmp_total key))
    (answers_always _ _ _ (λ f a r q k. search rules)) in
    rw (regathered c.gather.new.gathered.len c.len-start.result old xs c.deref_mut.result.now ys c.deref_mut.ensures.value
    (start c) c.gather.new.gathered.ok.0 c.in_ok-flat.ensures.before (length_permutation _ _ (permuted_part c)))
    (gathered_members c.args.members.now.entries old (drop (length old) xs) ys c.in_ok-flat.ensures.items
    (permuted c) c.in_ok-flat.ensures.unique s)

pub returns-clause-before : goal.returns-clause-before
returns-clause-before c =
    let old = c.args.gathered.now.items in
    let xs = c.gather.new.gathered.items in
    let ys = c.sort_unstable_by.new.self in
    rw (regathered c.gather.new.gathered.len c.len-start.result old xs c.deref_mut.result.now ys c.deref_mut.ensures.value
    (start c) c.gather.new.gathered.ok.0 c.in_ok-flat.ensures.before (length_permutation _ _ (permuted_part c)))
    (gathered_others c.args.members.now.entries old (drop (length old) xs) ys c.in_ok-flat.ensures.items (permuted c))
