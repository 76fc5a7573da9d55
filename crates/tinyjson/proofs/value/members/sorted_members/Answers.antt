use Rattle.std.proofs.Common.{◌++◌, map, ap, ◌∙◌, rules}
use Rattle.std.specs.Ordering.{is_lt}
use Rattle.std.proofs.lemmas.Cmp.{nat_list_cmp_total}
use Rattle.std.proofs.lemmas.List.Sorted.{answers_always}
use Rattle.std.proofs.lemmas.List.MinMax.{ranks_by}
use Rattle.tinyjson.specs.private.Sorted.{bytes_pair, listed_pair}
use Rattle.tinyjson.proofs.Writing.Sorted.{bytes_cmp}
use Rattle.tinyjson.proofs.Writing.Listed.{Lent, key_bytes, members_listed_sorted}
use Rattle.tinyjson.proofs.value.members.sorted_members.Goals as goal

pub returns : goal.returns
returns c =
    let es = c.args.members.now.entries in
    let less = λ (a b : Lent). is_lt (bytes_cmp (key_bytes a) (key_bytes b)) in
    let rising = c.sort_unstable_by.ensures.sorted less (ranks_by nat_list_cmp_total key_bytes)
    (answers_always _ _ _ (λ f a r q k. search rules)) in
    let same = c.in_ok-list_members.ensures.items ∙ ap (λ l. map listed_pair l ++ map bytes_pair es) c.new-sorted.ensures.items in
    members_listed_sorted es c.list_members.new.listed.items c.sort_unstable_by.new.self.items c.in_ok-list_members.ensures.unique same
    c.sort_unstable_by.ensures.permutation rising
