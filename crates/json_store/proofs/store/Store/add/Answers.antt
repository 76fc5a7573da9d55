use Rattle.std.proofs.Common.{◌≡◌, ap, cond, ◌∙◌}
use Rattle.std.specs.HashMap.{get_by_text}
use Rattle.std.specs.Option.{unwrap_or}
use Rattle.tinyjson.specs.Equality.{tree_eq}
use Rattle.json_store.specs.Store.{key_of, count_of, next_count}
use Rattle.json_store.proofs.Counting.{bytes_key, counted}
use Rattle.json_store.proofs.store.Store.add.Goals as goal

pub returns-clause-ok : goal.returns-clause-ok
returns-clause-ok c = λ t h. λ i u j.
    let m = c.args.self.now.counts in
    let is = bytes_key c.in-Ok.key t (c.in-Ok.ensures t h) in
    let at : c.as_str.result.now ≡ key_of t = c.as_str.ensures.value ∙ is in
    let read : c.unwrap_or-count.result ≡ unwrap_or (get_by_text m c.as_str.result.now) 0 = cc in
    counted m c.insert.new.self c.in-Ok.key t u c.saturating_add.result i j is c.in-Ok-insert.ensures.updates
    ∙ ap (λ k. cond (tree_eq t u) k (count_of c.args.self.now u)) (c.saturating_add.ensures
    ∙ ap next_count (read ∙ ap (λ bs. unwrap_or (get_by_text m bs) 0) at))
