use Rattle.json_store.proofs.Printing.{count_told}
use Rattle.json_store.proofs.count.Counter.count.Goals as goal

pub returns : goal.returns
returns c = λ t h.
    count_told c.args.self.now.store c.add.new.self t c.format.result c.in_ok-count.count (c.in_ok-add.ensures.ok t h)
    (c.in_ok-count.ensures t h) c.format.ensures.ok
